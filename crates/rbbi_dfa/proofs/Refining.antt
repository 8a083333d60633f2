-- What stays true while classes are split.
use Rattle.std.proofs.Common.{◌≡◌, ◌≢◌, ℕ, ◌≤◌, ◌<◌, Bool, false, List, length, map, take, nat_eq, slice_index, slice_index_or, ap, sym, ◌∙◌}
use Rattle.std.proofs.lemmas.List.{get_or-map, length-map, take_all}
use Rattle.std.proofs.lemmas.Bool.Decides.{Decides-eqb}
use Rattle.rbbi_model.specs.Tables.{Table, step}
use Rattle.rbbi_dfa.specs.inner.Partitions.{IsPartition, AreSides, leads_inside}

-- a partition of not too many classes
pub record IsRefined (automaton : Table) (classes firsts : List ℕ) : Type 0 where
  pub partition : IsPartition automaton classes firsts
  pub room : length firsts ≤ 4096

-- a partition of not too many classes, and a side of each row
pub record IsRefinedBeside (automaton : Table) (classes firsts : List ℕ) (inside : List Bool) : Type 0 where
  pub partition : IsPartition automaton classes firsts
  pub room : length firsts ≤ 4096
  pub sides : AreSides classes inside
  pub length_is : length inside ≡ length automaton.rows

pub AreSides-map : (classes : List ℕ) (class : ℕ) (inside : List Bool) (count : ℕ) → inside ≡ map (λ of. nat_eq of class) (take count classes) →
    length classes ≤ count → AreSides classes inside
AreSides-map classes class inside count e whole this that h k same =
    let is : inside ≡ map (λ of. nat_eq of class) classes = e ∙ ap (λ xs. map (λ of. nat_eq of class) xs) (take_all count classes whole) in
    rw (is, get_or-map (λ of. nat_eq of class) classes this 0 false h, get_or-map (λ of. nat_eq of class) classes that 0 false k)
    (ap (λ of. nat_eq of class) same)

pub length-sides : (classes : List ℕ) (class : ℕ) (inside : List Bool) (count : ℕ) → inside ≡ map (λ of. nat_eq of class) (take count classes) →
    length classes ≤ count → length inside ≡ length classes
length-sides classes class inside count e whole =
    ap (λ xs. length xs) e ∙ length-map (take count classes) (λ of. nat_eq of class) ∙ ap (λ xs. length xs) (take_all count classes whole)

-- rows that lead to different classes, of which one is the target, lead to different sides
pub sides_differ : (automaton : Table) (classes : List ℕ) (inside : List Bool) (target row first category : ℕ) →
    inside ≡ map (λ of. nat_eq of target) classes → target ≡ slice_index classes (step automaton row category) →
    step automaton row category < length classes → step automaton first category < length classes →
    slice_index classes (step automaton row category) ≢ slice_index classes (step automaton first category) →
    leads_inside automaton inside category row ≢ leads_inside automaton inside category first
sides_differ automaton classes inside target row first category is is_target h k differ e =
    let here : slice_index_or inside (step automaton row category) false ≡ nat_eq (slice_index classes (step automaton row category)) target =
    ap (λ (xs : List Bool). slice_index_or xs (step automaton row category) false) is
    ∙ get_or-map (λ of. nat_eq of target) classes (step automaton row category) 0 false h in
    let there : slice_index_or inside (step automaton first category) false ≡ nat_eq (slice_index classes (step automaton first category)) target =
    ap (λ (xs : List Bool). slice_index_or xs (step automaton first category) false) is
    ∙ get_or-map (λ of. nat_eq of target) classes (step automaton first category) 0 false k in
    let yes = (Decides-eqb (slice_index classes (step automaton row category)) target).1 (sym is_target) in
    differ (sym is_target ∙ sym ((Decides-eqb (slice_index classes (step automaton first category)) target).0 (sym there ∙ sym e ∙ here ∙ yes)))
