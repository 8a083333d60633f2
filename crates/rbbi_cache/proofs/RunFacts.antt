-- What the searches up to an entry of a true run have done.
use Rattle.std.proofs.Common.{◌≡◌, ℕ, ◌+◌, ◌<◌, ◌≤◌, ◌⊎◌, max, List, [], ◌∷◌, ◌++◌, length, map, sym, refl, ap, ◌∙◌, subst, inl, inr, ⊎_elim, append_assoc}
use Rattle.std.proofs.Common.{arith}
use Rattle.std.specs.List.{AllByRecursion}
use Rattle.std.proofs.lemmas.List.{map-append}
use Rattle.rbbi_model.specs.Lists.{IsRising}
use Rattle.rbbi_model.specs.Places.{largest}
use Rattle.rbbi_model.specs.Boundaries.{Boundary}
use Rattle.rbbi_model.specs.Tables.{Table}
use Rattle.rbbi_model.specs.ValidTables.{IsValidTable}
use Rattle.rbbi_model.specs.Searches.{look_end, next_boundary, fresh}
use Rattle.rbbi_model.specs.Runs.{Entry, Run, boundary_of, farthest_look, ReachesRise, IsTrueRun, EndsUpTo}
use Rattle.rbbi_model.proofs.Found.{found_lies}
use Rattle.rbbi_model.proofs.FoundCases.{found_up_to}
use Rattle.rbbi_model.proofs.Lists.{all_right, all_through}
use Rattle.rbbi_cache.proofs.Lists.{all_unmap}
use Rattle.rbbi_cache.specs.inner.Scans.{Reached}
use Rattle.rbbi_cache.proofs.Reached.{first_member, farthest_is}
use Rattle.rbbi_cache.proofs.Paths.{Path, Here, Then, path_to, reached_of}
use Rattle.rbbi_cache.proofs.Texts.{end_by_look}

-- entries that rise, from one of them on
pub rises_past : (e : Entry) (entries : List Entry) → IsRising (map (λ f. f.at) (e ∷ entries)) → AllByRecursion (λ f. e.at < f.at) entries
rises_past e [] rising = tt
rises_past e (f ∷ entries) rising =
    (rising.0, all_through (λ g. f.at < g.at) (λ g. e.at < g.at) (λ g less. omega (arith, less, rising.0)) entries (rises_past f entries rising.1))

pub reaches_right : (left rest : List Entry) → ReachesRise (left ++ rest) → ReachesRise rest
reaches_right [] rest rise = rise
reaches_right (e ∷ []) [] rise = tt
reaches_right (e ∷ []) (f ∷ rest) rise = rise.1
reaches_right (e ∷ f ∷ left) rest rise = reaches_right (f ∷ left) rest rise.1

-- the last of the entries isn't past i
pub ends_up_to : (e : Entry) (entries : List Entry) (i : ℕ) → AllByRecursion (λ f. f.at ≤ i) (e ∷ entries) → EndsUpTo (e ∷ entries) i
ends_up_to e [] i each = each.0
ends_up_to e (f ∷ entries) i each = ends_up_to f entries i each.1

-- what holds of each element with what stands round it holds of all
pub all_by_splits : {X : Type 0} (P : X → Type 0) (xs : List X) → ((before : List X) (x : X) (after : List X) → xs ≡ before ++ x ∷ after → P x) →
    AllByRecursion P xs
all_by_splits P [] each = tt
all_by_splits P (x ∷ xs) each = (each [] x xs refl, all_by_splits P xs (λ before y after whole. each (x ∷ before) y after (ap (λ l. x ∷ l) whole)))

pub largest_bounds : (ns : List ℕ) → AllByRecursion (λ n. n ≤ largest ns) ns
largest_bounds [] = tt
largest_bounds (n ∷ ns) = (omega arith, all_through (λ m. m ≤ largest ns) (λ m. m ≤ max n (largest ns)) (λ m less. omega arith) ns (largest_bounds ns))

-- each member that is done starts a search within the text
pub path_short : (table : Table) (x : List ℕ) (b : Boundary) (done : List Boundary) (c : Boundary) → Path table x b done c →
    AllByRecursion (λ m. m.at < length x) done
path_short table x _ _ _ (Here b) = tt
path_short table x _ _ _ (Then b done c short path) = (short, path_short table x (next_boundary table x b.at) done c path)

-- a member that isn't the first lies no farther than the searches up to it look
pub at_by_look : (table : Table) (x : List ℕ) → IsValidTable table → (b : Boundary) (done : List Boundary) (c : Boundary) → Path table x b done c →
    (c ≡ b) ⊎ (c.at ≤ largest (map (λ m. look_end table x m.at) done))
at_by_look table x valid _ _ _ (Here b) = inl refl
at_by_look table x valid _ _ _ (Then b done c short path) =
    inr (⊎_elim
    (λ is. omega (arith, ap (λ d. d.at) is, found_up_to table valid x b.at short, end_by_look table x b.at short))
    (λ by. omega (arith, by))
    (at_by_look table x valid (next_boundary table x b.at) done c path))

-- a member lies within the text
pub path_within : (table : Table) (x : List ℕ) (b : Boundary) (done : List Boundary) (c : Boundary) → Path table x b done c → b.at ≤ length x → c.at ≤ length x
path_within table x _ _ _ (Here b) within = within
path_within table x _ _ _ (Then b done c short path) within = path_within table x (next_boundary table x b.at) done c path (found_lies table x b.at short).1

module _ (table : Table) (valid : IsValidTable table) (x : List ℕ) (run : Run) (is_true : IsTrueRun table x run) (front : List Entry) (entry : Entry)
    (rest : List Entry) (whole : run.entries ≡ front ++ entry ∷ rest) where
  -- what was done before the entry
  abbrev pub done_before : List Boundary
  done_before = is_true.consecutive.before ++ map (boundary_of table) front

  abbrev pub behind : List Boundary
  behind = map (boundary_of table) rest ++ is_true.consecutive.after

  pub fresh_is : fresh table x run.anchor ≡ (is_true.consecutive.before ++ map (boundary_of table) front) ++ boundary_of table entry ∷
      (map (boundary_of table) rest ++ is_true.consecutive.after)
  fresh_is =
      let before : List Boundary = is_true.consecutive.before in
      let after : List Boundary = is_true.consecutive.after in
      let b : Entry → Boundary = boundary_of table in
      is_true.consecutive.whole
      ∙ ap (λ entries. (before ++ map b entries) ++ after) whole
      ∙ ap (λ bs. (before ++ bs) ++ after) (map-append b front (entry ∷ rest))
      ∙ ap (λ bs. bs ++ after) (sym (append_assoc before (map b front) (b entry ∷ map b rest)))
      ∙ append_assoc (before ++ map b front) (b entry ∷ map b rest) after

  pub path_is : Path table x (first_member run.anchor) (is_true.consecutive.before ++ map (boundary_of table) front) (boundary_of table entry)
  path_is = path_to table x run.anchor (is_true.consecutive.before ++ map (boundary_of table) front) (boundary_of table entry)
      (map (boundary_of table) rest ++ is_true.consecutive.after) fresh_is

  pub reached_is : Reached table x run.anchor (is_true.consecutive.before ++ map (boundary_of table) front) (boundary_of table entry)
  reached_is = reached_of table x run.anchor (is_true.consecutive.before ++ map (boundary_of table) front) (boundary_of table entry)
      (map (boundary_of table) rest ++ is_true.consecutive.after) fresh_is

  this : (P : Entry → Type 0) → AllByRecursion P run.entries → P entry
  this P each = (all_right P front (entry ∷ rest) (subst (λ entries. AllByRecursion P entries) whole each)).0

  pub enough : farthest_look table x run.anchor entry.at ≤ entry.reach
  enough = this (λ e. farthest_look table x run.anchor e.at ≤ e.reach) is_true.reach_enough

  pub within : entry.reach ≤ length x + 1
  within = this (λ e. e.reach ≤ length x + 1) is_true.reach_within

  pub place : (run.anchor ≡ 0) ⊎ (run.anchor + 2 ≤ entry.at)
  place = this (λ e. (run.anchor ≡ 0) ⊎ (run.anchor + 2 ≤ e.at)) is_true.places

  -- the searches before it look no farther than it reaches
  pub looks : AllByRecursion (λ m. look_end table x m.at ≤ entry.reach) (is_true.consecutive.before ++ map (boundary_of table) front)
  looks =
      let done : List Boundary = is_true.consecutive.before ++ map (boundary_of table) front in
      let look : Boundary → ℕ = λ m. look_end table x m.at in
      let most : largest (map look done) ≤ entry.reach = omega (arith, enough, farthest_is table x run.anchor done (boundary_of table entry) reached_is) in
      all_through (λ m. look m ≤ largest (map look done)) (λ m. look m ≤ entry.reach) (λ m less. omega arith) done
      (all_unmap look (λ n. n ≤ largest (map look done)) done (largest_bounds (map look done)))

  -- an entry lies no farther than it reaches
  pub at_by_reach : entry.at ≤ entry.reach
  at_by_reach =
      let done : List Boundary = is_true.consecutive.before ++ map (boundary_of table) front in
      ⊎_elim
      (λ is. ⊎_elim (λ zero. omega (arith, ap (λ b. b.at) is)) (λ past. absurd (omega (arith, ap (λ b. b.at) is))) place)
      (λ by. omega (arith, by, enough, farthest_is table x run.anchor done (boundary_of table entry) reached_is))
      (at_by_look table x valid (first_member run.anchor) done (boundary_of table entry) path_is)
