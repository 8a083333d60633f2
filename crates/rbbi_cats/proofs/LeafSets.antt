-- The sets of the leaves of rules are those that the leaves' numbers name.
use Rattle.std.proofs.Common.{◌≡◌, ℕ, zero, suc, ◌<◌, ◌↔◌, Option, None, Some, List, [], ◌∷◌, ◌++◌, length, get_or, refl, ap, sym, ◌∙◌, subst, arith}
use Rattle.std.specs.Prelude.{map, flat_map, Contains}
use Rattle.std.specs.List.{AllByRecursion, Any}
use Rattle.std.specs.Option.{option_map, option_map_or}
use Rattle.std.proofs.lemmas.List.{append-nil, map-append}
use Rattle.rbbi_model.specs.Ranges.{Range, Has}
use Rattle.rbbi_model.specs.Spelling as spelling
use Rattle.rbbi_model.specs.LeafSets.{sets_of, sets_of_rule, all_sets}
use Rattle.rbbi_model.specs.Compiled.{IsRead, AreAlike}
use Rattle.rbbi_tree.specs.declared.syntax.Quant.{Quant}
use Rattle.rbbi_tree.specs.declared.syntax.Quant.TheVariants.{Once, Star, Plus, Quest}
use Rattle.rbbi_resolve.specs.declared.rules.Rule.{Rule}
use Rattle.rbbi_resolve.specs.declared.rules.Tree.{Tree}
use Rattle.rbbi_resolve.specs.declared.rules.Trees.{Trees}
use Rattle.rbbi_resolve.specs.declared.rules.Tree.TheOpen.{Tree-F, Trees-F}
use Rattle.rbbi_resolve.specs.declared.rules.Tree.TheFolds.{map-Tree, map-Trees}
use Rattle.rbbi_resolve.specs.declared.rules.Tree.TheViews.{roll-Tree, roll-Trees}
use Rattle.rbbi_resolve.specs.declared.rules.Tree.TheFolds.{ind-Tree, fold-roll-Tree, fold-roll-Trees}
use Rattle.rbbi_resolve.specs.RuleTrees.{set_at, repeated, tree_step, trees_step, tree_of, trees_of, numbers_step, numbers_of_parts_step, numbers_of}
use Rattle.rbbi_resolve.specs.RuleTrees.{numbers_of_parts}
use Rattle.rbbi_resolve.specs.RuleLists.{RuleList, rule_of, rules_of, numbers_of_rule, leaf_numbers, AreWellFormed}
use Rattle.rbbi_sets.specs.Partitions.{AreTogether}
use Rattle.rbbi_cats.specs.inner.Categories.{IsHeld}

sets-sequence : (parts : List spelling.Tree) → sets_of (spelling.sequence_of parts) ≡ flat_map sets_of parts
sets-sequence [] = refl
sets-sequence (part ∷ []) = sym (append-nil (sets_of part))
sets-sequence (part ∷ next ∷ parts) = ap (λ (l : List (List Range)). sets_of part ++ l) (sets-sequence (next ∷ parts))

sets-choice : (parts : List spelling.Tree) → sets_of (spelling.choice_of parts) ≡ flat_map sets_of parts
sets-choice [] = refl
sets-choice (part ∷ []) = sym (append-nil (sets_of part))
sets-choice (part ∷ next ∷ parts) = ap (λ (l : List (List Range)). sets_of part ++ l) (sets-choice (next ∷ parts))

sets-repeated : (quant : Quant) (tree : spelling.Tree) → sets_of (repeated quant tree) ≡ sets_of tree
sets-repeated Once tree = refl
sets-repeated Star tree = refl
sets-repeated Plus tree = refl
sets-repeated Quest tree = refl

module _ (sets : List (List Range)) where
  Named : Tree → Type 0
  Named tree = sets_of (tree_of sets tree) ≡ map (set_at sets) (numbers_of tree)

  AreNamed : Trees → Type 0
  AreNamed parts = flat_map sets_of (trees_of sets parts) ≡ map (set_at sets) (numbers_of_parts parts)

  named_step : (x : Tree-F Tree Trees) → sets_of (tree_step sets (map-Tree Tree Trees spelling.Tree (List spelling.Tree) (tree_of sets) (trees_of sets) x))
      ≡ map (set_at sets) (numbers_step (map-Tree Tree Trees (List ℕ) (List ℕ) numbers_of numbers_of_parts x)) → Named (roll-Tree x)
  unfolding Named
  named_step x h =
      ap sets_of (fold-roll-Tree spelling.Tree (List spelling.Tree) (tree_step sets) trees_step x) ∙ h ∙
      ap (map (set_at sets)) (sym (fold-roll-Tree (List ℕ) (List ℕ) numbers_step numbers_of_parts_step x))

  named_tree : (y : Tree-F ((t : Tree) × Named t) ((ts : Trees) × AreNamed ts)) →
      Named (roll-Tree (map-Tree ((t : Tree) × Named t) ((ts : Trees) × AreNamed ts) Tree Trees (λ e. e.0) (λ e. e.0) y))
  unfolding Named AreNamed
  named_tree (Tree-F.Leaf n) = named_step (Tree-F.Leaf n) refl
  named_tree (Tree-F.Seq parts) = named_step (Tree-F.Seq parts.0) (sets-sequence (trees_of sets parts.0) ∙ parts.1)
  named_tree (Tree-F.Alt parts) = named_step (Tree-F.Alt parts.0) (sets-choice (trees_of sets parts.0) ∙ parts.1)
  named_tree (Tree-F.Rep quant part) =
      named_step (Tree-F.Rep quant (record { ptr = part.ptr; alloc = part.alloc; value = part.value.0 }))
      (sets-repeated quant (tree_of sets part.value.0) ∙ part.value.1)

  named_parts : (es : List ((t : Tree) × Named t)) → flat_map sets_of (map (tree_of sets) (map (λ e. e.0) es)) ≡ map (set_at sets)
      (flat_map (λ numbers. numbers) (map numbers_of (map (λ e. e.0) es)))
  unfolding Named
  named_parts [] = refl
  named_parts (e ∷ es) =
      ap (λ (l : List (List Range)). l ++ flat_map sets_of (map (tree_of sets) (map (λ e. e.0) es))) e.1 ∙
      ap (λ (l : List (List Range)). map (set_at sets) (numbers_of e.0) ++ l) (named_parts es)
      ∙ sym (map-append (set_at sets) (numbers_of e.0) (flat_map (λ numbers. numbers) (map numbers_of (map (λ e. e.0) es))))

  named_trees : (y : Trees-F ((t : Tree) × Named t) ((ts : Trees) × AreNamed ts)) →
      AreNamed (roll-Trees (map-Trees ((t : Tree) × Named t) ((ts : Trees) × AreNamed ts) Tree Trees (λ e. e.0) (λ e. e.0) y))
  unfolding Named AreNamed
  named_trees y =
      let x : Trees-F Tree Trees = map-Trees ((t : Tree) × Named t) ((ts : Trees) × AreNamed ts) Tree Trees (λ e. e.0) (λ e. e.0) y in
      ap (flat_map sets_of) (fold-roll-Trees spelling.Tree (List spelling.Tree) (tree_step sets) trees_step x) ∙ named_parts y.items.items
      ∙ ap (map (set_at sets)) (sym (fold-roll-Trees (List ℕ) (List ℕ) numbers_step numbers_of_parts_step x))

  named : (tree : Tree) → Named tree
  named = ind-Tree Named AreNamed (λ x y is. subst (λ z. Named (roll-Tree z)) is (named_tree y))
      (λ x y is. subst (λ z. AreNamed (roll-Trees z)) is (named_trees y))

  named_option : (rest : Option Tree) → option_map_or sets_of (option_map (tree_of sets) rest) [] ≡ map (set_at sets) (option_map_or numbers_of rest [])
  unfolding Named
  named_option None = refl
  named_option (Some tree) = named tree

  named_rule : (rule : Rule) → sets_of_rule (rule_of sets rule) ≡ map (set_at sets) (numbers_of_rule rule)
  unfolding Named
  named_rule rule =
      ap (λ (l : List (List Range)). l ++ option_map_or sets_of (option_map (tree_of sets) rule.rest) []) (named rule.front) ∙
      ap (λ (l : List (List Range)). map (set_at sets) (numbers_of rule.front) ++ l) (named_option rule.rest)
      ∙ sym (map-append (set_at sets) (numbers_of rule.front) (option_map_or numbers_of rule.rest []))

  named_rules : (rules : List Rule) → flat_map sets_of_rule (map (rule_of sets) rules) ≡ map (set_at sets) (flat_map numbers_of_rule rules)
  named_rules [] = refl
  named_rules (rule ∷ rules) =
      ap (λ (l : List (List Range)). l ++ flat_map sets_of_rule (map (rule_of sets) rules)) (named_rule rule) ∙
      ap (λ (l : List (List Range)). map (set_at sets) (numbers_of_rule rule) ++ l) (named_rules rules)
      ∙ sym (map-append (set_at sets) (numbers_of_rule rule) (flat_map numbers_of_rule rules))

pub all_sets_are : (list : RuleList) → all_sets (rules_of list) ≡ map (set_at list.sets) (leaf_numbers list)
all_sets_are list = named_rules list.sets list.rules

-- the set with a number is one of the list, and each one of the list has a number
contains_at : (sets : List (List Range)) (n : ℕ) → n < length sets → Contains sets (set_at sets n)
contains_at [] n below = absurd (omega (arith, below))
contains_at (set ∷ sets) zero below = (0, omega arith, refl)
contains_at (set ∷ sets) (suc n) below = (let (k, inside, e) = contains_at sets n (omega (arith, below)) in (suc k, omega (arith, inside), e))

at_number : (sets : List (List Range)) (set : List Range) (n : ℕ) → n < length sets → get_or sets n set ≡ set → set_at sets n ≡ set
at_number [] set n below e = absurd (omega (arith, below))
at_number (first ∷ sets) set zero below e = e
at_number (first ∷ sets) set (suc n) below e = at_number sets set n (omega (arith, below)) e

-- a fact of each numbered set
all_named : (P : List Range → Type 0) (f : ℕ → List Range) (ns : List ℕ) → ((n : ℕ) → Contains ns n → P (f n)) → AllByRecursion P (map f ns)
all_named P f [] h = tt
all_named P f (n ∷ ns) h = (h n (0, omega arith, refl), all_named P f ns (λ m c. h m (suc c.0, omega (arith, c.1), c.2)))

named_each : (P : List Range → Type 0) (f : ℕ → List Range) (ns : List ℕ) (n k : ℕ) → k < length ns → get_or ns k n ≡ n → AllByRecursion P (map f ns) → P (f n)
named_each P f [] n k below e h = absurd (omega (arith, below))
named_each P f (m ∷ ns) n zero below e h = subst (λ (x : ℕ). P (f x)) e h.0
named_each P f (m ∷ ns) n (suc k) below e h = named_each P f ns n k (omega (arith, below)) e h.1

-- a fact of some numbered set
any_named : (P : List Range → Type 0) (f : ℕ → List Range) (ns : List ℕ) (n k : ℕ) → k < length ns → get_or ns k n ≡ n → P (f n) → Any P (map f ns)
any_named P f [] n k below e h = absurd (omega (arith, below))
any_named P f (m ∷ ns) n zero below e h = (0, f m, omega arith, refl, subst (λ (x : ℕ). P (f x)) (sym e) h)
any_named P f (m ∷ ns) n (suc k) below e h = (let (j, x, inside, is, p) = any_named P f ns n k (omega (arith, below)) e h in
    (suc j, x, omega (arith, inside), is, p))

named_any : (P : List Range → Type 0) (f : ℕ → List Range) (ns : List ℕ) (k : ℕ) (x : List Range) → k < length (map f ns) → get_or (map f ns) k x ≡ x → P x →
    (n : ℕ) × Contains ns n × P (f n)
named_any P f [] k x below e h = absurd (omega (arith, below))
named_any P f (m ∷ ns) zero x below e h = (m, (0, omega arith, refl), subst P (sym e) h)
named_any P f (m ∷ ns) (suc k) x below e h = (let (n, c, p) = named_any P f ns k x (omega (arith, below)) e h in (n, (suc c.0, omega (arith, c.1), c.2), p))

number_within : (list : RuleList) (ns : List ℕ) (n : ℕ) → AllByRecursion (λ number. number < length list.sets) ns → Contains ns n → n < length list.sets
number_within list [] n h (k, below, e) = absurd (omega (arith, below))
number_within list (m ∷ ns) n h (zero, below, e) = omega (arith, h.0, e)
number_within list (m ∷ ns) n h (suc k, below, e) = number_within list ns n h.1 (k, omega (arith, below), e)

pub read_is : (list : RuleList) (c : ℕ) → AreWellFormed list → IsRead (rules_of list) c ↔ IsHeld list.sets c
read_is list c w = (
  λ h.
      let (k, x, below, e, has) = subst (Any (λ set. Has set c)) (all_sets_are list) h in
      let (n, contained, p) = named_any (λ set. Has set c) (set_at list.sets) (leaf_numbers list) k x below e has in
      let (m, inside, is) = contains_at list.sets n (number_within list (leaf_numbers list) n w.numbered contained) in
      (m, set_at list.sets n, inside, is, p),
  λ (n, set, below, is, has).
      let (k, inside, e) = w.used n below in
      let own = subst (λ (x : List Range). Has x c) (sym (at_number list.sets set n below is)) has in
      subst (Any (λ set. Has set c)) (sym (all_sets_are list)) (any_named (λ set. Has set c) (set_at list.sets) (leaf_numbers list) n k inside e own),
)

pub alike_is : (list : RuleList) (c d : ℕ) → AreWellFormed list → AreAlike (rules_of list) c d ↔ AreTogether list.sets c d
alike_is list c d w = (
  λ h set (n, below, is).
      let (k, inside, e) = w.used n below in
      let named' = subst (AllByRecursion (λ set. Has set c ↔ Has set d)) (all_sets_are list) h in
      subst (λ (x : List Range). Has x c ↔ Has x d) (at_number list.sets set n below is)
      (named_each (λ set. Has set c ↔ Has set d) (set_at list.sets) (leaf_numbers list) n k inside e named'),
  λ h.
      subst (AllByRecursion (λ set. Has set c ↔ Has set d)) (sym (all_sets_are list))
      (all_named (λ set. Has set c ↔ Has set d) (set_at list.sets) (leaf_numbers list)
      (λ n contained. h (set_at list.sets n) (contains_at list.sets n (number_within list (leaf_numbers list) n w.numbered contained)))),
)
