-- The categories that positions read.
use Rattle.std.proofs.Common.{◌≡◌, ℕ, zero, suc, ◌*◌, ◌<◌, ◌≤◌, ◌↔◌, Some, List, [], ◌∷◌, length, get_or, refl, ap, sym, ◌∙◌, subst, ⊎_elim, arith}
use Rattle.std.proofs.Common.{length-append}
use Rattle.std.specs.Prelude.{map, flat_map, sum_by, slice_get, IsTrue}
use Rattle.std.proofs.lemmas.Bool.{cases_eq}
use Rattle.std.proofs.lemmas.List.{length-map}
use Rattle.std.proofs.lemmas.List.Sums.{sum_by-cons}
use Rattle.std.proofs.lemmas.Option.{slice_get_within}
use Rattle.rbbi_model.specs.Ranges.{Range, Has}
use Rattle.rbbi_model.specs.Rules.{leaves_of}
use Rattle.rbbi_model.specs.LeafSets.{all_sets, Reads}
use Rattle.rbbi_model.specs.Tables.{CategoryRange}
use Rattle.rbbi_model.specs.Compiled.{AreClasses, IsRead, AreAlike}
use Rattle.rbbi_resolve.specs.declared.rules.Rule.{Rule}
use Rattle.rbbi_resolve.specs.RuleTrees.{set_at}
use Rattle.rbbi_resolve.specs.RuleLists.{RuleList, rule_of, rules_of, numbers_of_rule, leaf_numbers}
use Rattle.rbbi_cats.proofs.LeafSets.{all_sets_are}
use Rattle.rbbi_positions.specs.PositionMarks.{ReadsCategory}
use Rattle.rbbi_positions.specs.inner.Rows.{in_row}
use Rattle.rbbi_positions.specs.inner.RuleTests.{AreCodesOf}
use Rattle.rbbi_positions.specs.inner.Readers.{AreReaders}
use Rattle.rbbi_positions.proofs.Codes.{all_get}
use Rattle.rbbi_positions.proofs.RuleFacts.{leaves_are_numbers}

-- the rules have as many leaves as numbers
pub leaves_total : (list : RuleList) → length (leaf_numbers list) ≡ sum_by leaves_of (rules_of list)
leaves_total list = go list.rules
  where
    go : (rules : List Rule) → length (flat_map numbers_of_rule rules) ≡ sum_by leaves_of (map (rule_of list.sets) rules)
    go [] = refl
    go (rule ∷ rules) = omega (
      arith,
      go rules,
      length-append (numbers_of_rule rule) (flat_map numbers_of_rule rules),
      leaves_are_numbers list.sets rule,
      sum_by-cons leaves_of (rule_of list.sets rule) (map (rule_of list.sets) rules),
    )

map_at : {X : Type 0} (f : ℕ → X) (numbers : List ℕ) (i : ℕ) → i < length numbers → slice_get (map f numbers) i ≡ Some (f (get_or numbers i 0))
map_at f [] i below = absurd (omega (arith, below))
map_at f (n ∷ numbers) zero below = refl
map_at f (n ∷ numbers) (suc i) below = map_at f numbers i (omega (arith, below))

slice_at : {X : Type 0} (xs : List X) (i : ℕ) (x : X) → slice_get xs i ≡ Some x → get_or xs i x ≡ x
slice_at [] i x is = absurd (cc)
slice_at (y ∷ xs) zero x is = cc
slice_at (y ∷ xs) (suc i) x is = slice_at xs i x is

module _ (list : RuleList) (categories : ℕ) (ranges : List CategoryRange) (numbers codes : List ℕ) (words : ℕ) (rows : List ℕ)
    (numbers_are : numbers ≡ leaf_numbers list)
    (readers : AreReaders list.sets numbers codes words rows) (codes_are : AreCodesOf categories ranges codes)
    (classes : AreClasses (rules_of list) categories ranges) (wide : sum_by leaves_of (rules_of list) ≤ 64 * words) where
  -- what is read lies among the numbers, and in a row
  within : (position : ℕ) (set : List Range) → slice_get (all_sets (rules_of list)) position ≡ Some set → position < length numbers
  within position set is =
      omega (
        arith,
        slice_get_within (all_sets (rules_of list)) position set is,
        ap length (all_sets_are list),
        length-map (leaf_numbers list)
            (set_at list.sets),
        ap length numbers_are,
      )

  pub reads_within : (position category : ℕ) → ReadsCategory (rules_of list) ranges position category → position < 64 * words
  reads_within position category h = omega (arith, within position h.reads.0 h.reads.1, wide, ap length numbers_are, leaves_total list)

  -- the set of the position
  set_is : (position : ℕ) → position < length numbers → slice_get (all_sets (rules_of list)) position ≡ Some (set_at list.sets (get_or numbers position 0))
  set_is position below =
      ap (λ sets. slice_get sets position) (all_sets_are list) ∙ ap (λ ns. slice_get (map (set_at list.sets) ns) position) (sym numbers_are)
      ∙ map_at (set_at list.sets) numbers position below

  is_read : (position c : ℕ) → Reads (rules_of list) position c → IsRead (rules_of list) c
  is_read position c (set, is, has) =
      (position, set, slice_get_within (all_sets (rules_of list)) position set is, slice_at (all_sets (rules_of list)) position set is, has)

  pub reads_are : (position category : ℕ) → position < 64 * words → category < categories →
      IsTrue (in_row words rows category position) ↔ ReadsCategory (rules_of list) ranges position category
  reads_are position category below few = (there, back)
    where
      marked : IsTrue (in_row words rows category position) ↔ ((1 ≤ category) × (position < length numbers) × Has (set_at list.sets (get_or numbers position 0))
          (get_or codes category 0))
      marked = readers.each category position (omega (arith, few, codes_are.many)) below

      there : IsTrue (in_row words rows category position) → ReadsCategory (rules_of list) ranges position category
      there e =
          let h = marked.0 e in
          record {
            c = get_or codes category 0;
            code = codes_are.code category h.0 few;
            of = codes_are.each category h.0 few;
            reads = (set_at list.sets (get_or numbers position 0), set_is position h.1, h.2);
          }

      back : ReadsCategory (rules_of list) ranges position category → IsTrue (in_row words rows category position)
      back h =
          let (set, is, has) = h.reads in
          let some : 1 ≤ category = ⊎_elim (λ none. absurd ((classes.none h.c h.code).0 (h.of ∙ none) (is_read position h.c h.reads)))
          (λ other. omega (arith, other)) (cases_eq category 0) in
          let alike : AreAlike (rules_of list) h.c (get_or codes category 0) =
          (classes.alike h.c (get_or codes category 0) h.code (codes_are.code category some few)).0 (h.of ∙ sym (codes_are.each category some few)) in
          let has' : Has set (get_or codes category 0) =
          (all_get (λ s. Has s h.c ↔ Has s (get_or codes category 0)) (all_sets (rules_of list)) position set is alike).0 has in
          let short = within position set is in
          let listed = set_is position short in
          let same : set ≡ set_at list.sets (get_or numbers position 0) = cc in
          marked.1 (some, short, subst (λ s. Has s (get_or codes category 0)) same has')
