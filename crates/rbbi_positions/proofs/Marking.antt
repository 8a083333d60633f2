-- What is computed of rules is what the lists that they spell say.
use Rattle.std.proofs.Common.{◌≡◌, ℕ, zero, suc, ◌+◌, Bool, true, false, ◌&&◌, ◌||◌, ◌↔◌, Option, None, Some, List, [], ◌∷◌, take, refl, ap, sym, ◌∙◌, inl}
use Rattle.std.proofs.Math.Bool.{or-false, or_comm}
use Rattle.std.proofs.Common.{inr, arith, rules}
use Rattle.std.specs.Prelude.{slice_get, sum_by, IsSome, IfSome}
use Rattle.std.specs.List.{AllByRecursion}
use Rattle.std.specs.Option.{option_map_or}
use Rattle.std.proofs.lemmas.List.Sums.{sum_by-cons}
use Rattle.std.proofs.lemmas.Bool.{and_parts, or_cases, or_left, or_right, false_from_ne_true}
use Rattle.rbbi_model.specs.Spelling.{Star, Plus, Quest, Tree, Leaf, Empty, Never, Then, Either, Repeat, Spells}
use Rattle.rbbi_model.specs.Rules.{Rule, leaf_count, leaves_of, IsLawfulTree, IsLawfulRule}
use Rattle.rbbi_model.specs.LeafSets.{SpellsPositions, first_position}
use Rattle.rbbi_positions.specs.inner.Trees.{is_nullable, begins, ends, leads, goes}
use Rattle.rbbi_positions.specs.inner.RuleTests.{some_rule, rule_begins, front_ends, rule_ends, rule_goes}
use Rattle.rbbi_positions.specs.FollowPositions.{IsFirst, IsLast, IsFrontLast, Follows}
use Rattle.rbbi_positions.proofs.Exchanges.{Spelled}
use Rattle.rbbi_positions.proofs.Nodes.{Begins, Ends, Neighbours}
use Rattle.rbbi_positions.proofs.Computed.{begins_is, ends_is, goes_is}
use Rattle.rbbi_positions.proofs.Codes.{all_get}

-- a tree that spells the empty list spells the empty word
empty_word : (tree : Tree) → is_nullable tree ≡ true → Spells tree []
empty_word (Leaf set) e = absurd (cc)
empty_word Empty e = refl
empty_word Never e = absurd (cc)
empty_word (Then front rest) e =
    (let both = and_parts (is_nullable front) (is_nullable rest) e in ([], [], empty_word front both.0, empty_word rest both.1, refl))
empty_word (Either front rest) e =
    elim (or_cases (is_nullable front) (is_nullable rest) e) [ inl h ↦ inl (empty_word front h) | inr h ↦ inr (empty_word rest h) ]
empty_word (Repeat Star part) e = ([], tt, tt, refl)
empty_word (Repeat Plus part) e = ([] ∷ [], (λ same. absurd (cc)), (empty_word part e, tt), refl)
empty_word (Repeat Quest part) e = ([], omega arith, tt, refl)

not_empty : (tree : Tree) → ¬ Spells tree [] → is_nullable tree ≡ false
not_empty tree none = false_from_ne_true (is_nullable tree) (λ e. none (empty_word tree e))

-- equal tests
pub alike : {A : Type 0} (a b : Bool) → a ≡ b → (b ≡ true) ↔ A → (a ≡ true) ↔ A
alike a b same h = (λ e. h.0 (sym same ∙ e), λ x. same ∙ h.1 x)

begins_at : (front : Tree) (rest : Option Tree) (first position : ℕ) → IsLawfulTree front → IfSome rest IsLawfulTree → (IsSome rest → ¬ Spells front []) →
    (begins front first position ≡ true) ↔ Begins (Spelled front rest first) position
begins_at front None first position lawful rest_lawful none = begins_is front first position lawful
begins_at front (Some rest) first position lawful rest_lawful none =
    let same : begins front first position ≡ begins (Then front rest) first position =
    sym (ap (λ x. begins front first position || (x && begins rest (first + leaf_count front) position)) (not_empty front (none (search rules)))
    ∙ or-false (begins front first position)) in
    alike (begins front first position) (begins (Then front rest) first position) same (begins_is (Then front rest) first position (lawful, rest_lawful))

ends_at : (front : Tree) (rest : Option Tree) (first position : ℕ) → IsLawfulTree front → IfSome rest IsLawfulTree → IfSome rest (λ rest. ¬ Spells rest []) →
    (option_map_or (λ rest. ends rest (first + leaf_count front) position) rest (ends front first position) ≡ true) ↔ Ends (Spelled front rest first) position
ends_at front None first position lawful rest_lawful none = ends_is front first position lawful
ends_at front (Some rest) first position lawful rest_lawful none =
    let second = first + leaf_count front in
    let same : ends rest second position ≡ ends (Then front rest) first position =
    sym (ap (λ x. ends rest second position || (x && ends front first position)) (not_empty rest none) ∙ or-false (ends rest second position)) in
    alike (ends rest second position) (ends (Then front rest) first position) same (ends_is (Then front rest) first position (lawful, rest_lawful))

inside : (tree : Tree) (first position next : ℕ) → IsLawfulTree tree →
    (goes tree first position next false ≡ true) ↔ Neighbours (SpellsPositions tree first) position next
inside tree first position next lawful =
    let h = goes_is tree first position next false lawful in
    (λ e. elim (h.0 e) [ inl near ↦ near | inr (end, on) ↦ absurd (cc) ], λ near. h.1 (inl near))

goes_at : (front : Tree) (rest : Option Tree) (first position next : ℕ) → IsLawfulTree front → IfSome rest IsLawfulTree →
    IfSome rest (λ rest. ¬ Spells rest []) →
    (option_map_or (λ rest.
    goes rest (first + leaf_count front) position next false || goes front first position next (begins rest (first + leaf_count front) next)) rest
    (goes front first position next false) ≡ true)
    ↔ Neighbours (Spelled front rest first) position next
goes_at front None first position next lawful rest_lawful none = inside front first position next lawful
goes_at front (Some rest) first position next lawful rest_lawful none =
    let second = first + leaf_count front in
    let led : leads rest second next false ≡ begins rest second next = ap (λ x. begins rest second next || (x && false)) (not_empty rest none)
    ∙ or-false (begins rest second next) in
    let same : (goes rest second position next false || goes front first position next (begins rest second next)) ≡ goes (Then front rest) first position next
    false =
    or_comm (goes rest second position next false) (goes front first position next (begins rest second next))
    ∙ ap (λ x. goes front first position next x || goes rest second position next false) (sym led) in
    alike (goes rest second position next false || goes front first position next (begins rest second next)) (goes (Then front rest) first position next false)
    same
    (inside (Then front rest) first position next (lawful, rest_lawful))

-- some rule passes the test
pub record Passes (test : Rule → ℕ → Bool) (rules : List Rule) (first : ℕ) : Type 0 where
  pub number : ℕ
  pub rule : Rule
  pub is_rule : slice_get rules number ≡ Some rule
  pub passes : test rule (first + sum_by leaves_of (take number rules)) ≡ true

some_there : (test : Rule → ℕ → Bool) (rules : List Rule) (first : ℕ) → some_rule test rules first ≡ true → Passes test rules first
some_there test [] first e = absurd (cc)
some_there test (rule ∷ rules) first e =
    elim (or_cases (test rule first) (some_rule test rules (first + leaves_of rule)) e) [
      | inl here ↦ record { number = 0; rule = rule; is_rule = refl; passes = ap (test rule) (omega arith) ∙ here }
      | inr later ↦
          let h = some_there test rules (first + leaves_of rule) later in
          record {
            number = suc h.number;
            rule = h.rule;
            is_rule = h.is_rule;
            passes = ap (test h.rule) (omega (arith, sum_by-cons leaves_of rule (take h.number rules))) ∙ h.passes;
          }
    ]

some_back : (test : Rule → ℕ → Bool) (rules : List Rule) (first number : ℕ) (rule : Rule) → slice_get rules number ≡ Some rule →
    test rule (first + sum_by leaves_of (take number rules)) ≡ true → some_rule test rules first ≡ true
some_back test [] first number rule is passes = absurd (cc)
some_back test (front ∷ rules) first zero rule is passes =
    let same : front ≡ rule = cc in
    let here : test front first ≡ true = ap (λ r. test r first) same ∙ ap (test rule) (omega arith) ∙ passes in
    or_left (test front first) (some_rule test rules (first + leaves_of front)) here
some_back test (front ∷ rules) first (suc number) rule is passes =
    or_right (test front first) (some_rule test rules (first + leaves_of front))
    (some_back test rules (first + leaves_of front) number rule is (ap (test rule) (omega (arith, sum_by-cons leaves_of front (take number rules))) ∙ passes))

module _ (rules : List Rule) (lawful : AllByRecursion IsLawfulRule rules) where
  law : (number : ℕ) (rule : Rule) → slice_get rules number ≡ Some rule → IsLawfulRule rule
  law number rule is = all_get IsLawfulRule rules number rule is lawful

  at_zero : (test : Rule → ℕ → Bool) (rule : Rule) (number : ℕ) → test rule (0 + first_position rules number) ≡ test rule (first_position rules number)
  at_zero test rule number = ap (test rule) (omega arith)

  -- some rule passes the test where it says of a rule what some rule does
  some_is : (test : Rule → ℕ → Bool) (A : ℕ → Rule → Type 0) →
      ((number : ℕ) (rule : Rule) → slice_get rules number ≡ Some rule → (test rule (first_position rules number) ≡ true) ↔ A number rule) →
      (some_rule test rules 0 ≡ true) ↔ ((number : ℕ) × (rule : Rule) × (slice_get rules number ≡ Some rule) × A number rule)
  some_is test A each = (
    λ e. (let h = some_there test rules 0 e in
        (h.number, h.rule, h.is_rule, (each h.number h.rule h.is_rule).0 (sym (at_zero test h.rule h.number) ∙ h.passes))),
    λ (number, rule, is, a). some_back test rules 0 number rule is (at_zero test rule number ∙ (each number rule is).1 a),
  )

  pub first_is : (position : ℕ) → (some_rule (rule_begins position) rules 0 ≡ true) ↔ IsFirst rules position
  first_is position =
      let found = some_is (rule_begins position) (λ number rule. Begins (Spelled rule.front rule.rest (first_position rules number)) position)
      (λ number rule is. let l = law number rule is in
      begins_at rule.front rule.rest (first_position rules number) position l.front l.rest l.front_not_empty) in (
        λ e. (let (number, rule, is, (others, spelled)) = found.0 e in
            record { number = number; others = others; spelled = record { rule = rule; is_rule = is; spelled = spelled } }),
        λ h. found.1 (h.number, h.spelled.rule, h.spelled.is_rule, (h.others, h.spelled.spelled)),
      )

  pub last_is : (position : ℕ) → (some_rule (rule_ends position) rules 0 ≡ true) ↔ IsLast rules position
  last_is position =
      let found = some_is (rule_ends position) (λ number rule. Ends (Spelled rule.front rule.rest (first_position rules number)) position)
      (λ number rule is. let l = law number rule is in
      ends_at rule.front rule.rest (first_position rules number) position l.front l.rest l.rest_not_empty) in (
        λ e. (let (number, rule, is, (others, spelled)) = found.0 e in
            record { number = number; others = others; spelled = record { rule = rule; is_rule = is; spelled = spelled } }),
        λ h. found.1 (h.number, h.spelled.rule, h.spelled.is_rule, (h.others, h.spelled.spelled)),
      )

  pub front_last_is : (position : ℕ) → (some_rule (front_ends position) rules 0 ≡ true) ↔ IsFrontLast rules position
  front_last_is position =
      let found = some_is (front_ends position) (λ number rule. Ends (SpellsPositions rule.front (first_position rules number)) position)
      (λ number rule is. ends_is rule.front (first_position rules number) position (law number rule is).front) in (
        λ e. (let (number, rule, is, (others, spelled)) = found.0 e in
            record { number = number; others = others; spelled = record { rule = rule; is_rule = is; spelled = spelled } }),
        λ h. found.1 (h.number, h.spelled.rule, h.spelled.is_rule, (h.others, h.spelled.spelled)),
      )

  pub follows_is : (position next : ℕ) → (some_rule (rule_goes position next) rules 0 ≡ true) ↔ Follows rules position next
  follows_is position next =
      let found = some_is (rule_goes position next) (λ number rule. Neighbours (Spelled rule.front rule.rest (first_position rules number)) position next)
      (λ number rule is. let l = law number rule is in
      goes_at rule.front rule.rest (first_position rules number) position next l.front l.rest l.rest_not_empty) in (
        λ e. (let (number, rule, is, (before, after, spelled)) = found.0 e in
            record { number = number; before = before; after = after; spelled = record { rule = rule; is_rule = is; spelled = spelled } }),
        λ h. found.1 (h.number, h.spelled.rule, h.spelled.is_rule, (h.before, h.after, h.spelled.spelled)),
      )
