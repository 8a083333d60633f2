-- The laws of walks: what the rules spell are the walks from a first position to a last one.
use Rattle.std.proofs.Common.{◌≡◌, ◌≢◌, ℕ, Some, List, [], ◌∷◌, ◌++◌, sym, refl, ◌∙◌, subst, append_assoc}
use Rattle.std.proofs.lemmas.List.{append-nil}
use Rattle.std.specs.Prelude.{slice_get}
use Rattle.rbbi_model.specs.Rules.{Rule}
use Rattle.rbbi_model.specs.LeafSets.{SpellsPositions, RuleSpellsPositions, first_position}
use Rattle.rbbi_positions.specs.FollowPositions.{IsSpelled, IsFrontSpelled}
use Rattle.rbbi_positions.specs.Walks.{EachFollows, IsWalk, IsPrefix, SpelledAreOfTheRule, SpelledAreExchanged, FrontsAreExchanged, PrefixesAreWalks}
use Rattle.rbbi_positions.specs.Walks.{SpelledAreWalks, FrontWalksAreSpelled}
use Rattle.rbbi_positions.proofs.Exchanges.{spelled_exchange, front_exchange}
use Rattle.rbbi_positions.proofs.RuleSpans.{one_rule, rule_middle, front_middle}

-- the rules with one number are one rule
one_numbered : (rules : List Rule) (number : ℕ) (rule rule' : Rule) → slice_get rules number ≡ Some rule → slice_get rules number ≡ Some rule' → rule' ≡ rule
one_numbered rules number rule rule' h g = cc

pub exchange : SpelledAreExchanged
exchange rules this that x before after sooner later h g =
    let same : this ≡ that = one_rule rules this that x h.rule g.rule h.is_rule g.is_rule
    (rule_middle h.rule (first_position rules this) before after x h.spelled) (rule_middle g.rule (first_position rules that) sooner later x g.spelled) in
    let g' : IsSpelled rules this (sooner ++ x ∷ later) = subst (λ (n : ℕ). IsSpelled rules n (sooner ++ x ∷ later)) (sym same) g in
    let rule_is : g'.rule ≡ h.rule = one_numbered rules this h.rule g'.rule h.is_rule g'.is_rule in
    let spelled' : RuleSpellsPositions h.rule (first_position rules this) (sooner ++ x ∷ later) =
    subst (λ (r : Rule). RuleSpellsPositions r (first_position rules this) (sooner ++ x ∷ later)) rule_is g'.spelled in (
      same,
      record {
        rule = h.rule;
        is_rule = h.is_rule;
        spelled = spelled_exchange h.rule.front h.rule.rest (first_position rules this) before after sooner later x h.spelled spelled';
      },
    )

pub exchange_front : FrontsAreExchanged
exchange_front rules this that x before after sooner later h g =
    let same : this ≡ that = one_rule rules this that x h.rule g.rule h.is_rule g.is_rule
    (rule_middle h.rule (first_position rules this) before after x h.spelled) (front_middle g.rule (first_position rules that) sooner later x g.spelled) in
    let g' : IsFrontSpelled rules this (sooner ++ x ∷ later) = subst (λ (n : ℕ). IsFrontSpelled rules n (sooner ++ x ∷ later)) (sym same) g in
    let rule_is : g'.rule ≡ h.rule = one_numbered rules this h.rule g'.rule h.is_rule g'.is_rule in
    let spelled' : SpellsPositions h.rule.front (first_position rules this) (sooner ++ x ∷ later) =
    subst (λ (r : Rule). SpellsPositions r.front (first_position rules this) (sooner ++ x ∷ later)) rule_is g'.spelled in (
      same,
      record {
        rule = h.rule;
        is_rule = h.is_rule;
        spelled = front_exchange h.rule.front h.rule.rest (first_position rules this) before after sooner later x h.spelled spelled';
      },
    )

pub of_the_rule : SpelledAreOfTheRule
of_the_rule rules number position before after h =
    let within = rule_middle h.rule (first_position rules number) before after position h.spelled in
    record { rule = h.rule; is_rule = h.is_rule; from = within.from; to = within.to }

-- equal lists are spelled alike
pub respelled : (rules : List Rule) (number : ℕ) (these those : List ℕ) → these ≡ those → IsSpelled rules number these → IsSpelled rules number those
respelled rules number these those e h = subst (IsSpelled rules number) e h

-- a beginning goes on along a walk
goes_on : (rules : List Rule) (before : List ℕ) (x : ℕ) (positions : List ℕ) → IsPrefix rules (before ++ x ∷ []) → EachFollows rules (x ∷ positions) →
    IsPrefix rules (before ++ x ∷ positions)
goes_on rules before x [] h g = h
goes_on rules before x (y ∷ positions) h (follows, each) =
    let begun = respelled rules h.number ((before ++ x ∷ []) ++ h.others) (before ++ x ∷ h.others) (append_assoc before (x ∷ []) h.others) h.spelled in
    let further = (exchange rules h.number follows.number x before h.others follows.before (y ∷ follows.after) begun follows.spelled).1 in
    let longer : IsPrefix rules ((before ++ x ∷ []) ++ y ∷ []) = record {
      number = h.number;
      others = follows.after;
      spelled = respelled rules h.number (before ++ x ∷ y ∷ follows.after) (((before ++ x ∷ []) ++ y ∷ []) ++ follows.after)
          (sym (append_assoc (before ++ x ∷ []) (y ∷ []) follows.after ∙ append_assoc before (x ∷ []) (y ∷ follows.after))) further;
    } in
    subst (IsPrefix rules) (append_assoc before (x ∷ []) (y ∷ positions)) (goes_on rules (before ++ x ∷ []) y positions longer each)

walk_begins : (rules : List Rule) (positions : List ℕ) → IsWalk rules positions → (positions ≢ []) × IsPrefix rules positions
walk_begins rules [] h = absurd h
walk_begins rules (x ∷ positions) (first, each) =
    (λ e. absurd (cc), goes_on rules [] x positions (record { number = first.number; others = first.others; spelled = first.spelled }) each)

-- in a list that is spelled each position follows the one before it
each_follows : (rules : List Rule) (number : ℕ) (before positions others : List ℕ) → IsSpelled rules number (before ++ (positions ++ others)) →
    EachFollows rules positions
each_follows rules number before [] others h = tt
each_follows rules number before (x ∷ []) others h = tt
each_follows rules number before (x ∷ y ∷ positions) others h = (
  record { number = number; before = before; after = positions ++ others; spelled = h },
  each_follows rules number (before ++ x ∷ []) (y ∷ positions) others
      (respelled rules number (before ++ x ∷ y ∷ (positions ++ others)) ((before ++ x ∷ []) ++ y ∷ (positions ++ others))
      (sym (append_assoc before (x ∷ []) (y ∷ (positions ++ others)))) h),
)

prefix_walks : (rules : List Rule) (positions : List ℕ) → positions ≢ [] → IsPrefix rules positions → IsWalk rules positions
prefix_walks rules [] some h = absurd (some refl)
prefix_walks rules (x ∷ positions) some h =
    (record { number = h.number; others = positions ++ h.others; spelled = h.spelled }, each_follows rules h.number [] (x ∷ positions) h.others h.spelled)

pub prefixes_are_walks : PrefixesAreWalks
prefixes_are_walks rules positions = (walk_begins rules positions, λ (some, h). prefix_walks rules positions some h)

-- a walk is begun by a list that is spelled up to its last position
begun : (rules : List Rule) (others : List ℕ) (position : ℕ) → IsWalk rules (others ++ position ∷ []) → (number : ℕ) ×
    (after : List ℕ) × IsSpelled rules number (others ++ position ∷ after)
begun rules others position walk =
    let h = (walk_begins rules (others ++ position ∷ []) walk).1 in (
      h.number,
      h.others,
      respelled rules h.number ((others ++ position ∷ []) ++ h.others) (others ++ position ∷ h.others)
          (append_assoc others (position ∷ []) h.others) h.spelled,
    )

not_empty : (others : List ℕ) (position : ℕ) → others ++ position ∷ [] ≢ []
not_empty [] position e = absurd (cc)
not_empty (x ∷ others) position e = absurd (cc)

pub spelled_are_walks : SpelledAreWalks
spelled_are_walks rules others position = (
  λ (number, h). (
    prefix_walks rules (others ++ position ∷ []) (not_empty others position)
        (record {
          number = number;
          others = [];
          spelled =
              respelled rules number (others ++ position ∷ []) ((others ++ position ∷ []) ++ []) (sym (append-nil (others ++ position ∷ []))) h;
        }),
    record { number = number; others = others; spelled = h },
  ),
  λ (walk, last).
      let (number, after, h) = begun rules others position walk in
      (number, (exchange rules number last.number position others after last.others [] h last.spelled).1),
)

pub front_walks_are_spelled : FrontWalksAreSpelled
front_walks_are_spelled rules others position walk last =
    let (number, after, h) = begun rules others position walk in
    (number, (exchange_front rules number last.number position others after last.others [] h last.spelled).1)
