-- A meaning stands for one tree at most, and a file for one list of rules.
use Rattle.std.proofs.Common.{◌≡◌, ℕ, Bool, Option, Some, None, List, [], ◌∷◌, sym, refl, ap, ◌∙◌}
use Rattle.std.specs.List.{AllZip}
use Rattle.rbbi_model.specs.Spelling as spelling
use Rattle.rbbi_model.specs.Rules as model
use Rattle.rbbi_sets.specs.Laws.{MembersDetermine}
use Rattle.rbbi_props.specs.Rows.{File}
use Rattle.rbbi_resolve.specs.Meanings.{Meaning, Leaf, Empty, Never, Then, Either, Repeat, Stands}
use Rattle.rbbi_resolve.specs.Files.{RuleMeaning}
use Rattle.rbbi_resolve.specs.Outcomes.{BothStand, IsRuleOf}

module _ (determine : MembersDetermine) (files : List File) where
  pub stands_once : (meaning : Meaning) (t u : spelling.Tree) → Stands files meaning t → Stands files meaning u → t ≡ u
  stands_once (Leaf tree) t u s r =
      let same : s.0 ≡ r.0 =
      determine s.0 r.0 s.2.rising r.2.rising (λ c. (λ h. (r.2.members c).1 ((s.2.members c).0 h), λ h. (s.2.members c).1 ((r.2.members c).0 h))) in
      s.1 ∙ ap spelling.Leaf same ∙ sym r.1
  stands_once Empty t u s r = s ∙ sym r
  stands_once Never t u s r = s ∙ sym r
  stands_once (Then first rest) t u s r =
      s.2 ∙ ap (λ x. spelling.Then x s.1) (stands_once first s.0 r.0 s.3 r.3) ∙ ap (λ y. spelling.Then r.0 y) (stands_once rest s.1 r.1 s.4 r.4) ∙ sym r.2
  stands_once (Either first rest) t u s r =
      s.2 ∙ ap (λ x. spelling.Either x s.1) (stands_once first s.0 r.0 s.3 r.3) ∙ ap (λ y. spelling.Either r.0 y) (stands_once rest s.1 r.1 s.4 r.4) ∙ sym r.2
  stands_once (Repeat repetition part) t u s r = s.1 ∙ ap (spelling.Repeat repetition) (stands_once part s.0 r.0 s.2 r.2) ∙ sym r.1

  both_stand_once : (meaning : Option Meaning) (t u : Option spelling.Tree) → BothStand files meaning t → BothStand files meaning u → t ≡ u
  both_stand_once None None None s r = refl
  both_stand_once None None (Some u) s r = absurd r
  both_stand_once None (Some t) u s r = absurd s
  both_stand_once (Some meaning) None u s r = absurd s
  both_stand_once (Some meaning) (Some t) None s r = absurd r
  both_stand_once (Some meaning) (Some t) (Some u) s r = ap Some (stands_once meaning t u s r)

  rule_once : (meaning : RuleMeaning) (rule other : model.Rule) → IsRuleOf files meaning rule → IsRuleOf files meaning other → rule ≡ other
  rule_once meaning rule other s r =
      let made : spelling.Tree → Option spelling.Tree → Bool → Option ℕ → ℕ → model.Rule =
      λ front rest chained_into tag place. record { front = front; rest = rest; chained_into = chained_into; tag = tag; place = place } in
      ap (λ x. made x rule.rest rule.chained_into rule.tag rule.place) (stands_once meaning.front rule.front other.front s.front r.front)
      ∙ ap (λ x. made other.front x rule.chained_into rule.tag rule.place) (both_stand_once meaning.rest rule.rest other.rest s.rest r.rest)
      ∙ ap (λ x. made other.front other.rest x rule.tag rule.place) (s.chained_into ∙ sym r.chained_into)
      ∙ ap (λ x. made other.front other.rest other.chained_into x rule.place) (s.tag ∙ sym r.tag)
      ∙ ap (λ x. made other.front other.rest other.chained_into other.tag x) (s.place ∙ sym r.place)

  pub rules_once : (meanings : List RuleMeaning) (rules others : List model.Rule) → AllZip (IsRuleOf files) meanings rules →
      AllZip (IsRuleOf files) meanings others → rules ≡ others
  rules_once [] [] [] s r = refl
  rules_once [] [] (o ∷ others) s r = absurd r
  rules_once [] (x ∷ rules) others s r = absurd s
  rules_once (m ∷ meanings) [] others s r = absurd s
  rules_once (m ∷ meanings) (x ∷ rules) [] s r = absurd r
  rules_once (m ∷ meanings) (x ∷ rules) (o ∷ others) s r =
      ap (λ y. y ∷ rules) (rule_once m x o s.0 r.0) ∙ ap (λ ys. o ∷ ys) (rules_once meanings rules others s.1 r.1)
