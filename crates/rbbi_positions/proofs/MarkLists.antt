-- The marks of rules, with one rule more.
use Rattle.std.proofs.Common.{◌≡◌, ℕ, zero, suc, ◌+◌, ◌⊎◌, Bool, true, false, cond, Option, None, Some, List, [], ◌∷◌, ◌++◌, length, take, refl, ap, sym, ◌∙◌}
use Rattle.std.proofs.Common.{subst, inl, inr, ⊎_elim, arith, length-append}
use Rattle.std.specs.Prelude.{slice_get, filter, is_some}
use Rattle.std.specs.Option.{option_map}
use Rattle.std.proofs.lemmas.List.Elements.{filter-append}
use Rattle.rbbi_model.specs.Rules as model
use Rattle.rbbi_model.specs.Rules.{look_aheads}
use Rattle.rbbi_resolve.specs.declared.rules.Rule.{Rule}
use Rattle.rbbi_resolve.specs.RuleTrees.{tree_of}
use Rattle.rbbi_resolve.specs.RuleLists.{RuleList, rule_of, rules_of}
use Rattle.rbbi_positions.specs.PositionMarks.{RuleMark, AreRuleMarks, slash_number}
use Rattle.rbbi_positions.proofs.RuleFacts.{rule_is, taken}

get_snoc : {X : Type 0} (xs : List X) (x y : X) (n : ℕ) → slice_get (xs ++ x ∷ []) n ≡ Some y → (slice_get xs n ≡ Some y) ⊎ ((n ≡ length xs) × (x ≡ y))
get_snoc [] x y zero is = (let same : x ≡ y = cc in inr (refl, same))
get_snoc [] x y (suc n) is = absurd (cc)
get_snoc (z ∷ xs) x y zero is = inl is
get_snoc (z ∷ xs) x y (suc n) is = ⊎_elim (λ h. inl h) (λ h. inr (omega (arith, h.0), h.1)) (get_snoc xs x y n is)

mapped : {A B C : Type 0} (f : A → B) (d : C) (rest : Option A) → option_map (λ _. d) rest ≡ option_map (λ _. d) (option_map f rest)
mapped f d None = refl
mapped f d (Some x) = refl

pub some_mapped : {A B : Type 0} (f : A → B) (rest : Option A) → is_some (option_map f rest) ≡ is_some rest
some_mapped f None = refl
some_mapped f (Some x) = refl

module _ (list : RuleList) (number : ℕ) (rule : Rule) (is : slice_get list.rules number ≡ Some rule) where
  -- how many rules look ahead, with this one
  pub slashes_next : (test : Bool) → is_some rule.rest ≡ test →
      length (look_aheads (take (number + 1) (rules_of list))) ≡ length (look_aheads (take number (rules_of list))) + cond test 1 0
  slashes_next test some =
      let looks : model.Rule → Bool = λ r. is_some r.rest in
      let this : model.Rule = rule_of list.sets rule in
      let one : length (filter looks (this ∷ [])) ≡ cond test 1 0 = ap (λ (b : Bool). length (cond b (this ∷ []) [])) (some_mapped (tree_of list.sets) rule.rest
      ∙ some) ∙ each test this in
      ap (λ l. length (look_aheads l)) (taken list number rule is) ∙ ap length (filter-append looks (take number (rules_of list)) (this ∷ []))
      ∙ length-append (filter looks (take number (rules_of list))) (filter looks (this ∷ []))
      ∙ ap (λ n. length (look_aheads (take number (rules_of list))) + n) one
    where
      each : (test : Bool) (r : model.Rule) → length (cond test (r ∷ []) []) ≡ cond test 1 0
      each true r = refl
      each false r = refl

  pub marks_more : (marks : List RuleMark) (mark : RuleMark) (slashes : ℕ) → length marks ≡ number →
      slashes ≡ length (look_aheads (take number (rules_of list))) → mark.chained_into ≡ rule.chained_into → mark.tag ≡ rule.tag →
      mark.slash ≡ option_map (λ _. slashes) rule.rest → AreRuleMarks (rules_of list) marks → AreRuleMarks (rules_of list) (marks ++ mark ∷ [])
  marks_more marks mark slashes many at chained tag slash old n other found is_rule get =
      ⊎_elim (λ before. old n other found is_rule before)
      (λ (here, same).
      let n_is : n ≡ number = here ∙ many in
      let is' : slice_get (rules_of list) number ≡ Some other = subst (λ (k : ℕ). slice_get (rules_of list) k ≡ Some other) n_is is_rule in
      let is'' : slice_get (rules_of list) number ≡ Some (rule_of list.sets rule) = rule_is list number rule is in
      let rule_same : rule_of list.sets rule ≡ other = cc in
      record {
        chained_into = sym (ap (λ (m : RuleMark). m.chained_into) same) ∙ chained ∙ ap (λ (r : model.Rule). r.chained_into) rule_same;
        tag = sym (ap (λ (m : RuleMark). m.tag) same) ∙ tag ∙ ap (λ (r : model.Rule). r.tag) rule_same;
        slash = sym (ap (λ (m : RuleMark). m.slash) same) ∙ slash ∙ ap (λ (k : ℕ). option_map (λ _. k) rule.rest) at
            ∙ mapped (tree_of list.sets) (length (look_aheads (take number (rules_of list)))) rule.rest
            ∙ ap (λ (k : ℕ). slash_number (rules_of list) k (rule_of list.sets rule)) (sym n_is)
            ∙ ap (λ (r : model.Rule). slash_number (rules_of list) n r) rule_same;
      })
      (get_snoc marks mark found n get)
