-- The active rules, one after another.
use Rattle.std.proofs.Common.{◌≡◌, ℕ, ◌+◌, ◌<◌, ◌≤◌, inl, inr, Option, Some, None, IfSome, List, [], ◌∷◌, ◌++◌, map, length, drop, slice_get}
use Rattle.std.proofs.Common.{sym, refl, ap, ◌∙◌, subst, arith}
use Rattle.std.specs.Option.{option_map, option_map_or}
use Rattle.std.specs.List.{AllByRecursion, AllZip, Contains, flat_map}
use Rattle.std.proofs.lemmas.List.Elements.{Contains-append_left, Contains-append_right}
use Rattle.std.proofs.lemmas.Bool.{cases_lt}
use Rattle.std.proofs.lemmas.List.{append_assoc, append-nil, drop_all}
use Rattle.rbbi_model.specs.Ranges.{Range}
use Rattle.rbbi_model.proofs.Lists.{all_append}
use Rattle.rbbi_props.specs.Rows.{File}
use Rattle.rbbi_tree.specs.Trees.{StatementTree}
use Rattle.rbbi_tree.specs.Values.{statement_trees}
use Rattle.rbbi_resolve.specs.declared.build.Builder.{Builder}
use Rattle.rbbi_resolve.specs.declared.build.FileLeaves.{FileLeaves}
use Rattle.rbbi_resolve.specs.declared.context.Context.{Context}
use Rattle.rbbi_resolve.specs.declared.rules.Tree.{Tree}
use Rattle.rbbi_resolve.specs.declared.rules.Rule.{Rule}
use Rattle.rbbi_resolve.specs.declared.switches.Switches.{Switches}
use Rattle.rbbi_resolve.specs.Meanings.{Meaning, Stands}
use Rattle.rbbi_resolve.specs.Files.{RuleMeaning, context_after, rule_in, rules_from, active_rules}
use Rattle.rbbi_resolve.specs.inner.Files.{context_at}
use Rattle.rbbi_resolve.specs.inner.Contexts.{files_of, sets_of}
use Rattle.rbbi_resolve.specs.inner.Switchings.{AreSwitches}
use Rattle.rbbi_resolve.specs.RuleTrees.{tree_of, numbers_of}
use Rattle.rbbi_resolve.specs.RuleLists.{rule_of, numbers_of_rule, AreWellFormed}
use Rattle.rbbi_resolve.specs.inner.Builders.{HasLawfulLeaves, IsBuilt, Extends}
use Rattle.rbbi_resolve.specs.Outcomes.{BothStand, IsRuleOf}
use Rattle.rbbi_resolve.specs.inner.RulesSoFar.{IsRest, IsRestBuilt, IsRuleBuilt, AreRulesTo, AreAllRules}
use Rattle.rbbi_resolve.proofs.Steps.{left_here, context_next, rules_next}
use Rattle.rbbi_resolve.proofs.Building.{part_more}
use Rattle.rbbi_resolve.proofs.Lawful.{HasRuleSets}

module _ (files : List File) where
  rest_more : (sets ext : List (List Range)) (m : Option Meaning) (t : Option Tree) → IsRest files sets m t → IsRest files (sets ++ ext) m t
  rest_more sets ext None None r = tt
  rest_more sets ext None (Some t) r = absurd r
  rest_more sets ext (Some m) None r = absurd r
  rest_more sets ext (Some m) (Some t) r = part_more files sets ext m t r

  rule_more : (sets ext : List (List Range)) (m : RuleMeaning) (r : Rule) → IsRuleBuilt files sets m r → IsRuleBuilt files (sets ++ ext) m r
  rule_more sets ext m r b =
      record {
        front = part_more files sets ext m.front r.front b.front;
        rest = rest_more sets ext m.rest r.rest b.rest;
        chained_into = b.chained_into;
        tag =
            b.tag;
        place = b.place;
      }

  rules_more : (sets ext : List (List Range)) (ms : List RuleMeaning) (rs : List Rule) → AllZip (IsRuleBuilt files sets) ms rs →
      AllZip (IsRuleBuilt files (sets ++ ext)) ms rs
  rules_more sets ext [] [] z = tt
  rules_more sets ext [] (r ∷ rs) z = absurd z
  rules_more sets ext (m ∷ ms) [] z = absurd z
  rules_more sets ext (m ∷ ms) (r ∷ rs) z = (rule_more sets ext m r z.0, rules_more sets ext ms rs z.1)

  rules_both : (sets : List (List Range)) (ms : List RuleMeaning) (rs : List Rule) (ns : List RuleMeaning) (ss : List Rule) →
      AllZip (IsRuleBuilt files sets) ms rs → AllZip (IsRuleBuilt files sets) ns ss → AllZip (IsRuleBuilt files sets) (ms ++ ns) (rs ++ ss)
  rules_both sets [] [] ns ss a b = b
  rules_both sets [] (r ∷ rs) ns ss a b = absurd a
  rules_both sets (m ∷ ms) [] ns ss a b = absurd a
  rules_both sets (m ∷ ms) (r ∷ rs) ns ss a b = (a.0, rules_both sets ms rs ns ss a.1 b)

  flat_both : (rs ss : List Rule) → flat_map numbers_of_rule (rs ++ ss) ≡ flat_map numbers_of_rule rs ++ flat_map numbers_of_rule ss
  flat_both [] ss = refl
  flat_both (r ∷ rs) ss = ap (λ ns. numbers_of_rule r ++ ns) (flat_both rs ss)
      ∙ sym (append_assoc (numbers_of_rule r) (flat_map numbers_of_rule rs) (flat_map numbers_of_rule ss))

  -- the numbers of a rule that was built
  pub rule_fresh : (old mid : ℕ) (sets' sets : List (List Range)) (m : Meaning) (o : Option Meaning) (r : Rule) → length sets' ≡ mid →
      IsBuilt files old sets' m r.front → IsRestBuilt files mid sets o r.rest →
      (k : ℕ) → old ≤ k → k < length sets → Contains (flat_map numbers_of_rule (r ∷ [])) k
  rule_fresh old mid sets' sets m o r long front rest k low high =
      let out : Contains (numbers_of_rule r) k → Contains (flat_map numbers_of_rule (r ∷ [])) k = λ w. Contains-append_left (numbers_of_rule r) [] k w in
      elim (cases_lt k mid) [
        | inl lt ↦ out (Contains-append_left (numbers_of r.front) (option_map_or numbers_of r.rest []) k (front.fresh k low (omega arith)))
        | inr ge ↦ out (Contains-append_right (numbers_of r.front) (option_map_or numbers_of r.rest []) k (rest.fresh k ge high))
      ]

  all_steps : (statements : List StatementTree) (n : ℕ) → length statements ≤ n → (done : List RuleMeaning) →
      done ++ rules_from (context_at files statements n) (drop n statements) ≡ active_rules files statements → done ≡ active_rules files statements
  unfolding rules_from
  all_steps statements n long done e =
      sym (append-nil done) ∙ ap (λ x. done ++ rules_from (context_at files statements n) x) (sym (drop_all n statements long)) ∙ e

  rest_stands : (sets : List (List Range)) (m : Option Meaning) (t : Option Tree) → IsRest files sets m t → BothStand files m (option_map (tree_of sets) t)
  rest_stands sets None None r = tt
  rest_stands sets None (Some t) r = absurd r
  rest_stands sets (Some m) None r = absurd r
  rest_stands sets (Some m) (Some t) r = subst (λ ss. Stands files m (tree_of ss t)) (append-nil sets) (r.stands [])

  rule_stands : (sets : List (List Range)) (m : RuleMeaning) (r : Rule) → IsRuleBuilt files sets m r → IsRuleOf files m (rule_of sets r)
  rule_stands sets m r b =
      record {
        front = subst (λ ss. Stands files m.front (tree_of ss r.front)) (append-nil sets) (b.front.stands []);
        rest = rest_stands sets m.rest r.rest b.rest;
        chained_into = b.chained_into;
        tag = b.tag;
        place = b.place;
      }

  pub rules_stand : (sets : List (List Range)) (ms : List RuleMeaning) (rs : List Rule) → AllZip (IsRuleBuilt files sets) ms rs →
      AllZip (IsRuleOf files) ms (map (rule_of sets) rs)
  rules_stand sets [] [] z = tt
  rules_stand sets [] (r ∷ rs) z = absurd z
  rules_stand sets (m ∷ ms) [] z = absurd z
  rules_stand sets (m ∷ ms) (r ∷ rs) z = (rule_stands sets m r z.0, rules_stand sets ms rs z.1)

  rest_filled : (sets : List (List Range)) (m : Option Meaning) (t : Option Tree) → IsRest files sets m t → IfSome (option_map (tree_of sets) t) HasLawfulLeaves
  rest_filled sets None None r = tt
  rest_filled sets None (Some t) r = absurd r
  rest_filled sets (Some m) None r = absurd r
  rest_filled sets (Some m) (Some t) r = subst (λ ss. HasLawfulLeaves (tree_of ss t)) (append-nil sets) (r.filled [])

  pub rules_filled : (sets : List (List Range)) (ms : List RuleMeaning) (rs : List Rule) → AllZip (IsRuleBuilt files sets) ms rs →
      AllByRecursion HasRuleSets (map (rule_of sets) rs)
  rules_filled sets [] [] z = tt
  rules_filled sets [] (r ∷ rs) z = absurd z
  rules_filled sets (m ∷ ms) [] z = absurd z
  rules_filled sets (m ∷ ms) (r ∷ rs) z = (
    record {
      front = subst (λ ss. HasLawfulLeaves (tree_of ss r.front)) (append-nil sets)
          (z.0.front.filled []);
      rest = rest_filled sets m.rest r.rest z.0.rest;
    },
    rules_filled sets ms rs z.1,
  )

  rest_numbered : (sets : List (List Range)) (m : Option Meaning) (t : Option Tree) → IsRest files sets m t →
      AllByRecursion (λ n. n < length sets) (option_map_or numbers_of t [])
  rest_numbered sets None None r = tt
  rest_numbered sets None (Some t) r = absurd r
  rest_numbered sets (Some m) None r = absurd r
  rest_numbered sets (Some m) (Some t) r = r.numbered

  rules_numbered : (sets : List (List Range)) (ms : List RuleMeaning) (rs : List Rule) → AllZip (IsRuleBuilt files sets) ms rs →
      AllByRecursion (λ n. n < length sets) (flat_map numbers_of_rule rs)
  rules_numbered sets [] [] z = tt
  rules_numbered sets [] (r ∷ rs) z = absurd z
  rules_numbered sets (m ∷ ms) [] z = absurd z
  rules_numbered sets (m ∷ ms) (r ∷ rs) z =
      all_append (λ n. n < length sets) (numbers_of_rule r) (flat_map numbers_of_rule rs)
      (all_append (λ n. n < length sets) (numbers_of r.front) (option_map_or numbers_of r.rest []) z.0.front.numbered
      (rest_numbered sets m.rest r.rest z.0.rest))
      (rules_numbered sets ms rs z.1)

  -- the rules are well formed
  pub rules_formed : (statements : List StatementTree) (sets : List (List Range)) (rules : List Rule) → AreAllRules files statements sets rules →
      AreWellFormed (record { rules = rules; sets = sets })
  rules_formed statements sets rules a = record { numbered = rules_numbered sets (active_rules files statements) rules a.each; used = a.used; sets = a.formed }

-- one statement further
pub statement_built : (context : Context) (leaves : FileLeaves) (before after : Builder) (switches switches' : Switches) (rules rules' new : List Rule) (n : ℕ)
    (s : StatementTree) → AreRulesTo context leaves before switches rules n → slice_get (statement_trees context.statements.now) n ≡ Some s →
    Extends context leaves before after →
    AreSwitches switches' (context_after (context_at (files_of context) (statement_trees context.statements.now) n) s) →
    AllZip (IsRuleBuilt (files_of context) (sets_of context after.rows.items))
    (rule_in (context_at (files_of context) (statement_trees context.statements.now) n) s) new → rules' ≡ rules ++ new →
    ((k : ℕ) → length (sets_of context before.rows.items) ≤ k → k < length (sets_of context after.rows.items) →
    Contains (flat_map numbers_of_rule new) k) →
    AreRulesTo context leaves after switches' rules' (n + 1)
statement_built context leaves before after switches switches' rules rules' new n s a at on switch each put fresh =
    let files = files_of context in
    let statements = statement_trees context.statements.now in
    let sets = sets_of context before.rows.items in
    let sets' = sets_of context after.rows.items in
    let k = context_at files statements n in
    let rest = drop (n + 1) statements in
    let next = context_next files statements n s at in
    let left = left_here statements n s at in
    let wider = subst (λ ss. AllZip (IsRuleBuilt files ss) a.done rules) (sym on.is) (rules_more files sets on.more a.done rules a.each) in
    let here : (j : ℕ) → Contains (flat_map numbers_of_rule rules ++ flat_map numbers_of_rule new) j → Contains (flat_map numbers_of_rule rules') j =
    λ j w. subst (λ rs. Contains (flat_map numbers_of_rule rs) j) (sym put) (subst (λ ns. Contains ns j) (sym (flat_both files rules new)) w) in
    record {
      sound = on.builder;
      switched = subst (AreSwitches switches') (sym next) switch;
      done = a.done ++ rule_in k s;
      every =
          append_assoc a.done (rule_in k s) (rules_from (context_at files statements (n + 1)) rest)
          ∙ ap (λ x. a.done ++ (rule_in k s ++ rules_from x rest)) next
          ∙ ap (λ xs. a.done ++ xs) (sym (rules_next k s rest))
          ∙ ap (λ x. a.done ++ rules_from k x) (sym left)
          ∙ a.every;
      each = subst (λ rs. AllZip (IsRuleBuilt files sets') (a.done ++ rule_in k s) rs) (sym put)
          (rules_both files sets' a.done rules (rule_in k s) new wider each);
      used =
          λ j low.
          elim (cases_lt j (length sets)) [
            | inl lt ↦ here j (Contains-append_left (flat_map numbers_of_rule rules) (flat_map numbers_of_rule new) j (a.used j lt))
            | inr ge ↦ here j (Contains-append_right (flat_map numbers_of_rule rules) (flat_map numbers_of_rule new) j (fresh j ge low))
          ];
    }

-- at the end
pub all_built : (context : Context) (leaves : FileLeaves) (builder : Builder) (switches : Switches) (rules : List Rule) (n : ℕ) →
    length (statement_trees context.statements.now) ≤ n → AreRulesTo context leaves builder switches rules n →
    AreAllRules (files_of context) (statement_trees context.statements.now) (sets_of context builder.rows.items) rules
all_built context leaves builder switches rules n long a =
    record {
      each = subst (λ ms. AllZip (IsRuleBuilt (files_of context) (sets_of context builder.rows.items)) ms rules)
          (all_steps (files_of context) (statement_trees context.statements.now) n long a.done a.every) a.each;
      used = a.used;
      formed = a.sound.formed;
    }
