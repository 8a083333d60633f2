use Rattle.std.proofs.Common.{◌≡◌, ◌+◌, ◌≤◌, max, ◌&&◌, not, true, false, Some, [], ◌∷◌, length, slice_get, slice_index, if◌then◌else◌, sym, refl}
use Rattle.std.proofs.Common.{ap, ◌∙◌, subst, arith}
use Rattle.std.specs.Option.{option_map, option_map_or}
use Rattle.std.specs.List.{AllZip}
use Rattle.std.proofs.lemmas.Grind.{get_or_default_zero}
use Rattle.std.proofs.lemmas.List.{append-nil}
use Rattle.rbbi_tree.specs.Trees.{StatementTree, nothing, control, assign, rule}
use Rattle.rbbi_tree.specs.Values.{statement_trees, expr_tree, rest_tree}
use Rattle.rbbi_resolve.specs.Expressions.{meaning_of_expr, height_of_expr}
use Rattle.rbbi_resolve.specs.Files.{RuleMeaning, context_after, after_control, rule_in}
use Rattle.rbbi_resolve.specs.inner.Contexts.{sets_of, files_of, division_of, context_of}
use Rattle.rbbi_resolve.specs.inner.Switchings.{AreSwitches}
use Rattle.rbbi_resolve.specs.inner.OwnLeaves.{leaves_of_expr, leaves_of_rest}
use Rattle.rbbi_resolve.specs.declared.switches.Switches.{Switches}
use Rattle.rbbi_resolve.specs.declared.rules.Rule.{Rule}
use Rattle.rbbi_resolve.specs.inner.Builders.{IsPart, IsSetRow, StandFrom}
use Rattle.rbbi_resolve.specs.inner.RulesSoFar.{IsRuleBuilt, AreRulesTo}
use Rattle.rbbi_resolve.proofs.Steps.{tree_at, meant}
use Rattle.rbbi_resolve.proofs.Heights.{rule_is_low}
use Rattle.rbbi_resolve.proofs.Building.{part_more, stand_parts, goes_nowhere, goes_further}
use Rattle.rbbi_resolve.proofs.RulesBuilt.{statement_built, rule_fresh}
use Rattle.rbbi_resolve.proofs.Ending.{switches_kept}
use Rattle.rbbi_resolve.proofs.active.add_statement.Goals as goal
use Rattle.rbbi_resolve.proofs.active.add_statement.Goals.{After-get, In-Rule}

-- a statement that makes no rule
adds_none : (c : After-get) (s : StatementTree) (switches : Switches) →
    slice_get (statement_trees c.args.context.now.statements.now) c.args.context.now.limit ≡ Some s →
    AreSwitches switches (context_after (context_of c.args.context.now) s) →
    AllZip (IsRuleBuilt (files_of c.args.context.now) (sets_of c.args.context.now c.args.builder.now.rows.items))
    (rule_in (context_of c.args.context.now) s) [] →
    AreRulesTo c.args.context.now c.args.leaves.now c.args.builder.now switches c.args.rules.now.items (c.args.context.now.limit + 1)
adds_none c s switches at switch none =
    let context = c.args.context.now in
    let builder = c.args.builder.now in
    let rules = c.args.rules.now.items in
    statement_built context c.args.leaves.now builder builder c.args.switches.now switches rules rules [] context.limit s c.requires.rules at
    (goes_nowhere context c.args.leaves.now builder c.requires.rules.sound) switch none (sym (append-nil rules)) (λ k low high. absurd (omega arith))

pub returns-in-Nothing : goal.returns-in-Nothing
returns-in-Nothing c =
    adds_none (goal.at.returns-in-Nothing c).After-get nothing c.args.switches.now
    (tree_at c.args.context.now.statements.now c.args.context.now.limit _ (c.get.ensures ∙ ap Some c.in-Nothing.is)) c.requires.rules.switched tt

pub returns-in-Assign : goal.returns-in-Assign
returns-in-Assign c =
    let context = c.args.context.now in
    let expr = expr_tree c.in-Assign.expr in
    adds_none (goal.at.returns-in-Assign c).After-get (assign c.in-Assign.name c.in-Assign.place expr) c.args.switches.now
    (tree_at context.statements.now context.limit _ (c.get.ensures ∙ ap Some c.in-Assign.is))
    (switches_kept c.args.switches.now (context_of context) c.in-Assign.name expr c.requires.rules.switched) tt

pub returns-in-Control : goal.returns-in-Control
returns-in-Control c =
    let context = c.args.context.now in
    let k = context_of context in
    adds_none (goal.at.returns-in-Control c).After-get (control c.in-Control.name c.in-Control.place) c.after.result
    (tree_at context.statements.now context.limit _ (c.get.ensures ∙ ap Some c.in-Control.is))
    (subst (λ t. AreSwitches c.after.result (after_control k t)) c.as_str.ensures.bytes (c.after.ensures k c.requires.rules.switched)) tt

-- the statement of a rule
rule_at : (c : In-Rule) → slice_get (statement_trees c.args.context.now.statements.now) c.args.context.now.limit ≡ Some
    (rule c.in-Rule.place c.in-Rule.no_chain_in (expr_tree c.in-Rule.front) c.in-Rule.slash (rest_tree c.in-Rule.rest) c.in-Rule.tag)
rule_at c = tree_at c.args.context.now.statements.now c.args.context.now.limit _ (c.get.ensures ∙ ap Some c.in-Rule.is)

-- what it means, if it is active
abbrev meaning : (c : In-Rule) → RuleMeaning
meaning c =
    meant (context_of c.args.context.now) c.in-Rule.place c.in-Rule.no_chain_in (expr_tree c.in-Rule.front) (rest_tree c.in-Rule.rest) c.in-Rule.tag

pub returns-then-not-switches : goal.returns-then-not-switches
returns-then-not-switches c =
    let context = c.args.context.now in
    let here = (goal.at.returns-then-not-switches c).In-Rule in
    let inactive : (context_of context).active ≡ false = sym c.requires.rules.switched.active ∙ c.if-not-switches.true in
    adds_none (goal.at.returns-then-not-switches c).After-get _ c.args.switches.now (rule_at here) c.requires.rules.switched
    (subst (λ b. AllZip (IsRuleBuilt (files_of context) (sets_of context c.args.builder.now.rows.items)) (if b then meaning here ∷ [] else []) [])
    (sym inactive) tt)

-- its leaves stand from the first one on
stand : (c : In-Rule) →
    StandFrom c.args.context.now c.args.leaves.now (slice_index c.args.leaves.now.firsts.now.items c.args.context.now.limit)
    (leaves_of_expr (context_of c.args.context.now) (expr_tree c.in-Rule.front))
    × StandFrom c.args.context.now c.args.leaves.now
    (slice_index c.args.leaves.now.firsts.now.items c.args.context.now.limit
    + length (leaves_of_expr (context_of c.args.context.now) (expr_tree c.in-Rule.front)))
    (leaves_of_rest (context_of c.args.context.now) (rest_tree c.in-Rule.rest))
stand c =
    let context = c.args.context.now in
    stand_parts (IsSetRow (files_of context) (division_of context)) c.args.leaves.now.rows.now.items _ _ _ (c.requires.ready.stand context.limit _ (rule_at c))

pub tree_of_expr-requires-clause-stand : goal.tree_of_expr-requires-clause-stand
tree_of_expr-requires-clause-stand c =
    let context = c.args.context.now in
    let firsts = c.args.leaves.now.firsts.now.items in
    let first : c.index.result.now ≡ slice_index firsts context.limit =
    c.index.ensures ∙ get_or_default_zero firsts context.limit c.index.result.now (omega (arith, c.requires.ready.long, c.requires.inside)) in
    subst (λ n. StandFrom context c.args.leaves.now n (leaves_of_expr (context_of context) (expr_tree c.in-Rule.front))) (sym first)
    (stand (goal.at.tree_of_expr-requires-clause-stand c).In-Rule).0

pub tree_of_rest-requires-clause-stand : goal.tree_of_rest-requires-clause-stand
tree_of_rest-requires-clause-stand c =
    let context = c.args.context.now in
    let firsts = c.args.leaves.now.firsts.now.items in
    let front = leaves_of_expr (context_of context) (expr_tree c.in-Rule.front) in
    let first : c.index.result.now ≡ slice_index firsts context.limit =
    c.index.ensures ∙ get_or_default_zero firsts context.limit c.index.result.now (omega (arith, c.requires.ready.long, c.requires.inside)) in
    subst (λ n. StandFrom context c.args.leaves.now n (leaves_of_rest (context_of context) (rest_tree c.in-Rule.rest)))
    (sym (c.in_ok-front-in-Rule.ensures.moved ∙ ap (λ n. n + length front) first)) (stand (goal.at.tree_of_rest-requires-clause-stand c).In-Rule).1

-- it is not too tall
low : (c : In-Rule) → c.args.switches.now.active ≡ true →
    max (height_of_expr (context_of c.args.context.now) (expr_tree c.in-Rule.front))
    (option_map_or (height_of_expr (context_of c.args.context.now)) (rest_tree c.in-Rule.rest) 0) ≤ 256
low c active =
    let context = c.args.context.now in
    let r = c.requires.rules in
    rule_is_low (files_of context) (statement_trees context.statements.now) r.done context.limit _ _ _ _ _ _ r.every (rule_at c)
    (sym r.switched.active ∙ active) c.requires.low

pub tree_of_expr-requires-clause-low : goal.tree_of_expr-requires-clause-low
tree_of_expr-requires-clause-low c =
    let low = low (goal.at.tree_of_expr-requires-clause-low c).In-Rule c.if-not-switches.false in
    omega arith

pub tree_of_rest-requires-clause-low : goal.tree_of_rest-requires-clause-low
tree_of_rest-requires-clause-low c =
    let low = low (goal.at.tree_of_rest-requires-clause-low c).In-Rule c.if-not-switches.false in
    omega arith

pub returns-in_ok-push-in-Rule : goal.returns-in_ok-push-in-Rule
returns-in_ok-push-in-Rule c =
    let context = c.args.context.now in
    let leaves = c.args.leaves.now in
    let files = files_of context in
    let start = c.args.builder.now in
    let middle = c.tree_of_expr.new.self in
    let last = c.tree_of_rest.new.builder in
    let here = (goal.at.returns-in_ok-push-in-Rule c).In-Rule in
    let r = c.requires.rules in
    let k = context_of context in
    let front = meaning_of_expr k (expr_tree c.in-Rule.front) in
    let active : k.active ≡ true = sym r.switched.active ∙ c.if-not-switches.false in
    let new : Rule = record {
      front = c.in_ok-front-in-Rule.front;
      rest = c.in_ok-rest-in-Rule.rest;
      chained_into = c.is_chained-chained_into.result;
      tag = c.in-Rule.tag;
      place = c.in-Rule.place;
    } in
    let on = c.in_ok-rest-in-Rule.ensures.on in
    let own = c.in_ok-front-in-Rule.ensures.built in
    let behind = c.in_ok-rest-in-Rule.ensures.built in
    let built : IsRuleBuilt files (sets_of context last.rows.items) (meaning here) new =
    record {
      front = subst (λ ss. IsPart files ss front c.in_ok-front-in-Rule.front) (sym on.is)
          (part_more files (sets_of context middle.rows.items) on.more front c.in_ok-front-in-Rule.front own.part);
      rest = behind.rest;
      chained_into = c.is_chained-chained_into.ensures ∙ ap (λ b. b && not c.in-Rule.no_chain_in) r.switched.chained;
      tag = refl;
      place = refl;
    } in
    statement_built context leaves start last c.args.switches.now c.args.switches.now c.args.rules.now.items c.push.new.self.items (new ∷ []) context.limit _
    r (rule_at here) (goes_further context leaves start middle last c.in_ok-front-in-Rule.ensures.on on) r.switched
    (subst (λ b. AllZip (IsRuleBuilt files (sets_of context last.rows.items)) (if b then meaning here ∷ [] else []) (new ∷ [])) (sym active) (built, tt))
    c.in_ok-push-in-Rule.ensures.items
    (rule_fresh files (length (sets_of context start.rows.items)) (length (sets_of context middle.rows.items)) (sets_of context middle.rows.items)
    (sets_of context last.rows.items) front (option_map (meaning_of_expr k) (rest_tree c.in-Rule.rest)) new refl own behind)
