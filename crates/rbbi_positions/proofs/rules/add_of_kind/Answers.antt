use Rattle.std.proofs.Common.{◌+◌, ◌||◌, [], sym, ap, ◌∙◌, arith}
use Rattle.rbbi_model.specs.Rules.{leaf_count}
use Rattle.rbbi_resolve.specs.RuleTrees.{tree_of}
use Rattle.rbbi_resolve.specs.RuleLists.{rule_of}
use Rattle.rbbi_bits.specs.BitRows.{row_bit}
use Rattle.rbbi_positions.specs.inner.Trees.{ends}
use Rattle.rbbi_positions.specs.inner.PositionKinds.{is_of_kind}
use Rattle.rbbi_positions.proofs.RuleFacts.{leaves_some, of_none, of_some}
use Rattle.rbbi_positions.proofs.rules.add_of_kind.Goals as goal

pub overflow_add-first : goal.overflow_add-first
overflow_add-first c = omega (arith, c.requires.short, c.requires.within [], c.count.ensures [], leaves_some [] c.args.rule.now c.in-Some.rest c.in-Some.is)

pub add_lasts-requires-in-Some-clause-within : goal.add_lasts-requires-in-Some-clause-within
add_lasts-requires-in-Some-clause-within c =
    λ sets. omega (arith, c.requires.within sets, c.count.ensures sets, leaves_some sets c.args.rule.now c.in-Some.rest c.in-Some.is)

pub returns-in-First : goal.returns-in-First
returns-in-First c = λ sets position.
    c.add_firsts.ensures sets position
    ∙ ap (λ kind. row_bit c.args.row.now position || is_of_kind kind position (rule_of sets c.args.rule.now) c.args.first) (sym c.in-First.is)

pub returns-in-FrontLast : goal.returns-in-FrontLast
returns-in-FrontLast c = λ sets position.
    c.add_lasts.ensures sets position
    ∙ ap (λ kind. row_bit c.args.row.now position || is_of_kind kind position (rule_of sets c.args.rule.now) c.args.first) (sym c.in-FrontLast.is)

pub returns-in-None : goal.returns-in-None
returns-in-None c = λ sets position.
    let front = tree_of sets c.args.rule.now.front in
    c.add_lasts-in-None.ensures sets position
    ∙ ap (λ x. row_bit c.args.row.now position || x)
    (sym (of_none sets c.args.rule.now (λ rest. ends rest (c.args.first + leaf_count front) position) (ends front c.args.first position) c.in-None.is))
    ∙ ap (λ kind. row_bit c.args.row.now position || is_of_kind kind position (rule_of sets c.args.rule.now) c.args.first) (sym c.in-Last.is)

pub returns-in-Some : goal.returns-in-Some
returns-in-Some c = λ sets position.
    let front = tree_of sets c.args.rule.now.front in
    c.add_lasts-in-Some.ensures sets position
    ∙ ap (λ n. row_bit c.args.row.now position || ends (tree_of sets c.in-Some.rest) (c.args.first + n) position) (c.count.ensures sets)
    ∙ ap (λ x. row_bit c.args.row.now position || x)
    (sym (of_some sets c.args.rule.now c.in-Some.rest (λ rest. ends rest (c.args.first + leaf_count front) position) (ends front c.args.first position)
    c.in-Some.is))
    ∙ ap (λ kind. row_bit c.args.row.now position || is_of_kind kind position (rule_of sets c.args.rule.now) c.args.first) (sym c.in-Last.is)
