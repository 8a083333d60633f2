-- The file of the property's runs is added.
use Rattle.std.proofs.Common.{sym, subst, ◌∙◌, map, arith}
use Rattle.rbbi_props.specs.LooseForms.{loose}
use Rattle.rbbi_builtin.specs.Filling.{AddsBuiltIn, IsAnswered}
use Rattle.rbbi_builtin.proofs.Filling.{AddsBuiltIn-none, AddsBuiltIn-one, has_file-last, on_ok, either_way}
use Rattle.rbbi_builtin.proofs.fill.add_named.Goals as goal

pub returns-clause-filled : goal.returns-clause-filled
returns-clause-filled c =
    on_ok c.add_runs.result _ (IsAnswered c.add_runs.new.self c.args.name.now)
    (λ adds p named wanted. has_file-last c.args.files.now c.add_runs.new.self adds.rows (loose c.args.name.now) adds.added) c.add_runs.ensures.added

pub returns-clause-behind : goal.returns-clause-behind
returns-clause-behind c =
    either_way c.add_runs.result _ _ (AddsBuiltIn c.args.files.now c.add_runs.new.self) c.add_runs.ensures.added c.add_runs.ensures.unchanged
    (λ adds. AddsBuiltIn-one c.in-Some.property c.args.name.now c.runs.result.now (map (λ names. names.now) c.values.result.now) c.args.files.now
    c.add_runs.new.self adds c.runs.ensures c.values.ensures (sym c.property_named.ensures ∙ c.in-Some.is)
    (grind (arith, c.wants_file.ensures, c.if-not-wants_file.false)) (sym c.in_ok-has_file.ensures ∙ c.if-branch.false))
    (λ same. subst (AddsBuiltIn c.args.files.now) (sym same) (AddsBuiltIn-none c.args.files.now))
