use Rattle.std.proofs.Common.{Option, sym, subst, MatchResult, List}
use Rattle.rbbi_props.specs.Rows.{File}
use Rattle.rbbi_c.specs.declared.held.Held.{Held}
use Rattle.rbbi_c.specs.Faults.{told}
use Rattle.rbbi_c.specs.Compiling.{IsCompiledFrom, IsNotCompiled, IsCompiledBy, IsNotCompiledBy}
use Rattle.rbbi_c.proofs.Compiled.{by_none}
use Rattle.rbbi_c.proofs.compiling.compiled_by.Goals as goal

pub returns-in-None-clause-told : goal.returns-in-None-clause-told
returns-in-None-clause-told c =
    let before = told c.args.fault.now c.args.name.now in let after = told c.compiled.new.fault c.compiled.new.name in
    let ignored = c.args.ignored in let rules = c.args.rules.now in
    subst (λ (held : Option Held). MatchResult c.compiled.result (IsCompiledBy held ignored rules before after) (IsNotCompiledBy held ignored rules before
    after))
    (sym c.in-None.ensures.held)
    (by_none ignored rules before after c.compiled.result
    (subst (λ (files : List File). MatchResult c.compiled.result (IsCompiledFrom files ignored rules before after) (IsNotCompiled files ignored rules before
    after))
    c.new-none.ensures c.compiled.ensures.told))
