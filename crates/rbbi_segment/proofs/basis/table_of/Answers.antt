use Rattle.std.proofs.Common.{refl, sym, subst}
use Rattle.std.specs.Prelude.{IfOk}
use Rattle.rbbi_segment.specs.Tables.{IsTableOf}
use Rattle.rbbi_segment.proofs.basis.table_of.Goals as goal

pub returns-in_ok-built_in-in-BuiltIn-clause-table : goal.returns-in_ok-built_in-in-BuiltIn-clause-table
returns-in_ok-built_in-in-BuiltIn-clause-table g c = rw c.in-BuiltIn.is (c.in_ok-built_in-in-BuiltIn.ensures, refl)

pub returns-in-Rules-clause-table : goal.returns-in-Rules-clause-table
returns-in-Rules-clause-table g c =
    subst (λ basis. IfOk c.compiled_over.result (λ table. IsTableOf (g.F.Files.contents c.args.files.now) (g.R.Read.remaining c.args.input.now)
    c.args.request.now basis table (g.R.Read.remaining c.compiled_over.new.input))) (sym c.in-Rules.is) c.compiled_over.ensures.table

pub returns-in-Table-clause-table : goal.returns-in-Table-clause-table
returns-in-Table-clause-table g c =
    subst (λ basis. IfOk c.read_spelled.result (λ table. IsTableOf (g.F.Files.contents c.args.files.now) (g.R.Read.remaining c.args.input.now)
    c.args.request.now basis table (g.R.Read.remaining c.read_spelled.new.input))) (sym c.in-Table.is) c.read_spelled.ensures.table
