use Rattle.std.proofs.Common.{refl, inl, inr, ⊎_elim}
use Rattle.std.specs.Prelude.{Ok, Err}
use Rattle.std.proofs.lemmas.Result.{err_from_is_err_and}
use Rattle.rbbi_command.specs.Requests.{options_in}
use Rattle.rbbi_command.specs.Inputs.{inputs_in}
use Rattle.rbbi_tool.proofs.Bases.{read_serves}
use Rattle.rbbi_tool.proofs.command.compile.canonical_from.Goals as goal

pub returns-in_err-props : goal.returns-in_err-props
returns-in_err-props g c =
    let p = err_from_is_err_and c.from_residual.result c.from_residual.ensures.1 in
    rw (p.1, p.2) (⊎_elim inl (λ is. inr (inl is)) c.in_err-props.ensures.exact)

pub returns-in_err-table : goal.returns-in_err-table
returns-in_err-table g c =
    let p = err_from_is_err_and c.from_residual-in_err-table.result c.from_residual-in_err-table.ensures.1 in
    rw (p.1, p.2)
    (read_serves (options_in c.args.options.now) (inputs_in c.args.inputs.now) c.in_ok-props.ensures.exact c.in_ok-props.props c.bytes.result.now
    (Err c.in_err-table.field-0.0) c.in_ok-props.ensures.files c.bytes.ensures.bytes c.in_err-table.ensures)

pub canonical-requires : goal.canonical-requires
canonical-requires g c =
    let served = c.in_ok-table.ensures in
    c.compiled_tables_have_canonical.ensures c.in_ok-table.table served.0 served.1.2.lawful served.2

pub returns-in_err-canonical : goal.returns-in_err-canonical
returns-in_err-canonical g c =
    let p = err_from_is_err_and c.from_residual-in_err-canonical.result c.from_residual-in_err-canonical.ensures.1 in
    rw (p.1, p.2) (inl refl)

pub returns : goal.returns
returns g c =
    let served =
    read_serves (options_in c.args.options.now) (inputs_in c.args.inputs.now) c.in_ok-props.ensures.exact c.in_ok-props.props c.bytes.result.now
    (Ok c.in_ok-table.table) c.in_ok-props.ensures.files c.bytes.ensures.bytes c.in_ok-table.ensures
    in
    (served.0, served.1, record { table = c.in_ok-table.table; compiled = served.2; made = c.in_ok-canonical.ensures })
