use Rattle.rbbi_command.specs.Requests.{options_in}
use Rattle.rbbi_command.specs.Inputs.{inputs_in}
use Rattle.rbbi_tool.proofs.Bases.{read_serves, compiled_serves, table_serves}
use Rattle.rbbi_tool.proofs.tables.table_behind.Goals as goal

pub returns-then-options-clause-table : goal.returns-then-options-clause-table
returns-then-options-clause-table g c =
    table_serves (options_in c.args.options.now) (inputs_in c.args.inputs.now) c.requires.passed c.args.options.now.by_table c.bytes.result.now
    c.read.result c.if-options.true c.bytes.ensures.bytes c.read.ensures

pub returns-clause-table : goal.returns-clause-table
returns-clause-table g c =
    let options = options_in c.args.options.now in
    let inputs = inputs_in c.args.inputs.now in
    compiled_serves options inputs c.requires.passed c.args.options.now.by_table c.table_of_rules.result c.if-options.false
    (read_serves options inputs c.requires.passed c.args.props.now c.bytes-2.result.now c.table_of_rules.result c.requires.files c.bytes-2.ensures.bytes
    c.table_of_rules.ensures)
