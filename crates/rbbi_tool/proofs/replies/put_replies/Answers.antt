use Rattle.std.proofs.Common.{sym, ap, map, ◌∙◌}
use Rattle.rbbi_model.specs.Scripts.{opened}
use Rattle.rbbi_model.specs.Lines.{all_reply_lines}
use Rattle.rbbi_session.specs.UnitWalks.{unit_view}
use Rattle.rbbi_script.specs.Meaning.{meaning}
use Rattle.rbbi_script.specs.Performing.{replies_in}
use Rattle.rbbi_tool.specs.Filters.{kind_in}
use Rattle.rbbi_tool.specs.Steps.{replies_cost}
use Rattle.rbbi_tool.proofs.Emitting.{puts_as}
use Rattle.rbbi_tool.proofs.Replying.{opened_puts, unit_setting, unit_state, unit_costs}
use Rattle.rbbi_tool.proofs.replies.put_replies.Goals as goal

pub returns-in_ok-session-in-None : goal.returns-in_ok-session-in-None
returns-in_ok-session-in-None g c =
    let commands = map meaning c.args.commands.now in
    let is = sym c.in-None.is in
    puts_as (ap (λ f. all_reply_lines (replies_in (kind_in f c.args.unit c.args.table.now) (opened c.args.text) (map meaning c.args.commands.now))) is)
    (unit_costs c.args.table.now c.args.unit c.args.text commands
    ∙ ap (λ f. replies_cost f c.args.unit c.args.table.now c.args.text (map meaning c.args.commands.now)) is)
    (opened_puts unit_view c.in_ok-session-in-None.session _ c.args.text (unit_setting _ c.args.table.now c.args.text _ c.in_ok-session-in-None.ensures)
    (unit_state _ c.args.table.now c.args.text _ c.in_ok-session-in-None.ensures) commands c.put_replies_of.ensures)

pub returns-in-Some : goal.returns-in-Some
returns-in-Some g c =
    let is = sym c.in-Some.is in
    puts_as (ap (λ f. all_reply_lines (replies_in (kind_in f c.args.unit c.args.table.now) (opened c.args.text) (map meaning c.args.commands.now))) is)
    (ap (λ f. replies_cost f c.args.unit c.args.table.now c.args.text (map meaning c.args.commands.now)) is) c.put_replies_through.ensures
