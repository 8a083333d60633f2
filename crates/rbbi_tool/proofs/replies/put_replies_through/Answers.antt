use Rattle.std.proofs.Common.{sym, ap, map}
use Rattle.std.specs.Prelude.{None}
use Rattle.rbbi_model.specs.Scripts.{opened}
use Rattle.rbbi_model.specs.Lines.{all_reply_lines}
use Rattle.rbbi_session.specs.Walks.{costs_in}
use Rattle.rbbi_script.specs.Meaning.{meaning}
use Rattle.rbbi_script.specs.Performing.{replies_in}
use Rattle.rbbi_filter.specs.FilterSessions.{filter_kind}
use Rattle.rbbi_tool.proofs.Emitting.{puts_as}
use Rattle.rbbi_tool.proofs.replies.put_replies_through.Goals as goal

pub returns-in-Suppressing : goal.returns-in-Suppressing
returns-in-Suppressing g c =
    let is = sym c.in-Suppressing.is in
    puts_as (ap (λ f. all_reply_lines (replies_in (filter_kind f c.args.table.now) (opened c.args.text) (map meaning c.args.commands.now))) is)
    (ap (λ f. costs_in (filter_kind f c.args.table.now) (opened c.args.text) None (map meaning c.args.commands.now)) is) c.put_filtered_replies.ensures

pub returns-in-Turning : goal.returns-in-Turning
returns-in-Turning g c =
    let is = sym c.in-Turning.is in
    puts_as (ap (λ f. all_reply_lines (replies_in (filter_kind f c.args.table.now) (opened c.args.text) (map meaning c.args.commands.now))) is)
    (ap (λ f. costs_in (filter_kind f c.args.table.now) (opened c.args.text) None (map meaning c.args.commands.now)) is) c.put_tailored_replies.ensures
