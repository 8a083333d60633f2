use Rattle.std.proofs.Common.{map}
use Rattle.rbbi_script.specs.Meaning.{meaning}
use Rattle.rbbi_filter.specs.FilterSessions.{filter_view}
use Rattle.rbbi_tool.proofs.Replying.{opened_puts, filter_setting}
use Rattle.rbbi_tool.proofs.replies.put_tailored_replies.Goals as goal

pub returns : goal.returns
returns g c =
    opened_puts filter_view c.in_ok-session.session _ c.args.text
    (filter_setting _ _ c.args.text _ c.in_ok-session.ensures)
    c.in_ok-session.ensures.state_is (map meaning c.args.commands.now)
    c.put_replies_of.ensures
