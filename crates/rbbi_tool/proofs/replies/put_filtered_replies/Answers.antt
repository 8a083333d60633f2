use Rattle.std.proofs.Common.{map, ap, ◌∙◌}
use Rattle.rbbi_script.specs.Meaning.{meaning}
use Rattle.rbbi_model.specs.Scripts.{opened}
use Rattle.rbbi_filter.specs.declared.filter.Filter.TheVariants.{Suppressing}
use Rattle.rbbi_filter.specs.FilterSessions.{filter_view}
use Rattle.rbbi_tool.proofs.Replying.{opened_puts, filter_setting}
use Rattle.rbbi_tool.proofs.replies.put_filtered_replies.Goals as goal

pub returns : goal.returns
returns g c =
    opened_puts filter_view c.open-session.result _ c.args.text
    (filter_setting _ _ _ _ c.open-session.ensures.opened ∙ ap (λ t. record { filter = Suppressing c.args.list.now; table = t }) c.in_ok-session.ensures.table_is)
    (c.open-session.ensures.opened.state_is ∙ ap (λ s. opened s.text) c.in_ok-session.ensures.state_is) (map meaning c.args.commands.now)
    c.put_replies_of.ensures
