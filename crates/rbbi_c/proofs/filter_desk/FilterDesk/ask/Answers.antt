use Rattle.std.proofs.Common.{ap}
use Rattle.rbbi_c.specs.inner.FilterDesks.{session_of}
use Rattle.rbbi_c.proofs.ThroughDesks.{through_told, through_asked}
use Rattle.rbbi_c.proofs.filter_desk.FilterDesk.ask.Goals as goal
use Rattle.rbbi_c.proofs.filter_desk.FilterDesk.ask.Goals.{in-Suppressing, in-Turning}

pub returns-clause-told : goal.returns-clause-told
returns-clause-told g c =
    elim c.match-self.branch [
      | in-Suppressing w ↦ through_told c.args.asked (ap session_of w.in-Suppressing.is) c.self.view_is w.result-is w.answered_through.ensures.told
      | in-Turning w ↦ through_told c.args.asked (ap session_of w.in-Turning.is) c.self.view_is w.result-is w.answered_through-in-Turning.ensures.told
    ]

pub returns-clause-asked : goal.returns-clause-asked
returns-clause-asked g c =
    elim c.match-self.branch [
      | in-Suppressing w ↦
          through_asked c.args.asked (ap session_of w.in-Suppressing.is) c.self.view_is (ap (λ i. session_of i.session) w.self-inside-is) w.steps-is
          w.answered_through.ensures.asked
      | in-Turning w ↦
          through_asked c.args.asked (ap session_of w.in-Turning.is) c.self.view_is (ap (λ i. session_of i.session) w.self-inside-is) w.steps-is
          w.answered_through-in-Turning.ensures.asked
    ]
