use Rattle.std.proofs.Common.{◌≡◌, ◌-◌, ◌<◌, ◌≤◌, ltb, length, ap, ◌∙◌, arith}
use Rattle.rbbi_session.proofs.Answering.{first_up_to, none_behind}
use Rattle.rbbi_filter.specs.FilterSessions.{boundaries_of}
use Rattle.rbbi_filter.proofs.Covering.{covers}
use Rattle.rbbi_filter.proofs.Neighbours.{first_lies}
use Rattle.rbbi_filter.proofs.tailored.TurnedMoves.to_end.Goals as goal

pub returns-clause-end : goal.returns-clause-end
returns-clause-end g c =
    let session = c.args.self.now in
    let bs = boundaries_of c.args.self.now in
    let n = length c.args.self.now.state.text in
    let same : c.len-len.result ≡ n = c.len-len.ensures.exact ∙ ap (λ s. length s.state.text) c.self.view_is in
    let low : c.past.result ≤ n = first_up_to (λ p. ltb (c.len-len.result - 1) p) bs c.past.result n (none_behind n bs (covers session)) c.past.ensures.first in
    let high : c.len-len.result - 1 < c.past.result = first_lies bs (c.len-len.result - 1) c.past.result c.past.ensures.first in
    omega (arith, same, low, high, c.if-len-eq0.false)
