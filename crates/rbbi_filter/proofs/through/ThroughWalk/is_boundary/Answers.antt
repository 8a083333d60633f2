use Rattle.std.proofs.Common.{length, ap, arith, rules}
use Rattle.rbbi_model.specs.Answers.{IsBoundary}
use Rattle.rbbi_session.proofs.Answering.{is_start, is_behind, whether}
use Rattle.rbbi_filter.proofs.Covering.{covers}
use Rattle.rbbi_filter.proofs.Answering.{answered}
use Rattle.rbbi_filter.proofs.through.ThroughWalk.is_boundary.Goals as goal

pub returns-then-o-eq0 : goal.returns-then-o-eq0
returns-then-o-eq0 g c =
    answered c.self.view_is (IsBoundary c.args.o) _
    (is_start _ _ (covers (g.M.Moves.session c.self.inside.moves)) (g.M.Moves.session c.self.inside.moves).state.cursor c.args.o (omega (arith, c.if-o-eq0.true)))
    (g.M.Moves.session c.to_start.new.self) _ _ c.to_start.ensures (record { more = omega arith; cost = omega arith })

pub returns-then-o-len : goal.returns-then-o-len
returns-then-o-len g c =
    answered c.self.view_is (IsBoundary c.args.o) _
    (is_behind _ _ (covers (g.M.Moves.session c.self.inside.moves)) (g.M.Moves.session c.self.inside.moves).state.cursor c.args.o _ (omega (arith, c.if-o-len.true, c.len.ensures.exact, ap length c.text.ensures)) c.to_end.ensures.end)
    (g.M.Moves.session c.to_end.new.self) _ _ c.to_end.ensures.moved (search rules)

pub returns : goal.returns
returns g c =
    answered c.self.view_is (IsBoundary c.args.o) _
    (whether _ _ (covers (g.M.Moves.session c.self.inside.moves)) (g.M.Moves.session c.self.inside.moves).state.cursor c.args.o _ (omega (arith, c.if-o-eq0.false)) c.past.ensures.first)
    (g.M.Moves.session c.past.new.self) _ _ c.past.ensures.moved (search rules)
