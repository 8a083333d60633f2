use Rattle.std.proofs.Common.{length, ap, arith, rules}
use Rattle.rbbi_model.specs.Answers.{Following}
use Rattle.rbbi_session.proofs.Answering.{no_following}
use Rattle.rbbi_filter.proofs.Covering.{covers}
use Rattle.rbbi_filter.proofs.Answering.{answered}
use Rattle.rbbi_filter.proofs.through.ThroughWalk.following.Goals as goal

pub returns-then-o-len : goal.returns-then-o-len
returns-then-o-len g c =
    answered c.self.view_is (Following c.args.o) _
    (no_following _ _ (covers (g.M.Moves.session c.self.inside.moves)) (g.M.Moves.session c.self.inside.moves).state.cursor c.args.o _ (omega (arith, c.if-o-len.true, c.len.ensures.exact, ap length c.text.ensures)) c.to_end.ensures.end)
    (g.M.Moves.session c.to_end.new.self) _ _ c.to_end.ensures.moved (search rules)
