use Rattle.std.proofs.Common.{ap, arith}
use Rattle.rbbi_cache.specs.Kept.{KeptRuns}
use Rattle.rbbi_cache.proofs.Quieting.{unknown_to_all}
use Rattle.rbbi_cache.proofs.cache.Cache.step_on.Goals as goal

pub returns-clause-unknown : goal.returns-clause-unknown
returns-clause-unknown g c =
    unknown_to_all c.args.i c.step.result c.self.inside.runs c.args.self.now.runs (ap (λ (s : KeptRuns). s.runs) c.self.view_is) c.self.inside.quiet_from
    c.self.inside.quiet_to c.self.invariant.0 (omega arith) (omega arith) c.step.ensures.unknown
