use Rattle.std.proofs.Common.{◌<◌, length, drop, sym, subst}
use Rattle.std.specs.List.{AllByRecursion}
use Rattle.rbbi_cache.specs.Kept.{KeptRuns, NoneIsExtended}
use Rattle.rbbi_cache.proofs.Apart.{none_extended}
use Rattle.rbbi_cache.proofs.cache.Cache.count_extendable.Goals as goal

pub returns-then-not-is_empty-clause-others : goal.returns-then-not-is_empty-clause-others
returns-then-not-is_empty-clause-others c =
    subst (λ (s : KeptRuns). NoneIsExtended c.args.run.now (drop 1 s.runs)) c.self.view_is
    (none_extended c.self.inside.apart_from c.self.inside.apart_to c.args.run.now (c.lies_between.ensures c.if-lies_between.true) c.self.inside.runs
    (subst (λ (s : KeptRuns). AllByRecursion (λ r. 0 < length r.entries) s.runs) (sym c.self.view_is) c.requires.some) c.self.invariant.1)
