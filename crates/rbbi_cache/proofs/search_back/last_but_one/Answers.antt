use Rattle.std.proofs.Common.{subst, arith}
use Rattle.rbbi_cache.proofs.Backward.{stands_there}
use Rattle.rbbi_cache.specs.inner.Lists.{StandsLastButOne}
use Rattle.rbbi_cache.proofs.search_back.last_but_one.Goals as goal

pub returns : goal.returns
returns c =
    subst (λ l. StandsLastButOne l c.index-entries-entries.result) c.entries-entries.ensures
    (stands_there c.entries-entries.result.now (omega arith) c.index-entries-entries.result c.index-entries-entries.is)
