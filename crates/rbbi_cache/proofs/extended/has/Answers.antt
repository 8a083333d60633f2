use Rattle.std.proofs.Common.{◌<◌, ap, subst, arith}
use Rattle.std.proofs.lemmas.Bool.{false≢true}
use Rattle.rbbi_cache.specs.inner.Shown.{AreUpTo}
use Rattle.rbbi_cache.proofs.Among.{none_there, is_there, last_there}
use Rattle.rbbi_cache.proofs.extended.has.Goals as goal

pub returns-then-k-eq0 : goal.returns-then-k-eq0
returns-then-k-eq0 c =
    let are : AreUpTo c.args.entries.now c.args.entry.now.at c.count_up_to-k.result =
    subst (λ n. AreUpTo c.args.entries.now n c.count_up_to-k.result) (ap (λ e. e.at) c.entry.view_is) c.count_up_to-k.ensures in (
      λ so. absurd (false≢true so),
      λ here. absurd (none_there c.args.entries.now c.count_up_to-k.result c.args.entry.now are c.if-k-eq0.true here),
    )

pub returns : goal.returns
returns c =
    let are : AreUpTo c.args.entries.now c.args.entry.now.at c.count_up_to-k.result =
    subst (λ n. AreUpTo c.args.entries.now n c.count_up_to-k.result) (ap (λ e. e.at) c.entry.view_is) c.count_up_to-k.ensures in
    let some : 0 < c.count_up_to-k.result = omega arith in (
      λ so. is_there c.args.entries.now c.count_up_to-k.result c.args.entry.now are c.index-entries-k.result some c.index-entries-k.is (c.is_same.ensures.0 so),
      λ here. c.is_same.ensures.1 (last_there c.args.entries.now c.count_up_to-k.result c.args.entry.now are c.requires c.index-entries-k.result some
          c.index-entries-k.is here),
    )
