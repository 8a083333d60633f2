use Rattle.std.proofs.Common.{◌≡◌, ◌-◌, ◌≤◌, suc, take, ap, subst, arith}
use Rattle.std.specs.List.{AllByRecursion}
use Rattle.rbbi_cache.proofs.Showing.{up_to_one, past_one}
use Rattle.rbbi_cache.proofs.shown.are_up_to.Goals as goal

pub returns : goal.returns
returns c so =
    let less : suc (c.args.count - 1) ≡ c.args.count = omega arith in
    record {
      within = omega arith;
      up_to = subst (λ n. AllByRecursion (λ e. e.at ≤ c.args.i) (take n c.args.entries.now)) less
          (up_to_one c.args.entries.now c.args.i (c.args.count - 1) c.index-entries-count.result c.requires (omega arith)
          (omega (arith, ap (λ e. e.at) c.index-entries-count.is, ap (λ e. e.at) c.last.view_is)));
      past = past_one c.args.entries.now c.args.i c.args.count c.index-entries-count-2.result c.requires (omega arith)
          (omega (arith, ap (λ e. e.at) c.index-entries-count-2.is, ap (λ e. e.at) c.next.view_is));
    }
