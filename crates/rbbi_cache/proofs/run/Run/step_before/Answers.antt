use Rattle.std.proofs.Common.{◌≡◌, ◌-◌, get_or, sym, ap, ◌∙◌, subst, length, arith}
use Rattle.rbbi_cache.specs.Shown.{IsShownBefore}
use Rattle.rbbi_cache.proofs.Showing.{one_before}
use Rattle.rbbi_cache.proofs.run.Run.step_before.Goals as goal

pub returns : goal.returns
returns c x =
    let same = c.entries-entries.ensures in
    let k = c.args.hint.now in
    let next : c.index-entries-k.result ≡ get_or c.args.self.now.entries k c.index-entries-k.result =
    c.index-entries-k.is ∙ ap (λ l. get_or l k c.index-entries-k.result) same in
    let is : c.index-entries-k-2.result ≡ get_or c.args.self.now.entries (k - 1) c.index-entries-k-2.result =
    c.index-entries-k-2.is ∙ ap (λ l. get_or l (k - 1) c.index-entries-k-2.result) same in
    subst (λ e. IsShownBefore x c.args.self.now c.args.i e) (sym is)
    (one_before x c.args.self.now c.args.i k (k - 1) c.index-entries-k.result c.index-entries-k-2.result c.requires (omega arith)
    (omega (arith, ap length same)) (omega (arith, ap (λ e. e.at) next, ap (λ e. e.at) c.next.view_is)))
