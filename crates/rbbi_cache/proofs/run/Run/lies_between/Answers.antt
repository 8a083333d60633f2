use Rattle.std.proofs.Common.{◌≡◌, ◌-◌, ◌<◌, length, get_or, ap, ◌∙◌, arith}
use Rattle.std.proofs.lemmas.Bool.{ltb-true}
use Rattle.rbbi_cache.proofs.Apart.{all_between}
use Rattle.rbbi_cache.proofs.run.Run.lies_between.Goals as goal

pub returns-then-first-from : goal.returns-then-first-from
returns-then-first-from c so =
    let short_of : c.last.inside.at < c.args.to = ltb-true c.last.inside.at c.args.to so in
    let first : c.index-entries-0.result ≡ get_or c.args.self.now.entries 0 c.index-entries-0.result =
    c.index-entries-0.is ∙ ap (λ l. get_or l 0 c.index-entries-0.result) c.entries-entries.ensures in
    let last : c.index-entries-entries.result ≡ get_or c.args.self.now.entries (length c.args.self.now.entries - 1) c.index-entries-entries.result =
    c.index-entries-entries.is ∙ ap (λ l. get_or l (length l - 1) c.index-entries-entries.result) c.entries-entries.ensures in
    all_between c.args.self.now.entries c.args.from c.args.to c.index-entries-0.result c.index-entries-entries.result c.requires
    (omega (arith, c.if-first-from.true, ap (λ e. e.at) c.first.view_is, ap (λ e. e.at) first))
    (omega (arith, short_of, ap (λ e. e.at) c.last.view_is, ap (λ e. e.at) last))
