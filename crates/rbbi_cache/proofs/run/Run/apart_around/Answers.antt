use Rattle.std.proofs.Common.{◌≡◌, ◌-◌, length, get_or, ap, ◌∙◌, refl, arith}
use Rattle.rbbi_cache.proofs.Apart.{from_start, apart_past, apart_up_to}
use Rattle.rbbi_cache.proofs.run.Run.apart_around.Goals as goal

pub returns-then-first-i-clause-apart : goal.returns-then-first-i-clause-apart
returns-then-first-i-clause-apart c =
    let is : c.index-entries-0.result ≡ get_or c.args.self.now.entries 0 c.index-entries-0.result =
    c.index-entries-0.is ∙ ap (λ l. get_or l 0 c.index-entries-0.result) c.entries-entries.ensures in
    apart_past c.args.self.now c.args.from c.min.result c.index-entries-0.result c.requires
    (omega (arith, c.min.ensures, ap (λ e. e.at) c.first.view_is, ap (λ e. e.at) is))

pub returns-then-last-i-clause-apart : goal.returns-then-last-i-clause-apart
returns-then-last-i-clause-apart c =
    let is : c.index-entries-entries.result ≡ get_or c.args.self.now.entries (length c.args.self.now.entries - 1) c.index-entries-entries.result =
    c.index-entries-entries.is ∙ ap (λ l. get_or l (length l - 1) c.index-entries-entries.result) c.entries-entries.ensures in
    apart_up_to c.args.self.now c.max.result c.args.to c.index-entries-entries.result c.requires
    (omega (arith, c.max.ensures, ap (λ e. e.at) c.last.view_is, ap (λ e. e.at) is))

pub returns-clause-apart : goal.returns-clause-apart
returns-clause-apart c = from_start c.args.from 0 c.args.self.now refl
