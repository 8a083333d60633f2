use Rattle.std.proofs.Common.{refl, ap, ◌∙◌}
use Rattle.rbbi_cache.specs.Kept.{KeptRuns}
use Rattle.rbbi_cache.proofs.Keeping.{keeps_gone_on, keeps_beside, beside_rises}
use Rattle.rbbi_cache.proofs.Quieting.{none_quiet}
use Rattle.rbbi_cache.proofs.Apart.{all_from_start}
use Rattle.rbbi_cache.proofs.cache.Cache.find_on.Goals as goal

pub add-requires : goal.add-requires
add-requires g c =
    let at = c.requires.known in
    let goes = c.go_on-entry.ensures.gone_on at.before at.after at.run (ap (λ (s : KeptRuns). s.runs) c.self.view_is ∙ at.whole) at.number in
    beside_rises c.args.table.now c.valid.ensures (g.T.Chars.characters c.args.text.now) c.args.i c.args.self.now.runs c.requires.are_true at.before at.run
    at.after at.whole c.go_on-entry.result.0 c.go_on-entry.result.1 c.go_on-entry.new.self c.go_on-entry.new.spare goes
    c.if-not-is_kept.true

pub returns-then-not-is_kept-clause-kept : goal.returns-then-not-is_kept-clause-kept
returns-then-not-is_kept-clause-kept g c =
    let at = c.requires.known in
    let goes = c.go_on-entry.ensures.gone_on at.before at.after at.run (ap (λ (s : KeptRuns). s.runs) c.self.view_is ∙ at.whole) at.number in
    keeps_beside c.args.table.now c.valid.ensures (g.T.Chars.characters c.args.text.now) c.args.i c.args.self.now.runs c.requires.are_true at.before at.run
    at.after at.whole c.go_on-entry.result.0 c.go_on-entry.result.1 c.go_on-entry.new.self c.go_on-entry.new.spare goes
    c.if-not-is_kept.true c.add.new.self c.add.ensures

pub invariant_of-self : goal.invariant_of-self
invariant_of-self g c = (none_quiet _ 0 _ refl, all_from_start _ 0 _ refl)

pub returns-clause-kept : goal.returns-clause-kept
returns-clause-kept g c =
    let at = c.requires.known in
    let goes = c.go_on-entry.ensures.gone_on at.before at.after at.run (ap (λ (s : KeptRuns). s.runs) c.self.view_is ∙ at.whole) at.number in
    keeps_gone_on c.args.table.now c.valid.ensures (g.T.Chars.characters c.args.text.now) c.args.i c.args.self.now.runs c.requires.are_true at.before at.run
    at.after at.whole c.go_on-entry.result.0 c.go_on-entry.result.1 c.go_on-entry.new.self c.go_on-entry.new.spare goes
    c.if-not-is_kept.false c.move_to_front.new.self (c.move_to_front.ensures at.before at.after goes.run goes.whole at.number)
