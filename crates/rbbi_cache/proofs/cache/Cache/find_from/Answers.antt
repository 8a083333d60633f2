use Rattle.std.proofs.Common.{[], refl, sym, subst}
use Rattle.rbbi_cache.specs.Kept.{KeptRuns, AreTrueRuns}
use Rattle.rbbi_cache.specs.inner.Ready.{KeepsTrue}
use Rattle.rbbi_cache.specs.Shown.{IsShownAfter}
use Rattle.rbbi_cache.proofs.Keeping.{keeps_added}
use Rattle.rbbi_cache.proofs.RightPart.{entries_rise}
use Rattle.rbbi_cache.proofs.Quieting.{none_quiet}
use Rattle.rbbi_cache.proofs.Apart.{all_from_start}
use Rattle.rbbi_cache.proofs.cache.Cache.find_from.Goals as goal

pub invariant_of-self : goal.invariant_of-self
invariant_of-self g c = (none_quiet _ 0 _ refl, all_from_start _ 0 _ refl)

pub add-requires : goal.add-requires
add-requires g c =
    let ready = c.search-entry.ensures.ready [] in
    entries_rise c.args.table.now c.valid.ensures (g.T.Chars.characters c.args.text.now) c.search-entry.new.run ready.is_true

pub returns-clause-kept : goal.returns-clause-kept
returns-clause-kept g c =
    let ready = c.search-entry.ensures.ready c.self.inside.runs in
    subst (λ (s : KeptRuns). KeepsTrue c.args.table.now (g.T.Chars.characters c.args.text.now) (λ r. IsShownAfter r c.args.i c.search-entry.result) s.runs
    c.add.new.self) c.self.view_is
    (keeps_added c.args.table.now c.valid.ensures (g.T.Chars.characters c.args.text.now) (λ r. IsShownAfter r c.args.i c.search-entry.result) c.self.inside.runs
    (subst (λ (s : KeptRuns). AreTrueRuns c.args.table.now (g.T.Chars.characters c.args.text.now) s.runs) (sym c.self.view_is) c.requires.are_true)
    c.search-entry.new.run ready.is_true ready.shows ready.reaches c.add.new.self c.add.ensures)
