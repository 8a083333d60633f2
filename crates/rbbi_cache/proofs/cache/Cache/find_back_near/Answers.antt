use Rattle.std.proofs.Common.{◌<◌, [], length, map, inl, refl, sym, subst, arith}
use Rattle.rbbi_model.specs.Lists.{IsRising}
use Rattle.rbbi_model.specs.Runs.{IsTrueRun}
use Rattle.rbbi_model.proofs.Lists.{all_through}
use Rattle.rbbi_cache.specs.Kept.{KeptRuns, AreTrueRuns, Keeps}
use Rattle.rbbi_cache.specs.Shown.{IsShownBefore}
use Rattle.rbbi_cache.proofs.Keeping.{keeps_added}
use Rattle.rbbi_cache.proofs.RightPart.{entries_rise}
use Rattle.rbbi_cache.proofs.Quieting.{none_quiet}
use Rattle.rbbi_cache.proofs.Apart.{added_apart}
use Rattle.rbbi_cache.proofs.Answering.{is_last_before}
use Rattle.rbbi_cache.proofs.cache.Cache.find_back_near.Goals as goal

pub apart_around-from-requires : goal.apart_around-from-requires
apart_around-from-requires g c =
    all_through (IsTrueRun c.args.table.now (g.T.Chars.characters c.args.text.now)) (λ r. IsRising (map (λ e. e.at) r.entries))
    (entries_rise c.args.table.now c.valid.ensures (g.T.Chars.characters c.args.text.now)) c.self.inside.runs
    (subst (λ (s : KeptRuns). AreTrueRuns c.args.table.now (g.T.Chars.characters c.args.text.now) s.runs) (sym c.self.view_is) c.requires.are_true)

pub invariant_of-self-4 : goal.invariant_of-self-4
invariant_of-self-4 g c = (
  none_quiet _ 0 _ refl,
  added_apart c.apart_around-from.result.0 c.apart_around-from.result.1 c.search_back.new.run c.self.inside.runs c.add_compared.new.self
      c.apart_around-from.ensures c.add_compared.ensures,
)

pub count_extendable-count-requires-clause-rising : goal.count_extendable-count-requires-clause-rising
count_extendable-count-requires-clause-rising g c =
    let ready = c.in-Some.ensures.found [] in
    entries_rise c.args.table.now c.valid.ensures (g.T.Chars.characters c.args.text.now) c.search_back.new.run ready.is_true

pub count_extendable-count-requires-clause-some : goal.count_extendable-count-requires-clause-some
count_extendable-count-requires-clause-some g c =
    all_through (IsTrueRun c.args.table.now (g.T.Chars.characters c.args.text.now)) (λ r. 0 < length r.entries) (λ r is. omega (arith, is.some))
    c.self.inside.runs
    (subst (λ (s : KeptRuns). AreTrueRuns c.args.table.now (g.T.Chars.characters c.args.text.now) s.runs) (sym c.self.view_is) c.requires.are_true)

pub add_compared-requires-clause-rising : goal.add_compared-requires-clause-rising
add_compared-requires-clause-rising g c =
    let ready = c.in-Some.ensures.found [] in
    entries_rise c.args.table.now c.valid.ensures (g.T.Chars.characters c.args.text.now) c.search_back.new.run ready.is_true

pub returns-clause-answer : goal.returns-clause-answer
returns-clause-answer g c =
    let ready = c.in-Some.ensures.found c.args.self.now.runs in
    is_last_before c.args.table.now c.valid.ensures (g.T.Chars.characters c.args.text.now) c.search_back.new.run ready.is_true c.args.i c.in-Some.entry
    ready.shows

pub returns-clause-kept : goal.returns-clause-kept
returns-clause-kept g c =
    let ready = c.in-Some.ensures.found c.self.inside.runs in
    inl (subst (λ (s : KeptRuns). Keeps c.args.table.now (g.T.Chars.characters c.args.text.now) (λ r. IsShownBefore (g.T.Chars.characters c.args.text.now) r
    c.args.i c.in-Some.entry) s.runs c.add_compared.new.self) c.self.view_is
    (keeps_added c.args.table.now c.valid.ensures (g.T.Chars.characters c.args.text.now) (λ r. IsShownBefore (g.T.Chars.characters c.args.text.now) r c.args.i
    c.in-Some.entry) c.self.inside.runs
    (subst (λ (s : KeptRuns). AreTrueRuns c.args.table.now (g.T.Chars.characters c.args.text.now) s.runs) (sym c.self.view_is) c.requires.are_true)
    c.search_back.new.run ready.is_true ready.shows ready.reaches c.add_compared.new.self c.add_compared.ensures).0)

pub returns-clause-are_true : goal.returns-clause-are_true
returns-clause-are_true g c =
    let ready = c.in-Some.ensures.found c.self.inside.runs in
    (keeps_added c.args.table.now c.valid.ensures (g.T.Chars.characters c.args.text.now) (λ r. IsShownBefore (g.T.Chars.characters c.args.text.now) r c.args.i
    c.in-Some.entry) c.self.inside.runs
    (subst (λ (s : KeptRuns). AreTrueRuns c.args.table.now (g.T.Chars.characters c.args.text.now) s.runs) (sym c.self.view_is) c.requires.are_true)
    c.search_back.new.run ready.is_true ready.shows ready.reaches c.add_compared.new.self c.add_compared.ensures).1
