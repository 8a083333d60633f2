use Rattle.std.proofs.Common.{◌≡◌, ◌-◌, ◌++◌, ◌∷◌, List, length, map, inl, sym, refl, ap, ◌∙◌, arith}
use Rattle.rbbi_model.specs.Lists.{IsRising}
use Rattle.rbbi_model.specs.Runs.{Run, IsTrueRun, ShowsBefore}
use Rattle.rbbi_model.proofs.Lists.{all_through}
use Rattle.rbbi_cache.specs.Kept.{KeptRuns}
use Rattle.rbbi_cache.specs.Shown.{IsShownAfter, IsShownBefore}
use Rattle.rbbi_cache.specs.inner.Ready.{KeepsTrue}
use Rattle.rbbi_cache.proofs.Keeping.{all_ordered, keeps_first, keeps_shown, keeps_through, shown_last, first_stays}
use Rattle.rbbi_cache.proofs.Answering.{answer_before, same_before, none_before_start, no_run}
use Rattle.rbbi_cache.proofs.TriedBack.{start_is_last_of_none, cost_past_end}
use Rattle.rbbi_model.specs.Costs.{forward_cost}
use Rattle.rbbi_cache.proofs.RightPart.{entries_rise}
use Rattle.rbbi_cache.proofs.Quieting.{none_quiet}
use Rattle.rbbi_cache.proofs.Apart.{all_from_start}
use Rattle.rbbi_cache.proofs.cache.Cache.before.Given.{Over}
use Rattle.rbbi_cache.proofs.cache.Cache.before.Goals.{then-shown-gt0, else-shown-gt0}
use Rattle.rbbi_cache.proofs.cache.Cache.before.Goals as goal

pub invariant_of-self-then-shown-gt0 : goal.invariant_of-self-then-shown-gt0
invariant_of-self-then-shown-gt0 g c = (none_quiet _ 0 _ refl, all_from_start _ 0 _ refl)

pub find_shown_before-requires-clause-ordered : goal.find_shown_before-requires-clause-ordered
find_shown_before-requires-clause-ordered g c =
    all_ordered c.args.table.now c.valid.ensures (g.T.Chars.characters c.args.text.now) c.len-len.result (omega arith) c.args.self.now.runs
    c.requires.are_true

pub step_before-requires : goal.step_before-requires
step_before-requires g c =
    all_through (IsTrueRun c.args.table.now (g.T.Chars.characters c.args.text.now)) (λ r. IsRising (map (λ e. e.at) r.entries))
    (entries_rise c.args.table.now c.valid.ensures (g.T.Chars.characters c.args.text.now)) c.args.self.now.runs c.requires.are_true

pub returns-in-Some-clause-kept : goal.returns-in-Some-clause-kept
returns-in-Some-clause-kept g c =
    inl (keeps_first c.args.table.now c.valid.ensures (g.T.Chars.characters c.args.text.now)
    (λ r. IsShownBefore (g.T.Chars.characters c.args.text.now) r c.args.i c.in-Some.entry) c.args.self.now.runs c.requires.are_true
    c.self.inside.runs (ap (λ (s : KeptRuns). s.runs) c.self.view_is) (c.in-Some.ensures (g.T.Chars.characters c.args.text.now))).0

pub returns-in-Some-clause-answer : goal.returns-in-Some-clause-answer
returns-in-Some-clause-answer g c = (
  omega arith,
  answer_before c.args.table.now c.valid.ensures (g.T.Chars.characters c.args.text.now) c.args.i c.in-Some.entry c.args.self.now.runs
      c.self.inside.runs
      (keeps_first c.args.table.now c.valid.ensures (g.T.Chars.characters c.args.text.now)
      (λ r. IsShownBefore (g.T.Chars.characters c.args.text.now) r c.args.i c.in-Some.entry) c.args.self.now.runs c.requires.are_true
      c.self.inside.runs (ap (λ (s : KeptRuns). s.runs) c.self.view_is) (c.in-Some.ensures (g.T.Chars.characters c.args.text.now))),
)

pub returns-in-Some-clause-shown : goal.returns-in-Some-clause-shown
returns-in-Some-clause-shown g c a some = (
  refl,
  same_before c.args.table.now c.valid.ensures (g.T.Chars.characters c.args.text.now) c.args.i a c.in-Some.entry c.args.self.now.runs
      c.requires.are_true some (returns-in-Some-clause-answer g c).1,
)

-- the run that shows the answer stands first
used : (g : Over) (c : goal.Joined-shown-gt0 g)
    → KeepsTrue c.args.table.now (g.T.Chars.characters c.args.text.now)
    (λ r. IsShownBefore (g.T.Chars.characters c.args.text.now) r c.args.i c.in-Some-find_shown_before.shown.entry) c.args.self.now.runs c.if-shown-gt0.self.runs
used g c =
    let inside = ap (λ (s : KeptRuns). s.runs) c.self.view_is in
    let moved : (before after : List Run) (run : Run) → c.self.inside.runs ≡ before ++ run ∷ after → length before ≡ c.in-Some-find_shown_before.shown.run →
    c.if-shown-gt0.self.runs ≡ run ∷ (before ++ after) =
    elim c.if-shown-gt0.branch [
      | then-shown-gt0 w ↦ λ before after run whole number. ap (λ (s : KeptRuns). s.runs) w.self-is ∙ w.move_to_front.ensures before after run whole number
      | else-shown-gt0 w ↦ λ before after run whole number.
          ap (λ (s : KeptRuns). s.runs) w.self-is ∙ first_stays c.self.inside.runs c.in-Some-find_shown_before.shown.run (omega arith) before after run whole number
    ] in
    keeps_shown c.args.table.now c.valid.ensures (g.T.Chars.characters c.args.text.now)
    (λ r. IsShownBefore (g.T.Chars.characters c.args.text.now) r c.args.i c.in-Some-find_shown_before.shown.entry) c.args.self.now.runs c.requires.are_true
    c.args.self.now.runs c.self.inside.runs (sym inside) inside c.in-Some-find_shown_before.shown.run
    (c.in-Some-find_shown_before.ensures (g.T.Chars.characters c.args.text.now) c.len-len.ensures.exact) c.if-shown-gt0.self.runs moved

pub returns-in-Some-find_shown_before-clause-answer : goal.returns-in-Some-find_shown_before-clause-answer
returns-in-Some-find_shown_before-clause-answer g c = (
  omega arith,
  answer_before c.args.table.now c.valid.ensures (g.T.Chars.characters c.args.text.now) c.args.i c.in-Some-find_shown_before.shown.entry c.args.self.now.runs
      c.if-shown-gt0.self.runs (used g c),
)

pub returns-in-Some-find_shown_before-clause-kept : goal.returns-in-Some-find_shown_before-clause-kept
returns-in-Some-find_shown_before-clause-kept g c = inl (used g c).0

pub returns-in-Some-find_shown_before-clause-are_true : goal.returns-in-Some-find_shown_before-clause-are_true
returns-in-Some-find_shown_before-clause-are_true g c = (used g c).1

pub returns-in-Some-find_shown_before-clause-shown : goal.returns-in-Some-find_shown_before-clause-shown
returns-in-Some-find_shown_before-clause-shown g c a some = (
  refl,
  same_before c.args.table.now c.valid.ensures (g.T.Chars.characters c.args.text.now) c.args.i a c.in-Some-find_shown_before.shown.entry c.args.self.now.runs
      c.requires.are_true some (returns-in-Some-find_shown_before-clause-answer g c).1,
)

pub returns-then-i-eq0-clause-shown : goal.returns-then-i-eq0-clause-shown
returns-then-i-eq0-clause-shown g c a some =
    absurd (none_before_start (g.T.Chars.characters c.args.text.now) c.args.i a c.args.self.now.runs c.if-i-eq0.true some)

pub returns-then-len-eq0-clause-shown : goal.returns-then-len-eq0-clause-shown
returns-then-len-eq0-clause-shown g c a some =
    absurd (no_run (λ a r. ShowsBefore (g.T.Chars.characters c.args.text.now) r c.args.i a) c.args.self.now.runs
    (c.in_default-find_shown_before.ensures (g.T.Chars.characters c.args.text.now) c.len-len.ensures.exact) a some)

pub returns-then-len-eq0-clause-answer : goal.returns-then-len-eq0-clause-answer
returns-then-len-eq0-clause-answer g c =
    (omega arith, start_is_last_of_none c.args.table.now c.valid.ensures (g.T.Chars.characters c.args.text.now) c.args.i (omega arith) (omega arith))

pub returns-then-i-len-clause-answer : goal.returns-then-i-len-clause-answer
returns-then-i-len-clause-answer g c = (
  omega arith,
  answer_before c.args.table.now c.valid.ensures (g.T.Chars.characters c.args.text.now) c.args.i c.find_past.result c.args.self.now.runs
      c.find_past.new.self.runs
      (keeps_through c.args.table.now c.valid.ensures (g.T.Chars.characters c.args.text.now) (λ r. IsShownAfter r (c.len-len.result - 1) c.find_past.result) (λ
      r. IsShownBefore (g.T.Chars.characters c.args.text.now) r c.args.i c.find_past.result)
      (shown_last c.args.table.now c.valid.ensures (g.T.Chars.characters c.args.text.now) c.len-len.result c.args.i c.len-len.ensures.exact (omega arith)
      c.if-i-len.true c.find_past.result) c.args.self.now.runs c.find_past.new.self.runs c.find_past.ensures.kept),
)

pub returns-then-i-len-clause-kept : goal.returns-then-i-len-clause-kept
returns-then-i-len-clause-kept g c =
    inl (keeps_through c.args.table.now c.valid.ensures (g.T.Chars.characters c.args.text.now) (λ r. IsShownAfter r (c.len-len.result - 1) c.find_past.result)
    (λ r. IsShownBefore (g.T.Chars.characters c.args.text.now) r c.args.i c.find_past.result)
    (shown_last c.args.table.now c.valid.ensures (g.T.Chars.characters c.args.text.now) c.len-len.result c.args.i c.len-len.ensures.exact (omega arith)
    c.if-i-len.true c.find_past.result) c.args.self.now.runs c.find_past.new.self.runs c.find_past.ensures.kept).0

pub returns-then-i-len-clause-shown : goal.returns-then-i-len-clause-shown
returns-then-i-len-clause-shown g c a some =
    absurd (no_run (λ a r. ShowsBefore (g.T.Chars.characters c.args.text.now) r c.args.i a) c.args.self.now.runs
    (c.in_default-find_shown_before.ensures (g.T.Chars.characters c.args.text.now) c.len-len.ensures.exact) a some)

pub returns-then-i-len-clause-cost : goal.returns-then-i-len-clause-cost
returns-then-i-len-clause-cost g c =
    let len = c.len-len.ensures.exact in
    omega (
      arith,
      c.find_past.ensures.cost,
      ap (λ n. forward_cost c.args.table.now (g.T.Chars.characters c.args.text.now) (n - 1)) c.len-len.ensures.exact,
      cost_past_end c.args.table.now (g.T.Chars.characters c.args.text.now) c.args.i (omega arith) (λ zero. c.if-len-eq0.false (len ∙ zero)),
    )

pub returns-clause-shown : goal.returns-clause-shown
returns-clause-shown g c a some =
    absurd (no_run (λ a r. ShowsBefore (g.T.Chars.characters c.args.text.now) r c.args.i a) c.args.self.now.runs
    (c.in_default-find_shown_before.ensures (g.T.Chars.characters c.args.text.now) c.len-len.ensures.exact) a some)
