use Rattle.std.proofs.Common.{◌≡◌, ◌++◌, ◌∷◌, List, length, sym, refl, ap, ◌∙◌, arith}
use Rattle.rbbi_model.specs.Words.{most_characters}
use Rattle.rbbi_model.specs.Runs.{Run, ShowsAfter}
use Rattle.rbbi_cache.specs.Kept.{KeptRuns}
use Rattle.rbbi_cache.specs.Shown.{IsShownAfter}
use Rattle.rbbi_cache.specs.inner.Ready.{KeepsTrue}
use Rattle.rbbi_cache.proofs.Keeping.{all_ordered, keeps_shown, first_stays}
use Rattle.rbbi_cache.proofs.Answering.{answer_after, same_after, none_past_end, no_run}
use Rattle.rbbi_cache.proofs.Quieting.{none_quiet}
use Rattle.rbbi_cache.proofs.Apart.{all_from_start}
use Rattle.rbbi_cache.proofs.cache.Cache.after.Given.{Over}
use Rattle.rbbi_cache.proofs.cache.Cache.after.Goals.{then-shown-gt0, else-shown-gt0}
use Rattle.rbbi_cache.proofs.cache.Cache.after.Goals as goal

pub find_shown-requires-clause-ordered : goal.find_shown-requires-clause-ordered
find_shown-requires-clause-ordered g c =
    all_ordered c.args.table.now c.valid.ensures (g.T.Chars.characters c.args.text.now) most_characters c.len.ensures.most c.step_on.new.self.runs
    (rw c.in_default.ensures.kept.0 c.requires.are_true)

pub invariant_of-self : goal.invariant_of-self
invariant_of-self g c = (none_quiet _ 0 _ refl, all_from_start _ 0 _ refl)

-- the run that shows the answer stands first
used : (g : Over) (c : goal.Joined-shown-gt0 g)
    → KeepsTrue c.args.table.now (g.T.Chars.characters c.args.text.now) (λ r. IsShownAfter r c.args.i c.in-Some-find_shown.shown.entry) c.args.self.now.runs
    c.if-shown-gt0.self.runs
used g c =
    let inside = ap (λ (s : KeptRuns). s.runs) c.self.view_is in
    let moved : (before after : List Run) (run : Run) → c.self.inside.runs ≡ before ++ run ∷ after → length before ≡ c.in-Some-find_shown.shown.run →
    c.if-shown-gt0.self.runs ≡ run ∷ (before ++ after) =
    elim c.if-shown-gt0.branch [
      | then-shown-gt0 w ↦ λ before after run whole number. ap (λ (s : KeptRuns). s.runs) w.self-is ∙ w.move_to_front.ensures before after run whole number
      | else-shown-gt0 w ↦ λ before after run whole number.
          ap (λ (s : KeptRuns). s.runs) w.self-is ∙ first_stays c.self.inside.runs c.in-Some-find_shown.shown.run (omega arith) before after run whole number
    ] in
    keeps_shown c.args.table.now c.valid.ensures (g.T.Chars.characters c.args.text.now) (λ r. IsShownAfter r c.args.i c.in-Some-find_shown.shown.entry)
    c.args.self.now.runs c.requires.are_true c.step_on.new.self.runs c.self.inside.runs (sym inside)
    (inside ∙ ap (λ (s : KeptRuns). s.runs) c.in_default.ensures.kept.0) c.in-Some-find_shown.shown.run c.in-Some-find_shown.ensures
    c.if-shown-gt0.self.runs moved

pub returns-in-Some-find_shown-clause-answer : goal.returns-in-Some-find_shown-clause-answer
returns-in-Some-find_shown-clause-answer g c = (
  omega arith,
  answer_after c.args.table.now c.valid.ensures (g.T.Chars.characters c.args.text.now) c.args.i c.in-Some-find_shown.shown.entry c.args.self.now.runs
      c.if-shown-gt0.self.runs (used g c),
)

pub returns-in-Some-find_shown-clause-kept : goal.returns-in-Some-find_shown-clause-kept
returns-in-Some-find_shown-clause-kept g c = (used g c).0

pub returns-in-Some-find_shown-clause-are_true : goal.returns-in-Some-find_shown-clause-are_true
returns-in-Some-find_shown-clause-are_true g c = (used g c).1

pub returns-in-Some-find_shown-clause-shown : goal.returns-in-Some-find_shown-clause-shown
returns-in-Some-find_shown-clause-shown g c a some = (
  c.in_default.ensures.kept.1,
  same_after c.args.table.now c.valid.ensures (g.T.Chars.characters c.args.text.now) c.args.i a c.in-Some-find_shown.shown.entry c.args.self.now.runs
      c.requires.are_true some (returns-in-Some-find_shown-clause-answer g c).1,
)

pub returns-in-Some-clause-answer : goal.returns-in-Some-clause-answer
returns-in-Some-clause-answer g c = (
  omega arith,
  answer_after c.args.table.now c.valid.ensures (g.T.Chars.characters c.args.text.now) c.args.i c.in-Some.entry c.args.self.now.runs c.step_on.new.self.runs
      c.in-Some.ensures.kept,
)

pub returns-in-Some-clause-shown : goal.returns-in-Some-clause-shown
returns-in-Some-clause-shown g c a some = absurd (no_run (λ a r. ShowsAfter r c.args.i a) c.args.self.now.runs c.in-Some.ensures.unknown a some)

pub returns-then-i-len-clause-shown : goal.returns-then-i-len-clause-shown
returns-then-i-len-clause-shown g c a some =
    absurd (none_past_end c.args.table.now c.valid.ensures (g.T.Chars.characters c.args.text.now) c.args.i a c.args.self.now.runs c.requires.are_true
    (omega arith) some)

pub returns-clause-answer : goal.returns-clause-answer
returns-clause-answer g c = (
  omega arith,
  answer_after c.args.table.now c.valid.ensures (g.T.Chars.characters c.args.text.now) c.args.i c.find_past.result c.step_on.new.self.runs
      c.find_past.new.self.runs c.find_past.ensures.kept,
)

pub returns-clause-shown : goal.returns-clause-shown
returns-clause-shown g c a some =
    absurd (no_run (λ a r. ShowsAfter r c.args.i a) c.step_on.new.self.runs c.in_default-find_shown.ensures a (rw c.in_default.ensures.kept.0 some))
