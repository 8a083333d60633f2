use Rattle.std.proofs.Common.{◌≡◌, ◌+◌, ◌-◌, ◌<◌, ◌≤◌, ◌⊎◌, ℕ, List, [], ◌++◌, take, drop, length, refl, sym, ap, ◌∙◌, inl, inr, arith, rules}
use Rattle.std.specs.Prelude.{chars}
use Rattle.std.proofs.lemmas.Str.{chars-nil}
use Rattle.rbbi_segment.proofs.streaming.shift.Goals as goal

pub returns-in-Ok : goal.returns-in-Ok
returns-in-Ok c =
    let gone : ℕ = c.min-gone.result in
    let some : gone ≡ 0 → ⊥ = c.if-gone-eq0.false in
    let at : gone ≤ c.args.progress.at - 64 = search rules in
    let start : gone ≤ c.args.progress.start = search rules in
    let order : c.args.progress.start ≤ c.args.progress.at = c.requires.ordered in
    let none : 0 + gone ≡ gone = omega arith in
    record {
      gone = gone;
      rest = c.in-Ok.ensures.2 ∙ ap (λ l. l ++ drop (0 + gone) c.args.window.now) chars-nil ∙ ap (λ n. drop n c.args.window.now) none;
      start = omega (arith, start);
      at = omega (arith, start, order);
      place = refl;
      offset = refl;
      behind = inr (omega (arith, at, some));
    }
