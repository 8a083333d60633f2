use Rattle.std.proofs.Common.{◌≡◌, ◌<◌, ◌⊎◌, inl, inr, false, length, ◌-◌, length-drop, drop, ap, rules, arith}
use Rattle.std.proofs.lemmas.Bool.{ne_eqb}
use Rattle.std.proofs.lemmas.List.{length-set}
use Rattle.rbbi_filter.specs.Abbreviations.{is_space}
use Rattle.rbbi_filter.proofs.Windows.{nothing_read, one_kept, one_passed, read_enough}
use Rattle.rbbi_filter.proofs.window.read_before.Goals as goal
use Rattle.rbbi_filter.proofs.window.read_before.Goals.{then-first-lt-SIZE-via-then-first-lt-SIZE, then-first-lt-SIZE-via-else-first-lt-SIZE+then-c-ne32}

pub loop-place-init : goal.loop-place-init
loop-place-init g c =
    let room : length c.args.window.now ≡ 64 = search rules in
    let begun = nothing_read (g.T.Chars.characters c.args.text.now) c.args.window.now c.args.at room in record {
      room = room;
      low = omega arith;
      within = omega arith;
      first = omega arith;
      count = omega arith;
      part = begun.0;
      solid = begun.1;
      steps = omega arith;
    }

pub loop-place-preserved-in-loop-place : goal.loop-place-preserved-in-loop-place
loop-place-preserved-in-loop-place g c =
    let l = c.loop-place in
    let char = c.char_at-c.result in
    let solid : (is_space c.char_at-c.result ≡ false) ⊎ (c.loop-place.first < 64) =
    elim c.then-first-lt-SIZE.branch [
      | then-first-lt-SIZE-via-then-first-lt-SIZE w ↦ inr w.if-first-lt-SIZE.true
      | then-first-lt-SIZE-via-else-first-lt-SIZE+then-c-ne32 w ↦ inl (ne_eqb _ _ w.if-c-ne32.true)
    ] in
    let kept = one_kept (g.T.Chars.characters c.args.text.now) l.window l.place c.args.at l.first char (omega arith) l.invariant.within c.requires
    l.invariant.room (omega arith) l.invariant.first c.char_at-c.ensures.character solid l.invariant.part l.invariant.solid in record {
      room = omega (arith, length-set l.window (l.first - 1) char);
      low = omega arith;
      within = omega arith;
      first = omega arith;
      count = omega arith;
      part = kept.0;
      solid = kept.1;
      steps = omega arith;
    }

pub loop-place-preserved : goal.loop-place-preserved
loop-place-preserved g c =
    let l = c.loop-place in record {
      room = l.invariant.room;
      low = omega arith;
      within = omega arith;
      first = l.invariant.first;
      count = omega arith;
      part = one_passed (g.T.Chars.characters c.args.text.now) l.window l.place c.args.at l.first c.char_at-c.result (omega arith) l.invariant.within
          c.requires l.invariant.room c.if-first-lt-SIZE.false c.char_at-c.ensures.character (ap is_space c.if-c-ne32.false) l.invariant.part;
      solid = l.invariant.solid;
      steps = omega arith;
    }

pub returns-else-first-longest-clause-enough : goal.returns-else-first-longest-clause-enough
returns-else-first-longest-clause-enough g c =
    let l = c.loop-place in
    read_enough (g.T.Chars.characters c.args.text.now) (drop l.first l.window) l.place c.args.at c.args.longest (omega arith) l.invariant.within c.requires
    l.invariant.part l.invariant.solid (inr (omega (arith, length-drop l.first l.window)))
