use Rattle.std.proofs.Common.{◌≡◌}
use Rattle.std.specs.Prelude.{chars, string_bytes}
use Rattle.rbbi_demo.specs.Generator.{drawn_text, state_drawn}
use Rattle.rbbi_demo.proofs.text.drawn_string.Given as goal

abbrev pub invariant-loop-drawn : goal.invariant-loop-drawn
invariant-loop-drawn l =
    (chars (string_bytes l.text) ≡ drawn_text l.fn.generator.state l._drawn) × (l.generator.state ≡ state_drawn l.fn.generator.state l._drawn)
