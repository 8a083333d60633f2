use Rattle.std.proofs.Common.{chars, sym, ap, ◌∙◌, string_bytes}
use Rattle.std.specs.Prelude.{slice_range}
use Rattle.std.proofs.lemmas.Str.{chars_from_encodes, IsUtf8-string_bytes}
use Rattle.rbbi_c.proofs.part.copy_of.Goals as goal

pub returns-in-Ok : goal.returns-in-Ok
returns-in-Ok g c =
    c.in-Ok.ensures.0
    ∙ ap chars c.deref.ensures
    ∙ sym (chars_from_encodes (slice_range c.args.text.now c.args.first c.args.last) (string_bytes c.in_ok-made.made)
    (IsUtf8-string_bytes c.in_ok-made.made) (sym c.in_ok-made.ensures))
