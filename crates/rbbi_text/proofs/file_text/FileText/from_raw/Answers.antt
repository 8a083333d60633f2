use Rattle.std.proofs.Common.{◌≡◌, length, sym, ap, ◌∙◌, subst, arith, chars}
use Rattle.std.specs.Str.{IsAscii}
use Rattle.std.proofs.lemmas.Str.{chars-IsAscii, IsUtf8-from_ascii}
use Rattle.rbbi_text.proofs.file_text.FileText.from_raw.Goals as goal

pub returns-in-Some : goal.returns-in-Some
returns-in-Some c =
    let found = rw c.in-Some.is at c.in_ok-text.ensures in
    let bytes = c.args.raw.now in
    let ascii : IsAscii bytes = subst IsAscii found.0 found.1 in
    let spelled : c.in-Some.text ≡ chars bytes = found.0 ∙ sym (chars-IsAscii bytes ascii) in
    (IsUtf8-from_ascii bytes ascii, spelled, omega (arith, found.2, ap length spelled))
