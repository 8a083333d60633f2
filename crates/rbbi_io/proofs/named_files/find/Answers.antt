use Rattle.std.proofs.Common.{List, ℕ, [], Some, ◌∙◌, ap, sym}
use Rattle.std.specs.Prelude.{option_copied}
use Rattle.std.proofs.lemmas.List.{get_or_read}
use Rattle.rbbi_io.proofs.NamedFiles.{file_of-place, file_of-absent}
use Rattle.rbbi_io.proofs.named_files.find.Goals as goal

-- no file has the name
pub returns-in_err-place : goal.returns-in_err-place
returns-in_err-place c =
    ap option_copied c.from_residual.ensures ∙ sym (file_of-absent c.args.files.now c.args.name.now c.in_err-place.ensures)

-- the bytes at the place of the name
pub returns : goal.returns
returns c =
    let at = c.in_ok-place.ensures in
    ap Some (c.bytes.ensures ∙ ap (λ (f : List ℕ × List ℕ). f.1)
    (get_or_read c.args.files.now c.in_ok-place.place c.index-files-place.result at.within c.index-files-place.is ([], [])))
    ∙ sym (file_of-place c.args.files.now c.args.name.now c.in_ok-place.place at)
