use Rattle.std.proofs.Common.{◌≡◌, ◌*◌, ◌≤◌, length, ap, sym, ◌∙◌, subst, rules}
use Rattle.std.specs.List.{AllByRecursion}
use Rattle.rbbi_model.specs.Tables.{Table}
use Rattle.rbbi_model.specs.TableFile.{spelling}
use Rattle.rbbi_text.specs.Bytes.{most_bytes}
use Rattle.rbbi_file.specs.Fitting.{FitsList}
use Rattle.rbbi_file.proofs.Valid.{fits_valid, fitting_valid, short_valid}
use Rattle.rbbi_file.proofs.write.write_table.Goals as goal

pub size_of-requires-clause-fit : goal.size_of-requires-clause-fit
size_of-requires-clause-fit c = (fits_valid 2 _ c.valid.ensures).lists

pub put_lists-requires : goal.put_lists-requires
put_lists-requires c =
    subst (AllByRecursion FitsList) (sym (c.as_slice-2.ensures ∙ ap (λ (t : Table). t.lists) c.parts-parts.ensures)) (fits_valid 2 _ c.valid.ensures).lists

pub put_rows-requires-clause-whole : goal.put_rows-requires-clause-whole
put_rows-requires-clause-whole c =
    ap length c.as_slice-4.ensures ∙ ap (λ (t : Table). length t.cells) c.parts-parts.ensures ∙ (fitting_valid _ c.valid.ensures).cells
    ∙ sym (ap (λ (t : Table). length t.rows * t.categories) c.parts-parts.ensures)
    ∙ ap (λ rows. length rows * c.parts-parts.result.now.categories) (sym c.as_slice-3.ensures)

pub returns-clause-short : goal.returns-clause-short
returns-clause-short c =
    let is : c.extend_from_slice-2.new.self.items ≡ spelling c.args.table.now = search rules in
    subst (λ bytes. length bytes ≤ most_bytes) (sym is) (short_valid 2 _ c.valid.ensures)
