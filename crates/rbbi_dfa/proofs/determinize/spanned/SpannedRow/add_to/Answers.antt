use Rattle.std.proofs.Common.{ℕ, List, ◌||◌, ap, ◌∙◌}
use Rattle.rbbi_bits.specs.BitRows.{row_bit}
use Rattle.rbbi_bits.proofs.Rows.{or_holds}
use Rattle.rbbi_dfa.proofs.determinize.spanned.SpannedRow.add_to.Goals as goal

pub returns : goal.returns
returns c = λ p.
    or_holds (row_bit c.unite_within.new.row p) (row_bit c.args.set.now p) (row_bit c.args.self.now p)
    (c.unite_within.ensures p ∙ ap (λ (row : List ℕ). row_bit c.args.set.now p || row_bit row p) (c.deref.ensures.value ∙ c.self.view_is))
