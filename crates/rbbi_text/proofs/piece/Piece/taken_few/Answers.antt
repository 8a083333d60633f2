use Rattle.std.proofs.Common.{◌≡◌, ◌∙◌, ◌≤◌, ℕ, List, length, ap, sum_by, arith}
use Rattle.std.specs.List.{slice_range}
use Rattle.rbbi_model.specs.Units.{size_of}
use Rattle.rbbi_text.proofs.MilestoneLemmas.{sum_part_small, sum_parts}
use Rattle.rbbi_text.proofs.Even.{even_front}
use Rattle.rbbi_text.proofs.piece.Piece.taken_few.Goals as goal

pub returns-then-units-len : goal.returns-then-units-len
returns-then-units-len c =
    let x : List ℕ = c.args.self.now in
    let long : c.len-len.result ≡ length x = omega (arith, c.len-len.ensures, ap length c.self.view_is) in
    let even : sum_by (size_of c.args.unit) x ≡ length x = omega (arith, c.units.ensures, c.if-units-len.true, long) in
    let within : c.args.to ≤ length x = omega (arith, c.if-to-len.false, long) in (
      within,
      omega
          (arith, even_front c.args.unit x c.args.from even (omega (arith, within, c.requires)), even_front c.args.unit x c.args.to even within, c.requires),
    )

pub total-requires : goal.total-requires
total-requires c = omega (arith, sum_part_small c.args.unit c.deref.result.now c.args.from c.args.to, c.if-to-from-gt-FEW.false)

pub returns : goal.returns
returns c =
    let x : List ℕ = c.args.self.now in
    let long : c.len-len.result ≡ length x = omega (arith, c.len-len.ensures, ap length c.self.view_is) in (
      omega (arith, c.if-to-len.false, long),
      omega (
        arith,
        c.total.ensures,
        ap (λ (l : List ℕ). sum_by (size_of c.args.unit) (slice_range l c.args.from c.args.to)) (c.deref.ensures.value ∙ c.self.view_is),
        sum_parts (size_of c.args.unit) x c.args.from c.args.to c.requires,
      ),
    )
