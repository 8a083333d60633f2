use Rattle.std.proofs.Common.{◌≡◌, ℕ, ◌/◌, ◌*◌, ◌^◌, ◌<◌, ◌≤◌, arith, ap}
use Rattle.std.proofs.Math.Nat.{lt-div-mul-add}
use Rattle.std.proofs.Math.Pow.{pow_mono}
use Rattle.std.proofs.lemmas.Nat.{pow_pos}
use Rattle.rbbi_model.specs.Tables.{RowHead}
use Rattle.rbbi_canon.proofs.slashes.slashes_of.Goals as goal
use Rattle.rbbi_canon.proofs.slashes.slashes_of.Goals.{then-bits-test+else-fronts-count-ne0, else-bits-test}

-- a number is below the power by which its quotient is 0
below_power : (n k : ℕ) → n / 2 ^ k ≡ 0 → n < 2 ^ k
below_power n k none = let less = lt-div-mul-add {a = n} {b = 2 ^ k} (pow_pos k) in omega (arith, less, ap (λ q. q * 2 ^ k) none)

pub returns-clause-allowed : goal.returns-clause-allowed
returns-clause-allowed c =
    let count = c.bits.count in
    let fronts = c.head.inside.fronts in
    let below : c.head.inside.fronts < 2 ^ c.bits.count =
    elim c.bits-test.branch [
      | then-bits-test+else-fronts-count-ne0 w ↦ below_power fronts count w.if-fronts-count-ne0.false
      | else-bits-test w ↦ (let full : 2 ^ 32 ≤ 2 ^ count = pow_mono w.bits-test.false in omega (arith, full, c.bits.invariant.1))
    ] in
    let less : count ≤ c.max.result = omega (arith, c.max.ensures) in
    let most : 2 ^ count ≤ 2 ^ c.max.result = pow_mono less in
    let accept = ap (λ (h : RowHead). h.accept) c.head.view_is in
    let same = ap (λ (h : RowHead). h.fronts) c.head.view_is in
    (omega (arith, c.max.ensures, c.saturating_sub.ensures, accept), omega (arith, below, most, same))
