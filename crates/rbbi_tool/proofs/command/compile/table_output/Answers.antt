use Rattle.std.proofs.Common.{◌≡◌, ℕ, List, Some}
use Rattle.rbbi_command.specs.Refusals.{Outcome}
use Rattle.rbbi_tool.proofs.command.compile.table_output.Goals as goal

-- outcomes with equal bytes and files are equal
same_told : (b b' n n' s s' : List ℕ) → b ≡ b' → n ≡ n' → s ≡ s' →
    let told : List ℕ → List ℕ → List ℕ → Outcome =
    λ bytes name held. record { status = 0; bytes = bytes; file = Some (record { name = name; bytes = held }) } in
    told b n s ≡ told b' n' s'
same_told b b' n n' s s' e f h = λ i. record { status = 0; bytes = e i; file = Some (record { name = f i; bytes = h i }) }

pub returns : goal.returns
returns c = same_told _ _ _ _ _ _ c.in_ok-line.ensures c.in_ok-name.ensures c.in_ok-bytes.ensures.spelled
