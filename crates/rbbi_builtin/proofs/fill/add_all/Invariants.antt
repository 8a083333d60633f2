use Rattle.std.proofs.Common.{ℕ, ◌<◌, get_or}
use Rattle.rbbi_lex.specs.declared.token.Token.{Token}
use Rattle.rbbi_builtin.specs.Filling.{AddsBuiltIn, IsFilledFor}
use Rattle.rbbi_builtin.proofs.fill.add_all.Given as goal

abbrev pub invariant-loop-i : goal.invariant-loop-i
invariant-loop-i l =
    AddsBuiltIn l.initial.files l.files × ((k : ℕ) (d : Token) → k < l.i → IsFilledFor l.files (get_or l.tokens k d).kind)
