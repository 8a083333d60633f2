use Rattle.std.proofs.Common.{ℕ, ◌+◌, ◌-◌, List, ◌++◌, length}
use Rattle.std.specs.Prelude.{chars, string_bytes}
use Rattle.rbbi_lex.specs.Quotations.{QuotesUpTo}
use Rattle.rbbi_lex.proofs.quotation.quotation.Given as goal

abbrev pub invariant-loop-next : goal.invariant-loop-next
invariant-loop-next l = record {
  -- what is written from here on follows what is read
  whole : (word : List ℕ) (end : ℕ) → QuotesUpTo l.text l.close word end → QuotesUpTo l.text (l.at + 1) (chars (string_bytes l.word) ++ word) end;
  -- and where all is written, the rest is written from here on
  rest : (word : List ℕ) (end : ℕ) → QuotesUpTo l.text (l.at + 1) word end → (left : List ℕ) × QuotesUpTo l.text l.close left end;
}

abbrev pub decreases-loop-next : goal.decreases-loop-next
decreases-loop-next l = length l.text - l.close
