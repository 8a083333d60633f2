use Rattle.std.proofs.Common.{◌≡◌, ℕ, ◌-◌, vec_len}
use Rattle.rbbi_lex.specs.Skips.{Skipped}
use Rattle.rbbi_lex.proofs.lexer.Lexer.skip.Given as goal

abbrev pub invariant-loop-end : goal.invariant-loop-end
invariant-loop-end l = record {
  characters : l.self.characters ≡ l.initial.self.characters;
  state : l.self.state ≡ l.initial.self.state;
  -- what is skipped from here on is skipped from the start on
  skipped : (k : ℕ) → Skipped l.self.characters.items l.self.state l.self.place k →
      Skipped l.initial.self.characters.items l.initial.self.state l.initial.self.place k;
}

abbrev pub decreases-loop-end : goal.decreases-loop-end
decreases-loop-end l = vec_len l.self.characters - l.self.place
