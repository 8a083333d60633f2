use Rattle.std.proofs.Common.{◌≡◌, ◌-◌, vec_len}
use Rattle.std.specs.Str.{chars}
use Rattle.rbbi_lex.specs.Cases.{start_state}
use Rattle.rbbi_lex.specs.Lexing.{UsesUp}
use Rattle.rbbi_lex.proofs.text.lex.Given as goal

abbrev pub invariant-loop-lexer : goal.invariant-loop-lexer
invariant-loop-lexer l = record {
  characters : l.lexer.characters.items ≡ chars l.text;
  -- the tokens so far use up the text so far
  read : UsesUp l.lexer.characters.items start_state 0 l.tokens l.lexer.state l.lexer.place;
}

abbrev pub decreases-loop-lexer : goal.decreases-loop-lexer
decreases-loop-lexer l = vec_len l.lexer.characters - l.lexer.place
