-- What a parser may rely on in tokens.
use Rattle.std.specs.Prelude.{◌<◌, ◌≤◌, List, [], ◌∷◌, length}
use Rattle.rbbi_lex.specs.declared.token.Token.{Token}
use Rattle.rbbi_lex.specs.declared.token.TokenKind.{TokenKind}
use Rattle.rbbi_lex.specs.declared.token.TokenKind.TheVariants.{Quoted, Tag}

-- a quoted sequence isn't empty, and a status number is at most 2,147,483,647
abbrev pub IsWellMadeKind : TokenKind → Type 0
IsWellMadeKind (Quoted word) = 0 < length word
IsWellMadeKind (Tag number) = number ≤ 2147483647
IsWellMadeKind _ = Unit {0}

-- each token is so
abbrev pub AreWellMadeTokens : List Token → Type 0
AreWellMadeTokens [] = Unit {0}
AreWellMadeTokens (t ∷ ts) = IsWellMadeKind t.kind × AreWellMadeTokens ts
