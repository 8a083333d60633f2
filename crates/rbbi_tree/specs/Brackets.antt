-- How many brackets are open after tokens.
use Rattle.std.specs.Prelude.{ℕ, ◌≡◌, ◌<◌, ◌≤◌, List, [], ◌∷◌, length, take, ◌+◌, ◌-◌}
use Rattle.rbbi_lex.specs.declared.token.Token.{Token}
use Rattle.rbbi_lex.specs.declared.token.TokenKind.{TokenKind}
use Rattle.rbbi_lex.specs.declared.token.TokenKind.TheVariants.{ParenOpen, ParenClose, SetOpen, SetClose}

-- how many brackets, round and square, are open after a token, where so many were open before it
abbrev pub open_after : TokenKind → ℕ → ℕ
open_after ParenOpen open_ones = open_ones + 1
open_after SetOpen open_ones = open_ones + 1
open_after ParenClose open_ones = open_ones - 1
open_after SetClose open_ones = open_ones - 1
open_after kind open_ones = open_ones

-- how many brackets are open after the tokens, where so many were open before them
abbrev pub open_from : ℕ → List Token → ℕ
open_from open_ones [] = open_ones
open_from open_ones (t ∷ tokens) = open_from (open_after t.kind open_ones) tokens

-- no bracket among the tokens before this number makes more than 64 open ones
abbrev pub IsShallowBefore : List Token → ℕ → Type 0
IsShallowBefore tokens k = (j : ℕ) → j < k → open_from 0 (take (j + 1) tokens) ≤ 64

-- the token with this number is the first bracket, round or square, that makes 65 open ones
abbrev pub IsDeepAt : List Token → ℕ → Type 0
IsDeepAt tokens k = (k < length tokens) × (open_from 0 (take (k + 1) tokens) ≡ 65) × IsShallowBefore tokens k

-- no token is the first bracket that makes 65 open ones
abbrev pub IsShallow : List Token → Type 0
IsShallow tokens = (k : ℕ) → ¬ IsDeepAt tokens k
