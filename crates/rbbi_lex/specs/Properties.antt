-- Properties, in both spellings.
use Prim.Native.Char.{code}
use Rattle.std.specs.Prelude.{ℕ, ◌≡◌, ◌+◌, Bool, nat_lt, if◌then◌else◌, IsTrue, List, slice_range, Option, None, Some}
use Rattle.rbbi_lex.specs.declared.token.TokenKind.{TokenKind}
use Rattle.rbbi_lex.specs.declared.token.TokenKind.TheVariants.{Prop}
use Rattle.rbbi_lex.specs.declared.stretch.Stretch.TheVariants.{BracedBody, BracedName, BracketedBody, BracketedName}
use Rattle.rbbi_lex.specs.Stretches.{stretch_end}
use Rattle.rbbi_lex.specs.Points.{is_at}

-- the value of a property whose name and body end at these places: what is after the `=`
abbrev pub value_between : List ℕ → ℕ → ℕ → Option (List ℕ)
value_between x name_end body_end =
    if nat_lt name_end body_end then Some (slice_range x (name_end + 1) body_end) else None

-- the property whose body goes from one place to another, with the place at which its name ends
abbrev pub property : List ℕ → Bool → ℕ → ℕ → ℕ → TokenKind
property x negated i name_end body_end =
    Prop negated (slice_range x i name_end) (value_between x name_end body_end)

-- `\p{BODY}` or `\P{BODY}` stands from one place to another: the body goes to the first `}`, and its
-- name to the first `=`, in one line
abbrev pub SpellsBraced : List ℕ → ℕ → ℕ → TokenKind → Type 0
SpellsBraced x i j kind =
    IsTrue (is_at x (stretch_end BracedBody x (i + 3)) (code "}")) × (j ≡ stretch_end BracedBody x (i + 3) + 1)
    × (kind ≡ property x (is_at x (i + 1) (code "P")) (i + 3) (stretch_end BracedName x (i + 3)) (stretch_end BracedBody x (i + 3)))

-- where the body of `[:BODY:]` at the place begins, after a `^`
abbrev pub body_start : List ℕ → ℕ → ℕ
body_start x i = if is_at x (i + 2) (code "^") then i + 3 else i + 2

-- `[:BODY:]` stands from one place to another: the body goes to the first `:]`, and its name to the
-- first `=`, in one line
abbrev pub SpellsBracketed : List ℕ → ℕ → ℕ → TokenKind → Type 0
SpellsBracketed x i j kind =
    IsTrue (is_at x (stretch_end BracketedBody x (i + 2)) (code ":"))
    × IsTrue (is_at x (stretch_end BracketedBody x (i + 2) + 1) (code "]"))
    × (j ≡ stretch_end BracketedBody x (i + 2) + 2)
    × (kind ≡ property x (is_at x (i + 2) (code "^")) (body_start x i) (stretch_end BracketedName x (body_start x i)) (stretch_end BracketedBody x (i + 2)))
