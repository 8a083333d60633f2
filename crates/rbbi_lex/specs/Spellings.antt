-- What a case of the table spells from a place on, one definition for each case, and the token at a place.
use Prim.Native.Char.{code}
use Rattle.std.specs.Prelude.{ℕ, ◌≡◌, ◌+◌, ◌<◌, ◌≤◌, true, false, IsTrue, List, slice_get, slice_range, Option, Some, option_map, option_and_then}
use Rattle.rbbi_lex.specs.declared.token.TokenKind.{TokenKind}
use Rattle.rbbi_lex.specs.declared.token.TokenKind.TheVariants.{SetOpen, Char, Quoted, Name, Control, Tag}
use Rattle.rbbi_lex.specs.declared.state.State.{State}
use Rattle.rbbi_lex.specs.declared.stretch.Stretch.TheVariants.{WhiteSpace, NameText, ControlText, Digits}
use Rattle.rbbi_lex.specs.declared.case.Case.{Case}
use Rattle.rbbi_lex.specs.declared.case.Case.TheVariants.{Sign, SetSign, BracketedProperty, SetStart, Variable, ControlName, StatusNumber, QuotePair, Quotation}
use Rattle.rbbi_lex.specs.declared.case.Case.TheVariants.{BracedProperty, Escape, Brace, BareCharacter, SetCharacter, OtherCharacter}
use Rattle.rbbi_lex.specs.Characters.{is_name_start, passes}
use Rattle.rbbi_lex.specs.Stretches.{stretch_end}
use Rattle.rbbi_lex.specs.Cases.{outer_sign, inner_sign}
use Rattle.rbbi_lex.specs.Points.{is_at, CaseAt}
use Rattle.rbbi_text.specs.Numbers.{number}
use Rattle.rbbi_lex.specs.Escapes.{IsEscape}
use Rattle.rbbi_lex.specs.Quotations.{QuotesUpTo}
use Rattle.rbbi_lex.specs.Properties.{SpellsBraced, SpellsBracketed}

-- the greatest status number
abbrev pub most_tag : ℕ
most_tag = 2147483647

-- one character, a token by these signs
abbrev pub SpellsSign : (ℕ → Option TokenKind) → List ℕ → ℕ → ℕ → TokenKind → Type 0
SpellsSign signs x i j kind = (option_and_then signs (slice_get x i) ≡ Some kind) × (j ≡ i + 1)

-- one character that stands for itself
abbrev pub SpellsBare : List ℕ → ℕ → ℕ → TokenKind → Type 0
SpellsBare x i j kind = (option_map (λ c. Char c true) (slice_get x i) ≡ Some kind) × (j ≡ i + 1)

-- `$` and the longest name after it
abbrev pub SpellsName : List ℕ → ℕ → ℕ → TokenKind → Type 0
SpellsName x i j kind =
    IsTrue (passes is_name_start (slice_get x (i + 1))) × (j ≡ stretch_end NameText x (i + 1))
    × (kind ≡ Name (slice_range x (i + 1) (stretch_end NameText x (i + 1))))

-- `!!` and the longest stretch of letters, digits and `_` after it, which isn't empty
abbrev pub SpellsControl : List ℕ → ℕ → ℕ → TokenKind → Type 0
SpellsControl x i j kind =
    (i + 2 < stretch_end ControlText x (i + 2)) × (j ≡ stretch_end ControlText x (i + 2))
    × (kind ≡ Control (slice_range x (i + 2) (stretch_end ControlText x (i + 2))))

-- the places within a tag at which its digits begin and end, and at which it has to close
abbrev pub digits_start : List ℕ → ℕ → ℕ
digits_start x i = stretch_end WhiteSpace x (i + 1)

abbrev pub digits_end : List ℕ → ℕ → ℕ
digits_end x i = stretch_end Digits x (digits_start x i)

abbrev pub tag_close : List ℕ → ℕ → ℕ
tag_close x i = stretch_end WhiteSpace x (digits_end x i)

-- the number that a tag writes
abbrev pub tag_number : List ℕ → ℕ → ℕ
tag_number x i = number 10 (slice_range x (digits_start x i) (digits_end x i))

-- `{`, white space, digits, white space and `}`
abbrev pub SpellsTag : List ℕ → ℕ → ℕ → TokenKind → Type 0
SpellsTag x i j kind =
    (digits_start x i < digits_end x i) × IsTrue (is_at x (tag_close x i) (code "}"))
    × (tag_number x i ≤ most_tag) × (j ≡ tag_close x i + 1) × (kind ≡ Tag (tag_number x i))

-- `''`, which is one quote
abbrev pub SpellsQuotePair : List ℕ → ℕ → ℕ → TokenKind → Type 0
SpellsQuotePair x i j kind = IsTrue (is_at x (i + 1) (code "'")) × (j ≡ i + 2) × (kind ≡ Char (code "'") false)

-- a quote that no other follows, characters, and the quote that closes
abbrev pub SpellsQuotation : List ℕ → ℕ → ℕ → TokenKind → Type 0
SpellsQuotation x i j kind =
    (is_at x (i + 1) (code "'") ≡ false)
    × ((word : List ℕ) × (close : ℕ) × QuotesUpTo x (i + 1) word close × (j ≡ close + 1) × (kind ≡ Quoted word))

-- an escaped character
abbrev pub SpellsEscape : List ℕ → ℕ → ℕ → TokenKind → Type 0
SpellsEscape x i j kind = (c : ℕ) × IsEscape x i j c × (kind ≡ Char c false)

-- by this case the characters from one place to another spell a token of this kind
abbrev pub SpellsCase : List ℕ → Case → ℕ → ℕ → TokenKind → Type 0
SpellsCase x Sign i j kind = SpellsSign outer_sign x i j kind
SpellsCase x SetSign i j kind = SpellsSign inner_sign x i j kind
SpellsCase x BracketedProperty i j kind = SpellsBracketed x i j kind
SpellsCase x SetStart i j kind = (j ≡ i + 1) × (kind ≡ SetOpen)
SpellsCase x Variable i j kind = SpellsName x i j kind
SpellsCase x ControlName i j kind = SpellsControl x i j kind
SpellsCase x StatusNumber i j kind = SpellsTag x i j kind
SpellsCase x QuotePair i j kind = SpellsQuotePair x i j kind
SpellsCase x Quotation i j kind = SpellsQuotation x i j kind
SpellsCase x BracedProperty i j kind = SpellsBraced x i j kind
SpellsCase x Escape i j kind = SpellsEscape x i j kind
SpellsCase x Brace i j kind = ⊥
SpellsCase x BareCharacter i j kind = SpellsBare x i j kind
SpellsCase x SetCharacter i j kind = SpellsBare x i j kind
SpellsCase x OtherCharacter i j kind = ⊥

-- the first case that fits at one place spells a token of this kind up to the other
abbrev pub TokenAt : List ℕ → State → ℕ → ℕ → TokenKind → Type 0
TokenAt x state i j kind = (case : Case) × CaseAt x state i case × SpellsCase x case i j kind
