-- Texts that C has in UTF-16.
use Rattle.std.specs.Prelude.{◌≡◌, ℕ, ◌+◌, ◌<◌, ◌≤◌, ◌⊎◌, true, List, length, Option, take, flat_map, slice_index, encode_utf8_all}
use Rattle.core.specs.Char.Escape.{encode_utf16}
use Rattle.core.specs.Str.{all_scalars}
use Rattle.rbbi_text.specs.Bytes.{most_bytes}
use Rattle.rbbi_c.specs.Calls.{EditsThrough}
use Rattle.rbbi_c.specs.Opening.{OpensThrough}
use Rattle.rbbi_c.specs.declared.held.Held.{Held}

-- The units spell these characters, none of which is a surrogate: such a number would be spelled by the unit that is alone.
pub record Spells (units text : List ℕ) : Type 0 where
  pub scalar : all_scalars text ≡ true
  pub units_are : units ≡ flat_map encode_utf16 text

-- the units and the bytes spell the same characters, in UTF-16 and in UTF-8
pub record IsWideText (units bytes : List ℕ) : Type 0 where
  pub text : List ℕ
  pub spelled : Spells units text
  pub bytes_are : bytes ≡ encode_utf8_all text

-- the two units make a pair, which stands for one character
abbrev pub IsPair : ℕ → ℕ → Type 0
IsPair high low = (0xD800 ≤ high) × (high < 0xDC00) × (0xDC00 ≤ low) × (low < 0xE000)

-- the unit with this number is a surrogate in no pair with the next one
pub record IsLone (units : List ℕ) (at : ℕ) : Type 0 where
  pub inside : at < length units
  pub surrogate : (0xD800 ≤ slice_index units at) × (slice_index units at < 0xE000)
  pub alone : ¬ IsPair (slice_index units at) (slice_index units (at + 1))

-- and those before it spell characters: it is the first of the kind
pub record IsFirstLone (units : List ℕ) (at : ℕ) : Type 0 where
  pub lone : IsLone units at
  pub before : List ℕ
  pub spelled : Spells (take at units) before

-- Why units aren't taken as a text: a surrogate is alone, whose number is reported; they are too many to be looked at; or memory ran out.
abbrev pub IsNoWideText : List ℕ → ℕ → ℕ → ℕ → Type 0
IsNoWideText units code before after =
    ((code ≡ 13) × IsFirstLone units after)
    ⊎ ((after ≡ before) × (((code ≡ 7) × (most_bytes < length units)) ⊎ (code ≡ 9)))

-- what opening a session over a text in UTF-16 answers: the same as over the text in UTF-8, if it is one
abbrev pub OpensWideThrough : Option Held → List ℕ → ℕ → ℕ → ℕ → Option Held → ℕ → Option Held → Type 0
OpensWideThrough table units unit before after old code now =
    (IsNoWideText units code before after × (now ≡ old))
    ⊎ ((bytes : List ℕ) × IsWideText units bytes × (after ≡ before) × OpensThrough table bytes unit old code now)

-- what an edit by a text in UTF-16 answers: the same as by the text in UTF-8, if it is one
abbrev pub EditsWideThrough : Option Held → ℕ → ℕ → List ℕ → ℕ → ℕ → ℕ → Option Held → Type 0
EditsWideThrough held at removed units before after code now =
    (IsNoWideText units code before after × (now ≡ held))
    ⊎ ((bytes : List ℕ) × IsWideText units bytes × (after ≡ before) × EditsThrough held at removed bytes code now)
