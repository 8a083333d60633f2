-- What the calls that make or change a text answer, by cases on the answer.
use Rattle.std.specs.Prelude.{◌≡◌, ◌<◌, ◌≤◌, ◌+◌, ◌-◌, ℕ, List, length, Result, Ok, Err, IsUtf8, chars}
use Rattle.rbbi_model.specs.Words.{most_characters}
use Rattle.rbbi_model.specs.Scripts.{splice}
use Rattle.rbbi_text.specs.Bytes.{IsNotUtf8At}
use Rattle.rbbi_text.specs.declared.error.TextErr.{TextErr}
use Rattle.rbbi_text.specs.declared.error.TextErr.TheVariants as text
use Rattle.rbbi_text.specs.declared.error.RawErr.{RawErr}
use Rattle.rbbi_text.specs.declared.error.RawErr.TheVariants as raw
use Rattle.rbbi_text.specs.declared.error.EditErr.{EditErr}
use Rattle.rbbi_text.specs.declared.error.EditErr.TheVariants as edit

-- what taking these characters as a text answers
abbrev pub TakesText : List ℕ → Result (List ℕ) TextErr → Type 0
TakesText characters (Ok x) = (x ≡ characters) × (length characters ≤ most_characters)
TakesText characters (Err text.TooManyChars) = most_characters < length characters
TakesText characters (Err text.Memory) = Unit {0}

-- what reading these bytes as a text answers
abbrev pub ReadsText : List ℕ → Result (List ℕ) RawErr → Type 0
ReadsText bytes (Ok x) = IsUtf8 bytes × (x ≡ chars bytes) × (length (chars bytes) ≤ most_characters)
ReadsText bytes (Err (raw.NotUtf8 at)) = IsNotUtf8At bytes at
ReadsText bytes (Err raw.TooManyChars) = IsUtf8 bytes × (most_characters < length (chars bytes))
ReadsText bytes (Err raw.Memory) = Unit {0}

-- what an edit of a text answers, and the text that it leaves
abbrev pub Replaces : {T : Type 0} → List ℕ → ℕ → ℕ → List ℕ → Result T EditErr → List ℕ → Type 0
Replaces old at remove insert (Ok _) new =
    (at + remove ≤ length old) × (length (splice old at remove insert) ≤ most_characters) × (new ≡ splice old at remove insert)
Replaces old at remove insert (Err edit.Outside) new = (length old < at + remove) × (new ≡ old)
Replaces old at remove insert (Err edit.TooLong) new =
    (at + remove ≤ length old) × (most_characters < length (splice old at remove insert)) × (new ≡ old)
Replaces old at remove insert (Err edit.Memory) new = new ≡ old

-- what is answered before a text of so many characters is edited: how many are inserted, or why it isn't edited
abbrev pub ChecksEdit : ℕ → ℕ → ℕ → ℕ → Result ℕ EditErr → Type 0
ChecksEdit len at remove inserted (Ok count) = (at + remove ≤ len) × (len - remove + inserted ≤ most_characters) × (count ≡ inserted)
ChecksEdit len at remove inserted (Err edit.Outside) = len < at + remove
ChecksEdit len at remove inserted (Err edit.TooLong) = (at + remove ≤ len) × (most_characters < len - remove + inserted)
ChecksEdit len at remove inserted (Err edit.Memory) = ⊥
