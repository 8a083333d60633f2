-- What files and standard input hold, and the text of it.
use Rattle.std.specs.Prelude.{◌≡◌, ◌≢◌, ℕ, List, Bool, Option, IfSome, if◌then◌else◌, chars, codes}
use Rattle.std.specs.Io.KnownBytes.{Consumes, IsAtEnd}
use Rattle.std.specs.Str.Lossy.{utf8_lossy}

-- The bytes are those that the file of this name holds, if the files tell what they hold, and standard input stays. Under the name `-` they
-- are all that standard input had left, which gave some bytes.
pub record IsRead (contents : Option (List ℕ → List ℕ)) (input : Option (List ℕ)) (name bytes : List ℕ) (left : Option (List ℕ)) : Type 0 where
  pub file : name ≢ codes "-" → IfSome contents (λ held. bytes ≡ held name) × (left ≡ input)
  pub standard : name ≡ codes "-" → IfSome input (λ held. bytes ≡ held) × ((taken : List ℕ) × Consumes input left taken)

-- The text of bytes. If that is asked for, U+FFFD stands in place of each sequence that isn't UTF-8, as long as it could begin a character.
abbrev pub text_in : Bool → List ℕ → List ℕ
text_in is_lossy bytes = chars (if is_lossy then utf8_lossy bytes else bytes)

-- The text is that of all bytes that the reader had, which are read.
abbrev pub IsTextGiven : Bool → Option (List ℕ) → List ℕ → Option (List ℕ) → Type 0
IsTextGiven is_lossy before x now = (bytes : List ℕ) × Consumes before now bytes × IsAtEnd now × (x ≡ text_in is_lossy bytes)

-- The text is that of the bytes which the file of this name holds, if the files tell what they hold, and standard input stays. Under the name
-- `-` it is that of all bytes that standard input had left, which are read.
pub record IsTextOf (is_lossy : Bool) (contents : Option (List ℕ → List ℕ)) (input : Option (List ℕ)) (name x : List ℕ) (left : Option (List ℕ)) :
    Type 0 where
  pub file : name ≢ codes "-" → IfSome contents (λ held. x ≡ text_in is_lossy (held name)) × (left ≡ input)
  pub standard : name ≡ codes "-" → IsTextGiven is_lossy input x left
