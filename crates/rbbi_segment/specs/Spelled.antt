-- What bytes that are read spell, piece by piece.
use Rattle.std.specs.Prelude.{◌≡◌, ℕ, ◌+◌, ◌≤◌, ◌==◌, Bool, List, [], ◌∷◌, ◌++◌, length, drop, Option, if◌then◌else◌, chars, IsTrue, IsUtf8}
use Rattle.std.specs.Io.KnownBytes.{Consumes, IsAtEnd}
use Rattle.rbbi_model.specs.Words.{IsText}
use Rattle.rbbi_segment.specs.Contents.{text_in}

-- what stands for so many bytes that are replaced
abbrev pub marks : ℕ → List ℕ
marks replaced = if replaced == 0 then [] else 0xFFFD ∷ []

-- The bytes begin with the text, and so many follow it that are replaced. With `is_last` no bytes follow these.
pub record IsFront (is_lossy is_last : Bool) (bytes text : List ℕ) (replaced : ℕ) : Type 0 where
  pub within : length text + replaced ≤ length bytes
  pub utf8 : IsUtf8 text
  pub spelled : (others : List ℕ) → (IsTrue is_last → others ≡ []) →
      text_in is_lossy (bytes ++ others) ≡ chars text ++ (marks replaced ++ text_in is_lossy (drop (length text + replaced) bytes ++ others))
  pub ended : IsTrue is_last → replaced ≡ 0 → length text ≡ length bytes

-- so many of the bytes spell characters that were appended to the window, whatever follows
pub record IsSpelled (is_lossy is_last : Bool) (bytes : List ℕ) (end : ℕ) (window longer : List ℕ) : Type 0 where
  pub characters : List ℕ
  pub text : IsText characters
  pub within : end ≤ length bytes
  pub grown : longer ≡ window ++ characters
  pub spelled : (others : List ℕ) → (IsTrue is_last → others ≡ []) →
      text_in is_lossy (bytes ++ others) ≡ characters ++ text_in is_lossy (drop end bytes ++ others)

-- Some bytes were read, with those that waited they spell characters that were appended to the window, and others wait. With `is_last` the
-- text ends there.
pub record Reads (is_lossy : Bool) (remaining left : Option (List ℕ)) (waiting waits : List ℕ) (window longer : List ℕ) (is_last : Bool) : Type 0 where
  pub bytes : List ℕ
  pub characters : List ℕ
  pub consumed : Consumes remaining left bytes
  pub spelled : (others : List ℕ) → (IsTrue is_last → others ≡ []) →
      text_in is_lossy ((waiting ++ bytes) ++ others) ≡ characters ++ text_in is_lossy (waits ++ others)
  pub text : IsText characters
  pub grown : longer ≡ window ++ characters
  pub ended : IsTrue is_last → IsAtEnd left × (waits ≡ [])
