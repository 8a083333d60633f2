-- The text that the bytes of a file spell, and why there is none.
use Rattle.std.specs.Prelude.{◌≡◌, ◌<◌, ◌≤◌, ℕ, List, length, codes, IsUtf8}
use Rattle.std.specs.Str.{chars}
use Rattle.rbbi_model.specs.Words.{most_characters}
use Rattle.rbbi_text.specs.Bytes.{IsNotUtf8At}
use Rattle.rbbi_command.specs.declared.inputs.Input.{Input}
use Rattle.rbbi_command.specs.declared.refusal.Subject.{Subject}
use Rattle.rbbi_command.specs.declared.refusal.Subject.TheVariants.{File}
use Rattle.rbbi_command.specs.declared.refusal.Place.TheVariants.{Whole, Byte}
use Rattle.rbbi_command.specs.declared.refusal.Refusal.{Refusal}
use Rattle.rbbi_command.specs.declared.refusal.Refusal.TheVariants.{Fault}
use Rattle.rbbi_command.specs.Stages.{Stage, followed_by}

-- the bytes aren't UTF-8, and the first byte past the longest prefix that is, is reported
abbrev pub TellsNotUtf8 : Subject → List ℕ → Refusal → Type 0
TellsNotUtf8 subject bytes refusal = (at : ℕ) × IsNotUtf8At bytes at × (refusal ≡ Fault subject (codes "NotUtf8") (Byte at))

-- the bytes are UTF-8, and come to this value; or they aren't
abbrev pub utf8_stage : {A : Type 0} → Subject → List ℕ → A → Stage A
utf8_stage subject bytes value = record { passes = λ a. IsUtf8 bytes × (a ≡ value); refuses = TellsNotUtf8 subject bytes }

-- the characters are no more than a text may have
abbrev pub count_stage : Subject → List ℕ → Stage (List ℕ)
count_stage subject x = record {
  passes = λ text. (text ≡ x) × (length x ≤ most_characters);
  refuses = λ refusal. (most_characters < length x) × (refusal ≡ Fault subject (codes "TooManyChars") Whole);
}

-- the text of a text file
abbrev pub text_stage : Input → Stage (List ℕ)
text_stage text = followed_by (utf8_stage (File text.name) text.bytes (chars text.bytes)) (count_stage (File text.name))
