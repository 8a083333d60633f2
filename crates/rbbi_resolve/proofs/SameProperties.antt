-- Questions that are for a property in another spelling.
use Rattle.std.proofs.Common.{◌≡◌, ℕ, Bool, List, Option, option_map, chars, string_bytes, ap₂, sym, ◌∙◌}
use Rattle.std.specs.Prelude.{encode_utf8_all}
use Rattle.std.proofs.lemmas.Str.{encodes-chars, IsUtf8-string_bytes}
use Rattle.rbbi_props.specs.Rows.{File}
use Rattle.rbbi_props.specs.Lookups.{lookup}
use Rattle.rbbi_resolve.specs.declared.question.Question.{Question}
use Rattle.rbbi_resolve.specs.inner.Questions.{IsFor}

-- a question whose own bytes are looked up alike
pub question_for : (question : Question) (negated : Bool) (word : List ℕ) (word_of_value : Option (List ℕ)) (bytes_of_value : Option (List ℕ)) →
    question.negated ≡ negated → bytes_of_value ≡ option_map encode_utf8_all (option_map (λ text. chars (string_bytes text)) question.value) →
    ((files : List File) →
    lookup files (string_bytes question.name) bytes_of_value ≡ lookup files (encode_utf8_all word) (option_map encode_utf8_all word_of_value)) →
    IsFor question negated word word_of_value
question_for question negated word word_of_value bytes_of_value sign value alike =
    record {
      sign = sign;
      same = λ files.
          ap₂ (lookup files) (encodes-chars (string_bytes question.name) (IsUtf8-string_bytes question.name)) (sym value) ∙ alike files;
    }
