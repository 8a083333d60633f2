-- What was found for the properties that were asked for.
use Rattle.std.specs.Prelude.{◌≡◌, ℕ, Bool, Option, List, option_map, chars, string_bytes}
use Rattle.std.specs.Rc.{rc_value}
use Rattle.rbbi_props.specs.Rows.{File}
use Rattle.rbbi_resolve.specs.declared.properties.Answer.{Answer}
use Rattle.rbbi_resolve.specs.declared.question.Question.{Question}
use Rattle.rbbi_resolve.specs.inner.SetValues.{IsValue}
use Rattle.rbbi_resolve.specs.SetValues.{value_of_property, property_test}

-- the question is that for a property, in whatever spelling: the sign is the same, and so is what is found
pub record IsFor (question : Question) (negated : Bool) (word : List ℕ) (word_of_value : Option (List ℕ)) : Type 0 where
  pub sign : question.negated ≡ negated
  pub same : (files : List File) →
      property_test files (chars (string_bytes question.name)) (option_map (λ text. chars
      (string_bytes text)) question.value) ≡ property_test files word word_of_value

-- the answer is right: its set is the value of the property
abbrev pub IsRightAnswer : List File → Answer → Type 0
IsRightAnswer files answer =
    IsValue files (value_of_property files (rc_value answer.question).negated (chars (string_bytes (rc_value answer.question).name)) (option_map
    (λ text. chars (string_bytes text)) (rc_value answer.question).value))
    (rc_value answer.set)
