use Rattle.std.proofs.Common.{sym, ◌∙◌, ap}
use Rattle.std.specs.Prelude.{encode_utf8_all, string_bytes}
use Rattle.std.proofs.lemmas.Str.{encodes-chars, IsUtf8-string_bytes}
use Rattle.rbbi_text.proofs.word.Word.as_str.Goals as goal

-- a string is the UTF-8 of its characters
pub returns-clause-bytes : goal.returns-clause-bytes
returns-clause-bytes c =
    c.as_str.ensures.value
    ∙ sym (encodes-chars (string_bytes c.self.inside.text) (IsUtf8-string_bytes c.self.inside.text))
    ∙ ap encode_utf8_all c.self.view_is
