use Rattle.std.proofs.Common.{◌≡◌, true, sym, ap, ◌∙◌, lit<}
use Rattle.rbbi_command.specs.Settings.{is_property_name}
use Rattle.rbbi_command.proofs.SettingLemmas.{has_equals, name_is, file_is, no_bytes}
use Rattle.rbbi_command.proofs.words.setting.property_of.Goals as goal

pub returns-in_default : goal.returns-in_default
returns-in_default c = λ property form is. has_equals c.args.word.now property form is (c.in_default.ensures.byte (lit< tt) (λ w o h. h))

pub returns-then-not-is_property_name : goal.returns-then-not-is_property_name
returns-then-not-is_property_name c = λ property form is.
    let split = c.in-Some.ensures.byte (lit< tt) (λ w o h. h) in
    let named : is_property_name c.in-Some.name.now ≡ true = ap is_property_name (name_is c.args.word.now property form is c.in-Some.name.now split.0)
    ∙ form.0 in
    absurd cc

pub returns-then-is_empty : goal.returns-then-is_empty
returns-then-is_empty c = λ property form is.
    let split = c.in-Some.ensures.byte (lit< tt) (λ w o h. h) in
    let same = file_is c.args.word.now property form is c.in-Some.file.now split.1 in
    form.1 (sym same ∙ no_bytes c.in-Some.file.now c.is_empty.result c.is_empty.ensures c.if-is_empty.true)
