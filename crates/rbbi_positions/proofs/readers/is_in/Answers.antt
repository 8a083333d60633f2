-- A character is in the set where the row has the bit of its class.
use Rattle.std.proofs.Common.{◌≡◌, ◌/◌, ◌%◌, ℕ, sym, ap, subst, ◌∙◌}
use Rattle.std.proofs.lemmas.Bool.{false≢true}
use Rattle.rbbi_model.specs.Places.{has_bit}
use Rattle.rbbi_classes.specs.Classes.{HasClass, word_at}
use Rattle.rbbi_classes.proofs.CharacterMembers.{has-characters}
use Rattle.rbbi_classes.proofs.DividedMembers.{divided-by_number}
use Rattle.rbbi_positions.proofs.readers.is_in.Goals as goal

pub returns-then-is_character : goal.returns-then-is_character
returns-then-is_character c =
    let character = c.is_character.ensures.0 c.if-is_character.true in
    let read : c.is_set.result ≡ has_bit (word_at c.args.classes.now (c.args.class / 64)) (c.args.class % 64) =
    c.is_set.ensures ∙ ap (λ word. has_bit word (c.args.class % 64)) c.word.ensures in
    let divided = divided-by_number c.args.division.now c.requires.form c.args.classes.now c.args.code in
    let has = has-characters c.args.division.now c.args.classes.now c.args.code in
    let Has_it : ℕ → Type 0 = λ class. HasClass c.args.classes.now class in (
      λ t. has.1 (divided.1 (character.0, subst Has_it c.requires.class (sym read ∙ t)), character.1),
      λ h. read ∙ (subst Has_it (sym c.requires.class) (divided.0 (has.0 h).0).1),
    )

pub returns-else-is_character : goal.returns-else-is_character
returns-else-is_character c =
    let has = has-characters c.args.division.now c.args.classes.now c.args.code in (
      λ t. absurd (false≢true (sym c.if-is_character.false ∙ t)),
      λ h. absurd (false≢true (sym c.if-is_character.false ∙ c.is_character.ensures.1 (
        ((divided-by_number c.args.division.now c.requires.form
            c.args.classes.now c.args.code).0 (has.0 h).0).0,
        (has.0 h).1,
      ))),
    )
