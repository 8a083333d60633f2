use Rattle.std.proofs.Common.{◌≡◌, ℕ, ◌+◌, ◌-◌, ◌<◌, ◌%◌, List, length, min, sym, ap, ◌∙◌, subst, arith}
use Rattle.std.specs.Prelude.{chars, encode_utf8}
use Rattle.std.specs.Char.{IsScalar}
use Rattle.rbbi_model.specs.Words.{most_characters}
use Rattle.rbbi_demo.specs.Generator.{drawn, next_state, drawn_character}
use Rattle.rbbi_demo.proofs.Drawing.{third_state, is_scalar}
use Rattle.rbbi_demo.proofs.Editing.{AreDrawn, not_too_long, text_is_edited, one_more}
use Rattle.rbbi_text.proofs.Pushed.{one_character}
use Rattle.rbbi_demo.proofs.edit.edit.Goals as goal

-- what the calls before the edit drew, where they were told the text's length
are_drawn : (s t u : ℕ) (x : List ℕ) (len at third removed c : ℕ) (bytes : List ℕ) → len ≡ length x → at ≡ drawn s 1 % (len + 1) → at < len + 1 →
    t ≡ next_state s → third ≡ drawn t 1 % 3 → removed ≡ min third (len - at) → u ≡ next_state t → c ≡ drawn_character u 1 → bytes ≡ encode_utf8 c →
    length x < most_characters → AreDrawn s t u x at third removed c (chars bytes)
are_drawn s t u x len at third removed c bytes long place low next third_is removed_is last character bytes_are room = record {
  place = place ∙ ap (λ n. drawn s 1 % (n + 1)) long;
  low = omega arith;
  next = next;
  third_is = third_is;
  removed_is = removed_is ∙ ap (λ n. min third (n - at)) long;
  last = last;
  character = character;
  inserted_is = ap chars bytes_are ∙ one_character c (subst IsScalar (sym character) (is_scalar u 1));
  room = room;
}

pub unreachable-requires-in-Err-TooLong : goal.unreachable-requires-in-Err-TooLong
unreachable-requires-in-Err-TooLong g c =
    let refused = rw c.in-Err-TooLong.field-0-is at c.in-Err-TooLong.ensures.edited in
    not_too_long (are_drawn _ _ _ c.args.session.now.state.text c.len-length.result c.below-at.result c.below.result c.min-remove.result
    c.character-inserted.result c.encode_utf8.result.now (c.len-length.ensures.exact ∙ ap length c.text.ensures) c.below-at.ensures.number
    c.below-at.ensures.below c.below-at.ensures.state c.below.ensures.number c.min-remove.ensures c.below.ensures.state
    c.character-inserted.ensures.character c.encode_utf8.ensures.value c.requires) refused.0

pub returns-in-Ok : goal.returns-in-Ok
returns-in-Ok g c =
    let are = are_drawn c.args.generator.now.state _ _ c.args.session.now.state.text c.len-length.result c.below-at.result c.below.result
    c.min-remove.result c.character-inserted.result c.encode_utf8.result.now (c.len-length.ensures.exact ∙ ap length c.text.ensures)
    c.below-at.ensures.number c.below-at.ensures.below c.below-at.ensures.state c.below.ensures.number c.min-remove.ensures c.below.ensures.state
    c.character-inserted.ensures.character c.encode_utf8.ensures.value c.requires in
    record {
      text = text_is_edited are c.replace.new.self.state.text c.in-Ok.ensures.edited.accepted;
      longer = one_more are c.replace.new.self.state.text c.in-Ok.ensures.edited.accepted;
      table = c.in-Ok.ensures.edited.table_is;
      state = c.character-inserted.ensures.state ∙ ap next_state (are.last ∙ ap next_state are.next) ∙ third_state c.args.generator.now.state;
    }

pub returns-in-Err-Memory-clause-state : goal.returns-in-Err-Memory-clause-state
returns-in-Err-Memory-clause-state g c =
    c.character-inserted.ensures.state
    ∙ ap next_state (c.below.ensures.state ∙ ap next_state c.below-at.ensures.state)
    ∙ third_state c.args.generator.now.state
