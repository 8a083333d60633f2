-- The edits that are drawn, and the places that are answered.
use Rattle.std.proofs.Common.{◌≡◌, ◌<◌, ◌≤◌, ℕ, ◌+◌, ◌-◌, ◌%◌, List, [], ◌∷◌, ◌++◌, length, take, drop, min, Option, Some, None, ap, ◌∙◌, ltb}
use Rattle.std.proofs.Common.{cond, arith, length-append}
use Rattle.std.proofs.lemmas.List.{length-take, length-drop}
use Rattle.std.proofs.lemmas.Bool.{cond-false, le-ltb}
use Rattle.std.specs.Prelude.{unwrap_or}
use Rattle.rbbi_model.specs.Words.{IsText, most_characters}
use Rattle.rbbi_model.specs.Answers.{Reply, Following, Preceding, Outside, TooLong, answer}
use Rattle.rbbi_model.specs.Scripts.{splice, edit, Edit, Refused, Accepted}
use Rattle.rbbi_model.proofs.Texts.{text_append, text_take, text_drop}
use Rattle.rbbi_session.specs.Sessions.{Session, boundaries_of, place_reply, Answers}
use Rattle.rbbi_demo.specs.Generator.{next_state, drawn, drawn_character}
use Rattle.rbbi_demo.specs.Edits.{edit_place, removed_count, edited_text, asked_place, place_or_zero, places_sum}
use Rattle.rbbi_demo.proofs.Drawing.{drawn_second, character_third, is_character}

-- an edit within the text that leaves room is accepted
accepts : (x : List ℕ) (at removed : ℕ) (inserted : List ℕ) → at + removed ≤ length x → length x - removed + length inserted ≤ most_characters →
    edit x at removed inserted ≡ Accepted (splice x at removed inserted) (length (splice x at removed inserted))
accepts x at removed inserted within room =
    let spliced : List ℕ = splice x at removed inserted in
    let accepted : Edit = Accepted spliced (length spliced) in
    cond-false (ltb (length x) (at + removed)) (Refused Outside) (cond (ltb most_characters (length x - removed + length inserted)) (Refused TooLong) accepted)
    (le-ltb (length x) (at + removed) within)
    ∙ cond-false (ltb most_characters (length x - removed + length inserted)) (Refused TooLong) accepted
    (le-ltb most_characters (length x - removed + length inserted) room)

-- what is drawn for an edit: the states before each draw, a place, how many characters are removed, and one that is inserted
pub record AreDrawn (s t u : ℕ) (x : List ℕ) (at third removed c : ℕ) (inserted : List ℕ) : Type 0 where
  pub place : at ≡ drawn s 1 % (length x + 1)
  pub low : at < length x + 1
  pub next : t ≡ next_state s
  pub third_is : third ≡ drawn t 1 % 3
  pub removed_is : removed ≡ min third (length x - at)
  pub last : u ≡ next_state t
  pub character : c ≡ drawn_character u 1
  pub inserted_is : inserted ≡ c ∷ []
  pub room : length x < most_characters

module _ {s t u : ℕ} {x : List ℕ} {at third removed c : ℕ} {inserted : List ℕ} (are : AreDrawn s t u x at third removed c inserted) where
  removed_within : at + removed ≤ length x
  removed_within =
      let place : at < length x + 1 = are.low in
      let least : removed ≤ length x - at = rw are.removed_is (omega arith) in
      omega arith

  edit_accepted : edit x at removed inserted ≡ Accepted (splice x at removed inserted) (length (splice x at removed inserted))
  edit_accepted =
      let one : length inserted ≡ 1 = ap length are.inserted_is in
      let room : length x < most_characters = are.room in
      accepts x at removed inserted removed_within (omega arith)

  -- it isn't refused
  pub not_too_long : edit x at removed inserted ≡ Refused TooLong → ⊥
  not_too_long refused = let accepted = edit_accepted in absurd cc

  new_text : (new : List ℕ) → edit x at removed inserted ≡ Accepted new (length new) → new ≡ splice x at removed inserted
  new_text new accepted' = let accepted = edit_accepted in cc

  -- the new text is that of the draws
  pub text_is_edited : (new : List ℕ) → edit x at removed inserted ≡ Accepted new (length new) → new ≡ edited_text s x
  unfolding edited_text edit_place removed_count
  text_is_edited new accepted =
      let second : drawn t 1 ≡ drawn s 2 = ap (λ v. drawn v 1) are.next ∙ drawn_second s in
      let removed' : removed ≡ min (drawn s 2 % 3) (length x - drawn s 1 % (length x + 1)) =
      are.removed_is ∙ ap (λ n. min n (length x - at)) (are.third_is ∙ ap (λ d. d % 3) second)
      ∙ ap (λ p. min (drawn s 2 % 3) (length x - p)) are.place in
      let c' : c ≡ drawn_character s 3 =
      are.character ∙ ap (λ v. drawn_character v 1) (are.last ∙ ap next_state are.next) ∙ character_third s in
      new_text new accepted
      ∙ ap (splice x at removed) (are.inserted_is ∙ ap (λ d. d ∷ []) c')
      ∙ ap (λ r. splice x at r (drawn_character s 3 ∷ [])) removed'
      ∙ ap (λ p. splice x p (min (drawn s 2 % 3) (length x - drawn s 1 % (length x + 1))) (drawn_character s 3 ∷ [])) are.place

  -- it has at most one character more
  pub one_more : (new : List ℕ) → edit x at removed inserted ≡ Accepted new (length new) → length new ≤ length x + 1
  one_more new accepted =
      let within = removed_within in
      let long : length new ≡ length (splice x at removed inserted) = ap length (new_text new accepted) in
      let one : length inserted ≡ 1 = ap length are.inserted_is in
      let front : length (splice x at removed inserted) ≡ length (take at x) + length inserted + length (drop (at + removed) x) =
      length-append (take at x ++ inserted) (drop (at + removed) x)
      ∙ ap (λ n. n + length (drop (at + removed) x)) (length-append (take at x) inserted) in
      omega (arith, front, length-take at x, length-drop (at + removed) x)

-- edits keep a text
pub text_is_kept : (s : ℕ) (x : List ℕ) → IsText x → IsText (edited_text s x)
unfolding edited_text
text_is_kept s x text =
    let at : ℕ = edit_place s x in
    let removed : ℕ = removed_count s x in
    text_append (take at x ++ drawn_character s 3 ∷ []) (drop (at + removed) x)
    (text_append (take at x) (drawn_character s 3 ∷ []) (text_take at x text) (is_character s 3, tt)) (text_drop (at + removed) x text)

-- what an answer adds to the sum
value_is : (r : Option ℕ) (reply : Reply) → place_reply r ≡ reply → unwrap_or r 0 ≡ place_or_zero reply
value_is None reply is = ap place_or_zero is
value_is (Some p) reply is = ap place_or_zero is

pub sum_is : (old mid new : Session) (o : ℕ) (after before : Option ℕ) → Answers old (Following o) (place_reply after) mid →
    Answers mid (Preceding o) (place_reply before) new → unwrap_or after 0 + unwrap_or before 0 ≡ places_sum (boundaries_of old) o
unfolding places_sum
sum_is old mid new o after before one other =
    let text : mid.state.text ≡ old.state.text = ap (λ s. s.text) one.moved.state_is in
    let same : boundaries_of mid ≡ boundaries_of old = cc (text, one.moved.table_is) in
    ap (λ n. n + unwrap_or before 0) (value_is after (answer (boundaries_of old) 0 (Following o)).reply one.replied)
    ∙ ap (λ n. place_or_zero (answer (boundaries_of old) 0 (Following o)).reply + n)
    (value_is before (answer (boundaries_of mid) 0 (Preceding o)).reply other.replied
    ∙ ap (λ bs. place_or_zero (answer bs 0 (Preceding o)).reply) same)

-- the place that is asked about
pub place_is_asked : (s t : ℕ) (x y : List ℕ) → y ≡ edited_text s x → drawn t 1 ≡ drawn s 4 → drawn t 1 % (length y + 1) ≡ asked_place s x
unfolding asked_place
place_is_asked s t x y is same = ap (λ d. d % (length y + 1)) same ∙ ap (λ z. drawn s 4 % (length z + 1)) is
