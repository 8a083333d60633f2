-- What bytes begin with, by what a check of UTF-8 finds, and what they spell after one piece more.
use Rattle.std.proofs.Common.{◌≡◌, ℕ, ◌+◌, ◌-◌, ◌<◌, ◌≤◌, Bool, true, false, List, [], ◌∷◌, ◌++◌, length, take, drop, Some, None, refl, sym, ap, ◌∙◌, subst}
use Rattle.std.proofs.Common.{arith, append_assoc, append-nil, length-append, length-drop, length-take, take-append-drop, IsUtf8}
use Rattle.std.specs.Prelude.{◌==◌, IsTrue, chars}
use Rattle.std.proofs.lemmas.Bool.{cond_both}
use Rattle.std.proofs.lemmas.Bool.Decides.{nat_tests}
use Rattle.std.specs.Str.{IsErrorLen, IsValidUpTo}
use Rattle.std.specs.Str.Lossy.{utf8_error_len, utf8_lossy, replacement_bytes}
use Rattle.std.proofs.lemmas.Str.{chars-nil, chars-append, utf8_lossy_empty}
use Rattle.std.proofs.lemmas.List.{drop-drop, take_all}
use Rattle.rbbi_model.specs.Words.{IsText, IsCharacter}
use Rattle.rbbi_model.proofs.Lists.{all_append}
use Rattle.rbbi_text.proofs.Characters.{IsText-chars}
use Rattle.rbbi_segment.specs.Contents.{text_in}
use Rattle.rbbi_segment.specs.Spelled.{IsFront, IsSpelled, marks}
use Rattle.rbbi_segment.proofs.Replaced.{lossy_front, lossy_step, lossy_last, valid_rest, chars_mark}

-- no bytes spell no character
pub text_nil : (is_lossy : Bool) → text_in is_lossy [] ≡ []
text_nil false = chars-nil
text_nil true = ap chars (utf8_lossy_empty [] refl) ∙ chars-nil

one_mark : (k : ℕ) → 0 < k → marks k ≡ 0xFFFD ∷ []
one_mark k some = grind (arith, nat_tests)

-- UTF-8 at the front spells its characters, and what follows it what it would alone
text_front : (is_lossy : Bool) (v r : List ℕ) → IsUtf8 v → text_in is_lossy (v ++ r) ≡ chars v ++ text_in is_lossy r
text_front false v r utf8 = chars-append v r utf8
text_front true v r utf8 = ap chars (lossy_front v r utf8) ∙ chars-append v (utf8_lossy r) utf8

-- a text and the mark behind it are appended
pub marked : (window longer next text : List ℕ) (replaced : ℕ) → 0 < replaced → longer ≡ window ++ chars text → next ≡ longer ++ chars replacement_bytes
    → next ≡ window ++ (chars text ++ marks replaced)
marked window longer next text replaced some first second =
    let mark : chars replacement_bytes ≡ marks replaced = chars_mark [] ∙ ap (λ l. 0xFFFD ∷ l) chars-nil ∙ sym (one_mark replaced some) in
    second ∙ ap (λ l. l ++ chars replacement_bytes) first ∙ append_assoc window (chars text) (chars replacement_bytes)
    ∙ ap (λ l. window ++ (chars text ++ l)) mark

pub unmarked : (window longer text : List ℕ) (replaced : ℕ) → replaced ≡ 0 → longer ≡ window ++ chars text
    → longer ≡ window ++ (chars text ++ marks replaced)
unmarked window longer text replaced none first =
    first ∙ ap (λ l. window ++ l) (sym (append-nil (chars text))) ∙ ap (λ n. window ++ (chars text ++ marks n)) (sym none)

-- a text alone, with as many bytes left as there are behind it
front_text : (is_lossy is_last : Bool) (bytes : List ℕ) (n : ℕ) → IsUtf8 (take n bytes) → n ≤ length bytes → (IsTrue is_last → n ≡ length bytes)
    → IsFront is_lossy is_last bytes (take n bytes) 0
front_text is_lossy is_last bytes n utf8 within ended =
    let size : length (take n bytes) ≡ n = omega (arith, length-take n bytes) in
    record {
      within = omega (arith, size);
      utf8 = utf8;
      spelled = λ others _.
          ap (λ l. text_in is_lossy (l ++ others)) (sym (take-append-drop n bytes))
          ∙ ap (text_in is_lossy) (append_assoc (take n bytes) (drop n bytes) others)
          ∙ text_front is_lossy (take n bytes) (drop n bytes ++ others) utf8
          ∙ ap (λ i. chars (take n bytes) ++ text_in is_lossy (drop i bytes ++ others)) (let e : n ≡ length (take n bytes) + 0 = omega (arith, size) in e);
      ended = λ last _. size ∙ ended last;
    }

-- UTF-8 is a text as a whole
pub front_whole : (is_lossy is_last : Bool) (bytes text : List ℕ) → text ≡ bytes → IsUtf8 bytes → IsFront is_lossy is_last bytes text 0
front_whole is_lossy is_last bytes text same utf8 =
    let all : take (length bytes) bytes ≡ bytes = take_all (length bytes) bytes (omega arith) in
    subst (λ l. IsFront is_lossy is_last bytes l 0) (all ∙ sym same)
    (front_text is_lossy is_last bytes (length bytes) (subst IsUtf8 (sym all) utf8) (omega arith) (λ _. refl))

-- a text and an ill-formed sequence behind it
front_marked : (is_last : Bool) (bytes : List ℕ) (n k : ℕ) → IsUtf8 (take n bytes) → 0 < k → n + k ≤ length bytes
    → ((others : List ℕ) → (IsTrue is_last → others ≡ []) →
    utf8_lossy (drop n bytes ++ others) ≡ replacement_bytes ++ utf8_lossy (drop k (drop n bytes) ++ others))
    → IsFront true is_last bytes (take n bytes) k
front_marked is_last bytes n k utf8 some within replaced =
    let size : length (take n bytes) ≡ n = omega (arith, length-take n bytes) in
    record {
      within = omega (arith, size);
      utf8 = utf8;
      spelled = λ others last.
          ap (λ l. text_in true (l ++ others)) (sym (take-append-drop n bytes))
          ∙ ap (text_in true) (append_assoc (take n bytes) (drop n bytes) others)
          ∙ text_front true (take n bytes) (drop n bytes ++ others) utf8
          ∙ ap (λ l. chars (take n bytes) ++ chars l) (replaced others last)
          ∙ ap (λ l. chars (take n bytes) ++ l) (chars_mark (utf8_lossy (drop k (drop n bytes) ++ others)))
          ∙ ap (λ l. chars (take n bytes) ++ (0xFFFD ∷ text_in true (l ++ others))) (drop-drop k n bytes)
          ∙ ap (λ i. chars (take n bytes) ++ (0xFFFD ∷ text_in true (drop i bytes ++ others)))
          (let e : n + k ≡ length (take n bytes) + k = omega (arith, size) in e)
          ∙ ap (λ m. chars (take n bytes) ++ (m ++ text_in true (drop (length (take n bytes) + k) bytes ++ others))) (sym (one_mark k some));
      ended = λ last none. absurd (omega (arith, none));
    }

front_replaced : (is_last : Bool) (bytes : List ℕ) (n k : ℕ) → IsValidUpTo bytes n → utf8_error_len (drop n bytes) ≡ Some k → 0 < k
    → n + k ≤ length bytes → IsFront true is_last bytes (take n bytes) k
front_replaced is_last bytes n k valid error some within =
    front_marked is_last bytes n k valid.front some within
    (λ others _. lossy_step (drop n bytes) k (valid_rest bytes n valid) error others some (omega (arith, length-drop n bytes)))

-- the same of the last bytes, which begin a character
front_cut : (is_last : Bool) (bytes : List ℕ) (n k : ℕ) → IsTrue is_last → IsValidUpTo bytes n → utf8_error_len (drop n bytes) ≡ None
    → k ≡ length bytes - n → IsFront true is_last bytes (take n bytes) k
front_cut is_last bytes n k last valid error size =
    let rest : List ℕ = drop n bytes in
    let short = valid.short in
    let gone : List ℕ = drop k rest in
    let empty : length (gone ++ []) ≡ 0 = omega (arith, size, length-append gone [], length-drop k rest, length-drop n bytes) in
    front_marked is_last bytes n k valid.front (omega (arith, size)) (omega (arith, size))
    (λ others none.
    ap (λ l. utf8_lossy (rest ++ l)) (none last) ∙ ap utf8_lossy (append-nil rest)
    ∙ lossy_last rest (valid_rest bytes n valid) error
    ∙ ap (λ l. replacement_bytes ++ l) (sym (utf8_lossy_empty (gone ++ []) empty))
    ∙ ap (λ l. replacement_bytes ++ utf8_lossy (gone ++ l)) (sym (none last)))

module _ (is_lossy is_last : Bool) (bytes text : List ℕ) (n replaced : ℕ) (valid : IsValidUpTo bytes n) (text_is : text ≡ take n bytes) where
  -- what a check of UTF-8 that fails finds: a character that isn't whole, the last bytes, and an ill-formed sequence
  pub front_open : replaced ≡ 0 → is_last ≡ false → IsFront is_lossy is_last bytes text replaced
  front_open none more =
      let short = valid.short in
      subst (IsFront is_lossy is_last bytes text) (sym none) (subst (λ l. IsFront is_lossy is_last bytes l 0) (sym text_is)
      (front_text is_lossy is_last bytes n valid.front (omega arith) (λ last. absurd (cc (last, more)))))

  pub front_ended : is_lossy ≡ true → IsTrue is_last → utf8_error_len (drop n bytes) ≡ None → replaced ≡ length bytes - n
      → IsFront is_lossy is_last bytes text replaced
  front_ended lossy last error size =
      subst (λ b. IsFront b is_last bytes text replaced) (sym lossy) (subst (λ l. IsFront true is_last bytes l replaced) (sym text_is)
      (front_cut is_last bytes n replaced last valid error size))

  pub front_faulty : is_lossy ≡ true → utf8_error_len (drop n bytes) ≡ Some replaced → IsErrorLen bytes n (Some replaced)
      → IsFront is_lossy is_last bytes text replaced
  front_faulty lossy error size =
      subst (λ b. IsFront b is_last bytes text replaced) (sym lossy) (subst (λ l. IsFront true is_last bytes l replaced) (sym text_is)
      (front_replaced is_last bytes n replaced valid error size.0 size.2))

module _ (is_lossy is_last : Bool) (bytes window : List ℕ) where
  -- at the start nothing is spelled
  pub spelled_start : IsSpelled is_lossy is_last bytes 0 window window
  spelled_start = record {
    characters = [];
    text = tt;
    within = omega arith;
    grown = sym (append-nil window);
    spelled = λ others _. refl;
  }

  mark_is_text : (replaced : ℕ) → IsText (marks replaced)
  mark_is_text replaced = cond_both (replaced == 0) [] (0xFFFD ∷ []) IsText (λ _. tt) (λ _. ((omega arith, λ lies. omega (arith, lies)), tt))

  -- one piece more
  pub spelled_more : (longer next text : List ℕ) (at replaced end : ℕ) → IsSpelled is_lossy is_last bytes at window longer
      → IsFront is_lossy is_last (drop at bytes) text replaced → next ≡ longer ++ (chars text ++ marks replaced) → end ≡ at + (length text + replaced)
      → IsSpelled is_lossy is_last bytes end window next
  spelled_more longer next text at replaced end so_far front grown is =
      let more : List ℕ = chars text ++ marks replaced in
      let within = so_far.within in
      record {
        characters = so_far.characters ++ more;
        text = all_append IsCharacter so_far.characters more so_far.text
            (all_append IsCharacter (chars text) (marks replaced) (IsText-chars text front.utf8) (mark_is_text replaced));
        within = omega (arith, front.within, length-drop at bytes);
        grown = grown ∙ ap (λ l. l ++ more) so_far.grown ∙ append_assoc window so_far.characters more;
        spelled = λ others last.
            so_far.spelled others last
            ∙ ap (λ l. so_far.characters ++ l) (front.spelled others last)
            ∙ ap (λ l. so_far.characters ++ (chars text ++ (marks replaced ++ text_in is_lossy (l ++ others)))) (drop-drop (length text + replaced) at bytes)
            ∙ ap (λ i. so_far.characters ++ (chars text ++ (marks replaced ++ text_in is_lossy (drop i bytes ++ others)))) (sym is)
            ∙ ap (λ l. so_far.characters ++ l) (sym (append_assoc (chars text) (marks replaced) (text_in is_lossy (drop end bytes ++ others))))
            ∙ sym (append_assoc so_far.characters more (text_in is_lossy (drop end bytes ++ others)));
      }
