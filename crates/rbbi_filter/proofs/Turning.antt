-- Texts whose characters are turned.
use Rattle.std.proofs.Common.{◌≡◌, ℕ, zero, suc, ◌+◌, ◌<◌, ◌≤◌, false, cond, eqb, List, [], ◌∷◌, ◌++◌, Option, Some, None, length, take, drop, map}
use Rattle.std.proofs.Common.{get_or, set, refl, sym, ap, ◌∙◌, ⊎_elim, arith}
use Rattle.std.proofs.Math.ListN.{replicate}
use Rattle.std.specs.Prelude.{unwrap_or}
use Rattle.std.specs.List.{AllByRecursion}
use Rattle.std.proofs.lemmas.Bool.{cond_both, cases_Bool, cond-true, cond-false, eqb-true, eqb-false, ne_eqb, cases_lt}
use Rattle.std.proofs.lemmas.List.{length-set, map-append, take-map, drop-map, get_or-set_same, get_or-set_other, get_or-replicate, length-replicate}
use Rattle.std.proofs.lemmas.List.{get_or_past}
use Rattle.rbbi_model.specs.Words.{IsCharacter, IsText}
use Rattle.rbbi_model.specs.Scripts.{splice}
use Rattle.rbbi_filter.specs.declared.pair.Pair.{Pair}
use Rattle.rbbi_filter.specs.Pairs.{second_of, turn, turned}
use Rattle.rbbi_filter.specs.PairFiles.{AreDistinct}
use Rattle.rbbi_filter.specs.inner.Turning.{AreSeconds}

turned_character : (pairs : List Pair) → AllByRecursion (λ pair. IsCharacter pair.to) pairs → (c : ℕ) → IsCharacter c → IsCharacter (turn pairs c)
turned_character [] each c is = is
turned_character (pair ∷ pairs) each c is =
    cond_both (eqb pair.from c) (Some pair.to) (second_of pairs c) (λ m. IsCharacter (unwrap_or m c)) (λ _. each.0)
    (λ _. turned_character pairs each.1 c is)

-- a turned text has characters alone
pub turned_text : (pairs : List Pair) → AllByRecursion (λ pair. IsCharacter pair.to) pairs → (x : List ℕ) → IsText x → IsText (turned pairs x)
turned_text pairs each [] are = tt
turned_text pairs each (c ∷ x) are = (turned_character pairs each c are.0, turned_text pairs each x are.1)

-- an edit of a text turns into that edit of the turned text
pub turned_splice : (pairs : List Pair) (x : List ℕ) (at removed : ℕ) (inserted : List ℕ) →
    turned pairs (splice x at removed inserted) ≡ splice (turned pairs x) at removed (turned pairs inserted)
turned_splice pairs x at removed inserted =
    let f : ℕ → ℕ = turn pairs in
    map-append f (take at x ++ inserted) (drop (at + removed) x)
    ∙ ap (λ l. l ++ map f (drop (at + removed) x)) (map-append f (take at x) inserted)
    ∙ ap (λ l. l ++ map f inserted ++ map f (drop (at + removed) x)) (sym (take-map f at x))
    ∙ ap (λ r. take at (map f x) ++ map f inserted ++ r) (sym (drop-map f (at + removed) x))

-- a character that a list of pairs doesn't turn is apart from the first one's
pub not_head : (head : Pair) (pairs : List Pair) (c : ℕ) → second_of (head ∷ pairs) c ≡ None → (eqb head.from c ≡ false) × (second_of pairs c ≡ None)
not_head head pairs c none =
    ⊎_elim (λ same. absurd (some_none head.to (sym (cond-true (eqb head.from c) (Some head.to) (second_of pairs c) same) ∙ none)))
    (λ other. (other, sym (cond-false (eqb head.from c) (Some head.to) (second_of pairs c) other) ∙ none))
    (cases_Bool (eqb head.from c))
  where
    some_none : (p : ℕ) → Some p ≡ None → ⊥
    some_none p same = cc

-- what one more pair turns
pub second_of-append : (pairs : List Pair) (pair : Pair) (c : ℕ) → second_of pairs pair.from ≡ None →
    second_of (pairs ++ pair ∷ []) c ≡ cond (eqb pair.from c) (Some pair.to) (second_of pairs c)
second_of-append [] pair c none = refl
second_of-append (head ∷ pairs) pair c none =
    let apart : (eqb head.from pair.from ≡ false) × (second_of pairs pair.from ≡ None) = not_head head pairs pair.from none in
    ⊎_elim
    (λ same.
    cond-true (eqb head.from c) (Some head.to) (second_of (pairs ++ pair ∷ []) c) same
    ∙ sym (cond-true (eqb head.from c) (Some head.to) (second_of pairs c) same)
    ∙ sym (cond-false (eqb pair.from c) (Some pair.to) (second_of (head ∷ pairs) c)
    (ne_eqb pair.from c (λ is. eqb-false head.from pair.from apart.0 (eqb-true head.from c same ∙ sym is)))))
    (λ other.
    cond-false (eqb head.from c) (Some head.to) (second_of (pairs ++ pair ∷ []) c) other
    ∙ second_of-append pairs pair c apart.1
    ∙ ap (cond (eqb pair.from c) (Some pair.to)) (sym (cond-false (eqb head.from c) (Some head.to) (second_of pairs c) other)))
    (cases_Bool (eqb head.from c))

-- the pairs with one more have distinct first characters
pub distinct-append : (pairs : List Pair) (pair : Pair) → AreDistinct pairs → second_of pairs pair.from ≡ None → AreDistinct (pairs ++ pair ∷ [])
distinct-append [] pair distinct none = (refl, tt)
distinct-append (head ∷ pairs) pair distinct none =
    let apart : (eqb head.from pair.from ≡ false) × (second_of pairs pair.from ≡ None) = not_head head pairs pair.from none in (
      second_of-append pairs pair head.from apart.1
          ∙ cond-false (eqb pair.from head.from) (Some pair.to) (second_of pairs head.from)
          (ne_eqb pair.from head.from (λ is. eqb-false head.from pair.from apart.0 (sym is)))
          ∙ distinct.0,
      distinct-append pairs pair distinct.1 apart.1,
    )

all_append : {X : Type 0} (P : X → Type 0) (xs : List X) (x : X) → AllByRecursion P xs → P x → AllByRecursion P (xs ++ x ∷ [])
all_append P [] x all is = (is, tt)
all_append P (y ∷ xs) x all is = (all.0, all_append P xs x all.1 is)

-- One pair more is kept at the place of its first character, where the places up to there hold what they did.
pub kept_more : (pairs : List Pair) (pair : Pair) (seconds room : List (Option ℕ)) → AreSeconds pairs seconds → second_of pairs pair.from ≡ None →
    IsCharacter pair.from → IsCharacter pair.to → pair.from < length room → length room ≤ 0x110000 →
    ((c : ℕ) → get_or room c None ≡ get_or seconds c None) → AreSeconds (pairs ++ pair ∷ []) (set room pair.from (Some pair.to))
kept_more pairs pair seconds room are none from to within few same = record {
  few = omega (arith, few, length-set room pair.from (Some pair.to));
  each = λ c. ⊎_elim
      (λ is.
      let at : pair.from ≡ c = eqb-true pair.from c is in
      ap (λ i. get_or (set room pair.from (Some pair.to)) i None) (sym at)
      ∙ get_or-set_same room pair.from (Some pair.to) None within
      ∙ sym (cond-true (eqb pair.from c) (Some pair.to) (second_of pairs c) is)
      ∙ sym (second_of-append pairs pair c none))
      (λ other.
      get_or-set_other room pair.from c (Some pair.to) None (λ is. eqb-false pair.from c other (sym is))
      ∙ same c
      ∙ are.each c
      ∙ sym (cond-false (eqb pair.from c) (Some pair.to) (second_of pairs c) other)
      ∙ sym (second_of-append pairs pair c none))
      (cases_Bool (eqb pair.from c));
  characters = all_append (λ p. IsCharacter p.to) pairs pair are.characters to;
}

-- room behind, in which nothing is kept
pub more_room : (seconds : List (Option ℕ)) (n c : ℕ) → get_or (seconds ++ replicate n None) c None ≡ get_or seconds c None
more_room [] n c =
    ⊎_elim (λ within. get_or-replicate n c None None within)
    (λ past. get_or_past (replicate n None) c None (omega (arith, past, length-replicate {A = Option ℕ} n None)))
    (cases_lt c n)
more_room (s ∷ seconds) n zero = refl
more_room (s ∷ seconds) n (suc c) = more_room seconds n c
