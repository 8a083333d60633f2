-- What may follow a set of positions, word by word.
use Rattle.std.proofs.Common.{◌≡◌, ◌≢◌, ℕ, true, ◌+◌, ◌-◌, ◌*◌, ◌<◌, ◌≤◌, ◌⊎◌, ◌↔◌, List, [], length, get_or, set, sym, ap, ◌∙◌, subst, inl, inr, ⊎_elim}
use Rattle.std.proofs.Common.{arith}
use Rattle.std.proofs.lemmas.Bool.{cases_lt, cases_eq}
use Rattle.std.proofs.lemmas.List.{get_or_past, get_or-set_same, get_or-set_other, length-set}
use Rattle.rbbi_model.specs.Places.{has_bit}
use Rattle.rbbi_bits.specs.BitRows.{Holds}
use Rattle.rbbi_bits.specs.NumberedRows.{listed_row}
use Rattle.rbbi_dfa.specs.inner.PositionRows.{PositionRows}
use Rattle.rbbi_dfa.specs.inner.Determinizing.{AreFollowersUpTo}
use Rattle.rbbi_dfa.specs.inner.LastWords.{FollowsWord, AddsFollowers, AreKept}
use Rattle.rbbi_bits.proofs.Rows.{none_in_empty, word_bit}

pub adds_none : (follow : List (List ℕ)) (i word : ℕ) (row : List ℕ) → AddsFollowers follow i word 0 row row
adds_none follow i word row p = (λ holds. inl holds, ⊎_elim (λ old. old) (λ new. absurd (omega (arith, new.1))))

-- a bit that is set
pub adds_with : (follow : List (List ℕ)) (i word bit : ℕ) (old row next followers : List ℕ) → AddsFollowers follow i word bit old row →
    has_bit word bit ≡ true →
    listed_row follow (64 * i + bit) ≡ followers →
    ((p : ℕ) → Holds next p ↔ (Holds row p ⊎ Holds followers p)) → AddsFollowers follow i word (bit + 1) old next
adds_with follow i word bit old row next followers before one is united p = (
  λ holds.
      ⊎_elim
      (λ earlier. ⊎_elim (λ was. inl was) (λ new. inr (new.0, omega (arith, new.1), new.2, new.3)) ((before p).0 earlier))
      (λ new. inr (bit, omega arith, one, subst (λ l. Holds l p) (sym is) new))
      ((united p).0 holds),
  ⊎_elim
      (λ was. (united p).1 (inl ((before p).1 (inl was))))
      (λ (b, short, set_bit, follows). (united p).1
      (⊎_elim
      (λ same. inr (subst (λ l. Holds l p) (ap (λ n. listed_row follow (64 * i + n)) same ∙ is) follows))
      (λ other. inl ((before p).1 (inr (b, omega (arith, short, other), set_bit, follows))))
      (cases_eq b bit))),
)

-- a bit that isn't set
pub adds_without : (follow : List (List ℕ)) (i word bit : ℕ) (old row : List ℕ) → AddsFollowers follow i word bit old row → has_bit word bit ≢ true →
    AddsFollowers follow i word (bit + 1) old row
adds_without follow i word bit old row before none p = (
  λ holds. ⊎_elim (λ was. inl was) (λ new. inr (new.0, omega (arith, new.1), new.2, new.3)) ((before p).0 holds),
  ⊎_elim
      (λ was. (before p).1 (inl was))
      (λ (b, short, set_bit, follows).
      ⊎_elim
      (λ same. absurd (none (ap (λ n. has_bit word n) (sym same) ∙ set_bit)))
      (λ other. (before p).1 (inr (b, omega (arith, short, other), set_bit, follows)))
      (cases_eq b bit)),
)

-- a position past the rows is followed by none
pub adds_past : (follow : List (List ℕ)) (i word bit : ℕ) (old row : List ℕ) → AddsFollowers follow i word bit old row → length follow ≤ 64 * i + bit →
    AddsFollowers follow i word (bit + 1) old row
adds_past follow i word bit old row before past p = (
  λ holds. ⊎_elim (λ was. inl was) (λ new. inr (new.0, omega (arith, new.1), new.2, new.3)) ((before p).0 holds),
  ⊎_elim
      (λ was. (before p).1 (inl was))
      (λ (b, short, set_bit, follows).
      ⊎_elim
      (λ same. absurd (none_in_empty (listed_row follow (64 * i + b)) p (get_or_past follow (64 * i + b) [] (omega (arith, past, same))) follows))
      (λ other. (before p).1 (inr (b, omega (arith, short, other), set_bit, follows)))
      (cases_eq b bit)),
)

-- what may follow one word more of the set was added
pub followers_word : (follow : List (List ℕ)) (set candidates next union : List ℕ) (i word : ℕ) → AreFollowersUpTo follow set (64 * i) candidates →
    word ≡ get_or set i 0 →
    ((p : ℕ) → Holds union p ↔ FollowsWord follow i word p) → ((p : ℕ) → Holds next p ↔ (Holds candidates p ⊎ Holds union p)) →
    AreFollowersUpTo follow set (64 * (i + 1)) next
followers_word follow set candidates next union i word before is union_of united p = (
  λ holds.
      ⊎_elim
      (λ earlier. let old = (before p).0 earlier in (old.0, omega (arith, old.1), old.2, old.3))
      (λ new.
      let by = (union_of p).0 new in
      (64 * i + by.0, omega (arith, by.1), word_bit set i by.0 by.1 ∙ ap (λ n. has_bit n by.0) (sym is) ∙ by.2, by.3))
      ((united p).0 holds),
  λ (q, short, at, follows). (united p).1
      (⊎_elim
      (λ less. inl ((before p).1 (q, less, at, follows)))
      (λ within.
      let bit : ℕ = q - 64 * i in
      let small : bit < 64 = omega (arith, short, within) in
      let same : q ≡ 64 * i + bit = omega (arith, within) in
      inr ((union_of p).1 (
        bit,
        small,
        ap (λ n. has_bit n bit) is ∙ sym (word_bit set i bit small) ∙ subst (Holds set) same at,
        subst (λ n. Holds (listed_row follow n) p) same follows,
      )))
      (cases_lt q (64 * i))),
)

-- one word is another
pub kept_with : (rows : PositionRows) (words : List ℕ) (unions : List (List ℕ)) (i word : ℕ) (union : List ℕ) → AreKept rows words unions → i < rows.width →
    length union ≡ rows.width →
    ((p : ℕ) → Holds union p ↔ FollowsWord rows.follow i word p) → AreKept rows (set words i word) (set unions i union)
kept_with rows words unions i word union kept short wide is =
    let word_same : get_or (set words i word) i 0 ≡ word = get_or-set_same words i word 0 (omega (arith, short, kept.many_words)) in
    let union_same : get_or (set unions i union) i [] ≡ union = get_or-set_same unions i union [] (omega (arith, short, kept.many)) in
    record {
      many_words = length-set words i word ∙ kept.many_words;
      many = length-set unions i union ∙ kept.many;
      wide = λ k within.
          ⊎_elim
          (λ same. subst (λ n. length (listed_row (set unions i union) n) ≡ rows.width) (sym same) (ap length union_same ∙ wide))
          (λ other. ap length (get_or-set_other unions i k union [] other) ∙ kept.wide k within)
          (cases_eq k i);
      each = λ k within p.
          ⊎_elim
          (λ same.
          subst (λ n. Holds (listed_row (set unions i union) n) p ↔ FollowsWord rows.follow n (get_or (set words i word) n 0) p) (sym same)
          (subst (λ l. Holds l p ↔ FollowsWord rows.follow i (get_or (set words i word) i 0) p) (sym union_same)
          (subst (λ n. Holds union p ↔ FollowsWord rows.follow i n p) (sym word_same) (is p))))
          (λ other.
          subst (λ l. Holds l p ↔ FollowsWord rows.follow k (get_or (set words i word) k 0) p) (sym (get_or-set_other unions i k union [] other))
          (subst (λ n. Holds (listed_row unions k) p ↔ FollowsWord rows.follow k n p) (sym (get_or-set_other words i k word 0 other)) (kept.each k within p)))
          (cases_eq k i);
    }

-- the unions of the first so many words, all of which are 0
pub record AreFirstUnions (rows : PositionRows) (unions : List (List ℕ)) (count : ℕ) : Type 0 where
  pub many : length unions ≡ count
  pub wide : (i : ℕ) → i < count → length (listed_row unions i) ≡ rows.width
  pub each : (i : ℕ) → i < count → (p : ℕ) → Holds (listed_row unions i) p ↔ FollowsWord rows.follow i 0 p
