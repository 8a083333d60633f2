-- Pairs of code points and marks, taken off one by one.
use Rattle.std.proofs.Common.{◌≡◌, ℕ, ◌+◌, ◌*◌, ◌≤◌, Bool, List, [], ◌∷◌, ◌++◌, length, refl, ap, sym, subst, ◌∙◌, append_assoc, append-nil, length-append}
use Rattle.std.proofs.Common.{arith}
use Rattle.rbbi_conform.specs.Grammar.{words_of, IsHexadecimalOf, ArePairs}
use Rattle.rbbi_conform.specs.inner.Readings.{IsFirstWord, IsNoPair, IsPairOf, AreMarkedBy}

-- So many pairs were read, and these words are left.
pub record IsMarking (words text : List ℕ) (marks : List Bool) (rest : List ℕ) : Type 0 where
  pub forth : (more : List ℕ) (others : List Bool) → ArePairs (words_of rest) more others → ArePairs (words_of words) (text ++ more) (marks ++ others)
  pub back : (all : List ℕ) (those : List Bool) → ArePairs (words_of words) all those → (more : List ℕ) × (others : List Bool) ×
      ArePairs (words_of rest) more others
  pub few : 6 * length marks + length rest ≤ length words
  pub same : length text ≡ length marks

pub IsMarking-start : (words : List ℕ) → IsMarking words [] [] words
IsMarking-start words = record { forth = λ more others h. h; back = λ all those h. (all, those, h); few = omega arith; same = refl }

tail_of : (point p : List ℕ) (words : List (List ℕ)) (s : List ℕ) (r : List (List ℕ)) → point ∷ words ≡ p ∷ s ∷ r → (p ≡ point) × (words ≡ s ∷ r)
tail_of point p words s r e = (cc, cc)

rest_of : (sign s : List ℕ) (words r : List (List ℕ)) → sign ∷ words ≡ s ∷ r → r ≡ words
rest_of sign s words r e = cc

-- one pair more
pub IsMarking-more : (words text : List ℕ) (marks : List Bool) (rest point after : List ℕ) (c : ℕ) (mark : Bool) (left : List ℕ) →
    IsMarking words text marks rest → IsFirstWord rest point after → IsPairOf point after c mark left →
    IsMarking words (text ++ c ∷ []) (marks ++ mark ∷ []) left
IsMarking-more words text marks rest point after c mark left h first pair = record {
  forth = λ more others pairs.
      subst (λ t. ArePairs (words_of words) t (marks ++ mark ∷ [] ++ others)) (sym (append_assoc text (c ∷ []) more))
      (subst (λ m. ArePairs (words_of words) (text ++ c ∷ more) m) (sym (append_assoc marks (mark ∷ []) others))
      (h.forth (c ∷ more) (mark ∷ others) (
        point,
        pair.sign,
        words_of left,
        first.words
            ∙ ap (λ ws. point ∷ ws) pair.words,
        pair.is_point,
        pair.is_mark,
        pairs,
      )));
  back = λ all those pairs.
      let before = h.back all those pairs in
      behind before.0 before.1 before.2;
  few = let f = h.few in let p = first.parts in let q = pair.parts in let l = length-append marks (mark ∷ []) in omega arith;
  same = let s = h.same in let l = length-append marks (mark ∷ []) in let k = length-append text (c ∷ []) in omega arith;
}
  where
    behind : (all : List ℕ) (those : List Bool) → ArePairs (words_of rest) all those → (more : List ℕ) × (others : List Bool) ×
        ArePairs (words_of left) more others
    behind [] [] e = absurd (let k : point ∷ words_of after ≡ [] = sym first.words ∙ e in cc)
    behind (d ∷ all) [] e = absurd e
    behind [] (m ∷ those) e = absurd e
    behind (d ∷ all) (m ∷ those) (p, s, r, e, is_point, is_mark, pairs) =
        let tail = (tail_of point p (words_of after) s r (sym first.words ∙ e)).1 in
        (all, those, subst (λ ws. ArePairs ws all those) (rest_of pair.sign s (words_of left) r (sym pair.words ∙ tail)) pairs)

-- no pair follows
pub IsMarking-bad : (words text : List ℕ) (marks : List Bool) (rest point after : List ℕ) → IsMarking words text marks rest → IsFirstWord rest point after →
    IsNoPair point (words_of after) → (all : List ℕ) (those : List Bool) → ¬ ArePairs (words_of words) all those
IsMarking-bad words text marks rest point after h first none all those pairs =
    let before = h.back all those pairs in
    refused before.0 before.1 before.2
  where
    refused : (all : List ℕ) (those : List Bool) → ArePairs (words_of rest) all those → ⊥
    refused [] [] e = let k : point ∷ words_of after ≡ [] = sym first.words ∙ e in cc
    refused (d ∷ all) [] e = e
    refused [] (m ∷ those) e = e
    refused (d ∷ all) (m ∷ those) (p, s, r, e, is_point, is_mark, pairs) =
        let tail = tail_of point p (words_of after) s r (sym first.words ∙ e) in
        none d m s r tail.1 (subst (λ w. IsHexadecimalOf w d) tail.0 is_point) is_mark

-- no word is left
pub IsMarking-end : (words text : List ℕ) (marks : List Bool) (rest : List ℕ) → IsMarking words text marks rest → words_of rest ≡ [] →
    AreMarkedBy words text marks
IsMarking-end words text marks rest h none = record {
  pairs =
      subst (λ t. ArePairs (words_of words) t marks) (append-nil text)
      (subst (λ m. ArePairs (words_of words) (text ++ []) m) (append-nil marks) (h.forth [] [] none));
  same = h.same;
  few = let f = h.few in omega arith;
}
