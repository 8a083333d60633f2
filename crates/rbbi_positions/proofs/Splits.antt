-- Where a member of joined lists lies.
use Rattle.std.proofs.Common.{◌≡◌, ℕ, ◌⊎◌, List, [], ◌∷◌, ◌++◌, refl, ap, sym, ◌∙◌, inl, inr, append_assoc}
use Rattle.rbbi_model.specs.Spelling.{joined}

-- a member of two joined lists lies in the first or in the second
pub record InFirst {X : Type 0} (front back before after : List X) (x : X) : Type 0 where
  pub between : List X
  pub front_is : front ≡ before ++ x ∷ between
  pub after_is : after ≡ between ++ back

pub record InSecond {X : Type 0} (front back before after : List X) (x : X) : Type 0 where
  pub between : List X
  pub back_is : back ≡ between ++ x ∷ after
  pub before_is : before ≡ front ++ between

heads : {X : Type 0} (x y : X) (xs ys : List X) → x ∷ xs ≡ y ∷ ys → x ≡ y
heads x y xs ys e = cc

tails : {X : Type 0} (x y : X) (xs ys : List X) → x ∷ xs ≡ y ∷ ys → xs ≡ ys
tails x y xs ys e = cc

pub side_of : {X : Type 0} (front back before after : List X) (x : X) → before ++ x ∷ after ≡ front ++ back →
    InFirst front back before after x ⊎ InSecond front back before after x
side_of [] back before after x e = inr (record { between = before; back_is = sym e; before_is = refl })
side_of (y ∷ front) back [] after x e =
    inl (record { between = front; front_is = ap (λ z. z ∷ front) (sym (heads x y after (front ++ back) e)); after_is = tails x y after (front ++ back) e })
side_of (y ∷ front) back (z ∷ before) after x e =
    let same : y ≡ z = sym (heads z y (before ++ x ∷ after) (front ++ back) e) in
    elim (side_of front back before after x (tails z y (before ++ x ∷ after) (front ++ back) e)) [
      | inl h ↦ inl (record { between = h.between; front_is = ap (λ w. w ∷ front) same ∙ ap (λ l. z ∷ l) h.front_is; after_is = h.after_is })
      | inr h ↦ inr (record { between = h.between; back_is = h.back_is; before_is = ap (λ w. w ∷ before) (sym same) ∙ ap (λ l. y ∷ l) h.before_is })
    ]

-- a member of joined pieces lies in one of them
pub record InPiece (pieces : List (List ℕ)) (before after : List ℕ) (x : ℕ) : Type 0 where
  pub sooner : List (List ℕ)
  pub front : List ℕ
  pub back : List ℕ
  pub later : List (List ℕ)
  pub pieces_are : pieces ≡ sooner ++ (front ++ x ∷ back) ∷ later
  pub before_is : before ≡ joined sooner ++ front
  pub after_is : after ≡ back ++ joined later

pub piece_of : (pieces : List (List ℕ)) (before after : List ℕ) (x : ℕ) → before ++ x ∷ after ≡ joined pieces → InPiece pieces before after x
piece_of [] [] after x e = absurd (cc)
piece_of [] (y ∷ before) after x e = absurd (cc)
piece_of (piece ∷ pieces) before after x e =
    elim (side_of piece (joined pieces) before after x e) [
      | inl h ↦ record {
        sooner = [];
        front = before;
        back = h.between;
        later = pieces;
        pieces_are = ap (λ p. p ∷ pieces) h.front_is;
        before_is =
            refl;
        after_is = h.after_is;
      }
      | inr h ↦
          let rest = piece_of pieces h.between after x (sym h.back_is) in
          record {
            sooner = piece ∷ rest.sooner;
            front = rest.front;
            back = rest.back;
            later = rest.later;
            pieces_are = ap (λ ps. piece ∷ ps) rest.pieces_are;
            before_is = h.before_is ∙ ap (λ l. piece ++ l) rest.before_is ∙ sym (append_assoc piece (joined rest.sooner) rest.front);
            after_is = rest.after_is;
          }
    ]

pub joined-append : (these those : List (List ℕ)) → joined (these ++ those) ≡ joined these ++ joined those
joined-append [] those = refl
joined-append (piece ∷ these) those = ap (λ l. piece ++ l) (joined-append these those) ∙ sym (append_assoc piece (joined these) (joined those))
