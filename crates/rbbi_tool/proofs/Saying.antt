-- Bytes that are appended part by part.
use Rattle.std.proofs.Common.{◌≡◌, ◌<◌, List, ℕ, suc, [], ◌∷◌, ◌++◌, length, take, drop, get_or, Result, sym, ap, ◌∙◌, append_assoc, append-nil, drop-cons}
use Rattle.std.specs.List.{flat_map}
use Rattle.std.proofs.lemmas.List.{take-append-drop}
use Rattle.std.proofs.lemmas.Grind.{flat_map-append}
use Rattle.rbbi_text.specs.Appending.{AppendsFront, Appends}
use Rattle.rbbi_text.proofs.Appended.{front_first, front_later, appends_then}

-- of the bytes these are left, and those before them were appended
pub record IsSaid (old bytes rest new : List ℕ) : Type 0 where
  pub said : List ℕ
  pub parts : bytes ≡ said ++ rest
  pub appended : new ≡ old ++ said

pub said_none : (old bytes rest : List ℕ) → bytes ≡ rest → IsSaid old bytes rest old
said_none old bytes rest parts = record { said = []; parts = parts; appended = sym (append-nil old) }

module _ (old bytes rest new : List ℕ) (so_far : IsSaid old bytes rest new) where
  -- one more part was appended
  pub said_more : (first others new' : List ℕ) → rest ≡ first ++ others → new' ≡ new ++ first → IsSaid old bytes others new'
  said_more first others new' parts more = record {
    said = so_far.said ++ first;
    parts = so_far.parts ∙ ap (λ l. so_far.said ++ l) parts ∙ sym (append_assoc so_far.said first others);
    appended = more ∙ ap (λ l. l ++ first) so_far.appended ∙ append_assoc old so_far.said first;
  }

  -- the rest was appended, or a prefix of it
  pub said_rest : {T E : Type 0} (new' : List ℕ) (r : Result T E) → Appends new rest r new' → Appends old bytes r new'
  said_rest new' r last = appends_then old so_far.said rest bytes new new' r so_far.appended so_far.parts last

  -- a prefix of the next part was appended
  pub said_front : (first others new' : List ℕ) → rest ≡ first ++ others → AppendsFront new first new' → AppendsFront old bytes new'
  said_front first others new' parts front =
      front_later old so_far.said rest bytes new new' so_far.appended so_far.parts (front_first new first others rest new' parts front)

-- what is written of the items before one, of the one, and of those behind it
pub flat_parts : {A : Type 0} (f : A → List ℕ) (xs : List A) (i : ℕ) (d : A) → i < length xs → flat_map f xs ≡ flat_map f (take i xs) ++
    (f (get_or xs i d) ++ flat_map f (drop (suc i) xs))
flat_parts f xs i d within =
    ap (flat_map f) (sym (take-append-drop i xs) ∙ ap (λ l. take i xs ++ l) (drop-cons xs i d within))
    ∙ flat_map-append f (take i xs) (get_or xs i d ∷ drop (suc i) xs)
