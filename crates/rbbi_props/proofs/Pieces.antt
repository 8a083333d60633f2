-- The parts of a text between bytes, taken off one by one.
use Rattle.std.proofs.Common.{◌≡◌, ℕ, ◌<◌, Bool, cond, List, [], ◌∷◌, length, refl, ap, sym, ◌∙◌, inl, inr, arith}
use Rattle.std.specs.List.{position_or_len, before_first, after_first, slice_split, onto_first}
use Rattle.std.proofs.lemmas.Bool.{cases_Bool}
use Rattle.std.proofs.lemmas.List.Sums.{fails_before_first}
use Rattle.std.proofs.lemmas.List.Splits.{slice_split_none, slice_split_first}
use Rattle.rbbi_props.specs.RowLines.{last_part}

-- a split has a first part
pub split_cons : (p : ℕ → Bool) (xs : List ℕ) → (part : List ℕ) × (parts : List (List ℕ)) × (slice_split p xs ≡ part ∷ parts)
split_cons p [] = ([], [], refl)
split_cons p (x ∷ xs) =
    elim (cases_Bool (p x)) [
      | inl passes ↦ ([], slice_split p xs, ap (λ b. cond b ([] ∷ slice_split p xs) (onto_first x (slice_split p xs))) passes)
      | inr fails ↦
          let rest = split_cons p xs in
          (x ∷ rest.0, rest.1, ap (λ b. cond b ([] ∷ slice_split p xs) (onto_first x (slice_split p xs))) fails ∙ ap (λ ps. onto_first x ps) rest.2)
    ]

-- where the byte doesn't stand, the text is the one part
pub split_none : (p : ℕ → Bool) (xs : List ℕ) → position_or_len p xs ≡ length xs → slice_split p xs ≡ xs ∷ []
split_none p xs e = slice_split_none p xs (λ k d l. fails_before_first p xs k d (omega arith))

pub split_some : (p : ℕ → Bool) (xs : List ℕ) → position_or_len p xs < length xs → slice_split p xs ≡ before_first p xs ∷ slice_split p (after_first p xs)
split_some p xs l = slice_split_first p xs 0 l

-- the last part is that of what follows the first byte
pub last_none : (p : ℕ → Bool) (xs : List ℕ) → position_or_len p xs ≡ length xs → last_part (slice_split p xs) ≡ xs
last_none p xs e = ap last_part (split_none p xs e)

last_cons : (part : List ℕ) (parts : List (List ℕ)) (next : List ℕ) (others : List (List ℕ)) → parts ≡ next ∷ others →
    last_part (part ∷ parts) ≡ last_part parts
last_cons part parts next others e =
    ap (λ ps. last_part (part ∷ ps)) e ∙ sym (ap last_part e)

pub last_some : (p : ℕ → Bool) (xs : List ℕ) → position_or_len p xs < length xs → last_part (slice_split p xs) ≡ last_part (slice_split p (after_first p xs))
last_some p xs l =
    let rest = split_cons p (after_first p xs) in
    ap last_part (split_some p xs l) ∙ last_cons (before_first p xs) (slice_split p (after_first p xs)) rest.0 rest.1 rest.2
