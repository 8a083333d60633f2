-- What is counted from a place on, in the piece that the place is in.
use Rattle.std.proofs.Common.{◌≡◌, ℕ, ◌+◌, ◌-◌, ◌<◌, ◌≤◌, List, [], ◌++◌, length, get_or, take, drop}
use Rattle.std.proofs.Common.{sum_by, sym, ap, ◌∙◌, subst, arith, eqb, length-append, Option, Some, None, MatchOption}
use Rattle.std.specs.Prelude.{⊤}
use Rattle.std.proofs.lemmas.List.{take-append-le}
use Rattle.rbbi_model.specs.declared.unit.Unit.{Unit as TextUnit}
use Rattle.rbbi_model.specs.Spelling.{joined}
use Rattle.rbbi_model.specs.Units.{size_of, offset_of}
use Rattle.rbbi_text.specs.Cuts.{starts_from}
use Rattle.rbbi_text.specs.Indexes.{IsIndex}
use Rattle.rbbi_text.specs.Weighed.{weight_of}
use Rattle.rbbi_text.specs.inner.Cuts.{AreWholeCut, IsFound}
use Rattle.rbbi_text.specs.inner.Fits.{IsFit}
use Rattle.rbbi_text.proofs.CutLemmas.{dropped_in}
use Rattle.rbbi_text.proofs.MilestoneLemmas.{fit_behind, index_is, offset_joined}

-- what fits into a part of a list, and is less than the part, is what fits into the list
fit_front : {A : Type 0} (weight : A → ℕ) (front back : List A) (most count units : ℕ) → IsFit weight front most count units → count < length front →
    IsFit weight (front ++ back) most count units
fit_front weight front back most count units fit less = record {
  within = omega (arith, fit.within, length-append front back);
  sum = fit.sum ∙ ap (λ l. sum_by weight l) (sym (take-append-le count front back (omega (arith, less))));
  fits = fit.fits;
  greatest = λ _.
      omega (arith, fit.greatest less, ap (λ l. sum_by weight l) (take-append-le (count + 1) front back (omega (arith, less))));
}

module _ (unit : TextUnit) (ps : List (List ℕ)) (starts : List ℕ) (cut : AreWholeCut ps starts) where
  start_is : (k place : ℕ) → IsFound ps starts k place → get_or (starts_from 0 ps) k 0 + (place - get_or starts k 0) ≡ place
  start_is k place found = omega (arith, ap (λ (s : List ℕ). get_or s k 0) cut.begin, found.begins)

  -- the text from a place on
  behind : (k place : ℕ) → IsFound ps starts k place →
      drop place (joined ps) ≡ drop (place - get_or starts k 0) (get_or ps k []) ++ joined (drop (k + 1) ps)
  behind k place found =
      ap (λ n. drop n (joined ps)) (sym (start_is k place found))
      ∙ dropped_in ps k (place - get_or starts k 0) found.within (omega (arith, found.begins, found.at_most))

  -- less than the rest of the piece fits
  pub near_index : (k place offset o count more : ℕ) (piece rest : List ℕ) → IsFound ps starts k place → place ≤ length (joined ps) →
      offset ≡ offset_of unit (joined ps) place → offset ≤ o → piece ≡ get_or ps k [] → rest ≡ drop (place - get_or starts k 0) piece →
      IsFit (size_of unit) rest (o - offset) count more → count < length rest →
      IsIndex unit (joined ps) o (record { at = place + count; whole = eqb (offset + more) o })
  near_index k place offset o count more piece rest found inside is low piece_is rest_is fit less =
      let text : drop place (joined ps) ≡ rest ++ joined (drop (k + 1) ps) =
      behind k place found
      ∙ ap (λ (l : List ℕ). l ++ joined (drop (k + 1) ps)) (sym (rest_is ∙ ap (λ (l : List ℕ). drop (place - get_or starts k 0) l) piece_is)) in
      index_is unit (joined ps) o (place + count) (offset + more)
      (fit_behind (size_of unit) (joined ps) place o offset count more inside is low
      (subst (λ l. IsFit (size_of unit) l (o - offset) count more) (sym text)
      (fit_front (size_of unit) rest (joined (drop (k + 1) ps)) (o - offset) count more fit less)))

  -- what a place of the piece is from its start
  offset_in_piece : (k place to : ℕ) → IsFound ps starts k place → place ≤ to → to - get_or starts k 0 ≤ length (get_or ps k []) →
      offset_of unit (joined ps) to ≡ sum_by (weight_of unit) (take k ps) + offset_of unit (get_or ps k []) (to - get_or starts k 0)
  offset_in_piece k place to found order within =
      let to_is : to ≡ get_or (starts_from 0 ps) k 0 + (to - get_or starts k 0) =
      omega (arith, ap (λ (s : List ℕ). get_or s k 0) cut.begin, found.begins, order) in
      ap (λ n. sum_by (size_of unit) (take n (joined ps))) to_is ∙ offset_joined unit ps k (to - get_or starts k 0) found.within within

  -- what lies between two places of one piece
  near_units : (k from to units : ℕ) (piece : List ℕ) → IsFound ps starts k from → from ≤ to → piece ≡ get_or ps k [] →
      to - get_or starts k 0 ≤ length piece →
      offset_of unit piece (from - get_or starts k 0) + units ≡ offset_of unit piece (to - get_or starts k 0) →
      offset_of unit (joined ps) from + units ≡ offset_of unit (joined ps) to
  near_units k from to units piece found order piece_is within is =
      let start : ℕ = get_or starts k 0 in
      let long = ap length piece_is in
      omega (
        arith,
        offset_in_piece k from from found (omega arith) (omega (arith, order, within, long)),
        offset_in_piece k from to found order (omega (arith, within, long)),
        ap (λ (l : List ℕ). offset_of unit l (from - start)) piece_is,
        ap (λ (l : List ℕ). offset_of unit l (to - start)) piece_is,
        is,
      )

  -- and the same where it may not be told
  pub near_told : (k from to : ℕ) (told : Option ℕ) (piece : List ℕ) → IsFound ps starts k from → from ≤ to → piece ≡ get_or ps k [] →
      MatchOption told ⊤ (λ units. (to - get_or starts k 0 ≤ length piece)
      × (offset_of unit piece (from - get_or starts k 0) + units ≡ offset_of unit piece (to - get_or starts k 0))) →
      MatchOption told ⊤ (λ units. offset_of unit (joined ps) from + units ≡ offset_of unit (joined ps) to)
  near_told k from to None piece found order piece_is is = tt
  near_told k from to (Some units) piece found order piece_is is = near_units k from to units piece found order piece_is is.0 is.1
