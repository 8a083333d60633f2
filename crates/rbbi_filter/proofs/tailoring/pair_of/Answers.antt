-- No `;`, and one.
use Rattle.std.proofs.Common.{◌≡◌, ℕ, ◌+◌, [], eqb, Option, Some, None, take, drop, refl, ap, sym, ◌∙◌, arith}
use Rattle.std.specs.List.{before_first, after_first}
use Rattle.std.proofs.lemmas.List.{take_rest}
use Rattle.std.proofs.Math.ListN.{drop_of_length-le}
use Rattle.rbbi_filter.specs.PairFiles.{character_of, pair_with, pair_in}
use Rattle.rbbi_filter.proofs.tailoring.pair_of.Goals as goal

no_second : (first second : Option ℕ) → second ≡ None → pair_with first second ≡ None
no_second None second none = refl
no_second (Some from) second none = ap (pair_with (Some from)) none

pub returns-then-end-fields : goal.returns-then-end-fields
returns-then-end-fields c =
    let fields = c.before_byte-fields.result.now in
    let place = c.place_or_len-end.ensures.place in
    let nothing : after_first (λ byte. eqb byte 59) fields ≡ [] = drop_of_length-le fields (omega (arith, place, c.if-end-fields.true)) in
    sym
    (ap pair_in (sym c.before_byte-fields.ensures.bytes)
    ∙ no_second (character_of (before_first (λ byte. eqb byte 59) fields)) (character_of (after_first (λ byte. eqb byte 59) fields)) (ap character_of nothing))

pub returns-in_err-from : goal.returns-in_err-from
returns-in_err-from c =
    let fields = c.before_byte-fields.result.now in
    let place = c.place_or_len-end.ensures.place in
    let first : None ≡ character_of (before_first (λ byte. eqb byte 59) fields) =
    sym c.in_err-from.was ∙ c.character_of.ensures ∙ ap (λ n. character_of (take n fields)) place in
    c.from_residual.ensures
    ∙ ap (λ m. pair_with m (character_of (after_first (λ byte. eqb byte 59) fields))) first
    ∙ ap pair_in c.before_byte-fields.ensures.bytes

pub returns-in_err-to : goal.returns-in_err-to
returns-in_err-to c =
    let fields = c.before_byte-fields.result.now in
    let i = c.place_or_len-end.result in
    let place = c.place_or_len-end.ensures.place in
    let second : None ≡ character_of (after_first (λ byte. eqb byte 59) fields) =
    sym c.in_err-to.was ∙ c.character_of-2.ensures ∙ ap character_of (take_rest fields (i + 1) ∙ ap (λ n. drop (n + 1) fields) place) in
    c.from_residual-in_err-to.ensures
    ∙ sym (no_second (character_of (before_first (λ byte. eqb byte 59) fields)) (character_of (after_first (λ byte. eqb byte 59) fields)) (sym second))
    ∙ ap pair_in c.before_byte-fields.ensures.bytes

pub returns : goal.returns
returns c =
    let fields = c.before_byte-fields.result.now in
    let i = c.place_or_len-end.result in
    let place = c.place_or_len-end.ensures.place in
    let first : Some c.in_ok-from.from ≡ character_of (before_first (λ byte. eqb byte 59) fields) =
    sym c.in_ok-from.was ∙ c.character_of.ensures ∙ ap (λ n. character_of (take n fields)) place in
    let second : Some c.in_ok-to.to ≡ character_of (after_first (λ byte. eqb byte 59) fields) =
    sym c.in_ok-to.was ∙ c.character_of-2.ensures ∙ ap character_of (take_rest fields (i + 1) ∙ ap (λ n. drop (n + 1) fields) place) in
    ap (λ m. pair_with m (Some c.in_ok-to.to)) first
    ∙ ap (pair_with (character_of (before_first (λ byte. eqb byte 59) fields))) second
    ∙ ap pair_in c.before_byte-fields.ensures.bytes
