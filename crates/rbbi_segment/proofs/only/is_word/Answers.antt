use Rattle.std.proofs.Common.{◌≡◌, ℕ, ◌-◌, ◌+◌, ◌<◌, List, [], ◌∷◌, drop, get_or, length, refl, sym, ap, ◌∙◌, arith}
use Rattle.std.specs.List.{list_any, slice_range}
use Rattle.std.proofs.lemmas.Bool.{or_from}
use Rattle.std.proofs.lemmas.Grind.{get_or_default_zero}
use Rattle.std.proofs.lemmas.List.{get_or-take, get_or-drop}
use Rattle.std.proofs.lemmas.List.Folds.{list_any_at, list_any-append}
use Rattle.rbbi_lex.proofs.WordLemmas.{slice_range-none, slice_range-more}
use Rattle.rbbi_model.proofs.Local.{length_piece}
use Rattle.rbbi_segment.specs.Wanted.{is_letter_or_number}
use Rattle.rbbi_segment.proofs.only.is_word.Goals as goal

pub loop-i-init : goal.loop-i-init
loop-i-init g c = record {
  first = omega arith;
  last = omega (arith, c.requires.some);
  none = ap (list_any is_letter_or_number) (slice_range-none c.args.text.now c.args.start);
}

pub returns-then-is_alphanumeric : goal.returns-then-is_alphanumeric
returns-then-is_alphanumeric g c =
    let x : List ℕ = c.args.text.now in
    let start : ℕ = c.args.start in
    let end : ℕ = c.args.end in
    let k : ℕ = c.loop-i.i - start in
    let place : start + k ≡ c.loop-i.i = omega (arith, c.loop-i.invariant.first) in
    let here : get_or (slice_range x start end) k 0 ≡ c.char_at.result =
    get_or-take (end - start) (drop start x) k 0 (omega (arith, place, c.loop-i-test.true)) ∙ get_or-drop start x k 0
    ∙ ap (λ n. get_or x n 0) place ∙ sym c.char_at.ensures.character in
    sym
    (list_any_at is_letter_or_number (slice_range x start end) k 0
    (omega (arith, length_piece x start end c.requires.within, place, c.loop-i-test.true))
    (ap is_letter_or_number here ∙ sym c.is_alphanumeric.ensures.value ∙ c.if-is_alphanumeric.true))

pub loop-i-preserved : goal.loop-i-preserved
loop-i-preserved g c =
    let x : List ℕ = c.args.text.now in
    let inside : c.loop-i.i < length x = omega (arith, c.loop-i-test.true, c.requires.within) in
    let one = slice_range-more x c.args.start c.loop-i.i c.char_at.result c.loop-i.invariant.first inside
    (c.char_at.ensures.character ∙ sym (get_or_default_zero x c.loop-i.i c.char_at.result inside)) in
    record {
      first = omega (arith, c.loop-i.invariant.first);
      last = omega (arith, c.loop-i-test.true);
      none = ap (list_any is_letter_or_number) one
          ∙ list_any-append is_letter_or_number (slice_range x c.args.start c.loop-i.i) (c.char_at.result ∷ [])
          ∙ or_from _ _ c.loop-i.invariant.none (or_from _ _ (sym c.is_alphanumeric.ensures.value ∙ c.if-is_alphanumeric.false) refl);
    }

pub returns : goal.returns
returns g c =
    let at : c.args.end ≡ c.loop-i.i = omega (arith, c.loop-i.invariant.last, c.loop-i-test.false) in
    sym (ap (λ n. list_any is_letter_or_number (slice_range c.args.text.now c.args.start n)) at ∙ c.loop-i.invariant.none)
