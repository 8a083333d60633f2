-- One more block of categories.
use Rattle.std.proofs.Common.{◌≡◌, ℕ, ◌+◌, ◌-◌, ◌*◌, ◌/◌, ◌%◌, ◌<◌, ◌≤◌, List, [], ◌∷◌, ◌++◌, length, take, drop, get_or, sym, ap, ◌∙◌}
use Rattle.std.proofs.Common.{⊎_elim, arith}
use Rattle.std.specs.Prelude.{slice_range}
use Rattle.std.proofs.lemmas.Bool.{cases_eq, cases_lt}
use Rattle.std.proofs.lemmas.List.{get_or_append_left, get_or_push, length_push, get_or-take, get_or-drop, length-take}
use Rattle.rbbi_model.specs.Tables.{CategoryRange, category_of}
use Rattle.rbbi_model.specs.ValidTables.{AreApart}
use Rattle.rbbi_table.specs.inner.Ranges.{start_of, IsUpTo, HoldsCodePoint}
use Rattle.rbbi_table.specs.Blocks.{in_block, AreFirstBlocks}
use Rattle.rbbi_table.proofs.RangeLemmas.{category_held}

-- the number of a block that was there before
old_number : (numbers : List ℕ) (x block : ℕ) → block < length numbers → get_or (numbers ++ x ∷ []) block 0 ≡ get_or numbers block 0
old_number numbers x block short = get_or_append_left numbers (x ∷ []) 0 block short

module _ (ranges : List CategoryRange) (numbers kept : List ℕ) (count : ℕ) (first : AreFirstBlocks ranges numbers kept count) where
  in_old : (x c : ℕ) → c < count * 256 → in_block (numbers ++ x ∷ []) kept c ≡ in_block numbers kept c
  in_old x c short = ap (λ n. get_or kept (n * 256 + c % 256) 0) (old_number numbers x (c / 256) (omega (arith, first.all)))

  -- a block with the categories of the one before it
  pub push_same : (range x : ℕ) → AreApart ranges → 0 < count → IsUpTo ranges range (count * 256) → start_of ranges range + 256 ≤ count * 256 →
      IsUpTo ranges range (count * 256 + 256) →
      x ≡ get_or numbers (count - 1) 0 → AreFirstBlocks ranges (numbers ++ x ∷ []) kept (count + 1)
  push_same range x apart some up_to begins further is = record {
    all = length_push numbers x ∙ ap (λ n. n + 1) first.all;
    whole = λ block within.
        ⊎_elim
        (λ same.
        let number : get_or (numbers ++ x ∷ []) block 0 ≡ get_or numbers (count - 1) 0 = ap (λ n. get_or (numbers ++ x ∷ []) n 0) same ∙
        get_or_push numbers x 0 count first.all ∙ is in
        omega (arith, number, first.whole (count - 1) (omega arith)))
        (λ other.
        let number = old_number numbers x block (omega (arith, first.all)) in
        omega (arith, number, first.whole block (omega arith)))
        (cases_eq block count);
    same = λ c within.
        ⊎_elim
        (λ short. in_old x c short ∙ first.same c short)
        (λ long.
        let before : ℕ = c - 256 in
        let block : c / 256 ≡ count = omega arith in
        let number : get_or (numbers ++ x ∷ []) (c / 256) 0 ≡ get_or numbers (before / 256) 0 =
        ap (λ n. get_or (numbers ++ x ∷ []) n 0) block ∙ get_or_push numbers x 0 count first.all ∙ is ∙
        ap (λ n. get_or numbers n 0) (let e : count - 1 ≡ before / 256 = omega arith in e) in
        let place : c % 256 ≡ before % 256 = omega arith in
        let here : HoldsCodePoint ranges range c = record {
          within = up_to.within;
          begins = omega (arith, begins, long);
          ends =
              λ more. omega (arith, further.ends more, within);
        } in
        let there : HoldsCodePoint ranges range before = record {
          within = up_to.within;
          begins = omega (arith, begins, long);
          ends =
              λ more. omega (arith, further.ends more, within);
        } in
        ap (λ n. get_or kept (n * 256 + c % 256) 0) number
        ∙ ap (λ k. get_or kept (get_or numbers (before / 256) 0 * 256 + k) 0) place
        ∙ first.same before (omega arith)
        ∙ category_held ranges range before apart there
        ∙ sym (category_held ranges range c apart here))
        (cases_lt c (count * 256));
  }

  -- a block whose categories are kept
  pub push_new : (kept' block : List ℕ) (x : ℕ) → take (length kept) kept' ≡ kept → x * 256 + 256 ≤ length kept' →
      slice_range kept' (x * 256) (x * 256 + 256) ≡ block →
      ((k : ℕ) → k < 256 → get_or block k 0 ≡ category_of ranges (count * 256 + k)) → AreFirstBlocks ranges (numbers ++ x ∷ []) kept' (count + 1)
  push_new kept' block x before inside is categories =
      let long : length kept ≤ length kept' = omega (arith, ap length before, length-take (length kept) kept') in
      record {
        all = length_push numbers x ∙ ap (λ n. n + 1) first.all;
        whole = λ b within.
            ⊎_elim
            (λ same.
            let number : get_or (numbers ++ x ∷ []) b 0 ≡ x = ap (λ n. get_or (numbers ++ x ∷ []) n 0) same ∙ get_or_push numbers x 0 count first.all in
            omega (arith, number, inside))
            (λ other.
            let number = old_number numbers x b (omega (arith, first.all)) in
            omega (arith, number, first.whole b (omega arith), long))
            (cases_eq b count);
        same = λ c within.
            ⊎_elim
            (λ short.
            let number = old_number numbers x (c / 256) (omega (arith, first.all)) in
            let place : ℕ = get_or numbers (c / 256) 0 * 256 + c % 256 in
            let whole = first.whole (c / 256) (omega arith) in
            ap (λ n. get_or kept' (n * 256 + c % 256) 0) number
            ∙ sym (get_or-take (length kept) kept' place 0 (omega (arith, whole)))
            ∙ ap (λ l. get_or l place 0) before
            ∙ first.same c short)
            (λ long.
            let here : c / 256 ≡ count = omega arith in
            let number : get_or (numbers ++ x ∷ []) (c / 256) 0 ≡ x = ap (λ n. get_or (numbers ++ x ∷ []) n 0) here ∙ get_or_push numbers x 0 count first.all in
            let k : ℕ = c % 256 in
            let low : k < 256 = omega arith in
            ap (λ n. get_or kept' (n * 256 + k) 0) number
            ∙ sym (get_or-drop (x * 256) kept' k 0)
            ∙ sym (get_or-take (x * 256 + 256 - x * 256) (drop (x * 256) kept') k 0 (omega arith))
            ∙ ap (λ l. get_or l k 0) is
            ∙ categories k low
            ∙ ap (λ n. category_of ranges n) (let e : count * 256 + k ≡ c = omega arith in e))
            (cases_lt c (count * 256));
      }
