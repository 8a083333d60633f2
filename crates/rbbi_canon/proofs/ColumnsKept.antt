-- Columns that are kept once each, and the first category of each.
use Rattle.std.proofs.Common.{◌≡◌, ◌≢◌, ◌⊎◌, ℕ, ◌+◌, ◌<◌, ◌≤◌, List, [], ◌∷◌, ◌++◌, length, get_or, refl, ap, sym, ◌∙◌, subst, ⊎_elim, arith, below_more}
use Rattle.std.proofs.lemmas.Bool.{cases_lt, cases_order}
use Rattle.std.proofs.lemmas.Grind.{same_number_lists}
use Rattle.std.proofs.lemmas.List.{get_or_append_left, get_or_push, length_push}
use Rattle.rbbi_bits.specs.NumberedRows.{listed_row, IsUnlisted, KeepsOrAdds}
use Rattle.rbbi_canon.specs.declared.grid.Grid.{Grid}
use Rattle.rbbi_canon.specs.inner.Grids.{LeadOnAlike, IsColumn, AreRepresentatives}
use Rattle.rbbi_canon.specs.inner.Columns.{HasColumn, AreKept}

-- the columns of categories by which every row leads on alike are the same
same_columns : (grid : Grid) (c d : ℕ) (these those : List ℕ) → IsColumn grid c these → IsColumn grid d those → LeadOnAlike grid c d → these ≡ those
same_columns grid c d these those is is' alike =
    same_number_lists these those (is.all ∙ sym is'.all)
    (λ row short. let low : row < grid.rows = omega (arith, short, is.all) in is.each row low ∙ alike row low ∙ sym (is'.each row low))

lead_alike : (grid : Grid) (c d : ℕ) (column : List ℕ) → IsColumn grid c column → IsColumn grid d column → LeadOnAlike grid c d
lead_alike grid c d column is is' row low = sym (is.each row low) ∙ is'.each row low

pub kept_length : (old : List (List ℕ)) (column : List ℕ) (new : List (List ℕ)) → KeepsOrAdds old column new → length new ≤ length old + 1
kept_length old column new keeps =
    ⊎_elim (λ same. omega (arith, ap length same)) (λ added. omega (arith, ap length added.0, length_push old column)) keeps

module _ (grid : Grid) (category : ℕ) (kept : List (List ℕ)) (firsts found column : List ℕ) (h : AreKept grid category kept firsts found)
    (short : category < grid.width) (is : IsColumn grid category column) where
  -- the column is kept already
  pub column_known : (number : ℕ) → number < length kept → listed_row kept number ≡ column →
      AreKept grid (category + 1) kept firsts (found ++ get_or firsts number 0 ∷ [])
  column_known number low same = record {
    many = h.many;
    few = omega (arith, h.few);
    once = h.once;
    columns = h.columns;
    all = omega (arith, length_push found (get_or firsts number 0), h.all);
    each = below_more (λ c. HasColumn grid kept firsts c (get_or (found ++ get_or firsts number 0 ∷ []) c 0)) category
        (λ c less.
        let old = h.each c less in
        record {
          place = old.place;
          within = old.within;
          first_is = get_or_append_left found (get_or firsts number 0 ∷ []) 0 c (omega (arith, less, h.all)) ∙ old.first_is;
          column = old.column;
        })
        (record {
          place = number;
          within = low;
          first_is = get_or_push found (get_or firsts number 0) 0 category h.all;
          column = subst (IsColumn grid category) (sym same) is;
        });
  }

  -- it is new
  pub column_added : IsUnlisted kept column →
      AreKept grid (category + 1) (kept ++ column ∷ []) (firsts ++ category ∷ []) (found ++ category ∷ [])
  column_added new =
      let more : List (List ℕ) = kept ++ column ∷ [] in
      let more_firsts : List ℕ = firsts ++ category ∷ [] in
      let long : length more ≡ length kept + 1 = length_push kept column in
      let old_row : (k : ℕ) → k < length kept → listed_row more k ≡ listed_row kept k = λ k low. get_or_append_left kept (column ∷ []) [] k low in
      let new_row : listed_row more (length kept) ≡ column = get_or_push kept column [] (length kept) refl in
      let old_first : (k : ℕ) → k < length kept → get_or more_firsts k 0 ≡ get_or firsts k 0 =
      λ k low. get_or_append_left firsts (category ∷ []) 0 k (omega (arith, low, h.many)) in
      let new_first : get_or more_firsts (length kept) 0 ≡ category = get_or_push firsts category 0 (length kept) h.many in
      record {
        many = omega (arith, length_push firsts category, h.many, long);
        few = omega (arith, long, h.few);
        once = λ j k less low same.
            ⊎_elim
            (λ below. h.once j k less below (sym (old_row j (omega (arith, less, below))) ∙ same ∙ old_row k below))
            (λ past.
            let last : k ≡ length kept = omega (arith, past, low, long) in
            let j_low : j < length kept = omega (arith, less, last) in
            new j j_low (sym (old_row j j_low) ∙ same ∙ ap (λ n. listed_row more n) last ∙ new_row))
            (cases_lt k (length kept));
        columns = λ k low. below_more (λ n. (get_or more_firsts n 0 < grid.width) × IsColumn grid (get_or more_firsts n 0) (listed_row more n)) (length kept)
            (λ n less.
            let old = h.columns n less in (
              omega (arith, old_first n less, old.0),
              subst (λ m. IsColumn grid m (listed_row more n)) (sym (old_first n less))
                  (subst (IsColumn grid (get_or firsts n 0)) (sym (old_row n less)) old.1),
            )) (
              omega (arith, new_first, short),
              subst (λ m. IsColumn grid m (listed_row more (length kept))) (sym new_first) (subst (IsColumn grid category) (sym new_row) is),
            )
            k (omega (arith, low, long));
        all = omega (arith, length_push found category, h.all);
        each = below_more (λ c. HasColumn grid more more_firsts c (get_or (found ++ category ∷ []) c 0)) category
            (λ c less.
            let old = h.each c less in
            record {
              place = old.place;
              within = omega (arith, old.within, long);
              first_is = get_or_append_left found (category ∷ []) 0 c (omega (arith, less, h.all)) ∙ old.first_is ∙ sym (old_first old.place old.within);
              column = subst (IsColumn grid c) (sym (old_row old.place old.within)) old.column;
            })
            (record {
              place = length kept;
              within = omega (arith, long);
              first_is = get_or_push found category 0 category h.all ∙ sym new_first;
              column = subst (IsColumn grid category) (sym new_row) is;
            });
      }

  -- one more column
  pub column_more : (kept' : List (List ℕ)) (number : ℕ) (firsts' found' : List ℕ) → KeepsOrAdds kept column kept' → number < length kept' →
      listed_row kept' number ≡ column → ((number ≡ length firsts) × (firsts' ≡ firsts ++ category ∷ [])) ⊎ ((number ≢ length firsts) × (firsts' ≡ firsts)) →
      found' ≡ found ++ get_or firsts' number 0 ∷ [] → AreKept grid (category + 1) kept' firsts' found'
  column_more kept' number firsts' found' keeps low at either is_found =
      ⊎_elim
      (λ stays.
      let low' : number < length kept = subst (λ (l : List (List ℕ)). number < length l) stays low in
      ⊎_elim
      (λ new. absurd (omega (arith, new.0, low', h.many)))
      (λ known.
      subst (λ (l : List (List ℕ)). AreKept grid (category + 1) l firsts' found') (sym stays)
      (subst (λ (l : List ℕ). AreKept grid (category + 1) kept l found') (sym known.1)
      (subst (λ (l : List ℕ). AreKept grid (category + 1) kept firsts l)
      (sym (is_found ∙ ap (λ (l : List ℕ). found ++ get_or l number 0 ∷ []) known.1))
      (column_known number low' (sym (ap (λ (l : List (List ℕ)). listed_row l number) stays) ∙ at)))))
      either)
      (λ added.
      let long : length kept' ≡ length kept + 1 = ap length added.0 ∙ length_push kept column in
      let end : number ≡ length kept =
      ⊎_elim
      (λ less. absurd (added.1 number less (sym (get_or_append_left kept (column ∷ []) [] number less) ∙ sym
      (ap (λ (l : List (List ℕ)). listed_row l number) added.0) ∙ at)))
      (λ most. omega (arith, most, low, long))
      (cases_lt number (length kept)) in
      ⊎_elim
      (λ new.
      let is : get_or firsts' number 0 ≡ category =
      ap (λ (l : List ℕ). get_or l number 0) new.1 ∙ get_or_push firsts category 0 number (sym new.0) in
      subst (λ (l : List (List ℕ)). AreKept grid (category + 1) l firsts' found') (sym added.0)
      (subst (λ (l : List ℕ). AreKept grid (category + 1) (kept ++ column ∷ []) l found') (sym new.1)
      (subst (λ (l : List ℕ). AreKept grid (category + 1) (kept ++ column ∷ []) (firsts ++ category ∷ []) l)
      (sym (is_found ∙ ap (λ n. found ++ n ∷ []) is)) (column_added added.1))))
      (λ known. absurd (known.0 (omega (arith, end, h.many))))
      either)
      keeps

-- for each category the first one with its column
pub all_columns : (grid : Grid) (kept : List (List ℕ)) (firsts found : List ℕ) → AreKept grid grid.width kept firsts found → AreRepresentatives grid found
all_columns grid kept firsts found h = record {
  all = h.all;
  within = λ c short. let own = h.each c short in subst (λ n. n < grid.width) (sym own.first_is) (h.columns own.place own.within).0;
  alike = λ c short.
      let own = h.each c short in
      subst (λ n. LeadOnAlike grid n c) (sym own.first_is)
      (lead_alike grid (get_or firsts own.place 0) c (listed_row kept own.place) (h.columns own.place own.within).1 own.column);
  same = λ c d short short' alike.
      let own = h.each c short in
      let other = h.each d short' in
      let rows : listed_row kept own.place ≡ listed_row kept other.place =
      same_columns grid c d (listed_row kept own.place) (listed_row kept other.place) own.column other.column alike in
      let places : own.place ≡ other.place =
      ⊎_elim (λ same. same)
      (⊎_elim (λ less. absurd (h.once own.place other.place less other.within rows)) (λ more. absurd (h.once other.place own.place more own.within (sym rows))))
      (cases_order own.place other.place) in
      own.first_is ∙ ap (λ n. get_or firsts n 0) places ∙ sym other.first_is;
}
