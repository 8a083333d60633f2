-- Numbering the status lists that classes have.
use Rattle.std.proofs.Common.{◌≡◌, ◌≢◌, ℕ, ◌+◌, ◌<◌, Bool, true, false, List, [], ◌∷◌, ◌++◌, length, refl, ap, sym, ◌∙◌, subst, ⊎_elim, arith}
use Rattle.std.proofs.Common.{slice_index, slice_index_or}
use Rattle.std.proofs.lemmas.Bool.{cases_eq, false≢true}
use Rattle.std.proofs.lemmas.List.{get_or_append_left, get_or_push, length_push}
use borrow.Author.Count.{below_more}
use Rattle.rbbi_model.specs.Tables.{Table, list_of}
use Rattle.rbbi_model.specs.ValidTables.{IsBefore}
use Rattle.rbbi_dfa.specs.inner.Ranks.{AreOrderedLists}
use Rattle.rbbi_dfa.specs.inner.Numbers.{AreNumbered}

-- the places of so many classes
pub record ArePlacesUpTo (automaton : Table) (places firsts class_places : List ℕ) (count : ℕ) : Type 0 where
  pub many : length class_places ≡ count
  pub each : (class : ℕ) → class < count → slice_index class_places class ≡ slice_index places (list_of automaton (slice_index firsts class))

-- the places that are one of so many classes'
pub record AreUsedUpTo (class_places : List ℕ) (used : List Bool) (count : ℕ) : Type 0 where
  pub all : (class : ℕ) → class < count → slice_index_or used (slice_index class_places class) false ≡ true
  pub only : (place : ℕ) → slice_index_or used place false ≡ true → (class : ℕ) × (class < count) × (slice_index class_places class ≡ place)

module _ (used : List Bool) (sorted : List (List ℕ)) (count : ℕ) (numbers : List ℕ) (lists : List (List ℕ)) (h : AreNumbered used sorted count numbers lists)
  where
    abbrev Used : ℕ → Type 0
    Used place = slice_index_or used place false ≡ true

    abbrev More : List ℕ
    More = numbers ++ length lists ∷ []

    number_before : (k : ℕ) → k < count → slice_index (numbers ++ length lists ∷ []) k ≡ slice_index numbers k
    number_before k l = get_or_append_left numbers (length lists ∷ []) 0 k (omega (arith, h.many))

    number_here : slice_index (numbers ++ length lists ∷ []) count ≡ length lists
    number_here = get_or_push numbers (length lists) 0 count h.many

    -- a place that no class has
    pub AreNumbered-unused : (more : List ℕ) → slice_index_or used count false ≡ false → more ≡ numbers ++ length lists ∷ [] →
        AreNumbered used sorted (count + 1) more lists
    AreNumbered-unused more unused e =
        subst (λ (xs : List ℕ). AreNumbered used sorted (count + 1) xs lists) (sym e) (record {
          many = length_push numbers (length lists) ∙ ap (λ n. n + 1) h.many;
          rising = h.rising;
          within = below_more (λ k. Used k → slice_index (numbers ++ length lists ∷ []) k < length lists) count
              (λ k l u. subst (λ (n : ℕ). n < length lists) (sym (number_before k l)) (h.within k l u))
              (λ u. absurd (false≢true (sym unused ∙ u)));
          same = below_more (λ k. Used k → slice_index_or lists (slice_index (numbers ++ length lists ∷ []) k) [] ≡ slice_index_or sorted k []) count
              (λ k l u. ap (λ n. slice_index_or lists n []) (number_before k l) ∙ h.same k l u)
              (λ u. absurd (false≢true (sym unused ∙ u)));
          only = λ list l.
              let found = h.only list l in
              (found.0, omega (arith, found.1), found.2, number_before found.0 found.1 ∙ found.3);
        })

    grown : (statuses : List ℕ) → length (lists ++ statuses ∷ []) ≡ length lists + 1
    grown statuses = length_push lists statuses

    list_before : (statuses : List ℕ) (i : ℕ) → i < length lists → slice_index_or (lists ++ statuses ∷ []) i [] ≡ slice_index_or lists i []
    list_before statuses i l = get_or_append_left lists (statuses ∷ []) [] i l

    list_here : (statuses : List ℕ) → slice_index_or (lists ++ statuses ∷ []) (length lists) [] ≡ statuses
    list_here statuses = get_or_push lists statuses [] (length lists) refl

    -- each list so far comes before that of the next place
    before_next : AreOrderedLists sorted → count < length sorted → (i : ℕ) → i < length lists →
        IsBefore (slice_index_or lists i []) (slice_index_or sorted count [])
    before_next rising within i l =
        let found = h.only i l in
        let same : slice_index_or lists i [] ≡ slice_index_or sorted found.0 [] =
        ap (λ n. slice_index_or lists n []) (sym found.3) ∙ h.same found.0 found.1 found.2 in
        subst (λ (these : List ℕ). IsBefore these (slice_index_or sorted count [])) (sym same) (rising found.0 count found.1 within)

    pub AreNumbered-used : (more : List ℕ) (others : List (List ℕ)) (statuses : List ℕ) → AreOrderedLists sorted → count < length sorted →
        slice_index_or used count false ≡ true → statuses ≡ slice_index_or sorted count [] →
        more ≡ numbers ++ length lists ∷ [] → others ≡ lists ++ statuses ∷ [] → AreNumbered used sorted (count + 1) more others
    AreNumbered-used more others statuses rising within is_used is e f =
        subst (λ (xs : List ℕ). AreNumbered used sorted (count + 1) xs others) (sym e)
        (subst (λ (xs : List (List ℕ)). AreNumbered used sorted (count + 1) (numbers ++ length lists ∷ []) xs) (sym f) (record {
          many = length_push numbers (length lists) ∙ ap (λ n. n + 1) h.many;
          rising = λ i j less l.
              ⊎_elim
              (λ (last : j ≡ length lists).
              subst (λ (those : List ℕ). IsBefore (slice_index_or (lists ++ statuses ∷ []) i []) those)
              (sym (ap (λ n. slice_index_or (lists ++ statuses ∷ []) n []) last ∙ list_here statuses ∙ is))
              (subst (λ (these : List ℕ). IsBefore these (slice_index_or sorted count [])) (sym (list_before statuses i (omega arith)))
              (before_next rising within i (omega arith))))
              (λ (earlier : j ≢ length lists).
              let j_below : j < length lists = omega (arith, grown statuses) in
              subst (λ (those : List ℕ). IsBefore (slice_index_or (lists ++ statuses ∷ []) i []) those) (sym (list_before statuses j j_below))
              (subst (λ (these : List ℕ). IsBefore these (slice_index_or lists j [])) (sym (list_before statuses i (omega arith)))
              (h.rising i j less j_below)))
              (cases_eq j (length lists));
          within = below_more (λ k. Used k → slice_index (numbers ++ length lists ∷ []) k < length (lists ++ statuses ∷ [])) count
              (λ k l u. omega (arith, number_before k l, h.within k l u, grown statuses))
              (λ u. omega (arith, number_here, grown statuses));
          same = below_more (λ k. Used k → slice_index_or (lists ++ statuses ∷ []) (slice_index (numbers ++ length lists ∷ []) k) [] ≡ slice_index_or sorted k
              []) count
              (λ k l u. ap (λ n. slice_index_or (lists ++ statuses ∷ []) n []) (number_before k l)
              ∙ list_before statuses (slice_index numbers k) (h.within k l u) ∙ h.same k l u)
              (λ u. ap (λ n. slice_index_or (lists ++ statuses ∷ []) n []) number_here ∙ list_here statuses ∙ is);
          only = λ list l.
              ⊎_elim
              (λ (last : list ≡ length lists). (count, omega arith, is_used, number_here ∙ sym last))
              (λ (earlier : list ≢ length lists).
              let found = h.only list (omega (arith, grown statuses)) in
              (found.0, omega (arith, found.1), found.2, number_before found.0 found.1 ∙ found.3))
              (cases_eq list (length lists));
        }))
