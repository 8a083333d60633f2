-- The places of lists among sorted ones, list by list.
use Rattle.std.proofs.Common.{◌≡◌, ℕ, ◌+◌, ◌<◌, List, [], ◌∷◌, ◌++◌, length, ap, sym, ◌∙◌, subst, arith, slice_index, slice_index_or}
use Rattle.std.proofs.lemmas.List.{get_or_append_left, get_or_push, length_push}
use borrow.Author.Count.{below_more}
use Rattle.rbbi_dfa.specs.inner.Ranks.{AreRanks}

-- the place holds the list
abbrev pub IsPlace : List (List ℕ) → List ℕ → ℕ → Type 0
IsPlace sorted statuses place = (place < length sorted) × (slice_index_or sorted place [] ≡ statuses)

-- the places of so many lists
pub record ArePlaced (lists sorted : List (List ℕ)) (ranks : List ℕ) (count : ℕ) : Type 0 where
  pub many : length ranks ≡ count
  pub each : (i : ℕ) → i < count → IsPlace sorted (slice_index_or lists i []) (slice_index ranks i)

pub ArePlaced-none : (lists sorted : List (List ℕ)) (ranks : List ℕ) → ranks ≡ [] → ArePlaced lists sorted ranks 0
ArePlaced-none lists sorted ranks e = record { many = ap (λ xs. length xs) e; each = λ i h. absurd (omega arith) }

pub ArePlaced-more : (lists sorted : List (List ℕ)) (ranks more : List ℕ) (count place : ℕ) → ArePlaced lists sorted ranks count →
    IsPlace sorted (slice_index_or lists count []) place → more ≡ ranks ++ place ∷ [] → ArePlaced lists sorted more (count + 1)
ArePlaced-more lists sorted ranks more count place h here e =
    subst (λ (xs : List ℕ). ArePlaced lists sorted xs (count + 1)) (sym e) (record {
      many = length_push ranks place ∙ ap (λ n. n + 1) h.many;
      each = below_more (λ i. IsPlace sorted (slice_index_or lists i []) (slice_index (ranks ++ place ∷ []) i)) count
          (λ i l. subst (λ (n : ℕ). IsPlace sorted (slice_index_or lists i []) n) (sym (get_or_append_left ranks (place ∷ []) 0 i (omega (arith, h.many))))
          (h.each i l))
          (subst (λ (n : ℕ). IsPlace sorted (slice_index_or lists count []) n) (sym (get_or_push ranks place 0 count h.many)) here);
    })

pub AreRanks-from_placed : (lists sorted : List (List ℕ)) (ranks : List ℕ) (count : ℕ) → count ≡ length lists → ArePlaced lists sorted ranks count →
    AreRanks lists sorted ranks
AreRanks-from_placed lists sorted ranks count e h = record {
  many = h.many ∙ e;
  within = λ i l. (h.each i (omega arith)).0;
  placed = λ i l. (h.each i (omega arith)).1;
}
