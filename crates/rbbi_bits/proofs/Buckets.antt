-- Sets in buckets: the links of a bucket lead over all of its sets, the newest first.
use Rattle.std.proofs.Common.{◌≡◌, ◌≢◌, ℕ, ◌+◌, ◌-◌, ◌<◌, ◌≤◌, Bool, true, false, eqb, List, [], ◌∷◌, ◌++◌, length, get_or, set, replicate}
use Rattle.std.proofs.Common.{refl, sym, ap, ◌∙◌, subst, ⊎_elim, arith}
use Rattle.std.specs.Cmp.Lexicographic.{pointwise}
use Rattle.std.proofs.lemmas.Slice.Eq.{slice_eq-Decides}
use Rattle.std.proofs.lemmas.Bool.Decides.{Decides-eqb}
use Rattle.std.proofs.lemmas.Bool.{cases_lt, cases_eq, false≢true}
use Rattle.std.proofs.lemmas.List.{get_or-replicate, get_or_past, get_or-set_same, get_or-set_other, get_or_append_left, get_or_push, length_push, length-set}
use Rattle.std.proofs.lemmas.List.{length-replicate}
use Rattle.rbbi_bits.specs.NumberedRows.{listed_row}
use Rattle.rbbi_bits.specs.inner.Index.{bucket_of, IsIndexed}

-- a set that isn't found yet: it is none of those of its bucket from the place on
pub record IsUnfound (sets : List (List ℕ)) (bucket : ℕ) (set : List ℕ) (at : ℕ) : Type 0 where
  pub within : at ≤ length sets
  pub in_bucket : 0 < at → bucket_of (listed_row sets (at - 1)) ≡ bucket
  pub past : (i : ℕ) → at ≤ i → i < length sets → bucket_of (listed_row sets i) ≡ bucket → listed_row sets i ≢ set

module _ (sets : List (List ℕ)) (newest older : List ℕ) (indexed : IsIndexed sets newest older) where
  pub unfound_start : (set : List ℕ) (bucket at : ℕ) → bucket < 32768 → at ≡ get_or newest bucket 0 → IsUnfound sets bucket set at
  unfound_start set bucket at small is = record {
    within = omega (arith, is, indexed.newest_within bucket small);
    in_bucket = λ some. subst (λ n. 0 < n → bucket_of (listed_row sets (n - 1)) ≡ bucket) (sym is) (indexed.newest_of bucket small) some;
    past = λ i above short same.
        let most = indexed.newest_most i short in
        let here : get_or newest (bucket_of (listed_row sets i)) 0 ≡ get_or newest bucket 0 = ap (λ b. get_or newest b 0) same in
        absurd (omega (arith, most, here, is, above));
  }

  pub unfound_next : (set : List ℕ) (bucket at next : ℕ) → IsUnfound sets bucket set at → 0 < at → listed_row sets (at - 1) ≢ set →
      next ≡ get_or older (at - 1) 0 → IsUnfound sets bucket set next
  unfound_next set bucket at next unfound some other is =
      let i : ℕ = at - 1 in
      let short : i < length sets = omega (arith, unfound.within, some) in
      record {
        within = omega (arith, is, indexed.older_within i short, short);
        in_bucket = λ more. subst (λ n. 0 < n → bucket_of (listed_row sets (n - 1)) ≡ bucket_of (listed_row sets i)) (sym is) (indexed.older_of i short) more
            ∙ unfound.in_bucket some;
        past = λ j above short' same.
            ⊎_elim
            (λ less.
            let most = indexed.older_most j i less short (same ∙ sym (unfound.in_bucket some)) in
            absurd (omega (arith, most, is, above)))
            (λ rest.
            ⊎_elim
            (λ at_it. subst (λ n. listed_row sets n ≢ set) (sym at_it) other)
            (λ not_it. unfound.past j (let up : at ≤ j = omega (arith, rest, not_it, some) in up) short' same)
            (cases_eq j i))
            (cases_lt j i);
      }

  pub set_added : (set' : List ℕ) (bucket : ℕ) → length sets < 16384 → bucket < 32768 → bucket ≡ bucket_of set' →
      IsIndexed (sets ++ set' ∷ []) (set newest bucket (length sets + 1)) (set older (length sets) (get_or newest bucket 0))
  set_added set' bucket room small is =
      let n : ℕ = length sets in
      let new : List (List ℕ) = sets ++ set' ∷ [] in
      let newest' : List ℕ = set newest bucket (n + 1) in
      let older' : List ℕ = set older n (get_or newest bucket 0) in
      let long : length new ≡ n + 1 = length_push sets set' in
      let old_at : (i : ℕ) → i < n → listed_row new i ≡ listed_row sets i = λ i short. get_or_append_left sets (set' ∷ []) [] i short in
      let new_at : listed_row new n ≡ set' = get_or_push sets set' [] n refl in
      let newest_here : get_or newest' bucket 0 ≡ n + 1 = get_or-set_same newest bucket (n + 1) 0 (omega (arith, indexed.many_buckets, small)) in
      let newest_other : (b : ℕ) → b ≢ bucket → get_or newest' b 0 ≡ get_or newest b 0 = λ b other. get_or-set_other newest bucket b (n + 1) 0 other in
      let older_here : get_or older' n 0 ≡ get_or newest bucket 0 = get_or-set_same older n (get_or newest bucket 0) 0 (omega (arith, indexed.room, room)) in
      let older_other : (i : ℕ) → i < n → get_or older' i 0 ≡ get_or older i 0 =
      λ i short. get_or-set_other older n i (get_or newest bucket 0) 0 (omega (arith, short)) in
      let within : get_or newest bucket 0 ≤ n = indexed.newest_within bucket small in
      record {
        few = omega (arith, long, room);
        many_buckets = length-set newest bucket (n + 1) ∙ indexed.many_buckets;
        room = length-set older n (get_or newest bucket 0) ∙ indexed.room;
        newest_within = λ b small'.
            ⊎_elim
            (λ same. omega (arith, ap (λ k. get_or newest' k 0) same, newest_here, long))
            (λ other. omega (arith, newest_other b other, indexed.newest_within b small', long))
            (cases_eq b bucket);
        newest_of = λ b small' some.
            ⊎_elim
            (λ same.
            let at : get_or newest' b 0 - 1 ≡ n = omega (arith, ap (λ k. get_or newest' k 0) same, newest_here) in
            ap (λ k. bucket_of (listed_row new k)) at ∙ ap bucket_of new_at ∙ sym is ∙ sym same)
            (λ other.
            let some' : 0 < get_or newest b 0 = omega (arith, some, newest_other b other) in
            let short : get_or newest b 0 - 1 < n = omega (arith, some', indexed.newest_within b small') in
            ap (λ k. bucket_of (listed_row new (k - 1))) (newest_other b other) ∙ ap bucket_of (old_at (get_or newest b 0 - 1) short)
            ∙ indexed.newest_of b small' some')
            (cases_eq b bucket);
        newest_most = λ i short.
            ⊎_elim
            (λ at.
            let here : bucket_of (listed_row new i) ≡ bucket = ap (λ k. bucket_of (listed_row new k)) at ∙ ap bucket_of new_at ∙ sym is in
            omega (arith, at, ap (λ b. get_or newest' b 0) here, newest_here))
            (λ other.
            let short' : i < n = omega (arith, short, long, other) in
            let here : bucket_of (listed_row new i) ≡ bucket_of (listed_row sets i) = ap bucket_of (old_at i short') in
            let most = indexed.newest_most i short' in
            ⊎_elim
            (λ same. omega (arith, short', ap (λ b. get_or newest' b 0) (here ∙ same), newest_here))
            (λ apart. omega (arith, most, ap (λ b. get_or newest' b 0) here, newest_other (bucket_of (listed_row sets i)) apart))
            (cases_eq (bucket_of (listed_row sets i)) bucket))
            (cases_eq i n);
        older_within = λ i short.
            ⊎_elim
            (λ at. omega (arith, at, ap (λ k. get_or older' k 0) at, older_here, within))
            (λ other. let short' : i < n = omega (arith, short, long, other) in omega (arith, older_other i short', indexed.older_within i short'))
            (cases_eq i n);
        older_of = λ i short some.
            ⊎_elim
            (λ at.
            let value : get_or older' i 0 ≡ get_or newest bucket 0 = ap (λ k. get_or older' k 0) at ∙ older_here in
            let some' : 0 < get_or newest bucket 0 = omega (arith, some, value) in
            let short' : get_or newest bucket 0 - 1 < n = omega (arith, some', within) in
            ap (λ k. bucket_of (listed_row new (k - 1))) value ∙ ap bucket_of (old_at (get_or newest bucket 0 - 1) short')
            ∙ indexed.newest_of bucket small some'
            ∙ is ∙ sym (ap bucket_of new_at) ∙ ap (λ k. bucket_of (listed_row new k)) (sym at))
            (λ other.
            let short' : i < n = omega (arith, short, long, other) in
            let value = older_other i short' in
            let some' : 0 < get_or older i 0 = omega (arith, some, value) in
            let before : get_or older i 0 - 1 < n = omega (arith, some', indexed.older_within i short', short') in
            ap (λ k. bucket_of (listed_row new (k - 1))) value ∙ ap bucket_of (old_at (get_or older i 0 - 1) before) ∙ indexed.older_of i short' some'
            ∙ sym (ap bucket_of (old_at i short')))
            (cases_eq i n);
        older_most = λ earlier i less short same.
            ⊎_elim
            (λ at.
            let before : earlier < n = omega (arith, less, at) in
            let here : bucket_of (listed_row sets earlier) ≡ bucket = ap bucket_of (sym (old_at earlier before)) ∙ same
            ∙ ap (λ k. bucket_of (listed_row new k)) at
            ∙ ap bucket_of new_at ∙ sym is in
            omega (arith, indexed.newest_most earlier before, ap (λ b. get_or newest b 0) here, ap (λ k. get_or older' k 0) at, older_here))
            (λ other.
            let short' : i < n = omega (arith, short, long, other) in
            let before : earlier < n = omega (arith, less, short') in
            let same' : bucket_of (listed_row sets earlier) ≡ bucket_of (listed_row sets i) = ap bucket_of (sym (old_at earlier before)) ∙ same
            ∙ ap bucket_of (old_at i short') in
            omega (arith, older_other i short', indexed.older_most earlier i less short' same'))
            (cases_eq i n);
      }

pub none_indexed : (newest older : List ℕ) → length newest ≡ 32768 → length older ≡ 16384 → ((i : ℕ) → get_or newest i 0 ≡ 0) → IsIndexed [] newest older
none_indexed newest older many room zero = record {
  few = omega arith;
  many_buckets = many;
  room = room;
  newest_within = λ b small. omega (arith, zero b);
  newest_of = λ b small some. absurd (omega (arith, some, zero b));
  newest_most = λ i short. absurd (omega (arith, short));
  older_within = λ i short. absurd (omega (arith, short));
  older_of = λ i short some. absurd (omega (arith, short));
  older_most = λ earlier i less short same. absurd (omega (arith, short));
}

pub zeros : (n i z : ℕ) → z ≡ 0 → get_or (replicate n z) i 0 ≡ 0
zeros n i z none = ⊎_elim (λ short. get_or-replicate n i z 0 short ∙ none)
    (λ past. get_or_past (replicate n z) i 0 (omega (arith, past, length-replicate n z))) (cases_lt i n)

-- what `==` says of two rows
pub same_rows : (these those : List ℕ) (r : Bool) → r ≡ pointwise eqb these those → r ≡ true → these ≡ those
same_rows these those r is answer = (slice_eq-Decides Decides-eqb these those r is).0 answer

pub other_rows : (these those : List ℕ) (r : Bool) → r ≡ pointwise eqb these those → r ≡ false → these ≢ those
other_rows these those r is answer = λ same. false≢true (sym answer ∙ (slice_eq-Decides Decides-eqb these those r is).1 same)
