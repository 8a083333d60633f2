-- Where the entries of a run are cut into those that a test keeps and the others.
use Rattle.std.proofs.Common.{◌≡◌, ℕ, zero, suc, ◌+◌, ◌-◌, ◌<◌, ◌≤◌, Bool, true, false, leb, ltb, List, [], ◌∷◌, ◌++◌, length, filter, get_or, take}
use Rattle.std.proofs.Common.{drop, sym, ap, ◌∙◌, subst, arith}
use Rattle.std.specs.List.{AllByRecursion}
use Rattle.std.proofs.lemmas.Bool.{le-leb, lt-leb, lt-ltb, le-ltb}
use Rattle.std.proofs.lemmas.List.{take-append-drop, append-nil}
use Rattle.std.proofs.lemmas.List.Elements.{filter-append}
use Rattle.std.proofs.Math.Seq.{take-length}
use Rattle.rbbi_model.specs.Runs.{Entry, ReachesRise}
use Rattle.rbbi_model.proofs.Lists.{all_through}
use Rattle.rbbi_cache.proofs.Lists.{filter_all, filter_none}
use Rattle.rbbi_cache.proofs.LeftPart.{reaches_after, reaches_tail}

module _ {X : Type 0} (test : X → Bool) where
  -- a test that holds of the first elements alone keeps these
  pub keeps_first : (k : ℕ) (xs : List X) → AllByRecursion (λ x. test x ≡ true) (take k xs) → AllByRecursion (λ x. test x ≡ false) (drop k xs) →
      take k xs ≡ filter test xs
  keeps_first k xs holds fails =
      sym (append-nil (take k xs))
      ∙ ap (λ l. take k xs ++ l) (sym (filter_none test (drop k xs) fails))
      ∙ ap (λ l. l ++ filter test (drop k xs)) (sym (filter_all test (take k xs) holds))
      ∙ sym (filter-append test (take k xs) (drop k xs))
      ∙ ap (filter test) (take-append-drop k xs)

  -- a test that holds of the last elements alone keeps these
  pub keeps_last : (k : ℕ) (xs : List X) → AllByRecursion (λ x. test x ≡ false) (take k xs) → AllByRecursion (λ x. test x ≡ true) (drop k xs) →
      drop k xs ≡ filter test xs
  keeps_last k xs fails holds =
      ap (λ l. l ++ drop k xs) (sym (filter_none test (take k xs) fails))
      ∙ ap (λ l. filter test (take k xs) ++ l) (sym (filter_all test (drop k xs) holds))
      ∙ sym (filter-append test (take k xs) (drop k xs))
      ∙ ap (filter test) (take-append-drop k xs)

-- where reaches don't fall, the entries from one on that reaches past a place do so too
past_reach : (entries : List Entry) (place k : ℕ) (d : Entry) → ReachesRise entries → k < length entries → place < (get_or entries k d).reach →
    AllByRecursion (λ e. place < e.reach) (drop k entries)
past_reach [] place k d rise short past = absurd (omega arith)
past_reach (e ∷ entries) place zero d rise short past =
    (past, all_through (λ f. e.reach ≤ f.reach) (λ f. place < f.reach) (λ f less. omega arith) entries (reaches_after e entries rise))
past_reach (e ∷ entries) place (suc k) d rise short past = past_reach entries place k d (reaches_tail e entries rise) (omega arith) past

module _ (entries : List Entry) (place k : ℕ) (up_to : AllByRecursion (λ e. e.reach ≤ place) (take k entries))
    (past : AllByRecursion (λ e. place < e.reach) (drop k entries)) where
  pub reaching_first : take k entries ≡ filter (λ e. leb e.reach place) entries
  reaching_first =
      keeps_first (λ e. leb e.reach place) k entries
      (all_through (λ e. e.reach ≤ place) (λ e. leb e.reach place ≡ true) (λ e less. le-leb e.reach place less) (take k entries) up_to)
      (all_through (λ e. place < e.reach) (λ e. leb e.reach place ≡ false) (λ e more. lt-leb e.reach place more) (drop k entries) past)

  pub reaching_others : drop k entries ≡ filter (λ e. ltb place e.reach) entries
  reaching_others =
      keeps_last (λ e. ltb place e.reach) k entries
      (all_through (λ e. e.reach ≤ place) (λ e. ltb place e.reach ≡ false) (λ e less. le-ltb place e.reach less) (take k entries) up_to)
      (all_through (λ e. place < e.reach) (λ e. ltb place e.reach ≡ true) (λ e more. lt-ltb place e.reach more) (drop k entries) past)

pub past_at : (entries : List Entry) (place k : ℕ) (entry : Entry) → ReachesRise entries → k < length entries → entry ≡ get_or entries k entry →
    place < entry.reach → AllByRecursion (λ e. place < e.reach) (drop k entries)
past_at entries place k entry rise short is past = past_reach entries place k entry rise short (omega (arith, past, ap (λ e. e.reach) is))

pub none_past : (entries : List Entry) (place : ℕ) → AllByRecursion (λ e. place < e.reach) (drop (length entries) entries)
none_past [] place = tt
none_past (e ∷ entries) place = none_past entries place

-- a count that has come to the end has seen all
pub up_to_all : (entries : List Entry) (place k : ℕ) → k ≡ length entries → AllByRecursion (λ e. e.reach ≤ place) (take k entries) →
    AllByRecursion (λ e. e.reach ≤ place) (take (length entries) entries)
up_to_all entries place k end each = subst (λ n. AllByRecursion (λ e. e.reach ≤ place) (take n entries)) end each

-- where the last one reaches no farther, none does
up_to_last : (entries : List Entry) (place k : ℕ) (d : Entry) → ReachesRise entries → k + 1 ≡ length entries → (get_or entries k d).reach ≤ place →
    AllByRecursion (λ e. e.reach ≤ place) entries
up_to_last [] place k d rise end up_to = tt
up_to_last (e ∷ []) place zero d rise end up_to = (up_to, tt)
up_to_last (e ∷ []) place (suc k) d rise end up_to = absurd (omega arith)
up_to_last (e ∷ f ∷ entries) place zero d rise end up_to = absurd (omega arith)
up_to_last (e ∷ f ∷ entries) place (suc k) d rise end up_to =
    let later = up_to_last (f ∷ entries) place k d rise.1 (omega arith) up_to in
    (omega (arith, rise.0, later.0), later)

pub all_up_to : (entries : List Entry) (place : ℕ) (entry : Entry) → ReachesRise entries → 0 < length entries →
    entry ≡ get_or entries (length entries - 1) entry → entry.reach ≤ place → AllByRecursion (λ e. e.reach ≤ place) (take (length entries) entries)
all_up_to entries place entry rise some is up_to =
    subst (AllByRecursion (λ e. e.reach ≤ place)) (sym (take-length entries))
    (up_to_last entries place (length entries - 1) entry rise (omega arith) (omega (arith, up_to, ap (λ e. e.reach) is)))
