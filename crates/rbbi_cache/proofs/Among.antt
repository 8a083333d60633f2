-- Entries that stand among others, where these rise.
use Rattle.std.proofs.Common.{◌≡◌, ℕ, zero, suc, ◌+◌, ◌-◌, ◌<◌, ◌≤◌, List, [], ◌∷◌, ◌++◌, length, take, drop, map, get_or, sym, ap, ◌∙◌, subst, ⊎_elim, arith}
use Rattle.std.specs.Prelude.{Contains}
use Rattle.std.specs.List.{AllByRecursion}
use Rattle.std.proofs.lemmas.Bool.{cases_eq, cases_lt}
use Rattle.std.proofs.lemmas.List.{get_or_default, take_more}
use Rattle.std.proofs.lemmas.List.Elements.{All-contains_itself, recursion_from_All, All-from_recursion, All-contains, Contains-append_left, Contains-get_or}
use Rattle.rbbi_model.specs.Lists.{IsRising}
use Rattle.rbbi_model.specs.Runs.{Entry}
use Rattle.rbbi_model.proofs.Rising.{rising_tail}
use Rattle.rbbi_model.proofs.Lists.{all_append, all_through}
use Rattle.rbbi_cache.specs.Kept.{AreAmong}
use Rattle.rbbi_cache.specs.inner.Shown.{AreUpTo}

-- all entries of a list are among them, also where more follow
pub among_itself : (entries : List Entry) → AreAmong entries entries
among_itself entries = recursion_from_All (Contains entries) entries (All-contains_itself entries)

pub among_more : (entries more : List Entry) → AreAmong entries (entries ++ more)
among_more entries more =
    all_through (Contains entries) (Contains (entries ++ more)) (λ e here. Contains-append_left entries more e here) entries (among_itself entries)

-- one entry more is among the others
pub among_one : (entries others : List Entry) (k : ℕ) (entry : Entry) → k < length entries → entry ≡ get_or entries k entry → AreAmong (take k entries) others →
    Contains others entry → AreAmong (take (k + 1) entries) others
among_one entries others k entry short is each here =
    subst (λ l. AllByRecursion (Contains others) l) (sym (take_more entries k entry short ∙ ap (λ e. take k entries ++ e ∷ []) (sym is)))
    (all_append (Contains others) (take k entries) (entry ∷ []) each (here, tt))

-- an entry that isn't among the others
pub among_not : (entries others : List Entry) (k : ℕ) (entry : Entry) → k < length entries → entry ≡ get_or entries k entry → (Contains others entry → ⊥) →
    AreAmong entries others → ⊥
among_not entries others k entry short is none each =
    none (All-contains (Contains others) entries entry (All-from_recursion (Contains others) entries each) (k, short, sym is))

-- where entries rise, each lies before the later ones
below : (e : Entry) (entries : List Entry) (k : ℕ) (d : Entry) → IsRising (map (λ f. f.at) (e ∷ entries)) → k < length entries → e.at < (get_or entries k d).at
below e [] k d rising short = absurd (omega arith)
below e (f ∷ entries) zero d rising short = rising.0
below e (f ∷ entries) (suc k) d rising short =
    let more : f.at < (get_or entries k d).at = below f entries k d rising.1 (omega arith) in
    omega (arith, more, rising.0)

rises_at : (entries : List Entry) (m k : ℕ) (d d' : Entry) → IsRising (map (λ f. f.at) entries) → m < k → k < length entries →
    (get_or entries m d).at < (get_or entries k d').at
rises_at [] m k d d' rising less short = absurd (omega arith)
rises_at (e ∷ entries) m zero d d' rising less short = absurd (omega arith)
rises_at (e ∷ entries) zero (suc k) d d' rising less short = below e entries k d' rising (omega arith)
rises_at (e ∷ entries) (suc m) (suc k) d d' rising less short =
    rises_at entries m k d d' (rising_tail e.at (map (λ f. f.at) entries) rising) (omega arith) (omega arith)

at_front : (P : Entry → Type 0) (entries : List Entry) (n m : ℕ) (d : Entry) → AllByRecursion P (take n entries) → m < n → m < length entries →
    P (get_or entries m d)
at_front P [] n m d each less short = absurd (omega arith)
at_front P (e ∷ entries) zero m d each less short = absurd (omega arith)
at_front P (e ∷ entries) (suc n) zero d each less short = each.0
at_front P (e ∷ entries) (suc n) (suc m) d each less short = at_front P entries n m d each.1 (omega arith) (omega arith)

at_back : (P : Entry → Type 0) (entries : List Entry) (n m : ℕ) (d : Entry) → AllByRecursion P (drop n entries) → n ≤ m → m < length entries →
    P (get_or entries m d)
at_back P [] n m d each from short = absurd (omega arith)
at_back P (e ∷ entries) zero zero d each from short = each.0
at_back P (e ∷ entries) zero (suc m) d each from short = at_back P entries zero m d each.1 (omega arith) (omega arith)
at_back P (e ∷ entries) (suc n) zero d each from short = absurd (omega arith)
at_back P (e ∷ entries) (suc n) (suc m) d each from short = at_back P entries n m d each (omega arith) (omega arith)

-- Where so many entries aren't past the place of one, that is the last of them or none.
module _ (entries : List Entry) (k : ℕ) (e : Entry) (are : AreUpTo entries e.at k) where
  pub none_there : k ≡ 0 → Contains entries e → ⊥
  none_there nothing here =
      let past : e.at < (get_or entries here.0 e).at = at_back (λ f. e.at < f.at) entries k here.0 e are.past (omega arith) here.1 in
      omega (arith, past, ap (λ (f : Entry). f.at) here.2)

  pub is_there : (d : Entry) → 0 < k → d ≡ get_or entries (k - 1) d → d ≡ e → Contains entries e
  is_there d some is same =
      let within = are.within in
      subst (Contains entries) (sym is ∙ same) (Contains-get_or entries (k - 1) d (omega arith))

  pub last_there : IsRising (map (λ f. f.at) entries) → (d : Entry) → 0 < k → d ≡ get_or entries (k - 1) d → Contains entries e → d ≡ e
  last_there rising d some is here =
      let within = are.within in
      let short : k - 1 < length entries = omega arith in
      let place : (get_or entries here.0 e).at ≡ e.at = ap (λ (f : Entry). f.at) here.2 in
      ⊎_elim
      (λ less.
      ⊎_elim
      (λ last. is ∙ get_or_default entries (k - 1) d e short ∙ ap (λ n. get_or entries n e) (sym last) ∙ here.2)
      (λ other.
      let up_to : (get_or entries (k - 1) d).at ≤ e.at = at_front (λ f. f.at ≤ e.at) entries k (k - 1) d are.up_to (omega arith) short in
      let rises : (get_or entries here.0 e).at < (get_or entries (k - 1) d).at = rises_at entries here.0 (k - 1) e d rising (omega arith) short in
      absurd (omega (arith, up_to, rises, place)))
      (cases_eq here.0 (k - 1)))
      (λ from.
      let past : e.at < (get_or entries here.0 e).at = at_back (λ f. e.at < f.at) entries k here.0 e are.past from here.1 in
      absurd (omega (arith, past, place)))
      (cases_lt here.0 k)
