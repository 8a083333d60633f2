-- A set that is read from the runs of a table, run by run.
use Rattle.std.proofs.Common.{◌≡◌, ℕ, ◌+◌, ◌-◌, ◌/◌, ◌%◌, ◌<◌, ◌≤◌, Bool, true, false, cond, ◌&&◌, ◌||◌, nat_lt, nat_le, List, [], ◌∷◌, ◌++◌, map}
use Rattle.std.proofs.Common.{length, drop, slice_index}
use Rattle.std.proofs.Common.{refl, sym, ap, subst, ◌∙◌, arith, inl, inr, ◌↔◌, eqb-true, ltb-true, drop_of_length-le, le_of_eq, lt-ltb, le-ltb, add-one}
use Rattle.std.proofs.lemmas.Bool.{cases_lt, and_parts, cond-true, cond-false}
use Rattle.std.proofs.lemmas.Bool.Decides.{nat_tests}
use Rattle.ucd_table.specs.Steps.{run_value, unpack, ends_rise}
use Rattle.ucd_table.proofs.RunsLemmas.{IsAt, IsAt-below, IsAt-next}
use Rattle.ucd_table.proofs.StepsLemmas.{step_value-here, run_value-drop}
use Rattle.rbbi_model.specs.Ranges.{Range, Has}
use Rattle.rbbi_sets.specs.Covers.{covers, is_between}
use Rattle.rbbi_sets.specs.Rising.{AreRising, IsRange}
use Rattle.rbbi_sets.proofs.Coverage.{Decides-covers, covers-push}
use Rattle.rbbi_sets.proofs.Rise.{rising-push}
use Rattle.rbbi_props.specs.inner.RunStarts.{start_of}

-- the value of a code point of the run at a place
pub value-here : (runs : List ℕ) (i start c : ℕ) → IsAt runs i start → i < length runs → start ≤ c → c < slice_index runs i / 2048 →
    run_value runs c ≡ slice_index runs i % 2048
value-here runs i start c at lt low high =
    at.values c low ∙ run_value-drop runs i c lt ∙ step_value-here 0 (unpack (slice_index runs i)) (map unpack (drop (i + 1) runs)) c high

-- the runs end where the code points do
pub start-last : (runs : List ℕ) (i start : ℕ) → IsAt runs i start → length runs ≤ i → start ≡ 0x11_0000
unfolding ends_rise
start-last runs i start at le = eqb-true start 0x11_0000 (subst (λ l. ends_rise start l ≡ true) (drop_of_length-le runs le) at.rising)

pub rise-within : (n : ℕ) (runs : List ℕ) → ends_rise n runs ≡ true → n ≤ 0x11_0000
unfolding ends_rise
rise-within n [] h = le_of_eq (eqb-true n 0x11_0000 h)
rise-within n (run ∷ runs) h =
    let parts = and_parts (nat_lt n (run / 2048)) (ends_rise (run / 2048) runs) h in
    omega (arith, ltb-true n (run / 2048) parts.0, rise-within (run / 2048) runs parts.1)

-- Where the runs up to `start` are read, the ranges hold those of their code points that pass, but for those from `low` on, which all
-- pass. A range that begins at `low` or later may follow.
pub record IsRead (runs : List ℕ) (p : ℕ → Bool) (i low start : ℕ) (ranges : List Range) : Type 0 where
  pub at : IsAt runs i start
  pub order : low ≤ start
  pub members : (c : ℕ) → (covers ranges c || (nat_le low c && nat_lt c start)) ≡ (nat_lt c start && p (run_value runs c))
  pub rising : AreRising ranges
  pub room : (range : Range) → low ≤ range.low → IsRange range → AreRising (ranges ++ range ∷ [])

-- the same with the code points from `low` on among the ranges
pub record IsFull (runs : List ℕ) (p : ℕ → Bool) (start : ℕ) (ranges : List Range) : Type 0 where
  pub members : (c : ℕ) → covers ranges c ≡ (nat_lt c start && p (run_value runs c))
  pub rising : AreRising ranges
  pub room : (range : Range) → start < range.low → IsRange range → AreRising (ranges ++ range ∷ [])

pub IsRead-none : (runs : List ℕ) (p : ℕ → Bool) → ends_rise 0 runs ≡ true → IsRead runs p 0 0 0 []
IsRead-none runs p partition = record {
  at = record { rising = partition; values = λ c l. refl };
  order = omega arith;
  members = λ c. grind (arith, nat_tests);
  rising = tt;
  room = λ range l h. (omega arith, h.0, h.1, tt);
}

inside-is : (low end c : ℕ) → low < end → is_between low (end - 1) c ≡ (nat_le low c && nat_lt c end)
inside-is low end c l = grind (arith, nat_tests)

none-inside : (held : Bool) (low end c : ℕ) → end ≤ low → held ≡ (held || (nat_le low c && nat_lt c end))
none-inside held low end c l = grind (arith, nat_tests)

-- the code points from `low` on become a range, if there are any
pub IsRead-full : (runs : List ℕ) (p : ℕ → Bool) (i low start : ℕ) (ranges more : List Range) → IsRead runs p i low start ranges →
    more ≡ cond (nat_lt low start) (ranges ++ record { low = low; high = start - 1 } ∷ []) ranges → IsFull runs p start more
IsRead-full runs p i low start ranges more h is =
    elim (cases_lt low start) [
      | inl some ↦
          let last : Range = record { low = low; high = start - 1 } in
          let ends : start ≤ 0x11_0000 = rise-within start (drop i runs) h.at.rising in
          let within : IsRange last = (omega arith, omega arith) in
          let with_last : AreRising (ranges ++ last ∷ []) = h.room last (omega arith) within in
          subst (IsFull runs p start) (sym (is ∙ cond-true _ _ _ (lt-ltb low start some)))
          (record {
            members = λ c. covers-push ranges last c ∙ ap (λ b. covers ranges c || b) (inside-is low start c some) ∙ h.members c;
            rising = with_last;
            room = λ range l r. rising-push 0 ranges last range with_last (omega arith) r.0 r.1;
          })
      | inr none ↦
          subst (IsFull runs p start) (sym (is ∙ cond-false _ _ _ (le-ltb low start none)))
          (record {
            members = λ c. none-inside (covers ranges c) low start c none ∙ h.members c;
            rising = h.rising;
            room = λ range l r. h.room range (omega (arith, h.order)) r;
          })
    ]

kept-is : (held passes : Bool) (low start end c : ℕ) → low ≤ start → start < end → (held || (nat_le low c && nat_lt c start)) ≡ (nat_lt c start && passes) →
    (start ≤ c → c < end → passes ≡ true) → (held || (nat_le low c && nat_lt c end)) ≡ (nat_lt c end && passes)
kept-is held passes low start end c o l h here = grind (arith, nat_tests)

left-is : (held passes : Bool) (start end c : ℕ) → start < end → held ≡ (nat_lt c start && passes) →
    (start ≤ c → c < end → passes ≡ false) → (held || (nat_le end c && nat_lt c end)) ≡ (nat_lt c end && passes)
left-is held passes start end c l h here = grind (arith, nat_tests)

-- a run that passes, and one that doesn't
module _ (runs : List ℕ) (p : ℕ → Bool) (i low start : ℕ) (ranges : List Range) (h : IsRead runs p i low start ranges) (lt : i < length runs) where
  pub IsRead-kept : p (slice_index runs i % 2048) ≡ true → IsRead runs p (i + 1) low (slice_index runs i / 2048) ranges
  IsRead-kept passes =
      let below = IsAt-below runs i start h.at lt in
      record {
        at = IsAt-next runs i start h.at lt;
        order = omega (arith, h.order, below);
        members = λ c.
            kept-is (covers ranges c) (p (run_value runs c)) low start (slice_index runs i / 2048) c h.order below (h.members c)
            (λ from to. ap p (value-here runs i start c h.at lt from to) ∙ passes);
        rising = h.rising;
        room = h.room;
      }

  pub IsRead-left : (more : List Range) → IsFull runs p start more → p (slice_index runs i % 2048) ≡ false →
      IsRead runs p (i + 1) (slice_index runs i / 2048) (slice_index runs i / 2048) more
  IsRead-left more full fails =
      let below = IsAt-below runs i start h.at lt in
      record {
        at = IsAt-next runs i start h.at lt;
        order = omega arith;
        members = λ c.
            left-is (covers more c) (p (run_value runs c)) start (slice_index runs i / 2048) c below (full.members c)
            (λ from to. ap p (value-here runs i start c h.at lt from to) ∙ fails);
        rising = full.rising;
        room = λ range l r. full.room range (omega (arith, below)) r;
      }

below-last : (held passes : Bool) (start c : ℕ) → start ≡ 0x11_0000 → c ≤ 0x10FFFF → held ≡ (nat_lt c start && passes) → held ≡ passes
below-last held passes start c e l h = grind (arith, nat_tests)

start-next : (runs : List ℕ) (i : ℕ) → start_of runs (i + 1) ≡ slice_index runs i / 2048
start-next runs i = ap (start_of runs) (add-one i)

-- the same by the numbers of the runs: all from one on pass
pub record IsReadFrom (runs : List ℕ) (p : ℕ → Bool) (i from : ℕ) (ranges : List Range) : Type 0 where
  pub order : from ≤ i
  pub ahead : from < i → start_of runs from < start_of runs i
  pub read : IsRead runs p i (start_of runs from) (start_of runs i) ranges

pub IsReadFrom-none : (runs : List ℕ) (p : ℕ → Bool) → ends_rise 0 runs ≡ true → IsReadFrom runs p 0 0 []
IsReadFrom-none runs p partition = record { order = omega arith; ahead = λ l. absurd (omega arith); read = IsRead-none runs p partition }

module _ (runs : List ℕ) (p : ℕ → Bool) (i from : ℕ) (ranges : List Range) (h : IsReadFrom runs p i from ranges) where
  same-test : nat_lt from i ≡ nat_lt (start_of runs from) (start_of runs i)
  same-test =
      elim (cases_lt from i) [
        | inl l ↦ lt-ltb from i l ∙ sym (lt-ltb _ _ (h.ahead l))
        | inr g ↦
            let same : from ≡ i = omega (arith, h.order, g) in
            le-ltb from i g ∙ sym (le-ltb _ _ (le_of_eq (ap (start_of runs) (sym same))))
      ]

  pub IsReadFrom-full : (more : List Range) →
      more ≡ cond (nat_lt from i) (ranges ++ record { low = start_of runs from; high = start_of runs i - 1 } ∷ []) ranges → IsFull runs p (start_of runs i) more
  IsReadFrom-full more is =
      let last : Range = record { low = start_of runs from; high = start_of runs i - 1 } in
      IsRead-full runs p i (start_of runs from) (start_of runs i) ranges more h.read (is ∙ ap (λ b. cond b (ranges ++ last ∷ []) ranges) same-test)

  pub IsReadFrom-kept : i < length runs → p (slice_index runs i % 2048) ≡ true → IsReadFrom runs p (i + 1) from ranges
  IsReadFrom-kept lt passes = record {
    order = omega (arith, h.order);
    ahead = λ l. omega (arith, start-next runs i, IsAt-below runs i (start_of runs i) h.read.at lt, h.read.order);
    read =
        subst (λ end. IsRead runs p (i + 1) (start_of runs from) end ranges) (sym (start-next runs i))
        (IsRead-kept runs p i (start_of runs from) (start_of runs i) ranges h.read lt passes);
  }

  pub IsReadFrom-left : i < length runs → (more : List Range) → IsFull runs p (start_of runs i) more → p (slice_index runs i % 2048) ≡ false →
      IsReadFrom runs p (i + 1) (i + 1) more
  IsReadFrom-left lt more full fails = record {
    order = omega arith;
    ahead = λ l. absurd (omega arith);
    read =
        subst (λ end. IsRead runs p (i + 1) end end more) (sym (start-next runs i))
        (IsRead-left runs p i (start_of runs from) (start_of runs i) ranges h.read lt more full fails);
  }

-- all runs are read
pub IsReadFrom-all : (runs : List ℕ) (p : ℕ → Bool) (i from : ℕ) (ranges more : List Range) → IsReadFrom runs p i from ranges → i ≡ length runs →
    more ≡ cond (nat_lt from (length runs)) (ranges ++ record { low = start_of runs from; high = start_of runs (length runs) - 1 } ∷ []) ranges →
    AreRising more × ((c : ℕ) → c ≤ 0x10FFFF → covers more c ≡ p (run_value runs c))
IsReadFrom-all runs p i from ranges more h end is =
    let at_end : IsReadFrom runs p (length runs) from ranges = subst (λ j. IsReadFrom runs p j from ranges) end h in
    let full = IsReadFrom-full runs p (length runs) from ranges at_end more is in
    let last = start-last runs (length runs) (start_of runs (length runs)) at_end.read.at (le_of_eq refl) in
    (full.rising, λ c l. below-last (covers more c) (p (run_value runs c)) (start_of runs (length runs)) c last l (full.members c))

-- the members of a set that covers what passes one test, by an equal test
pub Has-along : (set : List Range) (c : ℕ) (a b : Bool) → covers set c ≡ a → a ≡ b → Has set c ↔ (b ≡ true)
Has-along set c a b e f =
    let decides = Decides-covers set c in
    (λ h. sym (e ∙ f) ∙ decides.1 h, λ t. decides.0 (e ∙ f ∙ t))
