-- Lists of positions with their marks, position by position.
use Rattle.std.proofs.Common.{◌≡◌, ℕ, ◌+◌, ◌<◌, ◌↔◌, true, false, ◌||◌, eqb, Some, None, List, [], ◌∷◌, ◌++◌, length, get_or, sym, ap, ◌∙◌, subst}
use Rattle.std.proofs.Common.{⊎_elim, arith}
use Rattle.std.specs.Prelude.{unwrap_or}
use Rattle.std.specs.List.{All, Contains}
use Rattle.std.specs.List.Sorted.{IsPermutation}
use Rattle.std.proofs.lemmas.List.{length_push, get_or_push, get_or_append_left}
use Rattle.std.proofs.lemmas.List.Sorted.{Contains-permutation, IsPermutation-sym}
use Rattle.std.specs.Prelude.{IsTrue}
use Rattle.std.proofs.lemmas.Bool.{cases_eq, eqb-true, eq-eqb, false≢true, or_cases, or_left, or_right}
use Rattle.rbbi_bits.specs.BitRows.{Holds, row_bit}
use Rattle.rbbi_bits.specs.NumberedRows.{listed_row}
use Rattle.std.proofs.lemmas.List.Elements.{Contains-get_or, Contains-append_left, Contains-push, Contains-push_cases}
use Rattle.rbbi_positions.specs.PositionMarks.{PositionMarks}
use Rattle.rbbi_dfa.specs.declared.determinize.rows_of.ListKind.{ListKind}
use Rattle.rbbi_dfa.specs.inner.PositionRows.{PositionMark}
use Rattle.rbbi_dfa.specs.inner.PositionAutomata.{Marked}
use Rattle.rbbi_dfa.specs.inner.MarkedRows.{mark_in, begins_chained, AreRowsIn, AreMarkedIn}

-- the list marks the positions below this one so
abbrev pub AreMarkedUpTo : PositionMarks → ListKind → List PositionMark → ℕ → Type 0
AreMarkedUpTo marks kind list count = (position mark : ℕ) → Marked list position mark ↔ ((position < count) × (mark_in marks kind position ≡ Some mark))

pub marked_none : (marks : PositionMarks) (kind : ListKind) (list : List PositionMark) → list ≡ [] → AreMarkedUpTo marks kind list 0
marked_none marks kind list none position mark =
    (λ has. absurd (omega (arith, has.1, ap length none)), λ below. absurd (omega (arith, below.0)))

module _ (marks : PositionMarks) (kind : ListKind) (list : List PositionMark) (count : ℕ) (are : AreMarkedUpTo marks kind list count) where
  pub marked_takes : (mark : ℕ) → mark_in marks kind count ≡ Some mark → AreMarkedUpTo marks kind (list ++ record { position = count; mark = mark } ∷ [])
      (count + 1)
  marked_takes mark is position other =
      let new : PositionMark = record { position = count; mark = mark } in (
        λ has.
            ⊎_elim
            (λ old. let below = (are position other).0 old in (omega (arith, below.0), below.1))
            (λ same.
            let here : count ≡ position = ap (λ (m : PositionMark). m.position) same in
            let value : mark ≡ other = ap (λ (m : PositionMark). m.mark) same in
            (omega (arith, here), ap (λ n. mark_in marks kind n) (sym here) ∙ is ∙ ap (λ n. Some n) value))
            (Contains-push_cases list new (record { position = position; mark = other }) has),
        λ (short, marked).
            ⊎_elim
            (λ here.
            let value : mark ≡ other = ap (λ o. unwrap_or o mark) (sym is ∙ ap (λ n. mark_in marks kind n) (sym here) ∙ marked) in
            let same : new ≡ record { position = position; mark = other } = λ i. record { position = sym here i; mark = value i } in
            subst (λ m. Contains (list ++ new ∷ []) m) same (Contains-push list new))
            (λ apart. Contains-append_left list (new ∷ []) (record { position = position; mark = other })
            ((are position other).1 (omega (arith, short, apart), marked)))
            (cases_eq position count),
      )

  pub marked_stays : mark_in marks kind count ≡ None → AreMarkedUpTo marks kind list (count + 1)
  marked_stays is position other = (
    λ has. let below = (are position other).0 has in (omega (arith, below.0), below.1),
    λ (short, marked).
        ⊎_elim
        (λ here. absurd (let no : None ≡ Some other = sym is ∙ ap (λ n. mark_in marks kind n) (sym here) ∙ marked in cc))
        (λ apart. (are position other).1 (omega (arith, short, apart), marked))
        (cases_eq position count),
  )

-- rows with one more
pub rows_more : (width : ℕ) (row_of : ℕ → List ℕ) (rows : List (List ℕ)) (row : List ℕ) (count : ℕ) → AreRowsIn width count row_of rows →
    length row ≡ width → row ≡ row_of count → AreRowsIn width (count + 1) row_of (rows ++ row ∷ [])
rows_more width row_of rows row count are wide is =
    let here : (i : ℕ) → i ≡ count → listed_row (rows ++ row ∷ []) i ≡ row = λ i same. get_or_push rows row [] i (are.many ∙ sym same) in
    let before : (i : ℕ) → i < count → listed_row (rows ++ row ∷ []) i ≡ listed_row rows i =
    λ i short. get_or_append_left rows (row ∷ []) [] i (omega (arith, short, are.many)) in
    record {
      many = omega (arith, length_push rows row, are.many);
      wide = λ i short.
          ⊎_elim
          (λ same. ap length (here i same) ∙ wide)
          (λ other. let short' : i < count = omega (arith, short, other) in ap length (before i short') ∙ are.wide i short')
          (cases_eq i count);
      each = λ i short.
          ⊎_elim
          (λ same. here i same ∙ is ∙ ap row_of (sym same))
          (λ other. let short' : i < count = omega (arith, short, other) in before i short' ∙ are.each i short')
          (cases_eq i count);
    }

-- the chained row of the positions below this one
abbrev pub IsChainedUpTo : PositionMarks → List ℕ → ℕ → Type 0
IsChainedUpTo marks row count = (position : ℕ) → Holds row position ↔ ((position < count) × IsTrue (begins_chained marks position))

pub chained_takes : (marks : PositionMarks) (row new : List ℕ) (count : ℕ) → IsChainedUpTo marks row count → begins_chained marks count ≡ true →
    ((position : ℕ) → row_bit new position ≡ (row_bit row position || eqb position count)) → IsChainedUpTo marks new (count + 1)
chained_takes marks row new count are begins is p = (
  λ holds.
      ⊎_elim
      (λ old. let below = (are p).0 old in (omega (arith, below.0), below.1))
      (λ same.
      let here : p ≡ count = eqb-true p count same in
      (omega (arith, here), subst (λ n. IsTrue (begins_chained marks n)) (sym here) begins))
      (or_cases (row_bit row p) (eqb p count) (sym (is p) ∙ holds)),
  λ (short, chained). is p
      ∙ ⊎_elim
      (λ here. or_right (row_bit row p) (eqb p count) (eq-eqb p count here))
      (λ apart. or_left (row_bit row p) (eqb p count) ((are p).1 (omega (arith, short, apart), chained)))
      (cases_eq p count),
)

pub chained_stays : (marks : PositionMarks) (row : List ℕ) (count : ℕ) → IsChainedUpTo marks row count → begins_chained marks count ≡ false →
    IsChainedUpTo marks row (count + 1)
chained_stays marks row count are none p = (
  λ holds. let below = (are p).0 holds in (omega (arith, below.0), below.1),
  λ (short, chained).
      ⊎_elim
      (λ here. absurd (false≢true (sym none ∙ ap (λ n. begins_chained marks n) (sym here) ∙ chained)))
      (λ apart. (are p).1 (omega (arith, short, apart), chained))
      (cases_eq p count),
)

-- marks of a list that mark positions so
pub marked_all : (marks : PositionMarks) (kind : ListKind) (list : List PositionMark) (P : ℕ → Type 0) → AreMarkedIn marks kind list →
    ((position mark : ℕ) → position < marks.leaves → mark_in marks kind position ≡ Some mark → P mark) → All (λ m. P m.mark) list
marked_all marks kind list P are each k d short =
    let m : PositionMark = get_or list k d in
    let is = (are m.position m.mark).0 (Contains-get_or list k d short) in
    each m.position m.mark is.0 is.1

-- the same marks in another order
pub marked_permuted : (marks : PositionMarks) (kind : ListKind) (list other : List PositionMark) → IsPermutation list other → AreMarkedIn marks kind list →
    AreMarkedIn marks kind other
marked_permuted marks kind list other same are position mark =
    let this : PositionMark = record { position = position; mark = mark } in (
      λ has. (are position mark).0 (Contains-permutation other list this (IsPermutation-sym list other same) has),
      λ below. Contains-permutation list other
          this same ((are position mark).1 below),
    )
