-- The rows that are reached while a look-ahead rule's front hasn't ended.
use Rattle.std.proofs.Common.{◌≡◌, ◌≢◌, ℕ, suc, ◌+◌, ◌*◌, ◌<◌, ◌≤◌, Bool, false, List, [], ◌∷◌, ◌++◌, length, take, get_or, refl, sym, ap}
use Rattle.std.proofs.Common.{◌∙◌, subst, inl, inr, ⊎_elim, arith}
use Rattle.std.specs.Prelude.{IsTrue}
use Rattle.std.proofs.lemmas.Bool.{cases_Bool, cases_eq, cases_lt, false≢true}
use Rattle.std.proofs.lemmas.List.{take-append-le, take_all, length_push}
use Rattle.rbbi_model.specs.Places.{has_bit}
use Rattle.rbbi_model.specs.Tables.{Table, RowHead, head_of, accept_of, fronts_of, step, row_along}
use Rattle.rbbi_model.specs.ValidTables.{IsWay, IsPlain}
use Rattle.rbbi_model.proofs.Cuts.{no_bit}
use Rattle.rbbi_model.proofs.SearchFacts.{row_along_append}
use Rattle.rbbi_table.specs.Parts.{rows_of, AreNextRows}
use Rattle.rbbi_table.specs.inner.Fronts.{IsFronted, IsReached, IsWalk, IsPassed, ArePassed, GoesOn}
use Rattle.rbbi_table.specs.inner.Targets.{IsGathered, AddsTarget}
use Rattle.rbbi_table.proofs.MoveLemmas.{steps_of, steps_long, steps_are, row_end}

-- 0 has no bit
pub no_bit_is : (n k : ℕ) → n ≡ 0 → has_bit n k ≡ false
no_bit_is n k none = ⊎_elim (λ is. absurd (no_bit n k none is)) (λ isnt. isnt) (cases_Bool (has_bit n k))

all_append : (table : Table) (way : List ℕ) (category : ℕ) → IsWay table way → category < table.categories → IsWay table (way ++ category ∷ [])
all_append table [] category is within = (within, tt)
all_append table (k ∷ way) category is within = (is.0, all_append table way category is.1 within)

-- a step on from a row that is reached
pub reached_on : (table : Table) (slash row category : ℕ) → IsReached table slash row → category < table.categories →
    step table row category < length table.rows →
    accept_of table (step table row category) ≢ slash + 2 → has_bit (fronts_of table (step table row category)) slash ≡ false →
    IsReached table slash (step table row category)
reached_on table slash row category reached within next uncompleted bit =
    let way : List ℕ = reached.way ++ category ∷ [] in
    let leads : row_along table 1 way ≡ step table row category = row_along_append table 1 reached.way (category ∷ []) ∙
    ap (λ r. step table r category) reached.leads in
    let long : length way ≡ length reached.way + 1 = length_push reached.way category in
    record {
      within = next;
      way = way;
      is_way = all_append table reached.way category reached.is_way within;
      leads = leads;
      bits = λ earlier most.
          ⊎_elim
          (λ short. ap (λ w. has_bit (fronts_of table (row_along table 1 w)) slash) (take-append-le earlier reached.way (category ∷ []) (omega arith)) ∙
          reached.bits earlier (omega arith))
          (λ past. ap (λ w. has_bit (fronts_of table (row_along table 1 w)) slash) (take_all earlier way (omega (arith, long, past))) ∙
          ap (λ r. has_bit (fronts_of table r) slash) leads ∙ bit)
          (cases_lt earlier (length reached.way + 1));
      uncompleted = uncompleted;
    }

-- a row at which the rule is completed, entered from one that is reached
pub unfronted : (table : Table) (slash row category : ℕ) → IsReached table slash row → category < table.categories →
    accept_of table (step table row category) ≡ slash + 2 → ¬ IsFronted table slash
unfronted table slash row category reached within completed fronted =
    let way : List ℕ = reached.way ++ category ∷ [] in
    let leads : row_along table 1 way ≡ step table row category = row_along_append table 1 reached.way (category ∷ []) ∙
    ap (λ r. step table r category) reached.leads in
    let ends = fronted way (all_append table reached.way category reached.is_way within) (ap (λ r. accept_of table r) leads ∙ completed) in
    let short : ends.0 ≤ length reached.way = omega (arith, ends.1, length_push reached.way category) in
    let none = ap (λ w. has_bit (fronts_of table (row_along table 1 w)) slash) (take-append-le ends.0 reached.way (category ∷ []) short) ∙
    reached.bits ends.0 short in
    false≢true (sym none ∙ ends.2)

module _ (table : Table) (slash : ℕ) (queue : List ℕ) (passed : ArePassed table slash queue (length queue)) where
  -- from each row of the queue
  pub fronted_from : (way : List ℕ) (i : ℕ) → i < length queue → accept_of table (get_or queue i 0) ≢ slash + 2 → IsWay table way →
      accept_of table (row_along table (get_or queue i 0) way) ≡ slash + 2 →
      (earlier : ℕ) × (earlier < length way) × IsTrue (has_bit (fronts_of table (row_along table (get_or queue i 0) (take earlier way))) slash)
  fronted_from [] i short uncompleted is completed = absurd (uncompleted completed)
  fronted_from (category ∷ []) i short uncompleted is completed =
      absurd ((passed i short category is.0).uncompleted completed)
  fronted_from (category ∷ next ∷ way) i short uncompleted is completed =
      let pass = passed i short category is.0 in
      ⊎_elim
      (λ bit. (1, omega arith, bit))
      (λ there.
      let row : ℕ = step table (get_or queue i 0) category in
      let same : get_or queue there.0 0 ≡ row = there.2 in
      let further = fronted_from (next ∷ way) there.0 there.1 (subst (λ r. accept_of table r ≢ slash + 2) (sym same) pass.uncompleted) is.1
      (ap (λ r. accept_of table (row_along table r (next ∷ way))) same ∙ completed) in (
        suc further.0,
        omega (arith, further.1),
        subst (λ r. IsTrue (has_bit (fronts_of table (row_along table r (take further.0 (next ∷ way)))) slash)) same
            further.2,
      ))
      pass.goes_on

pub fronted_by : (table : Table) (slash : ℕ) (seen : List Bool) (queue : List ℕ) → IsWalk table slash seen queue → ArePassed table slash queue (length queue) →
    IsFronted table slash
fronted_by table slash seen queue walk passed way is completed =
    let same : get_or queue walk.start.0 0 ≡ 1 = walk.start.2 in
    let ends = fronted_from table slash queue passed way walk.start.0 walk.start.1 (walk.reached walk.start.0 walk.start.1).uncompleted is
    (ap (λ r. accept_of table (row_along table r way)) same ∙ completed) in
    (ends.0, ends.1, subst (λ r. IsTrue (has_bit (fronts_of table (row_along table r (take ends.0 way))) slash)) same ends.2)

pub passed_more : (table : Table) (slash : ℕ) (old new : List ℕ) (row : ℕ) → ((i : ℕ) → i < length old → (i < length new) × (get_or new i 0 ≡ get_or old i 0)) →
    IsPassed table slash old row → IsPassed table slash new row
passed_more table slash old new row keeps pass = record {
  uncompleted = pass.uncompleted;
  goes_on =
      ⊎_elim
      (λ bit. inl bit)
      (λ there.
      let kept = keeps there.0 there.1 in
      inr (there.0, kept.0, kept.1 ∙ there.2))
      pass.goes_on;
}

-- a cell of a row's next rows is the next row by a category, and a row
pub record IsCell (width : ℕ) (rows : List RowHead) (cells : List ℕ) (row i : ℕ) : Type 0 where
  pub low : i < width
  pub is : get_or (steps_of width cells row) i 0 ≡ step (rows_of width rows cells []) row i
  pub within : step (rows_of width rows cells []) row i < length rows

pub cell_is : (width : ℕ) (rows : List RowHead) (cells : List ℕ) (row i : ℕ) → AreNextRows width rows cells → row < length rows →
    i < length (steps_of width cells row) → IsCell width rows cells row i
cell_is width rows cells row i steps within short =
    let low : i < width = omega (arith, short, steps_long width cells row (length rows) steps.all within) in
    record {
      low = low;
      is = steps_are width cells row i low;
      within = steps.within (row * width + i) (omega (arith, steps.all, low, row_end row (length rows) width within));
    }

-- one more row in the queue
pub walk_on : (table : Table) (slash : ℕ) (seen seen' : List Bool) (queue queue' : List ℕ) (target : ℕ) → IsWalk table slash seen queue →
    length seen' ≡ length seen → IsGathered seen' queue' → AddsTarget queue target queue' →
    IsReached table slash target → IsWalk table slash seen' queue'
walk_on table slash seen seen' queue queue' target walk long gathered adds reached =
    let kept = adds.keeps walk.start.0 walk.start.1 in
    record {
      long = long ∙ walk.long;
      gathered = gathered;
      start = (walk.start.0, kept.0, kept.1 ∙ walk.start.2);
      reached = λ i short.
          ⊎_elim
          (λ old. subst (λ r. IsReached table slash r) (sym old.1) (walk.reached i old.0))
          (λ new. subst (λ r. IsReached table slash r) (sym new) reached)
          (adds.only i short);
    }

-- row 1 alone
pub walk_start : (table : Table) (slash : ℕ) (seen : List Bool) (queue : List ℕ) → 2 ≤ length table.rows → IsPlain (head_of table 1) →
    length seen ≡ length table.rows → IsGathered seen queue → AddsTarget [] 1 queue → IsWalk table slash seen queue
walk_start table slash seen queue some plain long gathered adds =
    let first : IsReached table slash 1 = record {
      within = omega (arith, some);
      way = [];
      is_way = tt;
      leads = refl;
      bits = λ earlier most. ap (λ w. has_bit (fronts_of table (row_along table 1 w)) slash) (take_all earlier [] (omega arith)) ∙ no_bit_is (fronts_of table 1) slash plain.1;
      uncompleted = λ completed. omega (arith, plain.0, completed);
    } in
    record {
      long = long;
      gathered = gathered;
      start = adds.has;
      reached = λ i short.
          ⊎_elim
          (λ old. absurd (omega (arith, old.0)))
          (λ new. subst (λ r. IsReached table slash r) (sym new) first)
          (adds.only i short);
    }

-- one more row of the queue that is followed
pub passed_on : (table : Table) (slash row done : ℕ) (old : List ℕ) (seen : List Bool) (new : List ℕ) → ArePassed table slash old done → done < length old →
    row ≡ get_or old done 0 → GoesOn table slash row old seen new → ArePassed table slash new (done + 1)
passed_on table slash row done old seen new passed short is on i less category low =
    ⊎_elim
    (λ same.
    subst (λ n. IsPassed table slash new (step table n category)) (is ∙ sym (on.keeps done short).1 ∙ ap (λ n. get_or new n 0) (sym same))
    (on.passed category low))
    (λ other.
    let below : i < done = omega arith in
    subst (λ n. IsPassed table slash new (step table n category)) (sym (on.keeps i (omega (arith, below, short))).1)
    (passed_more table slash old new (step table (get_or old i 0) category) on.keeps (passed i below category low)))
    (cases_eq i done)
