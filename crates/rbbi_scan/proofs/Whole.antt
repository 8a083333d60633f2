-- Boundaries that lead on from one of a text's are those that follow it.
use Rattle.std.proofs.Common.{◌≡◌, ℕ, zero, suc, ◌+◌, ◌<◌, ◌≤◌, Bool, true, cond, List, [], ◌∷◌, ◌++◌, length, refl, sym, ap, ◌∙◌, subst}
use Rattle.std.proofs.Common.{inl, inr, ⊎_elim, arith, append-nil}
use Rattle.std.proofs.lemmas.Bool.{cases_lt, lt-ltb, le-ltb}
use Rattle.rbbi_model.specs.declared.unit.Unit.{Unit as TextUnit}
use Rattle.rbbi_model.specs.Boundaries.{Boundary, start}
use Rattle.rbbi_model.specs.Cover.{IsPlaceOf}
use Rattle.rbbi_model.specs.Tables.{Table}
use Rattle.rbbi_model.specs.Searches.{next_boundary, follow_by, table_boundaries}
use Rattle.rbbi_model.specs.Units.{offset_of}
use Rattle.rbbi_model.specs.Words.{most_characters}
use Rattle.rbbi_model.proofs.Found.{found_lies}
use Rattle.rbbi_scan.specs.Breaks.{BreaksAt}
use Rattle.rbbi_scan.specs.Columns.{Columns}
use Rattle.rbbi_scan.specs.Giving.{Gives}
use Rattle.rbbi_scan.specs.Leading.{Lead, past}
use Rattle.rbbi_scan.specs.Scanning.{ScansOn}
use Rattle.rbbi_scan.specs.Spelled.{IsTextIn}
use Rattle.rbbi_scan.specs.declared.reached.Asked.{Asked}
use Rattle.rbbi_scan.specs.declared.reached.Reached.{Reached}

module _ (table : Table) (x : List ℕ) where
  next : ℕ → Boundary
  next = next_boundary table x

  n : ℕ
  n = length x

  follow : ℕ → Boundary → List Boundary
  follow most b = follow_by (next_boundary table x) (length x) most b

  -- the boundaries that are found from a place on
  following : ℕ → List Boundary
  following place = follow_by (next_boundary table x) (length x) (length x) (record { at = place; statuses = [] })

  one_more : (most : ℕ) (b : Boundary) → b.at < length x →
      follow_by (next_boundary table x) (length x) (suc most) b
      ≡ next_boundary table x b.at ∷ follow_by (next_boundary table x) (length x) most (next_boundary table x b.at)
  one_more most b inside =
      ap (λ t. cond t (next_boundary table x b.at ∷ follow_by (next_boundary table x) (length x) most (next_boundary table x b.at)) [])
      (lt-ltb b.at (length x) inside)

  no_more : (most : ℕ) (b : Boundary) → length x ≤ b.at → follow_by (next_boundary table x) (length x) most b ≡ []
  no_more zero b ended = refl
  no_more (suc most) b ended =
      ap (λ t. cond t (next_boundary table x b.at ∷ follow_by (next_boundary table x) (length x) most (next_boundary table x b.at)) [])
      (le-ltb b.at (length x) ended)

  -- that many or more make no difference, nor do the statuses where they begin
  enough : (most more : ℕ) (b c : Boundary) → b.at ≡ c.at → length x ≤ b.at + most → length x ≤ b.at + more →
      follow_by (next_boundary table x) (length x) most b ≡ follow_by (next_boundary table x) (length x) more c
  enough zero more b c same few also = sym (no_more more c (omega (arith, same, few)))
  enough (suc most) zero b c same few also = no_more (suc most) b (omega (arith, also))
  enough (suc most) (suc more) b c same few also =
      ⊎_elim
      (λ inside.
      let lies = found_lies table x b.at inside in
      one_more most b inside
      ∙ ap (λ bs. next_boundary table x b.at ∷ bs)
      (enough most more (next_boundary table x b.at) (next_boundary table x b.at) refl (omega (arith, few, lies.0)) (omega (arith, also, lies.0)))
      ∙ ap (λ p. next_boundary table x p ∷ follow_by (next_boundary table x) (length x) more (next_boundary table x p)) same
      ∙ sym (one_more more c (omega (arith, same, inside))))
      (λ ended. no_more (suc most) b ended ∙ sym (no_more (suc more) c (omega (arith, same, ended))))
      (cases_lt b.at (length x))

  following_next : (place : ℕ) → place < length x → following place ≡ next_boundary table x place ∷ following (next_boundary table x place).at
  unfolding following
  following_next place inside =
      let lies = found_lies table x place inside in
      enough (length x) (suc (length x)) (record { at = place; statuses = [] }) (record { at = place; statuses = [] }) refl (omega arith) (omega arith)
      ∙ one_more (length x) (record { at = place; statuses = [] }) inside
      ∙ ap (λ bs. next_boundary table x place ∷ bs)
      (enough (length x) (length x) (next_boundary table x place) (record { at = (next_boundary table x place).at; statuses = [] }) refl
      (omega arith) (omega arith))

  -- what leads on is the first of what follows
  leads : (is_whole : Bool) (place last : ℕ) (given : List Boundary) → Lead is_whole table x place given last →
      following place ≡ given ++ following last
  leads is_whole place last [] lead = ap following lead
  leads is_whole place last (b ∷ given) lead =
      following_next place lead.0
      ∙ ap (λ c. c ∷ following c.at) (sym lead.2)
      ∙ ap (λ bs. b ∷ bs) (leads is_whole b.at last given lead.3)

  keeps : (place : ℕ) (b : Boundary) (bs : List Boundary) → place < b.at → past place (b ∷ bs) ≡ b ∷ past place bs
  keeps place b bs less = ap (λ t. cond t (b ∷ past place bs) (past place bs)) (lt-ltb place b.at less)

  drops : (place : ℕ) (b : Boundary) (bs : List Boundary) → b.at ≤ place → past place (b ∷ bs) ≡ past place bs
  drops place b bs more = ap (λ t. cond t (b ∷ past place bs) (past place bs)) (le-ltb place b.at more)

  -- all that follow a boundary lie past it
  all_past : (most place : ℕ) (b : Boundary) → place ≤ b.at →
      past place (follow_by (next_boundary table x) (length x) most b) ≡ follow_by (next_boundary table x) (length x) most b
  all_past zero place b low = refl
  all_past (suc most) place b low =
      ⊎_elim
      (λ inside.
      let lies = found_lies table x b.at inside in
      let other : Boundary = next_boundary table x b.at in
      ap (past place) (one_more most b inside)
      ∙ keeps place other (follow_by (next_boundary table x) (length x) most other) (omega (arith, low, lies.0))
      ∙ ap (λ bs. other ∷ bs) (all_past most place other (omega (arith, low, lies.0)))
      ∙ sym (one_more most b inside))
      (λ ended. ap (past place) (no_more (suc most) b ended) ∙ sym (no_more (suc most) b ended))
      (cases_lt b.at (length x))

  -- a place of those that follow a boundary lies past it
  place_past : (most place : ℕ) (b : Boundary) → IsPlaceOf (follow_by (next_boundary table x) (length x) most b) place → b.at < place
  place_past zero place b here = absurd here
  place_past (suc most) place b here =
      ⊎_elim
      (λ inside.
      let lies = found_lies table x b.at inside in
      ⊎_elim
      (λ first. omega (arith, lies.0, first))
      (λ later. omega (arith, lies.0, place_past most place (next_boundary table x b.at) later))
      (subst (λ bs. IsPlaceOf bs place) (one_more most b inside) here))
      (λ ended. absurd (subst (λ bs. IsPlaceOf bs place) (no_more (suc most) b ended) here))
      (cases_lt b.at (length x))

  module _ (place : ℕ) where
    -- of boundaries that follow one another, those past one of them are what follows it
    past_is : (most : ℕ) (b : Boundary) → length x ≤ b.at + most → IsPlaceOf (b ∷ follow_by (next_boundary table x) (length x) most b) place →
        past place (b ∷ follow_by (next_boundary table x) (length x) most b) ≡ following place
    unfolding following
    past_is most b few (inl same) =
        drops place b (follow_by (next_boundary table x) (length x) most b) (omega (arith, same))
        ∙ all_past most place b (omega (arith, same))
        ∙ enough most (length x) b (record { at = place; statuses = [] }) same few (omega arith)
    past_is zero b few (inr later) = absurd later
    past_is (suc most) b few (inr later) =
        ⊎_elim
        (λ inside.
        let lies = found_lies table x b.at inside in
        let other : Boundary = next_boundary table x b.at in
        drops place b (follow_by (next_boundary table x) (length x) (suc most) b) (let less = place_past (suc most) place b later in omega (arith, less))
        ∙ ap (past place) (one_more most b inside)
        ∙ past_is most other (omega (arith, few, lies.0)) (subst (λ bs. IsPlaceOf bs place) (one_more most b inside) later))
        (λ ended. absurd (subst (λ bs. IsPlaceOf bs place) (no_more (suc most) b ended) later))
        (cases_lt b.at (length x))

    -- what is found from one of them is one of them
    next_is : (most : ℕ) (b : Boundary) → length x ≤ b.at + most → place < length x →
        IsPlaceOf (b ∷ follow_by (next_boundary table x) (length x) most b) place →
        IsPlaceOf (b ∷ follow_by (next_boundary table x) (length x) most b) (next_boundary table x place).at
    next_is zero b few inside (inl same) = absurd (omega (arith, few, same, inside))
    next_is zero b few inside (inr later) = absurd later
    next_is (suc most) b few inside (inl same) =
        inr (subst (λ bs. IsPlaceOf bs (next_boundary table x place).at) (sym (one_more most b (omega (arith, same, inside))))
        (inl (ap (λ p. (next_boundary table x p).at) same)))
    next_is (suc most) b few inside (inr later) =
        let less = place_past (suc most) place b later in
        let here : b.at < length x = omega (arith, less, inside) in
        let lies = found_lies table x b.at here in
        inr (subst (λ bs. IsPlaceOf bs (next_boundary table x place).at) (sym (one_more most b here))
        (next_is most (next_boundary table x b.at) (omega (arith, few, lies.0)) inside (subst (λ bs. IsPlaceOf bs place) (one_more most b here) later)))

  -- where boundaries lead to from a boundary is one
  last_is : (is_whole : Bool) (place last : ℕ) (given : List Boundary) → IsPlaceOf (table_boundaries table x) place → Lead is_whole table x place given last →
      IsPlaceOf (table_boundaries table x) last
  last_is is_whole place last [] here lead = subst (IsPlaceOf (table_boundaries table x)) lead here
  last_is is_whole place last (b ∷ given) here lead =
      last_is is_whole b.at last given
      (subst (λ c. IsPlaceOf (table_boundaries table x) c.at) (sym lead.2) (next_is place (length x) start (omega arith) lead.0 here)) lead.3

  pub whole_is : (is_whole : Bool) (place last : ℕ) (given : List Boundary) → Lead is_whole table x place given last →
      IsPlaceOf (table_boundaries table x) place → past place (table_boundaries table x) ≡ given ++ past last (table_boundaries table x)
  whole_is is_whole place last given lead here =
      past_is place (length x) start (omega arith) here
      ∙ leads is_whole place last given lead
      ∙ ap (λ bs. given ++ bs) (sym (past_is last (length x) start (omega arith) (last_is is_whole place last given here lead)))

  none_follow : (place : ℕ) → length x ≤ place → following place ≡ []
  unfolding following
  none_follow place ended = no_more (length x) (record { at = place; statuses = [] }) ended

  -- boundaries that lead from the text's start to its end are all
  pub all_are : (is_whole : Bool) (last : ℕ) (given : List Boundary) → Lead is_whole table x 0 given last → last ≡ length x →
      past 0 (table_boundaries table x) ≡ given
  all_are is_whole last given lead ended =
      past_is 0 (length x) start (omega arith) (inl refl)
      ∙ leads is_whole 0 last given lead
      ∙ ap (λ bs. given ++ bs) (none_follow last (omega (arith, ended)))
      ∙ append-nil given

-- what a scan of units that are all gives of their text
pub breaks_at : (unit : TextUnit) (table : Table) (asked : Asked) (units : List ℕ) (start : Reached) (before after : Columns) (reached : Reached) →
    asked.origin ≡ 0 → ScansOn unit table asked true most_characters units start before after reached → start.count ≡ 0 →
    (x : List ℕ) (begin end place : ℕ) → IsTextIn unit units begin end x → place ≤ length x → start.resume ≡ begin + offset_of unit x place →
    BreaksAt unit table asked.only_words units begin end x place before after reached
breaks_at unit table asked units start before after reached origin scans none x begin end place text within resume_is =
    let there = scans [] x begin end place (record {
      last = λ _. refl;
      text = subst (λ l. IsTextIn unit l begin end x) (sym (append-nil units)) text;
      within = within;
      resume_is = resume_is;
    }) in
    let is : asked ≡ record { only_words = asked.only_words; origin = 0 } = λ i. record { only_words = asked.only_words; origin = origin i } in
    let gives : Gives unit table (record { only_words = asked.only_words; origin = 0 }) true most_characters units begin end x place 0 before after reached =
    subst (λ n. Gives unit table (record { only_words = asked.only_words; origin = 0 }) true most_characters units begin end x place n before after reached) none
    (subst (λ l. Gives unit table (record { only_words = asked.only_words; origin = 0 }) true most_characters l begin end x place start.count before after reached)
    (append-nil units)
    (subst (λ a. Gives unit table a true most_characters (units ++ []) begin end x place start.count before after reached) is there)) in
    record { gives = gives; whole = whole_is table x _ place gives.last gives.given gives.on.found }
