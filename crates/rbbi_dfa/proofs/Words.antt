-- The row that a word leads to is the set of the positions that can read its last code point.
use Rattle.std.proofs.Common.{◌≡◌, ◌≢◌, ℕ, ◌+◌, ◌-◌, ◌<◌, ◌≤◌, List, [], ◌∷◌, ◌++◌, length, map, sym, refl, ap, ◌∙◌, subst, inl, inr, ⊎_elim, append_assoc}
use Rattle.std.proofs.Common.{arith}
use Rattle.std.specs.Prelude.{◌↔◌}
use Rattle.std.proofs.lemmas.Bool.{cases_eq}
use Rattle.std.proofs.lemmas.List.{length_push, append-nil}
use Rattle.rbbi_model.specs.Words.{IsWord, IsCodePoint}
use Rattle.rbbi_model.specs.Rules.{Rule, AreLawful}
use Rattle.rbbi_model.specs.Boundaries.{LookAheadEndsAt}
use Rattle.rbbi_model.specs.Tables.{Table, CategoryRange, category_of, step, row_along}
use Rattle.rbbi_model.specs.Marks.{look_ahead_number}
use Rattle.rbbi_model.specs.LeafSets.{EndedBefore}
use Rattle.rbbi_bits.specs.BitRows.{Holds}
use Rattle.rbbi_bits.specs.NumberedRows.{listed_row}
use Rattle.rbbi_dfa.specs.inner.PositionRows.{PositionRows}
use Rattle.rbbi_dfa.specs.inner.PositionAutomata.{IsOfRules}
use Rattle.rbbi_dfa.specs.inner.PositionAutomata.{Marked, LookAhead}
use Rattle.rbbi_dfa.specs.inner.Determinizing.{HasMark, ComesBy, IsStep, AreFollowers, Completes, IsReached, FromFirst, FromSet, IsSome, IsCell, IsDeterminized}
use Rattle.rbbi_dfa.proofs.Reading.{ReadBy, Comes, reads_next, next_reads, read_ends, ends_read, ends_longer, ends_shorter, some_push}
use Rattle.rbbi_model.proofs.RulesCover.{ends_lie}
use Rattle.rbbi_model.proofs.Lists.{all_append}

module _ (rules : List Rule) where
  longer : (w : List ℕ) (c e number : ℕ) → LookAheadEndsAt rules w 0 e number → LookAheadEndsAt rules (w ++ c ∷ []) 0 e number
  longer w c e number ends =
      record { rule = ends.rule; is_rule = ends.is_rule; looks_ahead = ends.looks_ahead; ends = ends_longer rules w c e number ends.ends }

  pub ended_longer : (w : List ℕ) (c : ℕ) → EndedBefore rules w → EndedBefore rules (w ++ c ∷ [])
  ended_longer w c ended =
      let ends = longer w c ended.e ended.number ended.ends in
      record { e = ended.e; number = ended.number; before = omega (arith, ended.before, length_push w c); ends = ends }

  pub ended_now : (w : List ℕ) (c number : ℕ) → LookAheadEndsAt rules w 0 (length w) number → EndedBefore rules (w ++ c ∷ [])
  ended_now w c number ends = record { e = length w; number = number; before = omega (arith, length_push w c); ends = longer w c (length w) number ends }

  pub not_ended : (w : List ℕ) (c : ℕ) → ¬ EndedBefore rules w → ((number : ℕ) → ¬ LookAheadEndsAt rules w 0 (length w) number) →
      ¬ EndedBefore rules (w ++ c ∷ [])
  not_ended w c before here = λ ended.
      let within : ended.e ≤ length w = omega (arith, ended.before, length_push w c) in
      let ends : LookAheadEndsAt rules w 0 ended.e ended.number =
      record {
        rule = ended.ends.rule;
        is_rule = ended.ends.is_rule;
        looks_ahead = ended.ends.looks_ahead;
        ends =
            ends_shorter rules w c ended.e ended.number within ended.ends.ends;
      } in
      ⊎_elim
      (λ at. here ended.number (subst (λ e. LookAheadEndsAt rules w 0 e ended.number) at ends))
      (λ other. before (record { e = ended.e; number = ended.number; before = omega (arith, within, other); ends = ends }))
      (cases_eq ended.e (length w))

-- no position reads the last code point of the empty word
pub nothing_reads : (rules : List Rule) (p : ℕ) → ¬ ReadBy rules [] p
nothing_reads rules p =
    ⊎_elim (λ begun. begun.reads.some refl) (λ chained. let lies = ends_lie rules [] 0 chained.m chained.before chained.ends in omega (arith, lies.0, lies.1))

module _ (rules : List Rule) (lawful : AreLawful rules) (ranges : List CategoryRange) (rows : PositionRows) (of : IsOfRules rules ranges rows) where
  -- the position can come next after the word
  abbrev pub IsNext : List ℕ → ℕ → Type 0
  IsNext w p = Comes rules lawful.each w p

  -- the set has the positions that can read the last code point of the word, before which no look-ahead rule ended
  pub record IsSetOf (w set : List ℕ) : Type 0 where
    pub open_before : ¬ EndedBefore rules w
    pub holds : (p : ℕ) → Holds set p ↔ ReadBy rules w p

  abbrev pub AreCandidates : List ℕ → List ℕ → Type 0
  AreCandidates w candidates = (p : ℕ) → Holds candidates p ↔ IsNext w p

  first_candidates : AreCandidates [] rows.first
  first_candidates p = (
    λ holds. let first = (of.first p).0 holds in
        inl (record { none = refl; number = first.0; rule = first.1.1.rule; is_rule = first.1.1.is_rule; first = first.1 }),
    ⊎_elim
        (λ first. (of.first p).1 (first.number, first.first))
        (λ after. absurd (after.some refl)),
  )

  later_candidates : (w set candidates : List ℕ) → w ≢ [] → IsSetOf w set → AreFollowers rows set candidates → AreCandidates w candidates
  later_candidates w set candidates some is followers p = (
    λ holds.
        let can = (followers p).0 holds in
        let follows = (of.follow can.0 p).0 can.2 in
        inr (record { some = some; number = follows.0; q = can.0; read = (is.holds can.0).0 can.1; follows = follows.1 }),
    ⊎_elim
        (λ first. absurd (some first.none))
        (λ after. (followers p).1 (after.q, (is.holds after.q).1 after.read, (of.follow after.q p).1 (after.number, after.follows))),
  )

  -- what comes by the category of a code point is what can read it next
  comes_reads : (w candidates : List ℕ) (c p : ℕ) → AreCandidates w candidates → IsCodePoint c → ComesBy rows candidates (category_of ranges c) p →
      ReadBy rules (w ++ c ∷ []) p
  comes_reads w candidates c p are code comes =
      next_reads rules lawful.each w c p (
        (of.reads p c code).0 comes.0,
        ⊎_elim
            (λ candidate. inl ((are p).0 candidate))
            (λ chained.
            let first = (of.chained p).0 chained.0 in
            let last = (of.last chained.1.0).0 chained.1.3 in
            inr (record {
              number = first.0;
              chained = first.1;
              first = first.2;
              ends = record {
                number = last.0;
                q = chained.1.0;
                comes = (are chained.1.0).0 chained.1.1;
                reads =
                    (of.reads chained.1.0 c code).0 chained.1.2;
                last = last.1;
              };
            }))
            comes.1,
      )

  reads_comes : (w candidates : List ℕ) (c p : ℕ) → AreCandidates w candidates → IsCodePoint c → ReadBy rules (w ++ c ∷ []) p →
      ComesBy rows candidates (category_of ranges c) p
  reads_comes w candidates c p are code read =
      let next = reads_next rules lawful.each w c p read in (
        (of.reads p c code).1 next.0,
        ⊎_elim
            (λ comes. inl ((are p).1 comes))
            (λ chained.
            inr (
              (of.chained p).1 (chained.number, chained.chained, chained.first),
              (
                chained.ends.q,
                (are chained.ends.q).1 chained.ends.comes,
                (of.reads chained.ends.q c code).1 chained.ends.reads,
                (of.last chained.ends.q).1
                    (chained.ends.number, chained.ends.last),
              ),
            ))
            next.1,
      )

  -- a look-ahead rule's mark is in the set where the rule ends with the word
  pub mark_completed : (w set : List ℕ) → IsSetOf w set → (mark : ℕ) → HasMark set (Marked rows.completed) mark →
      (number : ℕ) × LookAheadEndsAt rules w 0 (length w) number × (look_ahead_number rules number ≡ mark)
  mark_completed w set is mark has =
      let last = (of.completed has.0 mark).0 has.2 in
      let ends = read_ends rules lawful.each w last.0 has.0 ((is.holds has.0).0 has.1) last.2 in
      (last.0, record { rule = last.1.rule; is_rule = last.1.is_rule; looks_ahead = last.1.looks_ahead; ends = ends }, last.3)

  pub completed_mark : (w set : List ℕ) → IsSetOf w set → (number : ℕ) → LookAheadEndsAt rules w 0 (length w) number →
      HasMark set (Marked rows.completed) (look_ahead_number rules number)
  completed_mark w set is number ends =
      let read = ends_read rules lawful.each w number ends.ends in
      let looks : LookAhead rules number = record { rule = ends.rule; is_rule = ends.is_rule; looks_ahead = ends.looks_ahead } in
      (read.0, (is.holds read.0).1 read.1, (of.completed read.0 (look_ahead_number rules number)).1 (number, looks, read.2, refl))

  -- a look-ahead rule is completed at the set where one ends with the word
  completes_ends : (w set : List ℕ) → IsSetOf w set → Completes rows set → (number : ℕ) × LookAheadEndsAt rules w 0 (length w) number
  completes_ends w set is (position, mark, holds, marked) = let ends = mark_completed w set is mark (position, holds, marked) in (ends.0, ends.1)

  ends_completes : (w set : List ℕ) (number : ℕ) → IsSetOf w set → LookAheadEndsAt rules w 0 (length w) number → Completes rows set
  ends_completes w set number is ends =
      let has = completed_mark w set is number ends in
      (has.0, look_ahead_number rules number, has.1, has.2)

  pub none_ends : (w : List ℕ) (number : ℕ) → ((p : ℕ) → ¬ ReadBy rules w p) → ¬ LookAheadEndsAt rules w 0 (length w) number
  none_ends w number none = λ ends.
      let read = ends_read rules lawful.each w number ends.ends in
      none read.0 read.1

  -- nothing ends before the word that is one code point long
  one_open : (c : ℕ) → ¬ EndedBefore rules (c ∷ [])
  one_open c = not_ended rules [] c (λ ended. omega (arith, ended.before)) (λ number ends. none_ends [] number (nothing_reads rules) ends)

  module _ (sets : List (List ℕ)) (automaton : Table) (is : IsDeterminized rows sets automaton) where
    -- a look-ahead rule ended before the word does, or no position can read its last code point
    pub data IsDead (w : List ℕ) : Type 0 where
      Ended : EndedBefore rules w → IsDead w
      Unread : ¬ EndedBefore rules w → ((p : ℕ) → ¬ ReadBy rules w p) → IsDead w

    -- the row is that of the word
    pub data IsRowOf (w : List ℕ) : ℕ → Type 0 where
      Stop : (row : ℕ) → row ≡ 0 → IsDead w → IsRowOf w row
      Set : (row i : ℕ) → row ≡ i + 2 → i < length sets → IsSetOf w (listed_row sets i) → IsRowOf w row

    cell_row : (w candidates : List ℕ) (c cell : ℕ) → AreCandidates w candidates → IsCodePoint c → ¬ EndedBefore rules (w ++ c ∷ []) →
        IsCell rows sets candidates (category_of ranges c) cell → IsRowOf (w ++ c ∷ []) cell
    cell_row w candidates c cell are code not_before =
        ⊎_elim
        (λ none. Stop cell none.0 (Unread not_before (λ p read. none.1 p (reads_comes w candidates c p are code read))))
        (λ some.
        Set cell (cell - 2) (omega (arith, some.0)) (omega (arith, some.0, some.1))
        (record {
          open_before = not_before;
          holds = λ p. (λ holds. comes_reads w candidates c p are code ((some.2 p).0 holds), λ read. (some.2 p).1 (reads_comes w candidates c p are code read));
        }))

    next_row : (w : List ℕ) (row c : ℕ) → w ≢ [] → IsCodePoint c → IsRowOf w row → IsRowOf (w ++ c ∷ []) (step automaton row (category_of ranges c))
    next_row w _ c some code (Stop row at dead) =
        let cell : step automaton row (category_of ranges c) ≡ 0 = ap (λ r. step automaton r (category_of ranges c)) at
        ∙ is.stop (category_of ranges c) (of.within c) in
        Stop _ cell (still dead)
      where
        reads_before : (p : ℕ) → ReadBy rules (w ++ c ∷ []) p → (q : ℕ) × ReadBy rules w q
        reads_before p read =
            let next = reads_next rules lawful.each w c p read in
            let from : (r : ℕ) → IsNext w r → (q : ℕ) × ReadBy rules w q = λ r. ⊎_elim (λ first. absurd (some first.none)) (λ after. (after.q, after.read)) in
            ⊎_elim (λ comes. from p comes) (λ chained. from chained.ends.q chained.ends.comes) next.1

        still : IsDead w → IsDead (w ++ c ∷ [])
        still (Ended ended) = Ended (ended_longer rules w c ended)
        still (Unread before none) =
            Unread (not_ended rules w c before (λ number. none_ends w number none)) (λ p read. let earlier = reads_before p read in none earlier.0 earlier.1)
    next_row w _ c some code (Set row i at short set) =
        let from : step automaton row (category_of ranges c) ≡ step automaton (i + 2) (category_of ranges c) =
        ap (λ r. step automaton r (category_of ranges c)) at in
        ⊎_elim
        (λ completes.
        let ends = completes_ends w (listed_row sets i) set completes.0 in
        Stop _ (from ∙ completes.1 (category_of ranges c) (of.within c)) (Ended (ended_now rules w c ends.0 ends.1)))
        (λ goes.
        let candidates : List ℕ = goes.1.0 in
        let not_before = not_ended rules w c set.open_before (λ number ends. goes.0 (ends_completes w (listed_row sets i) number set ends)) in
        subst (IsRowOf (w ++ c ∷ [])) (sym from)
        (cell_row w candidates c (step automaton (i + 2) (category_of ranges c)) (later_candidates w (listed_row sets i) candidates some set goes.1.1) code
        not_before (goes.1.2 (category_of ranges c) (of.within c))))
        (is.each i short)

    row_on : (u w : List ℕ) (row : ℕ) → u ≢ [] → IsWord w → IsRowOf u row → IsRowOf (u ++ w) (row_along automaton row (map (category_of ranges) w))
    row_on u [] row some word here = subst (λ l. IsRowOf l row) (sym (append-nil u)) here
    row_on u (c ∷ w) row some word here =
        subst (λ l. IsRowOf l (row_along automaton (step automaton row (category_of ranges c)) (map (category_of ranges) w))) (append_assoc u (c ∷ []) w)
        (row_on (u ++ c ∷ []) w (step automaton row (category_of ranges c)) (some_push u c) word.1 (next_row u row c some word.0 here))

    -- the row that the word leads to from row 1 is that of the word
    pub row_of_word : (w : List ℕ) → w ≢ [] → IsWord w → IsRowOf w (row_along automaton 1 (map (category_of ranges) w))
    row_of_word [] some word = absurd (some refl)
    row_of_word (c ∷ w) some word =
        row_on (c ∷ []) w (step automaton 1 (category_of ranges c)) (λ none. omega (arith, ap length none)) word.1
        (cell_row [] rows.first c (step automaton 1 (category_of ranges c)) first_candidates word.0 (one_open c)
        (is.start (category_of ranges c) (of.within c)))

  -- a set that is reached and holds a position is that of some word
  pub record HasWord (set : List ℕ) : Type 0 where
    pub w : List ℕ
    pub is_word : IsWord w
    pub some : w ≢ []
    pub set_of : IsSetOf w set

  read_used : (category p : ℕ) → category < rows.categories → Holds (listed_row rows.reads category) p → (c : ℕ) × IsCodePoint c ×
      (category_of ranges c ≡ category)
  read_used category p within reads =
      ⊎_elim
      (λ none. absurd (of.unread p (subst (λ k. Holds (listed_row rows.reads k) p) none reads)))
      (λ some. of.used category (omega (arith, some)) within)
      (cases_eq category 0)

  comes_from : (candidates : List ℕ) (category p : ℕ) → ComesBy rows candidates category p → (q : ℕ) × Holds candidates q
  comes_from candidates category p comes = ⊎_elim (λ here. (p, here)) (λ chained. (chained.1.0, chained.1.1)) comes.1

  set_of_step : (w candidates set : List ℕ) (c : ℕ) → AreCandidates w candidates → IsCodePoint c → IsStep rows candidates (category_of ranges c) set →
      ¬ EndedBefore rules (w ++ c ∷ []) → IsSetOf (w ++ c ∷ []) set
  set_of_step w candidates set c are code next not_before =
      record {
        open_before = not_before;
        holds = λ p. (λ holds. comes_reads w candidates c p are code ((next p).0 holds), λ read. (next p).1 (reads_comes w candidates c p are code read));
      }

  pub reached_word : (set : List ℕ) → IsReached rows set → IsSome set → HasWord set
  reached_word _ (FromFirst category set within next) some =
      let comes = (next some.0).0 some.1 in
      let used = read_used category some.0 within comes.0 in
      let c : ℕ = used.0 in
      record {
        w = c ∷ [];
        is_word = (used.1, tt);
        some = λ none. omega (arith, ap length none);
        set_of = set_of_step [] rows.first set c first_candidates used.1 (subst (λ k. IsStep rows rows.first k set) (sym used.2) next) (one_open c);
      }
  reached_word _ (FromSet earlier candidates category set reached unfinished followers within next) some =
      let comes = (next some.0).0 some.1 in
      let used = read_used category some.0 within comes.0 in
      let c : ℕ = used.0 in
      let candidate = comes_from candidates category some.0 comes in
      let follows = (followers candidate.0).0 candidate.1 in
      let before = reached_word earlier reached (follows.0, follows.1) in
      record {
        w = before.w ++ c ∷ [];
        is_word = all_append IsCodePoint before.w (c ∷ []) before.is_word (used.1, tt);
        some = some_push before.w c;
        set_of = set_of_step before.w candidates set c (later_candidates before.w earlier candidates before.some before.set_of followers) used.1
            (subst (λ k. IsStep rows candidates k set) (sym used.2) next)
            (not_ended rules before.w c before.set_of.open_before (λ number ends. unfinished (ends_completes before.w earlier number before.set_of ends)));
      }
