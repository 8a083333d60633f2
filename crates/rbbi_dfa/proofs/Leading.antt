-- Each set leads to marks, and fronts end before look-ahead rules are completed.
use Rattle.std.proofs.Common.{◌≡◌, ◌≢◌, ℕ, zero, suc, ◌+◌, ◌-◌, ◌<◌, ◌≤◌, ◌⊎◌, true, List, [], ◌∷◌, ◌++◌, Option, Some, None, length, map, take, drop, sym}
use Rattle.std.proofs.Common.{refl, ap, ◌∙◌, subst, inl, inr, ⊎_elim, append_assoc, arith}
use Rattle.std.specs.Prelude.{slice_get, slice_range, IsTrue, is_some, IfSome, MatchOption}
use Rattle.std.specs.List.{AllByRecursion}
use Rattle.std.proofs.lemmas.Bool.{cases_eq, cases_lt, false≢true}
use Rattle.std.proofs.lemmas.List.{nil_from_length, take-map, length-map, length-take, length-append, take_at, take-take}
use Rattle.rbbi_model.specs.Words.{IsWord, IsCodePoint}
use Rattle.rbbi_model.specs.Ranges.{Range, Has}
use Rattle.rbbi_model.specs.Places.{has_bit}
use Rattle.rbbi_model.specs.Spelling.{Tree, Leaf, Spells}
use Rattle.rbbi_model.specs.Rules.{Rule, LooksAhead, SpellsBoth, IsWordOf, IsFrontWordOf, IsLawfulTree, IsLawfulRule, AreLawful}
use Rattle.rbbi_model.specs.Chains.{IsRule, IsPiece, EndsAt, Word, Chained, FrontEndsAt}
use Rattle.rbbi_model.specs.Boundaries.{LookAheadEndsAt}
use Rattle.rbbi_model.specs.Tables.{Table, CategoryRange, category_of, accept_of, fronts_of, step, row_along}
use Rattle.rbbi_model.specs.ValidTables.{IsWay, AreFronted}
use Rattle.rbbi_model.specs.Marks.{Marks, no_marks, look_ahead_number, marks_of}
use Rattle.rbbi_model.specs.LeafSets.{EndedBefore, Reads, all_sets, sets_of_rule, first_position}
use Rattle.rbbi_positions.proofs.WalkLaws.{of_the_rule}
use Rattle.rbbi_dfa.proofs.Spellings.{rule_stands, rule_sets_many}
use Rattle.rbbi_model.proofs.RulesCover.{front_lies}
use Rattle.rbbi_model.proofs.Local.{front_to_end, look_ahead_from, length_piece}
use Rattle.rbbi_positions.specs.FollowPositions.{IsSpelled}
use Rattle.rbbi_bits.specs.BitRows.{Holds}
use Rattle.rbbi_bits.specs.NumberedRows.{listed_row}
use Rattle.rbbi_dfa.specs.inner.Automata.{LeadsToMarks}
use Rattle.rbbi_dfa.specs.inner.PositionRows.{PositionRows}
use Rattle.rbbi_dfa.specs.inner.PositionAutomata.{IsOfRules}
use Rattle.rbbi_dfa.specs.inner.Determinizing.{ComesBy, IsDeterminized}
use Rattle.rbbi_dfa.proofs.Grouping.{stop_along}
use Rattle.rbbi_dfa.proofs.Reading.{ReadBy, front_read}
use Rattle.rbbi_dfa.proofs.WalkReading.{reads_up_to, same_rule, lawful_rule}
use Rattle.rbbi_dfa.proofs.Words.{IsSetOf, mark_completed, Ended, Unread, IsRowOf, Stop, Set, row_of_word}
use Rattle.rbbi_dfa.proofs.WordMarks.{front_mark}
use Rattle.rbbi_dfa.proofs.Determined.{set_word, each_row}
use Rattle.rbbi_dfa.proofs.LawfulLeaves.{each_rule_leaf}

all_get : {X : Type 0} (P : X → Type 0) (xs : List X) (i : ℕ) → AllByRecursion P xs → i < length xs → (x : X) × (slice_get xs i ≡ Some x) × P x
all_get P [] i all short = absurd (omega (arith, short))
all_get P (x ∷ xs) zero all short = (x, refl, all.0)
all_get P (x ∷ xs) (suc i) all short = all_get P xs i all.1 (omega (arith, short))

-- the set holds a code point
abbrev pub HoldsSome : List Range → Type 0
HoldsSome set = (c : ℕ) × Has set c × IsCodePoint c

leaf_holds : (set : List Range) → IsLawfulTree (Leaf set) → HoldsSome set
leaf_holds set lawful = (lawful.0.0, lawful.0.1, (lawful.1 lawful.0.0 lawful.0.1).0)

module _ (rules : List Rule) (lawful : AreLawful rules) where
  -- a position of a spelled list reads some code point
  reads_some : (number p : ℕ) (before after : List ℕ) → IsSpelled rules number (before ++ p ∷ after) → (c : ℕ) × IsCodePoint c × Reads rules p c
  reads_some number p before after spelled =
      let own = of_the_rule rules number p before after spelled in
      let i : ℕ = p - first_position rules number in
      let at : first_position rules number + i ≡ p = omega (arith, own.from) in
      let many = rule_sets_many own.rule in
      let short : i < length (sets_of_rule own.rule) = omega (arith, own.from, own.to, many) in
      let leaves = each_rule_leaf HoldsSome leaf_holds own.rule (lawful_rule rules number own.rule lawful.each own.is_rule) in
      let found = all_get HoldsSome (sets_of_rule own.rule) i leaves short in (
        found.2.0,
        found.2.2,
        (
          found.0,
          ap (λ n. slice_get (all_sets rules) n) (sym at) ∙ rule_stands rules number own.rule own.is_rule i short
              ∙ found.1,
          found.2.1,
        ),
      )

  -- a piece in two parts
  cut_in : (u v x : List ℕ) (s e : ℕ) → s ≤ e → e ≤ length x → slice_range x s e ≡ u ++ v → v ≢ [] → (s + length u < e) × (slice_range x s (s + length u) ≡ u)
  cut_in u v x s e starts ends same some =
      let long = length_piece x s e ends in
      let both = length-append u v in
      let more : 0 < length v = ⊎_elim (λ none. absurd (some (nil_from_length v none))) (λ other. omega (arith, other)) (cases_eq (length v) 0) in
      let short : length u ≤ e - s = omega (arith, long, both, ap length same) in
      let width : s + length u - s ≡ length u = omega arith in (
        omega (arith, long, both, ap length same, more, starts),
        ap (λ n. take n (drop s x)) width ∙ sym (take-take (length u) (e - s) (drop s x) short) ∙ ap (λ l. take (length u) l) same
            ∙ take_at u v (length u) refl,
      )

  cut_with : (x : List ℕ) (s e : ℕ) (rule : Rule) (rest : Option Tree) → rule.rest ≡ rest → LooksAhead rule → IsLawfulRule rule →
      IsPiece x s e (IsWordOf rule) → (q : ℕ) × (q < e) × IsPiece x s q (IsFrontWordOf rule)
  cut_with x s e rule None same looks is_lawful piece = absurd (false≢true (sym (ap is_some same) ∙ looks))
  cut_with x s e rule (Some rest) same looks is_lawful piece =
      let both : SpellsBoth rule.front rest (slice_range x s e) =
      subst (λ o. MatchOption o (Spells rule.front (slice_range x s e)) (λ rest. SpellsBoth rule.front rest (slice_range x s e))) same piece.word.1 in
      let no_rest : ¬ Spells rest [] = subst (λ o. IfSome o (λ rest. ¬ Spells rest [])) same is_lawful.rest_not_empty in
      let cut = cut_in both.0 both.1 x s e piece.starts piece.ends both.4 (λ none. no_rest (subst (Spells rest) none both.3)) in
      let some : both.0 ≢ [] = λ none. is_lawful.front_not_empty looks (subst (Spells rule.front) none both.2) in
      let word : IsFrontWordOf rule (slice_range x s (s + length both.0)) =
      (looks, (λ none. some (sym cut.1 ∙ none)), subst (Spells rule.front) (sym cut.1) both.2) in
      (s + length both.0, cut.0, record { starts = omega arith; ends = omega (arith, cut.0, piece.ends); word = word })

  -- the front of a look-ahead rule ends before the rule does
  front_before : (w : List ℕ) (e number : ℕ) (rule : Rule) → IsRule rules number rule → LooksAhead rule → EndsAt rules w 0 e number → (q : ℕ) ×
      (q < e) × FrontEndsAt rules w 0 q number
  front_before w _ _ rule is_rule looks (Word e number rule' is_rule' piece) =
      let same = same_rule rules number rule' rule is_rule' is_rule in
      let cut = cut_with w 0 e rule rule.rest refl looks (lawful_rule rules number rule lawful.each is_rule)
      (subst (λ r. IsPiece w 0 e (IsWordOf r)) same piece) in
      (cut.0, cut.1, record { rule = rule; is_rule = is_rule; front = inl cut.2 })
  front_before w _ _ rule is_rule looks (Chained m before e number rule' ends is_rule' chained_into piece) =
      let same = same_rule rules number rule' rule is_rule' is_rule in
      let cut = cut_with w (m - 1) e rule rule.rest refl looks (lawful_rule rules number rule lawful.each is_rule)
      (subst (λ r. IsPiece w (m - 1) e (IsWordOf r)) same piece) in (
        cut.0,
        cut.1,
        record {
          rule = rule;
          is_rule = is_rule;
          front =
              inr (record { m = m; before = before; ends = ends; chained_into = subst (λ (r : Rule). r.chained_into ≡ true) same chained_into; piece = cut.2 });
        },
      )

  module _ (ranges : List CategoryRange) (rows : PositionRows) (of : IsOfRules rules ranges rows) (sets : List (List ℕ)) (automaton : Table)
      (is : IsDeterminized rows sets automaton) where
    -- where something is accepted there are marks
    marked : (row : ℕ) → 1 ≤ accept_of automaton row → marks_of automaton row ≢ no_marks
    marked row some = λ same. omega (arith, some, ap (λ (m : Marks). m.accept) same)

    lead_from : (after before : List ℕ) (number p i : ℕ) → IsSpelled rules number (before ++ p ∷ after) → i < length sets → Holds (listed_row sets i) p →
        LeadsToMarks automaton (i + 2)
    lead_from [] before number p i spelled short holds =
        ([], tt, marked (i + 2) ((is.marks i short).accept.ended p holds ((of.last p).1 (number, (before, spelled)))))
    lead_from (q ∷ after) before number p i spelled short holds =
        ⊎_elim
        (λ stops.
        let low = (is.marks i short).accept.completed stops.0.1 (stops.0.0, stops.0.2, stops.0.3) in
        ([], tt, marked (i + 2) (omega (arith, low.0))))
        (λ goes.
        let longer : IsSpelled rules number ((before ++ p ∷ []) ++ q ∷ after) =
        subst (λ l. IsSpelled rules number l) (sym (append_assoc before (p ∷ []) (q ∷ after))) spelled in
        let some = reads_some number q (before ++ p ∷ []) after longer in
        let category : ℕ = category_of ranges some.0 in
        let within = of.within some.0 in
        let follows = (of.follow p q).1 (number, (before, after, spelled)) in
        let candidate = (goes.1.1 q).1 (p, holds, follows) in
        let comes : ComesBy rows goes.1.0 category q = ((of.reads q some.0 some.1).1 some.2, inl candidate) in
        let cell : ℕ = step automaton (i + 2) category in
        ⊎_elim
        (λ none. absurd (none.1 q comes))
        (λ there.
        let j : ℕ = cell - 2 in
        let at : j + 2 ≡ cell = omega (arith, there.0) in
        let on = lead_from after (before ++ p ∷ []) number q j longer (omega (arith, there.0, there.1)) ((there.2 q).1 comes) in
        (category ∷ on.0, (omega (arith, within, is.categories), on.1), subst (λ r. marks_of automaton (row_along automaton r on.0) ≢ no_marks) at on.2))
        (goes.1.2 category within))
        (is.each i short)

    read_spelled : (w : List ℕ) (p : ℕ) → ReadBy rules w p → (number : ℕ) × (before : List ℕ) × (after : List ℕ) × IsSpelled rules number (before ++ p ∷ after)
    read_spelled w p =
        ⊎_elim
        (λ begun. let up = reads_up_to rules begun.number p begun.rule w begun.is_rule begun.reads in (begun.number, up.before, up.after, up.spelled))
        (λ chained. let up = reads_up_to rules chained.number p chained.rule (slice_range w (chained.m - 1) (length w)) chained.is_rule chained.reads in
        (chained.number, up.before, up.after, up.spelled))

    pub each_leads : (row : ℕ) → 2 ≤ row → row < length automaton.rows → LeadsToMarks automaton row
    each_leads row low short =
        let i : ℕ = row - 2 in
        let at : i + 2 ≡ row = omega (arith, low) in
        let short' : i < length sets = omega (arith, short, is.many, at) in
        let word = set_word rules lawful ranges rows of sets automaton is i short' in
        let held = is.reached.some i short' in
        let spelled = read_spelled word.w held.0 ((word.set_of.holds held.0).0 held.1) in
        subst (LeadsToMarks automaton) at (lead_from spelled.2 spelled.1 spelled.0 held.0 i spelled.3 short' held.1)

    -- a way by categories that are read is that of a word, and any other leads to row 0
    word_of_way : (way : List ℕ) → IsWay automaton way → ((w : List ℕ) × IsWord w × (map (category_of ranges) w ≡ way)) ⊎
        ((row : ℕ) → row < length automaton.rows → row_along automaton row way ≡ 0)
    word_of_way [] is_way = inl ([], tt, refl)
    word_of_way (category ∷ way) is_way =
        let within : category < rows.categories = omega (arith, is_way.0, is.categories) in
        ⊎_elim
        (λ unread.
        inr (λ row short. ap (λ k. row_along automaton (step automaton row k) way) unread
        ∙ ap (λ r. row_along automaton r way) (each_row rules lawful ranges rows of sets automaton is row short).unread
        ∙ stop_along automaton (λ k within. is.stop k (omega (arith, within, is.categories))) way is_way.1))
        (λ read.
        let used = of.used category (omega (arith, read)) within in
        ⊎_elim
        (λ word. inl (used.0 ∷ word.0, (used.1, word.1), ap (λ k. k ∷ map (category_of ranges) word.0) used.2 ∙ ap (λ l. category ∷ l) word.2))
        (λ stops. inr (λ row short. stops (step automaton row category)
        ((each_row rules lawful ranges rows of sets automaton is row short).next category is_way.0)))
        (word_of_way way is_way.1))
        (cases_eq category 0)

    word_part : (w : List ℕ) (q : ℕ) → IsWord w → IsWord (take q w)
    word_part w zero word = tt
    word_part [] (suc q) word = tt
    word_part (c ∷ w) (suc q) word = (word.0, word_part w q word.1)

    -- what ends in a part of the word ended before the word does
    part_ended : (w : List ℕ) (q e number : ℕ) → q < length w → e ≤ q → LookAheadEndsAt rules (take q w) 0 e number → EndedBefore rules w
    part_ended w q e number short within ends =
        let piece : slice_range w 0 q ≡ take q w = ap (λ n. take n w) (let same : q - 0 ≡ q = omega arith in same) in
        let here = look_ahead_from rules w 0 q (omega arith) (omega (arith, short)) e number
        (subst (λ l. LookAheadEndsAt rules l 0 e number) (sym piece) ends) in
        record {
          e = e;
          number = number;
          before = omega (arith, short, within);
          ends =
              subst (λ n. LookAheadEndsAt rules w 0 n number) (let same : 0 + e ≡ e = omega arith in same) here;
        }

    front_row : (w : List ℕ) (i k : ℕ) → IsWord w → i < length sets → IsSetOf rules lawful ranges rows of w (listed_row sets i) →
        accept_of automaton (i + 2) ≡ k + 2 →
        (earlier : ℕ) × (earlier < length w) × IsTrue (has_bit (fronts_of automaton (row_along automaton 1 (map (category_of ranges) (take earlier w)))) k)
    front_row w i k word short set accept =
        let has = (is.marks i short).accept.is_completed (omega (arith, accept)) in
        let same : accept_of automaton (i + 2) - 2 ≡ k = omega (arith, accept) in
        let ended = mark_completed rules lawful ranges rows of w (listed_row sets i) set (accept_of automaton (i + 2) - 2) has in
        let front = front_before w (length w) ended.0 ended.1.rule ended.1.is_rule ended.1.looks_ahead ended.1.ends in
        let q : ℕ = front.0 in
        let lies = front_lies rules w 0 q ended.0 front.2 in
        let v : List ℕ = take q w in
        let piece : slice_range w 0 q ≡ v = ap (λ n. take n w) (let e : q - 0 ≡ q = omega arith in e) in
        let long : length v ≡ q = omega (arith, length-take q w, front.1) in
        let some : v ≢ [] = λ none. omega (arith, long, ap length none, lies.0) in
        let front_here = subst (λ l. FrontEndsAt rules l 0 (length l) ended.0) piece
        (front_to_end rules w 0 q (omega arith) (omega (arith, front.1)) ended.0 front.2) in (
          q,
          front.1,
          at_row v (row_along automaton 1 (map (category_of ranges) v)) (ended.2 ∙ same) front_here
              (λ e number within ends. set.open_before (part_ended w q e number front.1 (omega (arith, within, long)) ends))
              (row_of_word rules lawful ranges rows of sets automaton is v some (word_part w q word)),
        )
      where
        at_row : (v : List ℕ) (row : ℕ) {number : ℕ} → look_ahead_number rules number ≡ k → FrontEndsAt rules v 0 (length v) number →
            ((e n : ℕ) → e ≤ length v → LookAheadEndsAt rules v 0 e n → ⊥) → IsRowOf rules lawful ranges rows of sets automaton is v row →
            IsTrue (has_bit (fronts_of automaton row) k)
        at_row v _ {number} numbered front quiet (Stop row at (Ended ended)) = absurd (quiet ended.e ended.number (omega (arith, ended.before)) ended.ends)
        at_row v _ {number} numbered front quiet (Stop row at (Unread before none)) =
            let read = front_read rules lawful.each v number front in
            absurd (none read.0 read.1)
        at_row v _ {number} numbered front quiet (Set row j at short' set') =
            let small : accept_of automaton (j + 2) < 2 =
            ⊎_elim (λ less. less)
            (λ many.
            let has' = (is.marks j short').accept.is_completed many in
            let ended' = mark_completed rules lawful ranges rows of v (listed_row sets j) set' (accept_of automaton (j + 2) - 2) has' in
            absurd (quiet (length v) ended'.0 (omega arith) ended'.1))
            (cases_lt (accept_of automaton (j + 2)) 2) in
            let mark = front_mark rules lawful ranges rows of v (listed_row sets j) set' k (record { number = number; numbered = numbered; front = front }) in
            subst (λ r. IsTrue (has_bit (fronts_of automaton r) k)) (sym at) (((is.marks j short').fronts small k).1 mark)

    pub are_fronted : AreFronted automaton
    are_fronted way k is_way accept =
        ⊎_elim
        (λ word.
        let w : List ℕ = word.0 in
        let along : row_along automaton 1 (map (category_of ranges) w) ≡ row_along automaton 1 way = ap (λ l. row_along automaton 1 l) word.2 in
        let some : w ≢ [] = λ none.
        let at_start : row_along automaton 1 way ≡ 1 = ap (λ l. row_along automaton 1 l) (sym word.2 ∙ ap (λ l. map (category_of ranges) l) none) in
        omega (arith, accept, ap (λ r. accept_of automaton r) at_start, ap (λ (m : Marks). m.accept) is.plain_start) in
        let found = at_end w (row_along automaton 1 (map (category_of ranges) w)) word.1 (ap (λ r. accept_of automaton r) along ∙ accept)
        (row_of_word rules lawful ranges rows of sets automaton is w some word.1) in
        let long : length way ≡ length w = sym (ap length word.2) ∙ length-map w (category_of ranges) in (
          found.0,
          omega (arith, found.1, long),
          subst (λ l. IsTrue (has_bit (fronts_of automaton (row_along automaton 1 l)) k)) (sym (take-map (category_of ranges) found.0 w)
              ∙ ap (λ l. take found.0 l) word.2) found.2,
        ))
        (λ stops.
        let at_stop = stops 1 (omega (arith, is.many)) in
        absurd (omega (arith, accept, ap (λ r. accept_of automaton r) at_stop, ap (λ (m : Marks). m.accept) is.plain_stop)))
        (word_of_way way is_way)
      where
        at_end : (w : List ℕ) (row : ℕ) → IsWord w → accept_of automaton row ≡ k + 2 → IsRowOf rules lawful ranges rows of sets automaton is w row →
            (earlier : ℕ) × (earlier < length w) × IsTrue (has_bit (fronts_of automaton (row_along automaton 1 (map (category_of ranges) (take earlier w)))) k)
        at_end w _ word accept' (Stop row at dead) =
            absurd (omega (arith, accept', ap (λ r. accept_of automaton r) at, ap (λ (m : Marks). m.accept) is.plain_stop))
        at_end w _ word accept' (Set row i at short set) = front_row w i k word short set (sym (ap (λ r. accept_of automaton r) at) ∙ accept')
