-- No rule reads a surrogate, so a compiled table leads to row 0 after one, and has a canonical table.
use Rattle.std.proofs.Common.{◌≡◌, ◌≢◌, ◌⊎◌, ℕ, ◌+◌, ◌-◌, ◌<◌, ◌≤◌, Option, Some, None, List, [], ◌∷◌, ◌++◌, length, map, take, drop, get_or}
use Rattle.std.proofs.Common.{refl, ap, sym, ◌∙◌, subst, inl, inr, ⊎_elim, arith}
use Rattle.std.specs.Prelude.{slice_range, IfSome, MatchOption}
use Rattle.std.specs.List.{AllByRecursion}
use Rattle.std.proofs.lemmas.Bool.{cases_lt, cases_eq, false≢true}
use Rattle.std.proofs.lemmas.List.{get_or-take, get_or-drop, length-append, length-take, length-drop}
use Rattle.rbbi_model.specs.Words.{IsWord, IsCodePoint, IsCharacter, IsText, IsSurrogate}
use Rattle.rbbi_model.specs.Spelling.{Tree, Leaf, Empty, Never, Then, Either, Repeat, joined, Spells}
use Rattle.rbbi_model.specs.Rules.{Rule, IsLawfulTree, IsLawfulRule, IsWordOf, AreLawful}
use Rattle.rbbi_model.specs.Chains.{EndsAt, Word, Chained, FrontEndsAt}
use Rattle.rbbi_model.specs.Tables.{Table, category_of, step, row_along, row_after}
use Rattle.rbbi_model.specs.Marks.{Marks, no_marks, AreMarks, AreMarksAtEnd, marks_of}
use Rattle.rbbi_model.specs.Compiled.{IsCompiled}
use Rattle.rbbi_model.specs.Canonical.{HasCanonical}
use Rattle.rbbi_model.proofs.Lists.{all_append, all_at}
use Rattle.rbbi_bits.proofs.WordBits.{no_bit}
use Rattle.rbbi_positions.proofs.Codes.{all_get}
use Rattle.rbbi_dfa.specs.NeededRows.{HasRows}
use Rattle.rbbi_dfa.specs.HaveCanonical.{CompiledTablesHaveCanonical}
use Rattle.rbbi_dfa.proofs.Grouping.{alive}
use Rattle.rbbi_dfa.proofs.WordRows.{row_of-append}
use Rattle.rbbi_dfa.proofs.NeededRows.{rows_of_words, used, word_of, word_to, leads_on, valid_tables_have_rows, unread}

-- a lawful tree spells texts alone
joined_text : (part : Tree) (pieces : List (List ℕ)) → ((w : List ℕ) → Spells part w → IsText w) → AllByRecursion (Spells part) pieces → IsText (joined pieces)
joined_text part [] text each = tt
joined_text part (piece ∷ pieces) text each = all_append IsCharacter piece (joined pieces) (text piece each.0) (joined_text part pieces text each.1)

spelled_text : (tree : Tree) (w : List ℕ) → IsLawfulTree tree → Spells tree w → IsText w
spelled_text (Leaf set) w lawful (c, has, is) = subst IsText (sym is) (lawful.1 c has, tt)
spelled_text Empty w lawful is = absurd lawful
spelled_text Never w lawful is = absurd lawful
spelled_text (Then first rest) w lawful (u, v, of_first, of_rest, is) =
    subst IsText (sym is) (all_append IsCharacter u v (spelled_text first u lawful.0 of_first) (spelled_text rest v lawful.1 of_rest))
spelled_text (Either first rest) w lawful is =
    ⊎_elim (λ of_first. spelled_text first w lawful.0 of_first) (λ of_rest. spelled_text rest w lawful.1 of_rest) is
spelled_text (Repeat repetition part) w lawful (pieces, allows, each, is) =
    subst IsText (sym is) (joined_text part pieces (λ u spelled. spelled_text part u lawful spelled) each)

-- so a word of a lawful rule is a text, and a word of its front
word_text : (rule : Rule) (w : List ℕ) → IsLawfulRule rule → IsWordOf rule w → IsText w
word_text rule w lawful is = by_rest rule.rest lawful.rest is.1
  where
    by_rest : (rest : Option Tree) → IfSome rest IsLawfulTree →
        MatchOption rest (Spells rule.front w) (λ tree. (u : List ℕ) × (v : List ℕ) × Spells rule.front u × Spells tree v × (w ≡ u ++ v)) → IsText w
    by_rest None of_rest spelled = spelled_text rule.front w lawful.front spelled
    by_rest (Some tree) of_rest (u, v, of_front, of_tree, same) =
        subst IsText (sym same) (all_append IsCharacter u v (spelled_text rule.front u lawful.front of_front) (spelled_text tree v of_rest of_tree))

-- a place of a piece that is a text has a character
in_piece : (x : List ℕ) (s e q : ℕ) → IsText (slice_range x s e) → s ≤ q → q < e → e ≤ length x → IsCharacter (get_or x q 0)
in_piece x s e q text low high short =
    let at : get_or (slice_range x s e) (q - s) 0 ≡ get_or x q 0 =
    get_or-take (e - s) (drop s x) (q - s) 0 (omega arith) ∙ get_or-drop s x (q - s) 0
    ∙ ap (λ n. get_or x n 0) (let same : s + (q - s) ≡ q = omega arith in same) in
    let long : length (slice_range x s e) ≡ e - s = omega (arith, length-take (e - s) (drop s x), length-drop s x) in
    subst IsCharacter at (all_at IsCharacter (slice_range x s e) (q - s) 0 (omega arith) text)

module _ (rules : List Rule) (lawful : AreLawful rules) (x : List ℕ) where
  -- what lies before the end of a rule or of a front are characters
  ends_text : (e number : ℕ) → EndsAt rules x 0 e number → (q : ℕ) → q < e → IsCharacter (get_or x q 0)
  ends_text _ _ (Word e number rule is_rule piece) q low =
      in_piece x 0 e q (word_text rule (slice_range x 0 e) (all_get IsLawfulRule rules number rule is_rule lawful.each) piece.word) (omega arith) low piece.ends
  ends_text _ _ (Chained m before e number rule ends is_rule chained_into piece) q low =
      ⊎_elim
      (λ early. ends_text m before ends q early)
      (λ late.
      in_piece x (m - 1) e q (word_text rule (slice_range x (m - 1) e) (all_get IsLawfulRule rules number rule is_rule lawful.each) piece.word)
      (omega (arith, late)) low piece.ends)
      (cases_lt q m)

  front_text : (e number : ℕ) → FrontEndsAt rules x 0 e number → (q : ℕ) → q < e → IsCharacter (get_or x q 0)
  front_text e number ends q low =
      let rule : Rule = ends.rule in
      let own = all_get IsLawfulRule rules number rule ends.is_rule lawful.each in
      ⊎_elim
      (λ piece. in_piece x 0 e q (spelled_text rule.front (slice_range x 0 e) own.front piece.word.2) (omega arith) low piece.ends)
      (λ chained.
      ⊎_elim
      (λ early. ends_text chained.m chained.before chained.ends q early)
      (λ late.
      in_piece x (chained.m - 1) e q (spelled_text rule.front (slice_range x (chained.m - 1) e) own.front chained.piece.word.2) (omega (arith, late)) low
      chained.piece.ends)
      (cases_lt q chained.m))
      ends.front

  -- nothing ends after a surrogate
  module _ (q : ℕ) (low : q < length x) (surrogate : IsSurrogate (get_or x q 0)) where
    no_end : (number : ℕ) → EndsAt rules x 0 (length x) number → ⊥
    no_end number ends = (ends_text (length x) number ends q low).1 surrogate

    none_at_end : AreMarksAtEnd rules x no_marks
    none_at_end = record {
      accept = inr (inr (record { no_end = no_end; is_zero = refl }));
      fronts = λ small k. (
        λ bit. absurd (false≢true (sym (no_bit k) ∙ bit)),
        λ front. absurd ((front_text (length x) front.number front.front q low).1 surrogate),
      );
      no_fronts = λ many. absurd (omega (arith, many));
      statuses = record {
        rising = tt;
        exactly = λ tag. (
          λ member. ⊎_elim (λ same. inr (sym same, λ other at. no_end at.number at.ends)) (λ out. absurd out) member,
          λ tagged. ⊎_elim (λ at. absurd (no_end at.number at.ends)) (λ zero'. inl (sym zero'.0)) tagged,
        );
      };
    }

    none_marked : ((w : List ℕ) (these those : Marks) → AreMarks rules w these → AreMarks rules w those → these ≡ those) → (marks : Marks) →
        AreMarks rules x marks → marks ≡ no_marks
    none_marked unique marks are =
        ⊎_elim (λ before. before.1) (λ at. unique x marks no_marks are (inr (at.0, none_at_end))) are

module _ (table : Table) (rules : List Rule) (lawful : AreLawful rules) (is : IsCompiled table rules)
    (unique : (w : List ℕ) (these those : Marks) → AreMarks rules w these → AreMarks rules w those → these ≡ those) where
  has_rows : HasRows table
  has_rows = valid_tables_have_rows table is.valid

  -- where there are more than two rows, each leads to row 0 after a surrogate
  leads_to_stop : 3 ≤ length table.rows → (row : ℕ) → row < length table.rows → step table row 0 ≡ 0
  leads_to_stop many row short =
      ⊎_elim
      (λ stop. ap (λ r. step table r 0) stop ∙ is.valid.rows.stop_leads 0 (omega (arith, is.valid.ranges.some_categories)))
      (λ some. ⊎_elim (λ zero'. zero') (λ other. absurd (marked some other)) (cases_eq (step table row 0) 0))
      (cases_eq row 0)
    where
      marked : row ≢ 0 → step table row 0 ≢ 0 → ⊥
      marked some other =
          let surrogate : ℕ = 0xD800 in
          let next : ℕ = step table row 0 in
          let next_low = (is.valid.rows.each row short).next 0 (omega (arith, is.valid.ranges.some_categories)) in
          let on = alive table is.least.reached (leads_on table rules has_rows is.same lawful is.least is.classes) many next other next_low in
          let rest = word_of table rules has_rows is.same lawful is.least is.classes on.0 on.1 in
          let to = word_to table rules has_rows is.same lawful is.least is.classes row some short in
          let u : List ℕ = to.0 in
          let z : List ℕ = rest.0 in
          let w : List ℕ = u ++ surrogate ∷ z in
          let category : category_of table.ranges surrogate ≡ 0 = (is.classes.none surrogate (omega arith)).1
          (unread rules lawful surrogate (omega arith, omega arith)) in
          let row_is : row_after table w ≡ row_along table next on.0 =
          row_of-append rules table table.ranges (rows_of_words table rules has_rows is.same) u (surrogate ∷ z)
          ∙ ap (λ r. row_along table (step table r (category_of table.ranges surrogate)) (map (category_of table.ranges) z)) to.1.1
          ∙ ap (λ k. row_along table (step table row k) (map (category_of table.ranges) z)) category
          ∙ ap (λ l. row_along table next l) rest.1.1 in
          let at : get_or w (length u) 0 ≡ surrogate = behind u surrogate z in
          let low : length u < length w = omega (arith, length-append u (surrogate ∷ z)) in
          let word : IsWord w = all_append IsCodePoint u (surrogate ∷ z) to.1.0 (omega arith, rest.1.0) in
          on.2 (ap (λ r. marks_of table r) (sym row_is)
          ∙ none_marked rules lawful w (length u) low (subst IsSurrogate (sym at) (omega arith, omega arith)) unique (marks_of table (row_after table w))
          (is.same.each w word (not_empty u surrogate z)))
        where
          behind : (u : List ℕ) (s : ℕ) (z : List ℕ) → get_or (u ++ s ∷ z) (length u) 0 ≡ s
          behind [] s z = refl
          behind (c ∷ u) s z = behind u s z

          not_empty : (u : List ℕ) (s : ℕ) (z : List ℕ) → (u ++ s ∷ z) ≢ []
          not_empty [] s z e = cc
          not_empty (c ∷ u) s z e = cc

  has_canonical : HasCanonical table
  has_canonical = record {
    least = is.least;
    used = λ category low. let c = used table rules has_rows is.same lawful is.least is.classes category low in (c.0, c.1.0, c.1.1);
    surrogates = λ c surrogate. (is.classes.none c (omega (arith, surrogate.1))).1 (unread rules lawful c surrogate);
    stops = ⊎_elim (λ few. inr (omega (arith, few, is.valid.rows.some))) (λ many. inl (leads_to_stop many)) (cases_lt (length table.rows) 3);
  }

pub have_canonical : ((rules : List Rule) (w : List ℕ) (these those : Marks) → AreMarks rules w these → AreMarks rules w those → these ≡ those) →
    CompiledTablesHaveCanonical
have_canonical unique table rules lawful is = has_canonical table rules lawful is (unique rules)
