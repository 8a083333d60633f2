-- The rows that are taken from the marks of positions are those of the rules.
use Rattle.std.proofs.Common.{◌≡◌, ℕ, ◌<◌, ◌≤◌, ◌↔◌, Bool, true, false, if◌then◌else◌, Option, Some, None, List, [], ◌∷◌, ◌++◌}
use Rattle.std.proofs.Common.{length, get_or, sym, refl, ap, ◌∙◌, subst, ⊎_elim, arith}
use Rattle.std.specs.Prelude.{slice_get, IsSome, unwrap_or}
use Rattle.std.specs.Option.{option_map}
use Rattle.std.proofs.lemmas.Bool.{cases_lt, false≢true, and_parts, and_from}
use Rattle.std.proofs.lemmas.List.{get_or_past}
use Rattle.std.proofs.lemmas.Option.{slice_get_within, slice_get-get_or, get_or_from_slice_get}
use Rattle.rbbi_model.specs.Words.{IsCodePoint}
use Rattle.rbbi_model.specs.Ranges.{Has}
use Rattle.rbbi_model.specs.Spelling.{Tree}
use Rattle.rbbi_model.specs.Rules.{Rule, LooksAhead, look_aheads, AreLawful}
use Rattle.rbbi_model.specs.Tables.{CategoryRange, category_of}
use Rattle.rbbi_model.specs.ValidTables.{AreValidRanges}
use Rattle.rbbi_model.specs.Compiled.{AreClasses}
use Rattle.rbbi_model.specs.Marks.{look_ahead_number}
use Rattle.rbbi_model.specs.LeafSets.{Reads, all_sets, first_position}
use Rattle.rbbi_model.proofs.Categories.{category_within}
use Rattle.rbbi_positions.specs.FollowPositions.{IsFrontSpelled, IsOfRule}
use Rattle.rbbi_positions.specs.PositionMarks.{PositionMarks, followers_in, readers_in, slash_number, IsMarkedAs, ArePositions}
use Rattle.rbbi_positions.proofs.Codes.{all_get}
use Rattle.rbbi_positions.proofs.WalkLaws.{of_the_rule}
use Rattle.rbbi_positions.proofs.RuleSpans.{one_rule, front_middle}
use Rattle.rbbi_positions.proofs.Leaves.{rule_within, leaf_within}
use Rattle.rbbi_dfa.specs.declared.determinize.rows_of.ListKind.TheVariants.{Completed, Fronts, Tags}
use Rattle.rbbi_bits.specs.BitRows.{Holds, row_bit}
use Rattle.rbbi_bits.specs.NumberedRows.{listed_row}
use Rattle.rbbi_dfa.specs.inner.PositionRows.{PositionMark, PositionRows}
use Rattle.rbbi_dfa.specs.inner.PositionAutomata.{Marked, FirstOf, LastOf, FollowsIn, FrontLastOf, Chainable, LookAhead, Tagged, IsOfRules}
use Rattle.rbbi_dfa.specs.inner.MarkedRows.{no_rule, rule_mark, IsChainedRow, AreRowsIn, AreMarkedIn, AreRowsOf, HasOwner, AreSmallMarks}
use Rattle.rbbi_bits.proofs.Rows.{none_in_empty}
use Rattle.rbbi_dfa.proofs.WalkReading.{same_rule}
use Rattle.rbbi_dfa.proofs.Determined.{number_small}
use Rattle.rbbi_dfa.proofs.Valid.{tag_small}

module _ (rules : List Rule) (categories : ℕ) (ranges : List CategoryRange) (marks : PositionMarks) (are : ArePositions rules categories ranges marks) where
  -- a position of a rule is a leaf
  leaf_short : (p number : ℕ) → IsOfRule rules p number → p < marks.leaves
  leaf_short p number own = omega (arith, leaf_within rules p number own, are.leaves)

  same_owner : (p this that : ℕ) → IsOfRule rules p this → IsOfRule rules p that → this ≡ that
  same_owner p this that own own' = one_rule rules this that p own.rule own'.rule own.is_rule own'.is_rule (record { from = own.from; to = own.to })
      (record { from = own'.from; to = own'.to })

  -- the marks of the position's rule
  mark_is : (p number : ℕ) (own : IsOfRule rules p number) → IsMarkedAs rules number own.rule (rule_mark marks p)
  mark_is p number own =
      let owner = are.owner p (leaf_short p number own) in
      let same = same_owner p number (get_or marks.owners p 0) own owner in
      let short : get_or marks.owners p 0 < length marks.rules =
      omega (arith, are.rule_count, rule_within rules (get_or marks.owners p 0) owner.rule owner.is_rule) in
      are.rule_marks number own.rule (rule_mark marks p) own.is_rule (ap (λ n. slice_get marks.rules n) same
      ∙ slice_get-get_or marks.rules (get_or marks.owners p 0) no_rule short)

  first_own : (p number : ℕ) → FirstOf rules number p → IsOfRule rules p number
  first_own p number first = of_the_rule rules number p [] first.0 first.1

  last_own : (p number : ℕ) → LastOf rules number p → IsOfRule rules p number
  last_own p number last = of_the_rule rules number p last.0 [] last.1

  follows_own : (p q number : ℕ) → FollowsIn rules number p q → IsOfRule rules p number
  follows_own p q number follows = of_the_rule rules number p follows.0 (q ∷ follows.1) follows.2

  front_own : (p number : ℕ) (others : List ℕ) → IsFrontSpelled rules number (others ++ p ∷ []) → IsOfRule rules p number
  front_own p number others spelled =
      let span = front_middle spelled.rule (first_position rules number) others [] p spelled.spelled in
      record { rule = spelled.rule; is_rule = spelled.is_rule; from = span.from; to = span.to }

  firsts : (row : List ℕ) → row ≡ marks.firsts → (p : ℕ) → Holds row p ↔ ((number : ℕ) × FirstOf rules number p)
  firsts row is p = (
    λ holds. let first = (are.first p).0 (subst (λ r. Holds r p) is holds) in (first.number, (first.others, first.spelled)),
    λ (number, first). subst (λ r. Holds r p) (sym is) ((are.first p).1 (record { number = number; others = first.0; spelled = first.1 })),
  )

  lasts : (row : List ℕ) → row ≡ marks.lasts → (p : ℕ) → Holds row p ↔ ((number : ℕ) × LastOf rules number p)
  lasts row is p = (
    λ holds. let last = (are.last p).0 (subst (λ r. Holds r p) is holds) in (last.number, (last.others, last.spelled)),
    λ (number, last). subst (λ r. Holds r p) (sym is) ((are.last p).1 (record { number = number; others = last.0; spelled = last.1 })),
  )

  chains : (row : List ℕ) → IsChainedRow marks row → (p : ℕ) → Holds row p ↔ ((number : ℕ) × Chainable rules number × FirstOf rules number p)
  chains row is p = (
    λ holds.
        let in_row = (is p).0 holds in
        let both = and_parts (row_bit marks.firsts p) (rule_mark marks p).chained_into in_row.1 in
        let first = (are.first p).0 both.0 in
        let own = first_own p first.number (first.others, first.spelled) in (
          first.number,
          record { rule = own.rule; is_rule = own.is_rule; chained_into = sym (mark_is p first.number own).chained_into ∙ both.1 },
          (first.others, first.spelled),
        ),
    λ (number, chained, first).
        let own = first_own p number first in
        let same = same_rule rules number own.rule chained.rule own.is_rule chained.is_rule in
        (is p).1 (
          leaf_short p number own,
          and_from (row_bit marks.firsts p) (rule_mark marks p).chained_into
              ((are.first p).1 (record { number = number; others = first.0; spelled = first.1 }))
              ((mark_is p number own).chained_into ∙ ap (λ (r : Rule). r.chained_into) same ∙ chained.chained_into),
        ),
  )

  follow_rows_are : (rows : List (List ℕ)) → AreRowsIn marks.words marks.leaves (followers_in marks) rows →
      (p q : ℕ) → Holds (listed_row rows p) q ↔ ((number : ℕ) × FollowsIn rules number p q)
  follow_rows_are rows by p q = (
    λ holds.
        ⊎_elim
        (λ short.
        let follows = (are.follows p q short).0 (subst (λ r. Holds r q) (by.each p short) holds) in
        (follows.number, (follows.before, follows.after, follows.spelled)))
        (λ past. absurd (none_in_empty (listed_row rows p) q (get_or_past rows p [] (omega (arith, past, by.many))) holds))
        (cases_lt p marks.leaves),
    λ (number, follows).
        let short = leaf_short p number (follows_own p q number follows) in
        subst (λ r. Holds r q) (sym (by.each p short))
        ((are.follows p q short).1 (record { number = number; before = follows.0; after = follows.1; spelled = follows.2 })),
  )

  -- the status number of a rule, and its number among the look-ahead rules

  slash_looks : (number mark : ℕ) (rule : Rule) → slash_number rules number rule ≡ Some mark → LooksAhead rule × (look_ahead_number rules number ≡ mark)
  slash_looks number mark rule is = by_rest rule.rest is
    where
      by_rest : (rest : Option Tree) → option_map (λ _. look_ahead_number rules number) rest ≡ Some mark → IsSome rest × (look_ahead_number rules number ≡ mark)
      by_rest None is' = absurd (cc)
      by_rest (Some tree) is' = (refl, ap (λ o. unwrap_or o mark) is')

  looks_slash : (number mark : ℕ) (rule : Rule) → LooksAhead rule → look_ahead_number rules number ≡ mark → slash_number rules number rule ≡ Some mark
  looks_slash number mark rule looks same = by_rest rule.rest looks
    where
      by_rest : (rest : Option Tree) → IsSome rest → option_map (λ _. look_ahead_number rules number) rest ≡ Some mark
      by_rest None looks' = absurd (false≢true looks')
      by_rest (Some tree) looks' = ap (λ n. Some n) same

  -- what is chosen where the test holds, and nothing where it doesn't
  chosen : (b : Bool) (o : Option ℕ) (mark : ℕ) → (if b then o else None) ≡ Some mark → (b ≡ true) × (o ≡ Some mark)
  chosen true o mark is = (refl, is)
  chosen false o mark is = absurd (cc)

  choose : (b : Bool) (o : Option ℕ) (mark : ℕ) → b ≡ true → o ≡ Some mark → (if b then o else None) ≡ Some mark
  choose true o mark holds is = is
  choose false o mark holds is = absurd (false≢true holds)

  completed_are : (list : List PositionMark) → AreMarkedIn marks Completed list →
      (p mark : ℕ) → Marked list p mark ↔ ((number : ℕ) × LookAhead rules number × LastOf rules number p × (look_ahead_number rules number ≡ mark))
  completed_are list in_list p mark = (
    λ has.
        let below = (in_list p mark).0 has in
        let both = chosen (row_bit marks.lasts p) (rule_mark marks p).slash mark below.1 in
        let last = (are.last p).0 both.0 in
        let own = last_own p last.number (last.others, last.spelled) in
        let looks = slash_looks last.number mark own.rule (sym (mark_is p last.number own).slash ∙ both.1) in
        (last.number, record { rule = own.rule; is_rule = own.is_rule; looks_ahead = looks.0 }, (last.others, last.spelled), looks.1),
    λ (number, looks, last, numbered).
        let own = last_own p number last in
        let short = leaf_short p number own in
        let same = same_rule rules number looks.rule own.rule looks.is_rule own.is_rule in
        (in_list p mark).1 (
          short,
          choose (row_bit marks.lasts p) (rule_mark marks p).slash mark
              ((are.last p).1 (record { number = number; others = last.0; spelled = last.1 }))
              ((mark_is p number own).slash ∙ looks_slash number mark own.rule (subst LooksAhead same looks.looks_ahead) numbered),
        ),
  )

  fronts_are : (list : List PositionMark) → AreMarkedIn marks Fronts list → (p mark : ℕ) → Marked list p mark ↔ ((number : ℕ) × FrontLastOf rules number p ×
      (look_ahead_number rules number ≡ mark))
  unfolding front_own
  fronts_are list in_list p mark = (
    λ has.
        let below = (in_list p mark).0 has in
        let both = chosen (row_bit marks.front_lasts p) (rule_mark marks p).slash mark below.1 in
        let last = (are.front_last p).0 both.0 in
        let own = front_own p last.number last.others last.spelled in
        let looks = slash_looks last.number mark own.rule (sym (mark_is p last.number own).slash ∙ both.1) in (
          last.number,
          record {
            rule = last.spelled.rule;
            is_rule = last.spelled.is_rule;
            looks_ahead = looks.0;
            others = last.others;
            spelled =
                last.spelled.spelled;
          },
          looks.1,
        ),
    λ (number, last, numbered).
        let spelled : IsFrontSpelled rules number (last.others ++ p ∷ []) = record { rule = last.rule; is_rule = last.is_rule; spelled = last.spelled } in
        let own = front_own p number last.others spelled in
        let short = leaf_short p number own in
        (in_list p mark).1 (
          short,
          choose (row_bit marks.front_lasts p) (rule_mark marks p).slash mark
              ((are.front_last p).1 (record { number = number; others = last.others; spelled = spelled }))
              ((mark_is p number own).slash ∙ looks_slash number mark own.rule last.looks_ahead numbered),
        ),
  )

  tags_are : (list : List PositionMark) → AreMarkedIn marks Tags list →
      (p mark : ℕ) → Marked list p mark ↔ ((number : ℕ) × LastOf rules number p × Tagged rules number mark)
  tags_are list in_list p mark = (
    λ has.
        let below = (in_list p mark).0 has in
        let both = chosen (row_bit marks.lasts p) (rule_mark marks p).tag mark below.1 in
        let last = (are.last p).0 both.0 in
        let own = last_own p last.number (last.others, last.spelled) in
        (last.number, (last.others, last.spelled), record { rule = own.rule; is_rule = own.is_rule; tagged = sym (mark_is p last.number own).tag ∙ both.1 }),
    λ (number, last, tagged).
        let own = last_own p number last in
        let short = leaf_short p number own in
        let same = same_rule rules number own.rule tagged.rule own.is_rule tagged.is_rule in
        (in_list p mark).1 (
          short,
          choose (row_bit marks.lasts p) (rule_mark marks p).tag mark
              ((are.last p).1 (record { number = number; others = last.0; spelled = last.1 }))
              ((mark_is p number own).tag ∙ ap (λ (r : Rule). r.tag) same ∙ tagged.tagged),
        ),
  )

  pub owners_are : (p : ℕ) → p < marks.leaves → HasOwner marks p
  owners_are p short = let owner = are.owner p short in omega (arith, are.rule_count, rule_within rules (get_or marks.owners p 0) owner.rule owner.is_rule)

  slash_small : (number mark : ℕ) (p : ℕ) (own : IsOfRule rules p number) → (rule_mark marks p).slash ≡ Some mark → mark < length (look_aheads rules)
  slash_small number mark p own is =
      let looks = slash_looks number mark own.rule (sym (mark_is p number own).slash ∙ is) in
      omega (arith, looks.1, number_small rules number own.rule own.is_rule looks.0)

  pub marks_small : AreLawful rules → (slashes : ℕ) → slashes ≡ length (look_aheads rules) → AreSmallMarks marks slashes
  marks_small lawful slashes many = record {
    completed = λ p mark short is. let both =
        chosen (row_bit marks.lasts p) (rule_mark marks p).slash mark is in omega
        (arith, many, slash_small (get_or marks.owners p 0) mark p (are.owner p short) both.1);
    fronts = λ p mark short is. let both =
        chosen (row_bit marks.front_lasts p) (rule_mark marks p).slash mark is in omega
        (arith, many, slash_small (get_or marks.owners p 0) mark p (are.owner p short) both.1);
    tags = λ p mark short is.
        let both = chosen (row_bit marks.lasts p) (rule_mark marks p).tag mark is in
        let own = are.owner p short in
        tag_small rules lawful mark (
          get_or marks.owners p 0,
          record {
            rule = own.rule;
            is_rule = own.is_rule;
            tagged =
                sym (mark_is p (get_or marks.owners p 0) own).tag ∙ both.1;
          },
        );
  }

  module _ (valid : AreValidRanges categories ranges) (classes : AreClasses rules categories ranges) where
    -- code points of one category are read alike
    reads_alike : (p c d : ℕ) → IsCodePoint c → IsCodePoint d → category_of ranges c ≡ category_of ranges d → Reads rules p c → Reads rules p d
    reads_alike p c d code code' same reads =
        let alike = (classes.alike c d code code').0 same in
        (reads.0, reads.1, (all_get (λ set. Has set c ↔ Has set d) (all_sets rules) p reads.0 reads.1 alike).0 reads.2)

    reads_are : (rows : List (List ℕ)) → AreRowsIn marks.words categories (readers_in marks) rows → (p c : ℕ) → IsCodePoint c →
        Holds (listed_row rows (category_of ranges c)) p ↔ Reads rules p c
    reads_are rows by p c code =
        let category : ℕ = category_of ranges c in
        let within = category_within categories ranges c valid in (
          λ holds.
              let reads = (are.reads p category within).0 (subst (λ r. Holds r p) (by.each category within) holds) in
              reads_alike p reads.c c reads.code code reads.of reads.reads,
          λ reads.
              subst (λ r. Holds r p) (sym (by.each category within))
              ((are.reads p category within).1 (record { c = c; code = code; of = refl; reads = reads })),
        )

    unread_is : (rows : List (List ℕ)) → AreRowsIn marks.words categories (readers_in marks) rows → 1 ≤ categories → (p : ℕ) → ¬ Holds (listed_row rows 0) p
    unread_is rows by some p = λ holds.
        let reads = (are.reads p 0 some).0 (subst (λ r. Holds r p) (by.each 0 some) holds) in
        let short = slice_get_within (all_sets rules) p reads.reads.0 reads.reads.1 in
        let is = get_or_from_slice_get (all_sets rules) p reads.reads.0 reads.reads.0 reads.reads.1 in
        (classes.none reads.c reads.code).0 reads.of (p, reads.reads.0, short, is, reads.reads.2)

    pub rows_are_of_rules : (slashes : ℕ) (rows : PositionRows) → slashes ≡ length (look_aheads rules) → AreRowsOf marks categories slashes rows →
        IsOfRules rules ranges rows
    rows_are_of_rules slashes rows many by =
        let same = by.categories_are in
        record {
          some_categories = omega (arith, same, valid.some_categories);
          few_categories = omega (arith, same, valid.few_categories);
          within = λ c. omega (arith, same, category_within categories ranges c valid);
          used = λ category some within. classes.used category some (omega (arith, same, within));
          slashes = by.slashes_are ∙ many;
          first = firsts rows.first by.first;
          chained = chains rows.chained by.chained;
          last = lasts rows.last by.last;
          follow = follow_rows_are rows.follow by.follow;
          reads = reads_are rows.reads by.reads;
          unread = unread_is rows.reads by.reads valid.some_categories;
          completed = completed_are rows.completed by.completed;
          fronts = fronts_are rows.fronts by.fronts;
          tags = tags_are rows.tags by.tags;
        }
