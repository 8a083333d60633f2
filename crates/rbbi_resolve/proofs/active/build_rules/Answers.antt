use Rattle.std.proofs.Common.{◌≡◌, length, map, ap, sym, ◌∙◌, subst, arith, rules}
use Rattle.std.proofs.lemmas.List.{length-map}
use Rattle.std.specs.Rc.{rc_value}
use Rattle.rbbi_tree.specs.Values.{statement_trees}
use Rattle.rbbi_classes.specs.CharacterSets.{characters_of}
use Rattle.rbbi_classes.specs.Divisions.{ClassDivision}
use Rattle.rbbi_resolve.specs.Files.{active_rules}
use Rattle.rbbi_resolve.specs.inner.Files.{context_at}
use Rattle.rbbi_resolve.specs.RuleLists.{RuleList, rules_of, AreCounted}
use Rattle.rbbi_resolve.specs.Outcomes.{Means}
use Rattle.rbbi_model.specs.Rules.{AreLawful}
use Rattle.std.proofs.lemmas.Option.{slice_get_within}
use Rattle.std.proofs.Common.{slice_index}
use Rattle.rbbi_resolve.proofs.Kept.{files_stay}
use Rattle.rbbi_resolve.proofs.LeafRows.{statement_rows}
use Rattle.rbbi_resolve.proofs.SoundFiles.{sound_at, faultless_at}
use Rattle.rbbi_resolve.proofs.Lawful.{same_leaves, same_slashes, within, within_anywhere, lawful_rules}
use Rattle.rbbi_resolve.proofs.RulesBuilt.{rules_formed, rules_stand, rules_filled}
use Rattle.rbbi_resolve.proofs.Ending.{counting_all, leaves_counted, slashes_counted}
use Rattle.rbbi_resolve.proofs.active.build_rules.Goals as goal
use Rattle.rbbi_resolve.proofs.active.build_rules.Goals.{In_ok-rules, After-of_rows-sets, After-new-2}

pub rules_with_trees-requires-clause-ready : goal.rules_with_trees-requires-clause-ready
rules_with_trees-requires-clause-ready c =
    let r = c.args.reading.now in
    let files = r.table.now in
    let T = statement_trees r.statements.now in
    let long : length T ≡ length r.statements.now = simp length-map in
    let leaves = c.requires.leaves in
    record {
      end = length r.statements.now;
      variables = c.requires.reading.defined;
      low = omega (arith, c.len.ensures);
      long = leaves.long;
      stand = λ n s at. statement_rows files (rc_value r.classes.division) c.requires.reading.classified.divides r.dictionary_ignored (context_at files T n) s
          r.leaves.rows.items (slice_index r.firsts.items n) (files_stay files T n)
          (sound_at files r.dictionary_ignored T n c.requires.well_made c.requires.faultless)
          (faultless_at files r.dictionary_ignored T n s at c.requires.faultless)
          (leaves.each n s (let low = slice_get_within T n s at in omega arith) at);
    }

pub rules_with_trees-requires-clause-low : goal.rules_with_trees-requires-clause-low
rules_with_trees-requires-clause-low c =
    let r = c.args.reading.now in
    (within c.requires.few.0 (active_rules r.table.now (statement_trees r.statements.now)) c.requires.few.1).tall

pub rules_with_trees-requires-clause-builder : goal.rules_with_trees-requires-clause-builder
rules_with_trees-requires-clause-builder c = c.in_ok-builder.ensures.builder _

-- they are what the file means
means : (c : In_ok-rules) →
    Means c.args.reading.now.table.now c.args.reading.now.dictionary_ignored (statement_trees c.args.reading.now.statements.now)
    (rules_of (record {
      rules = c.in_ok-rules.rules.items;
      sets = (map (characters_of (rc_value c.args.reading.now.classes.division))
          c.rules_with_trees.new.builder.rows.items);
    }))
means c =
    let files = c.args.reading.now.table.now in
    let ms = active_rules files (statement_trees c.args.reading.now.statements.now) in
    record {
      faultless = c.requires.faultless;
      within = λ end. within_anywhere c.requires.few.0 end ms c.requires.few.1;
      rules_in_order = rules_stand files (map (characters_of (rc_value c.args.reading.now.classes.division)) c.rules_with_trees.new.builder.rows.items) ms
          c.in_ok-rules.rules.items c.in_ok-rules.ensures.each;
    }

-- the sets of the rows, by the classes of the reading
sets_are : (c : After-of_rows-sets) → c.of_rows-sets.result
    ≡ map (characters_of (rc_value c.args.reading.now.classes.division)) c.rules_with_trees.new.builder.rows.items
sets_are c =
    let same : rc_value c.in_ok-division.division ≡ rc_value c.args.reading.now.classes.division = search rules in
    c.of_rows-sets.ensures ∙ ap (λ (d : ClassDivision). map (characters_of d) c.rules_with_trees.new.builder.rows.items) same

pub new-requires-2 : goal.new-requires-2
new-requires-2 c =
    let r = c.args.reading.now in
    let files = r.table.now in
    let T = statement_trees r.statements.now in
    let ms = active_rules files T in
    let sets = (map (characters_of (rc_value c.args.reading.now.classes.division)) c.rules_with_trees.new.builder.rows.items) in
    let rules = c.in_ok-rules.rules.items in
    let long : length T ≡ length r.statements.now = simp length-map in
    let all = c.in_ok-rules.ensures in
    let stand = rules_stand files sets ms rules all.each in
    let counting = counting_all files r.classes r.dictionary_ignored T r.variables r.least r.switches r.counts (length r.statements.now)
    (omega arith) c.requires.reading in
    subst (λ ss. AreCounted (record { rules = rules; sets = ss }) r.counts.leaves.sum r.counts.slashes.sum) (sym (sets_are (goal.at.new-requires-2 c).After-of_rows-sets))
    (record {
      well_formed = rules_formed files T sets rules all;
      leaf_count = leaves_counted r.counts c.requires.few.0 ms counting c.requires.few.1
          ∙ sym (same_leaves files ms (rules_of (record { rules = rules; sets = sets })) stand);
      slash_count = slashes_counted r.counts c.requires.few.0 ms counting c.requires.few.1
          ∙ sym (same_slashes files ms (rules_of (record { rules = rules; sets = sets })) stand);
    })

-- the rules with their sets
list_is : (c : After-new-2) → c.of_rows-sets.result
    ≡ map (characters_of (rc_value c.args.reading.now.classes.division)) c.rules_with_trees.new.builder.rows.items → c.new-2.result ≡ record {
      rules = c.in_ok-rules.rules.items;
      sets = map (characters_of (rc_value c.args.reading.now.classes.division)) c.rules_with_trees.new.builder.rows.items;
    }
list_is c are = let rules = c.in_ok-rules.rules.items in c.new-2.ensures ∙ ap (λ sets. let list : RuleList = record { rules = rules; sets = sets } in list)
    are

pub returns-clause-means : goal.returns-clause-means
returns-clause-means c =
    let r = c.args.reading.now in
    subst (λ (x : RuleList). Means r.table.now r.dictionary_ignored (statement_trees r.statements.now) (rules_of x))
    (sym (list_is (goal.at.returns-clause-means c).After-new-2 (sets_are (goal.at.returns-clause-means c).After-of_rows-sets)))
    (means (goal.at.returns-clause-means c).In_ok-rules)

pub returns-clause-lawful : goal.returns-clause-lawful
returns-clause-lawful c =
    let done = (goal.at.returns-clause-lawful c).In_ok-rules in
    let r = c.args.reading.now in
    subst (λ (x : RuleList). AreLawful (rules_of x)) (sym (list_is (goal.at.returns-clause-lawful c).After-new-2 (sets_are (goal.at.returns-clause-lawful c).After-of_rows-sets)))
    (lawful_rules r.table.now r.dictionary_ignored (statement_trees r.statements.now) _ c.requires.well_made (means done)
    (rules_filled r.table.now (map (characters_of (rc_value c.args.reading.now.classes.division)) c.rules_with_trees.new.builder.rows.items) _
    c.in_ok-rules.rules.items done.in_ok-rules.ensures.each))
