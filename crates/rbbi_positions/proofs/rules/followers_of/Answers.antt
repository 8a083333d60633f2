use Rattle.std.proofs.Common.{◌≡◌, ℕ, ◌+◌, ◌*◌, ◌<◌, ◌≤◌, ◌||◌, Bool, [], length, sym, ap, ◌∙◌, subst, arith}
use Rattle.rbbi_model.specs.Rules.{leaves_of}
use Rattle.rbbi_resolve.specs.RuleLists.{rule_of}
use Rattle.rbbi_positions.specs.inner.Rows.{in_row}
use Rattle.rbbi_positions.specs.inner.RuleTests.{rule_goes}
use Rattle.rbbi_bits.proofs.Rows.{blank as blank_row}
use Rattle.rbbi_positions.proofs.RowWrites.{all_written, rows_within}
use Rattle.rbbi_positions.proofs.RuleFacts.{first_next, first_within, some_next}
use Rattle.rbbi_positions.proofs.rules.followers_of.Goals as goal

pub add_rule_followers-requires-clause-none : goal.add_rule_followers-requires-clause-none
add_rule_followers-requires-clause-none c =
    let zeros = c.in_ok-none.ensures.items_if_clones_equal (λ y e. e) in
    λ position. blank_row c.deref.result.now c.args.words position (c.deref.ensures.value ∙ zeros)

pub add_rule_followers-requires-clause-within : goal.add_rule_followers-requires-clause-within
add_rule_followers-requires-clause-within c =
    let wide : length c.deref.result.now ≡ c.args.words = omega (arith, c.deref.ensures.len, c.in_ok-none.ensures.len) in
    λ sets. omega (arith, wide, c.loop-number.invariant.at, first_within c.args.rules.now _ _ c.get-rule.ensures sets, c.requires.all, c.requires.wide)

pub add_rule_followers-requires-clause-rows : goal.add_rule_followers-requires-clause-rows
add_rule_followers-requires-clause-rows c =
    let wide : length c.deref.result.now ≡ c.args.words = omega (arith, c.deref.ensures.len, c.in_ok-none.ensures.len) in
    let many : length c.deref_mut.result.now ≡ c.args.leaves * c.args.words = ap length c.deref_mut.ensures.value ∙ c.loop-number.invariant.many in
    let whole : c.args.leaves * length c.deref.result.now ≤ length c.deref_mut.result.now =
    subst (λ (n : ℕ). c.args.leaves * n ≤ length c.deref_mut.result.now) (sym wide) (omega (arith, many)) in
    λ sets. rows_within (c.loop-number.start + leaves_of (rule_of sets c.get-rule.result.now)) c.args.leaves (length c.deref.result.now)
    (length c.deref_mut.result.now)
    (omega (arith, c.loop-number.invariant.at, first_within c.args.rules.now _ _ c.get-rule.ensures sets, c.requires.all)) whole

pub count_of_rule-start-requires : goal.count_of_rule-start-requires
count_of_rule-start-requires c =
    λ sets. omega (arith, first_within c.args.rules.now _ _ c.get-rule.ensures sets, c.requires.all, c.requires.wide, c.requires.few)

pub overflow_add-start : goal.overflow_add-start
overflow_add-start c =
    omega (arith, c.count_of_rule-start.ensures [], first_within c.args.rules.now _ _ c.get-rule.ensures [], c.requires.all, c.requires.wide, c.requires.few)

pub loop-number-preserved : goal.loop-number-preserved
loop-number-preserved c =
    let wide : length c.deref.result.now ≡ c.args.words = omega (arith, c.deref.ensures.len, c.in_ok-none.ensures.len) in
    let written = all_written c.loop-number.rows _ c.add_rule_followers.new.followers c.deref_mut.ensures.value c.add_rule_followers.auto.followers in
    record {
      many = ap length written ∙ c.add_rule_followers.auto.followers ∙ ap length c.deref_mut.ensures.value ∙ c.loop-number.invariant.many;
      at = omega (arith, c.loop-number.invariant.at, c.count_of_rule-start.ensures [], first_next c.args.rules.now _ _ c.get-rule.ensures []);
      rows = λ position other below.
          let short : other < 64 * length c.deref.result.now = omega (arith, wide, below) in
          let rule : Bool = rule_goes position other (rule_of c.args.rules.now.sets c.get-rule.result.now) c.loop-number.start in
          ap (λ rows. in_row c.args.words rows position other) written
          ∙ some_next c.args.rules.now _ _ c.get-rule.ensures (rule_goes position other) c.loop-number.start
          (in_row c.args.words c.loop-number.rows.items position other) (in_row c.args.words c.add_rule_followers.new.followers position other)
          c.loop-number.invariant.at
          (c.loop-number.invariant.rows position other below)
          (subst (λ (n : ℕ). in_row n c.add_rule_followers.new.followers position other ≡ (in_row n c.deref_mut.result.now position other || rule)) wide
          (c.in_ok-add_rule_followers.ensures c.args.rules.now.sets position other short)
          ∙ ap (λ rows. in_row c.args.words rows position other || rule) c.deref_mut.ensures.value);
    }
