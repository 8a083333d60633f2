use Rattle.std.proofs.Common.{◌≡◌, ℕ, ◌+◌, ◌*◌, ◌<◌, ◌≤◌, ◌||◌, Bool, false, [], length, Result, Ok, Err, sym, ap, ◌∙◌, subst, arith}
use Rattle.std.proofs.Math.Bool.{or_assoc}
use Rattle.std.specs.Prelude.{OnOk}
use Rattle.rbbi_model.specs.Rules.{leaf_count, leaves_of}
use Rattle.rbbi_resolve.specs.RuleTrees.{tree_of}
use Rattle.rbbi_resolve.specs.RuleLists.{rule_of}
use Rattle.rbbi_bits.specs.BitRows.{row_bit}
use Rattle.rbbi_positions.specs.inner.Rows.{in_row}
use Rattle.rbbi_positions.specs.inner.Trees.{begins, goes}
use Rattle.rbbi_positions.proofs.RowWrites.{all_written, rows_within}
use Rattle.rbbi_positions.proofs.RuleFacts.{leaves_some, of_none, of_some}
use Rattle.rbbi_positions.proofs.rules.add_rule_followers.Goals as goal

on_ok : {E : Type 0} {P Q : Type 0} (result : Result (Unit {0}) E) → (P → Q) → OnOk result P → OnOk result Q
on_ok (Ok x) f h = f h
on_ok (Err e) f h = tt

pub add_followers-requires-clause-rows : goal.add_followers-requires-clause-rows
add_followers-requires-clause-rows c = λ sets.
    rows_within (c.args.first + leaf_count (tree_of sets c.args.rule.now.front)) (c.args.first + leaves_of (rule_of sets c.args.rule.now))
    (length c.args.none.now) (length c.args.followers.now) (omega arith) (c.requires.rows sets)

pub overflow_add-second : goal.overflow_add-second
overflow_add-second c = omega (arith, c.requires.few, c.requires.within [], c.count.ensures [])

pub add_followers-requires-in-Some-clause-within : goal.add_followers-requires-in-Some-clause-within
add_followers-requires-in-Some-clause-within c =
    λ sets. omega (arith, c.requires.within sets, c.count.ensures sets, leaves_some sets c.args.rule.now c.in-Some.rest c.in-Some.is)

pub add_followers-requires-in-Some-clause-rows : goal.add_followers-requires-in-Some-clause-rows
add_followers-requires-in-Some-clause-rows c = λ sets.
    rows_within ((c.args.first + c.count.result) + leaf_count (tree_of sets c.in-Some.rest)) (c.args.first + leaves_of (rule_of sets c.args.rule.now))
    (length c.args.none.now) (length c.args.followers.now)
    (omega (arith, c.count.ensures sets, leaves_some sets c.args.rule.now c.in-Some.rest c.in-Some.is)) (c.requires.rows sets)

pub add_firsts-requires-clause-within : goal.add_firsts-requires-clause-within
add_firsts-requires-clause-within c =
    let copied = c.in_ok-row-in-Some.ensures.items_if_clones_equal (λ x y e. e) in
    λ sets. omega (
      arith,
      c.requires.within sets,
      c.count.ensures sets,
      leaves_some sets c.args.rule.now c.in-Some.rest c.in-Some.is,
      ap length
          c.deref_mut.ensures.value,
      ap length copied,
    )

pub add_followers-requires-in-Some-2-clause-rows : goal.add_followers-requires-in-Some-2-clause-rows
add_followers-requires-in-Some-2-clause-rows c =
    let copied = c.in_ok-row-in-Some.ensures.items_if_clones_equal (λ x y e. e) in
    let written = all_written c.in_ok-row-in-Some.row _ c.add_firsts.new.row c.deref_mut.ensures.value c.add_firsts.auto.row in
    let wide : length c.deref.result.now ≡ length c.args.none.now = ap length (c.deref.ensures.value ∙ written) ∙ c.add_firsts.auto.row
    ∙ ap length (c.deref_mut.ensures.value ∙ copied) in
    λ sets.
    let rows : (c.args.first + leaves_of (rule_of sets c.args.rule.now)) * length c.deref.result.now ≤ length c.add_followers-in-Some.new.followers =
    subst (λ (n : ℕ). (c.args.first + leaves_of (rule_of sets c.args.rule.now)) * n ≤ length c.add_followers-in-Some.new.followers) (sym wide)
    (omega (arith, c.requires.rows sets, c.add_followers-in-Some.auto.followers)) in
    rows_within (c.args.first + leaf_count (tree_of sets c.args.rule.now.front)) (c.args.first + leaves_of (rule_of sets c.args.rule.now))
    (length c.deref.result.now) (length c.add_followers-in-Some.new.followers) (omega arith) rows

pub returns-in-None : goal.returns-in-None
returns-in-None c =
    on_ok c.add_followers.result
    (λ h sets position other below.
    let front = tree_of sets c.args.rule.now.front in
    let old : Bool = in_row (length c.args.none.now) c.args.followers.now position other in
    h sets position other below ∙ ap (λ x. old || goes front c.args.first position other x) (c.requires.none other)
    ∙ ap (λ x. old || x)
    (sym (of_none sets c.args.rule.now
    (λ rest. goes rest (c.args.first + leaf_count front) position other false || goes front c.args.first position other
    (begins rest (c.args.first + leaf_count front) other))
    (goes front c.args.first position other false) c.in-None.is)))
    c.add_followers.ensures

pub returns-in_ok-row-in-Some : goal.returns-in_ok-row-in-Some
returns-in_ok-row-in-Some c =
    let copied = c.in_ok-row-in-Some.ensures.items_if_clones_equal (λ x y e. e) in
    let written = all_written c.in_ok-row-in-Some.row _ c.add_firsts.new.row c.deref_mut.ensures.value c.add_firsts.auto.row in
    let wide : length c.deref.result.now ≡ length c.args.none.now = ap length (c.deref.ensures.value ∙ written) ∙ c.add_firsts.auto.row
    ∙ ap length (c.deref_mut.ensures.value ∙ copied) in
    on_ok c.add_followers-in-Some-2.result
    (λ h sets position other below.
    let front = tree_of sets c.args.rule.now.front in
    let rest = tree_of sets c.in-Some.rest in
    let second : ℕ = c.args.first + leaf_count front in
    let w : ℕ = length c.args.none.now in
    let old : Bool = in_row w c.args.followers.now position other in
    let short : other < 64 * length c.deref.result.now = omega (arith, below, wide) in
    let row : row_bit c.deref.result.now other ≡ begins rest (c.args.first + c.count.result) other =
    ap (λ r. row_bit r other) (c.deref.ensures.value ∙ written) ∙ c.add_firsts.ensures sets other
    ∙ ap (λ r. row_bit r other || begins rest (c.args.first + c.count.result) other) (c.deref_mut.ensures.value ∙ copied)
    ∙ ap (λ x. x || begins rest (c.args.first + c.count.result) other) (c.requires.none other) in
    let sooner : in_row w c.add_followers-in-Some.new.followers position other ≡ (old || goes rest (c.args.first + c.count.result) position other false) =
    c.in_ok-add_followers-in-Some.ensures sets position other below
    ∙ ap (λ x. old || goes rest (c.args.first + c.count.result) position other x) (c.requires.none other) in
    let then : in_row w c.add_followers-in-Some-2.new.followers position
    other ≡ (in_row w c.add_followers-in-Some.new.followers position other || goes front c.args.first position other (row_bit c.deref.result.now other)) =
    subst (λ (n : ℕ). in_row n c.add_followers-in-Some-2.new.followers position
    other ≡ (in_row n c.add_followers-in-Some.new.followers position other || goes front c.args.first position other (row_bit c.deref.result.now other)))
    wide
    (h sets position other short) in
    then ∙ ap (λ x. x || goes front c.args.first position other (row_bit c.deref.result.now other)) sooner
    ∙ ap (λ x. (old || goes rest (c.args.first + c.count.result) position other false) || goes front c.args.first position other x) row
    ∙ or_assoc old (goes rest (c.args.first + c.count.result) position other false)
    (goes front c.args.first position other (begins rest (c.args.first + c.count.result) other))
    ∙ ap (λ n. old || (goes rest (c.args.first + n) position other false || goes front c.args.first position other (begins rest (c.args.first + n) other)))
    (c.count.ensures sets)
    ∙ ap (λ x. old || x)
    (sym (of_some sets c.args.rule.now c.in-Some.rest
    (λ rest. goes rest (c.args.first + leaf_count front) position other false || goes front c.args.first position other
    (begins rest (c.args.first + leaf_count front) other))
    (goes front c.args.first position other false) c.in-Some.is)))
    c.add_followers-in-Some-2.ensures
