use Rattle.std.proofs.Common.{◌≡◌, ◌≢◌, ℕ, ◌<◌, ◌≤◌, List, length, slice_index, ap, ◌∙◌, subst, arith, ◌∷◌, ◌++◌, []}
use Rattle.rbbi_model.specs.Marks.{marks_of}
use Rattle.rbbi_dfa.proofs.Grouping.{AreGrouped-known, AreGrouped-new, IsPartition-from_grouped}
use Rattle.rbbi_dfa.proofs.minimize.partition.Partition.by_marks.Goals as goal

pub loop-row-preserved-in-Some : goal.loop-row-preserved-in-Some
loop-row-preserved-in-Some c =
    let firsts = c.loop-row.firsts.items in
    let found = subst
    (λ (xs : List ℕ). (1 ≤ c.in-Some.class) × (c.in-Some.class < length xs) ×
    (marks_of c.args.automaton.now (slice_index xs c.in-Some.class) ≡ marks_of c.args.automaton.now c.loop-row.row))
    c.deref.ensures.value c.in-Some.ensures in
    AreGrouped-known c.args.automaton.now c.loop-row.row c.loop-row.classes.items firsts c.loop-row.invariant c.in-Some.class _
    (omega (arith, c.loop-row.invariant.few, found.0, found.1)) found.0 found.1 found.2 c.in_ok-push.ensures.items

pub loop-row-preserved : goal.loop-row-preserved
loop-row-preserved c =
    let firsts = c.loop-row.firsts in
    let none = subst
    (λ (xs : List ℕ). (class : ℕ) → 1 ≤ class → class < length xs → marks_of c.args.automaton.now (slice_index xs class) ≢ marks_of c.args.automaton.now
    c.loop-row.row)
    c.deref.ensures.value c.in_default.ensures in
    let count : c.len.result ≡ length firsts.items = c.len.ensures ∙ firsts.ok.0 in
    AreGrouped-new c.args.automaton.now c.loop-row.row c.loop-row.classes.items firsts.items c.loop-row.invariant _ _
    (omega (arith, c.loop-row.invariant.few, c.loop-row.invariant.some)) none
    (c.in_ok-push-2.ensures.items ∙ ap (λ n. c.loop-row.classes.items ++ n ∷ []) count)
    c.in_ok-push-3.ensures.items

pub returns : goal.returns
returns c =
    IsPartition-from_grouped c.args.automaton.now c.loop-row.row c.loop-row.classes.items c.loop-row.firsts.items c.requires.determined
    (omega (arith, c.rows-row-end.ensures, c.loop-row.invariant.rows, c.loop-row-test.false, c.loop-row.auto)) c.loop-row.invariant
