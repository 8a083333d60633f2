use Rattle.std.proofs.Common.{◌≡◌, ℕ, ◌+◌, ◌*◌, ◌<◌, List, length, get_or, drop, refl, sym, ap, ◌∙◌, subst, arith}
use Rattle.std.specs.Prelude.{Bool}
use Rattle.std.proofs.lemmas.Bool.Decides.{nat_tests}
use Rattle.rbbi_table.proofs.PairLemmas.{AreMarkedBelow, marked_more, marked_all, written}
use Rattle.rbbi_table.proofs.safe.lead_to_one.Goals as goal

pub loop-target-preserved : goal.loop-target-preserved
loop-target-preserved c =
    let cells = c.args.cells.now in
    let width : ℕ = c.args.width in
    let targets = c.args.targets.now in
    let inv = c.loop-target.invariant in
    let first : ℕ = get_or targets 0 0 * width in
    let old : List Bool = c.loop-target.marked.items in
    let new : List Bool = c.narrow.new.marked in
    let long : length new ≡ length old = omega (arith, c.narrow.auto.marked, ap length c.deref_mut.ensures.value) in
    let count : c.loop-target.marked.len ≡ length new = omega (arith, c.loop-target.marked.ok.0, long) in
    let narrowed = rw c.deref_mut.ensures.value at c.narrow.ensures in
    subst (λ (l : List Bool). (length l ≡ width) × AreMarkedBelow cells width targets first l (c.loop-target.target-index + 1))
    (sym (written c.loop-target.marked.len new (drop (length new) old) count)) (
      long ∙ inv.0,
      marked_more cells width targets first old new c.loop-target.target-index inv.1 (λ k low. narrowed k (omega (arith, low, inv.0))),
    )

pub returns-clause-lead : goal.returns-clause-lead
returns-clause-lead c =
    let targets = c.args.targets.now in
    let some : 0 < length targets = grind (arith, nat_tests, c.is_empty.ensures, c.if-is_empty.false) in
    let all : c.loop-target.target-index ≡ length targets = omega (arith, c.loop-target-test.false, c.loop-target.auto.target-index-end) in
    marked_all c.args.cells.now c.args.width targets (get_or targets 0 0 * c.args.width) c.loop-target.marked.items some refl
    (subst (λ n. AreMarkedBelow c.args.cells.now c.args.width targets (get_or targets 0 0 * c.args.width) c.loop-target.marked.items n) all
    c.loop-target.invariant.1)
