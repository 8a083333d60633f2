use Rattle.std.proofs.Common.{◌≡◌, false, slice_index, slice_index_or, arith, ap}
use Rattle.std.proofs.lemmas.List.{get_or_read_under}
use Rattle.rbbi_dfa.specs.inner.Partitions.{IsPartition, AreSides}
use Rattle.rbbi_dfa.proofs.Splits.{IsSplitUpTo-none, IsSplitUpTo-takes, IsSplitUpTo-keeps}
use Rattle.rbbi_dfa.proofs.SplitSound.{partition_after, none_leave}
use Rattle.rbbi_dfa.proofs.minimize.partition.Partition.split.Goals as goal

pub loop-row-init : goal.loop-row-init
loop-row-init c = IsSplitUpTo-none _ _ _ _ _ _ _ _ _ c.in_ok-classes.ensures.items

pub overflow_add-left : goal.overflow_add-left
overflow_add-left c = omega (arith, c.loop-row.invariant.few)

pub loop-row-preserved-then-takes : goal.loop-row-preserved-then-takes
loop-row-preserved-then-takes c =
    IsSplitUpTo-takes _ _ _ _ _ _ _ _ _ _ _ _ _ _ c.deref.ensures.value c.takes.ensures c.if-takes.true c.loop-row.invariant c.in_ok-push.ensures.items

pub loop-row-preserved : goal.loop-row-preserved
loop-row-preserved c =
    let classes = c.args.self.now.classes in
    let read : c.index.result.now ≡ slice_index classes.items c.loop-row.row =
    get_or_read_under classes.items c.loop-row.row classes.len _ 0 c.index.ensures (omega (arith, c.requires.partition.rows, classes.ok.0)) (classes.ok.0) in
    IsSplitUpTo-keeps _ _ _ _ _ _ _ _ _ _ _ _ _ _ _ c.deref.ensures.value c.takes.ensures c.if-takes.false c.loop-row.invariant read
    c.in_ok-push-2.ensures.items

after_split : (c : goal.After-drop-self) → IsPartition c.args.automaton.now c.loop-row.classes.items c.push-then-left-gt0.new.self.items ×
    AreSides c.loop-row.classes.items c.args.inside.now
after_split c =
    let firsts = c.args.self.now.firsts in
    let first_is : c.index-first.result.now ≡ slice_index firsts.items c.args.class =
    get_or_read_under firsts.items c.args.class firsts.len _ 0 c.index-first.ensures (omega (arith, c.requires.class, firsts.ok.0)) (firsts.ok.0) in
    partition_after c.args.automaton.now c.args.self.now.classes.items firsts.items c.args.inside.now c.args.class c.args.category _ _ _ _ _ _ _ _
    c.requires.determined c.requires.partition c.requires.sides c.requires.class c.requires.category
    first_is (ap (λ k. slice_index_or c.args.inside.now k false) c.next.ensures.exact) (omega (arith, c.len-new.ensures, firsts.ok.0))
    (omega (arith, c.rows-row-end.ensures, c.requires.partition.rows)) c.loop-row.invariant c.if-left-gt0.true c.in_ok-push-3.ensures.items

pub returns-in_ok-push-3-clause-partition : goal.returns-in_ok-push-3-clause-partition
returns-in_ok-push-3-clause-partition c = (after_split c).0

pub returns-in_ok-push-3-clause-sides : goal.returns-in_ok-push-3-clause-sides
returns-in_ok-push-3-clause-sides c = (after_split c).1

pub returns-else-left-gt0-clause-splits : goal.returns-else-left-gt0-clause-splits
returns-else-left-gt0-clause-splits c = λ row h of_class differ.
    let firsts = c.args.self.now.firsts in
    let first_is : c.index-first.result.now ≡ slice_index firsts.items c.args.class =
    get_or_read_under firsts.items c.args.class firsts.len _ 0 c.index-first.ensures (omega (arith, c.requires.class, firsts.ok.0)) (firsts.ok.0) in
    absurd (none_leave c.args.automaton.now c.args.self.now.classes.items firsts.items c.args.inside.now c.args.class c.args.category _ _ _ _ _ _ _
    first_is (ap (λ k. slice_index_or c.args.inside.now k false) c.next.ensures.exact) c.loop-row.invariant (omega arith) row
    (omega (arith, c.rows-row-end.ensures)) of_class differ)
