use Rattle.std.proofs.Common.{suc, take, drop, get_or, refl}
use Rattle.std.specs.List.{flat_map}
use Rattle.std.proofs.lemmas.Result.{err_from_is_err_and}
use Rattle.rbbi_text.proofs.Appended.{front_first, front_later}
use Rattle.rbbi_tally.specs.declared.counts.ValueCount.{ValueCount}
use Rattle.rbbi_tool.specs.Command.Tally.{count_line}
use Rattle.rbbi_tool.proofs.Saying.{flat_parts}
use Rattle.rbbi_tool.proofs.tallying.say_each.Goals as goal

pub returns-in_err-say_count : goal.returns-in_err-say_count
returns-in_err-say_count c =
    let told = err_from_is_err_and c.from_residual.result c.from_residual.ensures.1 in
    let counts = c.args.counts.now in
    let i = c.loop-pair.pair-index in
    let none : ValueCount = record { value = 0; count = 0 } in
    rw told.1
    (front_later c.args.made.now.items (flat_map count_line (take i counts)) _ _ c.loop-pair.made.items _ c.loop-pair.invariant
    (flat_parts count_line counts i none c.loop-pair-test.true)
    (front_first c.loop-pair.made.items (count_line (get_or counts i none)) (flat_map count_line (drop (suc i) counts)) _ _ refl
    c.in_err-say_count.ensures))
