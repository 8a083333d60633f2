use Rattle.std.proofs.Common.{suc, take, drop, get_or, refl}
use Rattle.std.specs.List.{flat_map}
use Rattle.std.proofs.lemmas.Result.{err_from_is_err_and}
use Rattle.rbbi_script.specs.inner.Statuses.{next_status}
use Rattle.rbbi_text.proofs.Appended.{front_first, front_later}
use Rattle.rbbi_script.proofs.JoinedStatuses.{others_parts}
use Rattle.rbbi_script.proofs.statuses.say_others.Goals as goal

pub returns-in_err-say_next : goal.returns-in_err-say_next
returns-in_err-say_next c =
    let told = err_from_is_err_and c.from_residual.result c.from_residual.ensures.1 in
    let statuses = c.args.statuses.now in
    let i = c.loop-status.status-index in
    rw told.1
    (front_later c.args.reply.now.items (flat_map next_status (take i statuses)) _ _ c.loop-status.reply.items _ c.loop-status.invariant
    (others_parts statuses i 0 c.loop-status-test.true)
    (front_first c.loop-status.reply.items (next_status (get_or statuses i 0)) (flat_map next_status (drop (suc i) statuses)) _ _ refl
    c.in_err-say_next.ensures))
