use Rattle.std.proofs.Common.{[], ◌∷◌, refl}
use Rattle.std.specs.Prelude.{decimal}
use Rattle.std.proofs.lemmas.Result.{err_from_is_err_and}
use Rattle.rbbi_text.proofs.Appended.{front_first}
use Rattle.rbbi_script.proofs.statuses.say_next.Goals as goal

pub returns-in_err-append : goal.returns-in_err-append
returns-in_err-append c =
    let told = err_from_is_err_and c.from_residual.result c.from_residual.ensures.1 in
    rw told.1 (front_first c.args.reply.now.items (44 ∷ []) (decimal c.args.status) _ _ refl c.in_err-append.ensures)
