use Rattle.std.proofs.Common.{[], ◌∷◌, refl}
use Rattle.std.specs.Prelude.{decimal}
use Rattle.std.proofs.lemmas.Result.{err_from_is_err_and}
use Rattle.rbbi_text.proofs.Appended.{front_first, appends_then}
use Rattle.rbbi_script.proofs.saying.say_number.Goals as goal

pub returns-in_err-append_number : goal.returns-in_err-append_number
returns-in_err-append_number c =
    let told = err_from_is_err_and c.from_residual.result c.from_residual.ensures.1 in
    rw told.1 (front_first c.args.reply.now.items (decimal c.args.number) (10 ∷ []) _ _ refl c.in_err-append_number.ensures)

pub returns : goal.returns
returns c =
    appends_then c.args.reply.now.items (decimal c.args.number) (10 ∷ []) _ _ _ _ c.in_ok-append_number.ensures refl c.append.ensures
