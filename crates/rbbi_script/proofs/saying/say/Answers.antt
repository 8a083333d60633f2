use Rattle.std.proofs.Common.{[], ◌∷◌, ◌++◌, refl}
use Rattle.std.specs.Prelude.{codes, decimal}
use Rattle.std.proofs.lemmas.Result.{err_from_is_err_and}
use Rattle.rbbi_text.proofs.Appended.{front_first}
use Rattle.rbbi_script.proofs.saying.say.Goals as goal

pub returns-in_err-append-in-Edited : goal.returns-in_err-append-in-Edited
returns-in_err-append-in-Edited c =
    let told = err_from_is_err_and c.from_residual.result c.from_residual.ensures.1 in
    rw (told.1, c.in-Edited.is)
    (front_first c.args.reply.now.items (codes "ok ") (decimal c.in-Edited.length ++ 10 ∷ []) _ _ refl c.in_err-append-in-Edited.ensures)
