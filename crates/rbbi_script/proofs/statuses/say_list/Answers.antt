use Rattle.std.proofs.Common.{[], ◌∷◌, refl}
use Rattle.std.proofs.lemmas.Result.{err_from_is_err_and}
use Rattle.rbbi_model.specs.Lines.{joined_statuses}
use Rattle.rbbi_text.proofs.Appended.{front_first, appends_then}
use Rattle.rbbi_script.proofs.statuses.say_list.Goals as goal

pub returns-in_err-say_joined : goal.returns-in_err-say_joined
returns-in_err-say_joined c =
    let told = err_from_is_err_and c.from_residual.result c.from_residual.ensures.1 in
    rw told.1 (front_first c.args.reply.now.items (joined_statuses c.args.list.now) (10 ∷ []) _ _ refl c.in_err-say_joined.ensures)

pub returns : goal.returns
returns c =
    appends_then c.args.reply.now.items (joined_statuses c.args.list.now) (10 ∷ []) _ _ _ _ c.in_ok-say_joined.ensures refl c.append.ensures
