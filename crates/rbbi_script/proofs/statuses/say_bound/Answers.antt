use Rattle.std.proofs.Common.{[], ◌∷◌, ◌++◌, refl, ap, sym, ◌∙◌, append_assoc}
use Rattle.std.specs.Prelude.{decimal}
use Rattle.std.proofs.lemmas.Result.{err_from_is_err_and}
use Rattle.rbbi_model.specs.Lines.{joined_statuses}
use Rattle.rbbi_text.proofs.Appended.{front_first, front_later, appends_then}
use Rattle.rbbi_script.proofs.statuses.say_bound.Goals as goal

pub returns-in_err-append_number : goal.returns-in_err-append_number
returns-in_err-append_number c =
    let told = err_from_is_err_and c.from_residual.result c.from_residual.ensures.1 in
    rw told.1
    (front_first c.args.reply.now.items (decimal c.args.at) (32 ∷ (joined_statuses c.args.list.now ++ 10 ∷ [])) _ _
    (append_assoc (decimal c.args.at) (32 ∷ joined_statuses c.args.list.now) (10 ∷ [])) c.in_err-append_number.ensures)

pub returns-in_err-append : goal.returns-in_err-append
returns-in_err-append c =
    let told = err_from_is_err_and c.from_residual-in_err-append.result c.from_residual-in_err-append.ensures.1 in
    rw told.1
    (front_later c.args.reply.now.items (decimal c.args.at) (32 ∷ (joined_statuses c.args.list.now ++ 10 ∷ [])) _ c.append_number.new.out.items _
    c.in_ok-append_number.ensures
    (append_assoc (decimal c.args.at) (32 ∷ joined_statuses c.args.list.now) (10 ∷ []))
    (front_first c.append_number.new.out.items (32 ∷ []) (joined_statuses c.args.list.now ++ 10 ∷ []) _ _ refl c.in_err-append.ensures))

pub returns : goal.returns
returns c =
    appends_then c.args.reply.now.items (decimal c.args.at ++ 32 ∷ []) (joined_statuses c.args.list.now ++ 10 ∷ []) _ _ _ _
    (c.in_ok-append.ensures ∙ ap (λ x. x ++ 32 ∷ []) c.in_ok-append_number.ensures ∙ append_assoc c.args.reply.now.items (decimal c.args.at) (32 ∷ []))
    (append_assoc (decimal c.args.at) (32 ∷ joined_statuses c.args.list.now) (10 ∷ [])
    ∙ sym (append_assoc (decimal c.args.at) (32 ∷ []) (joined_statuses c.args.list.now ++ 10 ∷ [])))
    c.say_list.ensures
