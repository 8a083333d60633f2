use Rattle.std.proofs.Common.{◌++◌, refl, ap, sym, ◌∙◌}
use Rattle.std.specs.Prelude.{decimal}
use Rattle.std.proofs.lemmas.Result.{err_from_is_err_and}
use Rattle.rbbi_text.proofs.Appended.{front_first, appends_then}
use Rattle.rbbi_script.proofs.statuses.LineEnd.say.Goals as goal

pub returns-in_err-append : goal.returns-in_err-append
returns-in_err-append c =
    let told = err_from_is_err_and c.from_residual.result c.from_residual.ensures.1 in
    rw told.1 (front_first c.args.reply.now.items (decimal c.args.at.now) c.args.self.now _ _ refl c.in_err-append.ensures)

pub returns : goal.returns
returns c =
    appends_then c.args.reply.now.items (decimal c.args.at.now) c.deref.result.now _ _ _ _ c.in_ok-append.ensures
    (ap (λ x. decimal c.args.at.now ++ x) (sym (c.deref.ensures.value ∙ c.self.view_is))) c.append-2.ensures
