use Rattle.std.proofs.Common.{◌<◌, ◌++◌, length, get_or, ap, sym, ◌∙◌, arith}
use Rattle.std.specs.Prelude.{decimal}
use Rattle.std.specs.List.{flat_map}
use Rattle.std.proofs.lemmas.Bool.{eqb-false}
use Rattle.std.proofs.lemmas.List.{take_rest}
use Rattle.rbbi_script.specs.inner.Statuses.{next_status}
use Rattle.rbbi_text.proofs.Appended.{appends_then}
use Rattle.rbbi_script.proofs.JoinedStatuses.{joined_first}
use Rattle.rbbi_script.proofs.statuses.say_joined.Goals as goal

pub returns : goal.returns
returns c =
    let list = c.args.list.now in
    let filled = eqb-false _ _ (sym c.is_empty.ensures ∙ c.if-is_empty.false) in
    let some : 0 < length list = omega arith in
    appends_then c.args.reply.now.items (decimal (get_or list 0 0)) _ _ _ _ _ c.in_ok-append_number.ensures
    (joined_first list some ∙ ap (λ rest. decimal (get_or list 0 0) ++ flat_map next_status rest) (sym (take_rest list 1))) c.say_others.ensures
