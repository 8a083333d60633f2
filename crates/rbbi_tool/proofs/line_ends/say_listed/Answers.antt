use Rattle.std.proofs.Common.{◌≡◌, [], ◌∷◌, ◌++◌, get_or, sym, ap, ◌∙◌, subst, append_assoc}
use Rattle.std.specs.Prelude.{decimal}
use Rattle.std.proofs.lemmas.List.{get_or-map}
use Rattle.rbbi_model.specs.Lines.{joined_statuses}
use Rattle.rbbi_model.specs.Tables.{statuses_of}
use Rattle.rbbi_text.specs.Appending.{Appends}
use Rattle.rbbi_script.specs.LineEnds.{line_end}
use Rattle.rbbi_tool.proofs.line_ends.say_listed.Goals as goal

pub returns : goal.returns
returns c =
    let lists = c.args.table.now.lists in
    let end = c.index-ends-list.result in
    let statuses = statuses_of c.args.table.now c.args.list in
    let is : end ≡ line_end statuses =
    c.index-ends-list.is ∙ ap (λ es. get_or es c.args.list end) c.requires.ends ∙ get_or-map line_end lists c.args.list [] end c.requires.within in
    subst (λ line. Appends c.args.made.now.items line c.say.result c.say.new.reply.items)
    (ap (λ e. decimal c.args.at.now ++ e) is ∙ sym (append_assoc (decimal c.args.at.now) (32 ∷ joined_statuses statuses) (10 ∷ []))) c.say.ensures
