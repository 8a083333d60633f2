use Rattle.std.proofs.Common.{◌≡◌, ◌++◌, ap, ◌∙◌, append_assoc}
use Rattle.std.specs.Prelude.{codes}
use Rattle.std.specs.Fmt.{decimal}
use Rattle.rbbi_model.specs.Lines.{line}
use Rattle.rbbi_tool.proofs.command.compile.numbers_line.Goals as goal

pub returns : goal.returns
returns c =
    let is : c.into_bytes.result.items ≡ line (codes "categories " ++ decimal c.categories-categories.result ++ codes " rows " ++ decimal c.rows-rows.result
    ++ codes " lists " ++ decimal c.lists-lists.result ++ codes " slashes " ++ decimal c.slashes-slashes.result ++ codes " safe "
    ++ decimal c.safe_count-safe.result) =
    ap (λ v. v.items) c.into_bytes.ensures.value ∙ c.in_ok-line.ensures.ok ∙ simp append_assoc in
    is
    ∙ (λ i. line (codes "categories " ++ decimal (c.categories-categories.ensures i) ++ codes " rows " ++ decimal (c.rows-rows.ensures i)
    ++ codes " lists " ++ decimal (c.lists-lists.ensures i) ++ codes " slashes " ++ decimal (c.slashes-slashes.ensures i) ++ codes " safe "
    ++ decimal (c.safe_count-safe.ensures i)))
