use Rattle.std.proofs.Common.{List, sym, ap, ◌∙◌}
use Rattle.std.proofs.lemmas.List.{nil_from_length}
use Rattle.ucd_breaks.specs.declared.LineBreak.{LineBreak}
use Rattle.rbbi_annexes.specs.LineBreaks.{one_of}
use Rattle.rbbi_annexes.proofs.lines.items.one_of.Goals as goal

pub returns : goal.returns
unfolding one_of
returns c =
    sym (c.loop-class.invariant ∙ ap (λ (rest : List LineBreak). one_of rest c.args.item) (nil_from_length c.loop-class.rest.now c.in_default.ensures.cases))
