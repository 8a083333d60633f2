-- The words of the text are asked one by one.
use Rattle.std.proofs.Common.{bytes_eq, lit<, rules, tests}
use Rattle.std.proofs.lemmas.Iterator.Search.{any_from_yields_List}
use Rattle.std.proofs.lemmas.Iterator.Splits.{YieldsList-from_str_split}
use Rattle.rbbi_props.specs.LooseForms.{loose}
use Rattle.rbbi_props.proofs.run_file.has_loose_name.Goals as goal

pub returns : goal.returns
returns c =
    any_from_yields_List (λ other. bytes_eq (loose other) (loose c.args.name.now)) _ _ _ c.any.ensures.ran
    (YieldsList-from_str_split 32 c.args.names.now (lit< tt) c.split.ensures.text c.split.ensures.has_more c.split.ensures.pattern)
    (λ x b q k. search (rules, tests))
