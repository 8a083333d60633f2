use Rattle.std.proofs.Common.{ap}
use Rattle.std.specs.Prelude.{slice_index}
use Rattle.rbbi_demo.specs.Generator.{characters, drawn_character}
use Rattle.rbbi_demo.proofs.generator.Generator.character.Goals as goal

pub returns-clause-character : goal.returns-clause-character
unfolding drawn_character
returns-clause-character c = ap (slice_index characters) c.below.ensures.number
