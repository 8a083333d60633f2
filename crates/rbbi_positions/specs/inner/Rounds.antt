-- What may stand after a part that is repeated.
use Rattle.std.specs.Prelude.{ℕ, Bool, ◌||◌}
use Rattle.rbbi_model.specs.Spelling.{Tree}
use Rattle.rbbi_tree.specs.declared.syntax.Quant.{Quant}
use Rattle.rbbi_tree.specs.declared.syntax.Quant.TheVariants.{Once, Star, Plus, Quest}
use Rattle.rbbi_positions.specs.inner.Trees.{begins}

-- whether the next position may stand after a round of the part, where after the last round it may or not
abbrev pub behind_of : Quant → Tree → ℕ → ℕ → Bool → Bool
behind_of Once part first next behind = behind
behind_of Star part first next behind = behind || begins part first next
behind_of Plus part first next behind = behind || begins part first next
behind_of Quest part first next behind = behind
