-- What is kept of an expression without expanding it.
use Rattle.std.specs.Prelude.{◌≡◌, ℕ, ◌<◌, ◌≤◌, Bool, true}
use Rattle.rbbi_tree.specs.declared.syntax.Quant.{Quant}
use Rattle.rbbi_tree.specs.declared.syntax.Quant.TheVariants.{Once, Star, Plus, Quest}
use Rattle.rbbi_resolve.specs.declared.variables.Summary.{Summary}
use Rattle.rbbi_resolve.specs.Meanings.{Meaning, leaves_in, spells_empty}

-- the number shown is the lesser one of the exact number and the cap
pub record IsCapped (cap exact shown : ℕ) : Type 0 where
  pub within : shown ≤ cap
  pub below : shown < cap → exact ≡ shown
  pub past : shown ≡ cap → cap ≤ exact

-- the summary of these numbers
pub record Sums (summary : Summary) (leaf_number height_number : ℕ) (empty : Bool) : Type 0 where
  pub leaf_sum : IsCapped 8193 leaf_number summary.leaves
  pub height_sum : IsCapped 257 height_number summary.height
  pub empty_sum : summary.spells_empty ≡ empty

-- the summary of this meaning and height
abbrev pub Summarizes : Summary → Meaning → ℕ → Type 0
Summarizes summary meaning height = Sums summary (leaves_in meaning) height (spells_empty meaning)

-- whether the repetition of an atom spells the empty word, by whether the atom does
abbrev pub empty_of_quant : Quant → Bool → Bool
empty_of_quant Once empty = empty
empty_of_quant Star empty = true
empty_of_quant Plus empty = empty
empty_of_quant Quest empty = true
