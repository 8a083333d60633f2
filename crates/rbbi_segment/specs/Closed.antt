-- Lines whose segments don't depend on what follows them.
use Rattle.std.specs.Prelude.{◌≡◌, ℕ, ◌<◌, List, [], ◌∷◌, ◌++◌, length, Option, Some, None}
use Rattle.rbbi_model.specs.Tables.{Table, category_of, step}
use Rattle.rbbi_model.specs.ValidTables.{LeadsToZero}
use Rattle.rbbi_filter.specs.Pairs.{turn}
use Rattle.rbbi_filter.specs.declared.filter.Filter.{Filter}
use Rattle.rbbi_filter.specs.declared.filter.Filter.TheVariants.{Suppressing, Turning}

-- after the character each row leads to row 0 only, so no search reads on
abbrev pub Closes : Table → ℕ → Type 0
Closes table c = (row : ℕ) → row < length table.rows → LeadsToZero table (step table row (category_of table.ranges c))

-- After a line feed no search reads on, and the filter suppresses no boundary. (It may suppress one only before the text's end.)
abbrev pub EndLines : Option Filter → Table → Type 0
EndLines None table = Closes table 10
EndLines (Some (Suppressing list)) table = ⊥
EndLines (Some (Turning pairs)) table = Closes table (turn pairs 10)

-- the characters end with a line feed
abbrev pub IsLine : List ℕ → Type 0
IsLine x = (front : List ℕ) × (x ≡ front ++ 10 ∷ [])
