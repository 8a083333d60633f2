-- A law of lists of ranges.
use Rattle.std.specs.Prelude.{ℕ, ◌≡◌, ◌↔◌, List}
use Rattle.rbbi_model.specs.Ranges.{Range, Has}
use Rattle.rbbi_sets.specs.Rising.{AreRising}

-- two lists of the form of a set that have the same members are equal
abbrev pub MembersDetermine : Type 0
MembersDetermine =
    (left right : List Range) → AreRising left → AreRising right → ((c : ℕ) → Has left c ↔ Has right c) → left ≡ right
