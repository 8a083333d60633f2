-- What sets of characters hold.
use Rattle.std.specs.Prelude.{ℕ, Bool, not, ◌&&◌, nat_le, List}
use Rattle.rbbi_model.specs.Ranges.{Range}
use Rattle.rbbi_sets.specs.Covers.{is_between}
use Rattle.rbbi_classes.specs.Classes.{class_of, class_bit, ClassBits}
use Rattle.rbbi_classes.specs.Divisions.{ClassDivision, stand_in}
use Rattle.rbbi_classes.specs.RangesWhere.{ranges_where}

-- whether the code point is a character, no surrogate, of these classes of a division, by the code point that stands for all of its class
abbrev pub is_character_of : ClassDivision → ClassBits → ℕ → Bool
is_character_of division set c =
    not (is_between 0xD800 0xDFFF c) && (nat_le (stand_in division c) 0x10FFFF && class_bit set (class_of division.bounds (stand_in division c)))

-- the characters of the classes, as ranges that rise and neither overlap nor touch
abbrev pub characters_of : ClassDivision → ClassBits → List Range
characters_of division set = ranges_where (is_character_of division set)
