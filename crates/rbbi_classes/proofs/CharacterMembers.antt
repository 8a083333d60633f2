-- The members of the characters of classes.
use Rattle.std.proofs.Common.{ℕ, ◌↔◌, Decides}
use Rattle.std.proofs.lemmas.Bool.{leb-true, le-leb}
use Rattle.std.proofs.lemmas.Bool.Decides.{Decides-and, Decides-not}
use Rattle.rbbi_model.specs.Words.{IsSurrogate}
use Rattle.rbbi_model.specs.Ranges.{Has}
use Rattle.rbbi_classes.specs.Classes.{ClassBits, HasMember}
use Rattle.rbbi_classes.specs.Divisions.{ClassDivision, HasDivided, stand_in}
use Rattle.rbbi_classes.specs.RangesWhere.{ranges_where}
use Rattle.rbbi_classes.specs.CharacterSets.{is_character_of}
use Rattle.rbbi_sets.proofs.Coverage.{Decides-is_between}
use Rattle.rbbi_classes.proofs.RangesWhere.{ranges_where-has}

-- the test decides whether a code point is a character of the classes
Decides-character : (division : ClassDivision) (set : ClassBits) (c : ℕ) →
    Decides (is_character_of division set c) (¬ IsSurrogate c × HasMember division.bounds set (stand_in division c))
Decides-character division set c =
    Decides-and _ _ (Decides-not _ (Decides-is_between 0xD800 0xDFFF c))
    (Decides-and _ _ (leb-true (stand_in division c) 0x10FFFF, le-leb (stand_in division c) 0x10FFFF) (λ t. t, λ t. t))

-- the ranges of those that pass have the characters of the classes
pub has-characters : (division : ClassDivision) (set : ClassBits) (c : ℕ) →
    Has (ranges_where (is_character_of division set)) c ↔ (HasDivided division set c × ¬ IsSurrogate c)
has-characters division set c =
    let has = ranges_where-has (is_character_of division set) c in
    let test = Decides-character division set c in (
      λ h. let p = has.0 h in let d = test.0 p.1 in ((p.0, d.1), d.0),
      λ m. has.1 (m.0.0, test.1 (m.1, m.0.1)),
    )
