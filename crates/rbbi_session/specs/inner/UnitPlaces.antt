-- The places that a number names, forward and back.
use Rattle.std.specs.Prelude.{◌≡◌, ◌≢◌, ℕ, ◌<◌, ◌≤◌, List, length, MatchBool}
use Rattle.rbbi_model.specs.declared.unit.Unit.{Unit as TextUnit}
use Rattle.rbbi_model.specs.Units.{offset_of}
use Rattle.rbbi_model.specs.UnitAnswers.{place_from}
use Rattle.rbbi_model.specs.Cover.{IsPlaceOf}
use Rattle.rbbi_text.specs.declared.units.Index.{Index}
use Rattle.rbbi_session.specs.Walks.{View, reported, Cover, CountsCharacters}

-- the places past this one lie past the number, and the others don't
pub record IsPlaceUpTo (unit : TextUnit) (x : List ℕ) (o at : ℕ) : Type 0 where
  pub up_to : (p : ℕ) → p ≤ length x → p ≤ at → offset_of unit x p ≤ o
  pub past : (p : ℕ) → p ≤ length x → at < p → o < offset_of unit x p

-- the places before this one lie before the number, and the others don't; and whether it lies at the number, or else no place does
pub record IsPlaceFrom (unit : TextUnit) (x : List ℕ) (o : ℕ) (index : Index) : Type 0 where
  pub at_is : index.at ≡ place_from unit x o
  pub before : (p : ℕ) → p ≤ length x → p < index.at → offset_of unit x p < o
  pub from : (p : ℕ) → p ≤ length x → index.at ≤ p → o ≤ offset_of unit x p
  pub whole : MatchBool index.whole ((index.at ≤ length x) × (offset_of unit x index.at ≡ o)) ((p : ℕ) → p ≤ length x → offset_of unit x p ≢ o)

-- a session by characters, whose boundaries cover its text, stands at one of them
pub record StandsAt {A Setting : Type 0} (view : View A Setting) (session : A) : Type 0 where
  pub cover : Cover view
  pub counts : CountsCharacters view
  pub at : IsPlaceOf (reported view session) (view.state session).cursor
