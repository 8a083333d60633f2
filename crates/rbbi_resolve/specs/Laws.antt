-- Laws of faults and meanings.
use Rattle.std.specs.Prelude.{◌≡◌, ℕ, ◌⊎◌, ◌↔◌, Bool, true, Some, None, List, []}
use Rattle.rbbi_model.specs.Words.{IsCodePoint, IsSurrogate}
use Rattle.rbbi_model.specs.SetTrees.{SetTree, InSet}
use Rattle.rbbi_model.specs.Spelling as spelling
use Rattle.rbbi_model.specs.Spelling.{Spells}
use Rattle.rbbi_model.specs.Rules as model
use Rattle.rbbi_model.specs.Rules.{AreLawful}
use Rattle.rbbi_props.specs.Rows.{File}
use Rattle.rbbi_tree.specs.Trees.{StatementTree}
use Rattle.rbbi_tree.specs.WellMade.{AreWellMade}
use Rattle.rbbi_resolve.specs.TextCharacters.{AreOfCharacters}
use Rattle.rbbi_resolve.specs.declared.fault.Fault.{Fault}
use Rattle.rbbi_resolve.specs.SetValues.{HasProperty}
use Rattle.rbbi_resolve.specs.Meanings.{Meaning, Stands, spells_empty}
use Rattle.rbbi_resolve.specs.Faults.{noted, is_empty_value}
use Rattle.rbbi_resolve.specs.Refusals.{IsEarliest, IsReportedFault}
use Rattle.rbbi_resolve.specs.Files.{faults_of, active_rules}
use Rattle.rbbi_resolve.specs.Counts.{size_fault}
use Rattle.rbbi_resolve.specs.Outcomes.{Means}

-- a file means one list of rules at most
abbrev pub HasOneMeaning : Type 0
HasOneMeaning =
    (files : List File) (ignored : Bool) (statements : List StatementTree) (rules others : List model.Rule) →
    Means files ignored statements rules → Means files ignored statements others → rules ≡ others

-- what is noted of faults is the earliest of them, and nothing if there is none
pub record NotesLeast (faults : List Fault) : Type 0 where
  pub least : (fault : Fault) → noted None faults ≡ Some fault → IsEarliest faults fault
  pub none : noted None faults ≡ None → faults ≡ []

-- The rules that a file means are lawful if its statements are as the parser gives them: well made, and of characters.
abbrev pub MeansLawfulRules : Type 0
MeansLawfulRules =
    (files : List File) (ignored : Bool) (statements : List StatementTree) (rules : List model.Rule) →
    AreWellMade statements → AreOfCharacters statements → Means files ignored statements rules → AreLawful rules

-- the file with its end is refused for a fault
abbrev pub HasFault : List File → Bool → List StatementTree → ℕ → Type 0
HasFault files ignored statements end = (fault : Fault) × IsReportedFault (faults_of files ignored statements) (size_fault end
    (active_rules files statements)) fault

-- such a file means rules or has a fault
abbrev pub HasMeaningOrFault : Type 0
HasMeaningOrFault =
    (files : List File) (ignored : Bool) (statements : List StatementTree) (end : ℕ) → AreWellMade statements → AreOfCharacters statements →
    ((rules : List model.Rule) × Means files ignored statements rules) ⊎ HasFault files ignored statements end

-- and not both
abbrev pub HasNotBoth : Type 0
HasNotBoth =
    (files : List File) (ignored : Bool) (statements : List StatementTree) (end : ℕ) (rules : List model.Rule) →
    Means files ignored statements rules → HasFault files ignored statements end → ⊥

-- a set holds no character, as faults have it, exactly if no code point but surrogates is in it
abbrev pub HasNoCharacterIfEmpty : Type 0
HasNoCharacterIfEmpty =
    (files : List File) (tree : SetTree) →
    (is_empty_value files (Some tree) ≡ true) ↔ ((c : ℕ) → IsCodePoint c → InSet (HasProperty files) tree c → IsSurrogate c)

-- a front or a rest spells the empty word, as faults have it, exactly if its tree spells it
abbrev pub SpellsEmptyIfTreeDoes : Type 0
SpellsEmptyIfTreeDoes =
    (files : List File) (meaning : Meaning) (tree : spelling.Tree) → Stands files meaning tree → (spells_empty meaning ≡ true) ↔ Spells tree []
