-- Statements of characters, as a text gives them.
use Rattle.std.specs.Prelude.{Option, Some, None, List}
use Rattle.std.specs.List.{AllByRecursion}
use Rattle.rbbi_model.specs.Words.{IsCharacter}
use Rattle.rbbi_tree.specs.Trees.{SetSyntax, PartsTree, PartTree, SetItemTree, set_of, no_parts, part, joined, set_character, set_range, set_name, set_property}
use Rattle.rbbi_tree.specs.Trees.{set_within}
use Rattle.rbbi_tree.specs.Trees.{ExprTree, SeqTree, ItemTree, AtomTree, no_alternatives, alternative, no_items, item, placed, character, quoted, any, name}
use Rattle.rbbi_tree.specs.Trees.{property, set, group}
use Rattle.rbbi_tree.specs.Trees.{StatementTree, nothing, control, assign, rule}

abbrev mutual
  -- the characters of a set are characters
  pub IsSetOfCharacters : SetSyntax → Type 0
  IsSetOfCharacters (set_of place negated parts) = ArePartsOfCharacters parts

  pub ArePartsOfCharacters : PartsTree → Type 0
  ArePartsOfCharacters no_parts = Unit {0}
  ArePartsOfCharacters (part first more) = IsPartOfCharacters first × ArePartsOfCharacters more

  pub IsPartOfCharacters : PartTree → Type 0
  IsPartOfCharacters (joined place join member) = IsMemberOfCharacters member

  pub IsMemberOfCharacters : SetItemTree → Type 0
  IsMemberOfCharacters (set_character c) = IsCharacter c
  IsMemberOfCharacters (set_range first last) = IsCharacter first × IsCharacter last
  IsMemberOfCharacters (set_name word) = Unit {0}
  IsMemberOfCharacters (set_property negated word value) = Unit {0}
  IsMemberOfCharacters (set_within inner) = IsSetOfCharacters inner

abbrev mutual
  -- the characters of an expression are characters
  pub IsOfCharacters : ExprTree → Type 0
  IsOfCharacters no_alternatives = Unit {0}
  IsOfCharacters (alternative first more) = IsSeqOfCharacters first × IsOfCharacters more

  pub IsSeqOfCharacters : SeqTree → Type 0
  IsSeqOfCharacters no_items = Unit {0}
  IsSeqOfCharacters (item first more) = IsItemOfCharacters first × IsSeqOfCharacters more

  pub IsItemOfCharacters : ItemTree → Type 0
  IsItemOfCharacters (placed place atom quant) = IsAtomOfCharacters atom

  pub IsAtomOfCharacters : AtomTree → Type 0
  IsAtomOfCharacters (character c bare) = IsCharacter c
  IsAtomOfCharacters (quoted word) = AllByRecursion IsCharacter word
  IsAtomOfCharacters any = Unit {0}
  IsAtomOfCharacters (name word) = Unit {0}
  IsAtomOfCharacters (property negated word value) = Unit {0}
  IsAtomOfCharacters (set s) = IsSetOfCharacters s
  IsAtomOfCharacters (group inner) = IsOfCharacters inner

abbrev pub IsRestOfCharacters : Option ExprTree → Type 0
IsRestOfCharacters None = Unit {0}
IsRestOfCharacters (Some rest) = IsOfCharacters rest

-- the characters of a statement are characters
abbrev pub IsStatementOfCharacters : StatementTree → Type 0
IsStatementOfCharacters nothing = Unit {0}
IsStatementOfCharacters (control word place) = Unit {0}
IsStatementOfCharacters (assign word place expr) = IsOfCharacters expr
IsStatementOfCharacters (rule place no_chain_in front slash rest tag) = IsOfCharacters front × IsRestOfCharacters rest

-- the characters of each statement are characters
abbrev pub AreOfCharacters : List StatementTree → Type 0
AreOfCharacters statements = AllByRecursion IsStatementOfCharacters statements
