-- What a reader of statements may rely on.
use Rattle.std.specs.Prelude.{◌<◌, ◌≤◌, ℕ, List, length, Option, Some, None, IfSome}
use Rattle.std.specs.List.{AllByRecursion}
use Rattle.rbbi_tree.specs.Trees.{ExprTree, SeqTree, ItemTree, AtomTree, no_alternatives, alternative, no_items, item, placed, quoted, group, StatementTree}
use Rattle.rbbi_tree.specs.Trees.{assign, rule}

-- an expression has a sequence
abbrev pub HasSeq : ExprTree → Type 0
HasSeq no_alternatives = ⊥
HasSeq (alternative first more) = Unit {0}

-- a sequence has an item
abbrev pub HasItem : SeqTree → Type 0
HasItem no_items = ⊥
HasItem (item first more) = Unit {0}

abbrev mutual
  -- each of the sequences has an item, and its items are well made
  pub AreWellMadeSeqs : ExprTree → Type 0
  AreWellMadeSeqs no_alternatives = Unit {0}
  AreWellMadeSeqs (alternative first more) = HasItem first × AreWellMadeItems first × AreWellMadeSeqs more

  -- the atom of each of the items is well made
  pub AreWellMadeItems : SeqTree → Type 0
  AreWellMadeItems no_items = Unit {0}
  AreWellMadeItems (item first more) = IsWellMadeItem first × AreWellMadeItems more

  -- the item's atom is well made
  pub IsWellMadeItem : ItemTree → Type 0
  IsWellMadeItem (placed place atom quant) = IsWellMadeAtom atom

  -- a quoted sequence isn't empty, and a group has a sequence and is well made
  pub IsWellMadeAtom : AtomTree → Type 0
  IsWellMadeAtom (quoted word) = 0 < length word
  IsWellMadeAtom (group inner) = HasSeq inner × AreWellMadeSeqs inner
  IsWellMadeAtom atom = Unit {0}

-- an expression has a sequence, each of its sequences and of those within has an item, and no quoted sequence is empty
abbrev pub IsWellMadeExpr : ExprTree → Type 0
IsWellMadeExpr e = HasSeq e × AreWellMadeSeqs e

-- a place of a slash and a rest come together, and the rest is well made
abbrev pub IsWellMadeRest : Option ℕ → Option ExprTree → Type 0
IsWellMadeRest None None = Unit {0}
IsWellMadeRest (Some slash) (Some rest) = IsWellMadeExpr rest
IsWellMadeRest slash rest = ⊥

-- the expressions of the statement are well made, a rule has the place of a slash exactly where it has a rest, and its
-- status number is at most 2,147,483,647
abbrev pub IsWellMade : StatementTree → Type 0
IsWellMade (assign word place e) = IsWellMadeExpr e
IsWellMade (rule place no_chain_in front slash rest tag) =
    IsWellMadeExpr front × IsWellMadeRest slash rest × IfSome tag (λ status. status ≤ 2147483647)
IsWellMade statement = Unit {0}

-- each statement is well made
abbrev pub AreWellMade : List StatementTree → Type 0
AreWellMade statements = AllByRecursion IsWellMade statements
