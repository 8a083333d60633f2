-- The syntax trees of rule files, as the specification has them.
use Rattle.std.specs.Prelude.{ℕ, Bool, List, [], ◌∷◌, Option}
use Rattle.rbbi_tree.specs.declared.syntax.Quant.{Quant}
use Rattle.rbbi_tree.specs.declared.syntax.Join.{Join}

mutual
  -- a set in square brackets: the place of its bracket, whether it is negated, and its parts
  pub data SetSyntax : Type 0 where
    set_of : (place : ℕ) → (negated : Bool) → PartsTree → SetSyntax

  -- the parts of a set, from first to last
  pub data PartsTree : Type 0 where
    no_parts : PartsTree
    part : PartTree → PartsTree → PartsTree

  -- a part of a set: the place of its item, and how the item is joined with what stands before it
  pub data PartTree : Type 0 where
    joined : (place : ℕ) → Join → SetItemTree → PartTree

  -- what is joined to a set
  pub data SetItemTree : Type 0 where
    set_character : (code : ℕ) → SetItemTree
    set_range : (first last : ℕ) → SetItemTree
    set_name : (name : List ℕ) → SetItemTree
    set_property : (negated : Bool) → (name : List ℕ) → (value : Option (List ℕ)) → SetItemTree
    set_within : SetSyntax → SetItemTree

mutual
  -- the alternatives of an expression, from first to last
  pub data ExprTree : Type 0 where
    no_alternatives : ExprTree
    alternative : SeqTree → ExprTree → ExprTree

  -- the items of a sequence, from first to last
  pub data SeqTree : Type 0 where
    no_items : SeqTree
    item : ItemTree → SeqTree → SeqTree

  -- an atom, with the place of its first token, and how often it stands
  pub data ItemTree : Type 0 where
    placed : (place : ℕ) → AtomTree → Quant → ItemTree

  -- what stands at one place of a sequence
  pub data AtomTree : Type 0 where
    character : (code : ℕ) → (bare : Bool) → AtomTree
    quoted : (characters : List ℕ) → AtomTree
    any : AtomTree
    name : (name : List ℕ) → AtomTree
    property : (negated : Bool) → (name : List ℕ) → (value : Option (List ℕ)) → AtomTree
    set : SetSyntax → AtomTree
    group : ExprTree → AtomTree

-- a statement: a lone semicolon; a control; a variable and what it stands for; or a rule, with the place of its
-- first token, whether a caret stands first, its front, the place of its slash and its rest, and its tag
pub data StatementTree : Type 0 where
  nothing : StatementTree
  control : (name : List ℕ) → (place : ℕ) → StatementTree
  assign : (name : List ℕ) → (place : ℕ) → ExprTree → StatementTree
  rule : (place : ℕ) → (no_chain_in : Bool) → (front : ExprTree) → (slash : Option ℕ) → (rest : Option ExprTree) → (tag : Option ℕ) → StatementTree

-- the expression with these alternatives
abbrev pub expr_of : List SeqTree → ExprTree
expr_of [] = no_alternatives
expr_of (s ∷ more) = alternative s (expr_of more)

-- the sequence of these items
abbrev pub seq_of : List ItemTree → SeqTree
seq_of [] = no_items
seq_of (i ∷ more) = item i (seq_of more)

-- these parts
abbrev pub parts_of : List PartTree → PartsTree
parts_of [] = no_parts
parts_of (p ∷ more) = part p (parts_of more)
