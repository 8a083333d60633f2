-- What the expressions of a rule file mean, and how high they are, in the context before them.
use Rattle.std.specs.Prelude.{ℕ, ◌+◌, max, Option, Some, None, List, [], ◌∷◌}
use Rattle.rbbi_model.specs.SetTrees as model
use Rattle.rbbi_model.specs.Spelling.{Star, Plus, Quest}
use Rattle.rbbi_tree.specs.Trees.{ExprTree, SeqTree, ItemTree, AtomTree, no_alternatives, alternative, no_items, item, placed, character, quoted, any, name}
use Rattle.rbbi_tree.specs.Trees.{property, set, group}
use Rattle.rbbi_tree.specs.declared.syntax.Quant.{Quant}
use Rattle.rbbi_tree.specs.declared.syntax.Quant.TheVariants as quant
use Rattle.rbbi_resolve.specs.Meanings.{Meaning, Leaf, Empty, Never, Then, Either, Repeat}
use Rattle.rbbi_resolve.specs.SetValues.{value_of_set, value_of_property}
use Rattle.rbbi_resolve.specs.Contexts.{Variable, Set, Expression, Context, variable_of, value_of_name}

-- one leaf with the set, which is empty if it has no value
abbrev pub leaf_of : Option model.SetTree → Meaning
leaf_of None = Leaf model.Nothing
leaf_of (Some tree) = Leaf tree

-- the characters, one after another
abbrev pub word_of : List ℕ → Meaning
word_of [] = Empty
word_of (c ∷ []) = Leaf (model.Character c)
word_of (c ∷ d ∷ word) = Then (Leaf (model.Character c)) (word_of (d ∷ word))

-- what a variable means as an atom; an undefined one spells no word
abbrev pub meaning_of_variable : Option Variable → Meaning
meaning_of_variable None = Never
meaning_of_variable (Some (Set value)) = leaf_of value
meaning_of_variable (Some (Expression meaning height)) = meaning

-- the repetition by the quantifier
abbrev pub repeated : Quant → Meaning → Meaning
repeated quant.Once meaning = meaning
repeated quant.Star meaning = Repeat Star meaning
repeated quant.Plus meaning = Repeat Plus meaning
repeated quant.Quest meaning = Repeat Quest meaning

abbrev mutual
  -- the choice of the sequences
  pub meaning_of_expr : Context → ExprTree → Meaning
  meaning_of_expr context no_alternatives = Never
  meaning_of_expr context (alternative first no_alternatives) = meaning_of_seq context first
  meaning_of_expr context (alternative first (alternative second more)) =
      Either (meaning_of_seq context first) (meaning_of_expr context (alternative second more))

  -- the sequence of the items
  pub meaning_of_seq : Context → SeqTree → Meaning
  meaning_of_seq context no_items = Empty
  meaning_of_seq context (item first no_items) = meaning_of_item context first
  meaning_of_seq context (item first (item second more)) =
      Then (meaning_of_item context first) (meaning_of_seq context (item second more))

  -- the repetition of the atom
  pub meaning_of_item : Context → ItemTree → Meaning
  meaning_of_item context (placed place atom quant) = repeated quant (meaning_of_atom context atom)

  -- A character, a set, a property and `.` are a leaf each, and so is each character of a quoted sequence.
  pub meaning_of_atom : Context → AtomTree → Meaning
  meaning_of_atom context (character c bare) = Leaf (model.Character c)
  meaning_of_atom context (quoted word) = word_of word
  meaning_of_atom context any = Leaf (model.Others model.Nothing)
  meaning_of_atom context (name word) = meaning_of_variable (variable_of context word)
  meaning_of_atom context (property negated word value) = leaf_of (value_of_property context.files negated word value)
  meaning_of_atom context (set s) = leaf_of (value_of_set context.files (value_of_name context) s)
  meaning_of_atom context (group inner) = meaning_of_expr context inner

-- the height that a quantifier adds
abbrev pub height_of_quant : Quant → ℕ
height_of_quant quant.Once = 0
height_of_quant quant.Star = 1
height_of_quant quant.Plus = 1
height_of_quant quant.Quest = 1

-- a quoted sequence of two characters or more has height 1
abbrev pub height_of_word : List ℕ → ℕ
height_of_word [] = 0
height_of_word (c ∷ []) = 0
height_of_word (c ∷ d ∷ word) = 1

-- a variable that is no set has 1 more than its expression
abbrev pub height_of_variable : Option Variable → ℕ
height_of_variable None = 0
height_of_variable (Some (Set value)) = 0
height_of_variable (Some (Expression meaning height)) = height + 1

abbrev mutual
  -- two sequences or more have 1 more than the highest of them
  pub height_of_expr : Context → ExprTree → ℕ
  height_of_expr context no_alternatives = 0
  height_of_expr context (alternative first no_alternatives) = height_of_seq context first
  height_of_expr context (alternative first (alternative second more)) =
      max (height_of_seq context first) (highest_of_expr context (alternative second more)) + 1

  -- the height of the highest sequence
  pub highest_of_expr : Context → ExprTree → ℕ
  highest_of_expr context no_alternatives = 0
  highest_of_expr context (alternative first more) = max (height_of_seq context first) (highest_of_expr context more)

  -- two items or more have 1 more than the highest of them
  pub height_of_seq : Context → SeqTree → ℕ
  height_of_seq context no_items = 0
  height_of_seq context (item first no_items) = height_of_item context first
  height_of_seq context (item first (item second more)) =
      max (height_of_item context first) (highest_of_seq context (item second more)) + 1

  -- the height of the highest item
  pub highest_of_seq : Context → SeqTree → ℕ
  highest_of_seq context no_items = 0
  highest_of_seq context (item first more) = max (height_of_item context first) (highest_of_seq context more)

  -- a quantified atom has 1 more than the atom
  pub height_of_item : Context → ItemTree → ℕ
  height_of_item context (placed place atom quant) = height_of_atom context atom + height_of_quant quant

  -- a leaf has 0, and brackets have 1 more than what stands in them
  pub height_of_atom : Context → AtomTree → ℕ
  height_of_atom context (character c bare) = 0
  height_of_atom context (quoted word) = height_of_word word
  height_of_atom context any = 0
  height_of_atom context (name word) = height_of_variable (variable_of context word)
  height_of_atom context (property negated word value) = 0
  height_of_atom context (set s) = 0
  height_of_atom context (group inner) = height_of_expr context inner + 1

-- the set variable, set or property that an atom is, with its value
abbrev pub set_of_variable : Option Variable → Option (Option model.SetTree)
set_of_variable None = None
set_of_variable (Some (Set value)) = Some value
set_of_variable (Some (Expression meaning height)) = None

abbrev pub set_of_atom : Context → AtomTree → Option (Option model.SetTree)
set_of_atom context (character c bare) = None
set_of_atom context (quoted word) = None
set_of_atom context any = None
set_of_atom context (name word) = set_of_variable (variable_of context word)
set_of_atom context (property negated word value) = Some (value_of_property context.files negated word value)
set_of_atom context (set s) = Some (value_of_set context.files (value_of_name context) s)
set_of_atom context (group inner) = None

-- the set that an expression is: one atom, with no quantifier and no round brackets
abbrev pub set_of_item : Context → ItemTree → Option (Option model.SetTree)
set_of_item context (placed place atom quant.Once) = set_of_atom context atom
set_of_item context (placed place atom quant.Star) = None
set_of_item context (placed place atom quant.Plus) = None
set_of_item context (placed place atom quant.Quest) = None

abbrev pub set_of_expr : Context → ExprTree → Option (Option model.SetTree)
set_of_expr context no_alternatives = None
set_of_expr context (alternative no_items more) = None
set_of_expr context (alternative (item first (item second rest)) more) = None
set_of_expr context (alternative (item first no_items) (alternative second more)) = None
set_of_expr context (alternative (item first no_items) no_alternatives) = set_of_item context first

-- the variable that the expression makes of a name
abbrev pub variable_with : Option (Option model.SetTree) → Meaning → ℕ → Variable
variable_with None meaning height = Expression meaning height
variable_with (Some value) meaning height = Set value

abbrev pub variable_for : Context → ExprTree → Variable
variable_for context expr = variable_with (set_of_expr context expr) (meaning_of_expr context expr) (height_of_expr context expr)
