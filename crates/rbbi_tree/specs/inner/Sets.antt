-- What a token makes of a set that is being read. The grammar knows nothing of it.
use Rattle.std.specs.Prelude.{ℕ, Bool, true, false, List, [], ◌∷◌, Option, Some, None}
use Rattle.rbbi_lex.specs.declared.token.TokenKind.{TokenKind}
use Rattle.rbbi_lex.specs.declared.token.TokenKind.TheVariants.{Caret, Hyphen, Amp, Char, Name, Prop}
use Rattle.rbbi_tree.specs.Trees.{SetSyntax, PartsTree, PartTree, SetItemTree, set_of, no_parts, part, joined, set_character, set_range, set_name, set_property}
use Rattle.rbbi_tree.specs.Trees.{set_within}
use Rattle.rbbi_tree.specs.Grammar.{hyphen_at}
use Rattle.rbbi_tree.specs.declared.syntax.Join.{Join}
use Rattle.rbbi_tree.specs.declared.syntax.Join.TheVariants as join
use Rattle.rbbi_tree.specs.declared.set_level.SetState.{SetState}
use Rattle.rbbi_tree.specs.declared.set_level.SetState.TheVariants.{Opened, Begun, Apart, Character, Ranging, Operand, Both, Minus, Last}

-- a set so far: the place of its bracket, whether it is negated, its parts, the latest first, and what was read last
pub record SetLevelTree : Type 0 where
  pub place : ℕ
  pub negated : Bool
  pub parts : List PartTree
  pub state : SetState

-- a set that another one stands in: its parts, the latest first, and how the inner one is joined to them
pub record OuterSetTree : Type 0 where
  pub place : ℕ
  pub negated : Bool
  pub parts : List PartTree
  pub join : Join

-- the sets that are open, the outer ones from the innermost on
pub record SetsTree : Type 0 where
  pub innermost : SetLevelTree
  pub outers : List OuterSetTree

-- a set right after its bracket
abbrev pub new_set_level : ℕ → SetLevelTree
new_set_level place = record { place = place; negated = false; parts = []; state = Opened }

-- the set with these parts, after this
abbrev pub level_with : SetLevelTree → List PartTree → SetState → SetLevelTree
level_with s parts state = record { place = s.place; negated = s.negated; parts = parts; state = state }

-- the part of a lone character
abbrev pub character_at : ℕ → ℕ → PartTree
character_at c place = joined place join.Add (set_character c)

-- the parts, where no range comes of what was read last
abbrev pub settled : SetState → List PartTree → List PartTree
settled (Character c place) parts = character_at c place ∷ parts
settled state parts = parts

-- what a caret does
abbrev pub at_set_caret : SetState → SetLevelTree → Option SetLevelTree
at_set_caret Opened s = Some (record { place = s.place; negated = true; parts = s.parts; state = Begun })
at_set_caret state s = None

-- what a hyphen does
abbrev pub at_set_hyphen : ℕ → SetState → SetLevelTree → Option SetLevelTree
at_set_hyphen at Opened s = Some (level_with s (hyphen_at at ∷ s.parts) Apart)
at_set_hyphen at Begun s = Some (level_with s (hyphen_at at ∷ s.parts) Apart)
at_set_hyphen at Apart s = Some (level_with s s.parts (Last at))
at_set_hyphen at (Character c place) s = Some (level_with s s.parts (Ranging c place at))
at_set_hyphen at Operand s = Some (level_with s s.parts (Minus at))
at_set_hyphen at state s = None

-- what an ampersand does
abbrev pub at_set_amp : SetState → SetLevelTree → Option SetLevelTree
at_set_amp Operand s = Some (level_with s s.parts Both)
at_set_amp state s = None

-- what a character does
abbrev pub at_set_character : ℕ → ℕ → SetState → SetLevelTree → Option SetLevelTree
at_set_character d at (Character c place) s = Some (level_with s (character_at c place ∷ s.parts) (Character d at))
at_set_character d at (Ranging c place hyphen) s = Some (level_with s (joined place join.Add (set_range c d) ∷ s.parts) Apart)
at_set_character d at Both s = None
at_set_character d at (Minus hyphen) s = None
at_set_character d at (Last hyphen) s = None
at_set_character d at state s = Some (level_with s s.parts (Character d at))

-- how an operand is joined, where one may stand
abbrev pub join_in : SetState → Option Join
join_in (Ranging c place hyphen) = None
join_in Both = Some join.Both
join_in (Minus hyphen) = Some join.Minus
join_in (Last hyphen) = None
join_in state = Some join.Add

-- what an operand of one token does
abbrev pub at_set_operand : ℕ → SetItemTree → Option Join → SetLevelTree → Option SetLevelTree
at_set_operand at i None s = None
at_set_operand at i (Some j) s = Some (level_with s (joined at j i ∷ settled s.state s.parts) Operand)

-- what a token of this kind at this place does in a set, where it neither begins nor ends one
abbrev pub at_set_token : TokenKind → ℕ → SetLevelTree → Option SetLevelTree
at_set_token Caret place s = at_set_caret s.state s
at_set_token Hyphen place s = at_set_hyphen place s.state s
at_set_token Amp place s = at_set_amp s.state s
at_set_token (Char c bare) place s = at_set_character c place s.state s
at_set_token (Name word) place s = at_set_operand place (set_name word) (join_in s.state) s
at_set_token (Prop negated word value) place s = at_set_operand place (set_property negated word value) (join_in s.state) s
at_set_token kind place s = None

-- the parts of a set that ends, where it may end
abbrev pub ended_parts : SetState → List PartTree → Option (List PartTree)
ended_parts (Character c place) parts = Some (character_at c place ∷ parts)
ended_parts (Ranging c place hyphen) parts = Some (hyphen_at hyphen ∷ character_at c place ∷ parts)
ended_parts Both parts = None
ended_parts (Minus hyphen) parts = Some (hyphen_at hyphen ∷ parts)
ended_parts (Last hyphen) parts = Some (hyphen_at hyphen ∷ parts)
ended_parts state parts = Some parts

-- the parts, the latest first, before these
abbrev pub parts_back : List PartTree → PartsTree → PartsTree
parts_back [] more = more
parts_back (p ∷ parts) more = parts_back parts (part p more)

-- the set with these parts, the latest first
abbrev pub set_from : SetLevelTree → List PartTree → SetSyntax
set_from s parts = set_of s.place s.negated (parts_back parts no_parts)

-- the set in which another one begins here, joined like this
abbrev pub outer_set : SetLevelTree → Join → OuterSetTree
outer_set s j = record { place = s.place; negated = s.negated; parts = settled s.state s.parts; join = j }

-- the set in which another one ends, which began at this place
abbrev pub set_resumed : ℕ → SetSyntax → OuterSetTree → SetLevelTree
set_resumed place t o = record { place = o.place; negated = o.negated; parts = joined place o.join (set_within t) ∷ o.parts; state = Operand }
