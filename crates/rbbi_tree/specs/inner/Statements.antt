-- The pushdown machine of the parser: what a token makes of what was read before it. The grammar knows nothing of it.
use Rattle.std.specs.Prelude.{ℕ, Bool, true, false, List, [], ◌∷◌, ◌++◌, Option, Some, None, option_map, option_and_then}
use Rattle.rbbi_lex.specs.declared.token.Token.{Token}
use Rattle.rbbi_lex.specs.declared.token.TokenKind.{TokenKind}
use Rattle.rbbi_lex.specs.declared.token.TokenKind.TheVariants.{Semi, Equals, Bar, Slash, Caret, Star, Plus, Quest, Dot, ParenOpen, ParenClose, SetOpen}
use Rattle.rbbi_lex.specs.declared.token.TokenKind.TheVariants.{SetClose, Char, Quoted, Name, Control, Tag, Prop}
use Rattle.rbbi_tree.specs.declared.syntax.Join.{Join}
use Rattle.rbbi_tree.specs.declared.syntax.Quant.{Quant}
use Rattle.rbbi_tree.specs.declared.syntax.Quant.TheVariants as quant
use Rattle.rbbi_tree.specs.Trees.{SetSyntax, PartTree, ExprTree, SeqTree, ItemTree, AtomTree, StatementTree, no_alternatives, alternative, no_items, item}
use Rattle.rbbi_tree.specs.Trees.{placed, character, quoted, any, name, property, set, group, nothing, control, assign, rule}
use Rattle.rbbi_tree.specs.inner.Sets.{SetLevelTree, OuterSetTree, SetsTree, new_set_level, at_set_token, join_in, ended_parts, set_from, outer_set}
use Rattle.rbbi_tree.specs.inner.Sets.{set_resumed}

-- an expression so far: the sequences that a bar ended, and the items after the last bar, the latest of each first
pub record LevelTree : Type 0 where
  pub sequences : List SeqTree
  pub items : List ItemTree

-- a group that no bracket has closed yet: the place of its bracket, and the expression that it stands in
pub record GroupTree : Type 0 where
  pub place : ℕ
  pub outer : LevelTree

-- what was read of a statement before the expression that is being read: nothing of a statement; a name and an
-- equals sign; perhaps a caret; a front and a slash; or the whole statement but its semicolon
pub data HeadTree : Type 0 where
  between : HeadTree
  assigning : (name : List ℕ) → (place : ℕ) → HeadTree
  ruling : (place : ℕ) → (no_chain_in : Bool) → HeadTree
  resting : (place : ℕ) → (no_chain_in : Bool) → (front : ExprTree) → (slash : ℕ) → HeadTree
  ended : StatementTree → HeadTree

-- a file so far: the statements that ended; and of a further one what came before its expression, the groups
-- that are not closed, the innermost first, the innermost expression, and the sets that are open there
pub record Progress : Type 0 where
  pub statements : List StatementTree
  pub head : HeadTree
  pub groups : List GroupTree
  pub level : LevelTree
  pub sets : Option SetsTree

-- an expression before its first token
abbrev pub empty_level : LevelTree
empty_level = record { sequences = []; items = [] }

-- between two statements, after these
abbrev pub after : List StatementTree → Progress
after statements = record { statements = statements; head = between; groups = []; level = empty_level; sets = None }

-- the items, the latest first, before these
abbrev pub items_back : List ItemTree → SeqTree → SeqTree
items_back [] more = more
items_back (i ∷ items) more = items_back items (item i more)

-- the sequences, the latest first, before these
abbrev pub sequences_back : List SeqTree → ExprTree → ExprTree
sequences_back [] more = more
sequences_back (s ∷ sequences) more = sequences_back sequences (alternative s more)

-- the level with one more item
abbrev pub with_item : ItemTree → LevelTree → LevelTree
with_item i level = record { sequences = level.sequences; items = i ∷ level.items }

-- the level with its items made a sequence
abbrev pub with_sequence : LevelTree → LevelTree
with_sequence level = record { sequences = items_back level.items no_items ∷ level.sequences; items = [] }

-- the expression of the level's sequences and its items
abbrev pub whole : LevelTree → ExprTree
whole level = sequences_back (with_sequence level).sequences no_alternatives

-- the file so far with another head
abbrev pub with_head : HeadTree → Progress → Progress
with_head head p = record { statements = p.statements; head = head; groups = p.groups; level = p.level; sets = p.sets }

-- the file so far with another head and an empty level
abbrev pub with_head_alone : HeadTree → Progress → Progress
with_head_alone head p = record { statements = p.statements; head = head; groups = p.groups; level = empty_level; sets = p.sets }

-- the file so far with another level
abbrev pub with_level : LevelTree → Progress → Progress
with_level level p = record { statements = p.statements; head = p.head; groups = p.groups; level = level; sets = p.sets }

-- the file so far with other open sets
abbrev pub with_sets : Option SetsTree → Progress → Progress
with_sets sets p = record { statements = p.statements; head = p.head; groups = p.groups; level = p.level; sets = sets }

-- the file so far with one more statement, and none begun
abbrev pub with_statement : StatementTree → Progress → Progress
with_statement s p = record { statements = p.statements ++ s ∷ []; head = between; groups = p.groups; level = p.level; sets = p.sets }

-- what the first token of an atom at this place does before it is read
abbrev pub begun : ℕ → HeadTree → Progress → Option Progress
begun place between p = Some (with_head (ruling place false) p)
begun place (ended s) p = None
begun place head p = Some p

-- an atom is read at this place
abbrev pub atom_read : ℕ → AtomTree → Progress → Progress
atom_read place atom p = with_level (with_item (placed place atom quant.Once) p.level) p

-- a group begins at this place
abbrev pub group_begun : ℕ → Progress → Progress
group_begun place p =
    record { statements = p.statements; head = p.head; groups = record { place = place; outer = p.level } ∷ p.groups; level = empty_level; sets = p.sets }

-- a set begins at this place
abbrev pub set_begun : ℕ → Progress → Progress
set_begun place p = with_sets (Some (record { innermost = new_set_level place; outers = [] })) p

-- the innermost group ends
abbrev pub group_ended : GroupTree → List GroupTree → Progress → Progress
group_ended innermost groups p =
    record p { groups = groups; level = with_item (placed innermost.place (group (whole p.level)) quant.Once) innermost.outer }

-- what an atom of one token does
abbrev pub at_atom : ℕ → AtomTree → Progress → Option Progress
at_atom place atom p = option_map (atom_read place atom) (begun place p.head p)

-- what an opening round bracket does
abbrev pub at_open : ℕ → Progress → Option Progress
at_open place p = option_map (group_begun place) (begun place p.head p)

-- what an opening square bracket does, outside of sets
abbrev pub at_set_open : ℕ → Progress → Option Progress
at_set_open place p = option_map (set_begun place) (begun place p.head p)

-- the items, the latest first, with a sign how often the latest stands, where it has none
abbrev pub quantified : Quant → List ItemTree → Option (List ItemTree)
quantified q (placed place atom quant.Once ∷ items) = Some (placed place atom q ∷ items)
quantified q items = None

-- what a sign how often an atom stands does: there must be an atom right before it
abbrev pub at_quant : Option (List ItemTree) → Progress → Option Progress
at_quant None p = None
at_quant (Some items) p = Some (with_level (record { sequences = p.level.sequences; items = items }) p)

-- what a bar does outside of groups: none stands with a slash
abbrev pub at_outer_bar : HeadTree → Progress → Option Progress
at_outer_bar (resting at no_chain_in front slash) p = None
at_outer_bar head p = Some (with_level (with_sequence p.level) p)

-- what a bar does: there must be items before it
abbrev pub at_bar : List ItemTree → List GroupTree → Progress → Option Progress
at_bar [] groups p = None
at_bar (i ∷ is) [] p = at_outer_bar p.head p
at_bar (i ∷ is) (innermost ∷ groups) p = Some (with_level (with_sequence p.level) p)

-- what a closing bracket does: there must be items before it, and a group
abbrev pub at_close : List ItemTree → List GroupTree → Progress → Option Progress
at_close (i ∷ is) (innermost ∷ groups) p = Some (group_ended innermost groups p)
at_close items groups p = None

-- what a slash does at the end of a front of one sequence
abbrev pub at_front_end : ℕ → HeadTree → Progress → Option Progress
at_front_end slash (ruling at no_chain_in) p = Some (with_head_alone (resting at no_chain_in (whole p.level) slash) p)
at_front_end slash head p = None

-- what a slash does: there must be items before it, no bar and no group
abbrev pub at_slash : ℕ → List ItemTree → List SeqTree → List GroupTree → Progress → Option Progress
at_slash place (i ∷ is) [] [] p = at_front_end place p.head p
at_slash place items sequences groups p = None

-- what a caret does outside of sets: it begins a rule
abbrev pub at_caret : ℕ → HeadTree → Progress → Option Progress
at_caret place between p = Some (with_head (ruling place true) p)
at_caret place head p = None

-- what a control does: it begins a statement
abbrev pub at_control : List ℕ → ℕ → HeadTree → Progress → Option Progress
at_control word place between p = Some (with_head (ended (control word place)) p)
at_control word place head p = None

-- the name that is all of an expression so far, if it is one
abbrev pub sole_name : List SeqTree → List ItemTree → Option (List ℕ)
sole_name [] (placed place (name word) quant.Once ∷ []) = Some word
sole_name sequences items = None

-- the statement is to assign this name
abbrev pub name_assigned : ℕ → Option (List ℕ) → Progress → Option Progress
name_assigned at None p = None
name_assigned at (Some word) p = Some (with_head_alone (assigning word at) p)

-- what an equals sign does: a name must be all that was read of the statement
abbrev pub at_equals : HeadTree → List GroupTree → Progress → Option Progress
at_equals (ruling at false) [] p = name_assigned at (sole_name p.level.sequences p.level.items) p
at_equals head groups p = None

-- the statement that ends with this expression and this tag, if any
abbrev pub statement_of : HeadTree → ExprTree → Option ℕ → Option StatementTree
statement_of (assigning word at) e None = Some (assign word at e)
statement_of (ruling at no_chain_in) e tag = Some (rule at no_chain_in e None None tag)
statement_of (resting at no_chain_in front slash) e tag = Some (rule at no_chain_in front (Some slash) (Some e) tag)
statement_of head e tag = None

-- the statement that ends with this tag, where there are items at the end and no group is open
abbrev pub statement_at : List ItemTree → List GroupTree → Option ℕ → Progress → Option StatementTree
statement_at (i ∷ is) [] tag p = statement_of p.head (whole p.level) tag
statement_at items groups tag p = None

-- the whole statement is read but its semicolon, if it is one
abbrev pub statement_read : Option StatementTree → Progress → Option Progress
statement_read None p = None
statement_read (Some s) p = Some (with_head_alone (ended s) p)

-- the whole statement is read, if it is one
abbrev pub statement_ended : Option StatementTree → Progress → Option Progress
statement_ended None p = None
statement_ended (Some s) p = Some (with_statement s (with_head_alone between p))

-- what a semicolon does
abbrev pub at_semi : HeadTree → Progress → Option Progress
at_semi between p = Some (with_statement nothing p)
at_semi (ended s) p = Some (with_statement s p)
at_semi head p = statement_ended (statement_at p.level.items p.groups None p) p

-- what a token of this kind at this place does outside of sets
abbrev pub advance_outside : TokenKind → ℕ → Progress → Option Progress
advance_outside Semi place p = at_semi p.head p
advance_outside Equals place p = at_equals p.head p.groups p
advance_outside Bar place p = at_bar p.level.items p.groups p
advance_outside Slash place p = at_slash place p.level.items p.level.sequences p.groups p
advance_outside Caret place p = at_caret place p.head p
advance_outside Star place p = at_quant (quantified quant.Star p.level.items) p
advance_outside Plus place p = at_quant (quantified quant.Plus p.level.items) p
advance_outside Quest place p = at_quant (quantified quant.Quest p.level.items) p
advance_outside Dot place p = at_atom place any p
advance_outside ParenOpen place p = at_open place p
advance_outside ParenClose place p = at_close p.level.items p.groups p
advance_outside SetOpen place p = at_set_open place p
advance_outside (Char c bare) place p = at_atom place (character c bare) p
advance_outside (Quoted word) place p = at_atom place (quoted word) p
advance_outside (Name word) place p = at_atom place (name word) p
advance_outside (Control word) place p = at_control word place p.head p
advance_outside (Tag status) place p = statement_read (statement_at p.level.items p.groups (Some status) p) p
advance_outside (Prop negated word value) place p = at_atom place (property negated word value) p
advance_outside kind place p = None

-- the innermost set became this
abbrev pub set_kept : List OuterSetTree → Progress → Option SetLevelTree → Option Progress
set_kept outers p None = None
set_kept outers p (Some s) = Some (with_sets (Some (record { innermost = s; outers = outers })) p)

-- what an opening bracket does within a set
abbrev pub at_inner_open : ℕ → Option Join → SetsTree → Progress → Option Progress
at_inner_open place None sets p = None
at_inner_open place (Some j) sets p = Some (with_sets (Some (record { innermost = new_set_level place; outers = outer_set sets.innermost j ∷ sets.outers })) p)

-- a set that began at this place ends
abbrev pub set_ended : ℕ → SetSyntax → List OuterSetTree → Progress → Progress
set_ended place t [] p = atom_read place (set t) (with_sets None p)
set_ended place t (o ∷ outers) p = with_sets (Some (record { innermost = set_resumed place t o; outers = outers })) p

-- what a closing bracket does within a set
abbrev pub at_inner_close : Option (List PartTree) → SetsTree → Progress → Option Progress
at_inner_close None sets p = None
at_inner_close (Some parts) sets p = Some (set_ended sets.innermost.place (set_from sets.innermost parts) sets.outers p)

-- what a token of this kind at this place does within sets
abbrev pub advance_inside : TokenKind → ℕ → SetsTree → Progress → Option Progress
advance_inside SetOpen place sets p = at_inner_open place (join_in sets.innermost.state) sets p
advance_inside SetClose place sets p = at_inner_close (ended_parts sets.innermost.state sets.innermost.parts) sets p
advance_inside kind place sets p = set_kept sets.outers p (at_set_token kind place sets.innermost)

-- what a token of this kind at this place does
abbrev pub advance_by : Option SetsTree → TokenKind → ℕ → Progress → Option Progress
advance_by None kind place p = advance_outside kind place p
advance_by (Some sets) kind place p = advance_inside kind place sets p

-- what a token does: nothing stands for a file that cannot go on like this
abbrev pub advance : Token → Progress → Option Progress
advance t p = advance_by p.sets t.kind t.place p

-- what tokens do, one after another
abbrev pub run : List Token → Progress → Option Progress
run [] p = Some p
run (t ∷ tokens) p = option_and_then (run tokens) (advance t p)
