-- Which tokens are a rule file, by cases on its tree.
use Rattle.std.specs.Prelude.{ℕ, ◌≡◌, ◌⊎◌, Bool, true, false, List, [], ◌∷◌, ◌++◌, Option, Some, None}
use Rattle.rbbi_lex.specs.declared.token.Token.{Token}
use Rattle.rbbi_lex.specs.declared.token.TokenKind.{TokenKind}
use Rattle.rbbi_lex.specs.declared.token.TokenKind.TheVariants.{Semi, Equals, Bar, Slash, Caret, Dot, ParenOpen, ParenClose, SetOpen, SetClose, Hyphen, Amp}
use Rattle.rbbi_lex.specs.declared.token.TokenKind.TheVariants.{Char, Quoted, Name, Control, Tag, Prop}
use Rattle.rbbi_lex.specs.declared.token.TokenKind as kind
use Rattle.rbbi_tree.specs.declared.syntax.Quant.{Quant}
use Rattle.rbbi_tree.specs.declared.syntax.Quant.TheVariants.{Once, Star, Plus, Quest}
use Rattle.rbbi_tree.specs.declared.syntax.Join.{Join}
use Rattle.rbbi_tree.specs.declared.syntax.Join.TheVariants.{Add, Both, Minus}
use Rattle.rbbi_tree.specs.Trees.{SetSyntax, PartsTree, PartTree, SetItemTree, set_of, no_parts, part, joined, set_character, set_range, set_name, set_property}
use Rattle.rbbi_tree.specs.Trees.{set_within, ExprTree, SeqTree, ItemTree, AtomTree, no_alternatives, alternative, no_items, item, placed, character, quoted}
use Rattle.rbbi_tree.specs.Trees.{any, name, property, set, group, StatementTree, nothing, control, assign, rule}

-- the token of this kind at this place
abbrev pub token : TokenKind → ℕ → Token
token kind place = record { kind = kind; place = place }

-- the first token stands at this place
abbrev pub HasFirstPlace : ℕ → List Token → Type 0
HasFirstPlace place [] = ⊥
HasFirstPlace place (first ∷ rest) = first.place ≡ place

-- a caret where there is to be one, and nothing otherwise
abbrev pub IsCaret : List Token → Bool → Type 0
IsCaret tokens true = (place : ℕ) × (tokens ≡ token Caret place ∷ [])
IsCaret tokens false = tokens ≡ []

-- what says how often an atom stands: nothing, or one sign
abbrev pub IsQuant : List Token → Quant → Type 0
IsQuant tokens Once = tokens ≡ []
IsQuant tokens Star = (place : ℕ) × (tokens ≡ token kind.TheVariants.Star place ∷ [])
IsQuant tokens Plus = (place : ℕ) × (tokens ≡ token kind.TheVariants.Plus place ∷ [])
IsQuant tokens Quest = (place : ℕ) × (tokens ≡ token kind.TheVariants.Quest place ∷ [])

-- a tag where there is to be one, and nothing otherwise
abbrev pub IsTag : List Token → Option ℕ → Type 0
IsTag tokens None = tokens ≡ []
IsTag tokens (Some status) = (place : ℕ) × (tokens ≡ token (Tag status) place ∷ [])

-- where a part of a set may begin: right after the opening, where a hyphen stands for itself; after an
-- operand, where another may be joined to it; or elsewhere
pub data Spot : Type 0 where
  opening : Spot
  behind : Spot
  elsewhere : Spot

-- right after the opening
abbrev pub IsOpening : Spot → Type 0
IsOpening opening = Unit {0}
IsOpening spot = ⊥

-- after an operand
abbrev pub IsBehind : Spot → Type 0
IsBehind behind = Unit {0}
IsBehind spot = ⊥

-- the sign of a join: none for a part that is added
abbrev pub IsJoin : Spot → List Token → Join → Type 0
IsJoin spot tokens Add = tokens ≡ []
IsJoin spot tokens Both = IsBehind spot × ((place : ℕ) × (tokens ≡ token Amp place ∷ []))
IsJoin spot tokens Minus = IsBehind spot × ((place : ℕ) × (tokens ≡ token Hyphen place ∷ []))

-- characters of a set that begin at this place: one, or two with a hyphen between them for all from one to the other
abbrev pub AreCharacters : ℕ → List Token → SetItemTree → Type 0
AreCharacters place tokens (set_character c) = (bare : Bool) × (tokens ≡ token (Char c bare) place ∷ [])
AreCharacters place tokens (set_range first last) =
    (bare bare' : Bool) × (hyphen end : ℕ) × (tokens ≡ token (Char first bare) place ∷ token Hyphen hyphen ∷ token (Char last bare') end ∷ [])
AreCharacters place tokens i = ⊥

-- the part that a hyphen at this place is where it stands for itself
abbrev pub hyphen_at : ℕ → PartTree
hyphen_at place = joined place Add (set_character 45)

-- characters, as a part of a set
abbrev pub AreCharactersPart : List Token → PartTree → Type 0
AreCharactersPart tokens (joined place Add i) = AreCharacters place tokens i
AreCharactersPart tokens p = ⊥

-- a hyphen that stands for itself right before the bracket that ends a set, and is its last part
abbrev pub IsLastHyphen : List Token → PartTree → PartsTree → Type 0
IsLastHyphen tokens p no_parts = (hyphen close : ℕ) × (tokens ≡ token Hyphen hyphen ∷ token SetClose close ∷ []) × (p ≡ hyphen_at hyphen)
IsLastHyphen tokens p (part next more) = ⊥

abbrev mutual
  -- a set that begins at this place: its bracket, perhaps a caret, and the rest
  pub IsSet : ℕ → List Token → SetSyntax → Type 0
  IsSet place tokens (set_of at negated parts) =
      (caret : List Token) × (rest : List Token) × (tokens ≡ token SetOpen place ∷ (caret ++ rest)) × (at ≡ place) × IsCaret caret negated ×
      AreParts opening rest parts

  -- any number of parts, perhaps a hyphen that stands for itself, and the bracket that ends the set
  pub AreParts : Spot → List Token → PartsTree → Type 0
  AreParts spot tokens no_parts = (close : ℕ) × (tokens ≡ token SetClose close ∷ [])
  AreParts spot tokens (part first more) =
      IsLastHyphen tokens first more
      ⊎ (IsOpening spot × ((hyphen : ℕ) × (rest : List Token) × (tokens ≡ token Hyphen hyphen ∷ rest) × (first ≡ hyphen_at hyphen) ×
      AreParts elsewhere rest more))
      ⊎ ((a : List Token) × (b : List Token) × (tokens ≡ a ++ b) × AreCharactersPart a first × AreParts elsewhere b more)
      ⊎ ((a : List Token) × (b : List Token) × (tokens ≡ a ++ b) × IsOperandPart spot a first × AreParts behind b more)

  -- an operand of a set, with the sign that joins it where there is one
  pub IsOperandPart : Spot → List Token → PartTree → Type 0
  IsOperandPart spot tokens (joined place join i) =
      (sign : List Token) × (a : List Token) × (tokens ≡ sign ++ a) × IsJoin spot sign join × IsOperand place a i

  -- an operand of a set that begins at this place: a name, a property or a set
  pub IsOperand : ℕ → List Token → SetItemTree → Type 0
  IsOperand place tokens (set_name word) = tokens ≡ token (Name word) place ∷ []
  IsOperand place tokens (set_property negated word value) = tokens ≡ token (Prop negated word value) place ∷ []
  IsOperand place tokens (set_within inner) = IsSet place tokens inner
  IsOperand place tokens i = ⊥

abbrev mutual
  -- an expression: a sequence, then any number of sequences with a bar before each
  pub IsExpr : List Token → ExprTree → Type 0
  IsExpr tokens no_alternatives = ⊥
  IsExpr tokens (alternative first more) =
      (a : List Token) × (b : List Token) × (tokens ≡ a ++ b) × IsSeq a first × AreMoreAlternatives b more

  -- any number of sequences with a bar before each
  pub AreMoreAlternatives : List Token → ExprTree → Type 0
  AreMoreAlternatives tokens no_alternatives = tokens ≡ []
  AreMoreAlternatives tokens (alternative next more) =
      (bar : ℕ) × (a : List Token) × (b : List Token) × (tokens ≡ token Bar bar ∷ (a ++ b)) × IsSeq a next × AreMoreAlternatives b more

  -- a sequence: an item, then any number of items
  pub IsSeq : List Token → SeqTree → Type 0
  IsSeq tokens no_items = ⊥
  IsSeq tokens (item first more) =
      (a : List Token) × (b : List Token) × (tokens ≡ a ++ b) × IsItem a first × AreItems b more

  -- any number of items
  pub AreItems : List Token → SeqTree → Type 0
  AreItems tokens no_items = tokens ≡ []
  AreItems tokens (item next more) =
      (a : List Token) × (b : List Token) × (tokens ≡ a ++ b) × IsItem a next × AreItems b more

  -- an item: an atom that begins at the item's place, and perhaps the sign how often it stands
  pub IsItem : List Token → ItemTree → Type 0
  IsItem tokens (placed place atom quant) =
      (a : List Token) × (b : List Token) × (tokens ≡ a ++ b) × IsAtom place a atom × IsQuant b quant

  -- an atom that begins at this place: one token, a set, or an expression in round brackets
  pub IsAtom : ℕ → List Token → AtomTree → Type 0
  IsAtom place tokens (character c bare) = tokens ≡ token (Char c bare) place ∷ []
  IsAtom place tokens (quoted word) = tokens ≡ token (Quoted word) place ∷ []
  IsAtom place tokens any = tokens ≡ token Dot place ∷ []
  IsAtom place tokens (name word) = tokens ≡ token (Name word) place ∷ []
  IsAtom place tokens (property negated word value) = tokens ≡ token (Prop negated word value) place ∷ []
  IsAtom place tokens (set s) = IsSet place tokens s
  IsAtom place tokens (group inner) =
      (close : ℕ) × (a : List Token) × (tokens ≡ token ParenOpen place ∷ (a ++ token ParenClose close ∷ [])) × IsExpr a inner

-- an expression of one sequence
abbrev pub IsOneSeq : List Token → ExprTree → Type 0
IsOneSeq tokens (alternative first no_alternatives) = IsSeq tokens first
IsOneSeq tokens e = ⊥

-- what a rule matches: an expression; or a front and a rest, each of one sequence, with a slash between them
abbrev pub IsMatcher : List Token → ExprTree → Option ℕ → Option ExprTree → Type 0
IsMatcher tokens front None None = IsExpr tokens front
IsMatcher tokens front (Some slash) (Some rest) =
    (a : List Token) × (b : List Token) × (tokens ≡ a ++ token Slash slash ∷ b) × IsOneSeq a front × IsOneSeq b rest
IsMatcher tokens front slash rest = ⊥

-- a statement: a semicolon; a control, or a name, an equals sign and an expression, and a semicolon; or a rule,
-- which has perhaps a caret, what it matches, perhaps a tag, and a semicolon, and the place of its first token
abbrev pub IsStatement : List Token → StatementTree → Type 0
IsStatement tokens nothing = (semi : ℕ) × (tokens ≡ token Semi semi ∷ [])
IsStatement tokens (control word place) = (semi : ℕ) × (tokens ≡ token (Control word) place ∷ token Semi semi ∷ [])
IsStatement tokens (assign word place e) =
    (equals semi : ℕ) × (a : List Token) × (tokens ≡ token (Name word) place ∷ token Equals equals ∷ (a ++ token Semi semi ∷ [])) × IsExpr a e
IsStatement tokens (rule place no_chain_in front slash rest tag) =
    (semi : ℕ) × (caret : List Token) × (a : List Token) × (t : List Token) × (tokens ≡ caret ++ (a ++ (t ++ token Semi semi ∷ [])))
    × HasFirstPlace place tokens × IsCaret caret no_chain_in × IsMatcher a front slash rest × IsTag t tag

-- a file: any number of statements
abbrev pub IsFile : List Token → List StatementTree → Type 0
IsFile tokens [] = tokens ≡ []
IsFile tokens (first ∷ more) =
    (a : List Token) × (b : List Token) × (tokens ≡ a ++ b) × IsStatement a first × IsFile b more

-- the tokens are no file
abbrev pub IsNoFile : List Token → Type 0
IsNoFile tokens = (statements : List StatementTree) → ¬ IsFile tokens statements

-- at most one list of statements is a file of these tokens
abbrev pub HasOneReading : List Token → Type 0
HasOneReading tokens = (f g : List StatementTree) → IsFile tokens f → IsFile tokens g → f ≡ g
