-- The statements of a file of well made tokens are well made.
use Rattle.std.proofs.Common.{◌≡◌, ℕ, List, [], ◌∷◌, ◌++◌, Option, Some, None, IfSome, ◌≤◌, subst}
use Rattle.rbbi_lex.specs.declared.token.Token.{Token}
use Rattle.rbbi_lex.specs.declared.token.TokenKind.TheVariants.{Slash}
use Rattle.rbbi_lex.specs.WellMade as tokens
use Rattle.rbbi_tree.specs.Trees.{ExprTree, SeqTree, ItemTree, AtomTree, no_alternatives, alternative, no_items, item, placed, character, quoted, any, name}
use Rattle.rbbi_tree.specs.Trees.{property, set, group, StatementTree, nothing, control, assign, rule}
use Rattle.rbbi_tree.specs.Grammar.{token, IsExpr, AreMoreAlternatives, IsSeq, AreItems, IsItem, IsAtom, IsTag, IsOneSeq, IsMatcher, IsStatement, IsFile}
use Rattle.rbbi_tree.specs.WellMade.{HasItem, AreWellMadeSeqs, AreWellMadeItems, IsWellMadeItem, IsWellMadeAtom, IsWellMadeExpr, IsWellMadeRest}
use Rattle.rbbi_tree.specs.WellMade.{IsWellMade, AreWellMade}

-- both parts of well made tokens are so
parts : (a b : List Token) → tokens.AreWellMadeTokens (a ++ b) → tokens.AreWellMadeTokens a × tokens.AreWellMadeTokens b
parts [] b made = (tt, made)
parts (t ∷ a) b (first, made) = let (left, right) = parts a b made in ((first, left), right)

-- the parts of tokens that are so made
split : (ts a b : List Token) → ts ≡ a ++ b → tokens.AreWellMadeTokens ts → tokens.AreWellMadeTokens a × tokens.AreWellMadeTokens b
split ts a b h made = parts a b (subst tokens.AreWellMadeTokens h made)

has_item : (s : SeqTree) (ts : List Token) → IsSeq ts s → HasItem s
has_item no_items ts is = absurd is
has_item (item first more) ts is = tt

mutual
  atom_made : (atom : AtomTree) (place : ℕ) (ts : List Token) → IsAtom place ts atom → tokens.AreWellMadeTokens ts → IsWellMadeAtom atom
  atom_made (character c bare) place ts is made = tt
  atom_made (quoted word) place ts is made = (subst tokens.AreWellMadeTokens is made).0
  atom_made any place ts is made = tt
  atom_made (name word) place ts is made = tt
  atom_made (property negated word value) place ts is made = tt
  atom_made (set s) place ts is made = tt
  atom_made (group inner) place ts (close, a, h, e) made = expr_made inner a e (parts a _ (subst tokens.AreWellMadeTokens h made).1).0

  item_made : (i : ItemTree) (ts : List Token) → IsItem ts i → tokens.AreWellMadeTokens ts → IsWellMadeItem i
  item_made (placed place atom quant) ts (a, b, h, is, q) made = atom_made atom place a is (split ts a b h made).0

  items_made : (s : SeqTree) (ts : List Token) → AreItems ts s → tokens.AreWellMadeTokens ts → AreWellMadeItems s
  items_made no_items ts is made = tt
  items_made (item first more) ts (a, b, h, is, rest) made =
      let (left, right) = split ts a b h made in (item_made first a is left, items_made more b rest right)

  seq_made : (s : SeqTree) (ts : List Token) → IsSeq ts s → tokens.AreWellMadeTokens ts → AreWellMadeItems s
  seq_made no_items ts is made = absurd is
  seq_made (item first more) ts (a, b, h, is, rest) made =
      let (left, right) = split ts a b h made in (item_made first a is left, items_made more b rest right)

  more_made : (e : ExprTree) (ts : List Token) → AreMoreAlternatives ts e → tokens.AreWellMadeTokens ts → AreWellMadeSeqs e
  more_made no_alternatives ts is made = tt
  more_made (alternative first more) ts (bar, a, b, h, is, rest) made =
      let (left, right) = parts a b (subst tokens.AreWellMadeTokens h made).1 in
      (has_item first a is, seq_made first a is left, more_made more b rest right)

  expr_made : (e : ExprTree) (ts : List Token) → IsExpr ts e → tokens.AreWellMadeTokens ts → IsWellMadeExpr e
  expr_made no_alternatives ts is made = absurd is
  expr_made (alternative first more) ts (a, b, h, is, rest) made =
      let (left, right) = split ts a b h made in
      (tt, (has_item first a is, seq_made first a is left, more_made more b rest right))

one_made : (e : ExprTree) (ts : List Token) → IsOneSeq ts e → tokens.AreWellMadeTokens ts → IsWellMadeExpr e
one_made no_alternatives ts is made = absurd is
one_made (alternative first no_alternatives) ts is made = (tt, (has_item first ts is, seq_made first ts is made, tt))
one_made (alternative first (alternative next more)) ts is made = absurd is

matcher_made : (front : ExprTree) (slash : Option ℕ) (rest : Option ExprTree) (ts : List Token) → IsMatcher ts front slash rest → tokens.AreWellMadeTokens ts →
    IsWellMadeExpr front × IsWellMadeRest slash rest
matcher_made front None None ts is made = (expr_made front ts is made, tt)
matcher_made front (Some slash) (Some rest) ts (a, b, h, left_is, right_is) made =
    let (left, right) = split ts a (token Slash slash ∷ b) h made in (one_made front a left_is left, one_made rest b right_is right.1)
matcher_made front slash rest ts is made = absurd is

tag_made : (tag : Option ℕ) (ts : List Token) → IsTag ts tag → tokens.AreWellMadeTokens ts → IfSome tag (λ status. status ≤ 2147483647)
tag_made None ts is made = tt
tag_made (Some status) ts (place, h) made = (subst tokens.AreWellMadeTokens h made).0

statement_made : (s : StatementTree) (ts : List Token) → IsStatement ts s → tokens.AreWellMadeTokens ts → IsWellMade s
statement_made nothing ts is made = tt
statement_made (control word place) ts is made = tt
statement_made (assign word place e) ts (equals, semi, a, h, is) made = expr_made e a is (parts a _ (subst tokens.AreWellMadeTokens h made).1.1).0
statement_made (rule place no_chain_in front slash rest tag) ts (semi, caret, a, t, h, at, caret_is, is, tag_is) made =
    let (left, right) = split ts caret _ h made in
    let (matched, others) = parts a _ right in
    let matcher = matcher_made front slash rest a is matched in
    (matcher.0, matcher.1, tag_made tag t tag_is (parts t _ others).0)

-- the statements of a file of well made tokens are well made
pub file_made : (statements : List StatementTree) (ts : List Token) → IsFile ts statements → tokens.AreWellMadeTokens ts → AreWellMade statements
file_made [] ts is made = tt
file_made (first ∷ more) ts (a, b, h, is, rest) made =
    let (left, right) = split ts a b h made in (statement_made first a is left, file_made more b rest right)
