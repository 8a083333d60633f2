-- What the machine accepts is a file: the tokens read so far are the file so far.
use Rattle.std.proofs.Common.{◌≡◌, ℕ, true, false, List, [], ◌∷◌, ◌++◌, Option, Some, None, ◌⊎◌, inl, inr, option_and_then, option_map, refl, sym, ◌∙◌, ap}
use Rattle.std.proofs.Common.{subst}
use Rattle.std.proofs.lemmas.List.{append_assoc, append-nil}
use Rattle.rbbi_lex.specs.declared.token.Token.{Token}
use Rattle.rbbi_lex.specs.declared.token.TokenKind.{TokenKind}
use Rattle.rbbi_lex.specs.declared.token.TokenKind.TheVariants as kind
use Rattle.rbbi_lex.specs.declared.token.TokenKind.TheVariants.{Semi, Equals, Bar, Slash, Caret, Dot, ParenOpen, ParenClose, SetOpen, SetClose}
use Rattle.rbbi_lex.specs.declared.token.TokenKind.TheVariants.{Char, Quoted, Name, Control, Tag, Prop}
use Rattle.rbbi_tree.specs.declared.syntax.Join.{Join}
use Rattle.rbbi_tree.specs.declared.syntax.Quant.{Quant}
use Rattle.rbbi_tree.specs.declared.syntax.Quant.TheVariants.{Once, Star, Plus, Quest}
use Rattle.rbbi_tree.specs.Trees.{SetSyntax, PartTree, ExprTree, SeqTree, ItemTree, AtomTree, StatementTree, no_alternatives, alternative, no_items}
use Rattle.rbbi_tree.specs.Trees.{item, placed, character, quoted, any, name, property, set, group, nothing, control}
use Rattle.rbbi_tree.specs.Grammar.{token, HasFirstPlace, IsCaret, IsQuant, IsTag, IsSet, IsExpr, AreMoreAlternatives, IsSeq, AreItems, IsItem, IsAtom}
use Rattle.rbbi_tree.specs.Grammar.{IsOneSeq, IsStatement, IsFile}
use Rattle.rbbi_tree.specs.inner.Sets.{SetLevelTree, OuterSetTree, SetsTree, join_in, ended_parts, new_set_level, outer_set, set_from, set_resumed}
use Rattle.rbbi_tree.specs.inner.Sets.{at_set_token}
use Rattle.rbbi_tree.specs.inner.Statements.{LevelTree, GroupTree, HeadTree, between, assigning, ruling, resting, ended, Progress, empty_level, after}
use Rattle.rbbi_tree.specs.inner.Statements.{items_back, sequences_back, with_item, with_sequence, whole, begun, atom_read, group_begun, quantified, at_atom}
use Rattle.rbbi_tree.specs.inner.Statements.{at_open, at_set_open, at_quant, at_bar, at_close, at_slash, at_caret, at_control, sole_name, name_assigned}
use Rattle.rbbi_tree.specs.inner.Statements.{at_equals, statement_of, statement_at, statement_read, statement_ended, at_semi, advance_outside, set_kept}
use Rattle.rbbi_tree.specs.inner.Statements.{at_inner_open, set_ended, at_inner_close, advance_inside, advance_by, advance, run}
use Rattle.rbbi_tree.proofs.SoundSets.{IsSetRead, IsOuterRead, IsStillSet, reads_token, ends_set, opens_set, opens_inner, resumes}

-- items, the latest first
abbrev AreItemsRead : List Token → List ItemTree → Type 0
AreItemsRead ts [] = ts ≡ []
AreItemsRead ts (i ∷ is) = (a : List Token) × (b : List Token) × (ts ≡ a ++ b) × AreItemsRead a is × IsItem b i

-- sequences, each with a bar behind it, the latest first
abbrev AreEnded : List Token → List SeqTree → Type 0
AreEnded ts [] = ts ≡ []
AreEnded ts (s ∷ more) = (bar : ℕ) × (a : List Token) × (b : List Token) × (ts ≡ a ++ (b ++ token Bar bar ∷ [])) × AreEnded a more × IsSeq b s

-- the tokens of an expression so far
abbrev IsLevel : List Token → LevelTree → Type 0
IsLevel ts level = (a : List Token) × (b : List Token) × (ts ≡ a ++ b) × AreEnded a level.sequences × AreItemsRead b level.items

-- the tokens of the groups and the expression so far
abbrev AreLevels : List Token → List GroupTree → LevelTree → Type 0
AreLevels ts [] level = IsLevel ts level
AreLevels ts (g ∷ outer) level =
    (a : List Token) × (b : List Token) × (ts ≡ a ++ token ParenOpen g.place ∷ b) × AreLevels a outer g.outer × IsLevel b level

-- the sequences of the outermost expression
abbrev bottom : List GroupTree → LevelTree → List SeqTree
bottom [] level = level.sequences
bottom (g ∷ outer) level = bottom outer g.outer

-- an expression is being read
abbrev pub Reading : HeadTree → Type 0
Reading between = ⊥
Reading (ended s) = ⊥
Reading head = Unit {0}

-- behind a slash the outermost expression has no bar
abbrev IsSingle : HeadTree → List GroupTree → LevelTree → Type 0
IsSingle (resting at no_chain_in front slash) groups level = bottom groups level ≡ []
IsSingle head groups level = Unit {0}

single-same : (head : HeadTree) (groups groups' : List GroupTree) (level level' : LevelTree) → bottom groups' level' ≡ bottom groups level →
    IsSingle head groups level → IsSingle head groups' level'
single-same (resting at no_chain_in front slash) groups groups' level level' same h = same ∙ h
single-same head groups groups' level level' same h = tt

-- a rule stands at the place of its first token
abbrev StartsAt : List Token → HeadTree → Type 0
StartsAt ts (ruling at no_chain_in) = HasFirstPlace at ts
StartsAt ts (resting at no_chain_in front slash) = HasFirstPlace at ts
StartsAt ts head = Unit {0}

-- the tokens of the statement so far, outside of the sets that are open
abbrev IsBegun : List Token → HeadTree → List GroupTree → LevelTree → Type 0
IsBegun ts between groups level = (ts ≡ []) × (groups ≡ []) × (level ≡ empty_level)
IsBegun ts (assigning word at) groups level =
    (equals : ℕ) × (b : List Token) × (ts ≡ token (Name word) at ∷ token Equals equals ∷ b) × AreLevels b groups level
IsBegun ts (ruling at no_chain_in) groups level =
    (caret : List Token) × (b : List Token) × (ts ≡ caret ++ b) × IsCaret caret no_chain_in × AreLevels b groups level
IsBegun ts (resting at no_chain_in front slash) groups level =
    (caret : List Token) × (a : List Token) × (b : List Token) × (ts ≡ caret ++ (a ++ token Slash slash ∷ b)) × IsCaret caret no_chain_in
    × IsOneSeq a front × IsSingle (resting at no_chain_in front slash) groups level × AreLevels b groups level
IsBegun ts (ended s) groups level = ((semi : ℕ) → IsStatement (ts ++ token Semi semi ∷ []) s) × (groups ≡ []) × (level ≡ empty_level)

-- the tokens of the outer sets so far
abbrev AreOuters : List Token → List OuterSetTree → Type 0
AreOuters ts [] = ts ≡ []
AreOuters ts (o ∷ outers) = (a : List Token) × (b : List Token) × (ts ≡ a ++ b) × AreOuters a outers × IsOuterRead b o

-- the tokens of the open sets, within the head's expression
abbrev AreSets : List Token → HeadTree → Option SetsTree → Type 0
AreSets ts head None = ts ≡ []
AreSets ts head (Some sets) = Reading head × ((a : List Token) × (b : List Token) × (ts ≡ a ++ b) × AreOuters a sets.outers × IsSetRead b sets.innermost)

-- the tokens of the statement so far
abbrev IsRest : List Token → HeadTree → List GroupTree → LevelTree → Option SetsTree → Type 0
IsRest ts head groups level sets = (a : List Token) × (b : List Token) × (ts ≡ a ++ b) × IsBegun a head groups level × AreSets b head sets × StartsAt ts head

-- the tokens are the file so far
abbrev pub IsRead : List Token → Progress → Type 0
IsRead ts p = (a : List Token) × (b : List Token) × (ts ≡ a ++ b) × IsFile a p.statements × IsRest b p.head p.groups p.level p.sets

-- the tokens are the file so far, where there is one
abbrev pub IsStillRead : List Token → Option Progress → Type 0
IsStillRead ts None = Unit {0}
IsStillRead ts (Some p) = IsRead ts p

-- items and sequences, the latest first, before a sequence or an expression

seq-items : (s : SeqTree) (ts : List Token) → IsSeq ts s → AreItems ts s
seq-items no_items ts h = absurd h
seq-items (item i more) ts h = h

items-seq : (is : List ItemTree) (s : SeqTree) (ts us : List Token) → AreItemsRead ts is → IsSeq us s → IsSeq (ts ++ us) (items_back is s)
items-seq [] s ts us h one = rw h one
items-seq (i ∷ is) s ts us (a, b, h, before, one) more =
    rw (ap (λ ts. ts ++ us) h ∙ append_assoc a b us) (items-seq is (item i s) a (b ++ us) before (b, us, refl, one, seq-items s us more))

-- items, one at least, are a sequence
items-whole : (i : ItemTree) (is : List ItemTree) (ts : List Token) → AreItemsRead ts (i ∷ is) → IsSeq ts (items_back (i ∷ is) no_items)
items-whole i is ts (a, b, h, before, one) = rw h (items-seq is (item i no_items) a b before (b, [], sym (append-nil b), one, refl))

further : (e : ExprTree) (bar : ℕ) (ts : List Token) → IsExpr ts e → AreMoreAlternatives (token Bar bar ∷ ts) e
further no_alternatives bar ts h = absurd h
further (alternative s more) bar ts (a, b, h, first, rest) = (bar, a, b, ap (λ ts. token Bar bar ∷ ts) h, first, rest)

ended-expr : (ss : List SeqTree) (e : ExprTree) (ts us : List Token) → AreEnded ts ss → IsExpr us e → IsExpr (ts ++ us) (sequences_back ss e)
ended-expr [] e ts us h one = rw h one
ended-expr (s ∷ ss) e ts us (bar, a, b, h, before, one) more =
    rw (ap (λ ts. ts ++ us) h ∙ append_assoc a (b ++ token Bar bar ∷ []) us ∙ ap (λ vs. a ++ vs) (append_assoc b (token Bar bar ∷ []) us))
    (ended-expr ss (alternative s e) a (b ++ token Bar bar ∷ us) before (b, token Bar bar ∷ us, refl, one, further e bar us more))

-- a level with items is an expression
level-whole : (ts : List Token) (sequences : List SeqTree) (i : ItemTree) (is : List ItemTree) →
    let level : LevelTree = record { sequences = sequences; items = i ∷ is } in
    IsLevel ts level → IsExpr ts (whole level)
level-whole ts sequences i is (a, b, h, bars, items) =
    rw h (ended-expr sequences (alternative (items_back (i ∷ is) no_items) no_alternatives) a b bars
    (b, [], sym (append-nil b), items-whole i is b items, refl))

-- and of one sequence where no bar is in it
level-one : (ts : List Token) (sequences : List SeqTree) (i : ItemTree) (is : List ItemTree) → sequences ≡ [] →
    let level : LevelTree = record { sequences = sequences; items = i ∷ is } in
    IsLevel ts level → IsOneSeq ts (whole level)
level-one ts [] i is none (a, b, h, bars, items) = rw (h, bars) (items-whole i is b items)
level-one ts (s ∷ ss) i is none h = absurd (cc)

-- what the levels become

abbrev with : List SeqTree → List ItemTree → LevelTree
with sequences items = record { sequences = sequences; items = items }

level-item : (ts us : List Token) (i : ItemTree) (level : LevelTree) → IsLevel ts level → IsItem us i → IsLevel (ts ++ us) (with_item i level)
level-item ts us i level (a, b, h, bars, items) one =
    (a, b ++ us, ap (λ ts. ts ++ us) h ∙ append_assoc a b us, bars, (b, us, refl, items, one))

level-quant : (ts us : List Token) (place : ℕ) (atom : AtomTree) (quant : Quant) (sequences : List SeqTree) (is : List ItemTree) → IsQuant us quant →
    IsLevel ts (with sequences (placed place atom Once ∷ is)) → IsLevel (ts ++ us) (with sequences (placed place atom quant ∷ is))
level-quant ts us place atom quant sequences is q (a, b, h, bars, (c, d, h', items, (e, f, h'', is_atom, none))) = (
  a,
  b ++ us,
  ap (λ ts. ts ++ us) h ∙ append_assoc a b us,
  bars,
  (c, d ++ us, ap (λ ts. ts ++ us) h' ∙ append_assoc c d us, items, (e, us, ap (λ ts. ts ++ us) (h'' ∙ ap (λ f. e ++ f) none ∙ append-nil e), is_atom, q)),
)

level-bar : (bar : ℕ) (ts : List Token) (sequences : List SeqTree) (i : ItemTree) (is : List ItemTree) →
    IsLevel ts (with sequences (i ∷ is)) → IsLevel (ts ++ token Bar bar ∷ []) (with_sequence (with sequences (i ∷ is)))
level-bar bar ts sequences i is (a, b, h, bars, items) =
    let end = token Bar bar ∷ [] in
    let all : ts ++ end ≡ a ++ (b ++ end) = ap (λ ts. ts ++ end) h ∙ append_assoc a b end in
    (a ++ (b ++ end), [], all ∙ sym (append-nil (a ++ (b ++ end))), (bar, a, b, refl, bars, items-whole i is b items), refl)

level-empty : IsLevel [] empty_level
level-empty = ([], [], refl, refl, refl)

-- what is added to the innermost level is added to the tokens
abbrev Adds : List Token → LevelTree → LevelTree → Type 0
Adds us level level' = (ts : List Token) → IsLevel ts level → IsLevel (ts ++ us) level'

levels-add : (groups : List GroupTree) (ts us : List Token) (level level' : LevelTree) → Adds us level level' → AreLevels ts groups level →
    AreLevels (ts ++ us) groups level'
levels-add [] ts us level level' adds h = adds ts h
levels-add (g ∷ outer) ts us level level' adds (a, b, h, around, inner) =
    (a, b ++ us, ap (λ ts. ts ++ us) h ∙ append_assoc a (token ParenOpen g.place ∷ b) us, around, adds b inner)

levels-open : (groups : List GroupTree) (place : ℕ) (ts : List Token) (level : LevelTree) → AreLevels ts groups level →
    AreLevels (ts ++ token ParenOpen place ∷ []) (record { place = place; outer = level } ∷ groups) empty_level
levels-open groups place ts level h = (ts, [], refl, h, level-empty)

levels-close : (g : GroupTree) (outer : List GroupTree) (close : ℕ) (ts : List Token) (sequences : List SeqTree) (i : ItemTree) (is : List ItemTree) →
    let level : LevelTree = with sequences (i ∷ is) in
    AreLevels ts (g ∷ outer) level → AreLevels (ts ++ token ParenClose close ∷ []) outer (with_item (placed g.place (group (whole level)) Once) g.outer)
levels-close g outer close ts sequences i is (a, b, h, around, inner) =
    let level : LevelTree = with sequences (i ∷ is) in
    let end = token ParenClose close ∷ [] in
    let us = token ParenOpen g.place ∷ (b ++ end) in
    let closed : IsItem us (placed g.place (group (whole level)) Once) =
    (us, [], sym (append-nil us), (close, b, refl, level-whole b sequences i is inner), refl) in
    rw (ap (λ ts. ts ++ end) h ∙ append_assoc a (token ParenOpen g.place ∷ b) end)
    (levels-add outer a us g.outer (with_item (placed g.place (group (whole level)) Once) g.outer)
    (λ ts l. level-item ts us (placed g.place (group (whole level)) Once) g.outer l closed) around)

begins-push : (place : ℕ) (ts us : List Token) → HasFirstPlace place ts → HasFirstPlace place (ts ++ us)
begins-push place [] us h = absurd h
begins-push place (t ∷ ts) us h = h

bottom-item : (groups : List GroupTree) (i : ItemTree) (level : LevelTree) → bottom groups (with_item i level) ≡ bottom groups level
bottom-item [] i level = refl
bottom-item (g ∷ outer) i level = refl

starts-push : (head : HeadTree) (ts us : List Token) → StartsAt ts head → StartsAt (ts ++ us) head
starts-push (ruling at no_chain_in) ts us h = begins-push at ts us h
starts-push (resting at no_chain_in front slash) ts us h = begins-push at ts us h
starts-push head ts us h = tt

bottom-same : (groups : List GroupTree) (sequences : List SeqTree) (items items' : List ItemTree) →
    bottom groups (with sequences items) ≡ bottom groups (with sequences items')
bottom-same [] sequences items items' = refl
bottom-same (g ∷ outer) sequences items items' = refl

-- more tokens of the statement are read, which change groups and level
grow : (head : HeadTree) (ts us : List Token) (groups groups' : List GroupTree) (level level' : LevelTree) → Reading head →
    ((b : List Token) → AreLevels b groups level → AreLevels (b ++ us) groups' level') → (IsSingle head groups level → IsSingle head groups' level') →
    IsBegun ts head groups level → IsBegun (ts ++ us) head groups' level'
grow between ts us groups groups' level level' reading adds single h = absurd reading
grow (ended s) ts us groups groups' level level' reading adds single h = absurd reading
grow (assigning word at) ts us groups groups' level level' reading adds single (equals, b, h, levels) =
    (equals, b ++ us, ap (λ ts. ts ++ us) h, adds b levels)
grow (ruling at no_chain_in) ts us groups groups' level level' reading adds single (caret, b, h, caret_is, levels) =
    (caret, b ++ us, ap (λ ts. ts ++ us) h ∙ append_assoc caret b us, caret_is, adds b levels)
grow (resting at no_chain_in front slash) ts us groups groups' level level' reading adds single (caret, a, b, h, caret_is, one, none, levels) = (
  caret,
  a,
  b ++ us,
  ap (λ ts. ts ++ us) h ∙ append_assoc caret (a ++ token Slash slash ∷ b) us ∙ ap (λ vs. caret ++ vs) (append_assoc a (token Slash slash ∷ b) us),
  caret_is,
  one,
  single none,
  adds b levels,
)

-- where there are items, an expression is being read
reading-items : (head : HeadTree) (ts : List Token) (groups : List GroupTree) (sequences : List SeqTree) (i : ItemTree) (is : List ItemTree) →
    IsBegun ts head groups (with sequences (i ∷ is)) → Reading head
reading-items between ts groups sequences i is (none, no_group, with_head_alone) = absurd (let e : i ∷ is ≡ [] = ap
    (λ level. level.items) with_head_alone in cc)
reading-items (ended s) ts groups sequences i is (whole, no_group, with_head_alone) = absurd (let e : i ∷ is ≡ [] = ap
    (λ level. level.items) with_head_alone in cc)
reading-items head ts groups sequences i is h = tt

-- the head once an item begins
abbrev head_begun : ℕ → HeadTree → HeadTree
head_begun place between = ruling place false
head_begun place head = head

-- the tokens so far are those of the head that an item begins
begun-begun : (head : HeadTree) (place : ℕ) (ts : List Token) (groups : List GroupTree) (level : LevelTree) → Reading (head_begun place head) →
    IsBegun ts head groups level → IsBegun ts (head_begun place head) groups level
begun-begun between place ts groups level reading (none, no_group, with_head_alone) = rw (none, no_group, with_head_alone) ([], [], refl, refl, level-empty)
begun-begun (ended s) place ts groups level reading h = absurd reading
begun-begun head place ts groups level reading h = h

starts-begun : (head : HeadTree) (place : ℕ) (ts us : List Token) (groups : List GroupTree) (level : LevelTree) → HasFirstPlace place us →
    IsBegun ts head groups level → StartsAt ts head →
    StartsAt (ts ++ us) (head_begun place head)
starts-begun between place ts us groups level begins (none, no_group, with_head_alone) h = rw none begins
starts-begun (ruling at no_chain_in) place ts us groups level begins is h = begins-push at ts us h
starts-begun (resting at no_chain_in front slash) place ts us groups level begins is h = begins-push at ts us h
starts-begun head place ts us groups level begins is h = tt

abbrev made : List StatementTree → HeadTree → List GroupTree → LevelTree → Option SetsTree → Progress
made done head groups level sets = record { statements = done; head = head; groups = groups; level = level; sets = sets }

-- what an item's first token does to the head
abbrev BegunIs : HeadTree → ℕ → List StatementTree → List GroupTree → LevelTree → Type 0
BegunIs head place done groups level =
    ((begun place head (made done head groups level None) ≡ Some (made done (head_begun place head) groups level None)) × Reading (head_begun place head))
    ⊎ (begun place head (made done head groups level None) ≡ None)

begun-is : (head : HeadTree) (place : ℕ) (done : List StatementTree) (groups : List GroupTree) (level : LevelTree) → BegunIs head place done groups level
begun-is (ended s) place done groups level = inr refl
begun-is head place done groups level = inl (refl, tt)

-- outside of sets the tokens are the statements' and the begun statement's
abbrev Outside : List Token → List StatementTree → HeadTree → List GroupTree → LevelTree → Type 0
Outside ts done head groups level = (a : List Token) × (b : List Token) × (ts ≡ a ++ b) × IsFile a done × IsBegun b head groups level × StartsAt b head

outside : (ts : List Token) (done : List StatementTree) (head : HeadTree) (groups : List GroupTree) (level : LevelTree) →
    IsRead ts (made done head groups level None) → Outside ts done head groups level
outside ts done head groups level (a, b, h, file, (c, d, h', is, none, starts)) =
    let e : b ≡ c = h' ∙ ap (λ d. c ++ d) none ∙ append-nil c in
    (a, c, h ∙ ap (λ b. a ++ b) e, file, is, subst (λ b. StartsAt b head) e starts)

-- the same statements, and more tokens after them
grown : (ts us a b : List Token) → ts ≡ a ++ b → ts ++ us ≡ a ++ (b ++ us)
grown ts us a b h = ap (λ ts. ts ++ us) h ∙ append_assoc a b us

remade : (ts us a b : List Token) (done : List StatementTree) (head : HeadTree) (groups : List GroupTree) (level : LevelTree) → ts ≡ a ++ b → IsFile a done →
    IsBegun (b ++ us) head groups level → StartsAt (b ++ us) head → IsRead (ts ++ us) (made done head groups level None)
remade ts us a b done head groups level h file is starts = (a, b ++ us, grown ts us a b h, file, (b ++ us, [], sym (append-nil (b ++ us)), is, refl, starts))

-- the tokens of an item, or of its beginning
step_begun : (place : ℕ) (us ts : List Token) (done : List StatementTree) (head : HeadTree) (groups groups' : List GroupTree) (level level' : LevelTree)
    (f : Progress → Progress) → HasFirstPlace place us →
    ((b : List Token) → AreLevels b groups level → AreLevels (b ++ us) groups' level') → bottom groups' level' ≡ bottom groups level →
    ((h : HeadTree) → f (made done h groups level None) ≡ made done h groups' level' None) →
    IsRead ts (made done head groups level None) → IsStillRead (ts ++ us) (option_map f (begun place head (made done head groups level None)))
step_begun place us ts done head groups groups' level level' f begins adds same does read =
    go (begun-is head place done groups level) (outside ts done head groups level read)
  where
    go : BegunIs head place done groups level → Outside ts done head groups level →
        IsStillRead (ts ++ us) (option_map f (begun place head (made done head groups level None)))
    go (inl (is, reading)) (a, b, h, file, begun_is, starts) =
        rw (is, does (head_begun place head))
        (remade ts us a b done (head_begun place head) groups' level' h file
        (grow (head_begun place head) b us groups groups' level level' reading adds (single-same (head_begun place head) groups groups' level level' same)
        (begun-begun head place b groups level reading begun_is))
        (starts-begun head place b us groups level begins begun_is starts))
    go (inr is) out = rw is tt

step_atom : (kind : TokenKind) (place : ℕ) (atom : AtomTree) (ts : List Token) (done : List StatementTree) (head : HeadTree) (groups : List GroupTree)
    (level : LevelTree) → IsAtom place (token kind place ∷ []) atom →
    IsRead ts (made done head groups level None) → IsStillRead (ts ++ token kind place ∷ []) (at_atom place atom (made done head groups level None))
step_atom kind place atom ts done head groups level is read =
    let us = token kind place ∷ [] in
    let i = placed place atom Once in
    let one : IsItem us i = (us, [], refl, is, refl) in
    step_begun place us ts done head groups groups level (with_item i level) (atom_read place atom) refl
    (λ b l. levels-add groups b us level (with_item i level) (λ ts l. level-item ts us i level l one) l) (bottom-item groups i level) (λ h. refl) read

step_open : (place : ℕ) (ts : List Token) (done : List StatementTree) (head : HeadTree) (groups : List GroupTree) (level : LevelTree) →
    IsRead ts (made done head groups level None) → IsStillRead (ts ++ token ParenOpen place ∷ []) (at_open place (made done head groups level None))
step_open place ts done head groups level read =
    step_begun place (token ParenOpen place ∷ []) ts done head groups (record { place = place; outer = level } ∷ groups) level empty_level
    (group_begun place) refl
    (λ b l. levels-open groups place b level l) refl (λ h. refl) read

step_set_open : (place : ℕ) (ts : List Token) (done : List StatementTree) (head : HeadTree) (groups : List GroupTree) (level : LevelTree) →
    IsRead ts (made done head groups level None) → IsStillRead (ts ++ token SetOpen place ∷ []) (at_set_open place (made done head groups level None))
step_set_open place ts done head groups level read = go (begun-is head place done groups level) (outside ts done head groups level read)
  where
    go : BegunIs head place done groups level → Outside ts done head groups level →
        IsStillRead (ts ++ token SetOpen place ∷ []) (at_set_open place (made done head groups level None))
    go (inl (is, reading)) (a, b, h, file, begun_is, starts) =
        let us = token SetOpen place ∷ [] in
        rw is (
          a,
          b ++ us,
          grown ts us a b h,
          file,
          (
            b,
            us,
            refl,
            begun-begun head place b groups level reading begun_is,
            (reading, ([], us, refl, refl, opens_set place)),
            starts-begun head place b us groups level refl begun_is starts,
          ),
        )
    go (inr is) out = rw is tt

-- the same for a sign after an item
step_after : (us ts : List Token) (done : List StatementTree) (head : HeadTree) (groups groups' : List GroupTree) (level' : LevelTree)
    (sequences : List SeqTree) (i : ItemTree) (is : List ItemTree) →
    ((b : List Token) → AreLevels b groups (with sequences (i ∷ is)) → AreLevels (b ++ us) groups' level') →
    (IsSingle head groups (with sequences (i ∷ is)) → IsSingle head groups' level') →
    IsRead ts (made done head groups (with sequences (i ∷ is)) None) → IsRead (ts ++ us) (made done head groups' level' None)
step_after us ts done head groups groups' level' sequences i is adds single read =
    let (a, b, h, file, begun_is, starts) = outside ts done head groups (with sequences (i ∷ is)) read in
    remade ts us a b done head groups' level' h file
    (grow head b us groups groups' (with sequences (i ∷ is)) level' (reading-items head b groups sequences i is begun_is) adds single begun_is)
    (starts-push head b us starts)

step_quant : (kind : TokenKind) (place : ℕ) (quant : Quant) (ts : List Token) (done : List StatementTree) (head : HeadTree) (groups : List GroupTree)
    (sequences : List SeqTree) (items : List ItemTree) →
    IsQuant (token kind place ∷ []) quant →
    IsRead ts (made done head groups (with sequences items) None) →
    IsStillRead (ts ++ token kind place ∷ []) (at_quant (quantified quant items) (made done head groups (with sequences items) None))
step_quant kind place quant ts done head groups sequences (placed at atom Once ∷ is) q read =
    let us = token kind place ∷ [] in
    let level = with sequences (placed at atom Once ∷ is) in
    let level' = with sequences (placed at atom quant ∷ is) in
    step_after us ts done head groups groups level' sequences (placed at atom Once) is
    (λ b l. levels-add groups b us level level' (λ ts l. level-quant ts us at atom quant sequences is q l) l)
    (single-same head groups groups level level' (bottom-same groups sequences (placed at atom quant ∷ is) (placed at atom Once ∷ is))) read
step_quant kind place quant ts done head groups sequences items q read = tt

step_bar : (place : ℕ) (ts : List Token) (done : List StatementTree) (head : HeadTree) (groups : List GroupTree) (sequences : List SeqTree)
    (items : List ItemTree) →
    IsRead ts (made done head groups (with sequences items) None) →
    IsStillRead (ts ++ token Bar place ∷ []) (at_bar items groups (made done head groups (with sequences items) None))
step_bar place ts done head groups sequences [] read = tt
step_bar place ts done head (g ∷ groups) sequences (i ∷ is) read =
    let level = with sequences (i ∷ is) in
    step_after (token Bar place ∷ []) ts done head (g ∷ groups) (g ∷ groups) (with_sequence level) sequences i is
    (λ b l. levels-add (g ∷ groups) b (token Bar place ∷ []) level (with_sequence level) (λ ts l. level-bar place ts sequences i is l) l)
    (single-same head (g ∷ groups) (g ∷ groups) level (with_sequence level) refl) read
step_bar place ts done (resting at no_chain_in front slash) [] sequences (i ∷ is) read = tt
step_bar place ts done head [] sequences (i ∷ is) read =
    step_after (token Bar place ∷ []) ts done head [] [] (with_sequence (with sequences (i ∷ is))) sequences i is
    (λ b l. level-bar place b sequences i is l) (λ s. tt) read

step_close : (place : ℕ) (ts : List Token) (done : List StatementTree) (head : HeadTree) (groups : List GroupTree) (sequences : List SeqTree)
    (items : List ItemTree) →
    IsRead ts (made done head groups (with sequences items) None) →
    IsStillRead (ts ++ token ParenClose place ∷ []) (at_close items groups (made done head groups (with sequences items) None))
step_close place ts done head groups sequences [] read = tt
step_close place ts done head [] sequences (i ∷ is) read = tt
step_close place ts done head (g ∷ outer) sequences (i ∷ is) read =
    let level = with sequences (i ∷ is) in
    let level' = with_item (placed g.place (group (whole level)) Once) g.outer in
    step_after (token ParenClose place ∷ []) ts done head (g ∷ outer) outer level' sequences i is
    (λ b l. levels-close g outer place b sequences i is l)
    (single-same head (g ∷ outer) outer level level' (bottom-item outer (placed g.place (group (whole level)) Once) g.outer)) read

step_slash : (place : ℕ) (ts : List Token) (done : List StatementTree) (head : HeadTree) (groups : List GroupTree) (sequences : List SeqTree)
    (items : List ItemTree) →
    IsRead ts (made done head groups (with sequences items) None) →
    IsStillRead (ts ++ token Slash place ∷ []) (at_slash place items sequences groups (made done head groups (with sequences items) None))
step_slash place ts done head groups sequences [] read = tt
step_slash place ts done head groups (s ∷ sequences) (i ∷ is) read = tt
step_slash place ts done head (g ∷ groups) [] (i ∷ is) read = tt
step_slash place ts done (ruling at no_chain_in) [] [] (i ∷ is) read =
    let us = token Slash place ∷ [] in
    let (a, b, h, file, (caret, c, h', caret_is, levels), starts) = outside ts done (ruling at no_chain_in) [] (with [] (i ∷ is)) read in
    remade ts us a b done (resting at no_chain_in (whole (with [] (i ∷ is))) place) [] empty_level h file
    (caret, c, [], ap (λ ts. ts ++ us) h' ∙ append_assoc caret c us, caret_is, level-one c [] i is refl levels, refl, level-empty)
    (begins-push at b us starts)
step_slash place ts done head [] [] (i ∷ is) read = tt

step_caret : (place : ℕ) (ts : List Token) (done : List StatementTree) (head : HeadTree) (groups : List GroupTree) (level : LevelTree) →
    IsRead ts (made done head groups level None) → IsStillRead (ts ++ token Caret place ∷ []) (at_caret place head (made done head groups level None))
step_caret place ts done between groups level read =
    let us = token Caret place ∷ [] in
    let (a, b, h, file, (none, no_group, with_head_alone), starts) = outside ts done between groups level read in
    let levels : AreLevels [] groups level = rw (no_group, with_head_alone) level-empty in
    remade ts us a b done (ruling place true) groups level h file (us, [], rw none refl, (place, refl), levels) (rw none refl)
step_caret place ts done head groups level read = tt

step_control : (word : List ℕ) (place : ℕ) (ts : List Token) (done : List StatementTree) (head : HeadTree) (groups : List GroupTree) (level : LevelTree) →
    IsRead ts (made done head groups level None) →
    IsStillRead (ts ++ token (Control word) place ∷ []) (at_control word place head (made done head groups level None))
step_control word place ts done between groups level read =
    let us = token (Control word) place ∷ [] in
    let (a, b, h, file, (none, no_group, with_head_alone), starts) = outside ts done between groups level read in
    remade ts us a b done (ended (control word place)) groups level h file (λ semi. (semi, rw none refl), no_group, with_head_alone) tt
step_control word place ts done head groups level read = tt

step_name : (place at : ℕ) (ts : List Token) (done : List StatementTree) (sequences : List SeqTree) (items : List ItemTree) →
    IsRead ts (made done (ruling at false) [] (with sequences items) None) →
    IsStillRead (ts ++ token Equals place ∷ []) (name_assigned at (sole_name sequences items) (made done (ruling at false) [] (with sequences items) None))
step_name place at ts done [] (placed on (name word) Once ∷ []) read =
    let us = token Equals place ∷ [] in
    let (a, b, h, file, (caret, c, h', no_caret, (d, e, h'', no_bar, (f, g, h3, none, (k, l, h4, is_name, no_quant)))), starts) =
    outside ts done (ruling at false) [] (with [] (placed on (name word) Once ∷ [])) read in
    let all : b ≡ token (Name word) on ∷ [] = rw (h', no_caret, h'', no_bar, h3, none, h4, is_name, no_quant) refl in
    let here : on ≡ at = subst (HasFirstPlace at) all starts in
    remade ts us a b done (assigning word at) [] empty_level h file (place, [], rw (all, here) refl, level-empty) tt
step_name place at ts done sequences items read = tt

step_equals : (place : ℕ) (ts : List Token) (done : List StatementTree) (head : HeadTree) (groups : List GroupTree) (sequences : List SeqTree)
    (items : List ItemTree) →
    IsRead ts (made done head groups (with sequences items) None) →
    IsStillRead (ts ++ token Equals place ∷ []) (at_equals head groups (made done head groups (with sequences items) None))
step_equals place ts done (ruling at false) [] sequences items read = step_name place at ts done sequences items read
step_equals place ts done head groups sequences items read = tt

-- the tokens are the statement, where there is one
abbrev Ends : List Token → Option StatementTree → Type 0
Ends ts None = Unit {0}
Ends ts (Some s) = IsStatement ts s

ends : (head : HeadTree) (tag : Option ℕ) (b t : List Token) (semi : ℕ) (sequences : List SeqTree) (i : ItemTree) (is : List ItemTree) → IsTag t tag →
    IsBegun b head [] (with sequences (i ∷ is)) → StartsAt b head →
    Ends (b ++ (t ++ token Semi semi ∷ [])) (statement_of head (whole (with sequences (i ∷ is))) tag)
ends (assigning word at) None b t semi sequences i is no_tag (equals, c, h, levels) starts =
    (equals, semi, c, rw (h, no_tag) refl, level-whole c sequences i is levels)
ends (ruling at no_chain_in) tag b t semi sequences i is tag_is (caret, c, h, caret_is, levels) starts =
    let end = t ++ token Semi semi ∷ [] in
    (semi, caret, c, t, ap (λ ts. ts ++ end) h ∙ append_assoc caret c end, begins-push at b end starts, caret_is, level-whole c sequences i is levels, tag_is)
ends (resting at no_chain_in front slash) tag b t semi sequences i is tag_is (caret, a, c, h, caret_is, one, none, levels) starts =
    let end = t ++ token Semi semi ∷ [] in (
      semi,
      caret,
      a ++ token Slash slash ∷ c,
      t,
      ap (λ ts. ts ++ end) h ∙ append_assoc caret (a ++ token Slash slash ∷ c) end,
      begins-push at b end starts,
      caret_is,
      (a, c, refl, one, level-one c sequences i is none levels),
      tag_is,
    )
ends head tag b t semi sequences i is tag_is h starts = tt

step_tag : (status place : ℕ) (ts : List Token) (done : List StatementTree) (head : HeadTree) (groups : List GroupTree) (sequences : List SeqTree)
    (items : List ItemTree) →
    IsRead ts (made done head groups (with sequences items) None) →
    IsStillRead (ts ++ token (Tag status) place ∷ [])
    (statement_read (statement_at items groups (Some status) (made done head groups (with sequences items) None))
    (made done head groups (with sequences items) None))
step_tag status place ts done head groups sequences [] read = tt
step_tag status place ts done head (g ∷ groups) sequences (i ∷ is) read = tt
step_tag status place ts done head [] sequences (i ∷ is) read =
    let (a, b, h, file, begun_is, starts) = outside ts done head [] (with sequences (i ∷ is)) read in
    go a b h file (statement_of head (whole (with sequences (i ∷ is))) (Some status))
    (λ semi. ends head (Some status) b (token (Tag status) place ∷ []) semi sequences i is (place, refl) begun_is starts)
  where
    go : (a b : List Token) → ts ≡ a ++ b → IsFile a done → (o : Option StatementTree) →
        ((semi : ℕ) → Ends (b ++ (token (Tag status) place ∷ token Semi semi ∷ [])) o) →
        IsStillRead (ts ++ token (Tag status) place ∷ []) (statement_read o (made done head [] (with sequences (i ∷ is)) None))
    go a b h file None is_statement = tt
    go a b h file (Some s) is_statement =
        let us = token (Tag status) place ∷ [] in
        remade ts us a b done (ended s) [] empty_level h file
        (λ semi. subst (λ ts. IsStatement ts s) (sym (append_assoc b us (token Semi semi ∷ []))) (is_statement semi), refl, refl) tt

statements-push : (f : List StatementTree) (s : StatementTree) (ts us : List Token) → IsFile ts f → IsStatement us s → IsFile (ts ++ us) (f ++ s ∷ [])
statements-push [] s ts us h one = (us, [], rw h (sym (append-nil us)), one, refl)
statements-push (s' ∷ f) s ts us (a, b, h, first, rest) one =
    (a, b ++ us, ap (λ ts. ts ++ us) h ∙ append_assoc a b us, first, statements-push f s b us rest one)

-- a statement ends
added : (ts us a b : List Token) (done : List StatementTree) (s : StatementTree) (groups : List GroupTree) (level : LevelTree) → ts ≡ a ++ b → IsFile a done →
    IsStatement (b ++ us) s → groups ≡ [] → level ≡ empty_level →
    IsRead (ts ++ us) (made (done ++ s ∷ []) between groups level None)
added ts us a b done s groups level h file is no_group with_head_alone = (
  a ++ (b ++ us),
  [],
  grown ts us a b h ∙ sym (append-nil (a ++ (b ++ us))),
  statements-push done s a (b ++ us) file is,
  ([], [], refl, (refl, no_group, with_head_alone), refl, tt),
)

step_end : (semi : ℕ) (ts : List Token) (done : List StatementTree) (head : HeadTree) (groups : List GroupTree) (sequences : List SeqTree)
    (items : List ItemTree) →
    IsRead ts (made done head groups (with sequences items) None) →
    IsStillRead (ts ++ token Semi semi ∷ [])
    (statement_ended (statement_at items groups None (made done head groups (with sequences items) None)) (made done head groups (with sequences items) None))
step_end semi ts done head groups sequences [] read = tt
step_end semi ts done head (g ∷ groups) sequences (i ∷ is) read = tt
step_end semi ts done head [] sequences (i ∷ is) read =
    let (a, b, h, file, begun_is, starts) = outside ts done head [] (with sequences (i ∷ is)) read in
    go a b h file (statement_of head (whole (with sequences (i ∷ is))) None) (ends head None b [] semi sequences i is refl begun_is starts)
  where
    go : (a b : List Token) → ts ≡ a ++ b → IsFile a done → (o : Option StatementTree) → Ends (b ++ token Semi semi ∷ []) o →
        IsStillRead (ts ++ token Semi semi ∷ []) (statement_ended o (made done head [] (with sequences (i ∷ is)) None))
    go a b h file None is_statement = tt
    go a b h file (Some s) is_statement = added ts (token Semi semi ∷ []) a b done s [] empty_level h file is_statement refl refl

step_semi : (semi : ℕ) (ts : List Token) (done : List StatementTree) (head : HeadTree) (groups : List GroupTree) (sequences : List SeqTree)
    (items : List ItemTree) →
    IsRead ts (made done head groups (with sequences items) None) →
    IsStillRead (ts ++ token Semi semi ∷ []) (at_semi head (made done head groups (with sequences items) None))
step_semi semi ts done between groups sequences items read =
    let (a, b, h, file, (none, no_group, with_head_alone), starts) = outside ts done between groups (with sequences items) read in
    added ts (token Semi semi ∷ []) a b done nothing groups (with sequences items) h file (
      semi,
      ap
          (λ b. b ++ token Semi semi ∷ []) none,
    ) no_group with_head_alone
step_semi semi ts done (ended s) groups sequences items read =
    let (a, b, h, file, (is, no_group, with_head_alone), starts) = outside ts done (ended s) groups (with sequences items) read in
    added ts (token Semi semi ∷ []) a b done s groups (with sequences items) h file (is semi) no_group with_head_alone
step_semi semi ts done head groups sequences items read = step_end semi ts done head groups sequences items read

-- each token outside of sets
step_outside : (kind : TokenKind) (place : ℕ) (ts : List Token) (done : List StatementTree) (head : HeadTree) (groups : List GroupTree)
    (sequences : List SeqTree) (items : List ItemTree) →
    IsRead ts (made done head groups (with sequences items) None) →
    IsStillRead (ts ++ token kind place ∷ []) (advance_outside kind place (made done head groups (with sequences items) None))
step_outside Semi place ts done head groups sequences items read = step_semi place ts done head groups sequences items read
step_outside Equals place ts done head groups sequences items read = step_equals place ts done head groups sequences items read
step_outside Bar place ts done head groups sequences items read = step_bar place ts done head groups sequences items read
step_outside Slash place ts done head groups sequences items read = step_slash place ts done head groups sequences items read
step_outside Caret place ts done head groups sequences items read = step_caret place ts done head groups (with sequences items) read
step_outside kind.Star place ts done head groups sequences items read = step_quant kind.Star place Star ts done head groups sequences items (place, refl) read
step_outside kind.Plus place ts done head groups sequences items read = step_quant kind.Plus place Plus ts done head groups sequences items (place, refl) read
step_outside kind.Quest place ts done head groups sequences items read =
    step_quant kind.Quest place Quest ts done head groups sequences items (place, refl) read
step_outside Dot place ts done head groups sequences items read = step_atom Dot place any ts done head groups (with sequences items) refl read
step_outside ParenOpen place ts done head groups sequences items read = step_open place ts done head groups (with sequences items) read
step_outside ParenClose place ts done head groups sequences items read = step_close place ts done head groups sequences items read
step_outside SetOpen place ts done head groups sequences items read = step_set_open place ts done head groups (with sequences items) read
step_outside (Char c bare) place ts done head groups sequences items read =
    step_atom (Char c bare) place (character c bare) ts done head groups (with sequences items) refl read
step_outside (Quoted word) place ts done head groups sequences items read =
    step_atom (Quoted word) place (quoted word) ts done head groups (with sequences items) refl read
step_outside (Name word) place ts done head groups sequences items read =
    step_atom (Name word) place (name word) ts done head groups (with sequences items) refl read
step_outside (Control word) place ts done head groups sequences items read = step_control word place ts done head groups (with sequences items) read
step_outside (Tag status) place ts done head groups sequences items read = step_tag status place ts done head groups sequences items read
step_outside (Prop negated word value) place ts done head groups sequences items read =
    step_atom (Prop negated word value) place (property negated word value) ts done head groups (with sequences items) refl read
step_outside kind place ts done head groups sequences items read = tt

-- within sets

abbrev sets_with : SetLevelTree → List OuterSetTree → Option SetsTree
sets_with s outers = Some (record { innermost = s; outers = outers })

-- more tokens are read within these sets
remade_within : (ts us a b c d : List Token) (done : List StatementTree) (head : HeadTree) (groups : List GroupTree) (level : LevelTree) (s : SetLevelTree)
    (outers : List OuterSetTree) →
    ts ≡ a ++ b → IsFile a done → b ≡ c ++ d → IsBegun c head groups level → AreSets (d ++ us) head (sets_with s outers) → StartsAt b head →
    IsRead (ts ++ us) (made done head groups level (sets_with s outers))
remade_within ts us a b c d done head groups level s outers h file h' is inner starts =
    (a, b ++ us, grown ts us a b h, file, (c, d ++ us, grown b us c d h', is, inner, starts-push head b us starts))

step_kept : (t : Token) (ts : List Token) (done : List StatementTree) (head : HeadTree) (groups : List GroupTree) (level : LevelTree) (s : SetLevelTree)
    (outers : List OuterSetTree) (o : Option SetLevelTree) →
    ((us : List Token) → IsSetRead us s → IsStillSet (us ++ t ∷ []) o) →
    IsRead ts (made done head groups level (sets_with s outers)) →
    IsStillRead (ts ++ t ∷ []) (set_kept outers (made done head groups level (sets_with s outers)) o)
step_kept t ts done head groups level s outers None still read = tt
step_kept t ts done head groups level s outers (Some s') still (a, b, h, file, (c, d, h', is, (reading, (e, f, h'', around, inner)), starts)) =
    let us = t ∷ [] in
    remade_within ts us a b c d done head groups level s' outers h file h' is (reading, (e, f ++ us, grown d us e f h'', around, still f inner)) starts

step_inner_open : (place : ℕ) (ts : List Token) (done : List StatementTree) (head : HeadTree) (groups : List GroupTree) (level : LevelTree) (s : SetLevelTree)
    (outers : List OuterSetTree) (o : Option Join) →
    join_in s.state ≡ o → IsRead ts (made done head groups level (sets_with s outers)) →
    IsStillRead (ts ++ token SetOpen place ∷ []) (at_inner_open place o (record { innermost = s; outers = outers })
    (made done head groups level (sets_with s outers)))
step_inner_open place ts done head groups level s outers None joins read = tt
step_inner_open place ts done head groups level s outers (Some join) joins (a, b, h, file, (c, d, h', is, (reading, (e, f, h'', around, inner)), starts)) =
    let us = token SetOpen place ∷ [] in
    remade_within ts us a b c d done head groups level (new_set_level place) (outer_set s join ∷ outers) h file h' is
    (reading, (d, us, refl, (e, f, h'', around, opens_inner f s join inner joins), opens_set place)) starts

-- a set ends: the outermost is an atom, another an operand
set_closes : (at : ℕ) (t : SetSyntax) (a b c d e f us ts : List Token) (done : List StatementTree) (head : HeadTree) (groups : List GroupTree)
    (level : LevelTree) (s : SetLevelTree) (outers : List OuterSetTree) →
    ts ≡ a ++ b → IsFile a done → b ≡ c ++ d → IsBegun c head groups level → Reading head → d ≡ e ++ f → AreOuters e outers → IsSet at (f ++ us) t →
    StartsAt b head →
    IsRead (ts ++ us) (set_ended at t outers (made done head groups level (sets_with s outers)))
set_closes at t a b c d e f us ts done head groups level s [] h file h' is reading h'' around inner starts =
    let i = placed at (set t) Once in
    let vs = f ++ us in
    let one : IsItem vs i = (vs, [], sym (append-nil vs), inner, refl) in
    let all : b ++ us ≡ c ++ vs = grown b us c d h' ∙ ap (λ d. c ++ (d ++ us)) (h'' ∙ ap (λ e. e ++ f) around) in
    let grew = grow head c vs groups groups level (with_item i level) reading
    (λ b l. levels-add groups b vs level (with_item i level) (λ ts l. level-item ts vs i level l one) l)
    (single-same head groups groups level (with_item i level) (bottom-item groups i level)) is in
    remade ts us a b done head groups (with_item i level) h file (subst (λ ts. IsBegun ts head groups (with_item i level)) (sym all) grew)
    (starts-push head b us starts)
set_closes at t a b c d e f us ts done head groups level s (o ∷ outers) h file h' is reading h'' (k, l, h3, around, outer) inner starts =
    let all = grown d us e f h'' ∙ grown e (f ++ us) k l h3 in
    remade_within ts us a b c d done head groups level (set_resumed at t o) outers h file h' is
    (reading, (k, l ++ (f ++ us), all, around, resumes l (f ++ us) at t o outer inner)) starts

step_inner_close : (place : ℕ) (ts : List Token) (done : List StatementTree) (head : HeadTree) (groups : List GroupTree) (level : LevelTree) (s : SetLevelTree)
    (outers : List OuterSetTree) (o : Option (List PartTree)) →
    ended_parts s.state s.parts ≡ o → IsRead ts (made done head groups level (sets_with s outers)) →
    IsStillRead (ts ++ token SetClose place ∷ []) (at_inner_close o (record { innermost = s; outers = outers })
    (made done head groups level (sets_with s outers)))
step_inner_close place ts done head groups level s outers None joins read = tt
step_inner_close place ts done head groups level s outers (Some parts) closes (a, b, h, file, (c, d, h', is, (reading, (e, f, h'', around, inner)), starts)) =
    set_closes s.place (set_from s parts) a b c d e f (token SetClose place ∷ []) ts done head groups level s outers h file h' is reading h'' around
    (ends_set s.state place s.place s.negated s.parts parts f inner.1 closes) starts

-- each token within sets
step_inside : (kind : TokenKind) (place : ℕ) (ts : List Token) (done : List StatementTree) (head : HeadTree) (groups : List GroupTree) (level : LevelTree)
    (s : SetLevelTree) (outers : List OuterSetTree) →
    IsRead ts (made done head groups level (sets_with s outers)) →
    IsStillRead (ts ++ token kind place ∷ []) (advance_inside kind place (record { innermost = s; outers = outers })
    (made done head groups level (sets_with s outers)))
step_inside SetOpen place ts done head groups level s outers read = step_inner_open place ts done head groups level s outers (join_in s.state) refl read
step_inside SetClose place ts done head groups level s outers read =
    step_inner_close place ts done head groups level s outers (ended_parts s.state s.parts) refl read
step_inside kind place ts done head groups level s outers read =
    step_kept (token kind place) ts done head groups level s outers (at_set_token kind place s) (λ us is. reads_token kind place us s is) read

step : (sets : Option SetsTree) (kind : TokenKind) (place : ℕ) (ts : List Token) (done : List StatementTree) (head : HeadTree) (groups : List GroupTree)
    (level : LevelTree) →
    IsRead ts (made done head groups level sets) → IsStillRead (ts ++ token kind place ∷ []) (advance_by sets kind place (made done head groups level sets))
step None kind place ts done head groups level read = step_outside kind place ts done head groups level.sequences level.items read
step (Some sets) kind place ts done head groups level read = step_inside kind place ts done head groups level sets.innermost sets.outers read

-- what a run reads is the file so far
run-read : (us ts : List Token) (p : Progress) → IsRead ts p → IsStillRead (ts ++ us) (run us p)
run-read [] ts p read = rw (append-nil ts) read
run-read (t ∷ us) ts p read =
    go (advance t p) (step p.sets t.kind t.place ts p.statements p.head p.groups p.level read) (λ q. run-read us (ts ++ t ∷ []) q)
  where
    go : (o : Option Progress) → IsStillRead (ts ++ t ∷ []) o → ((q : Progress) → IsRead (ts ++ t ∷ []) q → IsStillRead ((ts ++ t ∷ []) ++ us) (run us q)) →
        IsStillRead (ts ++ t ∷ us) (option_and_then (run us) o)
    go None still each = tt
    go (Some q) still each = subst (λ vs. IsStillRead vs (run us q)) (append_assoc ts (t ∷ []) us) (each q still)

-- the tokens of a run are the file so far
run_is_read : (ts : List Token) (p : Progress) → run ts (after []) ≡ Some p → IsRead ts p
run_is_read ts p h =
    let read : IsStillRead ts (run ts (after [])) = run-read ts [] (after []) ([], [], refl, refl, ([], [], refl, (refl, refl, refl), refl, tt)) in
    subst (IsStillRead ts) h read

-- sets are open only where an expression is being read
pub run_is_reading : (ts : List Token) (p : Progress) (sets : SetsTree) → run ts (after []) ≡ Some p → p.sets ≡ Some sets → Reading p.head
run_is_reading ts p sets h open_ones =
    let (a, b, h', file, (c, d, h'', is, are, starts)) = run_is_read ts p h in
    (subst (AreSets d p.head) open_ones are).0

-- tokens whose run ends between statements are a file
pub run_is_file : (ts : List Token) (p : Progress) → run ts (after []) ≡ Some p → p.head ≡ between → IsFile ts p.statements
run_is_file ts p h between_them =
    let (a, b, all, file, (c, d, h', is, are, starts)) = run_is_read ts p h in
    let none : c ≡ [] = (subst (λ head. IsBegun c head p.groups p.level) between_them is).0 in
    let no_set : d ≡ [] = go d p.sets (subst (λ head. AreSets d head p.sets) between_them are) in
    rw (all, h', none, no_set, append-nil a) file
  where
    go : (d : List Token) (sets : Option SetsTree) → AreSets d between sets → d ≡ []
    go d None none = none
    go d (Some sets) (reading, more) = absurd reading
