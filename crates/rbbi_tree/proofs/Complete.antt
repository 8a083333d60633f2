-- Every file is accepted: the machine's run over its tokens ends between statements, after the file's.
use Rattle.std.proofs.Common.{◌≡◌, ℕ, Bool, true, false, List, [], ◌∷◌, ◌++◌, Option, Some, None, option_and_then, option_map, refl, sym, ◌∙◌, ap, subst}
use Rattle.std.proofs.lemmas.List.{append_assoc, append-nil}
use Rattle.rbbi_lex.specs.declared.token.Token.{Token}
use Rattle.rbbi_lex.specs.declared.token.TokenKind.{TokenKind}
use Rattle.rbbi_lex.specs.declared.token.TokenKind.TheVariants.{Semi, Slash, Dot, ParenOpen, ParenClose, SetOpen, Char, Quoted, Name, Prop}
use Rattle.rbbi_tree.specs.declared.syntax.Quant.{Quant}
use Rattle.rbbi_tree.specs.declared.syntax.Quant.TheVariants.{Once}
use Rattle.rbbi_tree.specs.Trees.{set_of, ExprTree, SeqTree, ItemTree, AtomTree, StatementTree, no_alternatives, alternative, no_items, item, placed}
use Rattle.rbbi_tree.specs.Trees.{character, quoted, any, name, property, set, group, nothing, control, assign, rule}
use Rattle.rbbi_tree.specs.Grammar.{token, HasFirstPlace, IsCaret, IsQuant, IsTag, IsExpr, AreMoreAlternatives, IsSeq, AreItems, IsItem, IsAtom, IsOneSeq}
use Rattle.rbbi_tree.specs.Grammar.{IsMatcher, IsStatement, IsFile}
use Rattle.rbbi_tree.specs.inner.Statements.{LevelTree, GroupTree, HeadTree, assigning, ruling, resting, Progress, empty_level, after, items_back}
use Rattle.rbbi_tree.specs.inner.Statements.{sequences_back, with_item, with_sequence, whole, begun, atom_read, group_begun, set_begun, at_bar, run}
use Rattle.rbbi_tree.proofs.Runs.{run-on}
use Rattle.rbbi_tree.proofs.CompleteSets.{run_set}

-- within a statement, outside of sets
abbrev pub inside : List StatementTree → HeadTree → List GroupTree → LevelTree → Progress
inside done head groups level = record { statements = done; head = head; groups = groups; level = level; sets = None }

-- after this head an atom may be read
abbrev pub FollowsMachine : HeadTree → Type 0
FollowsMachine head = (place : ℕ) (p : Progress) → begun place head p ≡ Some p

-- after this head and in these groups a bar may be read
abbrev MayBar : HeadTree → List GroupTree → Type 0
MayBar head groups =
    (done : List StatementTree) (level : LevelTree) (i : ItemTree) (is : List ItemTree) →
    at_bar (i ∷ is) groups (inside done head groups level) ≡ Some (inside done head groups (with_sequence level))

-- the items of the sequence, the latest first, before these
abbrev items_onto : SeqTree → List ItemTree → List ItemTree
items_onto no_items is = is
items_onto (item i more) is = items_onto more (i ∷ is)

-- after an item there are items, and they are the sequence
onto_cons : (s : SeqTree) (i : ItemTree) (is : List ItemTree) →
    (j : ItemTree) × (js : List ItemTree) × (items_onto s (i ∷ is) ≡ j ∷ js) × (items_back (j ∷ js) no_items ≡ items_back (i ∷ is) s)
onto_cons no_items i is = (i, is, refl, refl)
onto_cons (item k more) i is = onto_cons more k (i ∷ is)

abbrev with_items : SeqTree → LevelTree → LevelTree
with_items s level = record { sequences = level.sequences; items = items_onto s level.items }

-- where tokens lead, and that items stand at the end there
abbrev Reaches : List Token → List StatementTree → HeadTree → List GroupTree → LevelTree → ExprTree → Type 0
Reaches ts done head groups level e =
    (sequences : List SeqTree) × (i : ItemTree) × (is : List ItemTree) ×
    (run ts (inside done head groups level) ≡ Some (inside done head groups (record { sequences = sequences; items = i ∷ is }))) ×
    (whole (record { sequences = sequences; items = i ∷ is }) ≡ e)

-- an atom of one token
one : (place : ℕ) (atom : AtomTree) (done : List StatementTree) (head : HeadTree) (groups : List GroupTree) (level : LevelTree) → FollowsMachine head →
    option_and_then (run []) (option_map (atom_read place atom) (begun place head (inside done head groups level)))
    ≡ Some (inside done head groups (with_item (placed place atom Once) level))
one place atom done head groups level reads =
    ap (λ o. option_and_then (run []) (option_map (atom_read place atom) o)) (reads place (inside done head groups level))

run_quant : (quant : Quant) (ts : List Token) (place : ℕ) (atom : AtomTree) (done : List StatementTree) (head : HeadTree) (groups : List GroupTree)
    (level : LevelTree) → IsQuant ts quant →
    run ts (inside done head groups (with_item (placed place atom Once) level)) ≡ Some (inside done head groups (with_item (placed place atom quant) level))
run_quant Once ts place atom done head groups level h = rw h refl
run_quant quant ts place atom done head groups level (at, h) = rw h refl

mutual
  run_item : (i : ItemTree) (ts : List Token) (done : List StatementTree) (head : HeadTree) (groups : List GroupTree) (level : LevelTree) →
      FollowsMachine head →
      IsItem ts i →
      run ts (inside done head groups level) ≡ Some (inside done head groups (with_item i level))
  run_item (placed place atom quant) ts done head groups level reads (a, b, h, is, q) =
      rw h (run-on a b (inside done head groups level) _ (run_atom atom place a done head groups level reads is) ∙
      run_quant quant b place atom done head groups level q)

  run_atom : (atom : AtomTree) (place : ℕ) (ts : List Token) (done : List StatementTree) (head : HeadTree) (groups : List GroupTree) (level : LevelTree) →
      FollowsMachine head → IsAtom place ts atom →
      run ts (inside done head groups level) ≡ Some (inside done head groups (with_item (placed place atom Once) level))
  run_atom (character c bare) place ts done head groups level reads h = rw h (one place (character c bare) done head groups level reads)
  run_atom (quoted word) place ts done head groups level reads h = rw h (one place (quoted word) done head groups level reads)
  run_atom any place ts done head groups level reads h = rw h (one place any done head groups level reads)
  run_atom (name word) place ts done head groups level reads h = rw h (one place (name word) done head groups level reads)
  run_atom (property negated word value) place ts done head groups level reads h = rw h (one place (property negated word value) done head groups level reads)
  run_atom (set (set_of at negated parts)) place ts done head groups level reads (caret, rest, h, here, caret_is, others) =
      rw (h, here) (ap (λ o. option_and_then (run (caret ++ rest)) (option_map (set_begun place) o)) (reads place (inside done head groups level))
      ∙ run_set negated parts caret rest place (inside done head groups level) caret_is others)
  run_atom (group inner) place ts done head groups level reads (close, a, h, e) =
      let new_set_level : GroupTree = record { place = place; outer = level } in
      let last = token ParenClose close ∷ [] in
      let (sequences, i, is, ran, all) = run_expr inner a done head (new_set_level ∷ groups) reads (λ done level i is. refl) e in
      rw h (ap (λ o. option_and_then (run (a ++ last)) (option_map (group_begun place) o)) (reads place (inside done head groups level))
      ∙ run-on a last (inside done head (new_set_level ∷ groups) empty_level) _ ran
      ∙ ap (λ e. Some (inside done head groups (with_item (placed place (group e) Once) level))) all)

  run_items : (s : SeqTree) (ts : List Token) (done : List StatementTree) (head : HeadTree) (groups : List GroupTree) (level : LevelTree) →
      FollowsMachine head →
      AreItems ts s →
      run ts (inside done head groups level) ≡ Some (inside done head groups (with_items s level))
  run_items no_items ts done head groups level reads h = rw h refl
  run_items (item i more) ts done head groups level reads (a, b, h, first, rest) =
      rw h (run-on a b (inside done head groups level) _ (run_item i a done head groups level reads first)
      ∙ run_items more b done head groups (with_item i level) reads rest)

  run_expr : (e : ExprTree) (ts : List Token) (done : List StatementTree) (head : HeadTree) (groups : List GroupTree) → FollowsMachine head →
      MayBar head groups →
      IsExpr ts e →
      Reaches ts done head groups empty_level e
  run_expr no_alternatives ts done head groups reads bars h = absurd h
  run_expr (alternative no_items more) ts done head groups reads bars (a, b, h, first, rest) = absurd first
  run_expr (alternative (item i is) more) ts done head groups reads bars (a, b, h, first, rest) =
      let (j, js, same, all) = onto_cons is i [] in
      let ran : run a (inside done head groups empty_level) ≡ Some (inside done head groups (record { sequences = []; items = j ∷ js })) =
      run_items (item i is) a done head groups empty_level reads first
      ∙ ap (λ is. Some (inside done head groups (record { sequences = []; items = is }))) same in
      let (sequences, k, ks, further, end) = run_more more b done head groups [] j js reads bars rest in
      (sequences, k, ks, rw h (run-on a b (inside done head groups empty_level) _ ran ∙ further), end ∙ ap (λ s. alternative s more) all)

  run_more : (e : ExprTree) (ts : List Token) (done : List StatementTree) (head : HeadTree) (groups : List GroupTree) (sequences : List SeqTree) (i : ItemTree)
      (is : List ItemTree) →
      FollowsMachine head → MayBar head groups → AreMoreAlternatives ts e →
      Reaches ts done head groups (record { sequences = sequences; items = i ∷ is }) (sequences_back sequences (alternative (items_back (i ∷ is) no_items) e))
  run_more no_alternatives ts done head groups sequences i is reads bars h = (sequences, i, is, rw h refl, refl)
  run_more (alternative no_items more) ts done head groups sequences i is reads bars (bar, a, b, h, first, rest) = absurd first
  run_more (alternative (item k ks) more) ts done head groups sequences i is reads bars (bar, a, b, h, first, rest) =
      let before : LevelTree = record { sequences = sequences; items = i ∷ is } in
      let level : LevelTree = with_sequence before in
      let (j, js, same, all) = onto_cons ks k [] in
      let ran : run a (inside done head groups level) ≡ Some (inside done head groups (record { sequences = level.sequences; items = j ∷ js })) =
      run_items (item k ks) a done head groups level reads first
      ∙ ap (λ is. Some (inside done head groups (record { sequences = level.sequences; items = is }))) same in
      let (sequences', l, ls, further, end) = run_more more b done head groups level.sequences j js reads bars rest in (
        sequences',
        l,
        ls,
        rw h (ap (option_and_then (run (a ++ b))) (bars done before i is) ∙ run-on a b (inside done head groups level) _ ran ∙ further),
        end ∙ ap (λ s. sequences_back sequences (alternative (items_back (i ∷ is) no_items) (alternative s more))) all,
      )

-- one sequence is read, from nothing
run_one : (e : ExprTree) (ts : List Token) (done : List StatementTree) (head : HeadTree) → FollowsMachine head → IsOneSeq ts e →
    (i : ItemTree) × (is : List ItemTree) × (run ts (inside done head [] empty_level) ≡ Some (inside done head [] (record { sequences = []; items = i ∷ is })))
    × (whole (record { sequences = []; items = i ∷ is }) ≡ e)
run_one no_alternatives ts done head reads h = absurd h
run_one (alternative first (alternative next more)) ts done head reads h = absurd h
run_one (alternative no_items no_alternatives) ts done head reads h = absurd h
run_one (alternative (item i is) no_alternatives) ts done head reads h =
    let (j, js, same, all) = onto_cons is i [] in (
      j,
      js,
      run_items (item i is) ts done head [] empty_level reads h ∙ ap (λ is. Some (inside done head [] (record { sequences = []; items = is }))) same,
      ap (λ s. alternative s no_alternatives) all,
    )

-- the kinds of token that begin an item
abbrev BeginsItem : TokenKind → Type 0
BeginsItem Dot = Unit {0}
BeginsItem ParenOpen = Unit {0}
BeginsItem SetOpen = Unit {0}
BeginsItem (Char c bare) = Unit {0}
BeginsItem (Quoted word) = Unit {0}
BeginsItem (Name word) = Unit {0}
BeginsItem (Prop negated word value) = Unit {0}
BeginsItem kind = ⊥

-- the first token begins an item
abbrev BeginsWell : List Token → Type 0
BeginsWell ts = (k : TokenKind) × (place : ℕ) × (rest : List Token) × (ts ≡ token k place ∷ rest) × BeginsItem k

begins_atom : (atom : AtomTree) (place : ℕ) (ts : List Token) → IsAtom place ts atom → BeginsWell ts
begins_atom (character c bare) place ts h = (Char c bare, place, [], h, tt)
begins_atom (quoted word) place ts h = (Quoted word, place, [], h, tt)
begins_atom any place ts h = (Dot, place, [], h, tt)
begins_atom (name word) place ts h = (Name word, place, [], h, tt)
begins_atom (property negated word value) place ts h = (Prop negated word value, place, [], h, tt)
begins_atom (set (set_of at negated parts)) place ts (caret, rest, h, here, caret_is, others) = (SetOpen, place, caret ++ rest, h, tt)
begins_atom (group inner) place ts (close, a, h, e) = (ParenOpen, place, a ++ token ParenClose close ∷ [], h, tt)

begins_more : (ts a b : List Token) → ts ≡ a ++ b → BeginsWell a → BeginsWell ts
begins_more ts a b h (k, place, rest, is, ok) = (k, place, rest ++ b, h ∙ ap (λ c. c ++ b) is, ok)

begins_seq : (s : SeqTree) (ts : List Token) → IsSeq ts s → BeginsWell ts
begins_seq no_items ts h = absurd h
begins_seq (item (placed place atom quant) is) ts (a, b, h, (c, d, h', is_atom, q), rest) =
    begins_more ts a b h (begins_more a c d h' (begins_atom atom place c is_atom))

begins_expr : (e : ExprTree) (ts : List Token) → IsExpr ts e → BeginsWell ts
begins_expr no_alternatives ts h = absurd h
begins_expr (alternative s more) ts (a, b, h, first, rest) = begins_more ts a b h (begins_seq s a first)

begins_one : (e : ExprTree) (ts : List Token) → IsOneSeq ts e → BeginsWell ts
begins_one no_alternatives ts h = absurd h
begins_one (alternative s no_alternatives) ts h = begins_seq s ts h
begins_one (alternative s (alternative next more)) ts h = absurd h

begins_matcher : (front : ExprTree) (slash : Option ℕ) (rest : Option ExprTree) (ts : List Token) → IsMatcher ts front slash rest → BeginsWell ts
begins_matcher front None None ts h = begins_expr front ts h
begins_matcher front (Some slash) (Some rest) ts (a, b, h, first, second) = begins_more ts a (token Slash slash ∷ b) h (begins_one front a first)
begins_matcher front slash rest ts h = absurd h

-- the first token of a rule begins a statement at its place
begin : (k : TokenKind) (place : ℕ) (rest : List Token) (done : List StatementTree) → BeginsItem k →
    run (token k place ∷ rest) (after done) ≡ run (token k place ∷ rest) (inside done (ruling place false) [] empty_level)
begin Dot place rest done ok = refl
begin ParenOpen place rest done ok = refl
begin SetOpen place rest done ok = refl
begin (Char c bare) place rest done ok = refl
begin (Quoted word) place rest done ok = refl
begin (Name word) place rest done ok = refl
begin (Prop negated word value) place rest done ok = refl
begin kind place rest done ok = absurd ok

begin_at : (ts more : List Token) (place : ℕ) (done : List StatementTree) → BeginsWell ts → HasFirstPlace place (ts ++ more) →
    run ts (after done) ≡ run ts (inside done (ruling place false) [] empty_level)
begin_at ts more place done (k, at, rest, is, ok) begins =
    let here : at ≡ place = subst (λ us. HasFirstPlace place (us ++ more)) is begins in
    rw is (begin k at rest done ok ∙ ap (λ p. run (token k at ∷ rest) (inside done (ruling p false) [] empty_level)) here)

-- a rule begins, with a caret or without one
run_begin : (no_chain_in : Bool) (caret a more : List Token) (place : ℕ) (done : List StatementTree) → IsCaret caret no_chain_in → BeginsWell a →
    HasFirstPlace place (caret ++ (a ++ more)) →
    run (caret ++ a) (after done) ≡ run a (inside done (ruling place no_chain_in) [] empty_level)
run_begin true caret a more place done (at, h) well begins =
    let here : at ≡ place = subst (λ us. HasFirstPlace place (us ++ (a ++ more))) h begins in
    rw h (ap (λ p. run a (inside done (ruling p true) [] empty_level)) here)
run_begin false caret a more place done h well begins =
    rw h (begin_at a more place done well (subst (λ us. HasFirstPlace place (us ++ (a ++ more))) h begins))

-- a rule ends, with a tag or without one
run_rule_end : (tag : Option ℕ) (t : List Token) (semi place : ℕ) (no_chain_in : Bool) (done : List StatementTree) (sequences : List SeqTree) (i : ItemTree)
    (is : List ItemTree) → IsTag t tag →
    let level : LevelTree = record { sequences = sequences; items = i ∷ is } in
    run (t ++ token Semi semi ∷ []) (inside done (ruling place no_chain_in) [] level) ≡ Some
    (after (done ++ rule place no_chain_in (whole level) None None tag ∷ []))
run_rule_end None t semi place no_chain_in done sequences i is h = rw h refl
run_rule_end (Some status) t semi place no_chain_in done sequences i is (at, h) = rw h refl

run_rest_end : (tag : Option ℕ) (t : List Token) (semi place slash : ℕ) (no_chain_in : Bool) (front : ExprTree) (done : List StatementTree) (i : ItemTree)
    (is : List ItemTree) → IsTag t tag →
    let level : LevelTree = record { sequences = []; items = i ∷ is } in
    run (t ++ token Semi semi ∷ []) (inside done (resting place no_chain_in front slash) [] level)
    ≡ Some (after (done ++ rule place no_chain_in front (Some slash) (Some (whole level)) tag ∷ []))
run_rest_end None t semi place slash no_chain_in front done i is h = rw h refl
run_rest_end (Some status) t semi place slash no_chain_in front done i is (at, h) = rw h refl

-- what a rule matches is read, and its end
run_matcher : (front : ExprTree) (slash : Option ℕ) (rest : Option ExprTree) (tag : Option ℕ) (a t : List Token) (semi place : ℕ) (no_chain_in : Bool)
    (done : List StatementTree) →
    IsMatcher a front slash rest → IsTag t tag →
    run (a ++ (t ++ token Semi semi ∷ [])) (inside done (ruling place no_chain_in) [] empty_level) ≡ Some
    (after (done ++ rule place no_chain_in front slash rest tag ∷ []))
run_matcher front None None tag a t semi place no_chain_in done e tag_is =
    let (sequences, i, is, ran, all) = run_expr front a done (ruling place no_chain_in) [] (λ place p. refl) (λ done level i is. refl) e in
    run-on a (t ++ token Semi semi ∷ []) (inside done (ruling place no_chain_in) [] empty_level) _ ran
    ∙ run_rule_end tag t semi place no_chain_in done sequences i is tag_is
    ∙ ap (λ e. Some (after (done ++ rule place no_chain_in e None None tag ∷ []))) all
run_matcher front (Some slash) (Some rest) tag a t semi place no_chain_in done (b, c, h, first, second) tag_is =
    let end = t ++ token Semi semi ∷ [] in
    let (i, is, ran, all) = run_one front b done (ruling place no_chain_in) (λ place p. refl) first in
    let made = whole (record { sequences = []; items = i ∷ is }) in
    let (j, js, ran', all') = run_one rest c done (resting place no_chain_in made slash) (λ place p. refl) second in
    rw h (ap (λ ts. run ts (inside done (ruling place no_chain_in) [] empty_level)) (append_assoc b (token Slash slash ∷ c) end)
    ∙ run-on b (token Slash slash ∷ (c ++ end)) (inside done (ruling place no_chain_in) [] empty_level) _ ran
    ∙ run-on c end (inside done (resting place no_chain_in made slash) [] empty_level) _ ran'
    ∙ run_rest_end tag t semi place slash no_chain_in made done j js tag_is
    ∙ ap (λ e. Some (after (done ++ rule place no_chain_in e (Some slash) (Some (whole (record { sequences = []; items = j ∷ js }))) tag ∷ []))) all
    ∙ ap (λ e. Some (after (done ++ rule place no_chain_in front (Some slash) (Some e) tag ∷ []))) all')
run_matcher front slash rest tag a t semi place no_chain_in done e tag_is = absurd e

run_statement : (s : StatementTree) (ts : List Token) (done : List StatementTree) → IsStatement ts s →
    run ts (after done) ≡ Some (after (done ++ s ∷ []))
run_statement nothing ts done (semi, h) = rw h refl
run_statement (control word place) ts done (semi, h) = rw h refl
run_statement (assign word place e) ts done (equals, semi, a, h, is) =
    let (sequences, i, js, ran, all) = run_expr e a done (assigning word place) [] (λ place p. refl) (λ done level i is. refl) is in
    rw h (run-on a (token Semi semi ∷ []) (inside done (assigning word place) [] empty_level) _ ran
    ∙ ap (λ e. Some (after (done ++ assign word place e ∷ []))) all)
run_statement (rule place no_chain_in front slash rest tag) ts done (semi, caret, a, t, h, begins, caret_is, is, tag_is) =
    let end = t ++ token Semi semi ∷ [] in
    let start = run_begin no_chain_in caret (a ++ end) [] place done caret_is (begins_more (a ++ end) a end refl (begins_matcher front slash rest a is))
    (subst (HasFirstPlace place) (h ∙ ap (λ us. caret ++ us) (sym (append-nil (a ++ end)))) begins) in
    rw h (start ∙ run_matcher front slash rest tag a t semi place no_chain_in done is tag_is)

-- the run over a file ends between statements, after the file's
pub run_file : (f : List StatementTree) (ts : List Token) (done : List StatementTree) → IsFile ts f →
    run ts (after done) ≡ Some (after (done ++ f))
run_file [] ts done h = rw h (ap (λ f. Some (after f)) (sym (append-nil done)))
run_file (s ∷ more) ts done (a, b, h, first, rest) =
    rw h (run-on a b (after done) _ (run_statement s a done first)
    ∙ run_file more b (done ++ s ∷ []) rest
    ∙ ap (λ f. Some (after f)) (append_assoc done (s ∷ []) more))

abbrev done_in : Option Progress → List StatementTree
done_in None = []
done_in (Some p) = p.statements

-- a list of tokens is a file in at most one way
pub reading_is_one : (ts : List Token) (f g : List StatementTree) → IsFile ts f → IsFile ts g → f ≡ g
reading_is_one ts f g is_f is_g = ap done_in (sym (run_file f ts [] is_f) ∙ run_file g ts [] is_g)
