-- What names mean, by the expressions that their statements assign.
use Rattle.std.proofs.Common.{◌≡◌, ℕ, ◌<◌, ◌≤◌, true, false, nat_lt, if◌then◌else◌, Option, Some, None, MatchOption, List, [], ◌∷◌}
use Rattle.std.proofs.Common.{◌+◌, map, length, slice_index, encode_utf8_all, sym, refl, ap, ◌∙◌, subst, arith}
use Rattle.std.proofs.lemmas.Bool.Decides.{nat_tests}
use Rattle.std.proofs.lemmas.Option.{slice_get_within}
use Rattle.std.proofs.lemmas.List.{length-map}
use Rattle.std.specs.HashMap.{get_by_text}
use Rattle.rbbi_model.specs.SetTrees as model
use Rattle.rbbi_props.specs.Rows.{File}
use Rattle.rbbi_tree.specs.Trees.{ExprTree, SeqTree, ItemTree, AtomTree, StatementTree, no_alternatives, alternative, no_items, item, placed, character, quoted, any, name}
use Rattle.rbbi_tree.specs.Trees.{property, set, group, expr_of, seq_of}
use Rattle.rbbi_tree.specs.Values.{statement_trees}
use Rattle.rbbi_tree.specs.declared.syntax.Quant.TheVariants as quant
use Rattle.rbbi_resolve.specs.declared.build.FileLeaves.{FileLeaves}
use Rattle.rbbi_resolve.specs.declared.context.Context.{Context}
use Rattle.rbbi_resolve.specs.declared.variables.Variable.{Variable}
use Rattle.rbbi_resolve.specs.declared.variables.Summary.{Summary}
use Rattle.rbbi_resolve.specs.declared.variables.Kind.{Kind}
use Rattle.rbbi_resolve.specs.declared.variables.Kind.TheVariants as kind
use Rattle.rbbi_classes.specs.Classes.{ClassBits}
use Rattle.rbbi_resolve.specs.Meanings as Meanings
use Rattle.rbbi_resolve.specs.Meanings.{Meaning, Leaf, Never}
use Rattle.rbbi_resolve.specs.Contexts as contexts
use Rattle.rbbi_resolve.specs.Contexts.{Set, Expression, variable_of}
use Rattle.rbbi_resolve.specs.Expressions.{leaf_of, word_of, meaning_of_variable, meaning_of_expr, meaning_of_seq, meaning_of_item, meaning_of_atom}
use Rattle.rbbi_resolve.specs.Expressions.{height_of_expr, height_of_variable, set_of_variable, set_of_atom, set_of_item, set_of_expr, variable_with, variable_for}
use Rattle.rbbi_resolve.specs.inner.Files.{context_at}
use Rattle.rbbi_resolve.specs.inner.Contexts.{visible, Matches, IsKindOf, IsAssigned, IsWritten, IsUnassigned, IsDefinedBy, context_of, files_of, bounds_of}
use Rattle.rbbi_resolve.specs.inner.Builders.{StandFrom, IsReady}
use Rattle.rbbi_resolve.proofs.Building.{sequence_meaning, choice_meaning}
use Rattle.rbbi_resolve.proofs.Steps.{describes}

variable_is_leaf : (v : Option contexts.Variable) (value : Option model.SetTree) → set_of_variable v ≡ Some value → meaning_of_variable v ≡ leaf_of value
variable_is_leaf None value e = absurd cc
variable_is_leaf (Some (Set own)) value e = let same : own ≡ value = cc in ap leaf_of same
variable_is_leaf (Some (Expression meaning height)) value e = absurd cc

-- the leaf of an atom that is a set
abbrev meaning_of_set : Option (Option model.SetTree) → Meaning
meaning_of_set None = Never
meaning_of_set (Some value) = leaf_of value

atom_is_leaf : (k : contexts.Context) (x : AtomTree) (value : Option model.SetTree) → set_of_atom k x ≡ Some value → meaning_of_atom k x ≡ leaf_of value
atom_is_leaf k (character c bare) value e = absurd cc
atom_is_leaf k (quoted word) value e = absurd cc
atom_is_leaf k any value e = absurd cc
atom_is_leaf k (name word) value e = variable_is_leaf (variable_of k word) value e
atom_is_leaf k (property negated word own) value e = ap meaning_of_set e
atom_is_leaf k (set s) value e = ap meaning_of_set e
atom_is_leaf k (group inner) value e = absurd cc

item_is_leaf : (k : contexts.Context) (x : ItemTree) (value : Option model.SetTree) → set_of_item k x ≡ Some value → meaning_of_item k x ≡ leaf_of value
item_is_leaf k (placed place atom quant.Once) value e = atom_is_leaf k atom value e
item_is_leaf k (placed place atom quant.Star) value e = absurd cc
item_is_leaf k (placed place atom quant.Plus) value e = absurd cc
item_is_leaf k (placed place atom quant.Quest) value e = absurd cc

expr_is_leaf : (k : contexts.Context) (x : ExprTree) (value : Option model.SetTree) → set_of_expr k x ≡ Some value → meaning_of_expr k x ≡ leaf_of value
expr_is_leaf k no_alternatives value e = absurd cc
expr_is_leaf k (alternative no_items more) value e = absurd cc
expr_is_leaf k (alternative (item first (item second rest)) more) value e = absurd cc
expr_is_leaf k (alternative (item first no_items) (alternative second more)) value e = absurd cc
expr_is_leaf k (alternative (item first no_items) no_alternatives) value e = item_is_leaf k first value e

variable_means : (k : contexts.Context) (x : ExprTree) (o : Option (Option model.SetTree)) → set_of_expr k x ≡ o →
    meaning_of_variable (Some (variable_with o (meaning_of_expr k x) (height_of_expr k x))) ≡ meaning_of_expr k x
variable_means k x None e = refl
variable_means k x (Some value) e = sym (expr_is_leaf k x value e)

seen_is : (limit : ℕ) (o : Option Variable) (v : Variable) → Some v ≡ visible limit o → (o ≡ Some v) × (v.statement < limit)
seen_is limit None v e = absurd cc
seen_is limit (Some w) v e =
    elim (nat_lt w.statement limit) as (λ b. nat_lt w.statement limit ≡ b → Some v ≡ (if b then Some w else None) → (Some w ≡ Some v) × (v.statement < limit)) [
      | true ↦ λ t f.
          let same : w ≡ v = cc in
          let low : w.statement < limit = grind (arith, nat_tests) in
          (ap Some same, subst (λ (x : Variable). x.statement < limit) same low)
      | false ↦ λ t f. absurd cc
    ] refl e

-- what a name stands for in a context
pub record IsNamed (context : Context) (word : List ℕ) (v : Variable) : Type 0 where
  pub expr : ExprTree
  pub assigned : IsAssigned (statement_trees context.statements.now) v.statement expr
  pub means : meaning_of_atom (context_of context) (name word) ≡ meaning_of_expr (context_at (files_of context)
      (statement_trees context.statements.now) v.statement) expr
  pub found : variable_of (context_of context) word ≡ Some (variable_for (context_at (files_of context) (statement_trees context.statements.now) v.statement)
      expr)
  pub kind : IsKindOf (files_of context) (bounds_of context) (statement_trees context.statements.now) v.kind
      (variable_for (context_at (files_of context) (statement_trees context.statements.now) v.statement) expr)
  pub low : v.statement < context.limit
  pub inside : v.statement < length context.statements.now

pub named : (context : Context) (leaves : FileLeaves) (word : List ℕ) (v : Variable) → IsReady context leaves →
    Some v ≡ visible context.limit (get_by_text context.variables.now (encode_utf8_all word)) → IsNamed context word v
named context leaves word v ready e =
    let files = files_of context in
    let trees = statement_trees context.statements.now in
    let text = encode_utf8_all word in
    let s = seen_is context.limit (get_by_text context.variables.now text) v e in
    let d : IsDefinedBy files (bounds_of context) trees ready.end text v =
    subst (λ o. MatchOption o (IsUnassigned files trees ready.end text) (IsDefinedBy files (bounds_of context) trees ready.end text)) s.0
    (ready.variables.each text) in
    let k = context_at files trees v.statement in
    let found : variable_of (context_of context) word ≡ Some (variable_for k d.expr) = d.behind context.limit s.1 ready.low in
    let within = slice_get_within trees v.statement _ d.assigns in
    let long : length trees ≡ length context.statements.now = simp length-map in
    record {
      expr = d.expr;
      assigned = record { word = d.word; place = d.place; at = d.assigns };
      means = ap meaning_of_variable found ∙ variable_means k d.expr (set_of_expr k d.expr) refl;
      found = found;
      kind = d.kind;
      low = s.1;
      inside = omega arith;
    }

-- what a set means is written where its kind says
pub record IsSetNamed (files : List File) (statements : List StatementTree) (writer : ℕ) (there : contexts.Variable) : Type 0 where
  pub value : Option model.SetTree
  pub written : IsWritten files statements writer value
  pub means : meaning_of_variable (Some there) ≡ leaf_of value

pub set_named : (files : List File) (bounds : List ℕ) (statements : List StatementTree) (here : Kind) (row : Option ClassBits) (writer : ℕ)
    (there : contexts.Variable) → here ≡ kind.Set row writer → IsKindOf files bounds statements here there → IsSetNamed files statements writer there
set_named files bounds statements here row writer (Set value) is of =
    record { value = value; written = (subst (λ k. IsKindOf files bounds statements k (Set value)) is of).1; means = refl }
set_named files bounds statements here row writer (Expression meaning height) is of =
    absurd (subst (λ k. IsKindOf files bounds statements k (Expression meaning height)) is of)

-- and its leaf stands there
pub written_stands : (context : Context) (leaves : FileLeaves) (writer : ℕ) (value : Option model.SetTree) → IsReady context leaves →
    IsWritten (files_of context) (statement_trees context.statements.now) writer value →
    StandFrom context leaves (slice_index leaves.firsts.now.items writer) (value ∷ [])
written_stands context leaves writer value ready w =
    subst (StandFrom context leaves (slice_index leaves.firsts.now.items writer)) w.leaf (ready.stand writer _ w.assigned.at)

pub written_inside : (context : Context) (leaves : FileLeaves) (writer : ℕ) (value : Option model.SetTree) → IsReady context leaves →
    IsWritten (files_of context) (statement_trees context.statements.now) writer value → writer < length leaves.firsts.now.items
written_inside context leaves writer value ready w =
    let within = slice_get_within (statement_trees context.statements.now) writer _ w.assigned.at in
    let long : length (statement_trees context.statements.now) ≡ length context.statements.now = simp length-map in
    omega (arith, ready.long)

-- any other name is higher by 1 than its expression
pub expression_named : (files : List File) (bounds : List ℕ) (statements : List StatementTree) (here : Kind) (summary : Summary)
    (o : Option (Option model.SetTree)) (m : Meaning) (h : ℕ) → here ≡ kind.Expression summary →
    IsKindOf files bounds statements here (variable_with o m h) → height_of_variable (Some (variable_with o m h)) ≡ h + 1
expression_named files bounds statements here summary None m h is of = refl
expression_named files bounds statements here summary (Some value) m h is of =
    absurd (subst (λ k. IsKindOf files bounds statements k (Set value)) is of)

-- what stands before an earlier statement
pub ready_before : (context : Context) (leaves : FileLeaves) (limit : ℕ) → limit ≤ context.limit → IsReady context leaves →
    IsReady (record context { limit = limit }) leaves
ready_before context leaves limit low r = record { end = r.end; variables = r.variables; low = omega (arith, r.low); long = r.long; stand = r.stand }

unmatched : (files : List File) (bounds : List ℕ) (statements : List StatementTree) (b : Option contexts.Variable) →
    Matches files bounds statements None b → meaning_of_variable b ≡ Never
unmatched files bounds statements None m = refl
unmatched files bounds statements (Some v) m = absurd m

-- what a name means that stands for nothing
pub unnamed : (context : Context) (leaves : FileLeaves) (word : List ℕ) → IsReady context leaves →
    None ≡ visible context.limit (get_by_text context.variables.now (encode_utf8_all word)) →
    meaning_of_atom (context_of context) (name word) ≡ Never
unnamed context leaves word ready e =
    let files = files_of context in
    let trees = statement_trees context.statements.now in
    let d = describes files (bounds_of context) trees context.variables.now ready.end context.limit ready.low ready.variables in
    unmatched files (bounds_of context) trees (variable_of (context_of context) word)
    (subst (λ o. Matches files (bounds_of context) trees o (variable_of (context_of context) word)) (sym e) (d.same (encode_utf8_all word)))

-- an expression is a choice of its sequences, and a sequence its items
pub expr_means : (k : contexts.Context) (ss : List SeqTree) → meaning_of_expr k (expr_of ss) ≡ choice_meaning (map (meaning_of_seq k) ss)
expr_means k [] = refl
expr_means k (s ∷ []) = refl
expr_means k (s ∷ t ∷ ss) = ap (Meanings.Either (meaning_of_seq k s)) (expr_means k (t ∷ ss))

pub seq_means : (k : contexts.Context) (is : List ItemTree) → meaning_of_seq k (seq_of is) ≡ sequence_meaning (map (meaning_of_item k) is)
seq_means k [] = refl
seq_means k (i ∷ []) = refl
seq_means k (i ∷ j ∷ is) = ap (Meanings.Then (meaning_of_item k i)) (seq_means k (j ∷ is))

pub word_means : (word : List ℕ) → word_of word ≡ sequence_meaning (map (λ c. Leaf (model.Character c)) word)
word_means [] = refl
word_means (c ∷ []) = refl
word_means (c ∷ d ∷ word) = ap (Meanings.Then (Leaf (model.Character c))) (word_means (d ∷ word))
