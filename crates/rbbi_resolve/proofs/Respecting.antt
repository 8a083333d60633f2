-- Where the sets of all statements are covered, what each name stands for has all or nothing of a class.
use Rattle.std.proofs.Common.{◌≡◌, ℕ, zero, suc, Bool, true, false, Option, Some, None, IfSome, List, [], ◌∷◌, refl, sym, ◌∙◌, subst}
use Rattle.std.proofs.Common.{fold, take, slice_get, is_some, bytes_eq, encode_utf8_all, if◌then◌else◌}
use Rattle.rbbi_model.specs.SetTrees as model
use Rattle.rbbi_props.specs.Rows.{File}
use Rattle.rbbi_tree.specs.Trees.{ExprTree, ItemTree, AtomTree, StatementTree, nothing, control, assign, rule}
use Rattle.rbbi_tree.specs.Trees.{no_alternatives, alternative, no_items, item, placed, character, quoted, any, name, property, set, group}
use Rattle.rbbi_tree.specs.declared.syntax.Quant.TheVariants as quant
use Rattle.rbbi_resolve.specs.SetValues.{value_of_set, value_of_property}
use Rattle.rbbi_resolve.specs.Contexts as contexts
use Rattle.rbbi_resolve.specs.Contexts.{Context, assigned_to, variable_of, value_of_variable, value_of_name}
use Rattle.rbbi_resolve.specs.Expressions.{set_of_variable, set_of_atom, set_of_item, set_of_expr, variable_with, variable_for, meaning_of_expr, height_of_expr}
use Rattle.rbbi_resolve.specs.Parts.{parts_of_expr, parts_of_seq, parts_of_item}
use Rattle.rbbi_resolve.specs.Files.{context_after, initial_context}
use Rattle.rbbi_resolve.specs.inner.Files.{context_at}
use Rattle.rbbi_resolve.specs.inner.Covered.{Respects, NamesRespect, AreCovered, CoversAll, parts_of_statement}
use Rattle.rbbi_resolve.proofs.Covering.{covered_left, covered_alone}
use Rattle.rbbi_resolve.proofs.Kept.{statement_keeps}
use Rattle.rbbi_resolve.proofs.Steps.{control_variables}

-- both are absent, or the value respects what stands together
abbrev IsRespectful : List File → (ℕ → ℕ) → Option (Option model.SetTree) → Type 0
IsRespectful files stand value = IfSome value (λ v. IfSome v (Respects files stand))

module _ (files : List File) (stand : ℕ → ℕ) (k : Context) (same : k.files ≡ files) (named : NamesRespect files stand (value_of_name k)) where
  of_variable : (variable : Option contexts.Variable) → IfSome (value_of_variable variable) (Respects files stand) →
      IsRespectful files stand (set_of_variable variable)
  of_variable None is = tt
  of_variable (Some (contexts.Set value)) is = is
  of_variable (Some (contexts.Expression meaning height)) is = tt

  -- the set that an atom is
  pub atom_respects : (place : ℕ) (a : AtomTree) → AreCovered files stand (parts_of_item (placed place a quant.Once)) →
      IsRespectful files stand (set_of_atom k a)
  atom_respects place (character c bare) are = tt
  atom_respects place (quoted word) are = tt
  atom_respects place any are = tt
  atom_respects place (name word) are = of_variable (variable_of k word) (named.each word)
  atom_respects place (property negated word value) are =
      subst (λ f. IfSome (value_of_property f negated word value) (Respects files stand)) (sym same)
      (covered_alone files stand place (property negated word value) are)
  atom_respects place (set s) are =
      subst (λ f. IfSome (value_of_set f (value_of_name k) s) (Respects files stand)) (sym same)
      (covered_alone files stand place (set s) are (value_of_name k) named)
  atom_respects place (group inner) are = tt

  item_respects : (i : ItemTree) → AreCovered files stand (parts_of_item i) → IsRespectful files stand (set_of_item k i)
  item_respects (placed place a quant.Once) are = atom_respects place a are
  item_respects (placed place a quant.Star) are = tt
  item_respects (placed place a quant.Plus) are = tt
  item_respects (placed place a quant.Quest) are = tt

  expr_respects : (e : ExprTree) → AreCovered files stand (parts_of_expr e) → IsRespectful files stand (set_of_expr k e)
  expr_respects no_alternatives are = tt
  expr_respects (alternative no_items more) are = tt
  expr_respects (alternative (item first (item second rest)) more) are = tt
  expr_respects (alternative (item first no_items) (alternative second more)) are = tt
  expr_respects (alternative (item first no_items) no_alternatives) are =
      item_respects first (covered_left files stand (parts_of_item first) [] (covered_left files stand (parts_of_seq (item first no_items)) [] are))

  -- what an assignment makes of a name
  with_respects : (o : Option (Option model.SetTree)) (e : ExprTree) → IsRespectful files stand o →
      IfSome (value_of_variable (Some (variable_with o (meaning_of_expr k e) (height_of_expr k e)))) (Respects files stand)
  with_respects None e is = tt
  with_respects (Some value) e is = is

  pub variable_respects : (e : ExprTree) → AreCovered files stand (parts_of_expr e) →
      IfSome (value_of_variable (Some (variable_for k e))) (Respects files stand)
  variable_respects e are = with_respects (set_of_expr k e) e (expr_respects e are)

  first_respects : (b : Bool) (variable : contexts.Variable) (before : Option contexts.Variable) →
      IfSome (value_of_variable (Some variable)) (Respects files stand) → IfSome (value_of_variable before) (Respects files stand) →
      IfSome (value_of_variable (if b then Some variable else before)) (Respects files stand)
  first_respects true variable before own other = own
  first_respects false variable before own other = other

  assigned_respects : (b : Bool) (word : List ℕ) (e : ExprTree) → AreCovered files stand (parts_of_expr e) →
      NamesRespect files stand (value_of_name (if b then k
      else record k { variables = record { name = encode_utf8_all word; variable = variable_for k e } ∷ k.variables }))
  assigned_respects true word e are = named
  assigned_respects false word e are =
      record {
        each = λ other. first_respects (bytes_eq (encode_utf8_all word) (encode_utf8_all other)) (variable_for k e) (variable_of k other)
            (variable_respects e are) (named.each other);
      }

  after_respects : (s : StatementTree) → AreCovered files stand (parts_of_statement s) → NamesRespect files stand (value_of_name (context_after k s))
  after_respects nothing are = named
  after_respects (control word place) are =
      record {
        each = λ other. subst (λ vs. IfSome (value_of_variable (assigned_to vs (encode_utf8_all other))) (Respects files stand))
            (sym (control_variables k (encode_utf8_all word))) (named.each other);
      }
  after_respects (assign word place e) are = assigned_respects (is_some (variable_of k word)) word e are
  after_respects (rule place no_chain_in front slash rest tag) are = named

folded_respects : (files : List File) (stand : ℕ → ℕ) (statements : List StatementTree) (n : ℕ) (k : Context) → k.files ≡ files →
    NamesRespect files stand (value_of_name k) →
    ((i : ℕ) (s : StatementTree) → slice_get statements i ≡ Some s → AreCovered files stand (parts_of_statement s)) →
    NamesRespect files stand (value_of_name (fold context_after k (take n statements)))
folded_respects files stand statements zero k same named covers = named
folded_respects files stand [] (suc n) k same named covers = named
folded_respects files stand (s ∷ statements) (suc n) k same named covers =
    folded_respects files stand statements n (context_after k s) (statement_keeps k s ∙ same)
    (after_respects files stand k same named s (covers zero s refl)) (λ i t at. covers (suc i) t at)

-- before each statement
pub context_respects : (files : List File) (stand : ℕ → ℕ) (statements : List StatementTree) (n : ℕ) → CoversAll files stand statements →
    NamesRespect files stand (value_of_name (context_at files statements n))
unfolding context_at
context_respects files stand statements n covers =
    folded_respects files stand statements n (initial_context files) refl (record { each = λ word. tt }) covers.each
