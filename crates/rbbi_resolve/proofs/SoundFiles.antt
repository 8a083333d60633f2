-- A file without faults is sound at each statement.
use Rattle.std.proofs.Common.{◌≡◌, ℕ, zero, suc, Bool, true, false, is_some, if◌then◌else◌, not, ◌&&◌, Some, List, [], ◌∷◌, ◌++◌}
use Rattle.std.proofs.Common.{fold, take, slice_get, bytes_eq, codes, encode_utf8_all, sym, subst}
use Rattle.rbbi_props.specs.Rows.{File}
use Rattle.rbbi_tree.specs.Trees.{ExprTree, StatementTree, nothing, control, assign, rule}
use Rattle.rbbi_tree.specs.WellMade.{AreWellMade, IsWellMade}
use Rattle.rbbi_resolve.specs.declared.fault.FaultKind.TheVariants as kinds
use Rattle.rbbi_resolve.specs.Contexts.{Assigned, Context, assigned_to, variable_of}
use Rattle.rbbi_resolve.specs.Expressions.{variable_for}
use Rattle.rbbi_resolve.specs.Parts.{parts_of_expr}
use Rattle.rbbi_resolve.specs.Faults.{faults_where, faults_of_parts}
use Rattle.rbbi_resolve.specs.Files.{initial_context, context_after, faults_of_statement, faults_from, faults_of}
use Rattle.rbbi_resolve.specs.inner.Files.{context_at}
use Rattle.rbbi_resolve.specs.inner.Soundness.{IsSound, AreSound}
use Rattle.rbbi_resolve.proofs.Steps.{control_variables}
use Rattle.rbbi_resolve.proofs.Sound.{first_empty, second_empty, sound_variable}

-- no fault of an assignment is none of its expression
pub assigned_faultless : (ignored : Bool) (k : Context) (word : List ℕ) (place : ℕ) (x : ExprTree) →
    faults_of_statement ignored k (assign word place x) ≡ [] → faults_of_parts k (parts_of_expr x) ≡ []
assigned_faultless ignored k word place x e =
    let f3 = faults_where (bytes_eq (encode_utf8_all word) (codes "dictionary") && not ignored) place kinds.Dictionary in
    let f4 = faults_where (is_some (variable_of k word)) place kinds.Redefined in
    second_empty f4 (faults_of_parts k (parts_of_expr x)) (second_empty f3 (f4 ++ faults_of_parts k (parts_of_expr x)) e)

sound_joined : (k : Context) (a : Assigned) (name : List ℕ) → AreSound k → IsSound (Some a.variable) →
    (b : Bool) → IsSound (if b then Some a.variable else assigned_to k.variables name)
sound_joined k a name sound own true = own
sound_joined k a name sound own false = sound.each name

sound_assigned : (k : Context) (a : Assigned) → AreSound k → IsSound (Some a.variable) →
    (b : Bool) → AreSound (if b then k else record k { variables = a ∷ k.variables })
sound_assigned k a sound own true = sound
sound_assigned k a sound own false = record { each = λ name. sound_joined k a name sound own (bytes_eq a.name name) }

pub sound_after : (ignored : Bool) (k : Context) (s : StatementTree) → AreSound k → IsWellMade s → faults_of_statement ignored k s ≡ [] →
    AreSound (context_after k s)
sound_after ignored k nothing sound well e = sound
sound_after ignored k (control word place) sound well e =
    record { each = λ name. subst (λ vs. IsSound (assigned_to vs name)) (sym (control_variables k (encode_utf8_all word))) (sound.each name) }
sound_after ignored k (assign word place x) sound well e =
    sound_assigned k (record { name = encode_utf8_all word; variable = variable_for k x }) sound
    (sound_variable k sound x well (assigned_faultless ignored k word place x e)) (is_some (variable_of k word))
sound_after ignored k (rule place no_chain_in front slash rest tag) sound well e = sound

sound_through : (ignored : Bool) (k : Context) (statements : List StatementTree) (n : ℕ) → AreSound k → AreWellMade statements →
    faults_from ignored k statements ≡ [] → AreSound (fold context_after k (take n statements))
unfolding faults_from
sound_through ignored k [] zero sound well e = sound
sound_through ignored k [] (suc n) sound well e = sound
sound_through ignored k (s ∷ statements) zero sound well e = sound
sound_through ignored k (s ∷ statements) (suc n) sound well e =
    sound_through ignored (context_after k s) statements n
    (sound_after ignored k s sound well.0 (first_empty (faults_of_statement ignored k s) (faults_from ignored (context_after k s) statements) e)) well.1
    (second_empty (faults_of_statement ignored k s) (faults_from ignored (context_after k s) statements) e)

-- what stands before each statement is sound
pub sound_at : (files : List File) (ignored : Bool) (statements : List StatementTree) (n : ℕ) → AreWellMade statements →
    faults_of files ignored statements ≡ [] → AreSound (context_at files statements n)
unfolding context_at
sound_at files ignored statements n well e = sound_through ignored (initial_context files) statements n (record { each = λ name. tt }) well e

faultless_through : (ignored : Bool) (k : Context) (statements : List StatementTree) (n : ℕ) (s : StatementTree) → slice_get statements n ≡ Some s →
    faults_from ignored k statements ≡ [] →
    faults_of_statement ignored (fold context_after k (take n statements)) s ≡ []
unfolding faults_from
faultless_through ignored k [] n s at e = absurd cc
faultless_through ignored k (x ∷ statements) zero s at e =
    let same : x ≡ s = cc in
    subst (λ y. faults_of_statement ignored k y ≡ []) same
    (first_empty (faults_of_statement ignored k x) (faults_from ignored (context_after k x) statements) e)
faultless_through ignored k (x ∷ statements) (suc n) s at e =
    faultless_through ignored (context_after k x) statements n s at
    (second_empty (faults_of_statement ignored k x) (faults_from ignored (context_after k x) statements) e)

-- each statement has no fault
pub faultless_at : (files : List File) (ignored : Bool) (statements : List StatementTree) (n : ℕ) (s : StatementTree) → slice_get statements n ≡ Some s →
    faults_of files ignored statements ≡ [] →
    faults_of_statement ignored (context_at files statements n) s ≡ []
unfolding context_at
faultless_at files ignored statements n s at e = faultless_through ignored (initial_context files) statements n s at e
