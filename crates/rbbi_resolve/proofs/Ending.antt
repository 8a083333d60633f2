-- What was read, before the first statement and behind the last.
use Rattle.std.proofs.Common.{◌≡◌, ℕ, ◌≤◌, Bool, true, false, if◌then◌else◌, is_some, Option, None, MatchOption, List, [], ◌∷◌}
use Rattle.std.proofs.Common.{drop, length, sum_by, sym, refl, ap, ◌∙◌, subst, arith}
use Rattle.std.proofs.lemmas.List.{drop_all}
use Rattle.std.specs.HashMap.{get_by_text}
use Rattle.std.specs.Rc.{rc_value}
use Rattle.rbbi_props.specs.Rows.{File}
use Rattle.rbbi_tree.specs.Trees.{ExprTree, StatementTree}
use Rattle.rbbi_classes.specs.Divisions.{stand_in}
use Rattle.rbbi_resolve.specs.declared.fault.Fault.{Fault}
use Rattle.rbbi_resolve.specs.declared.switches.Switches.{Switches}
use Rattle.rbbi_resolve.specs.declared.counts.Counts as declared
use Rattle.rbbi_resolve.specs.Contexts.{Context, assigned_to, variable_of}
use Rattle.rbbi_resolve.specs.Expressions.{variable_for}
use Rattle.rbbi_resolve.specs.Faults.{noted}
use Rattle.rbbi_resolve.specs.Files.{RuleMeaning, initial_context, with_variable, faults_from, faults_of, rules_from, active_rules}
use Rattle.rbbi_resolve.specs.inner.Files.{context_at}
use Rattle.rbbi_resolve.specs.Counts.{size_fault, leaves_meant}
use Rattle.rbbi_resolve.specs.inner.Contexts.{Variables, IsUnassigned, IsDefinedBy}
use Rattle.rbbi_resolve.specs.inner.Switchings.{AreSwitches}
use Rattle.rbbi_resolve.specs.inner.Countings.{AreCounting, slash_of}
use Rattle.rbbi_resolve.specs.declared.classes.Classes.{Classes}
use Rattle.rbbi_resolve.specs.inner.ClassValues.{AreRightClasses}
use Rattle.rbbi_resolve.specs.inner.Covered.{CoversAll}
use Rattle.rbbi_resolve.specs.inner.Readings.{IsReadTo}
use Rattle.rbbi_resolve.proofs.Counted.{passed_at_end}
use Rattle.rbbi_resolve.proofs.Lawful.{within}
use Rattle.rbbi_resolve.proofs.Steps.{made}

at_start : (files : List File) (statements : List StatementTree) → context_at files statements 0 ≡ initial_context files
unfolding context_at
at_start files [] = refl
at_start files (s ∷ statements) = refl

all_left : (statements : List StatementTree) → drop 0 statements ≡ statements
all_left [] = refl
all_left (s ∷ statements) = refl

pub rules_at_start : (files : List File) (statements : List StatementTree) → rules_from (context_at files statements 0) (drop 0 statements) ≡ active_rules
    files statements
rules_at_start files statements = ap (λ k. rules_from k (drop 0 statements)) (at_start files statements)
    ∙ ap (rules_from (initial_context files)) (all_left statements)

pub switches_at_start : (files : List File) (statements : List StatementTree) (switches : Switches) → AreSwitches switches (initial_context files) →
    AreSwitches switches (context_at files statements 0)
switches_at_start files statements switches is = subst (AreSwitches switches) (sym (at_start files statements)) is

none_at_start : (files : List File) (statements : List StatementTree) (name : List ℕ) → IsUnassigned files statements 0 name
none_at_start files statements name = λ limit low. let e : limit ≡ 0 = omega arith in ap (λ n. assigned_to (context_at files statements n).variables name) e
    ∙ ap (λ k. assigned_to k.variables name) (at_start files statements)

-- before the first statement
pub read_none : (files : List File) (classes : Classes) (ignored : Bool) (statements : List StatementTree) (variables : Variables) (switches : Switches)
    (counts : declared.Counts) → ((name : List ℕ) → get_by_text variables name ≡ None) →
    AreSwitches switches (initial_context files) → ((all : List RuleMeaning) → AreCounting counts all all) → AreRightClasses files classes →
    CoversAll files (stand_in (rc_value classes.division)) statements → IsReadTo files classes ignored statements variables None switches counts 0
read_none files classes ignored statements variables switches counts none is counting classified covered =
    record {
      classified = classified;
      covered = covered;
      defined = record {
        each = λ name. subst (λ v. MatchOption v (IsUnassigned files statements 0 name) (IsDefinedBy files (rc_value classes.division).bounds
            statements 0 name)) (sym (none name)) (none_at_start files statements name);
      };
      noted_so_far = ap (λ k. noted None (faults_from ignored k (drop 0 statements))) (at_start files statements)
          ∙ ap (λ ss. noted None (faults_from ignored (initial_context files) ss)) (all_left statements);
      switched = switches_at_start files statements switches is;
      counted_so_far = subst (λ ms. AreCounting counts ms (active_rules files statements)) (sym (rules_at_start files statements))
          (counting (active_rules files statements));
    }

faults_of_none : (ignored : Bool) (k : Context) → faults_from ignored k [] ≡ []
unfolding faults_from
faults_of_none ignored k = refl

rules_of_none : (k : Context) → rules_from k [] ≡ []
unfolding rules_from
rules_of_none k = refl

-- behind the last statement
pub least_of_all : (files : List File) (classes : Classes) (ignored : Bool) (statements : List StatementTree) (variables : Variables) (least : Option Fault)
    (switches : Switches) (counts : declared.Counts) (n : ℕ) → length statements ≤ n →
    IsReadTo files classes ignored statements variables least switches counts n → noted None (faults_of files ignored statements) ≡ least
least_of_all files classes ignored statements variables least switches counts n long read =
    let k = context_at files statements n in
    sym read.noted_so_far ∙ ap (λ ss. noted least (faults_from ignored k ss)) (drop_all n statements long) ∙ ap (noted least) (faults_of_none ignored k)

pub counting_all : (files : List File) (classes : Classes) (ignored : Bool) (statements : List StatementTree) (variables : Variables) (least : Option Fault)
    (switches : Switches) (counts : declared.Counts) (n : ℕ) → length statements ≤ n →
    IsReadTo files classes ignored statements variables least switches counts n → AreCounting counts [] (active_rules files statements)
counting_all files classes ignored statements variables least switches counts n long read =
    let k = context_at files statements n in
    subst (λ ms. AreCounting counts ms (active_rules files statements)) (ap (rules_from k) (drop_all n statements long) ∙ rules_of_none k) read.counted_so_far

pub leaves_counted : (counts : declared.Counts) (end : ℕ) (ms : List RuleMeaning) → AreCounting counts [] ms → size_fault end ms ≡ None →
    counts.leaves.sum ≡ sum_by leaves_meant ms
leaves_counted counts end ms is e =
    let w = within end ms e in
    let sum = is.leaf_count.sum_of (sym (passed_at_end leaves_meant 8192 counts.leaves ms is.leaf_count) ∙ w.leaves) in
    omega arith

pub slashes_counted : (counts : declared.Counts) (end : ℕ) (ms : List RuleMeaning) → AreCounting counts [] ms → size_fault end ms ≡ None →
    counts.slashes.sum ≡ sum_by slash_of ms
slashes_counted counts end ms is e =
    let w = within end ms e in
    let sum = is.slash_count.sum_of (sym (passed_at_end slash_of 32 counts.slashes ms is.slash_count) ∙ w.slashes) in
    omega arith

-- an assignment leaves the switches
pub switches_kept : (switches : Switches) (k : Context) (word : List ℕ) (x : ExprTree) → AreSwitches switches k → AreSwitches switches (with_variable k word x)
switches_kept switches k word x is =
    elim (is_some (variable_of k word)) as (λ b. AreSwitches switches (if b then k else record k { variables = made word (variable_for k x) ∷ k.variables })) [
      | true ↦ is
      | false ↦ record { chained = is.chained; quoted_only = is.quoted_only; active = is.active }
    ]
