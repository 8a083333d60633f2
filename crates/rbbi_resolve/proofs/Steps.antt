-- From one statement of a rule file to the next.
use Rattle.std.proofs.Common.{◌≡◌, ℕ, ◌+◌, ◌≤◌, inl, inr, Bool, true, false, not, ◌&&◌, max, cond, nat_lt, is_some, if◌then◌else◌, Option, Some, None}
use Rattle.std.proofs.Common.{MatchOption, List, [], ◌∷◌, ◌++◌, fold, take, drop, slice_get, codes, bytes_eq, encode_utf8_all, sym, refl, ap, ◌∙◌}
use Rattle.std.proofs.Common.{subst, arith}
use Rattle.std.proofs.lemmas.Bool.{cases_lt}
use Rattle.std.proofs.lemmas.Bool.Decides.{nat_tests}
use Rattle.std.proofs.lemmas.Slice.Eq.{bytes_eq-Decides}
use Rattle.std.proofs.lemmas.Option.{slice_get_within, slice_get-map, get_or_from_slice_get}
use Rattle.std.proofs.lemmas.List.{take_more, drop_more}
use Rattle.std.proofs.lemmas.List.Sums.{fold-append}
use Rattle.std.specs.HashMap.{get_by_text}
use Rattle.std.specs.Map.{update}
use Rattle.std.specs.Option.{option_map, option_map_or}
use Rattle.std.specs.Rc.{rc_value}
use Rattle.rbbi_props.specs.Rows.{File}
use Rattle.rbbi_tree.specs.declared.syntax.Expr.{Expr}
use Rattle.rbbi_tree.specs.declared.syntax.Statement.{Statement}
use Rattle.rbbi_tree.specs.Values.{rest_tree, statement_tree, statement_trees}
use Rattle.rbbi_tree.specs.Trees.{ExprTree, StatementTree, assign}
use Rattle.rbbi_resolve.specs.declared.fault.Fault.{Fault}
use Rattle.rbbi_resolve.specs.declared.switches.Switches.{Switches}
use Rattle.rbbi_resolve.specs.declared.counts.Counts as declared
use Rattle.rbbi_resolve.specs.declared.variables.Variable.{Variable}
use Rattle.rbbi_resolve.specs.declared.variables.Kind.{Kind}
use Rattle.rbbi_resolve.specs.Contexts as contexts
use Rattle.rbbi_resolve.specs.Contexts.{Context, assigned_to, variable_of}
use Rattle.rbbi_resolve.specs.Expressions.{variable_for, meaning_of_expr, height_of_expr}
use Rattle.rbbi_resolve.specs.Faults.{noted}
use Rattle.rbbi_resolve.specs.Files.{initial_context, ends_active, after_control, with_variable, context_after, faults_of_statement, faults_from}
use Rattle.rbbi_resolve.specs.inner.Files.{context_at}
use Rattle.rbbi_resolve.specs.Files.{RuleMeaning, rule_in, rules_from, active_rules}
use Rattle.rbbi_resolve.specs.inner.Contexts.{Variables, IsKindOf, Matches, visible, Describes, IsUnassigned, IsDefinedBy, AreVariables}
use Rattle.rbbi_resolve.specs.inner.Switchings.{AreSwitches}
use Rattle.rbbi_resolve.specs.inner.Countings.{AreCounting}
use Rattle.rbbi_resolve.specs.declared.classes.Classes.{Classes}
use Rattle.rbbi_resolve.specs.inner.Readings.{IsReadTo}
use Rattle.rbbi_resolve.proofs.Noting.{noted_of_append}

-- a statement stands first of those that are left
pub left_here : (statements : List StatementTree) (number : ℕ) (s : StatementTree) → slice_get statements number ≡ Some s →
    drop number statements ≡ s ∷ drop (number + 1) statements
left_here statements number s at =
    drop_more statements number s (slice_get_within statements number s at)
    ∙ ap (λ x. x ∷ drop (number + 1) statements) (get_or_from_slice_get statements number s s at)

-- the tree of a statement has its number
pub tree_at : (statements : List Statement) (number : ℕ) (s : Statement) → slice_get statements number ≡ Some s →
    slice_get (statement_trees statements) number ≡ Some (statement_tree s)
tree_at statements number s at = slice_get-map statement_tree statements number ∙ ap (option_map statement_tree) at

-- what stands behind a statement
pub context_next : (files : List File) (statements : List StatementTree) (number : ℕ) (s : StatementTree) → slice_get statements number ≡ Some s →
    context_at files statements (number + 1) ≡ context_after (context_at files statements number) s
unfolding context_at
context_next files statements number s at =
    ap (fold context_after (initial_context files)) (take_more statements number s (slice_get_within statements number s at)
    ∙ ap (λ x. take number statements ++ x ∷ []) (get_or_from_slice_get statements number s s at))
    ∙ fold-append context_after (initial_context files) (take number statements) (s ∷ [])

pub faults_next : (ignored : Bool) (k : Context) (s : StatementTree) (rest : List StatementTree) →
    faults_from ignored k (s ∷ rest) ≡ faults_of_statement ignored k s ++ faults_from ignored (context_after k s) rest
unfolding faults_from
faults_next ignored k s rest = refl

pub rules_next : (k : Context) (s : StatementTree) (rest : List StatementTree) → rules_from k (s ∷ rest) ≡ rule_in k s ++ rules_from (context_after k s) rest
unfolding rules_from
rules_next k s rest = refl

control_keeps : (k : Context) (a b c d : Bool) →
    (if a then record k { chained = true }
    else (if b then record k { quoted_only = true }
    else (if c then record k { active = true }
    else (if d then record k { active = false } else k)))).variables ≡ k.variables
control_keeps k true b c d = refl
control_keeps k false true c d = refl
control_keeps k false false true d = refl
control_keeps k false false false true = refl
control_keeps k false false false false = refl

-- a control leaves the variables
pub control_variables : (k : Context) (text : List ℕ) → (after_control k text).variables ≡ k.variables
control_variables k text = control_keeps k (bytes_eq text (codes "chain")) (bytes_eq text (codes "quoted_literals_only")) (bytes_eq text (codes "forward"))
    (ends_active text)

named_before : (files : List File) (bounds : List ℕ) (statements : List StatementTree) (end limit : ℕ) (name : List ℕ) (v : Option Variable) → limit ≤ end →
    MatchOption v (IsUnassigned files statements end name) (IsDefinedBy files bounds statements end name) →
    Matches files bounds statements (visible limit v) (assigned_to (context_at files statements limit).variables name)
named_before files bounds statements end limit name None low is = subst (λ x. Matches files bounds statements None x) (sym (is limit low)) tt
named_before files bounds statements end limit name (Some v) low is =
    elim (cases_lt v.statement limit) [
      | inl lt ↦
          let test : nat_lt v.statement limit ≡ true = grind (arith, nat_tests) in
          let seen : visible limit (Some v) ≡ Some v = ap (λ b. if b then Some v else None) test in
          subst (λ a. Matches files bounds statements a (assigned_to (context_at files statements limit).variables name)) (sym seen)
          (subst (λ x. Matches files bounds statements (Some v) x) (sym (is.behind limit lt low)) is.kind)
      | inr ge ↦
          let test : nat_lt v.statement limit ≡ false = grind (arith, nat_tests) in
          let unseen : visible limit (Some v) ≡ None = ap (λ b. if b then Some v else None) test in
          subst (λ a. Matches files bounds statements a (assigned_to (context_at files statements limit).variables name)) (sym unseen)
          (subst (λ x. Matches files bounds statements None x) (sym (is.before limit ge)) tt)
    ]

-- the variables describe what stands before a limit
pub describes : (files : List File) (bounds : List ℕ) (statements : List StatementTree) (variables : Variables) (end limit : ℕ) → limit ≤ end →
    AreVariables files bounds statements variables end → Describes files bounds statements variables limit
describes files bounds statements variables end limit low are =
    record { same = λ name. named_before files bounds statements end limit name (get_by_text variables name) low (are.each name) }

stays_named : (files : List File) (bounds : List ℕ) (statements : List StatementTree) (n : ℕ) (name : List ℕ) (v : Option Variable) →
    assigned_to (context_at files statements (n + 1)).variables name ≡ assigned_to (context_at files statements n).variables name →
    MatchOption v (IsUnassigned files statements n name) (IsDefinedBy files bounds statements n name) →
    MatchOption v (IsUnassigned files statements (n + 1) name) (IsDefinedBy files bounds statements (n + 1) name)
stays_named files bounds statements n name None same is =
    λ limit low.
    elim (cases_lt limit (n + 1)) [
      | inl lt ↦ is limit (omega arith)
      | inr ge ↦ let e : limit ≡ n + 1 = omega arith in ap (λ m. assigned_to (context_at files statements m).variables name) e ∙ same ∙ is n (omega arith)
    ]
stays_named files bounds statements n name (Some v) same is =
    record {
      word = is.word;
      place = is.place;
      expr = is.expr;
      assigns = is.assigns;
      within = omega (arith, is.within);
      before = is.before;
      behind =
          λ limit above low.
          elim (cases_lt limit (n + 1)) [
            | inl lt ↦ is.behind limit above (omega arith)
            | inr ge ↦ let e : limit ≡ n + 1 = omega arith in ap (λ m. assigned_to (context_at files statements m).variables name) e ∙ same
                ∙ is.behind n is.within (omega arith)
          ];
      kind = is.kind;
    }

-- where a statement makes no variable, they stay
pub stay_variables : (files : List File) (bounds : List ℕ) (statements : List StatementTree) (variables : Variables) (n : ℕ) →
    (context_at files statements (n + 1)).variables ≡ (context_at files statements n).variables → AreVariables files bounds statements variables n →
    AreVariables files bounds statements variables (n + 1)
stay_variables files bounds statements variables n same are =
    record { each = λ name. stays_named files bounds statements n name (get_by_text variables name) (ap (λ vs. assigned_to vs name) same) (are.each name) }

-- the variable that a statement makes
abbrev pub made : List ℕ → contexts.Variable → contexts.Assigned
made word variable = record { name = encode_utf8_all word; variable = variable }

module _ (files : List File) (bounds : List ℕ) (statements : List StatementTree) (variables variables' : Variables) (n : ℕ) (word : List ℕ) (place : ℕ)
    (expr : ExprTree)
    (kind : Kind)
    (at : slice_get statements n ≡ Some (assign word place expr))
    (next : (context_at files statements (n + 1)).variables ≡ made word (variable_for (context_at files statements n) expr) ∷
    (context_at files statements n).variables)
    (unknown : get_by_text variables (encode_utf8_all word) ≡ None)
    (kind_is : IsKindOf files bounds statements kind (variable_for (context_at files statements n) expr))
    (put : (cs : List ℕ) → get_by_text variables' cs ≡ update bytes_eq (get_by_text variables) (encode_utf8_all word)
    (Some (record { statement = n; kind = kind })) cs)
    (are : AreVariables files bounds statements variables n) where
  here : (name : List ℕ) → encode_utf8_all word ≡ name → bytes_eq (encode_utf8_all word) name ≡ true → IsDefinedBy files bounds statements (n + 1) name
      (record { statement = n; kind = kind })
  here name same is =
      let none : get_by_text variables name ≡ None = ap (get_by_text variables) (sym same) ∙ unknown in
      let before : IsUnassigned files statements n name =
      subst (λ v. MatchOption v (IsUnassigned files statements n name) (IsDefinedBy files bounds statements n name)) none (are.each name) in
      record {
        word = word;
        place = place;
        expr = expr;
        assigns = at;
        within = omega arith;
        before = before;
        behind =
            λ limit above low.
            let e : limit ≡ n + 1 = omega arith in
            ap (λ m. assigned_to (context_at files statements m).variables name) e ∙ ap (λ vs. assigned_to vs name) next
            ∙ ap (λ b. if b then Some (variable_for (context_at files statements n) expr) else assigned_to (context_at files statements n).variables name) is;
        kind = kind_is;
      }

  joined_named : (name : List ℕ) (b : Bool) → bytes_eq (encode_utf8_all word) name ≡ b →
      MatchOption (get_by_text variables' name) (IsUnassigned files statements (n + 1) name) (IsDefinedBy files bounds statements (n + 1) name)
  joined_named name true is =
      let found : get_by_text variables' name ≡ Some (record { statement = n; kind = kind }) =
      put name ∙ ap (λ b. cond b (Some (record { statement = n; kind = kind })) (get_by_text variables name)) is in
      subst (λ v. MatchOption v (IsUnassigned files statements (n + 1) name) (IsDefinedBy files bounds statements (n + 1) name)) (sym found)
      (here name ((bytes_eq-Decides (encode_utf8_all word) name).0 is) is)
  joined_named name false is =
      let found : get_by_text variables' name ≡ get_by_text variables name =
      put name ∙ ap (λ b. cond b (Some (record { statement = n; kind = kind })) (get_by_text variables name)) is in
      let same : assigned_to (context_at files statements (n + 1)).variables name ≡ assigned_to (context_at files statements n).variables name =
      ap (λ vs. assigned_to vs name) next
      ∙ ap (λ b. if b then Some (variable_for (context_at files statements n) expr) else assigned_to (context_at files statements n).variables name) is in
      subst (λ v. MatchOption v (IsUnassigned files statements (n + 1) name) (IsDefinedBy files bounds statements (n + 1) name)) (sym found)
      (stays_named files bounds statements n name (get_by_text variables name) same (are.each name))

  -- a statement makes a variable
  pub join_variable : AreVariables files bounds statements variables' (n + 1)
  join_variable = record { each = λ name. joined_named name (bytes_eq (encode_utf8_all word) name) refl }

-- both are there, or both absent
pub matches_some : (files : List File) (bounds : List ℕ) (statements : List StatementTree) (a : Option Variable) (b : Option contexts.Variable) →
    Matches files bounds statements a b → is_some a ≡ is_some b
matches_some files bounds statements None None m = refl
matches_some files bounds statements None (Some w) m = absurd m
matches_some files bounds statements (Some v) None m = absurd m
matches_some files bounds statements (Some v) (Some w) m = refl

-- a variable that isn't seen isn't there
pub unseen : (files : List File) (bounds : List ℕ) (statements : List StatementTree) (n : ℕ) (name : List ℕ) (v : Option Variable) →
    MatchOption v (IsUnassigned files statements n name) (IsDefinedBy files bounds statements n name) → is_some (visible n v) ≡ false → v ≡ None
unseen files bounds statements n name None is e = refl
unseen files bounds statements n name (Some v) is e =
    let low = is.within in
    let test : nat_lt v.statement n ≡ true = grind (arith, nat_tests) in
    let seen : is_some (visible n (Some v)) ≡ true = ap (λ b. is_some (if b then Some v else None)) test in
    absurd cc

-- one statement further
pub step : (files : List File) (classes : Classes) (ignored : Bool) (statements : List StatementTree) (n : ℕ) (s : StatementTree)
    (variables variables' : Variables)
    (least least' : Option Fault) (switches switches' : Switches) (counts counts' : declared.Counts) →
    IsReadTo files classes ignored statements variables least switches counts n → slice_get statements n ≡ Some s →
    AreVariables files (rc_value classes.division).bounds statements variables' (n + 1) →
    least' ≡ noted least (faults_of_statement ignored (context_at files statements n) s) →
    AreSwitches switches' (context_after (context_at files statements n) s) →
    ((left all : List RuleMeaning) → AreCounting counts (rule_in (context_at files statements n) s ++ left) all → AreCounting counts' left all) →
    IsReadTo files classes ignored statements variables' least' switches' counts' (n + 1)
step files classes ignored statements n s variables variables' least least' switches switches' counts counts' read at are note switch count =
    let k = context_at files statements n in
    let k' = context_at files statements (n + 1) in
    let rest = drop (n + 1) statements in
    let next : k' ≡ context_after k s = context_next files statements n s at in
    let left : drop n statements ≡ s ∷ rest = left_here statements n s at in
    record {
      classified = read.classified;
      covered = read.covered;
      defined = are;
      noted_so_far =
          ap (λ l. noted l (faults_from ignored k' rest)) note
          ∙ sym (noted_of_append least (faults_of_statement ignored k s) (faults_from ignored k' rest))
          ∙ ap (λ x. noted least (faults_of_statement ignored k s ++ faults_from ignored x rest)) next
          ∙ ap (noted least) (sym (faults_next ignored k s rest))
          ∙ ap (λ x. noted least (faults_from ignored k x)) (sym left)
          ∙ read.noted_so_far;
      switched = subst (AreSwitches switches') (sym next) switch;
      counted_so_far =
          count (rules_from k' rest) (active_rules files statements)
          (subst (λ x. AreCounting counts x (active_rules files statements)) (ap (rules_from k) left ∙ rules_next k s rest
          ∙ ap (λ x. rule_in k s ++ rules_from x rest) (sym next)) read.counted_so_far);
    }

-- what is noted of two lists of faults, and of three
pub note_two : (least least' least'' : Option Fault) (a b : List Fault) → least' ≡ noted least a → least'' ≡ noted least' b → least'' ≡ noted least (a ++ b)
note_two least least' least'' a b first second = second ∙ ap (λ l. noted l b) first ∙ sym (noted_of_append least a b)

pub note_three : (least least' least'' last : Option Fault) (a b d : List Fault) → least' ≡ noted least a → least'' ≡ noted least' b →
    last ≡ noted least'' d → last ≡ noted least (a ++ (b ++ d))
note_three least least' least'' last a b d first second third =
    note_two least least' last a (b ++ d) first (note_two least' least'' last b d second third)

-- what stands behind an assignment to a name that is assigned already, and to another
pub with_known : (k : Context) (word : List ℕ) (expr : ExprTree) → is_some (variable_of k word) ≡ true → with_variable k word expr ≡ k
with_known k word expr e = ap (λ b. if b then k else record k { variables = made word (variable_for k expr) ∷ k.variables }) e

pub with_new : (k : Context) (word : List ℕ) (expr : ExprTree) → is_some (variable_of k word) ≡ false → with_variable k word expr ≡ record k {
  variables =
      made word (variable_for k expr) ∷ k.variables;
}
with_new k word expr e = ap (λ b. if b then k else record k { variables = made word (variable_for k expr) ∷ k.variables }) e

-- what an active rule means
abbrev pub meant : Context → ℕ → Bool → ExprTree → Option ExprTree → Option ℕ → RuleMeaning
meant k place no_chain_in front rest tag =
    record {
      front = meaning_of_expr k front;
      rest = option_map (meaning_of_expr k) rest;
      chained_into = k.chained && not no_chain_in;
      tag = tag;
      place = place;
      height = max (height_of_expr k front) (option_map_or (height_of_expr k) rest 0);
    }

-- a rest means something where there is one
pub rest_there : (k : Context) (rest : Option Expr) → is_some (option_map (meaning_of_expr k) (rest_tree rest)) ≡ is_some rest
rest_there k None = refl
rest_there k (Some e) = refl
