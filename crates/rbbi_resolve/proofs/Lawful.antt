-- The rules that a file means are lawful.
use Rattle.std.proofs.Common.{◌≡◌, ℕ, ◌+◌, ◌≤◌, Bool, true, false, nat_lt, if◌then◌else◌, is_some, Option}
use Rattle.std.proofs.Common.{Some, None, IfSome, IsSome, List, [], ◌∷◌, ◌++◌, length, sum_by, sym, refl, ap, ◌∙◌, subst, arith}
use Rattle.std.specs.Option.{option_or, option_map, option_map_or}
use Rattle.std.specs.List.{AllByRecursion, AllZip}
use Rattle.std.proofs.lemmas.Bool.Decides.{nat_tests}
use Rattle.std.proofs.lemmas.List.Sums.{sum_by-cons}
use Rattle.std.proofs.lemmas.Slice.Zip.{AllZip-long}
use Rattle.rbbi_model.specs.Spelling as spelling
use Rattle.rbbi_model.specs.Spelling.{Spells}
use Rattle.rbbi_model.specs.Rules as model
use Rattle.rbbi_model.specs.Rules.{IsLawfulTree, IsLawfulRule, AreLawful, look_aheads}
use Rattle.rbbi_model.proofs.Lists.{all_append}
use Rattle.rbbi_props.specs.Rows.{File}
use Rattle.rbbi_tree.specs.Trees.{ExprTree, StatementTree, nothing, control, assign, rule}
use Rattle.rbbi_tree.specs.WellMade.{AreWellMade, IsWellMade, IsWellMadeRest}
use Rattle.rbbi_resolve.specs.declared.fault.Fault.{Fault}
use Rattle.rbbi_resolve.specs.declared.fault.FaultKind.{FaultKind}
use Rattle.rbbi_resolve.specs.declared.fault.FaultKind.TheVariants as kinds
use Rattle.rbbi_resolve.specs.Meanings.{Meaning, Leaf, Empty, Never, Then, Either, Repeat, Stands, leaves_in, spells_empty}
use Rattle.rbbi_resolve.specs.Contexts.{Context}
use Rattle.rbbi_resolve.specs.Expressions.{meaning_of_expr}
use Rattle.rbbi_resolve.specs.Parts.{parts_of_expr}
use Rattle.rbbi_resolve.specs.Faults.{faults_where, faults_of_parts}
use Rattle.rbbi_resolve.specs.Files.{RuleMeaning, initial_context, context_after, faults_of_rest, faults_at_slash, faults_of_statement, faults_from, rule_in}
use Rattle.rbbi_resolve.specs.Files.{rules_from, active_rules}
use Rattle.rbbi_resolve.specs.Counts.{size_fault, placed_fault, no_rules_at, too_many_rules_at, too_many_leaves_at, too_many_slashes_at, too_tall_at}
use Rattle.rbbi_resolve.specs.Counts as counts
use Rattle.rbbi_resolve.specs.inner.Countings.{limit_place, one, slash_of}
use Rattle.rbbi_resolve.specs.Outcomes.{BothStand, IsRuleOf, Means}
use Rattle.rbbi_resolve.specs.RuleLists.{IsLeafSet}
use Rattle.rbbi_resolve.specs.inner.Builders.{HasLawfulLeaves}
use Rattle.rbbi_resolve.specs.inner.Soundness.{IsFull, AreSound}
use Rattle.rbbi_resolve.proofs.Counted.{limit_place_one, limit_place_leaves, limit_place_slashes}
use Rattle.rbbi_resolve.proofs.EmptyWords.{not_empty}
use Rattle.rbbi_resolve.proofs.Sound.{first_empty, second_empty, not_where, full_expr}
use Rattle.rbbi_resolve.proofs.SoundFiles.{sound_after}
use Rattle.rbbi_resolve.proofs.Steps.{meant}

lawful_tree : (files : List File) (m : Meaning) (t : spelling.Tree) → IsFull m → Stands files m t → HasLawfulLeaves t → IsLawfulTree t
lawful_tree files (Leaf tree) t full s f =
    let own : IsLeafSet s.0 = subst HasLawfulLeaves s.1 f in
    subst IsLawfulTree (sym s.1) (own.some, own.characters)
lawful_tree files Empty t full s f = absurd full
lawful_tree files Never t full s f = absurd full
lawful_tree files (Then first rest) t full s f =
    let own : HasLawfulLeaves s.0 × HasLawfulLeaves s.1 = subst HasLawfulLeaves s.2 f in
    subst IsLawfulTree (sym s.2) (lawful_tree files first s.0 full.0 s.3 own.0, lawful_tree files rest s.1 full.1 s.4 own.1)
lawful_tree files (Either first rest) t full s f =
    let own : HasLawfulLeaves s.0 × HasLawfulLeaves s.1 = subst HasLawfulLeaves s.2 f in
    subst IsLawfulTree (sym s.2) (lawful_tree files first s.0 full.0 s.3 own.0, lawful_tree files rest s.1 full.1 s.4 own.1)
lawful_tree files (Repeat repetition part) t full s f =
    let own : HasLawfulLeaves s.0 = subst HasLawfulLeaves s.1 f in
    subst IsLawfulTree (sym s.1) (lawful_tree files part s.0 full s.2 own)

count_stands : (files : List File) (m : Meaning) (t : spelling.Tree) → Stands files m t → model.leaf_count t ≡ leaves_in m
count_stands files (Leaf tree) t s = ap model.leaf_count s.1
count_stands files Empty t s = ap model.leaf_count s
count_stands files Never t s = ap model.leaf_count s
count_stands files (Then first rest) t s =
    let a = count_stands files first s.0 s.3 in
    let b = count_stands files rest s.1 s.4 in
    let e : model.leaf_count t ≡ model.leaf_count s.0 + model.leaf_count s.1 = ap model.leaf_count s.2 in
    omega arith
count_stands files (Either first rest) t s =
    let a = count_stands files first s.0 s.3 in
    let b = count_stands files rest s.1 s.4 in
    let e : model.leaf_count t ≡ model.leaf_count s.0 + model.leaf_count s.1 = ap model.leaf_count s.2 in
    omega arith
count_stands files (Repeat repetition part) t s = ap model.leaf_count s.1 ∙ count_stands files part s.0 s.2

-- what makes the rule of a meaning lawful
pub record IsSoundRule (m : RuleMeaning) : Type 0 where
  pub front : IsFull m.front
  pub rest : IfSome m.rest (λ x. IsFull x × (spells_empty x ≡ false))
  pub tag : IfSome m.tag (λ number. number ≤ 2147483647)
  pub front_not_empty : IsSome m.rest → spells_empty m.front ≡ false

rest_sound : (k : Context) → AreSound k → (front : ExprTree) (slash : Option ℕ) (rest : Option ExprTree) → IsWellMadeRest slash rest →
    faults_of_rest k rest ++ faults_at_slash k front slash rest ≡ [] →
    IfSome (option_map (meaning_of_expr k) rest) (λ x. IsFull x × (spells_empty x ≡ false)) ×
    (IsSome (option_map (meaning_of_expr k) rest) → spells_empty (meaning_of_expr k front) ≡ false)
rest_sound k sound front None None well e = (tt, λ s. absurd cc)
rest_sound k sound front None (Some rest) well e = absurd well
rest_sound k sound front (Some slash) None well e = absurd well
rest_sound k sound front (Some slash) (Some rest) well e =
    let own = first_empty (faults_of_parts k (parts_of_expr rest)) (faults_at_slash k front (Some slash) (Some rest)) e in
    let at = second_empty (faults_of_parts k (parts_of_expr rest)) (faults_at_slash k front (Some slash) (Some rest)) e in
    let a = faults_where (spells_empty (meaning_of_expr k front)) slash kinds.EmptyFront in
    let b = faults_where (spells_empty (meaning_of_expr k rest)) slash kinds.EmptyRest in (
      (full_expr k sound rest well.0 well.1 own, not_where (spells_empty (meaning_of_expr k rest)) slash kinds.EmptyRest (second_empty a b at)),
      λ s. not_where (spells_empty (meaning_of_expr k front)) slash kinds.EmptyFront (first_empty a b at),
    )

rule_sound : (ignored : Bool) (k : Context) (s : StatementTree) → AreSound k → IsWellMade s → faults_of_statement ignored k s ≡ [] →
    AllByRecursion IsSoundRule (rule_in k s)
rule_sound ignored k nothing sound well e = tt
rule_sound ignored k (control word place) sound well e = tt
rule_sound ignored k (assign word place x) sound well e = tt
rule_sound ignored k (rule place no_chain_in front slash rest tag) sound well e =
    let own = faults_of_parts k (parts_of_expr front) in
    let others = faults_of_rest k rest ++ faults_at_slash k front slash rest in
    let r = rest_sound k sound front slash rest well.1 (second_empty own others e) in
    let is : IsSoundRule (meant k place no_chain_in front rest tag) =
    record { front = full_expr k sound front well.0.0 well.0.1 (first_empty own others e); rest = r.0; tag = well.2; front_not_empty = r.1 } in
    elim k.active as (λ b. AllByRecursion IsSoundRule (if b then meant k place no_chain_in front rest tag ∷ [] else [])) [ true ↦ (is, tt) | false ↦ tt ]

rules_sound : (ignored : Bool) (k : Context) (statements : List StatementTree) → AreSound k → AreWellMade statements →
    faults_from ignored k statements ≡ [] → AllByRecursion IsSoundRule (rules_from k statements)
unfolding faults_from rules_from
rules_sound ignored k [] sound well e = tt
rules_sound ignored k (s ∷ statements) sound well e =
    let here = first_empty (faults_of_statement ignored k s) (faults_from ignored (context_after k s) statements) e in
    let later = second_empty (faults_of_statement ignored k s) (faults_from ignored (context_after k s) statements) e in
    all_append IsSoundRule (rule_in k s) (rules_from (context_after k s) statements) (rule_sound ignored k s sound well.0 here)
    (rules_sound ignored (context_after k s) statements (sound_after ignored k s sound well.0 here) well.1 later)

-- the leaves of a rule have sets that they may have
pub record HasRuleSets (r : model.Rule) : Type 0 where
  pub front : HasLawfulLeaves r.front
  pub rest : IfSome r.rest HasLawfulLeaves

rest_lawful : (files : List File) (m : Option Meaning) (t : Option spelling.Tree) → BothStand files m t →
    IfSome m (λ x. IsFull x × (spells_empty x ≡ false)) → IfSome t HasLawfulLeaves →
    IfSome t IsLawfulTree × IfSome t (λ x. ¬ Spells x []) × (IsSome t → IsSome m)
rest_lawful files None None b f h = (tt, tt, λ s. s)
rest_lawful files None (Some t) b f h = absurd b
rest_lawful files (Some m) None b f h = absurd b
rest_lawful files (Some m) (Some t) b f h = (lawful_tree files m t f.0 b h, not_empty files m t b f.1, λ s. refl)

rule_lawful : (files : List File) (m : RuleMeaning) (r : model.Rule) → IsRuleOf files m r → IsSoundRule m → HasRuleSets r → IsLawfulRule r
rule_lawful files m r is sound has =
    let rest = rest_lawful files m.rest r.rest is.rest sound.rest has.rest in
    record {
      front = lawful_tree files m.front r.front sound.front is.front has.front;
      rest = rest.0;
      tag = subst (λ t. IfSome t (λ number. number ≤ 2147483647)) (sym is.tag) sound.tag;
      front_not_empty = λ looks. not_empty files m.front r.front is.front (sound.front_not_empty (rest.2 looks));
      rest_not_empty = rest.1;
    }

each_lawful : (files : List File) (ms : List RuleMeaning) (rs : List model.Rule) → AllZip (IsRuleOf files) ms rs → AllByRecursion IsSoundRule ms →
    AllByRecursion HasRuleSets rs → AllByRecursion IsLawfulRule rs
each_lawful files [] [] z s h = tt
each_lawful files [] (r ∷ rs) z s h = absurd z
each_lawful files (m ∷ ms) [] z s h = absurd z
each_lawful files (m ∷ ms) (r ∷ rs) z s h = (rule_lawful files m r z.0 s.0 h.0, each_lawful files ms rs z.1 s.1 h.1)

rest_count : (files : List File) (m : Option Meaning) (t : Option spelling.Tree) → BothStand files m t →
    option_map_or model.leaf_count t 0 ≡ option_map_or leaves_in m 0
rest_count files None None b = refl
rest_count files None (Some t) b = absurd b
rest_count files (Some m) None b = absurd b
rest_count files (Some m) (Some t) b = count_stands files m t b

rest_there : (files : List File) (m : Option Meaning) (t : Option spelling.Tree) → BothStand files m t → is_some t ≡ is_some m
rest_there files None None b = refl
rest_there files None (Some t) b = absurd b
rest_there files (Some m) None b = absurd b
rest_there files (Some m) (Some t) b = refl

-- the rules have as many leaves as their meanings
pub same_leaves : (files : List File) (ms : List RuleMeaning) (rs : List model.Rule) → AllZip (IsRuleOf files) ms rs →
    sum_by model.leaves_of rs ≡ sum_by counts.leaves_meant ms
same_leaves files [] [] z = refl
same_leaves files [] (r ∷ rs) z = absurd z
same_leaves files (m ∷ ms) [] z = absurd z
same_leaves files (m ∷ ms) (r ∷ rs) z =
    let a = count_stands files m.front r.front z.0.front in
    let b = rest_count files m.rest r.rest z.0.rest in
    let c = same_leaves files ms rs z.1 in
    let d = sum_by-cons model.leaves_of r rs in
    let e = sum_by-cons counts.leaves_meant m ms in
    omega arith

look_step : (r : model.Rule) (rs : List model.Rule) (b : Bool) → is_some r.rest ≡ b → length (look_aheads (r ∷ rs)) ≡ (if b then 1 else 0) + length
    (look_aheads rs)
look_step r rs true e = rw e (omega arith)
look_step r rs false e = rw e (omega arith)

-- and as many rests
pub same_slashes : (files : List File) (ms : List RuleMeaning) (rs : List model.Rule) → AllZip (IsRuleOf files) ms rs →
    length (look_aheads rs) ≡ sum_by slash_of ms
same_slashes files [] [] z = refl
same_slashes files [] (r ∷ rs) z = absurd z
same_slashes files (m ∷ ms) [] z = absurd z
same_slashes files (m ∷ ms) (r ∷ rs) z =
    let a = look_step r rs (is_some m.rest) (rest_there files m.rest r.rest z.0.rest) in
    let c = same_slashes files ms rs z.1 in
    let e = sum_by-cons slash_of m ms in
    omega arith

sum_of_ones : (ms : List RuleMeaning) → sum_by one ms ≡ length ms
sum_of_ones [] = refl
sum_of_ones (m ∷ ms) = let e = sum_by-cons one m ms in let r = sum_of_ones ms in omega arith

not_passed : (amount : RuleMeaning → ℕ) (most sum : ℕ) (ms : List RuleMeaning) → sum ≤ most → limit_place amount most sum ms ≡ None →
    sum + sum_by amount ms ≤ most
not_passed amount most sum [] low e = omega arith
not_passed amount most sum (m ∷ ms) low e =
    elim (nat_lt most (sum + amount m)) as (λ b. nat_lt most (sum + amount m) ≡ b →
    (if b then Some m.place else limit_place amount most (sum + amount m) ms) ≡ None → sum + sum_by amount (m ∷ ms) ≤ most) [
      | true ↦ λ t f. absurd cc
      | false ↦ λ t f.
          let low' : sum + amount m ≤ most = grind (arith, nat_tests) in
          let r = not_passed amount most (sum + amount m) ms low' f in
          let d = sum_by-cons amount m ms in
          omega arith
    ] refl e

none_at : (kind : FaultKind) (p : Option ℕ) (other : Option Fault) → option_or (placed_fault kind p) other ≡ None → (p ≡ None) × (other ≡ None)
none_at kind None other e = (refl, e)
none_at kind (Some p) other e = absurd cc

none_placed : (kind : FaultKind) (p : Option ℕ) → placed_fault kind p ≡ None → p ≡ None
none_placed kind None e = refl
none_placed kind (Some p) e = absurd cc

-- nothing is counted: there are rules, and not too many of anything
pub record IsWithin (end : ℕ) (ms : List RuleMeaning) : Type 0 where
  pub some : no_rules_at end ms ≡ None
  pub rules : limit_place one 4096 0 ms ≡ None
  pub leaves : limit_place counts.leaves_meant 8192 0 ms ≡ None
  pub slashes : limit_place slash_of 32 0 ms ≡ None
  pub tall : too_tall_at ms ≡ None

pub within : (end : ℕ) (ms : List RuleMeaning) → size_fault end ms ≡ None → IsWithin end ms
within end ms e =
    let none = none_at kinds.NoRules (no_rules_at end ms) _ e in
    let many = none_at kinds.TooManyRules (too_many_rules_at ms) _ none.1 in
    let leaves = none_at kinds.TooManyLeaves (too_many_leaves_at 0 ms) _ many.1 in
    let slashes = none_at kinds.TooManySlashes (too_many_slashes_at ms) _ leaves.1 in
    record {
      some = none.0;
      rules = limit_place_one 4096 0 4096 ms refl ∙ many.0;
      leaves = limit_place_leaves 0 ms ∙ leaves.0;
      slashes = limit_place_slashes 32 ms 0 32 refl ∙ slashes.0;
      tall = none_placed kinds.TooTall (too_tall_at ms) slashes.1;
    }

-- nothing is counted, wherever the end is
pub within_anywhere : (end other : ℕ) (ms : List RuleMeaning) → size_fault end ms ≡ None → size_fault other ms ≡ None
within_anywhere end other [] e = absurd cc
within_anywhere end other (m ∷ ms) e = e

some_rules : (end : ℕ) (ms : List RuleMeaning) → no_rules_at end ms ≡ None → 1 ≤ length ms
some_rules end [] e = absurd cc
some_rules end (m ∷ ms) e = omega arith

-- the rules that a file means are lawful, where each leaf has a set that it may have
pub lawful_rules : (files : List File) (ignored : Bool) (statements : List StatementTree) (rs : List model.Rule) → AreWellMade statements →
    Means files ignored statements rs → AllByRecursion HasRuleSets rs → AreLawful rs
lawful_rules files ignored statements rs well means has =
    let ms = active_rules files statements in
    let w = within 0 ms (means.within 0) in
    let long = AllZip-long (IsRuleOf files) ms rs means.rules_in_order in
    let ones = sum_of_ones ms in
    let few = not_passed one 4096 0 ms (omega arith) w.rules in
    let leaves = not_passed counts.leaves_meant 8192 0 ms (omega arith) w.leaves in
    let slashes = not_passed slash_of 32 0 ms (omega arith) w.slashes in
    let same_leaf = same_leaves files ms rs means.rules_in_order in
    let same_slash = same_slashes files ms rs means.rules_in_order in
    let some = some_rules 0 ms w.some in
    record {
      some = omega arith;
      few = omega arith;
      few_look_aheads = omega arith;
      few_leaves = omega arith;
      each = each_lawful files ms rs means.rules_in_order (rules_sound ignored (initial_context files) statements
          (record { each = λ name. tt }) well means.faultless)
          has;
    }
