-- A file of characters without faults means lawful rules.
use Rattle.std.proofs.Common.{◌≡◌, ℕ, ◌≤◌, ◌⊎◌, inl, inr, Bool, true, false, if◌then◌else◌, Option, Some, None, IfSome, List, [], ◌∷◌, ◌++◌, length}
use Rattle.std.proofs.Common.{sym, refl, ap, ◌∙◌, subst, arith}
use Rattle.std.specs.Option.{option_map}
use Rattle.std.specs.List.{AllByRecursion, AllZip}
use Rattle.rbbi_model.specs.Ranges.{Range}
use Rattle.rbbi_model.specs.SetTrees as sets
use Rattle.rbbi_model.specs.Spelling as spelling
use Rattle.rbbi_model.specs.Rules as model
use Rattle.rbbi_model.specs.Rules.{AreLawful}
use Rattle.rbbi_props.specs.Rows.{File}
use Rattle.rbbi_tree.specs.Trees.{ExprTree, StatementTree, nothing, control, assign, rule}
use Rattle.rbbi_tree.specs.WellMade.{AreWellMade}
use Rattle.rbbi_resolve.specs.declared.fault.Fault.{Fault}
use Rattle.rbbi_resolve.specs.SetValues.{Passes, property_test, HasProperty}
use Rattle.rbbi_resolve.specs.Meanings.{Meaning, Leaf, Empty, Never, Then, Either, Repeat, IsLeafOf, Stands}
use Rattle.rbbi_resolve.specs.Contexts.{Context}
use Rattle.rbbi_resolve.specs.Expressions.{meaning_of_expr}
use Rattle.rbbi_resolve.specs.Parts.{parts_of_expr}
use Rattle.rbbi_resolve.specs.Faults.{faults_of_parts, noted}
use Rattle.rbbi_resolve.specs.Files.{RuleMeaning, initial_context, context_after, faults_of_rest, faults_at_slash, faults_of_statement, faults_from}
use Rattle.rbbi_resolve.specs.Files.{faults_of, rule_in}
use Rattle.rbbi_resolve.specs.Files.{rules_from, active_rules}
use Rattle.rbbi_resolve.specs.Counts.{size_fault}
use Rattle.rbbi_resolve.specs.Refusals.{IsReportedFault}
use Rattle.rbbi_resolve.specs.Outcomes.{BothStand, IsRuleOf, Means}
use Rattle.rbbi_resolve.specs.RuleLists.{IsLeafSet}
use Rattle.rbbi_resolve.specs.inner.Builders.{HasLawfulLeaves}
use Rattle.rbbi_resolve.specs.inner.Soundness.{AreSound}
use Rattle.rbbi_resolve.specs.TextCharacters.{AreOfCharacters, IsStatementOfCharacters, IsRestOfCharacters}
use Rattle.rbbi_resolve.proofs.Characters.{held_character, in_leaf, in_leaf_tells}
use Rattle.rbbi_resolve.proofs.PropertySets.{members_are_code_points}
use Rattle.rbbi_resolve.proofs.Kept.{statement_keeps}
use Rattle.rbbi_classes.specs.RangesWhere.{ranges_where}
use Rattle.rbbi_classes.proofs.RangesWhere.{ranges_where-rises, ranges_where-has}
use Rattle.rbbi_resolve.proofs.Sound.{first_empty, second_empty}
use Rattle.rbbi_resolve.proofs.SoundFiles.{sound_after}
use Rattle.rbbi_resolve.proofs.Steps.{meant}
use Rattle.rbbi_resolve.proofs.Lawful.{HasRuleSets, lawful_rules, within_anywhere}
use Rattle.rbbi_resolve.proofs.Earliest.{least_noted, none_noted}
use Rattle.rbbi_resolve.proofs.Good.{IsWithin, IsGood, AreGood, good_expr, good_after}

passes_within : (test : Option (ℕ → Bool)) (c : ℕ) → Passes test c → c ≤ 0x10FFFF
passes_within None c p = absurd p
passes_within (Some test) c p = p.0

property_within : (files : List File) (negated : Bool) (word : List ℕ) (value : Option (List ℕ)) (c : ℕ) →
    sets.InProperty negated c (HasProperty files word value c) → c ≤ 0x10FFFF
property_within files false word value c p = passes_within (property_test files word value) c p
property_within files true word value c p = p.0

join_within : (join : sets.Join) (c : ℕ) (A B : Type 0) → (A → c ≤ 0x10FFFF) → (B → c ≤ 0x10FFFF) → sets.InJoin join A B → c ≤ 0x10FFFF
join_within sets.Add c A B a b p = elim p [ inl x ↦ a x | inr y ↦ b y ]
join_within sets.Both c A B a b p = a p.0
join_within sets.Minus c A B a b p = a p.0

member_within : (files : List File) (tree : sets.SetTree) → IsWithin tree → (c : ℕ) → sets.InSet (HasProperty files) tree c → c ≤ 0x10FFFF
member_within files sets.Nothing w c p = absurd p
member_within files (sets.Character d) w c p = omega arith
member_within files (sets.Span range) w c p = omega (arith, p.1)
member_within files (sets.Property negated word value) w c p = property_within files negated word value c p
member_within files (sets.Joined left join part) w c p =
    join_within join c (sets.InSet (HasProperty files) left c) (sets.InSet (HasProperty files) part c) (member_within files left w.0 c)
    (member_within files part w.1 c) p
member_within files (sets.Others set) w c p = p.0

leaf_exists : (files : List File) (tree : sets.SetTree) → IsWithin tree → (rs : List Range) × IsLeafOf files tree rs
leaf_exists files tree w =
    let test = in_leaf files tree in (
      ranges_where test,
      record {
        rising = ranges_where-rises test;
        members = λ c. (
          λ h. (in_leaf_tells files tree c).0 ((ranges_where-has test c).0 h).1,
          λ p. (ranges_where-has test c).1 (member_within files tree w c p.0, (in_leaf_tells files tree c).1 p),
        );
      },
    )

tree_exists : (files : List File) (m : Meaning) → IsGood files m → (t : spelling.Tree) × Stands files m t
tree_exists files (Leaf tree) g = let l = leaf_exists files tree g.within in (spelling.Leaf l.0, (l.0, refl, l.1))
tree_exists files Empty g = (spelling.Empty, refl)
tree_exists files Never g = (spelling.Never, refl)
tree_exists files (Then first rest) g =
    let a = tree_exists files first g.0 in
    let b = tree_exists files rest g.1 in
    (spelling.Then a.0 b.0, (a.0, b.0, refl, a.1, b.1))
tree_exists files (Either first rest) g =
    let a = tree_exists files first g.0 in
    let b = tree_exists files rest g.1 in
    (spelling.Either a.0 b.0, (a.0, b.0, refl, a.1, b.1))
tree_exists files (Repeat repetition part) g = let a = tree_exists files part g in (spelling.Repeat repetition a.0, (a.0, refl, a.1))

-- the leaves of what stands for a good meaning have sets that they may have
filled_tree : (files : List File) (m : Meaning) (t : spelling.Tree) → IsGood files m → Stands files m t → HasLawfulLeaves t
filled_tree files (Leaf tree) t g s =
    let of = s.2 in
    let w = held_character files tree g.holds in
    let own : IsLeafSet s.0 =
    record {
      rising = of.rising;
      some = (w.0, (of.members w.0).1 (w.2, w.3));
      characters = λ c h. (members_are_code_points 0 s.0 of.rising c h, ((of.members c).0 h).1);
    } in
    subst HasLawfulLeaves (sym s.1) own
filled_tree files Empty t g s = subst HasLawfulLeaves (sym s) tt
filled_tree files Never t g s = subst HasLawfulLeaves (sym s) tt
filled_tree files (Then first rest) t g s = subst HasLawfulLeaves (sym s.2) (filled_tree files first s.0 g.0 s.3, filled_tree files rest s.1 g.1 s.4)
filled_tree files (Either first rest) t g s = subst HasLawfulLeaves (sym s.2) (filled_tree files first s.0 g.0 s.3, filled_tree files rest s.1 g.1 s.4)
filled_tree files (Repeat repetition part) t g s = subst HasLawfulLeaves (sym s.1) (filled_tree files part s.0 g s.2)

record IsGoodRule (files : List File) (m : RuleMeaning) : Type 0 where
  pub front : IsGood files m.front
  pub rest : IfSome m.rest (IsGood files)

rest_exists : (files : List File) (m : Option Meaning) → IfSome m (IsGood files) → (t : Option spelling.Tree) × BothStand files m t
rest_exists files None g = (None, tt)
rest_exists files (Some m) g = let a = tree_exists files m g in (Some a.0, a.1)

rest_filled : (files : List File) (m : Option Meaning) (t : Option spelling.Tree) → IfSome m (IsGood files) → BothStand files m t → IfSome t HasLawfulLeaves
rest_filled files None None g b = tt
rest_filled files None (Some t) g b = absurd b
rest_filled files (Some m) None g b = absurd b
rest_filled files (Some m) (Some t) g b = filled_tree files m t g b

rules_exist : (files : List File) (ms : List RuleMeaning) → AllByRecursion (IsGoodRule files) ms → (rs : List model.Rule) × AllZip (IsRuleOf files) ms rs
rules_exist files [] g = ([], tt)
rules_exist files (m ∷ ms) g =
    let front = tree_exists files m.front g.0.front in
    let rest = rest_exists files m.rest g.0.rest in
    let more = rules_exist files ms g.1 in
    let r : model.Rule = record { front = front.0; rest = rest.0; chained_into = m.chained_into; tag = m.tag; place = m.place } in
    (r ∷ more.0, (record { front = front.1; rest = rest.1; chained_into = refl; tag = refl; place = refl }, more.1))

rules_filled : (files : List File) (ms : List RuleMeaning) (rs : List model.Rule) → AllByRecursion (IsGoodRule files) ms → AllZip (IsRuleOf files) ms rs →
    AllByRecursion HasRuleSets rs
rules_filled files [] [] g z = tt
rules_filled files [] (r ∷ rs) g z = absurd z
rules_filled files (m ∷ ms) [] g z = absurd z
rules_filled files (m ∷ ms) (r ∷ rs) g z = (
  record { front = filled_tree files m.front r.front g.0.front z.0.front; rest = rest_filled files m.rest r.rest g.0.rest z.0.rest },
  rules_filled files
      ms rs g.1 z.1,
)

all_good : (files : List File) (a b : List RuleMeaning) → AllByRecursion (IsGoodRule files) a → AllByRecursion (IsGoodRule files) b →
    AllByRecursion (IsGoodRule files) (a ++ b)
all_good files [] b x y = y
all_good files (m ∷ a) b x y = (x.0, all_good files a b x.1 y)

rest_good : (k : Context) → AreSound k → AreGood k → (rest : Option ExprTree) → IsRestOfCharacters rest → faults_of_rest k rest ≡ [] →
    IfSome (option_map (meaning_of_expr k) rest) (IsGood k.files)
rest_good k sound good None c e = tt
rest_good k sound good (Some rest) c e = good_expr k sound good rest c e

rule_good : (ignored : Bool) (k : Context) (s : StatementTree) → AreSound k → AreGood k → IsStatementOfCharacters s → faults_of_statement ignored k s ≡ [] →
    AllByRecursion (IsGoodRule k.files) (rule_in k s)
rule_good ignored k nothing sound good c e = tt
rule_good ignored k (control word place) sound good c e = tt
rule_good ignored k (assign word place x) sound good c e = tt
rule_good ignored k (rule place no_chain_in front slash rest tag) sound good c e =
    let own = faults_of_parts k (parts_of_expr front) in
    let others = faults_of_rest k rest ++ faults_at_slash k front slash rest in
    let is : IsGoodRule k.files (meant k place no_chain_in front rest tag) =
    record {
      front = good_expr k sound good front c.0 (first_empty own others e);
      rest =
          rest_good k sound good rest c.1 (first_empty (faults_of_rest k rest) (faults_at_slash k front slash rest) (second_empty own others e));
    } in
    elim k.active as (λ b. AllByRecursion (IsGoodRule k.files) (if b then meant k place no_chain_in front rest tag ∷ [] else []))
    [ true ↦ (is, tt) | false ↦ tt ]

rules_good : (files : List File) (ignored : Bool) (k : Context) (statements : List StatementTree) → k.files ≡ files → AreSound k → AreGood k →
    AreWellMade statements → AreOfCharacters statements → faults_from ignored k statements ≡ [] →
    AllByRecursion (IsGoodRule files) (rules_from k statements)
unfolding faults_from rules_from
rules_good files ignored k [] same sound good well c e = tt
rules_good files ignored k (s ∷ statements) same sound good well c e =
    let here = first_empty (faults_of_statement ignored k s) (faults_from ignored (context_after k s) statements) e in
    let later = second_empty (faults_of_statement ignored k s) (faults_from ignored (context_after k s) statements) e in
    all_good files (rule_in k s) (rules_from (context_after k s) statements)
    (subst (λ f. AllByRecursion (IsGoodRule f) (rule_in k s)) same (rule_good ignored k s sound good c.0 here))
    (rules_good files ignored (context_after k s) statements (statement_keeps k s ∙ same) (sound_after ignored k s sound well.0 here)
    (good_after ignored k s sound good c.0 here) well.1 c.1 later)

file_good : (files : List File) (ignored : Bool) (statements : List StatementTree) → AreWellMade statements → AreOfCharacters statements →
    faults_of files ignored statements ≡ [] → AllByRecursion (IsGoodRule files) (active_rules files statements)
file_good files ignored statements well c e =
    rules_good files ignored (initial_context files) statements refl (record { each = λ name. tt }) (record { each = λ name. tt }) well c e

-- what a file of characters means is lawful
pub lawful_meaning : (files : List File) (ignored : Bool) (statements : List StatementTree) (rs : List model.Rule) → AreWellMade statements →
    AreOfCharacters statements → Means files ignored statements rs → AreLawful rs
lawful_meaning files ignored statements rs well c means =
    lawful_rules files ignored statements rs well means
    (rules_filled files (active_rules files statements) rs (file_good files ignored statements well c means.faultless) means.rules_in_order)

-- and it means something or has a fault
pub meaning_or_fault : (files : List File) (ignored : Bool) (statements : List StatementTree) (end : ℕ) → AreWellMade statements → AreOfCharacters statements →
    ((rs : List model.Rule) × Means files ignored statements rs) ⊎
    ((fault : Fault) × IsReportedFault (faults_of files ignored statements) (size_fault end (active_rules files statements)) fault)
meaning_or_fault files ignored statements end well c =
    let faults = faults_of files ignored statements in
    let ms = active_rules files statements in
    elim (noted None faults) as (λ o. noted None faults ≡ o → ((rs : List model.Rule) × Means files ignored statements rs) ⊎
    ((fault : Fault) × IsReportedFault faults (size_fault end ms) fault)) [
      | Some f ↦ λ e. inr (f, inl (least_noted faults f e))
      | None ↦ λ e.
          let none = none_noted faults e in
          elim (size_fault end ms) as (λ o. size_fault end ms ≡ o → ((rs : List model.Rule) × Means files ignored statements rs) ⊎
          ((fault : Fault) × IsReportedFault faults (size_fault end ms) fault)) [
            | Some f ↦ λ g. inr (f, inr (none, g))
            | None ↦ λ g.
                let r = rules_exist files ms (file_good files ignored statements well c none) in
                inl (r.0, record { faultless = none; within = λ other. within_anywhere end other ms g; rules_in_order = r.1 })
          ] refl
    ] refl

-- but not both
pub not_both : (files : List File) (ignored : Bool) (statements : List StatementTree) (end : ℕ) (rs : List model.Rule) (fault : Fault) →
    Means files ignored statements rs →
    IsReportedFault (faults_of files ignored statements) (size_fault end (active_rules files statements)) fault → ⊥
not_both files ignored statements end rs fault means f =
    elim f [
      | inl least ↦ (let w = least.one_of in let long = ap length means.faultless in omega (arith, w.1))
      | inr other ↦ (let none = means.within end in let some = other.1 in cc)
    ]
