-- The test whether a set holds a character says whether it does.
use Rattle.std.proofs.Common.{◌≡◌, ℕ, zero, suc, ◌<◌, ◌≤◌, Bool, true, false, not, ◌&&◌, ◌||◌, eqb, leb, ◌⊎◌, ◌↔◌, inl, inr, List, Option, Some, None}
use Rattle.std.proofs.Common.{IsTrue, sym, refl, ap, subst, arith}
use Rattle.std.proofs.lemmas.Bool.{cases_lt, false_from_ne_true}
use Rattle.std.proofs.lemmas.Bool.Decides.{nat_tests}
use Rattle.rbbi_model.specs.Words.{IsCodePoint, IsSurrogate}
use Rattle.rbbi_model.specs.Ranges.{Range, Has}
use Rattle.rbbi_model.specs.SetTrees as model
use Rattle.rbbi_classes.specs.Classes.{ClassBits, HasMember, IsFirstOfClass}
use Rattle.rbbi_classes.specs.Divisions.{ClassDivision, IsDivision, stand_in}
use Rattle.rbbi_classes.proofs.FirstCodePoints.{stand-in_is_first}
use Rattle.rbbi_resolve.specs.inner.Covered.{Respects}
use Rattle.std.proofs.Common.{IfSome}
use Rattle.rbbi_props.specs.Rows.{File}
use Rattle.rbbi_resolve.specs.SetValues.{Passes, property_test, HasProperty}
use Rattle.rbbi_resolve.specs.inner.SetValues.{HasMembers}
use Rattle.rbbi_resolve.specs.inner.ClassValues.{IsClassValue}
use Rattle.rbbi_resolve.specs.Emptiness.{passes_test, in_property, in_join, in_set, is_no_surrogate, any_below, holds_character}
use Rattle.rbbi_resolve.specs.Faults.{is_empty_value}
use Rattle.rbbi_resolve.proofs.PropertySets.{members_are_code_points}

-- the test is true exactly where the fact holds
abbrev Tells : Bool → Type 0 → Type 0
Tells b P = (b ≡ true → P) × (P → b ≡ true)

tells_and : (a b : Bool) (A B : Type 0) → Tells a A → Tells b B → Tells (a && b) (A × B)
tells_and true b A B ta tb = (λ e. (ta.0 refl, tb.0 e), λ p. tb.1 p.1)
tells_and false b A B ta tb = (λ e. cc, λ p. let e = ta.1 p.0 in cc)

tells_or : (a b : Bool) (A B : Type 0) → Tells a A → Tells b B → Tells (a || b) (A ⊎ B)
tells_or true b A B ta tb = (λ e. inl (ta.0 refl), λ p. refl)
tells_or false b A B ta tb = (λ e. inr (tb.0 e), λ p. elim p [ inl x ↦ let e : false ≡ true = ta.1 x in cc | inr y ↦ tb.1 y ])

tells_not : (a : Bool) (A : Type 0) → Tells a A → Tells (not a) (¬ A)
tells_not true A ta = (λ e. cc, λ n. absurd (n (ta.0 refl)))
tells_not false A ta = (λ e x. let f : false ≡ true = ta.1 x in cc, λ n. refl)

tells_le : (a b : ℕ) → Tells (leb a b) (a ≤ b)
tells_le a b = (λ e. grind (arith, nat_tests), λ h. grind (arith, nat_tests))

tells_eq : (a b : ℕ) → Tells (eqb a b) (a ≡ b)
tells_eq a b = (λ e. grind (arith, nat_tests), λ h. grind (arith, nat_tests))

tells_true : (b : Bool) → Tells b (IsTrue b)
tells_true b = (λ e. e, λ t. t)

tells_passes : (test : Option (ℕ → Bool)) (c : ℕ) → Tells (passes_test test c) (Passes test c)
tells_passes None c = (λ e. cc, λ p. absurd p)
tells_passes (Some test) c = tells_and (leb c 0x10FFFF) (test c) (c ≤ 0x10FFFF) (IsTrue (test c)) (tells_le c 0x10FFFF) (tells_true (test c))

tells_property : (negated own : Bool) (c : ℕ) (A : Type 0) → Tells own A → Tells (in_property negated c own) (model.InProperty negated c A)
tells_property false own c A t = t
tells_property true own c A t = tells_and (leb c 0x10FFFF) (not own) (c ≤ 0x10FFFF) (¬ A) (tells_le c 0x10FFFF) (tells_not own A t)

tells_join : (join : model.Join) (a b : Bool) (A B : Type 0) → Tells a A → Tells b B → Tells (in_join join a b) (model.InJoin join A B)
tells_join model.Add a b A B ta tb = tells_or a b A B ta tb
tells_join model.Both a b A B ta tb = tells_and a b A B ta tb
tells_join model.Minus a b A B ta tb = tells_and a (not b) A (¬ B) ta (tells_not b B tb)

pub tells_in_set : (files : List File) (tree : model.SetTree) (c : ℕ) → Tells (in_set files tree c) (model.InSet (HasProperty files) tree c)
tells_in_set files model.Nothing c = (λ e. cc, λ p. absurd p)
tells_in_set files (model.Character d) c = tells_eq c d
tells_in_set files (model.Span range) c = tells_and (leb range.low c) (leb c range.high) (range.low ≤ c) (c ≤ range.high) (tells_le range.low c)
    (tells_le c range.high)
tells_in_set files (model.Property negated name value) c =
    tells_property negated (passes_test (property_test files name value) c) c (Passes (property_test files name value) c) (tells_passes
    (property_test files name value) c)
tells_in_set files (model.Joined left join part) c =
    tells_join join (in_set files left c) (in_set files part c) (model.InSet (HasProperty files) left c) (model.InSet (HasProperty files) part c)
    (tells_in_set files left c) (tells_in_set files part c)
tells_in_set files (model.Others set) c =
    tells_and (leb c 0x10FFFF) (not (in_set files set c)) (c ≤ 0x10FFFF) (¬ model.InSet (HasProperty files) set c) (tells_le c 0x10FFFF)
    (tells_not (in_set files set c) (model.InSet (HasProperty files) set c) (tells_in_set files set c))

any_below_gives : (test : ℕ → Bool) (end : ℕ) → any_below test end ≡ true → (c : ℕ) × (c < end) × (test c ≡ true)
unfolding any_below
any_below_gives test zero e = absurd cc
any_below_gives test (suc end) e =
    let both : (test end ≡ true) ⊎ (any_below test end ≡ true) =
    (tells_or (test end) (any_below test end) (test end ≡ true) (any_below test end ≡ true) (λ x. x, λ x. x) (λ x. x, λ x. x)).0 e in
    elim both [
      | inl here ↦ (end, omega arith, here)
      | inr there ↦ let rest = any_below_gives test end there in (rest.0, omega (arith, rest.1), rest.2)
    ]

any_below_takes : (test : ℕ → Bool) (end c : ℕ) → c < end → test c ≡ true → any_below test end ≡ true
unfolding any_below
any_below_takes test zero c below e = absurd (omega arith)
any_below_takes test (suc end) c below e =
    (tells_or (test end) (any_below test end) (test end ≡ true) (any_below test end ≡ true) (λ x. x, λ x. x) (λ x. x, λ x. x)).1
    (elim (cases_lt c end) [
      | inl lt ↦ inr (any_below_takes test end c lt e)
      | inr ge ↦ let here : c ≡ end = omega arith in inl (subst (λ x. test x ≡ true) here e)
    ])

no_surrogate : (c : ℕ) → Tells (is_no_surrogate c) (¬ IsSurrogate c)
no_surrogate c = tells_not _ (IsSurrogate c) (tells_and (leb 0xD800 c) (leb c 0xDFFF) (0xD800 ≤ c) (c ≤ 0xDFFF) (tells_le 0xD800 c) (tells_le c 0xDFFF))

pub same_tests : (a b : Bool) → (a ≡ true → b ≡ true) → (b ≡ true → a ≡ true) → a ≡ b
same_tests true b to back = sym (to refl)
same_tests false true to back = back refl
same_tests false false to back = refl

character_in : (files : List File) (tree : model.SetTree) (set : List Range) → HasMembers files tree set →
    ((c : ℕ) × Has set c × ¬ IsSurrogate c) → holds_character files tree ≡ true
unfolding holds_character
character_in files tree set members w =
    any_below_takes (λ c. is_no_surrogate c && in_set files tree c) 0x110000 w.0 (let bound =
    members_are_code_points 0 set members.rising w.0 w.1 in omega arith)
    ((tells_and (is_no_surrogate w.0) (in_set files tree w.0) (¬ IsSurrogate w.0) (model.InSet (HasProperty files) tree w.0) (no_surrogate w.0)
    (tells_in_set files tree w.0)).1
    (w.2, (members.members w.0).0 w.1))

pub character_of : (files : List File) (tree : model.SetTree) (set : List Range) → HasMembers files tree set →
    holds_character files tree ≡ true → (c : ℕ) × Has set c × ¬ IsSurrogate c
unfolding holds_character
character_of files tree set members e =
    let w = any_below_gives (λ c. is_no_surrogate c && in_set files tree c) 0x110000 e in
    let both = (tells_and (is_no_surrogate w.0) (in_set files tree w.0) (¬ IsSurrogate w.0) (model.InSet (HasProperty files) tree w.0) (no_surrogate w.0)
    (tells_in_set files tree w.0)).0 w.2 in
    (w.0, (members.members w.0).1 both.1, both.0)

pub in_set_takes : (files : List File) (tree : model.SetTree) (c : ℕ) → model.InSet (HasProperty files) tree c → in_set files tree c ≡ true
in_set_takes files tree c is = (tells_in_set files tree c).1 is

-- a character in the set is held
pub character_held : (files : List File) (tree : model.SetTree) (c : ℕ) → c ≤ 0x10FFFF → ¬ IsSurrogate c → in_set files tree c ≡ true →
    holds_character files tree ≡ true
unfolding holds_character
character_held files tree c low whole is =
    any_below_takes (λ d. is_no_surrogate d && in_set files tree d) 0x110000 c (omega arith)
    ((tells_and (is_no_surrogate c) (in_set files tree c) (¬ IsSurrogate c) (in_set files tree c ≡ true) (no_surrogate c) (λ e. e, λ e. e)).1 (whole, is))

-- and a set that holds one has one
pub held_character : (files : List File) (tree : model.SetTree) → holds_character files tree ≡ true →
    (c : ℕ) × IsCodePoint c × model.InSet (HasProperty files) tree c × ¬ IsSurrogate c
unfolding holds_character
held_character files tree e =
    let w = any_below_gives (λ c. is_no_surrogate c && in_set files tree c) 0x110000 e in
    let both = (tells_and (is_no_surrogate w.0) (in_set files tree w.0) (¬ IsSurrogate w.0) (model.InSet (HasProperty files) tree w.0) (no_surrogate w.0)
    (tells_in_set files tree w.0)).0 w.2 in
    (w.0, let below = w.1 in omega arith, both.1, both.0)

-- the same of classes, where the set has all or nothing of each
pub classes_emptiness : (files : List File) (division : ClassDivision) (tree : Option model.SetTree) (set : ClassBits) (holds : Bool) → IsDivision division →
    (IsTrue holds ↔ ((c : ℕ) × IsFirstOfClass division.bounds c × HasMember division.bounds set c × ¬ IsSurrogate c)) →
    IsClassValue files division.bounds tree (Some set) → IfSome tree (Respects files (stand_in division)) → not holds ≡ is_empty_value files tree
classes_emptiness files division None set holds divides tells is respects = absurd is
classes_emptiness files division (Some tree) set holds divides tells is respects =
    ap not (same_tests holds (holds_character files tree)
    (λ e. let w = tells.0 e in character_held files tree w.0 w.2.0 w.3 (in_set_takes files tree w.0 ((is w.0 w.1).0 w.2)))
    (λ e.
    let w = held_character files tree e in
    let low = w.1 in
    let first = stand-in_is_first division divides w.0 low in
    (tells_true holds).1 (tells.1 (
      stand_in division w.0,
      first,
      (is (stand_in division w.0) first).1 ((respects.same w.0 low).0 w.2),
      λ surrogate. w.3 ((divides.surrogates w.0 low).1 surrogate),
    ))))

-- the test whether a code point is in the set and no surrogate
pub in_leaf : List File → model.SetTree → ℕ → Bool
in_leaf files tree c = is_no_surrogate c && in_set files tree c

pub in_leaf_tells : (files : List File) (tree : model.SetTree) (c : ℕ) →
    (in_leaf files tree c ≡ true → model.InSet (HasProperty files) tree c × ¬ IsSurrogate c) ×
    (model.InSet (HasProperty files) tree c × ¬ IsSurrogate c → in_leaf files tree c ≡ true)
unfolding in_leaf
in_leaf_tells files tree c =
    let t = tells_and (is_no_surrogate c) (in_set files tree c) (¬ IsSurrogate c) (model.InSet (HasProperty files) tree c) (no_surrogate c)
    (tells_in_set files tree c) in
    (λ e. let b = t.0 e in (b.1, b.0), λ b. t.1 (b.1, b.0))

surrogate_or_not : (c : ℕ) (b : Bool) → is_no_surrogate c ≡ b → IsSurrogate c ⊎ ¬ IsSurrogate c
surrogate_or_not c true e = inr ((no_surrogate c).0 e)
surrogate_or_not c false e = inl (grind (arith, nat_tests))

-- a set holds no character exactly if no code point but surrogates is in it
pub holds_none : (files : List File) (tree : model.SetTree) →
    (is_empty_value files (Some tree) ≡ true) ↔ ((c : ℕ) → IsCodePoint c → model.InSet (HasProperty files) tree c → IsSurrogate c)
holds_none files tree = (
  λ e c low is.
      elim (surrogate_or_not c (is_no_surrogate c) refl) [
        | inl surrogate ↦ surrogate
        | inr whole ↦ let held = character_held files tree c low whole (in_set_takes files tree c is) in absurd cc
      ],
  λ none.
      let none_held : holds_character files tree ≡ true → ⊥ = λ e. let w = held_character files tree e in w.3 (none w.0 w.1 w.2) in
      ap not (false_from_ne_true (holds_character files tree) none_held),
)
