-- Characters that end with an abbreviation of a list, found by their suffixes.
use Rattle.std.proofs.Common.{◌≡◌, ℕ, zero, suc, ◌+◌, ◌-◌, ◌<◌, ◌≤◌, Bool, true, false, cond, List, [], ◌∷◌, length, take, drop, get_or}
use Rattle.std.proofs.Common.{refl, sym, ap, ◌∙◌, subst, ⊎_elim, arith, length-drop}
use Rattle.std.specs.Prelude.{◌&&◌, ◌||◌, nat_eq, min, max, map, not}
use Rattle.std.specs.List.{AllByRecursion, list_any}
use Rattle.std.specs.List.Sorted.{IsPermutation}
use Rattle.std.specs.Bool.{MatchBool}
use Rattle.std.proofs.lemmas.List.Sorted.{list_any-IsPermutation}
use Rattle.std.specs.Cmp.Lexicographic.{pointwise, nat_list_eq_equiv}
use Rattle.std.proofs.lemmas.Bool.{cases_Bool, cases_lt, or_cases, or_parts, or_from, or_left, or_right}
use Rattle.std.proofs.lemmas.List.Folds.{list_any_more}
use Rattle.std.proofs.lemmas.Slice.Eq.{bytes_eq-Decides}
use Rattle.rbbi_filter.specs.Abbreviations.{ends_apart, ends_with_member}
use Rattle.rbbi_filter.specs.inner.Members.{AreMembers}

-- no member of the list that is shorter than this ends the characters
abbrev pub NoneShorter : List ℕ → List (List ℕ) → ℕ → Type 0
NoneShorter w list n = AllByRecursion (λ member. length member < n → ends_with_member w member ≡ false) list

pub none_at_first : (w : List ℕ) (list : List (List ℕ)) → NoneShorter w list 0
none_at_first w [] = tt
none_at_first w (member ∷ list) = (λ below. absurd (omega arith), none_at_first w list)

and_comm : (a b : Bool) → (a && b) ≡ (b && a)
and_comm true true = refl
and_comm true false = refl
and_comm false true = refl
and_comm false false = refl

and_false : (a b c : Bool) → (a && (b || c)) ≡ false → ((a && b) ≡ false) × ((a && c) ≡ false)
and_false true b c h = or_parts b c h
and_false false b c h = (refl, refl)

-- whether they end with the member is told by the suffix that is as long
at_len : (w member : List ℕ) (start : ℕ) → start + length member ≡ length w →
    ends_with_member w member ≡ (ends_apart (take start w) && pointwise nat_eq (drop start w) member)
at_len w member start long =
    ap (λ n. pointwise nat_eq member (drop n w) && ends_apart (take n w)) (omega arith)
    ∙ ap (λ b. b && ends_apart (take start w)) (nat_list_eq_equiv.symm member (drop start w))
    ∙ and_comm (pointwise nat_eq (drop start w) member) (ends_apart (take start w))

pub none_longer : (w : List ℕ) (n start : ℕ) (list : List (List ℕ)) → start + n ≡ length w →
    (ends_apart (take start w) && list_any (pointwise nat_eq (drop start w)) list) ≡ false → NoneShorter w list n → NoneShorter w list (n + 1)
none_longer w n start [] long none shorter = tt
none_longer w n start (member ∷ list) long none shorter =
    let parts = and_false (ends_apart (take start w)) (pointwise nat_eq (drop start w) member) (list_any (pointwise nat_eq (drop start w)) list) none in (
      λ below. ⊎_elim
          (λ less. shorter.0 less)
          (λ above. at_len w member start (omega (arith, long, below, above)) ∙ parts.0)
          (cases_lt (length member) n),
      none_longer w n start list long parts.1 shorter.1,
    )

-- a longer member doesn't end them
too_long : (w member : List ℕ) → length w < length member → ends_with_member w member ≡ false
too_long w member long =
    ⊎_elim
    (λ is. let same = (bytes_eq-Decides member (drop (length w - length member) w)).0 is in
    absurd (omega (arith, ap length same, length-drop (length w - length member) w)))
    (λ is. ap (λ b. b && ends_apart (take (length w - length member) w)) is)
    (cases_Bool (pointwise nat_eq member (drop (length w - length member) w)))

pub none_at_last : (w : List ℕ) (n longest : ℕ) (list : List (List ℕ)) → min longest (length w) < n →
    AllByRecursion (λ member. length member ≤ longest) list → NoneShorter w list n → list_any (ends_with_member w) list ≡ false
none_at_last w n longest [] far most shorter = refl
none_at_last w n longest (member ∷ list) far most shorter =
    or_from (ends_with_member w member) (list_any (ends_with_member w) list)
    (⊎_elim
    (λ below. shorter.0 below)
    (λ above. too_long w member (omega (arith, far, most.0, above)))
    (cases_lt (length member) n))
    (none_at_last w n longest list far most.1 shorter.1)

pub one_ends : (w : List ℕ) (start : ℕ) (list : List (List ℕ)) → start ≤ length w → ends_apart (take start w) ≡ true →
    list_any (pointwise nat_eq (drop start w)) list ≡ true → list_any (ends_with_member w) list ≡ true
one_ends w start [] within apart is = is
one_ends w start (member ∷ list) within apart is =
    ⊎_elim
    (λ here. let same = (bytes_eq-Decides (drop start w) member).0 here in
    or_left (ends_with_member w member) (list_any (ends_with_member w) list)
    (at_len w member start (omega (arith, ap length same, length-drop start w)) ∙ ap (λ b. b && pointwise nat_eq (drop start w) member) apart ∙ here))
    (λ later. or_right (ends_with_member w member) (list_any (ends_with_member w) list) (one_ends w start list within apart later))
    (or_cases (pointwise nat_eq (drop start w) member) (list_any (pointwise nat_eq (drop start w)) list) is)

pub no_members : AreMembers [] [] 0
no_members = record { same = λ w. refl; most = tt }

or_first : (a b : Bool) → cond a true b ≡ (b || a)
or_first true true = refl
or_first true false = refl
or_first false true = refl
or_first false false = refl

longer : (a b : ℕ) (list : List (List ℕ)) → a ≤ b → AllByRecursion (λ member. length member ≤ a) list → AllByRecursion (λ member. length member ≤ b) list
longer a b [] up most = tt
longer a b (member ∷ list) up most = (omega (arith, most.0), longer a b list up most.1)

all_next : (n i : ℕ) (list : List (List ℕ)) → i < length list → length (get_or list i []) ≤ n →
    AllByRecursion (λ member. length member ≤ n) (take i list) → AllByRecursion (λ member. length member ≤ n) (take (suc i) list)
all_next n i [] within here most = absurd (omega arith)
all_next n zero (member ∷ list) within here most = (here, tt)
all_next n (suc i) (member ∷ list) within here most = (most.0, all_next n i list (omega arith) here most.1)

-- one more member
pub one_more : (list : List (List ℕ)) (i longest : ℕ) (old new : List (List ℕ)) (key : List ℕ) → i < length list → get_or list i [] ≡ key →
    ((w : List ℕ) → list_any (pointwise nat_eq w) new ≡ cond (pointwise nat_eq key w) true (list_any (pointwise nat_eq w) old)) →
    AreMembers (take i list) old longest → AreMembers (take (i + 1) list) new (max longest (length key))
one_more list i longest old new key within at put are = record {
  same = λ w. put w
      ∙ or_first (pointwise nat_eq key w) (list_any (pointwise nat_eq w) old)
      ∙ ap (λ b. b || pointwise nat_eq key w) (are.same w)
      ∙ ap (λ b. list_any (pointwise nat_eq w) (take i list) || b) (nat_list_eq_equiv.symm key w ∙ ap (pointwise nat_eq w) (sym at))
      ∙ sym (list_any_more (pointwise nat_eq w) list i [] within);
  most = let m : ℕ = max longest (length key) in
      subst (λ k. AllByRecursion (λ member. length member ≤ m) (take k list)) (let e : suc i ≡ i + 1 = omega arith in e)
      (all_next m i list within (omega (arith, ap length at)) (longer longest m (take i list) (omega arith) are.most));
}

-- a test of lists passes among those of values
any_of : {A : Type 0} (items : A → List ℕ) (test : List ℕ → Bool) (values : List A) → list_any test (map items values) ≡ list_any (λ v. test (items v)) values
any_of items test [] = refl
any_of items test (v ∷ values) = ap (λ b. test (items v) || b) (any_of items test values)

or_cond : (a b : Bool) → (a || b) ≡ cond a true b
or_cond true b = refl
or_cond false b = refl

has_already : {A : Type 0} (items : A → List ℕ) (old : List A) (key w : List ℕ) → list_any (λ v. pointwise nat_eq key (items v)) old ≡ true → (is : Bool) →
    pointwise nat_eq key w ≡ is →
    list_any (λ v. pointwise nat_eq w (items v)) old ≡ cond is true (list_any (λ v. pointwise nat_eq w (items v)) old)
has_already items old key w has false is = refl
has_already items old key w has true is =
    subst (λ l. list_any (λ v. pointwise nat_eq l (items v)) old ≡ true) ((bytes_eq-Decides key w).0 is) has

-- what the tests of lists say after one was put into a set
pub put_in : {A : Type 0} (items : A → List ℕ) (old new : List A) (key : A) (added : Bool) →
    added ≡ not (list_any (λ v. pointwise nat_eq (items key) (items v)) old) → MatchBool added (IsPermutation (key ∷ old) new) (new ≡ old) →
    (w : List ℕ) → list_any (pointwise nat_eq w) (map items new)
    ≡ cond (pointwise nat_eq (items key) w) true (list_any (pointwise nat_eq w) (map items old))
put_in items old new key true adds put w =
    any_of items (pointwise nat_eq w) new
    ∙ sym (list_any-IsPermutation (λ v. pointwise nat_eq w (items v)) (key ∷ old) new put)
    ∙ ap (λ b. b || list_any (λ v. pointwise nat_eq w (items v)) old) (nat_list_eq_equiv.symm w (items key))
    ∙ or_cond (pointwise nat_eq (items key) w) (list_any (λ v. pointwise nat_eq w (items v)) old)
    ∙ ap (cond (pointwise nat_eq (items key) w) true) (sym (any_of items (pointwise nat_eq w) old))
put_in items old new key false adds put w =
    any_of items (pointwise nat_eq w) new
    ∙ ap (list_any (λ v. pointwise nat_eq w (items v))) put
    ∙ has_already items old (items key) w (not_false (list_any (λ v. pointwise nat_eq (items key) (items v)) old) adds) (pointwise nat_eq (items key) w) refl
    ∙ ap (cond (pointwise nat_eq (items key) w) true) (sym (any_of items (pointwise nat_eq w) old))
  where
    not_false : (b : Bool) → false ≡ not b → b ≡ true
    not_false true e = refl
    not_false false e = cc

-- whether some value is the list
pub is_in : {A : Type 0} (items : A → List ℕ) (values : List A) (list : List (List ℕ)) (longest : ℕ) (w : List ℕ) → AreMembers list (map items values) longest →
    list_any (λ v. pointwise nat_eq w (items v)) values ≡ list_any (pointwise nat_eq w) list
is_in items values list longest w are = sym (any_of items (pointwise nat_eq w) values) ∙ are.same w
