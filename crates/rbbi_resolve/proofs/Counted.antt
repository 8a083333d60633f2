-- What the counts give at the end is the first fault of number and size.
use Rattle.std.proofs.Common.{◌≡◌, ℕ, zero, suc, ◌+◌, ◌<◌, inl, inr, Bool, true, false, nat_lt, is_some, if◌then◌else◌, Option, Some, None, List}
use Rattle.std.proofs.Common.{[], ◌∷◌, filter, find, slice_get, sum_by, sym, refl, ap, ◌∙◌, arith, rules}
use Rattle.std.specs.Option.{option_or, option_map}
use Rattle.std.proofs.lemmas.Bool.{cases_lt}
use Rattle.std.proofs.lemmas.List.Sums.{sum_by-cons}
use Rattle.std.proofs.lemmas.Bool.Decides.{nat_tests}
use Rattle.rbbi_resolve.specs.declared.fault.FaultKind.TheVariants as kinds
use Rattle.rbbi_resolve.specs.declared.fault.Fault.{Fault}
use Rattle.rbbi_resolve.specs.declared.counts.Count.{Count}
use Rattle.rbbi_resolve.specs.declared.counts.Counts as declared
use Rattle.rbbi_resolve.specs.Files.{RuleMeaning}
use Rattle.rbbi_resolve.specs.Counts.{leaves_meant, size_fault, placed_fault, no_rules_at, too_many_rules_at, too_many_leaves_at, too_many_slashes_at}
use Rattle.rbbi_resolve.specs.Counts.{too_tall_at}
use Rattle.rbbi_resolve.specs.inner.Countings.{limit_place, IsPartialCount, AreCounting, one, slash_of, tall_of}
use Rattle.rbbi_resolve.specs.inner.Summaries.{IsCapped}

nothing_behind : (x : Option ℕ) → option_or x None ≡ x
nothing_behind None = refl
nothing_behind (Some p) = refl

-- at the end
pub passed_at_end : (amount : RuleMeaning → ℕ) (most : ℕ) (count : Count) (all : List RuleMeaning) → IsPartialCount amount most count [] all →
    limit_place amount most 0 all ≡ count.passed
passed_at_end amount most count all is = sym is.place ∙ nothing_behind count.passed

pub limit_place_one : (most sum k : ℕ) (rules : List RuleMeaning) → sum + k ≡ most → limit_place one most sum rules ≡ option_map (λ rule. rule.place)
    (slice_get rules k)
limit_place_one most sum k [] e = refl
limit_place_one most sum zero (r ∷ rules) e = let t : nat_lt most (sum + 1) ≡ true = grind (arith, nat_tests) in rw t refl
limit_place_one most sum (suc k) (r ∷ rules) e = let t : nat_lt most (sum + 1) ≡ false =
    grind (arith, nat_tests) in rw t (limit_place_one most (sum + 1) k rules (omega arith))

pub limit_place_leaves : (sum : ℕ) (rules : List RuleMeaning) → limit_place leaves_meant 8192 sum rules ≡ too_many_leaves_at sum rules
limit_place_leaves sum [] = refl
limit_place_leaves sum (r ∷ rules) =
    elim (nat_lt 8192 (sum + leaves_meant r)) as
    (λ b. (if b then Some r.place else limit_place leaves_meant 8192 (sum + leaves_meant r) rules) ≡ (if b then Some r.place else too_many_leaves_at
    (sum + leaves_meant r) rules))
    [ true ↦ refl | false ↦ limit_place_leaves (sum + leaves_meant r) rules ]

abbrev PassesAsSlashes : ℕ → List RuleMeaning → Type 0
PassesAsSlashes most rules =
    (sum k : ℕ) → sum + k ≡ most → limit_place slash_of most sum rules ≡ option_map (λ rule. rule.place) (slice_get (filter
    (λ rule. is_some rule.rest) rules) k)

slash_step : (most sum k : ℕ) (r : RuleMeaning) (rules : List RuleMeaning) (b : Bool) → is_some r.rest ≡ b → PassesAsSlashes most rules → sum + k ≡ most →
    limit_place slash_of most sum (r ∷ rules) ≡ option_map (λ rule. rule.place) (slice_get (filter (λ rule. is_some rule.rest) (r ∷ rules)) k)
slash_step most sum k r rules false is rest e = let t : nat_lt most (sum + 0) ≡ false = grind (arith, nat_tests) in rw (is, t) (rest (sum + 0) k (omega arith))
slash_step most sum zero r rules true is rest e = let t : nat_lt most (sum + 1) ≡ true = grind (arith, nat_tests) in rw (is, t) refl
slash_step most sum (suc k) r rules true is rest e = let t : nat_lt most (sum + 1) ≡ false =
    grind (arith, nat_tests) in rw (is, t) (rest (sum + 1) k (omega arith))

pub limit_place_slashes : (most : ℕ) (rules : List RuleMeaning) → PassesAsSlashes most rules
limit_place_slashes most [] = λ sum k e. refl
limit_place_slashes most (r ∷ rules) = λ sum k e. slash_step most sum k r rules (is_some r.rest) refl (limit_place_slashes most rules) e

limit_place_tall : (rules : List RuleMeaning) → limit_place tall_of 0 0 rules ≡ too_tall_at rules
limit_place_tall [] = refl
limit_place_tall (r ∷ rules) =
    elim (nat_lt 256 r.height) as
    (λ b. (if nat_lt 0 (0 + (if b then 1 else 0)) then Some r.place else limit_place tall_of 0 (0 + (if b then 1 else 0)) rules) ≡ option_map
    (λ rule. rule.place) (if b then Some r else find (λ rule. nat_lt 256 rule.height) rules))
    [ true ↦ refl | false ↦ limit_place_tall rules ]

-- the first fault of number and size, by the place of each
abbrev first_of : (none a b c d : Option ℕ) → Option Fault
first_of none a b c d =
    option_or (placed_fault kinds.NoRules none)
    (option_or (placed_fault kinds.TooManyRules a)
    (option_or (placed_fault kinds.TooManyLeaves b) (option_or (placed_fault kinds.TooManySlashes c) (placed_fault kinds.TooTall d))))

-- the first fault of number and size, by the places at which the counts passed
pub counted_is : (counts : declared.Counts) (end : ℕ) (all : List RuleMeaning) (none a b c d : Option ℕ) → AreCounting counts [] all →
    no_rules_at end all ≡ none → counts.rules.passed ≡ a → counts.leaves.passed ≡ b → counts.slashes.passed ≡ c → counts.tall.passed ≡ d →
    size_fault end all ≡ first_of none a b c d
counted_is counts end all none a b c d is en ea eb ec ed =
    let fa : too_many_rules_at all ≡ a = sym (limit_place_one 4096 0 4096 all refl) ∙ passed_at_end one 4096 counts.rules all is.rule_count ∙ ea in
    let fb : too_many_leaves_at 0 all ≡ b = sym (limit_place_leaves 0 all) ∙ passed_at_end leaves_meant 8192 counts.leaves all is.leaf_count ∙ eb in
    let fc : too_many_slashes_at all ≡ c = sym (limit_place_slashes 32 all 0 32 refl) ∙ passed_at_end slash_of 32 counts.slashes all is.slash_count ∙ ec in
    let fd : too_tall_at all ≡ d = sym (limit_place_tall all) ∙ passed_at_end tall_of 0 counts.tall all is.tall_count ∙ ed in
    λ i. first_of (en i) (fa i) (fb i) (fc i) (fd i)

-- where a rule passed the limit there is one
pub some_passed : (counts : declared.Counts) (end place : ℕ) (all : List RuleMeaning) → AreCounting counts [] all → counts.rules.passed ≡ Some place →
    no_rules_at end all ≡ None
some_passed counts end place [] is e = let f : None ≡ Some place = passed_at_end one 4096 counts.rules [] is.rule_count ∙ e in absurd cc
some_passed counts end place (r ∷ all) is e = refl

-- none where none was counted
pub none_counted : (counts : declared.Counts) (end : ℕ) (all : List RuleMeaning) → AreCounting counts [] all → counts.rules.passed ≡ None →
    counts.rules.sum ≡ 0 → no_rules_at end all ≡ Some end
none_counted counts end [] is e z = refl
none_counted counts end (r ∷ all) is e z = let more : sum_by one (r ∷ all) ≡ 1 + sum_by one all =
    sum_by-cons one r all in absurd (omega (arith, is.rule_count.sum_of e))

-- one where one was counted
pub one_counted : (counts : declared.Counts) (end : ℕ) (all : List RuleMeaning) → AreCounting counts [] all → counts.rules.passed ≡ None →
    ¬ (counts.rules.sum ≡ 0) → no_rules_at end all ≡ None
one_counted counts end [] is e n = absurd (n (omega (arith, is.rule_count.sum_of e)))
one_counted counts end (r ∷ all) is e n = refl

-- an exact number is its own capped one
pub capped_self : (cap n : ℕ) → n < cap → IsCapped cap n n
capped_self cap n low = record { within = omega arith; below = λ _. refl; past = λ e. absurd (omega arith) }

-- one counts each rule as it is
pub tall_capped : (height shown : ℕ) → IsCapped 257 height shown → nat_lt 256 shown ≡ nat_lt 256 height
tall_capped height shown is =
    elim (cases_lt shown 257) [
      | inl lt ↦ ap (λ n. nat_lt 256 n) (sym (is.below lt))
      | inr ge ↦
          let cap = is.past (omega (arith, is.within)) in
          let a : nat_lt 256 shown ≡ true = grind (arith, nat_tests) in
          let b : nat_lt 256 height ≡ true = grind (arith, nat_tests) in
          a ∙ sym b
    ]
