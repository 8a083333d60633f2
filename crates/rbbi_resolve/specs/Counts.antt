-- The faults of the number and size of the active rules.
use Rattle.std.specs.Prelude.{ℕ, ◌+◌, nat_lt, Option, Some, None, option_map, is_some, List, [], ◌∷◌, filter, find, slice_get, if◌then◌else◌}
use Rattle.std.specs.Option.{option_or, option_map_or}
use Rattle.rbbi_resolve.specs.declared.fault.Fault.{Fault}
use Rattle.rbbi_resolve.specs.declared.fault.FaultKind.{FaultKind}
use Rattle.rbbi_resolve.specs.declared.fault.FaultKind.TheVariants as kinds
use Rattle.rbbi_resolve.specs.Meanings.{leaves_in}
use Rattle.rbbi_resolve.specs.Files.{RuleMeaning}

-- the fault of this kind, if there is a place
abbrev pub placed_fault : FaultKind → Option ℕ → Option Fault
placed_fault kind place = option_map (λ p. record { place = p; kind = kind }) place

-- `NoRules`: there is no rule
abbrev pub no_rules_at : ℕ → List RuleMeaning → Option ℕ
no_rules_at end [] = Some end
no_rules_at end (first ∷ more) = None

-- `TooManyRules`: the place of the 4,097th rule
abbrev pub too_many_rules_at : List RuleMeaning → Option ℕ
too_many_rules_at rules = option_map (λ rule. rule.place) (slice_get rules 4096)

-- how many leaves a rule has
abbrev pub leaves_meant : RuleMeaning → ℕ
leaves_meant rule = leaves_in rule.front + option_map_or leaves_in rule.rest 0

-- `TooManyLeaves`: the place of the first rule with which the sum exceeds 8,192, after rules with `sum` leaves
abbrev pub too_many_leaves_at : ℕ → List RuleMeaning → Option ℕ
too_many_leaves_at sum [] = None
too_many_leaves_at sum (rule ∷ rules) =
    if nat_lt 8192 (sum + leaves_meant rule) then Some rule.place else too_many_leaves_at (sum + leaves_meant rule) rules

-- `TooManySlashes`: the place of the 33rd rule with a rest
abbrev pub too_many_slashes_at : List RuleMeaning → Option ℕ
too_many_slashes_at rules = option_map (λ rule. rule.place) (slice_get (filter (λ rule. is_some rule.rest) rules) 32)

-- `TooTall`: the place of the first rule with a height over 256
abbrev pub too_tall_at : List RuleMeaning → Option ℕ
too_tall_at rules = option_map (λ rule. rule.place) (find (λ rule. nat_lt 256 rule.height) rules)

-- the first of these faults, by kind
abbrev pub size_fault : ℕ → List RuleMeaning → Option Fault
size_fault end rules =
    option_or (placed_fault kinds.NoRules (no_rules_at end rules))
    (option_or (placed_fault kinds.TooManyRules (too_many_rules_at rules))
    (option_or (placed_fault kinds.TooManyLeaves (too_many_leaves_at 0 rules))
    (option_or (placed_fault kinds.TooManySlashes (too_many_slashes_at rules)) (placed_fault kinds.TooTall (too_tall_at rules)))))
