-- Why a rule file is refused.
use Rattle.std.specs.Prelude.{◌≡◌, ℕ, ◌⊎◌, Bool, false, Option, Some, None, List, [], codes, Contains}
use Rattle.std.specs.List.{AllByRecursion}
use Rattle.rbbi_resolve.specs.declared.fault.Fault.{Fault}
use Rattle.rbbi_resolve.specs.declared.fault.FaultKind.{FaultKind}
use Rattle.rbbi_resolve.specs.declared.fault.FaultKind.TheVariants as kinds
use Rattle.rbbi_resolve.specs.declared.error.ResolveErr.{ResolveErr}
use Rattle.rbbi_resolve.specs.declared.error.ResolveErr.TheVariants.{UnknownControl, UnsupportedControl, Dictionary, Redefined, Undefined, NotASet}
use Rattle.rbbi_resolve.specs.declared.error.ResolveErr.TheVariants.{UnknownProperty, BadRange, EmptySet, BareLiteral, EmptyFront, EmptyRest, NoRules}
use Rattle.rbbi_resolve.specs.declared.error.ResolveErr.TheVariants.{TooManyRules, TooManyLeaves, TooManySlashes, TooTall, Memory}
use Rattle.rbbi_resolve.specs.Faults.{comes_before}
use Rattle.rbbi_props.specs.Rows.{File}
use Rattle.rbbi_tree.specs.Trees.{StatementTree}
use Rattle.rbbi_resolve.specs.Files.{faults_of, active_rules}
use Rattle.rbbi_resolve.specs.Counts.{size_fault}

-- the variant's name
abbrev pub label_of : ResolveErr → List ℕ
label_of (UnknownControl place) = codes "UnknownControl"
label_of (UnsupportedControl place) = codes "UnsupportedControl"
label_of (Dictionary place) = codes "Dictionary"
label_of (Redefined place) = codes "Redefined"
label_of (Undefined place) = codes "Undefined"
label_of (NotASet place) = codes "NotASet"
label_of (UnknownProperty place) = codes "UnknownProperty"
label_of (BadRange place) = codes "BadRange"
label_of (EmptySet place) = codes "EmptySet"
label_of (BareLiteral place) = codes "BareLiteral"
label_of (EmptyFront place) = codes "EmptyFront"
label_of (EmptyRest place) = codes "EmptyRest"
label_of (NoRules place) = codes "NoRules"
label_of (TooManyRules place) = codes "TooManyRules"
label_of (TooManyLeaves place) = codes "TooManyLeaves"
label_of (TooManySlashes place) = codes "TooManySlashes"
label_of (TooTall place) = codes "TooTall"
label_of Memory = codes "Memory"

-- the fault of a place and a kind
abbrev pub at : ℕ → FaultKind → Option Fault
at place kind = Some (record { place = place; kind = kind })

-- the fault that a refusal tells
abbrev pub fault_of : ResolveErr → Option Fault
fault_of (UnknownControl place) = at place kinds.UnknownControl
fault_of (UnsupportedControl place) = at place kinds.UnsupportedControl
fault_of (Dictionary place) = at place kinds.Dictionary
fault_of (Redefined place) = at place kinds.Redefined
fault_of (Undefined place) = at place kinds.Undefined
fault_of (NotASet place) = at place kinds.NotASet
fault_of (UnknownProperty place) = at place kinds.UnknownProperty
fault_of (BadRange place) = at place kinds.BadRange
fault_of (EmptySet place) = at place kinds.EmptySet
fault_of (BareLiteral place) = at place kinds.BareLiteral
fault_of (EmptyFront place) = at place kinds.EmptyFront
fault_of (EmptyRest place) = at place kinds.EmptyRest
fault_of (NoRules place) = at place kinds.NoRules
fault_of (TooManyRules place) = at place kinds.TooManyRules
fault_of (TooManyLeaves place) = at place kinds.TooManyLeaves
fault_of (TooManySlashes place) = at place kinds.TooManySlashes
fault_of (TooTall place) = at place kinds.TooTall
fault_of Memory = None

-- the place that a refusal carries
abbrev pub place_of_fault : Option Fault → Option ℕ
place_of_fault None = None
place_of_fault (Some fault) = Some fault.place

abbrev pub place_of : ResolveErr → Option ℕ
place_of e = place_of_fault (fault_of e)

-- the fault is the earliest of these: no other comes before it
pub record IsEarliest (faults : List Fault) (fault : Fault) : Type 0 where
  pub one_of : Contains faults fault
  pub least : AllByRecursion (λ other. comes_before other fault ≡ false) faults

-- Why a file is refused: the fault is the earliest of its faults; or it has none, and this is the first fault of the
-- number and size of its active rules.
abbrev pub IsReportedFault : List Fault → Option Fault → Fault → Type 0
IsReportedFault faults count fault = IsEarliest faults fault ⊎ ((faults ≡ []) × (count ≡ Some fault))

-- why it is refused: for such a fault, or since memory ran out
abbrev pub IsReason : List Fault → Option Fault → Option Fault → Type 0
IsReason faults count None = Unit {0}
IsReason faults count (Some fault) = IsReportedFault faults count fault

-- A file is refused for what the refusal tells. `end` is the length of its text.
abbrev pub IsRefusedFor : List File → Bool → List StatementTree → ℕ → ResolveErr → Type 0
IsRefusedFor files ignored statements end refusal =
    IsReason (faults_of files ignored statements) (size_fault end (active_rules files statements)) (fault_of refusal)
