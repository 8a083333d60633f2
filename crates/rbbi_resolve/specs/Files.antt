-- The faults and the active rules of a rule file.
use Rattle.std.specs.Prelude.{ℕ, Bool, true, false, not, ◌&&◌, ◌||◌, max, Option, Some, None, option_map, is_some, List, [], ◌∷◌, ◌++◌}
use Rattle.std.specs.Prelude.{codes, bytes_eq, encode_utf8_all, if◌then◌else◌}
use Rattle.std.specs.Option.{option_map_or}
use Rattle.rbbi_props.specs.Rows.{File}
use Rattle.rbbi_tree.specs.Trees.{ExprTree, StatementTree, nothing, control, assign, rule}
use Rattle.rbbi_resolve.specs.declared.fault.Fault.{Fault}
use Rattle.rbbi_resolve.specs.declared.fault.FaultKind.TheVariants as kinds
use Rattle.rbbi_resolve.specs.Meanings.{Meaning, spells_empty}
use Rattle.rbbi_resolve.specs.Contexts.{Context, variable_of}
use Rattle.rbbi_resolve.specs.Expressions.{meaning_of_expr, height_of_expr, variable_for}
use Rattle.rbbi_resolve.specs.Parts.{parts_of_expr}
use Rattle.rbbi_resolve.specs.Faults.{faults_where, faults_of_parts}

-- before the first statement rules are active, and nothing else is
abbrev pub initial_context : List File → Context
initial_context files = record { files = files; variables = []; chained = false; quoted_only = false; active = true }

-- whether a control, by its bytes, makes the rules after it inactive
abbrev pub ends_active : List ℕ → Bool
ends_active name = bytes_eq name (codes "reverse") || (bytes_eq name (codes "safe_forward") || bytes_eq name (codes "safe_reverse"))

-- whether a control is known to be unsupported
abbrev pub is_unsupported : List ℕ → Bool
is_unsupported name = bytes_eq name (codes "LBCMNoChain") || bytes_eq name (codes "unquoted_literals")

-- whether a control is supported
abbrev pub is_supported : List ℕ → Bool
is_supported name =
    bytes_eq name (codes "chain") ||
    (bytes_eq name (codes "quoted_literals_only") || (bytes_eq name (codes "forward") || (ends_active name || bytes_eq name (codes "lookAheadHardBreak"))))

-- what a control, by its bytes, switches on or off
abbrev pub after_control : Context → List ℕ → Context
after_control context name =
    if bytes_eq name (codes "chain") then record context { chained = true }
    else (if bytes_eq name (codes "quoted_literals_only") then record context { quoted_only = true }
    else (if bytes_eq name (codes "forward") then record context { active = true }
    else (if ends_active name then record context { active = false } else context)))

-- The variables with a further one, by the bytes of its name. The first assignment of a name counts.
abbrev pub with_variable : Context → List ℕ → ExprTree → Context
with_variable context name expr =
    if is_some (variable_of context name)
    then context
    else record context { variables = record { name = encode_utf8_all name; variable = variable_for context expr } ∷ context.variables }

-- what stands after a statement
abbrev pub context_after : Context → StatementTree → Context
context_after context nothing = context
context_after context (control name place) = after_control context (encode_utf8_all name)
context_after context (assign name place expr) = with_variable context name expr
context_after context (rule place no_chain_in front slash rest tag) = context

-- The faults at the slash of a rule: `EmptyFront`, if the front spells the empty word; and `EmptyRest`, if the rest does.
abbrev pub faults_at_slash : Context → ExprTree → Option ℕ → Option ExprTree → List Fault
faults_at_slash context front None rest = []
faults_at_slash context front (Some slash) None = []
faults_at_slash context front (Some slash) (Some rest) =
    faults_where (spells_empty (meaning_of_expr context front)) slash kinds.EmptyFront
    ++ faults_where (spells_empty (meaning_of_expr context rest)) slash kinds.EmptyRest

-- the faults of the parts of an expression, if there is one
abbrev pub faults_of_rest : Context → Option ExprTree → List Fault
faults_of_rest context None = []
faults_of_rest context (Some rest) = faults_of_parts context (parts_of_expr rest)

-- The faults of a statement. `UnknownControl`: the control is neither supported nor known to be unsupported. `UnsupportedControl`: it is known
-- to be unsupported. `Dictionary`: an assignment to that name, unless it is ignored. `Redefined`: an earlier statement assigns the name.
abbrev pub faults_of_statement : Bool → Context → StatementTree → List Fault
faults_of_statement ignored context nothing = []
faults_of_statement ignored context (control name place) =
    faults_where (not (is_supported (encode_utf8_all name)) && not (is_unsupported (encode_utf8_all name))) place kinds.UnknownControl
    ++ faults_where (is_unsupported (encode_utf8_all name)) place kinds.UnsupportedControl
faults_of_statement ignored context (assign name place expr) =
    faults_where (bytes_eq (encode_utf8_all name) (codes "dictionary") && not ignored) place kinds.Dictionary
    ++ (faults_where (is_some (variable_of context name)) place kinds.Redefined
    ++ faults_of_parts context (parts_of_expr expr))
faults_of_statement ignored context (rule place no_chain_in front slash rest tag) =
    faults_of_parts context (parts_of_expr front)
    ++ (faults_of_rest context rest ++ faults_at_slash context front slash rest)

-- the faults of statements, in what stands before them
unfoldable pub faults_from : Bool → Context → List StatementTree → List Fault
faults_from ignored context [] = []
faults_from ignored context (statement ∷ statements) =
    faults_of_statement ignored context statement ++ faults_from ignored (context_after context statement) statements

-- the faults of the statements of a file
abbrev pub faults_of : List File → Bool → List StatementTree → List Fault
faults_of files ignored statements = faults_from ignored (initial_context files) statements

-- what an active rule means, and its height
pub record RuleMeaning : Type 0 where
  pub front : Meaning
  pub rest : Option Meaning
  pub chained_into : Bool
  pub tag : Option ℕ
  pub place : ℕ
  pub height : ℕ

-- the rule that a statement is, if rules are active
abbrev pub rule_in : Context → StatementTree → List RuleMeaning
rule_in context nothing = []
rule_in context (control name place) = []
rule_in context (assign name place expr) = []
rule_in context (rule place no_chain_in front slash rest tag) =
    if context.active
    then record {
      front = meaning_of_expr context front;
      rest = option_map (meaning_of_expr context) rest;
      chained_into = context.chained && not no_chain_in;
      tag = tag;
      place = place;
      height = max (height_of_expr context front) (option_map_or (height_of_expr context) rest 0);
    } ∷ []
    else []

-- the active rules of statements, in what stands before them
unfoldable pub rules_from : Context → List StatementTree → List RuleMeaning
rules_from context [] = []
rules_from context (statement ∷ statements) = rule_in context statement ++ rules_from (context_after context statement) statements

-- the active rules of a file
abbrev pub active_rules : List File → List StatementTree → List RuleMeaning
active_rules files statements = rules_from (initial_context files) statements
