-- The property files stay through a rule file, and the variables through a control.
use Rattle.std.proofs.Common.{◌≡◌, ℕ, Bool, true, false, List, [], ◌∷◌, fold, take, bytes_eq, codes, encode_utf8_all, is_some, if◌then◌else◌, refl, ◌∙◌}
use Rattle.rbbi_props.specs.Rows.{File}
use Rattle.rbbi_tree.specs.Trees.{StatementTree, nothing, control, assign, rule}
use Rattle.rbbi_resolve.specs.Contexts.{Context, variable_of}
use Rattle.rbbi_resolve.specs.Files.{initial_context, context_after, ends_active}
use Rattle.rbbi_resolve.specs.inner.Files.{context_at}

control_keeps : (context : Context) (a b c d : Bool) →
    (if a then record context { chained = true }
    else (if b then record context { quoted_only = true }
    else (if c then record context { active = true }
    else (if d then record context { active = false } else context)))).files ≡ context.files
control_keeps context true b c d = refl
control_keeps context false true c d = refl
control_keeps context false false true d = refl
control_keeps context false false false true = refl
control_keeps context false false false false = refl

choice_keeps : (context other : Context) (b : Bool) → other.files ≡ context.files → (if b then context else other).files ≡ context.files
choice_keeps context other true same = refl
choice_keeps context other false same = same

pub statement_keeps : (context : Context) (statement : StatementTree) → (context_after context statement).files ≡ context.files
statement_keeps context nothing = refl
statement_keeps context (control word place) =
    let text = encode_utf8_all word in
    control_keeps context (bytes_eq text (codes "chain")) (bytes_eq text (codes "quoted_literals_only")) (bytes_eq text (codes "forward")) (ends_active text)
statement_keeps context (assign word place expr) = choice_keeps context _ (is_some (variable_of context word)) refl
statement_keeps context (rule place no_chain_in front slash rest tag) = refl

statements_keep : (context : Context) (statements : List StatementTree) → (fold context_after context statements).files ≡ context.files
statements_keep context [] = refl
statements_keep context (s ∷ statements) = statements_keep (context_after context s) statements ∙ statement_keeps context s

pub files_stay : (files : List File) (statements : List StatementTree) (number : ℕ) → (context_at files statements number).files ≡ files
unfolding context_at
files_stay files statements number = statements_keep (initial_context files) (take number statements)
