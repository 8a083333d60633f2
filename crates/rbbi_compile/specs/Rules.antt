-- From the bytes of a rule file to its text and its rules, and the first fault of the text on the way.
use Rattle.std.specs.Prelude.{ℕ, Bool, List, length, IsSome}
use Rattle.std.specs.Str.{chars}
use Rattle.rbbi_model.specs.Rules.{Rule}
use Rattle.rbbi_text.specs.Bytes.{without_mark}
use Rattle.rbbi_lex.specs.declared.token.Token.{Token}
use Rattle.rbbi_lex.specs.Lexing.{AreTokens}
use Rattle.rbbi_lex.specs.Errors as lexer
use Rattle.rbbi_tree.specs.Trees.{StatementTree}
use Rattle.rbbi_tree.specs.Grammar.{IsFile}
use Rattle.rbbi_tree.specs.Brackets.{IsShallow}
use Rattle.rbbi_tree.specs.Refusals as parser
use Rattle.rbbi_props.specs.Rows.{File}
use Rattle.rbbi_resolve.specs.Outcomes.{Means}
use Rattle.rbbi_resolve.specs.Refusals as resolver
use Rattle.rbbi_compile.specs.declared.error.CompileErr.{CompileErr}
use Rattle.rbbi_compile.specs.declared.error.CompileErr.TheVariants.{Tokens, Grammar, Meaning}

-- the text of a rule file: the characters that its bytes spell, without the one mark at its start
abbrev pub text_of : List ℕ → List ℕ
text_of bytes = chars (without_mark bytes)

-- The text has these statements, and at most 64 brackets are open in them.
pub record HasStatements (x : List ℕ) (statements : List StatementTree) : Type 0 where
  pub tokens : List Token
  pub are : AreTokens x tokens
  pub is_file : IsFile tokens statements
  pub shallow : IsShallow tokens

-- The statements of the text mean these rules, with these property files; where `ignored` holds, `$dictionary` is a variable like others.
pub record MeansRules (files : List File) (ignored : Bool) (x : List ℕ) (rules : List Rule) : Type 0 where
  pub statements : List StatementTree
  pub has : HasStatements x statements
  pub mean : Means files ignored statements rules

-- the text has no rules, and this is its first fault: that of its tokens; of its grammar, where it has tokens; or else of its meaning
abbrev pub HasRuleFault : List File → Bool → List ℕ → CompileErr → Type 0
HasRuleFault files ignored x (Tokens e) = lexer.TellsFault x e × IsSome (lexer.place_of e)
HasRuleFault files ignored x (Grammar e) = (tokens : List Token) × AreTokens x tokens × parser.IsFaultOf tokens (length x) e
HasRuleFault files ignored x (Meaning e) =
    (statements : List StatementTree) × HasStatements x statements
    × resolver.IsRefusedFor files ignored statements (length x) e × IsSome (resolver.place_of e)
HasRuleFault files ignored x error = ⊥
