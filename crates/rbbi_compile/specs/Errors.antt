-- What the errors of compiling say.
use Rattle.std.specs.Prelude.{ℕ, List, codes, Option, None}
use Rattle.rbbi_lex.specs.Errors as lexer
use Rattle.rbbi_tree.specs.Refusals as parser
use Rattle.rbbi_resolve.specs.Refusals as resolver
use Rattle.rbbi_dfa.specs.Refusals as builder
use Rattle.rbbi_compile.specs.declared.error.CompileErr.{CompileErr}
use Rattle.rbbi_compile.specs.declared.error.CompileErr.TheVariants.{Tokens, Grammar, Meaning, TooManyCategories, Size, Memory}

-- the name of the fault
abbrev pub label_of : CompileErr → List ℕ
label_of (Tokens e) = lexer.label_of e
label_of (Grammar e) = parser.label_of e
label_of (Meaning e) = resolver.label_of e
label_of TooManyCategories = codes "TooManyCategories"
label_of (Size e) = builder.label_of e
label_of Memory = codes "Memory"

-- its place in the text, in characters from 0
abbrev pub place_of : CompileErr → Option ℕ
place_of (Tokens e) = lexer.place_of e
place_of (Grammar e) = parser.place_of e
place_of (Meaning e) = resolver.place_of e
place_of e = None
