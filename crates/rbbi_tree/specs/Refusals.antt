-- Why a list of tokens is refused.
use Rattle.std.specs.Prelude.{ℕ, ◌≡◌, ◌<◌, ◌⊎◌, List, ◌++◌, length, take, slice_get, ◌+◌, Option, Some, None, IsSome, codes}
use Rattle.rbbi_lex.specs.declared.token.Token.{Token}
use Rattle.rbbi_tree.specs.Trees.{StatementTree}
use Rattle.rbbi_tree.specs.Grammar.{IsFile, IsNoFile}
use Rattle.rbbi_tree.specs.Brackets.{IsDeepAt}
use Rattle.rbbi_tree.specs.declared.error.TreeErr.{TreeErr}
use Rattle.rbbi_tree.specs.declared.error.TreeErr.TheVariants.{Syntax, TooDeep, Memory}

-- some file begins with the tokens
abbrev pub BeginsFile : List Token → Type 0
BeginsFile tokens = (more : List Token) × (statements : List StatementTree) × IsFile (tokens ++ more) statements

-- some file begins with the tokens before this number, and none with that one too; or some file begins
-- with all of them, and they are no file
abbrev pub IsSyntaxAt : List Token → ℕ → Type 0
IsSyntaxAt tokens k =
    ((k < length tokens) × BeginsFile (take k tokens) × ¬ BeginsFile (take (k + 1) tokens))
    ⊎ ((k ≡ length tokens) × BeginsFile tokens × IsNoFile tokens)

-- the place of the token with this number, or the end where there is none
abbrev pub place_or_end : Option Token → ℕ → ℕ
place_or_end (Some t) end = t.place
place_or_end None end = end

-- what a refusal says of the tokens. For a fault of syntax: its place is that of the first token after which no
-- file can follow, or the end, and no bracket before it is the first that makes 65 open ones. For brackets that
-- are too deep: its place is that of the first that makes 65 open ones, and some file begins with the tokens up to it
abbrev pub IsRefusalOf : List Token → ℕ → TreeErr → Type 0
IsRefusalOf tokens end (Syntax place) =
    (k : ℕ) × IsSyntaxAt tokens k × (place ≡ place_or_end (slice_get tokens k) end) × ((j : ℕ) → j < k → ¬ IsDeepAt tokens j)
IsRefusalOf tokens end (TooDeep place) =
    (k : ℕ) × IsDeepAt tokens k × (place ≡ place_or_end (slice_get tokens k) end) × BeginsFile (take (k + 1) tokens)
IsRefusalOf tokens end Memory = Unit {0}

-- the place that a refusal carries
abbrev pub place_of : TreeErr → Option ℕ
place_of (Syntax place) = Some place
place_of (TooDeep place) = Some place
place_of Memory = None

-- the refusal tells the tokens' fault and its place
abbrev pub IsFaultOf : List Token → ℕ → TreeErr → Type 0
IsFaultOf tokens end refusal = IsRefusalOf tokens end refusal × IsSome (place_of refusal)

-- the name of a refusal
abbrev pub label_of : TreeErr → List ℕ
label_of (Syntax place) = codes "Syntax"
label_of (TooDeep place) = codes "TooDeep"
label_of Memory = codes "Memory"
