-- What opening a built-in table by its name answers.
use Rattle.std.specs.Prelude.{◌≡◌, ◌≢◌, ℕ, ◌⊎◌, List, Option, None, Some, codes}
use Rattle.rbbi_model.specs.Tables.{Table as BreakTable}
use Rattle.rbbi_segment_tables.specs.BuiltIn.{IsBuiltIn}
use Rattle.rbbi_segment_tables.specs.declared.loading.Kind.{Kind}
use Rattle.rbbi_segment_tables.specs.declared.loading.Kind.TheVariants.{Grapheme, Word, Sentence, Line}
use Rattle.rbbi_segment_tables.specs.declared.loading.Kind.TheVariants.{LineStrict, LineNormal, LineLoose, LineCj, LineNormalCj, LineLooseCj}
use Rattle.rbbi_c.specs.Holding.{HoldsSomething}
use Rattle.rbbi_c.specs.declared.held.Held.{Held}
use Rattle.rbbi_c.specs.declared.held.Held.TheVariants.{Table}

-- the name of a built-in table
abbrev pub name_of : Kind → List ℕ
name_of Grapheme = codes "grapheme"
name_of Word = codes "word"
name_of Sentence = codes "sentence"
name_of Line = codes "line"
name_of LineStrict = codes "line-strict"
name_of LineNormal = codes "line-normal"
name_of LineLoose = codes "line-loose"
name_of LineCj = codes "line-cj"
name_of LineNormalCj = codes "line-normal-cj"
name_of LineLooseCj = codes "line-loose-cj"

-- What opening the built-in table of a kind leaves: the built-in table of the kind, in a handle that held nothing; or else what was
-- there. A handle that holds something already is refused, and any other only if memory runs out.
abbrev pub OpensBuiltIn : Kind → Option Held → ℕ → Option Held → Type 0
OpensBuiltIn kind old code now =
    ((code ≡ 0) × (old ≡ None) × ((table : BreakTable) × IsBuiltIn kind table × (now ≡ Some (Table table))))
    ⊎ ((now ≡ old) × (((code ≡ 3) × HoldsSomething old) ⊎ ((code ≡ 9) × (old ≡ None))))

-- opening the built-in table of a name: a name that none has is refused first
abbrev pub NamesThrough : List ℕ → Option Held → ℕ → Option Held → Type 0
NamesThrough name old code now =
    ((code ≡ 12) × ((kind : Kind) → name ≢ name_of kind) × (now ≡ old))
    ⊎ ((kind : Kind) × (name ≡ name_of kind) × OpensBuiltIn kind old code now)
