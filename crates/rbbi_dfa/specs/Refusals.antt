-- The names of the refusals.
use Rattle.std.specs.Prelude.{List, ℕ, codes}
use Rattle.rbbi_dfa.specs.declared.error.BuildErr.{BuildErr}
use Rattle.rbbi_dfa.specs.declared.error.BuildErr.TheVariants.{TooManySets, TooManyRows, TooManyStatuses, Memory}

-- the variant's name
abbrev pub label_of : BuildErr → List ℕ
label_of TooManySets = codes "TooManySets"
label_of TooManyRows = codes "TooManyRows"
label_of TooManyStatuses = codes "TooManyStatuses"
label_of Memory = codes "Memory"
