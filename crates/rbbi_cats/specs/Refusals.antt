-- The names of refusals.
use Rattle.std.specs.Prelude.{ℕ, List, codes}
use Rattle.rbbi_cats.specs.declared.error.CatsErr.{CatsErr}
use Rattle.rbbi_cats.specs.declared.error.CatsErr.TheVariants.{TooManyCategories, Memory}

-- the variant's name
abbrev pub label_of : CatsErr → List ℕ
label_of TooManyCategories = codes "TooManyCategories"
label_of Memory = codes "Memory"
