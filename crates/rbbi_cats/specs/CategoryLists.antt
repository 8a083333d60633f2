-- What contracts see of categories.
use Rattle.std.specs.Prelude.{◌≡◌, ℕ, List, AllPairs, length}
use Rattle.std.specs.List.{AllByRecursion}
use Rattle.rbbi_model.specs.Words.{IsCodePoint}
use Rattle.rbbi_model.specs.Rules.{Rule}
use Rattle.rbbi_model.specs.Tables.{CategoryRange}
use Rattle.rbbi_model.specs.Compiled.{IsRead, AreAlike}

-- how many categories there are, and the ranges that give each code point one of them
pub record CategoryList : Type 0 where
  pub count : ℕ
  pub ranges : List CategoryRange

-- a code point that some leaf reads
abbrev pub IsReadCodePoint : List Rule → ℕ → Type 0
IsReadCodePoint rules c = IsCodePoint c × IsRead rules c

-- there are so many code points that leaves read, each two of which the leaves' sets distinguish
pub record HasClasses (rules : List Rule) (count : ℕ) : Type 0 where
  pub codes : List ℕ
  pub many : length codes ≡ count
  pub each : AllByRecursion (IsReadCodePoint rules) codes
  pub apart : AllPairs (λ c d. ¬ AreAlike rules c d) codes
