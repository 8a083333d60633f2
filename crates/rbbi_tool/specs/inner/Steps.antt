-- How much a run reads of its files, in the order of the words.
use Rattle.std.specs.Prelude.{ℕ, ◌+◌, List, Option, IfSome, length, sum_by}
use Rattle.rbbi_command.specs.Words.{Request, IsCommandLine}
use Rattle.rbbi_command.specs.Files.{sources_of}
use Rattle.rbbi_command.specs.Inputs.{Inputs}
use Rattle.rbbi_command.specs.Reads.{MakesSomeReads}
use Rattle.rbbi_tool.specs.Steps.{RequestReads}
use Rattle.rbbi_tool.specs.inner.Prepared.{ReadsByEnd}

-- the bytes that boundaries come by
abbrev pub basis_bytes : Inputs → ℕ
basis_bytes inputs = sum_by length inputs.properties + length inputs.rules + length inputs.table

-- the bytes that boundaries come by after a filter
abbrev pub filtered_bytes : Inputs → ℕ
filtered_bytes inputs = basis_bytes inputs + length inputs.filter.bytes

-- the bytes of the files that count
abbrev pub given_bytes : Inputs → ℕ
given_bytes inputs = filtered_bytes inputs + length inputs.script.bytes + length inputs.tests.bytes

-- What a run reads, where it reads so much at most while it writes: the files of the request in order, and of them what the request reads.
pub record ReadsInOrder (words : List (List ℕ)) (contents : Option (List ℕ → List ℕ)) (reads reads' : List ℕ → ℕ) (rest before now : ℕ) : Type 0 where
  pub order : (request : Request) → IsCommandLine words request → IfSome contents (MakesSomeReads (sources_of request) reads reads')
  pub steps : (request : Request) → IsCommandLine words request → IfSome contents (λ held. ReadsByEnd rest (RequestReads request held) before now)
