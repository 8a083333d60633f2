-- What a handle owns: nothing where it is null, and else the box of what it holds.
use Rattle.std.specs.Prelude.{Option, None, Some}
use mir.Syntax.{Ty}
use base.Fml.{Fml, feq}
use denote.RawPtr.{Ptr, null_ptr}
use Rattle.std.specs.contracts.impls.GlobalAllocator.TheImpl.{ghosts}
use Rattle.std_alloc.specs.Box.Ownership.{box_owns}
use Rattle.rbbi_c.specs.declared.held.Held.{Held}
use Rattle.rbbi_c.specs.contracts.held.Held.{the_row}

-- the right to free a block, as the allocator `Global` has it
abbrev pub token : Ty → Ptr → Fml
token = ghosts.dealloc_token (record { memory = record { seal = tt } })

abbrev pub owns : Ptr → Option Held → Fml
owns at None = feq Ptr at null_ptr
owns at (Some held) = box_owns token the_row at held
