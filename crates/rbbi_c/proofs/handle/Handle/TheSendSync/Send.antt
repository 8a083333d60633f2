-- A handle says the same to every thread.
use base.Shift.{Keyless}
use base.Fraction.{full_share}
use mir.Raw.{raw}
use denote.Memory.{lone}
use denote.RawPtr.{Ptr, block_ptr, null_ptr}
use denote.Param.Send.{IsSend, part_keyless}
use Rattle.std.specs.Prelude.{Option, None, Some}
use Rattle.std.proofs.Crossing.{frees}
use Rattle.rbbi_c.specs.declared.held.Held.{Held}
use Rattle.rbbi_c.specs.contracts.held.Held as held
use Rattle.rbbi_c.specs.Owning.{owns}
use Rattle.rbbi_c.specs.contracts.handle.Handle.{the_row}
use Rattle.rbbi_c.proofs.held.Held.TheSendSync as sent

owns_keyless : (p : Ptr) (x : Option Held) → Keyless (owns p x)
owns_keyless p None = tt
owns_keyless (block_ptr b o) (Some x) = (
  part_keyless held.the_row sent.the_send full_share x b o,
  frees.frees (record {
    memory = record {
      seal =
          tt;
    };
  }) (raw (lone held.the_row.mir)) (block_ptr b o),
)
owns_keyless null_ptr (Some x) = (tt, frees.frees (record { memory = record { seal = tt } }) (raw (lone held.the_row.mir)) null_ptr)

pub send : IsSend the_row
send = record { owned = λ d vs. ((λ vss. (tt, (tt, tt))), owns_keyless d.at d.held); leaving = λ k d w. tt }
