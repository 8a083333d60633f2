-- What the switches of the code stand for.
use Rattle.std.specs.Prelude.{◌≡◌}
use Rattle.rbbi_resolve.specs.declared.switches.Switches.{Switches}
use Rattle.rbbi_resolve.specs.Contexts.{Context}

-- the switches are those of what stands before a statement
pub record AreSwitches (switches : Switches) (context : Context) : Type 0 where
  pub chained : switches.chained ≡ context.chained
  pub quoted_only : switches.quoted_only ≡ context.quoted_only
  pub active : switches.active ≡ context.active
