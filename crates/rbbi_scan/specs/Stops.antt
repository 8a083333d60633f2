-- Why no more was given, by places in a text that begins before.
use Rattle.std.specs.Prelude.{◌≡◌, ℕ, ◌+◌, ◌<◌, ◌^◌}
use Rattle.rbbi_scan.specs.declared.reached.Stop.{Stop}
use Rattle.rbbi_scan.specs.declared.reached.Stop.TheVariants.{Fault}

-- the same, but that a fault lies so many bytes further on, if such a place is a number of 64 bits
abbrev pub IsStopFrom : Stop → ℕ → Stop → Type 0
IsStopFrom (Fault at) origin (Fault there) = origin + at < 2 ^ 64 → there ≡ origin + at
IsStopFrom stop origin moved = moved ≡ stop
