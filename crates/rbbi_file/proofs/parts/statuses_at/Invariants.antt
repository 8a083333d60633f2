use Rattle.std.proofs.Common.{◌≡◌, ◌+◌, ◌*◌, ◌^◌, ◌<◌, length}
use Rattle.std.specs.List.{AllByRecursion, flat_map}
use Rattle.rbbi_model.specs.TableFile.{u32}
use Rattle.rbbi_file.specs.inner.Reading.{Stand}
use Rattle.rbbi_file.proofs.parts.statuses_at.Given as goal

abbrev pub invariant-loop-status : goal.invariant-loop-status
invariant-loop-status l =
    Stand l.bytes (flat_map u32 l.statuses.items) l.at (l.at + 4 * l.status) × (length l.statuses.items ≡ l.status)
    × AllByRecursion (λ status. status < 2 ^ 32) l.statuses.items
