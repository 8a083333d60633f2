use Rattle.std.proofs.Common.{◌≡◌, ◌++◌, ◌≤◌, ◌-◌, map, length, drop}
use Rattle.std.specs.List.{flat_map, AllByRecursion}
use Rattle.std.specs.String.{string_bytes}
use Rattle.rbbi_command.specs.Settings.{IsSetting, spelled}
use Rattle.rbbi_command.proofs.words.setting.settings_of.Given as goal

-- the options so far, and the words that are left
abbrev pub invariant-options : goal.invariant-options
invariant-options l = record {
  within : l.at ≤ length l.words;
  are : map string_bytes l.words ≡ flat_map spelled l.list.items ++ drop l.at (map string_bytes l.words);
  each : AllByRecursion IsSetting l.list.items;
}

-- the words that are left
abbrev pub decreases-options : goal.decreases-options
decreases-options l = length l.words - l.at
