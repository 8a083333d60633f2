use Rattle.std.proofs.Common.{◌≡◌, ◌++◌, drop}
use Rattle.std.specs.Prelude.{filter_map}
use Rattle.rbbi_command.specs.Settings.{source_in}
use Rattle.rbbi_command.proofs.words.options.files_of.Given as goal

-- the files so far and those of what is left are all
abbrev pub invariant-loop-setting : goal.invariant-loop-setting
invariant-loop-setting l =
    l.files.items ++ filter_map source_in (drop l.setting-index l.settings) ≡ filter_map source_in l.settings
