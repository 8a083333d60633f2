-- What words ask for, and that they are of no form.
use Rattle.std.proofs.Common.{◌≡◌, ◌≢◌, ℕ, Bool, false, List, [], ◌∷◌, length, Option, None, Some, refl, sym, ap, ◌∙◌, subst}
use Rattle.std.specs.Prelude.{codes, bytes_eq, if◌then◌else◌}
use Rattle.rbbi_command.specs.declared.words.command.Command.{Command}
use Rattle.rbbi_command.specs.declared.words.command.Command.TheVariants.{Check, Compile, Upgrade, Same, Breaks, Run, Conform, Tally, Demo}
use Rattle.rbbi_command.specs.declared.words.setting.Setting.{Setting}
use Rattle.rbbi_command.specs.Settings.{options_of, are_taken, are_by_table, BeginWithSettings}
use Rattle.rbbi_command.specs.Words.{Request, IsCommandLine, AreNoForm, name_of, taken_by, operands_of, AllFit}
use Rattle.rbbi_command.proofs.SettingLemmas.{same_settings}

-- the command of a word
abbrev command_at : List ℕ → Option Command
command_at word =
    if bytes_eq word (codes "check") then Some Check
    else (if bytes_eq word (codes "compile") then Some Compile
    else (if bytes_eq word (codes "upgrade") then Some Upgrade
    else (if bytes_eq word (codes "same") then Some Same
    else (if bytes_eq word (codes "breaks") then Some Breaks
    else (if bytes_eq word (codes "run") then Some Run
    else (if bytes_eq word (codes "conform") then Some Conform
    else (if bytes_eq word (codes "tally") then Some Tally else (if bytes_eq word (codes "demo") then Some Demo else None))))))))

named : (command : Command) → command_at (name_of command) ≡ Some command
named Check = refl
named command = refl

-- a word is that of one command alone
pub same_command : (one other : Command) → name_of one ≡ name_of other → one ≡ other
same_command one other same = let both = sym (named one) ∙ ap command_at same ∙ named other in cc

module _ (words : List (List ℕ)) (word : List ℕ) (more : List (List ℕ)) (are : words ≡ word ∷ more) where
  module _ (command : Command) (is : word ≡ name_of command) (settings : List Setting) (rest : List (List ℕ)) (begin : BeginWithSettings more settings rest)
    where
      command_is : (request : Request) → IsCommandLine words request → request.command ≡ command
      command_is request asks =
          let both = sym are ∙ asks.are in
          let name : name_of request.command ≡ name_of command = cc in
          same_command request.command command name

      settings_are : (request : Request) (asks : IsCommandLine words request) → (asks.settings ≡ settings) × (request.operands ≡ rest)
      settings_are request asks =
          let both = sym are ∙ asks.are in
          let same : asks.more ≡ more = cc in
          same_settings more asks.settings settings request.operands rest
          (subst (λ w. BeginWithSettings w asks.settings request.operands) same asks.begin) begin

      operands_are : (request : Request) (asks : IsCommandLine words request) (by_table : Bool) → by_table ≡ are_by_table settings
          → operands_of request.command request.options.by_table ≡ operands_of command by_table
      operands_are request asks by_table same =
          ap (λ c. operands_of c request.options.by_table) (command_is request asks)
          ∙ ap (operands_of command) (ap (λ o. o.by_table) asks.options ∙ ap are_by_table (settings_are request asks).0 ∙ sym same)

      -- the command doesn't take the options
      pub not_taken : are_taken (taken_by command) settings ≡ false → AreNoForm words
      not_taken refused request asks =
          let here : are_taken (taken_by request.command) asks.settings ≡ are_taken (taken_by command) settings =
          ap (λ c. are_taken (taken_by c) asks.settings) (command_is request asks) ∙ ap (are_taken (taken_by command)) (settings_are request asks).0 in
          let taken = asks.taken in
          absurd cc

      -- there are more or fewer operands
      pub other_count : (by_table : Bool) → by_table ≡ are_by_table settings → length rest ≢ length (operands_of command by_table) → AreNoForm words
      other_count by_table same differ request asks =
          differ (ap length (sym (settings_are request asks).1) ∙ asks.count ∙ ap length (operands_are request asks by_table same))

      -- an operand isn't of its form
      pub not_fit : (by_table : Bool) → by_table ≡ are_by_table settings → ¬ AllFit (operands_of command by_table) rest → AreNoForm words
      not_fit by_table same none request asks =
          none
          (subst (AllFit (operands_of command by_table)) (settings_are request asks).1
          (subst (λ os. AllFit os request.operands) (operands_are request asks by_table same) asks.fit))

-- one request fits the words
pub same_request : (words : List (List ℕ)) (one other : Request) → IsCommandLine words one → IsCommandLine words other → one ≡ other
same_request words one other asks asks' =
    let both = sym asks.are ∙ asks'.are in
    let name : name_of one.command ≡ name_of other.command = cc in
    let same : asks.more ≡ asks'.more = cc in
    let command : one.command ≡ other.command = same_command one.command other.command name in
    let settings = same_settings asks'.more asks.settings asks'.settings one.operands other.operands
    (subst (λ w. BeginWithSettings w asks.settings one.operands) same asks.begin) asks'.begin in
    let options = asks.options ∙ ap options_of settings.0 ∙ sym asks'.options in
    λ i. record { command = command i; options = options i; operands = settings.1 i }
