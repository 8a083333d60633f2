-- Each stage is determined, and so is the outcome. The laws of the lower crates are handed in.
use Rattle.std.proofs.Common.{◌≡◌, ◌≢◌, ◌⊎◌, ◌+◌, inl, inr, ⊎_elim, ℕ, Bool, true, false, List, [], ◌∷◌, Option, Some, None, sym}
use Rattle.std.proofs.Common.{refl, ap, ◌∙◌}
use Rattle.std.proofs.Common.{arith}
use Rattle.std.specs.Prelude.{codes, Result, Err, Ok}
use Rattle.rbbi_model.specs.Rules.{Rule}
use Rattle.rbbi_model.specs.Boundaries.{Boundary, AreBoundaries}
use Rattle.rbbi_model.specs.Lines.{boundary_lines, all_reply_lines, demo_line}
use Rattle.rbbi_model.specs.Answers.{Reply}
use Rattle.rbbi_model.specs.declared.unit.Unit.{Unit as TextUnit}
use Rattle.rbbi_model.specs.Units.{measured}
use Rattle.rbbi_model.specs.Plays.{AreReplies}
use Rattle.rbbi_model.specs.Scripts as scripts
use Rattle.rbbi_model.specs.Tables.{Table}
use Rattle.rbbi_model.specs.Marks.{Marks, AreMarks}
use Rattle.rbbi_props.specs.Rows as rows
use Rattle.rbbi_compile.specs.declared.error.CompileErr.{CompileErr}
use Rattle.rbbi_compile.specs.Rules.{text_of, MeansRules, HasRuleFault}
use Rattle.rbbi_compile.specs.Tables.{HasTableRules, HasFault}
use Rattle.rbbi_compile.specs.Laws as compiling
use Rattle.rbbi_dfa.specs.HaveCanonical.{CompiledTablesHaveCanonical}
use Rattle.rbbi_canon.specs.Laws.{CanonicalTablesTellMarks}
use Rattle.rbbi_file.specs.declared.error.FileErr.{FileErr}
use Rattle.rbbi_file.specs.declared.error.FileErr.TheVariants as file
use Rattle.rbbi_file.specs.Errors as reader
use Rattle.rbbi_file.specs.Answers.{ReadsTable}
use Rattle.rbbi_file.specs.Laws.{SpellOneTable}
use Rattle.rbbi_script.specs.Laws.{HaveOneScript}
use Rattle.rbbi_filter.specs.declared.filter.Filter.{Filter}
use Rattle.rbbi_filter.specs.declared.filter.Filter.TheVariants.{Suppressing, Turning}
use Rattle.rbbi_filter.specs.Filters.{searched, reported, AreBoundariesThrough}
use Rattle.rbbi_filter.specs.AbbreviationFiles.{ReadsAbbreviations}
use Rattle.rbbi_filter.specs.PairFiles.{ReadsPairs}
use Rattle.rbbi_filter.specs.Laws.{HaveOneAnswer}
use Rattle.rbbi_conform.specs.Tests.{Test}
use Rattle.rbbi_conform.specs.Files.{ReadsTests}
use Rattle.rbbi_conform.specs.Laws.{HaveOneTestList, HasOneVerdict}
use Rattle.rbbi_demo.specs.declared.summary.Summary.{Summary}
use Rattle.rbbi_demo.specs.Summaries.{IsSummary}
use Rattle.rbbi_command.specs.declared.words.command.Command.{Command}
use Rattle.rbbi_command.specs.declared.words.command.Command.TheVariants.{Check, Compile, Upgrade, Same, Breaks, Run, Conform, Tally, Demo}
use Rattle.rbbi_command.specs.declared.words.setting.Property.{Property}
use Rattle.rbbi_command.specs.declared.words.setting.FilterKind.{FilterKind}
use Rattle.rbbi_command.specs.declared.words.setting.FilterKind.TheVariants.{Abbreviations, Pairs}
use Rattle.rbbi_command.specs.declared.inputs.Input.{Input}
use Rattle.rbbi_command.specs.declared.files.Source.{Source}
use Rattle.rbbi_command.specs.declared.refusal.Subject.{Subject}
use Rattle.rbbi_command.specs.declared.refusal.Subject.TheVariants as subject
use Rattle.rbbi_command.specs.declared.refusal.Place.TheVariants.{Byte, Row}
use Rattle.rbbi_command.specs.declared.refusal.Refusal.TheVariants.{Fault}
use Rattle.rbbi_command.specs.Counts.{IsCount}
use Rattle.rbbi_command.specs.Stages.{Stage, followed_by, passing, gives}
use Rattle.rbbi_tool.specs.inner.Stages.{IsDeterministic}
use Rattle.rbbi_command.specs.Refusals.{Outcome, refused, printed}
use Rattle.rbbi_command.specs.Words.{Request}
use Rattle.rbbi_command.specs.Files.{length_stage, lengths_stage, sources_of}
use Rattle.rbbi_tool.specs.Texts.{utf8_stage, count_stage, text_stage}
use Rattle.rbbi_tool.specs.Properties.{rows_stage, property_stage, properties_stage, property_files}
use Rattle.rbbi_tool.specs.Rules.{fault_in, rule_text_stage, told_stage, rule_bytes_stage, rules_stage}
use Rattle.rbbi_tool.specs.Basis.{compiled_bytes_stage, compiled_with, compiled_stage, table_place, table_stage}
use Rattle.rbbi_tool.specs.Basis.{Basis, ByRules, ByTable, AreBoundariesBy, basis_by, basis_stage}
use Rattle.rbbi_command.specs.Settings.{Options}
use Rattle.rbbi_command.specs.Inputs.{Inputs, inputs_of}
use Rattle.rbbi_tool.specs.Command.Check.{counts_line}
use Rattle.rbbi_tool.specs.Command.Compile.{table_outcome, TellsTable}
use Rattle.rbbi_tool.specs.Command.Same.{IsComparison, told_of_second, as_second, second_stage}
use Rattle.rbbi_tool.specs.Command.Breaks.{boundaries_stage}
use Rattle.rbbi_tool.specs.Command.Run.{replies_stage}
use Rattle.rbbi_tool.specs.Filters.{FilteredBasis, filter_stage, behind_filter, filtered_by, filtered_stage, AreReportedBy, AreRepliesBasedOn}
use Rattle.rbbi_tool.specs.Command.Conform.{told_verdicts, verdicts_stage}
use Rattle.rbbi_tool.specs.Command.Tally.{TellTally}
use Rattle.rbbi_tool.specs.Command.Demo.{demo_rules, TellsSummary}
use Rattle.rbbi_tool.specs.Scripts.{script_stage, tests_stage}
use Rattle.rbbi_tool.specs.Program.{nth, words_stage, command_stage, request_stage, run_stage, IsOutcome}
use Rattle.rbbi_tool.specs.Causes.{TellOneDifference}
use Rattle.rbbi_command.proofs.Forms.{same_request}
use Rattle.rbbi_tool.proofs.StageLemmas.{IsSettled, settled, passing_determined, gives_determined, determined_both, settled_both}
use Rattle.rbbi_tool.proofs.OneReading.{lines_determined, made_determined, script_determined, same_verdicts}
use Rattle.rbbi_tool.proofs.Tallied.{tally_determined}
use Rattle.rbbi_model.proofs.Replies.{same_from}
use Rattle.rbbi_tool.proofs.SameMarks.{never_both, same_canonical}

-- what the lower crates state of rules, boundaries and the like
pub record Laws : Type 0 where
  pub rules : (files : List rows.File) (ignored : Bool) (x : List ℕ) → compiling.HasOneAnswer files ignored x
  pub tables : SpellOneTable
  pub answers : (bytes : List ℕ) (one other : Result Table FileErr) → ReadsTable bytes one → ReadsTable bytes other → one ≢ Err file.Memory
      → other ≢ Err file.Memory → one ≡ other
  pub boundaries : (rules : List Rule) (x : List ℕ) (these those : List Boundary) → AreBoundaries rules x these → AreBoundaries rules x those → these ≡ those
  pub replies : (rules : List Rule) (unit : TextUnit) (x : List ℕ) (commands : List scripts.Command) (these those : List Reply)
      → AreReplies rules unit x commands these → AreReplies rules unit x commands those → these ≡ those
  pub scripts : HaveOneScript
  pub abbreviations : HaveOneAnswer ReadsAbbreviations
  pub pairs : HaveOneAnswer ReadsPairs
  pub summaries : (rules : List Rule) (count : ℕ) (one other : Summary) → IsSummary (AreBoundaries rules) count one
      → IsSummary (AreBoundaries rules) count other → one ≡ other
  pub tests : HaveOneTestList
  pub verdicts : (boundaries : List Boundary) (test : Test) → HasOneVerdict boundaries test
  pub marks : (rules : List Rule) (w : List ℕ) (these those : Marks) → AreMarks rules w these → AreMarks rules w those → these ≡ those
  pub have_canonical : CompiledTablesHaveCanonical
  pub canonical : CanonicalTablesTellMarks

-- outcomes are the same, or both tell that the same rules differ
abbrev AreAlike : Outcome → Outcome → Type 0
AreAlike one other = (one ≡ other) ⊎ TellOneDifference one other

alike : (one other : Outcome) → one ≡ other → AreAlike one other
alike one other same = inl same

words_determined : (words : List (List ℕ)) → IsDeterministic Request (words_stage words)
words_determined words = record {
  value = same_request words;
  refusal = λ r s is is'. is.1 ∙ sym is'.1;
  apart = λ request r asks is. is.0 request asks;
}

-- whether files are too long is determined
length_determined : (held : List ℕ → List ℕ) (source : Source) → IsDeterministic (Unit {0}) (length_stage held source)
length_determined held source = record {
  value = λ a b is is'. refl;
  refusal = λ r s is is'. is.1 ∙ sym is'.1;
  apart = λ a r is is'. let long = is'.0 in omega arith;
}

lengths_determined : (held : List ℕ → List ℕ) (sources : List Source) → IsDeterministic (Unit {0}) (lengths_stage held sources)
lengths_determined held [] = passing_determined (λ _. Unit {0}) (λ a b is is'. refl)
lengths_determined held (source ∷ sources) =
    determined_both (length_stage held source) (λ _. lengths_stage held sources) (length_determined held source) (λ _. lengths_determined held sources)

-- the text of a file is determined
utf8_determined : {A : Type 0} (subject : Subject) (bytes : List ℕ) (value : A) → IsDeterministic A (utf8_stage subject bytes value)
utf8_determined subject bytes value = record {
  value = λ x y is is'. is.1 ∙ sym is'.1;
  refusal = λ r s (at, wrong, is) (at', wrong', is').
      is ∙ ap (λ n. Fault subject (codes "NotUtf8") (Byte n)) (wrong.at_is ∙ sym wrong'.at_is) ∙ sym is';
  apart = λ x r is (at, wrong, told). wrong.not_utf8 is.0;
}

count_determined : (subject : Subject) (x : List ℕ) → IsDeterministic (List ℕ) (count_stage subject x)
count_determined subject x = record {
  value = λ y z is is'. is.0 ∙ sym is'.0;
  refusal = λ r s is is'. is.1 ∙ sym is'.1;
  apart = λ y r is is'. let few = is.1 in let many = is'.0 in omega arith;
}

rows_determined : (name bytes : List ℕ) → IsDeterministic (Unit {0}) (rows_stage name bytes)
rows_determined name bytes = record {
  value = λ a b is is'. refl;
  refusal = λ r s (line, (k, first, at), is) (line', (k', first', at'), is').
      let same : k ≡ k' = (let both = sym first ∙ first' in cc) in
      is ∙ ap (λ n. Fault (subject.File name) (codes "BadRow") (Row n)) (at ∙ ap (λ n. n + 1) same ∙ sym at') ∙ sym is';
  apart = λ a r is (line, (k, first, at), told). let both = sym is ∙ first in absurd cc;
}

properties_determined : (properties : List Property) (handed : List (List ℕ)) → IsDeterministic (Unit {0}) (properties_stage properties handed)
properties_determined (p ∷ properties) (b ∷ handed) =
    determined_both (property_stage p.file b) (λ _. properties_stage properties handed)
    (determined_both (utf8_stage (subject.File p.file) b (tt {0})) (λ _. rows_stage p.file b) (utf8_determined (subject.File p.file) b (tt {0}))
    (λ _. rows_determined p.file b))
    (λ _. properties_determined properties handed)
properties_determined properties handed = passing_determined (λ _. Unit {0}) (λ a b is is'. refl)

-- a stage whose faults are told of the second rule file is determined where it is
second_determined : {A : Type 0} (stage : Stage A) → IsDeterministic A stage → IsDeterministic A (as_second stage)
second_determined stage is = record {
  value = is.value;
  refusal = λ r s (t, refuses, told) (t', refuses', told'). told ∙ ap told_of_second (is.refusal t t' refuses refuses') ∙ sym told';
  apart = λ a r passes (t, refuses, told). is.apart a t passes refuses;
}

text_determined : (text : Input) → IsDeterministic (List ℕ) (text_stage text)
text_determined text =
    determined_both (utf8_stage _ text.bytes _) (count_stage _) (utf8_determined _ text.bytes _) (count_determined _)

-- what a rule file comes to is determined, where its text has one list of rules or one fault
rule_file_determined : (HasRules : List ℕ → List Rule → Type 0) (HasFault : List ℕ → CompileErr → Type 0) (bytes : List ℕ)
    → ((x : List ℕ) (these those : List Rule) → HasRules x these → HasRules x those → these ≡ those)
    → ((x : List ℕ) (e f : CompileErr) → HasFault x e → HasFault x f → e ≡ f)
    → ((x : List ℕ) (rules : List Rule) (e : CompileErr) → HasRules x rules → HasFault x e → ⊥)
    → IsDeterministic (List Rule) (followed_by (rule_text_stage bytes) (told_stage HasRules HasFault))
rule_file_determined HasRules HasFault bytes one_list one_fault never =
    determined_both (rule_text_stage bytes) (told_stage HasRules HasFault)
    (utf8_determined subject.Rules bytes (text_of bytes))
    (λ x. record {
      value = one_list x;
      refusal = λ r s (e, has, is) (f, has', is'). is ∙ ap (fault_in x) (one_fault x e f has has') ∙ sym is';
      apart = λ rules r means (e, has, is). never x rules e means has;
    })

module _ (laws : Laws) where
  -- what a rule file comes to is determined
  rules_determined : (options : Options) (inputs : Inputs) → IsDeterministic (List Rule) (rules_stage options inputs)
  rules_determined options inputs =
      let files : List rows.File = property_files options.properties inputs.properties in
      let ignored = options.ignored in
      determined_both (properties_stage options.properties inputs.properties) (λ _. rule_bytes_stage files ignored inputs.rules)
      (properties_determined options.properties inputs.properties)
      (λ _.
      rule_file_determined (MeansRules files ignored) (HasRuleFault files ignored) inputs.rules (λ x. (laws.rules files ignored x).rules)
      (λ x. (laws.rules files ignored x).rule_fault) (λ x. (laws.rules files ignored x).no_rules))

  compiled_bytes_determined : (files : List rows.File) (ignored : Bool) (bytes : List ℕ)
      → IsDeterministic (List Rule) (compiled_bytes_stage files ignored bytes)
  compiled_bytes_determined files ignored bytes =
      rule_file_determined (HasTableRules files ignored) (HasFault files ignored) bytes
      (λ x these those has has'. (laws.rules files ignored x).rules these those has.mean has'.mean) (λ x. (laws.rules files ignored x).fault)
      (λ x. (laws.rules files ignored x).no_table)

  compiled_determined : (options : Options) (inputs : Inputs) → IsDeterministic (List Rule) (compiled_stage options inputs)
  compiled_determined options inputs =
      let files : List rows.File = property_files options.properties inputs.properties in
      determined_both (properties_stage options.properties inputs.properties) (λ _. compiled_with options inputs)
      (properties_determined options.properties inputs.properties) (λ _. compiled_bytes_determined files options.ignored inputs.rules)

  -- what a table file comes to is determined
  err_same : (e f : FileErr) → (let this : Result Table FileErr = Err e in this) ≡ Err f → e ≡ f
  err_same e f same = cc

  table_determined : (bytes : List ℕ) → IsDeterministic Table (table_stage bytes)
  table_determined bytes = record {
    value = λ t u is is'. laws.tables bytes t u is.0 is'.0 is.1 is'.1;
    refusal = λ r s is is'.
        let same = laws.answers bytes (Err is.error) (Err is'.error) is.refused is'.refused (λ m. is.not_memory cc) (λ m. is'.not_memory cc) in
        is.is ∙ ap (λ e. Fault subject.Table (reader.label_of e) (table_place (reader.place_of e))) (err_same is.error is'.error same) ∙ sym is'.is;
    apart = λ t r is is'.
        let same = laws.answers bytes (Ok t) (Err is'.error) is is'.refused (λ m. absurd cc) (λ m. is'.not_memory cc) in
        absurd cc;
  }

  by_determined : (by_table : Bool) (options : Options) (inputs : Inputs) → IsDeterministic Basis (basis_by by_table options inputs)
  by_determined false options inputs =
      let files : List rows.File = property_files options.properties inputs.properties in
      determined_both (compiled_with options inputs) (λ rules. gives (ByRules rules)) (compiled_bytes_determined files options.ignored inputs.rules)
      (λ rules. gives_determined (ByRules rules))
  by_determined true options inputs =
      determined_both (table_stage inputs.table) (λ table. gives (ByTable table)) (table_determined inputs.table)
      (λ table. gives_determined (ByTable table))

  basis_determined : (options : Options) (inputs : Inputs) → IsDeterministic Basis (basis_stage options inputs)
  basis_determined options inputs =
      determined_both (properties_stage options.properties inputs.properties) (λ _. basis_by options.by_table options inputs)
      (properties_determined options.properties inputs.properties) (λ _. by_determined options.by_table options inputs)

  -- boundaries by a basis are determined
  same_boundaries : (basis : Basis) (x : List ℕ) (these those : List Boundary) → AreBoundariesBy basis x these → AreBoundariesBy basis x those → these ≡ those
  same_boundaries (ByRules rules) x these those are are' = laws.boundaries rules x these those are are'
  same_boundaries (ByTable table) x these those are are' = are ∙ sym are'

  -- what boundaries come by behind a filter is determined
  filter_file_determined : (kind : FilterKind) (file : Input) → IsDeterministic Filter (filter_stage kind file)
  filter_file_determined Abbreviations file = made_determined ReadsAbbreviations laws.abbreviations file Suppressing
  filter_file_determined Pairs file = made_determined ReadsPairs laws.pairs file Turning

  behind_determined : (options : Options) (inputs : Inputs) (filter : Option Filter) → IsDeterministic FilteredBasis (behind_filter options inputs filter)
  behind_determined options inputs filter =
      determined_both (basis_stage options inputs) (λ basis. gives (record { filter = filter; basis = basis }))
      (basis_determined options inputs) (λ basis. gives_determined (record { filter = filter; basis = basis }))

  filtered_determined : (kind : Option FilterKind) (options : Options) (inputs : Inputs) → IsDeterministic FilteredBasis (filtered_by kind options inputs)
  filtered_determined None options inputs = behind_determined options inputs None
  filtered_determined (Some kind) options inputs =
      determined_both (properties_stage options.properties inputs.properties)
      (λ _. followed_by (filter_stage kind inputs.filter) (λ filter. behind_filter options inputs (Some filter)))
      (properties_determined options.properties inputs.properties)
      (λ _.
      determined_both (filter_stage kind inputs.filter) (λ filter. behind_filter options inputs (Some filter)) (filter_file_determined kind inputs.filter)
      (λ filter. behind_determined options inputs (Some filter)))

  -- boundaries and replies that are reported are determined
  same_reported : (basis : Basis) (filter : Option Filter) (unit : TextUnit) (x : List ℕ) (these those : List Boundary) → AreReportedBy basis filter unit x these
      → AreReportedBy basis filter unit x those → these ≡ those
  same_reported (ByRules rules) None unit x these those are are' =
      are.2 ∙ ap (measured unit x) (laws.boundaries rules x are.0 are'.0 are.1 are'.1) ∙ sym are'.2
  same_reported (ByRules rules) (Some filter) unit x these those are are' =
      are.2 ∙ ap (reported filter x) (laws.boundaries rules (searched filter x) are.0 are'.0 are.1 are'.1) ∙ sym are'.2
  same_reported (ByTable table) filter unit x these those are are' = are ∙ sym are'

  boundaries_determined : (by : FilteredBasis) (unit : TextUnit) (x : List ℕ) → IsDeterministic Outcome (boundaries_stage by unit x)
  boundaries_determined by unit x =
      passing_determined (boundaries_stage by unit x).passes (λ o p (bs, are, is) (cs, are', is').
      is ∙ ap (λ list. printed (boundary_lines list)) (same_reported by.basis by.filter unit x bs cs are are') ∙ sym is')

  same_replies : (basis : Basis) (filter : Option Filter) (unit : TextUnit) (x : List ℕ) (commands : List scripts.Command) (these those : List Reply)
      → AreRepliesBasedOn basis filter unit x commands these → AreRepliesBasedOn basis filter unit x commands those → these ≡ those
  same_replies (ByRules rules) None unit x commands these those are are' = laws.replies rules unit x commands these those are are'
  same_replies (ByRules rules) (Some filter) unit x commands these those are are' =
      same_from scripts.edit (AreBoundariesThrough filter rules) (same_reported (ByRules rules) (Some filter) unit) (scripts.opened x) commands these those
      are are'
  same_replies (ByTable table) filter unit x commands these those are are' = are ∙ sym are'

  replies_determined : (by : FilteredBasis) (unit : TextUnit) (x : List ℕ) (commands : List scripts.Command)
      → IsDeterministic Outcome (replies_stage by unit x commands)
  replies_determined by unit x commands =
      passing_determined (replies_stage by unit x commands).passes (λ o p (rs, are, is) (ss, are', is').
      is ∙ ap (λ list. printed (all_reply_lines list)) (same_replies by.basis by.filter unit x commands rs ss are are') ∙ sym is')

  -- verdicts are determined
  verdicts_determined : (basis : Basis) (tests : List Test) → IsDeterministic Outcome (verdicts_stage basis tests)
  verdicts_determined basis tests =
      passing_determined (verdicts_stage basis tests).passes (λ o p (vs, are, is) (ws, are', is').
      is ∙ ap (told_verdicts tests) (same_verdicts basis (same_boundaries basis) laws.verdicts tests vs ws are are') ∙ sym is')

  -- the number that a word writes is determined, and so is its summary
  number_determined : (word : List ℕ) → IsDeterministic ℕ (passing (IsCount word))
  number_determined word = passing_determined (IsCount word) (λ n m is is'. same_some n m (sym is.written ∙ is'.written))
    where
      same_some : (n m : ℕ) → Some n ≡ Some m → n ≡ m
      same_some n m same = cc

  summary_determined : (count : ℕ) (rules : List Rule) → IsDeterministic Outcome (passing (TellsSummary count rules))
  summary_determined count rules =
      passing_determined (TellsSummary count rules) (λ o p is is'.
      is.is ∙ ap (λ (s : Summary). printed (demo_line s.chars s.edits s.boundaries s.sum)) (laws.summaries rules count is.summary is'.summary is.are is'.are) ∙ sym is'.is)

  -- one table of rules is told
  same_table : (rules : List Rule) (name : List ℕ) (one other : Outcome) → TellsTable rules name one → TellsTable rules name other → one ≡ other
  same_table rules name one other is is' =
      is.is
      ∙ ap (table_outcome name)
      (same_canonical laws.marks laws.have_canonical laws.canonical rules is.of_rules.table is'.of_rules.table is.canonical is'.canonical is.lawful
      is.of_rules.compiled is'.of_rules.compiled is.of_rules.made is'.of_rules.made)
      ∙ sym is'.is

  -- rules have the same marks or differ, and of texts after which they do any may be told
  compared_alike : (rules others : List Rule) (one other : Outcome) → IsComparison rules others one → IsComparison rules others other → AreAlike one other
  compared_alike rules others one other (inl (same, is)) (inl (same', is')) = inl (is ∙ sym is')
  compared_alike rules others one other (inl (same, is)) (inr (w, apart, is')) = absurd (never_both laws.marks rules others w same apart)
  compared_alike rules others one other (inr (w, apart, is)) (inl (same, is')) = absurd (never_both laws.marks rules others w same apart)
  compared_alike rules others one other (inr (w, apart, is)) (inr (w', apart', is')) =
      inr (record {
        rules = rules;
        other_rules = others;
        text = w;
        other_text = w';
        differ = apart;
        differ_too = apart';
        is = is;
        is_other = is';
      })

  comparison_settled : (rules others : List Rule) → IsSettled Outcome AreAlike (passing (IsComparison rules others))
  comparison_settled rules others =
      record { value = compared_alike rules others; refusal = λ r s is is'. absurd is; apart = λ o r is is'. is' }

  -- what comes by a basis is determined
  by_basis : (options : Options) (inputs : Inputs) (next : Basis → Stage Outcome) → ((basis : Basis) → IsDeterministic Outcome (next basis))
      → IsSettled Outcome AreAlike (followed_by (basis_stage options inputs) next)
  by_basis options inputs next each =
      settled AreAlike (followed_by (basis_stage options inputs) next) alike
      (determined_both (basis_stage options inputs) next (basis_determined options inputs) each)

  -- what is reported is settled
  by_filter : (options : Options) (inputs : Inputs) (next : FilteredBasis → List ℕ → Stage Outcome)
      → ((by : FilteredBasis) (x : List ℕ) → IsDeterministic Outcome (next by x))
      → IsSettled Outcome AreAlike (followed_by (filtered_stage options inputs) (λ by. followed_by (text_stage inputs.text) (next by)))
  by_filter options inputs next each =
      settled AreAlike (followed_by (filtered_stage options inputs) (λ by. followed_by (text_stage inputs.text) (next by))) alike
      (determined_both (filtered_stage options inputs) (λ by. followed_by (text_stage inputs.text) (next by))
      (filtered_determined options.filter options inputs)
      (λ by. determined_both (text_stage inputs.text) (next by) (text_determined inputs.text) (each by)))

  -- what a command answers is settled
  command_settled : (command : Command) (request : Request) (inputs : Inputs) → IsSettled Outcome AreAlike (command_stage command request inputs)
  command_settled Run request inputs =
      let script = script_stage inputs.script in
      let unit = request.options.unit in
      by_filter request.options inputs (λ by x. followed_by script (replies_stage by unit x))
      (λ by x. determined_both script (replies_stage by unit x) (script_determined laws.scripts inputs.script) (replies_determined by unit x))
  command_settled Tally request inputs =
      let text = text_stage inputs.text in
      let script = script_stage inputs.script in
      by_basis request.options inputs (λ basis. followed_by text (λ x. followed_by script (λ commands. passing (TellTally basis x commands))))
      (λ basis.
      determined_both text (λ x. followed_by script (λ commands. passing (TellTally basis x commands))) (text_determined inputs.text)
      (λ x.
      determined_both script (λ commands. passing (TellTally basis x commands)) (script_determined laws.scripts inputs.script)
      (tally_determined basis (same_boundaries basis) x)))
  command_settled Conform request inputs =
      let tests = tests_stage inputs.tests in
      by_basis request.options inputs (λ basis. followed_by tests (verdicts_stage basis))
      (λ basis. determined_both tests (verdicts_stage basis) (lines_determined ReadsTests laws.tests inputs.tests) (verdicts_determined basis))
  command_settled Breaks request inputs =
      let unit = request.options.unit in
      by_filter request.options inputs (λ by. boundaries_stage by unit) (λ by. boundaries_determined by unit)
  command_settled Demo request inputs =
      let word : List ℕ = nth request.operands 0 in
      settled AreAlike (command_stage Demo request inputs) alike
      (determined_both (passing (IsCount word)) (λ count. followed_by (compiled_bytes_stage [] false demo_rules) (λ rules. passing (TellsSummary count rules)))
      (number_determined word)
      (λ count. determined_both (compiled_bytes_stage [] false demo_rules) (λ rules. passing (TellsSummary count rules))
      (compiled_bytes_determined [] false demo_rules) (summary_determined count)))
  command_settled Check request inputs =
      settled AreAlike (command_stage Check request inputs) alike
      (determined_both (rules_stage request.options inputs) (λ rules. gives (printed (counts_line rules)))
      (rules_determined request.options inputs) (λ rules. gives_determined (printed (counts_line rules))))
  command_settled Upgrade request inputs =
      settled AreAlike (command_stage Upgrade request inputs) alike
      (determined_both (table_stage inputs.table) (λ table. gives (table_outcome (nth request.operands 1) table)) (table_determined inputs.table)
      (λ table. gives_determined (table_outcome (nth request.operands 1) table)))
  command_settled Compile request inputs =
      settled AreAlike (command_stage Compile request inputs) alike
      (determined_both (compiled_stage request.options inputs)
      (λ rules. passing (TellsTable rules (nth request.operands 1))) (compiled_determined request.options inputs)
      (λ rules. passing_determined (TellsTable rules (nth request.operands 1)) (same_table rules (nth request.operands 1))))
  command_settled Same request inputs =
      let files : List rows.File = property_files request.options.properties inputs.properties in
      let ignored = request.options.ignored in
      let second = as_second (compiled_bytes_stage files ignored inputs.other_rules) in
      settled_both (compiled_stage request.options inputs) (second_stage files ignored inputs) AreAlike (compiled_determined request.options inputs)
      (λ rules mean.
      settled_both second (λ others. passing (IsComparison rules others)) AreAlike
      (second_determined (compiled_bytes_stage files ignored inputs.other_rules) (compiled_bytes_determined files ignored inputs.other_rules))
      (λ others mean'. comparison_settled rules others))

  -- a run over files that tell what they hold is settled
  run_settled : (words : List (List ℕ)) (held : List ℕ → List ℕ) → IsSettled Outcome AreAlike (run_stage words held)
  run_settled words held =
      settled_both (words_stage words) (request_stage held) AreAlike (words_determined words)
      (λ request asks.
      settled_both (lengths_stage held (sources_of request)) (λ _. command_stage request.command request (inputs_of held (sources_of request)))
      AreAlike (lengths_determined held (sources_of request))
      (λ _ short. command_settled request.command request (inputs_of held (sources_of request))))

  pub same_outcome : (words : List (List ℕ)) (held : List ℕ → List ℕ) → (one other : Outcome) → IsOutcome words held one
      → IsOutcome words held other → AreAlike one other
  same_outcome words held one other is is' =
      let run = run_settled words held in
      ⊎_elim
      (λ (r, refuses, told). ⊎_elim (λ (s, refuses', told'). inl (told ∙ ap refused (run.refusal r s refuses refuses') ∙ sym told'))
      (λ passes. absurd (run.apart other r passes refuses)) is')
      (λ passes. ⊎_elim (λ (s, refuses, told). absurd (run.apart one s passes refuses)) (λ passes'. run.value one other passes passes') is')
      is
