use Rattle.std.proofs.Common.{List, ℕ, [], ◌≡◌, false, subst}
use Rattle.rbbi_model.specs.Compiled.{IsCompiled}
use Rattle.rbbi_props.specs.Rows.{File}
use Rattle.rbbi_tool.specs.inner.Stages.{Serves}
use Rattle.rbbi_tool.specs.Basis.{compiled_bytes_stage}
use Rattle.rbbi_tool.specs.Command.Demo.{demo_rules}
use Rattle.rbbi_tool.proofs.command.demo.built_in.Goals as goal

-- what holds of some files and bytes holds of the built-in rules, if the files are none and the bytes are theirs
of_demo : (P : List File → List ℕ → Type 0) (files : List File) (bytes : List ℕ) → files ≡ [] → bytes ≡ demo_rules → P files bytes → P [] demo_rules
of_demo P files bytes none is holds = subst (λ b. P [] b) is (subst (λ f. P f bytes) none holds)

pub returns : goal.returns
unfolding demo_rules
returns c =
    of_demo (λ files bytes. Serves IsCompiled (compiled_bytes_stage files false bytes) c.table_of_rules.result) c.new-none.result c.as_bytes.result.now
    c.new-none.ensures c.as_bytes.ensures.value c.table_of_rules.ensures
