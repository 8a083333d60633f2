use Rattle.std.proofs.Common.{ap, ◌∙◌}
use Rattle.rbbi_io.specs.Memory.{held_by}
use Rattle.rbbi_io.proofs.NamedFiles.{held_by-with_file, held_by-with_other}
use Rattle.rbbi_io.proofs.calm_files.CalmFilesFiles.write.Goals as goal

pub returns-clause-held : goal.returns-clause-held
returns-clause-held c = (
  ap (λ m. held_by m.files c.args.name.now) c.in_ok-add.ensures.ok ∙ held_by-with_file c.self.inside.files.items c.args.name.now c.args.bytes.now,
  λ other ne.
      ap (λ m. held_by m.files other) c.in_ok-add.ensures.ok
      ∙ held_by-with_other c.self.inside.files.items c.args.name.now c.args.bytes.now other ne
      ∙ ap (λ m. held_by m.files other) c.self.view_is,
)
