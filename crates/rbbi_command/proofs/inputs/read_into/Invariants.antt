use Rattle.rbbi_command.specs.Inputs.{inputs_in}
use Rattle.rbbi_command.specs.Reads.{AreReads}
use Rattle.rbbi_command.proofs.Reading.{ReadsSoFar}
use Rattle.rbbi_command.proofs.inputs.read_into.Given as goal

-- the files before this one were read, in order, and none of the reads was refused
abbrev pub invariant-loop-source : goal.invariant-loop-source
invariant-loop-source g l = record {
  told :
      ReadsSoFar l.sources (g.F.Files.contents l.initial.files) (g.F.Files.contents l.files) (g.F.Files.failed_reads l.initial.files)
      (g.F.Files.failed_reads l.files)
      (g.F.Files.failed_writes l.initial.files) (g.F.Files.failed_writes l.files) l.source-index (inputs_in l.inputs);
  reads : AreReads g.F.Files.read_gives l.sources l.initial.files l.source-index l.files;
}
