use Rattle.rbbi_io.proofs.MemoryCalls.{WritesMemory-failed, WritesMemory-others, WritesMemory-held}
use Rattle.rbbi_io.proofs.mem_files.MemFilesFiles.write.Goals as goal

pub returns-clause-held : goal.returns-clause-held
returns-clause-held c =
    WritesMemory-held c.args.self.now c.write_whole.new.self c.args.name.now c.args.bytes.now c.write_whole.result c.write_whole.ensures

pub returns-clause-failed : goal.returns-clause-failed
returns-clause-failed c =
    WritesMemory-failed c.args.self.now c.write_whole.new.self c.args.name.now c.args.bytes.now c.write_whole.result c.write_whole.ensures

pub returns-clause-others : goal.returns-clause-others
returns-clause-others c =
    WritesMemory-others c.args.self.now c.write_whole.new.self c.args.name.now c.args.bytes.now c.write_whole.result c.write_whole.ensures
