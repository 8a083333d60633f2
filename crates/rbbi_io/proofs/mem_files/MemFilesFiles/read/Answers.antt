use Rattle.rbbi_io.proofs.MemoryCalls.{ReadsMemory-failed, ReadsMemory-others, ReadsMemory-calm}
use Rattle.rbbi_io.proofs.mem_files.MemFilesFiles.read.Goals as goal

pub returns-clause-failed : goal.returns-clause-failed
returns-clause-failed c =
    ReadsMemory-failed c.args.self.now c.read_whole.new.self c.args.name.now c.args.limit c.read_whole.result c.read_whole.ensures

pub returns-clause-others : goal.returns-clause-others
returns-clause-others c =
    ReadsMemory-others c.args.self.now c.read_whole.new.self c.args.name.now c.args.limit c.read_whole.result c.read_whole.ensures

pub returns-clause-calm : goal.returns-clause-calm
returns-clause-calm c =
    ReadsMemory-calm c.args.self.now c.read_whole.new.self c.args.name.now c.args.limit c.read_whole.result c.read_whole.ensures
