use Rattle.std.proofs.Common.{◌∙◌, ap}
use Rattle.rbbi_io.specs.Counts.{one_more}
use Rattle.rbbi_io.proofs.FailingCalls.{IsToFail-found}
use Rattle.rbbi_io.proofs.mem_files.MemFiles.count_call.Goals as goal

pub returns-clause-fails : goal.returns-clause-fails
returns-clause-fails c =
    IsToFail-found c.args.self.now.failing _ c.args.self.now.calls _ c.contains.result
    (c.deref.ensures.value ∙ ap (λ m. m.failing) c.self.view_is)
    (c.saturating_add-self-inside.ensures ∙ ap (λ m. one_more m.calls) c.self.view_is)
    c.contains.ensures.cases
