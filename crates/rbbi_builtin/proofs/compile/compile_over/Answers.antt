-- What was added is taken away again.
use Rattle.std.proofs.Common.{length, take, ap, ◌∙◌}
use Rattle.std.proofs.Math.Seq.{take-append_seam}
use Rattle.rbbi_builtin.proofs.compile.compile_over.Goals as goal

pub returns-clause-same : goal.returns-clause-same
returns-clause-same c =
    c.truncate.ensures ∙ ap (λ n. take n c.add_asked_for-added.new.files) c.len-given.ensures
    ∙ ap (take (length c.args.files.now)) c.add_asked_for-added.ensures.behind.whole
    ∙ take-append_seam c.args.files.now c.add_asked_for-added.ensures.behind.added
