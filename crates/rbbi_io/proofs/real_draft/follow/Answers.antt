use Rattle.std.proofs.Common.{subst, rules, IfSome, IsTrue}
use Rattle.std.specs.Fs.{file_type, IsSymlink}
use Rattle.rbbi_io.specs.inner.Drafts.{IsOfProcess}
use Rattle.rbbi_io.proofs.real_draft.follow.Goals as goal

pub returns-then-not-is_followed : goal.returns-then-not-is_followed
returns-then-not-is_followed g c =
    let ends : ¬ IsTrue c.is_followed.result = search rules in
    subst (λ path. IfSome c.in_ok-found.found (λ found. IsSymlink (file_type found) → IsOfProcess path)) c.as_path-in-loop.ensures
    (c.is_followed.ensures ends)
