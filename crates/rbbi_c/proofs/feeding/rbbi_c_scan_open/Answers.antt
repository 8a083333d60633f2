use Rattle.std.proofs.Common.{◌∙◌, inl, inr, ⊎_elim}
use Rattle.rbbi_c.proofs.feeding.rbbi_c_scan_open.Goals as goal

pub returns-in-Ok-clause-opened : goal.returns-in-Ok-clause-opened
returns-in-Ok-clause-opened c =
    ⊎_elim
    (λ kept. inl (kept.0, c.if-is_open.ensures.open, (c.in-Ok.desk, c.in-Ok.ensures.told, kept.1)))
    (λ full. inr (full.1 ∙ c.is_open.ensures.same, inr (inr (inr full.0))))
    c.keep.ensures
