-- What an edit leaves of a session, and how a session stands that was only read.
use Rattle.std.proofs.Common.{◌≡◌, ℕ, List, ap, Result, Ok, Err}
use Rattle.rbbi_session.specs.UnitSessions.{UnitSession}
use Rattle.rbbi_session.specs.Walks.{Edits}
use Rattle.rbbi_session.specs.UnitWalks.{unit_view}
use Rattle.rbbi_session.specs.declared.unit_error.UnitEditErr.{UnitEditErr}
use Rattle.rbbi_session.specs.declared.unit_error.UnitEditErr.TheVariants.{Outside, Inside, TooLong, Memory}

-- an edit leaves the unit and the table
pub edited-keeps : {T : Type 0} (old : UnitSession) (at removed : ℕ) (inserted : List ℕ) (result : Result T UnitEditErr) (new : UnitSession) (before after : ℕ)
    → Edits unit_view old at removed inserted result new before after → unit_view.setting new ≡ unit_view.setting old
edited-keeps old at removed inserted (Ok done) new before after is = is.same
edited-keeps old at removed inserted (Err Outside) new before after is = ap (λ s. unit_view.setting s) is.1.0
edited-keeps old at removed inserted (Err Inside) new before after is = ap (λ s. unit_view.setting s) is.1.0
edited-keeps old at removed inserted (Err TooLong) new before after is = ap (λ s. unit_view.setting s) is.1.0
edited-keeps old at removed inserted (Err Memory) new before after is = ap (λ s. unit_view.setting s) is.0
