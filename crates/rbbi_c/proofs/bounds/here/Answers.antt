use Rattle.std.proofs.Common.{◌≤◌, ℕ, List, length, sym, subst}
use Rattle.rbbi_session.specs.Sessions.{boundaries_of}
use Rattle.rbbi_session.proofs.Answering.{place_within, none_past}
use Rattle.rbbi_c.proofs.bounds.here.Goals as goal

pub offset-requires : goal.offset-requires
offset-requires c =
    let session = c.args.session.now in
    subst (λ (x : List ℕ). c.current-at.result ≤ length x) (sym c.text.ensures)
    (place_within (boundaries_of session) c.current-at.result (length session.state.text) (none_past session.table session.state.text)
    c.current-at.ensures.boundary)
