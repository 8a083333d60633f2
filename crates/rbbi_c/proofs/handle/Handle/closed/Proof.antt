-- `closed` makes a handle of the null pointer.
use Rattle.std.proofs.Common.{[], ◌∷◌, refl, lit<, None}
use base.Logic.{emp}
use types.Kit.{raw, ◌$◌, ◌∵◌, !, qed, drop, feq_i, suffices, done}
use types.Run.{lit, no_more, and_then, returns, enter}
use types.ByLocal.{alloc_all, pass_all, free_all, look_at, sets}
use types.Part.{agg}
use denote.RawPtr.{Ptr, null_ptr, ptr_val}
use denote.Steps.{nothing}
use denote.Triple.Entry.{on_entry}
use denote.Triple.Walked.{Stays, walk_of, ends_at, says}
use Rattle.std.proofs.raw_atomic.Walks.{proved}
use Rattle.rbbi_c.proofs.Handles.{one, handle_in}
use Rattle.rbbi_c.specs.contracts.handle.Handle.closed as f
use Rattle.rbbi_c.proofs.handle.Handle.closed.Statement.{statement}
use Rattle.rbbi_c.proofs.handle.Handle.closed.Code as code

abbrev stayed : Stays f.ended.signature.params f.ended.kept
stayed = tt

pub closed_spec : {M : Type 1} → statement M
closed_spec 𝓤 𝓛 𝓜 𝓡 wired =
    let c = f.clauses 𝓛 𝓜.mem 𝓡.returns in let W = walk_of 𝓛 f.ended stayed c in
    proved 𝓛 f.ended stayed c 𝓜 𝓡 tt f.Key.name code.function (code.unfolded 𝓤 𝓛.H 𝓜 𝓡 wired) (λ κs. tt) (λ κs. tt) (λ κs qs bounds a g are.
    let y : W.Ghost = ((κs, qs, bounds, a, tt), g) in
    qed 𝓛 (raw (on_entry 𝓛 f.signature κs qs a tt) ∷ raw (emp 𝓤) ∷ []) ∵ drop ! $ drop ! $ enter ! _ _ _ _ _ $ alloc_all ! (λ l. pass_all ! refl tt $
    sets ! (agg ! (and_then ! (lit ! tt) (no_more !))) refl (tt, (record { fits = lit< tt }, tt)) $
    returns ! (look_at ! 0 refl) $ free_all ! refl $ feq_i ! Ptr null_ptr null_ptr refl $ handle_in ! null_ptr None $
    suffices ! _ (ends_at 𝓛 f.ended stayed c y (one (ptr_val null_ptr)) (record { at = null_ptr; held = None }) tt tt) $ says ! refl $ nothing ! $ nothing ! $
    done !))
