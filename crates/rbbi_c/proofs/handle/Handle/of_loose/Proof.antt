-- `of_loose` takes the pointer.
use Rattle.std.proofs.Common.{List, [], ◌∷◌, ◌++◌, refl, sym, subst, Some}
use mir.Val.{Val, vptr}
use base.Logic.{SProp, ent, id⊢}
use base.Fml.{ftrue}
use prog.Wp.{WpFn}
use types.Kit.{‵, raw, ◌⊛◌, ◌$◌, ◌∵◌, !, qed, move, drop, split, fsplit, keep, join, suffices, done}
use types.Run.{stop, fld, of_opd, no_more, and_then, returns, enter}
use types.ByLocal.{alloc_all, pass_all, free_all, look_at, get, get_in, sets}
use types.Part.{agg, sub, whole}
use contract.Running.{tables}
use denote.RattleType.{RattleType, owns}
use denote.Exit.{yes}
use denote.RawPtr.{block_ptr}
use denote.Signature.{types_at, plain}
use denote.Steps.{nothing}
use denote.Triple.Walked.{Stays, stay_dropped, walk_of, ends_at, says, Goes-dropped}
use Rattle.std.proofs.raw_atomic.Walks.{proved_at}
use Rattle.std.specs.contracts.alloc.Global as heap
use Rattle.std.proofs.alloc.Global.TheLaws as heap_laws
use Rattle.std.specs.contracts.impls.GlobalAllocator.TheImpl.{ghosts}
use Rattle.rbbi_c.specs.contracts.held.Held as held
use Rattle.rbbi_c.proofs.Values.{both, Loose, loose_good, loose_out}
use Rattle.rbbi_c.proofs.Handles.{one, handle_in}
use Rattle.rbbi_c.specs.contracts.handle.Handle.of_loose as f
use Rattle.rbbi_c.proofs.handle.Handle.of_loose.Statement.{statement}
use Rattle.rbbi_c.proofs.handle.Handle.of_loose.Code as code

pub of_loose_spec : {M : Type 1} → statement M
of_loose_spec 𝓤 𝓛 𝓜 𝓡 wired =
    let R = held.the_row in let Z = heap.the_row in let LZ = heap_laws.the_row_laws in
    let c = f.clauses 𝓛 𝓜.mem 𝓡.returns in let 𝓣 = tables 𝓤 𝓛.H 𝓜 𝓡 𝓡.env in
    let L : RattleType = Loose R Z LZ ghosts in
    let hs : Stays f.ended.signature.params f.ended.kept = (stay_dropped (plain (λ _. L)) yes, tt) in let W = walk_of 𝓛 f.ended hs c in
    proved_at 𝓛 f.ended hs c 𝓜 𝓡 (Goes-dropped 𝓛 0 (plain (λ _. L)) yes (λ κs x f. refl), tt) f.Key.name code.function (code.unfolded 𝓤 𝓛.H 𝓜 𝓡 wired) (λ z are.
    let κs = z.0.0 in let v = z.0.3.0 in let Post : Val → SProp 𝓤 = W.post z in let Run : List Val → SProp 𝓤 = λ ws. WpFn 𝓤 𝓛.H 𝓣.C 𝓣.Λ code.function ws Post in
    qed 𝓛 ((‵ ftrue ⊛ ‵ (owns (types_at f.ended.signature.params κs) z.0.3 z.0.4)) ∷ raw ((c κs z.0.3).requires z.1) ∷ []) ∵ split ! $ drop ! $ fsplit ! $
    loose_out R Z LZ ghosts ! v z.0.4.0 (λ b o h e ws fits.
    let p = block_ptr b o in let typed = loose_good R Z LZ ghosts b o h fits in
    move ! (1 ∷ []) $ drop ! $
    suffices ! (Run (both (vptr b o) h ∷ [])) (subst (λ (us : List Val). ent 𝓤 (Run (both (vptr b o) h ∷
    [])) (Run us)) (sym (λ i. ws i ++ [])) (id⊢ 𝓤 (Run (both (vptr b o) h ∷ [])))) $
    enter ! 𝓣.C 𝓣.Λ code.function (both (vptr b o) h ∷ []) Post $ alloc_all ! (λ l. pass_all ! refl (typed, tt) $
    sets ! (of_opd ! (get_in ! (fld ! refl (stop !)) (sub ! 0 refl (whole !)))) refl (tt, tt) $
    sets ! (of_opd ! (get ! refl)) refl (tt, tt) $
    sets ! (agg ! (and_then ! (get ! refl) (no_more !))) refl (tt, (tt, tt)) $
    returns ! (look_at ! 0 refl) $ free_all ! refl $
    handle_in ! p (Some v.value) $
    suffices ! _ (ends_at 𝓛 f.ended hs c z (one (vptr b o)) (record { at = p; held = Some v.value }) (tt, tt) (tt, tt)) $ says ! refl $
    keep ! (0 ∷ []) $ nothing ! $ nothing ! $ join ! $ nothing ! $ done !)))
