-- The machine value of a handle. Assumes `Logic`.
use Rattle.std.proofs.Common.{◌≡◌, List, [], ◌∷◌, ◌++◌, refl, subst, lit<, ℕ, None, Some}
use seplogic.Ra.Ura.{Ura}
use lib.Dec.{T}
use mir.Syntax.{ty_ptr}
use mir.Val.{Val, vstruct, vcons, vnil, of_list, has_ty, WT}
use types.Logic.{Logic, sem}
use mir.Raw.{raw as bare}
use base.Logic.{ent, guard, guard_i, via, snd∗, fst∗, never}
use base.Fraction.{full_share}
use contract.Monad.{fact_use}
use denote.Memory.{lone}
use types.Kit.{Item, Goal, Seq, Step, step, ‵, ◌$◌, drop, fsplit, fjoin, fpick, fpack, feq_i, feq_l, use1, given, learn}
use denote.RattleType.{Valss}
use denote.Builtin.{RawPtr}
use denote.RawPtr.{Ptr, block_ptr, null_ptr, ptr_val, Testable, in_a_block, lies_at}
use denote.Steps.{nothing}
use denote.Struct.Struct.{within}
use denote.Struct.Owning.{shape}
use Rattle.std.specs.Prelude.{Option}
use Rattle.rbbi_c.specs.declared.held.Held.{Held}
use Rattle.std_alloc.specs.Box.Ownership.{box_owns}
use Rattle.std.proofs.GlobalToken.{dealloc_token-Testable}
use Rattle.std.specs.declared.alloc.Global.{Global}
use Rattle.rbbi_c.specs.contracts.held.Held as held
use Rattle.rbbi_c.specs.Owning.{owns, token}
use Rattle.rbbi_c.specs.contracts.handle.Handle as handle

abbrev pub one : Val → Val
one v = vstruct (vcons v vnil)

pub ptr_good : (p : Ptr) → T (has_ty ty_ptr (ptr_val p)) × WT (ptr_val p)
ptr_good (block_ptr b o) = (tt, tt)
ptr_good null_ptr = (tt, record { fits = lit< tt })

module _ {M : Type 1} {𝓤 : Ura M} {𝓛 : Logic 𝓤} {K : Type 0} {Γ : List (Item 𝓤)} {G : Goal 𝓤 𝓛.H} where
  pub handle_out : K → (d : handle.the_row.Denot) (vs : List Val) → (vs ≡ one (ptr_val d.at) ∷ [] → Seq K 𝓛 (‵ (owns d.at d.held) ∷ Γ) G) →
      Seq K 𝓛 (‵ (handle.the_row.own_val d vs) ∷ Γ) G
  handle_out t d vs k = fsplit t $ fpick t (λ vss. fsplit t $ feq_l t (λ ev. fsplit t $ feq_l t (λ ep. drop t $
      k (subst (λ (ps : List Val). vs ≡ vstruct (of_list (ps ++ [])) ∷ []) ep ev))))

  pub handle_in : K → (p : Ptr) (x : Option Held) → Step K 𝓛 (‵ (handle.the_row.own_val (record { at = p; held = x }) (one (ptr_val p) ∷ [])) ∷
      Γ) G (‵ (owns p x) ∷ Γ) G
  handle_in t p x = step (λ s. let v : Val = one (ptr_val p) in nothing t $ feq_i t (List Val) (ptr_val p ∷ []) (ptr_val p ∷ []) refl $ fjoin t $
      feq_i t (List Val) (v ∷ []) (v ∷ []) refl $ fjoin t $
      fpack t (Valss (RawPtr ∷ [])) (within (shape handle.the_type) (p, tt) (v ∷ [])) (ptr_val p ∷ [], tt) $ fjoin t $ s)

-- a box may be compared with null
tested : {M : Type 1} {𝓤 : Ura M} (𝓛 : Logic 𝓤) (a : Global) (p : Ptr) (x : Held) → ent 𝓤 (sem 𝓛 (box_owns token held.the_row p x)) (guard 𝓤 (Testable p) (sem 𝓛
    (box_owns token held.the_row p x)))
tested {𝓤 = 𝓤} 𝓛 a p x = let B = sem 𝓛 (box_owns token held.the_row p x) in
    fact_use 𝓤 (Testable p) (via 𝓤 _ (snd∗ 𝓤 (sem 𝓛 (lies_at held.the_row full_share p x)) (sem 𝓛 (token (bare (lone held.the_row.mir)) p)))
    (dealloc_token-Testable 𝓛 a (bare (lone held.the_row.mir)) p)) (guard_i 𝓤 (Testable p) B)

module _ {M : Type 1} {𝓤 : Ura M} {𝓛 : Logic 𝓤} {K : Type 0} {Γ : List (Item 𝓤)} {G : Goal 𝓤 𝓛.H} where
  -- a handle holds nothing and is null, or it holds a box, which may be compared with null
  pub either : K → (a : Global) (p : Ptr) (x : Option Held) → (p ≡ null_ptr → x ≡ None → Seq K 𝓛 Γ G)
      → ((b o : ℕ) (y : Held) → p ≡ block_ptr b o → x ≡ Some y → Testable (block_ptr b o) → Seq K 𝓛 (‵ (box_owns token held.the_row (block_ptr b o) y) ∷
      Γ) G) → Seq K 𝓛 (‵ (owns p x) ∷ Γ) G
  either t a p None none full = feq_l t (λ e. none e refl)
  either t a p (Some y) none full = in_a_block t p (λ q. box_owns token held.the_row q y) (fst∗ 𝓤 (never 𝓤) (sem 𝓛 (token (bare (lone held.the_row.mir))
      null_ptr))) (λ b o e.
      use1 𝓛 (given (Testable (block_ptr b o)) (‵ (box_owns token held.the_row (block_ptr b o) y))) (tested 𝓛 a (block_ptr b o) y) $
      learn t (λ may. full b o y e refl may))
