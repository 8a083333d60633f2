-- Kinds of moves.
use Rattle.std.proofs.Common.{◌≡◌, ℕ, ◌<◌, Bool, true, false, ltb, List, refl, sym, ap, ◌∙◌, subst}
use Rattle.std.proofs.Math.Bool.{not, beq}
use Rattle.rbbi_model.specs.Tables.{RowHead}
use Rattle.rbbi_table.specs.Kinds.{AreKinds}

-- kinds that are the same for each category
pub same_kinds : {categories : ℕ} {rows : List RowHead} {cells : List ℕ} {row : ℕ} (kind kind' : ℕ → ℕ) →
    ((k : ℕ) → k < categories → kind' k ≡ kind k) → AreKinds categories rows cells kind row → AreKinds categories rows cells kind' row
same_kinds {categories} {rows} {cells} {row} kind kind' same are k short =
    let own = are k short in
    record {
      few = subst (λ n. n < 4) (sym (same k short)) own.few;
      ends = ap (λ n. ltb n 3) (same k short) ∙ own.ends;
      forgets = λ zero d low.
          let like = own.forgets (sym (same k short) ∙ zero) d low in
          record {
            forgets = λ is. like.forgets (sym (same d low) ∙ is);
            stays = λ is. like.stays (sym (same d low) ∙ is);
          };
      stays = λ one. own.stays (sym (same k short) ∙ one);
    }

pub same_answers : (a b : Bool) → not (beq a b) ≡ false → a ≡ b
same_answers true true is = refl
same_answers false false is = refl
same_answers true false is = cc
same_answers false true is = cc
