-- Line ends and columns of the characters so far: one character more, and how large they get.
use Rattle.std.proofs.Common.{◌≡◌, ◌≢◌, ℕ, ◌+◌, ◌≤◌, Bool, true, false, cond, eqb, List, [], ◌∷◌, ◌++◌, length, take, refl, ap, ◌∙◌, arith}
use Rattle.std.specs.Prelude.{count_by}
use Rattle.std.proofs.lemmas.Bool.{eq-eqb}
use Rattle.std.proofs.lemmas.Bool.Decides.{nat_tests}
use Rattle.std.proofs.lemmas.List.Sums.{sum_by-append, count_by-le-length}
use Rattle.rbbi_model.specs.Lines.{since_line_end, row_of, column_of}

-- how many line ends there are
abbrev pub line_ends : List ℕ → ℕ
line_ends x = count_by (λ c. eqb c 10) x

-- one character more
ends_more : (x : List ℕ) (c : ℕ) → line_ends (x ++ c ∷ []) ≡ line_ends x + cond (eqb c 10) 1 0
ends_more x c = sum_by-append (λ d. cond (eqb d 10) 1 0) x (c ∷ []) ∙ omega arith

since_more : (before : ℕ) (x : List ℕ) (c : ℕ) → since_line_end before (x ++ c ∷ []) ≡ cond (eqb c 10) 0 (since_line_end before x + 1)
since_more before [] c = refl
since_more before (d ∷ x) c = since_more (cond (eqb d 10) 0 (before + 1)) x c

-- after a line end
pub ends_after_end : (x : List ℕ) (c : ℕ) → c ≡ 10 → line_ends (x ++ c ∷ []) ≡ line_ends x + 1
ends_after_end x c end = ends_more x c ∙ ap (λ b. line_ends x + cond b 1 0) (eq-eqb c 10 end)

pub since_after_end : (x : List ℕ) (c : ℕ) → c ≡ 10 → since_line_end 0 (x ++ c ∷ []) ≡ 0
since_after_end x c end = since_more 0 x c ∙ ap (λ b. cond b 0 (since_line_end 0 x + 1)) (eq-eqb c 10 end)

-- after another character
pub ends_after_other : (x : List ℕ) (c : ℕ) → c ≢ 10 → line_ends (x ++ c ∷ []) ≡ line_ends x
ends_after_other x c other = let more = ends_more x c in grind (arith, nat_tests)

pub since_after_other : (x : List ℕ) (c : ℕ) → c ≢ 10 → since_line_end 0 (x ++ c ∷ []) ≡ since_line_end 0 x + 1
since_after_other x c other = let more = since_more 0 x c in grind (arith, nat_tests)

-- neither is more than the number of characters
pub ends_few : (x : List ℕ) → line_ends x ≤ length x
ends_few x = count_by-le-length (λ c. eqb c 10) x

since_few_from : (before : ℕ) (x : List ℕ) → since_line_end before x ≤ before + length x
since_few_from before [] = omega arith
since_few_from before (c ∷ x) =
    let fresh = since_few_from 0 x in
    let more = since_few_from (before + 1) x in
    let go : (b : Bool) → since_line_end (cond b 0 (before + 1)) x ≤ before + length (c ∷ x) =
    λ b. elim b as (λ b. since_line_end (cond b 0 (before + 1)) x ≤ before + length (c ∷ x)) [
      | true ↦ omega (arith, fresh)
      | false ↦ omega (arith, more)
    ]
    in
    go (eqb c 10)

pub since_few : (x : List ℕ) → since_line_end 0 x ≤ length x
since_few x = omega (arith, since_few_from 0 x)

-- the row and the column at a place, where the characters so far are those before it
pub row_here : (x front : List ℕ) (place row : ℕ) → front ≡ take place x → row ≡ 1 + line_ends front → row ≡ row_of x place
row_here x front place row same is = is ∙ ap (λ w. 1 + line_ends w) same

pub column_here : (x front : List ℕ) (place column : ℕ) → front ≡ take place x → column ≡ 1 + since_line_end 0 front → column ≡ column_of x place
column_here x front place column same is = is ∙ ap (λ w. 1 + since_line_end 0 w) same
