-- What is skipped from a place on is determined, and goes forward.
use Rattle.std.proofs.Common.{◌≡◌, ℕ, zero, suc, ◌+◌, ◌≤◌, ◌<◌, ◌⊎◌, inl, inr, false, List, length, refl, sym, ap, subst, ◌∙◌, arith, slice_get}
use Rattle.std.proofs.lemmas.Bool.{false≢true, eqb-true, cases_Bool, cases_lt}
use Rattle.std.specs.Prelude.{Option, None, Some, IsTrue}
use Rattle.ucd_props.specs.Binary.{is_pattern_white_space}
use Rattle.ucd_props.specs.Ranges.{pattern_white_space_ranges}
use Rattle.ucd_table.specs.Rows.{in_ranges}
use Rattle.rbbi_lex.specs.declared.state.State.{State}
use Rattle.rbbi_lex.specs.declared.stretch.Stretch.TheVariants.{CommentText}
use Rattle.rbbi_lex.specs.Characters.{is_sign, passes}
use Rattle.rbbi_lex.specs.Stretches.{stretch_end}
use Rattle.rbbi_lex.specs.Points.{is_at}
use Rattle.rbbi_lex.specs.Skips.{Piece, SkippedIn, Skipped}
use Rattle.rbbi_lex.proofs.StretchLemmas.{stretch_end-within, is_at-within, passes-within}

-- `#` isn't white space
white_sign : (o : Option ℕ) → IsTrue (passes is_pattern_white_space o) → IsTrue (is_sign o 35) → ⊥
unfolding is_pattern_white_space in_ranges pattern_white_space_ranges
white_sign None w s = false≢true w
white_sign (Some c) w s =
    let e : c ≡ 35 = eqb-true c 35 s in
    false≢true (sym (ap is_pattern_white_space e) ∙ w)

Piece-unique : (x : List ℕ) (state : State) (i j k : ℕ) → Piece x state i j → Piece x state i k → j ≡ k
Piece-unique x state i j k (inl p) (inl q) = p.1 ∙ sym q.1
Piece-unique x state i j k (inl p) (inr q) = absurd (white_sign (slice_get x i) p.0 q.1)
Piece-unique x state i j k (inr p) (inl q) = absurd (white_sign (slice_get x i) q.0 p.1)
Piece-unique x state i j k (inr p) (inr q) = p.2 ∙ sym q.2

Piece-within : (x : List ℕ) (state : State) (i j : ℕ) → Piece x state i j → i < length x
Piece-within x state i j (inl p) = passes-within is_pattern_white_space x i p.0
Piece-within x state i j (inr p) = is_at-within x i 35 p.1

-- a piece goes forward
pub Piece-forward : (x : List ℕ) (state : State) (i j : ℕ) → Piece x state i j → i < j
Piece-forward x state i j (inl p) = omega (arith, p.1)
Piece-forward x state i j (inr p) = omega (arith, p.2)

-- a piece ends within the text
pub Piece-ends : (x : List ℕ) (state : State) (i j : ℕ) → Piece x state i j → j ≤ length x
Piece-ends x state i j (inl p) =
    let within = passes-within is_pattern_white_space x i p.0 in omega (arith, p.1)
Piece-ends x state i j (inr p) =
    let within = is_at-within x i 35 p.1 in
    let ends = stretch_end-within CommentText x (i + 1) (omega arith) in omega (arith, p.2, ends)

-- where no piece begins, nothing is skipped
pub Skipped-none : (x : List ℕ) (state : State) (i : ℕ) → ((j : ℕ) → ¬ Piece x state i j) → Skipped x state i i
Skipped-none x state i none = (zero, (refl, none))

-- nothing is skipped at the end
pub Skipped-at_end : (x : List ℕ) (state : State) (i : ℕ) → length x ≤ i → Skipped x state i i
Skipped-at_end x state i h =
    Skipped-none x state i (λ j p. let within = Piece-within x state i j p in omega arith)

-- nothing is skipped at a character that is no white space and begins no comment
pub no_piece : (x : List ℕ) (state : State) (i j : ℕ) → passes is_pattern_white_space (slice_get x i) ≡ false → ((0 < state.depth) ⊎ (is_at x i 35 ≡ false)) →
    Piece x state i j → ⊥
no_piece x state i j plain other (inl p) = false≢true (sym plain ∙ p.0)
no_piece x state i j plain (inl inside) (inr p) = absurd (omega (arith, inside, p.0))
no_piece x state i j plain (inr other) (inr p) = false≢true (sym other ∙ p.1)

-- a piece begins at a place, or none
pub decide_piece : (x : List ℕ) (state : State) (i : ℕ) → ((j : ℕ) × Piece x state i j) ⊎ ((j : ℕ) → ¬ Piece x state i j)
decide_piece x state i =
    elim (cases_Bool (passes is_pattern_white_space (slice_get x i))) [
      | inl white ↦ inl (i + 1, inl (white, refl))
      | inr plain ↦
          elim (cases_lt 0 state.depth) [
            | inl inside ↦ inr (λ j p. no_piece x state i j plain (inl inside) p)
            | inr outside ↦
                elim (cases_Bool (is_at x i 35)) [
                  | inl sign ↦ inl (stretch_end CommentText x (i + 1), inr (omega arith, sign, refl))
                  | inr other ↦ inr (λ j p. no_piece x state i j plain (inr other) p)
                ]
          ]
    ]

-- a piece more in front
pub Skipped-more : (x : List ℕ) (state : State) (i j k : ℕ) → Piece x state i j → Skipped x state j k → Skipped x state i k
Skipped-more x state i j k p s = (suc s.0, (j, p, s.1))

SkippedIn-forward : (x : List ℕ) (state : State) (n i k : ℕ) → SkippedIn x state n i k → i ≤ k
SkippedIn-forward x state zero i k s = omega arith
SkippedIn-forward x state (suc n) i k s =
    let rest = SkippedIn-forward x state n s.0 k s.2 in
    let step = Piece-forward x state i s.0 s.1 in omega arith

-- skipping goes forward
pub Skipped-forward : (x : List ℕ) (state : State) (i k : ℕ) → Skipped x state i k → i ≤ k
Skipped-forward x state i k s = SkippedIn-forward x state s.0 i k s.1

SkippedIn-unique : (x : List ℕ) (state : State) (n m i j k : ℕ) → SkippedIn x state n i j → SkippedIn x state m i k → j ≡ k
SkippedIn-unique x state zero zero i j k s t = cc
SkippedIn-unique x state zero (suc m) i j k s t =
    absurd (s.1 t.0 (subst (λ (v : ℕ). Piece x state v t.0) s.0 t.1))
SkippedIn-unique x state (suc n) zero i j k s t =
    absurd (t.1 s.0 (subst (λ (v : ℕ). Piece x state v s.0) t.0 s.1))
SkippedIn-unique x state (suc n) (suc m) i j k s t =
    let same = Piece-unique x state i t.0 s.0 t.1 s.1 in
    SkippedIn-unique x state n m s.0 j k s.2 (subst (λ (v : ℕ). SkippedIn x state m v k) same t.2)

-- skipping ends at one place
pub Skipped-unique : (x : List ℕ) (state : State) (i j k : ℕ) → Skipped x state i j → Skipped x state i k → j ≡ k
Skipped-unique x state i j k s t = SkippedIn-unique x state s.0 t.0 i j k s.1 t.1
