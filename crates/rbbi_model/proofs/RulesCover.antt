-- The boundaries by rules cover the text.
use Rattle.std.proofs.Common.{◌≡◌, ◌≢◌, ℕ, ◌-◌, ◌<◌, ◌≤◌, List, [], ◌∷◌, length, take, drop, ap, ⊎_elim, arith}
use Rattle.std.specs.Prelude.{slice_range}
use Rattle.std.proofs.lemmas.Bool.{cases_lt}
use Rattle.rbbi_model.specs.Lists.{IsRising}
use Rattle.rbbi_model.specs.Rules.{Rule}
use Rattle.rbbi_model.specs.Chains.{EndsAt, Word, Chained, FrontEndsAt}
use Rattle.rbbi_model.specs.Boundaries.{Boundary, IsNext, Follow, AreBoundaries}
use Rattle.rbbi_model.specs.Cover.{places, end_of, CoverText}

-- a piece that isn't empty ends past its start
pub some_piece : (x : List ℕ) (s e : ℕ) → s ≤ e → slice_range x s e ≢ [] → s < e
some_piece x s e starts some =
    ⊎_elim (λ less. less) (λ past. absurd (some (let none : e - s ≡ 0 = omega arith in ap (λ n. take n (drop s x)) none))) (cases_lt s e)

module _ (rules : List Rule) (x : List ℕ) (s : ℕ) where
  pub ends_lie : (e number : ℕ) → EndsAt rules x s e number → (s < e) × (e ≤ length x)
  ends_lie _ _ (Word e number rule is_rule piece) = (some_piece x s e piece.starts piece.word.0, piece.ends)
  ends_lie _ _ (Chained m before e number rule ends is_rule chained_into piece) =
      let earlier = ends_lie m before ends in
      let further = some_piece x (m - 1) e piece.starts piece.word.0 in
      (omega (arith, earlier.0), piece.ends)

  pub front_lies : (q number : ℕ) → FrontEndsAt rules x s q number → (s < q) × (q ≤ length x)
  front_lies q number ends =
      ⊎_elim
      (λ piece. (some_piece x s q piece.starts piece.word.1, piece.ends))
      (λ chained.
      let earlier = ends_lie chained.m chained.before chained.ends in
      let further = some_piece x (chained.m - 1) q chained.piece.starts chained.piece.word.1 in
      (omega (arith, earlier.0), chained.piece.ends))
      ends.front

  next_lies : (b : Boundary) → s < length x → IsNext rules x s b → (s < b.at) × (b.at ≤ length x)
  next_lies b short next =
      ⊎_elim
      (λ cut. front_lies b.at cut.number cut.front)
      (⊎_elim (λ longest. ends_lie b.at longest.ends.0 longest.ends.1) (λ single. (omega (arith, single.at), omega (arith, single.at))))
      next

follow_covers : (rules : List Rule) (x : List ℕ) (last : Boundary) (bs : List Boundary) → Follow rules x last bs → IsRising (places (last ∷ bs)) ×
    (end_of (last ∷ bs) ≡ length x)
follow_covers rules x last [] follow = (tt, follow)
follow_covers rules x last (b ∷ bs) follow =
    let rest = follow_covers rules x b bs follow.2 in
    (((next_lies rules x last.at b follow.0 follow.1).0, rest.0), rest.1)

pub rules_cover : (rules : List Rule) (x : List ℕ) (bs : List Boundary) → AreBoundaries rules x bs → CoverText (length x) bs
rules_cover rules x [] are = absurd are
rules_cover rules x (b ∷ bs) are =
    let covers = follow_covers rules x b bs are.1 in
    record { begin = ap (λ c. c.at) are.0; rise = covers.0; reach = covers.1 }
