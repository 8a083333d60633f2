-- What ends in a text from a place on, ends so in the piece of the text that begins there.
use Rattle.std.proofs.Common.{◌≡◌, ℕ, ◌+◌, ◌-◌, ◌≤◌, List, length, take, drop, sym, ap, ◌∙◌, subst, inl, inr, ⊎_elim, arith}
use Rattle.std.specs.Prelude.{slice_range}
use Rattle.std.proofs.lemmas.List.{length-take, length-drop, take-take, drop-take, drop-drop}
use Rattle.rbbi_model.specs.Rules.{Rule, IsWordOf, IsFrontWordOf}
use Rattle.rbbi_model.specs.Chains.{IsPiece, EndsAt, Word, Chained, FrontEndsAt, IsTagAt, AreTags}
use Rattle.rbbi_model.specs.Boundaries.{LookAheadEndsAt}
use Rattle.rbbi_model.proofs.RulesCover.{some_piece, ends_lie}

-- the length of a piece
pub length_piece : (x : List ℕ) (s q : ℕ) → q ≤ length x → length (slice_range x s q) ≡ q - s
length_piece x s q within = omega (arith, length-take (q - s) (drop s x), length-drop s x)

-- a piece of a piece
pub piece_of_piece : (x : List ℕ) (s q a b : ℕ) → a ≤ b → s + b ≤ q → slice_range (slice_range x s q) a b ≡ slice_range x (s + a) (s + b)
piece_of_piece x s q a b low high =
    let m : ℕ = q - s - a in
    let long : q - s ≡ a + m = omega arith in
    let short : b - a ≤ m = omega arith in
    let same : b - a ≡ s + b - (s + a) = omega arith in
    ap (λ n. take (b - a) (drop a (take n (drop s x)))) long
    ∙ ap (λ l. take (b - a) l) (drop-take a m (drop s x))
    ∙ take-take (b - a) m (drop a (drop s x)) short
    ∙ ap (λ l. take (b - a) l) (drop-drop a s x)
    ∙ ap (λ n. take n (drop (s + a) x)) same

piece_to : (Such : List ℕ → Type 0) (x : List ℕ) (s q a b : ℕ) → s ≤ a → b ≤ q → q ≤ length x → IsPiece x a b Such →
    IsPiece (slice_range x s q) (a - s) (b - s) Such
piece_to Such x s q a b low high within piece =
    let order = piece.starts in
    let same : slice_range (slice_range x s q) (a - s) (b - s) ≡ slice_range x a b =
    piece_of_piece x s q (a - s) (b - s) (omega arith) (omega arith)
    ∙ ap (λ n. slice_range x n (s + (b - s))) (let e : s + (a - s) ≡ a = omega arith in e)
    ∙ ap (λ n. slice_range x a n) (let e : s + (b - s) ≡ b = omega arith in e) in
    record { starts = omega arith; ends = omega (arith, length_piece x s q within); word = subst Such (sym same) piece.word }

piece_from : (Such : List ℕ → Type 0) (x : List ℕ) (s q a b : ℕ) → s ≤ q → q ≤ length x → IsPiece (slice_range x s q) a b Such → IsPiece x (s + a) (s + b) Such
piece_from Such x s q a b order within piece =
    let low = piece.starts in
    let high : b ≤ q - s = omega (arith, piece.ends, length_piece x s q within) in
    record { starts = omega arith; ends = omega arith; word = subst Such (piece_of_piece x s q a b low (omega arith)) piece.word }

module _ (rules : List Rule) (x : List ℕ) (s q : ℕ) (order : s ≤ q) (within : q ≤ length x) where
  pub ends_to : (e number : ℕ) → e ≤ q → EndsAt rules x s e number → EndsAt rules (slice_range x s q) 0 (e - s) number
  ends_to _ _ short (Word e number rule is_rule piece) =
      Word (e - s) number rule is_rule (subst (λ a. IsPiece (slice_range x s q) a (e - s) (IsWordOf rule)) (let z : s - s ≡ 0 = omega arith in z)
      (piece_to (IsWordOf rule) x s q s e (omega arith) short within piece))
  ends_to _ _ short (Chained m before e number rule ends is_rule chained_into piece) =
      let earlier = ends_lie rules x s m before ends in
      let further = some_piece x (m - 1) e piece.starts piece.word.0 in
      Chained (m - s) before (e - s) number rule (ends_to m before (omega arith) ends) is_rule chained_into
      (subst (λ a. IsPiece (slice_range x s q) a (e - s) (IsWordOf rule)) (let z : m - 1 - s ≡ m - s - 1 = omega arith in z)
      (piece_to (IsWordOf rule) x s q (m - 1) e (omega (arith, earlier.0)) short within piece))

  pub ends_from : (r number : ℕ) → EndsAt rules (slice_range x s q) 0 r number → EndsAt rules x s (s + r) number
  ends_from _ _ (Word r number rule is_rule piece) =
      Word (s + r) number rule is_rule (subst (λ a. IsPiece x a (s + r) (IsWordOf rule)) (let z : s + 0 ≡ s = omega arith in z)
      (piece_from (IsWordOf rule) x s q 0 r order within piece))
  ends_from _ _ (Chained m before r number rule ends is_rule chained_into piece) =
      let earlier = ends_lie rules (slice_range x s q) 0 m before ends in
      Chained (s + m) before (s + r) number rule (ends_from m before ends) is_rule chained_into
      (subst (λ a. IsPiece x a (s + r) (IsWordOf rule)) (let z : s + (m - 1) ≡ s + m - 1 = omega (arith, earlier.0) in z)
      (piece_from (IsWordOf rule) x s q (m - 1) r order within piece))

  pub look_ahead_to : (e number : ℕ) → e ≤ q → LookAheadEndsAt rules x s e number → LookAheadEndsAt rules (slice_range x s q) 0 (e - s) number
  look_ahead_to e number short ends = record {
    rule = ends.rule;
    is_rule = ends.is_rule;
    looks_ahead = ends.looks_ahead;
    ends =
        ends_to e number short ends.ends;
  }

  pub look_ahead_from : (r number : ℕ) → LookAheadEndsAt rules (slice_range x s q) 0 r number → LookAheadEndsAt rules x s (s + r) number
  look_ahead_from r number ends = record { rule = ends.rule; is_rule = ends.is_rule; looks_ahead = ends.looks_ahead; ends = ends_from r number ends.ends }

  -- at the end of the piece

  here : s + (q - s) ≡ q
  here = omega arith

  at_length : length (slice_range x s q) ≡ q - s
  at_length = length_piece x s q within

  pub ends_to_end : (number : ℕ) → EndsAt rules x s q number → EndsAt rules (slice_range x s q) 0 (length (slice_range x s q)) number
  ends_to_end number ends = subst (λ r. EndsAt rules (slice_range x s q) 0 r number) (sym at_length) (ends_to q number (omega arith) ends)

  pub ends_from_end : (number : ℕ) → EndsAt rules (slice_range x s q) 0 (length (slice_range x s q)) number → EndsAt rules x s q number
  ends_from_end number ends = subst (λ e. EndsAt rules x s e number) (ap (λ r. s + r) at_length ∙ here) (ends_from (length (slice_range x s q)) number ends)

  pub look_ahead_to_end : (number : ℕ) → LookAheadEndsAt rules x s q number → LookAheadEndsAt rules (slice_range x s q) 0 (length (slice_range x s q)) number
  look_ahead_to_end number ends = subst (λ r. LookAheadEndsAt rules (slice_range x s q) 0 r number) (sym at_length) (look_ahead_to q number (omega arith) ends)

  pub look_ahead_from_end : (number : ℕ) → LookAheadEndsAt rules (slice_range x s q) 0 (length (slice_range x s q)) number → LookAheadEndsAt rules x s q number
  look_ahead_from_end number ends = subst (λ e. LookAheadEndsAt rules x s e number) (ap (λ r. s + r) at_length ∙ here)
      (look_ahead_from (length (slice_range x s q)) number ends)

  pub front_to_end : (number : ℕ) → FrontEndsAt rules x s q number → FrontEndsAt rules (slice_range x s q) 0 (length (slice_range x s q)) number
  front_to_end number ends =
      subst (λ r. FrontEndsAt rules (slice_range x s q) 0 r number) (sym at_length)
      (record {
        rule = ends.rule;
        is_rule = ends.is_rule;
        front = ⊎_elim
            (λ piece. inl (subst (λ a. IsPiece (slice_range x s q) a (q - s) (IsFrontWordOf ends.rule)) (let z : s - s ≡ 0 = omega arith in z)
            (piece_to (IsFrontWordOf ends.rule) x s q s q (omega arith) (omega arith) within piece)))
            (λ chained.
            let earlier = ends_lie rules x s chained.m chained.before chained.ends in
            let further = some_piece x (chained.m - 1) q chained.piece.starts chained.piece.word.1 in
            inr (record {
              m = chained.m - s;
              before = chained.before;
              ends = ends_to chained.m chained.before (omega arith) chained.ends;
              chained_into = chained.chained_into;
              piece = subst (λ a. IsPiece (slice_range x s q) a (q - s) (IsFrontWordOf ends.rule))
                  (let z : chained.m - 1 - s ≡ chained.m - s - 1 = omega arith in z)
                  (piece_to (IsFrontWordOf ends.rule) x s q (chained.m - 1) q (omega (arith, earlier.0)) (omega arith) within chained.piece);
            }))
            ends.front;
      })

  pub front_from_end : (number : ℕ) → FrontEndsAt rules (slice_range x s q) 0 (length (slice_range x s q)) number → FrontEndsAt rules x s q number
  front_from_end number ends =
      let r : ℕ = length (slice_range x s q) in
      subst (λ e. FrontEndsAt rules x s e number) (ap (λ n. s + n) at_length ∙ here)
      (record {
        rule = ends.rule;
        is_rule = ends.is_rule;
        front = ⊎_elim
            (λ piece. inl (subst (λ a. IsPiece x a (s + r) (IsFrontWordOf ends.rule)) (let z : s + 0 ≡ s = omega arith in z)
            (piece_from (IsFrontWordOf ends.rule) x s q 0 r order within piece)))
            (λ chained.
            let earlier = ends_lie rules (slice_range x s q) 0 chained.m chained.before chained.ends in
            inr (record {
              m = s + chained.m;
              before = chained.before;
              ends = ends_from chained.m chained.before chained.ends;
              chained_into = chained.chained_into;
              piece = subst (λ a. IsPiece x a (s + r) (IsFrontWordOf ends.rule))
                  (let z : s + (chained.m - 1) ≡ s + chained.m - 1 = omega (arith, earlier.0) in z)
                  (piece_from (IsFrontWordOf ends.rule) x s q (chained.m - 1) r order within chained.piece);
            }))
            ends.front;
      })

  tag_to : (tag : ℕ) → IsTagAt rules x s q tag → IsTagAt rules (slice_range x s q) 0 (length (slice_range x s q)) tag
  tag_to tag at = record { number = at.number; rule = at.rule; is_rule = at.is_rule; ends = ends_to_end at.number at.ends; tagged = at.tagged }

  tag_from : (tag : ℕ) → IsTagAt rules (slice_range x s q) 0 (length (slice_range x s q)) tag → IsTagAt rules x s q tag
  tag_from tag at = record { number = at.number; rule = at.rule; is_rule = at.is_rule; ends = ends_from_end at.number at.ends; tagged = at.tagged }

  pub tags_from_end : (tags : List ℕ) → AreTags rules (slice_range x s q) 0 (length (slice_range x s q)) tags → AreTags rules x s q tags
  tags_from_end tags are =
      record {
        rising = are.rising;
        exactly = λ tag. (
          λ member. ⊎_elim (λ at. inl (tag_from tag at)) (λ none. inr (none.0, λ other at. none.1 other (tag_to other at))) ((are.exactly tag).0 member),
          λ either. (are.exactly tag).1 (⊎_elim (λ at. inl (tag_to tag at)) (λ none. inr (none.0, λ other at. none.1 other (tag_from other at))) either),
        );
      }
