-- The values of the lines of a file: with one line more, before a bad line, and that they are one list.
use Rattle.std.proofs.Common.{◌≡◌, ◌≢◌, ℕ, ◌+◌, ◌≤◌, List, [], ◌∷◌, ◌++◌, length, take, drop, refl, ap, sym, subst, ◌∙◌, inl, inr, arith}
use Rattle.std.specs.Prelude.{Result, Ok, Err}
use Rattle.std.proofs.lemmas.List.{take_all}
use Rattle.rbbi_text.specs.Bytes.{file_lines}
use Rattle.rbbi_text.specs.declared.line_values.Line.{Line}
use Rattle.rbbi_text.specs.declared.line_values.Line.TheVariants.{Skipped, Writes, Bad}
use Rattle.rbbi_text.specs.declared.error.LinesErr.{LinesErr}
use Rattle.rbbi_text.specs.declared.error.LinesErr.TheVariants.{NotUtf8, BadLine, Memory}
use Rattle.rbbi_text.specs.LineValues.{AreValues, IsFirstBadLine, ReadsLines}
use Rattle.rbbi_text.specs.inner.LineValues.{AddsLine, RefusesLine, ReadsTextLines}
use Rattle.rbbi_text.proofs.Lines.{IsLineAt}

bad_or_skipped : {V : Type 0} (one other : Line V) → one ≡ other → one ≡ Bad → other ≡ Skipped → ⊥
bad_or_skipped one other e is is' = cc

heads : (l m : List ℕ) (ls ms : List (List ℕ)) → l ∷ ls ≡ m ∷ ms → (l ≡ m) × (ls ≡ ms)
heads l m ls ms e = (cc, cc)

module _ {V : Type 0} (IsLine : List ℕ → ℕ → Line V → Type 0) where
  -- one line more
  AreValues-more : (lines : List (List ℕ)) (before : ℕ) (line : List ℕ) (values more : List V) → AreValues IsLine lines before values →
      AddsLine IsLine line (before + length lines + 1) values more → AreValues IsLine (lines ++ line ∷ []) before more
  AreValues-more [] before line values more none (inl (skipped, same)) =
      let number : before + length {A = List ℕ} [] + 1 ≡ before + 1 = omega arith in
      inl (subst (λ n. IsLine line n Skipped) number skipped, same ∙ none)
  AreValues-more [] before line values more none (inr (value, writes, is)) =
      let number : before + length {A = List ℕ} [] + 1 ≡ before + 1 = omega arith in
      inr (value, [], subst (λ n. IsLine line n (Writes value)) number writes, refl, is ∙ ap (λ v. v ++ value ∷ []) none)
  AreValues-more (first ∷ lines) before line values more (inl (skipped, rest)) adds =
      let number : before + length (first ∷ lines) + 1 ≡ before + 1 + length lines + 1 = omega arith in
      inl (skipped, AreValues-more lines (before + 1) line values more rest (subst (λ n. AddsLine IsLine line n values more) number adds))
  AreValues-more (first ∷ lines) before line values more (inr (value, others, writes, rest, is)) (inl (skipped, same)) =
      let number : before + length (first ∷ lines) + 1 ≡ before + 1 + length lines + 1 = omega arith in
      inr (
        value,
        others,
        writes,
        AreValues-more lines (before + 1) line others others rest (inl (subst (λ n. IsLine line n Skipped) number skipped, refl)),
        same ∙ is,
      )
  AreValues-more (first ∷ lines) before line values more (inr (value, others, writes, rest, is)) (inr (last, written, added)) =
      let number : before + length (first ∷ lines) + 1 ≡ before + 1 + length lines + 1 = omega arith in
      inr (
        value,
        others ++ last ∷ [],
        writes,
        AreValues-more lines (before + 1) line others (others ++ last ∷ []) rest
            (inr (last, subst (λ n. IsLine line n (Writes last)) number written, refl)),
        added ∙ ap (λ v. v ++ last ∷ []) is,
      )

  pub next_line : (lines : List (List ℕ)) (number : ℕ) (line : List ℕ) (values more : List V) → AreValues IsLine (take number lines) 0 values →
      IsLineAt lines number line → AddsLine IsLine line (number + 1) values more → AreValues IsLine (take (number + 1) lines) 0 more
  next_line lines number line values more h at adds =
      let counted : number + 1 ≡ 0 + length (take number lines) + 1 = omega (arith, at.before) in
      subst (λ ls. AreValues IsLine ls 0 more) (sym at.taken)
      (AreValues-more (take number lines) 0 line values more h (subst (λ n. AddsLine IsLine line n values more) counted adds))

  pub all_lines : (lines : List (List ℕ)) (number : ℕ) (values : List V) → AreValues IsLine (take number lines) 0 values → length lines ≤ number →
      AreValues IsLine lines 0 values
  all_lines lines number values h all = subst (λ ls. AreValues IsLine ls 0 values) (take_all number lines all) h

  -- at a line that is refused
  pub refused_line : (lines : List (List ℕ)) (number : ℕ) (line : List ℕ) (values : List V) (error : LinesErr) →
      AreValues IsLine (take number lines) 0 values → IsLineAt lines number line → RefusesLine IsLine line (number + 1) error →
      ReadsTextLines IsLine lines (Err error)
  refused_line lines number line values (NotUtf8 at) h here cause = cause
  refused_line lines number line values (BadLine bad) h here cause = record {
    before = take number lines;
    line = line;
    after = drop (number + 1) lines;
    parts = here.parts;
    counted = cause.1 ∙ ap (λ n. n + 1) (sym here.before);
    good = (values, h);
    bad = subst (λ n. IsLine line n Bad) (sym cause.1) cause.0;
  }
  refused_line lines number line values Memory h here cause = tt

  -- where each line is one thing
  module _ (same : (line : List ℕ) (number : ℕ) (one other : Line V) → IsLine line number one → IsLine line number other → one ≡ other) where
    never : {v : V} (line : List ℕ) (number : ℕ) → IsLine line number Skipped → IsLine line number (Writes v) → ⊥
    never {v} line number one other = let clash : Skipped ≡ Writes v = same line number _ _ one other in cc

    not_skipped : (line : List ℕ) (number : ℕ) → IsLine line number Bad → IsLine line number Skipped → ⊥
    not_skipped line number one other = bad_or_skipped _ _ (same line number _ _ one other) refl refl

    not_written : {v : V} (line : List ℕ) (number : ℕ) → IsLine line number Bad → IsLine line number (Writes v) → ⊥
    not_written {v} line number one other = let clash : Bad ≡ Writes v = same line number _ _ one other in cc

    same_value : (v w : V) (line : List ℕ) (number : ℕ) → IsLine line number (Writes v) → IsLine line number (Writes w) → v ≡ w
    same_value v w line number one other = let e : Writes v ≡ Writes w = same line number _ _ one other in cc

    -- lines write one list of values at most
    pub same_values : (lines : List (List ℕ)) (before : ℕ) (these those : List V) → AreValues IsLine lines before these → AreValues IsLine lines before those →
        these ≡ those
    same_values [] before these those none none' = none ∙ sym none'
    same_values (line ∷ lines) before these those (inl (skipped, rest)) (inl (skipped', rest')) = same_values lines (before + 1) these those rest rest'
    same_values (line ∷ lines) before these those (inl (skipped, rest)) (inr (v', others', writes', rest', is')) =
        absurd (never line (before + 1) skipped writes')
    same_values (line ∷ lines) before these those (inr (v, others, writes, rest, is)) (inl (skipped', rest')) = absurd (never line (before + 1) skipped' writes)
    same_values (line ∷ lines) before these those (inr (v, others, writes, rest, is)) (inr (v', others', writes', rest', is')) =
        is ∙ ap (λ x. x ∷ others) (same_value v v' line (before + 1) writes writes')
        ∙ ap (λ vs. v' ∷ vs) (same_values lines (before + 1) others others' rest rest') ∙ sym is'

    -- among lines that write values none is bad
    pub none_bad : (before : List (List ℕ)) (line : List ℕ) (after : List (List ℕ)) (start number : ℕ) (values : List V)
        → AreValues IsLine (before ++ line ∷ after) start values → number ≡ start + length before + 1 → IsLine line number Bad → ⊥
    none_bad [] line after start number values (inl (skipped, rest)) counted bad =
        let here : number ≡ start + 1 = omega (arith, counted) in
        not_skipped line (start + 1) (subst (λ n. IsLine line n Bad) here bad) skipped
    none_bad [] line after start number values (inr (v, others, writes, rest, is)) counted bad =
        let here : number ≡ start + 1 = omega (arith, counted) in
        not_written line (start + 1) (subst (λ n. IsLine line n Bad) here bad) writes
    none_bad (l ∷ before) line after start number values (inl (skipped, rest)) counted bad =
        none_bad before line after (start + 1) number values rest (omega (arith, counted)) bad
    none_bad (l ∷ before) line after start number values (inr (v, others, writes, rest, is)) counted bad =
        none_bad before line after (start + 1) number others rest (omega (arith, counted)) bad

    -- the lines before a line, of which those before it and one more are taken
    pub behind : (before before' : List (List ℕ)) (line line' : List ℕ) (after after' : List (List ℕ)) → before ++ line ∷ after ≡ before' ++ line' ∷ after' →
        length before + 1 ≤ length before' → (between : List (List ℕ)) × (before' ≡ before ++ line ∷ between)
    behind [] [] line line' after after' e less = absurd (omega (arith, less))
    behind [] (m ∷ before') line line' after after' e less =
        (before', ap (λ l. l ∷ before') (sym (heads line m after (before' ++ line' ∷ after') e).0))
    behind (l ∷ before) [] line line' after after' e less = absurd (omega (arith, less))
    behind (l ∷ before) (m ∷ before') line line' after after' e less =
        let parts = heads l m (before ++ line ∷ after) (before' ++ line' ∷ after') e in
        let rest = behind before before' line line' after after' parts.1 (omega (arith, less)) in
        (rest.0, ap (λ l. l ∷ before') (sym parts.0) ∙ ap (λ ls. l ∷ ls) rest.1)

    -- no line before the first bad one is bad
    no_earlier : (lines : List (List ℕ)) (m n : ℕ) → IsFirstBadLine IsLine lines m → IsFirstBadLine IsLine lines n → m + 1 ≤ n → ⊥
    no_earlier lines m n is is' less =
        let split = behind is.before is'.before is.line is'.line is.after is'.after (sym is.parts ∙ is'.parts) (omega (arith, is.counted, is'.counted, less)) in
        none_bad is.before is.line split.0 0 m is'.good.0 (subst (λ ls. AreValues IsLine ls 0 is'.good.0) split.1 is'.good.1) (omega (arith, is.counted)) is.bad

    same_bad_line : (lines : List (List ℕ)) (m n : ℕ) → IsFirstBadLine IsLine lines m → IsFirstBadLine IsLine lines n → m ≡ n
    same_bad_line lines m n is is' =
        let earlier = no_earlier lines m n is is' in
        let later = no_earlier lines n m is' is in
        omega (arith, earlier, later)

    good_or_bad : (lines : List (List ℕ)) (values : List V) (n : ℕ) → AreValues IsLine lines 0 values → IsFirstBadLine IsLine lines n → ⊥
    good_or_bad lines values n good is =
        none_bad is.before is.line is.after 0 n values (subst (λ ls. AreValues IsLine ls 0 values) is.parts good) (omega (arith, is.counted)) is.bad

    -- bytes have one answer, but for running out of memory
    pub one_answer : (bytes : List ℕ) (one other : Result (List V) LinesErr) → ReadsLines IsLine bytes one → ReadsLines IsLine bytes other
        → one ≢ Err Memory → other ≢ Err Memory → one ≡ other
    one_answer bytes (Ok vs) (Ok ws) is is' some some' = ap Ok (same_values (file_lines bytes) 0 vs ws is.1 is'.1)
    one_answer bytes (Ok vs) (Err (NotUtf8 at')) is is' some some' = absurd (is'.not_utf8 is.0)
    one_answer bytes (Ok vs) (Err (BadLine n')) is is' some some' = absurd (good_or_bad (file_lines bytes) vs n' is.1 is'.1)
    one_answer bytes (Ok vs) (Err Memory) is is' some some' = absurd (some' refl)
    one_answer bytes (Err (NotUtf8 at)) (Ok ws) is is' some some' = absurd (is.not_utf8 is'.0)
    one_answer bytes (Err (NotUtf8 at)) (Err (NotUtf8 at')) is is' some some' = ap (λ (n : ℕ). Err (NotUtf8 n)) (is.at_is ∙ sym is'.at_is)
    one_answer bytes (Err (NotUtf8 at)) (Err (BadLine n')) is is' some some' = absurd (is.not_utf8 is'.0)
    one_answer bytes (Err (NotUtf8 at)) (Err Memory) is is' some some' = absurd (some' refl)
    one_answer bytes (Err (BadLine n)) (Ok ws) is is' some some' = absurd (good_or_bad (file_lines bytes) ws n is'.1 is.1)
    one_answer bytes (Err (BadLine n)) (Err (NotUtf8 at')) is is' some some' = absurd (is'.not_utf8 is.0)
    one_answer bytes (Err (BadLine n)) (Err (BadLine n')) is is' some some' = ap (λ (k : ℕ). Err (BadLine k)) (same_bad_line (file_lines bytes) n n' is.1 is'.1)
    one_answer bytes (Err (BadLine n)) (Err Memory) is is' some some' = absurd (some' refl)
    one_answer bytes (Err Memory) other is is' some some' = absurd (some refl)
