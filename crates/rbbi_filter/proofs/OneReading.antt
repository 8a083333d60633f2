-- The bytes of a file of abbreviations, and of a tailoring file, have one answer.
use Rattle.std.proofs.Common.{◌≡◌, ℕ, ◌+◌, ◌≤◌, true, false, eqb, List, [], ◌∷◌, ◌++◌, Some, None, refl, sym, ap, ◌∙◌, subst, inl, inr, ⊎_elim, arith}
use Rattle.std.specs.Prelude.{Ok, Err}
use Rattle.std.proofs.lemmas.Bool.{cond-false, eqb-false, ne_eqb}
use Rattle.rbbi_text.specs.Bytes.{file_lines}
use Rattle.rbbi_text.specs.LineValues.{AreValues}
use Rattle.rbbi_text.specs.declared.line_values.Line.{Line}
use Rattle.rbbi_text.specs.declared.line_values.Line.TheVariants.{Skipped, Writes, Bad}
use Rattle.rbbi_text.specs.declared.error.LinesErr.TheVariants.{NotUtf8, BadLine, Memory}
use Rattle.rbbi_text.proofs.LineValues.{same_values, none_bad, behind, one_answer}
use Rattle.rbbi_filter.specs.AbbreviationFiles.{IsAbbreviation, IsAbbreviationLine, ReadsAbbreviations}
use Rattle.rbbi_filter.specs.declared.pair.Pair.{Pair}
use Rattle.rbbi_filter.specs.Pairs.{second_of}
use Rattle.rbbi_filter.specs.PairFiles.{IsPairLine, AreDistinct, IsFirstBadPair, ReadsPairs}
use Rattle.rbbi_filter.specs.Laws.{HaveOneAnswer}
use Rattle.rbbi_filter.proofs.Turning.{not_head}

-- a line of a file of abbreviations is one thing
same_abbreviation : (line : List ℕ) (number : ℕ) (one other : Line (List ℕ)) → IsAbbreviationLine line number one
    → IsAbbreviationLine line number other → one ≡ other
same_abbreviation line number Skipped Skipped is is' = refl
same_abbreviation line number Skipped (Writes w) is is' = absurd (is'.0 is)
same_abbreviation line number Skipped Bad is is' = absurd (is'.0 is)
same_abbreviation line number (Writes v) Skipped is is' = absurd (is.0 is')
same_abbreviation line number (Writes v) (Writes w) is is' = ap Writes (is.1 ∙ sym is'.1)
same_abbreviation line number (Writes v) Bad is is' = absurd (is'.1 (subst IsAbbreviation is.1 is.2))
same_abbreviation line number Bad Skipped is is' = absurd (is.0 is')
same_abbreviation line number Bad (Writes w) is is' = absurd (is.1 (subst IsAbbreviation is'.1 is'.2))
same_abbreviation line number Bad Bad is is' = refl

pub one_list : HaveOneAnswer ReadsAbbreviations
one_list = one_answer IsAbbreviationLine same_abbreviation

no_both : true ≡ false → ⊥
no_both same = cc

some_pair : (p q : Pair) → Some p ≡ Some q → p ≡ q
some_pair p q same = cc

none_pair : (p : Pair) → Some p ≡ None → ⊥
none_pair p same = cc

-- a line of a tailoring file is one thing by itself
same_pair : (line : List ℕ) (number : ℕ) (one other : Line Pair) → IsPairLine line number one → IsPairLine line number other → one ≡ other
same_pair line number Skipped Skipped is is' = refl
same_pair line number Skipped (Writes q) is is' = absurd (no_both (sym is ∙ is'.0))
same_pair line number Skipped Bad is is' = absurd (no_both (sym is ∙ is'.0))
same_pair line number (Writes p) Skipped is is' = absurd (no_both (sym is' ∙ is.0))
same_pair line number (Writes p) (Writes q) is is' = ap Writes (some_pair p q (sym is.1 ∙ is'.1))
same_pair line number (Writes p) Bad is is' = absurd (none_pair p (sym is.1 ∙ is'.1))
same_pair line number Bad Skipped is is' = absurd (no_both (sym is' ∙ is.0))
same_pair line number Bad (Writes q) is is' = absurd (none_pair q (sym is'.1 ∙ is.1))
same_pair line number Bad Bad is is' = refl

-- the pairs of lines, of which one writes this pair
split_values : (before : List (List ℕ)) (line : List ℕ) (after : List (List ℕ)) (start number : ℕ) (all pairs : List Pair) (pair : Pair) →
    AreValues IsPairLine (before ++ line ∷ after) start all → AreValues IsPairLine before start pairs → IsPairLine line number (Writes pair) →
    (rest : List Pair) × (all ≡ pairs ++ pair ∷ rest)
split_values [] line after start number all pairs pair (inl (skipped, rest)) none is = absurd (no_both (sym skipped ∙ is.0))
split_values [] line after start number all pairs pair (inr (first, others, is', rest, same)) none is = (
  others,
  same ∙ ap (λ p. p ∷ others) (some_pair first pair (sym is'.1 ∙ is.1)) ∙ ap (λ ps. ps ++ pair ∷ others) (sym none),
)
split_values (l ∷ before) line after start number all pairs pair (inl (skipped, rest)) (inl (skipped', rest')) is =
    split_values before line after (start + 1) number all pairs pair rest rest' is
split_values (l ∷ before) line after start number all pairs pair (inl (skipped, rest)) (inr (p, ps, is', rest', same')) is =
    absurd (no_both (sym skipped ∙ is'.0))
split_values (l ∷ before) line after start number all pairs pair (inr (p, ps, is', rest, same)) (inl (skipped', rest')) is =
    absurd (no_both (sym skipped' ∙ is'.0))
split_values (l ∷ before) line after start number all pairs pair (inr (p, ps, is', rest, same)) (inr (q, qs, is'', rest', same')) is =
    let others = split_values before line after (start + 1) number ps qs pair rest rest' is in (
      others.0,
      same
          ∙ ap (λ r. r ∷ ps) (some_pair p q (sym is'.1 ∙ is''.1))
          ∙ ap (λ r. q ∷ r) others.1
          ∙ ap (λ r. r ++ pair ∷ others.0) (sym same'),
    )

-- what a list of pairs doesn't turn is apart from each first character
other_apart : (pairs : List Pair) (pair : Pair) (rest : List Pair) (c : ℕ) → second_of (pairs ++ pair ∷ rest) c ≡ None → eqb pair.from c ≡ false
other_apart [] pair rest c none = (not_head pair rest c none).0
other_apart (head ∷ pairs) pair rest c none = other_apart pairs pair rest c (not_head head (pairs ++ pair ∷ rest) c none).1

-- of pairs with distinct first characters none before one has its first character
apart_before : (pairs : List Pair) (pair : Pair) (rest : List Pair) → AreDistinct (pairs ++ pair ∷ rest) → second_of pairs pair.from ≡ None
apart_before [] pair rest distinct = refl
apart_before (head ∷ pairs) pair rest distinct =
    let none = other_apart pairs pair rest head.from distinct.0 in
    cond-false (eqb head.from pair.from) (Some head.to) (second_of pairs pair.from)
    (ne_eqb head.from pair.from (λ same. eqb-false pair.from head.from none (sym same)))
    ∙ apart_before pairs pair rest distinct.1

-- lines whose pairs have distinct first characters don't begin with a first bad one and those before it
none_bad_pair : (lines : List (List ℕ)) (number : ℕ) (is : IsFirstBadPair lines number) (after : List (List ℕ)) (all : List Pair) →
    AreValues IsPairLine (is.before ++ is.line ∷ after) 0 all → AreDistinct all → ⊥
none_bad_pair lines number is after all each distinct =
    ⊎_elim (λ bad. none_bad IsPairLine same_pair is.before is.line after 0 number all each (omega (arith, is.counted)) bad)
    (λ twice.
    let parts = split_values is.before is.line after 0 number all is.pairs twice.0 each is.are twice.2 in
    none_second twice.1
    (sym twice.3 ∙ apart_before is.pairs twice.0 parts.0 (subst AreDistinct parts.1 distinct)))
    is.bad
  where
    none_second : (c : ℕ) → Some c ≡ None → ⊥
    none_second c same = cc

-- no line before the first bad one is bad
no_earlier : (lines : List (List ℕ)) (m n : ℕ) → IsFirstBadPair lines m → IsFirstBadPair lines n → m + 1 ≤ n → ⊥
no_earlier lines m n is is' less =
    let split = behind IsPairLine same_pair is.before is'.before is.line is'.line is.after is'.after (sym is.parts ∙ is'.parts)
    (omega (arith, is.counted, is'.counted, less)) in
    none_bad_pair lines m is split.0 is'.pairs (subst (λ ls. AreValues IsPairLine ls 0 is'.pairs) split.1 is'.are) is'.distinct

same_bad : (lines : List (List ℕ)) (m n : ℕ) → IsFirstBadPair lines m → IsFirstBadPair lines n → m ≡ n
same_bad lines m n is is' =
    let earlier = no_earlier lines m n is is' in
    let later = no_earlier lines n m is' is in
    omega (arith, earlier, later)

good_or_bad : (lines : List (List ℕ)) (pairs : List Pair) (n : ℕ) → AreValues IsPairLine lines 0 pairs → AreDistinct pairs → IsFirstBadPair lines n → ⊥
good_or_bad lines pairs n each distinct is =
    none_bad_pair lines n is is.after pairs (subst (λ ls. AreValues IsPairLine ls 0 pairs) is.parts each) distinct

pub one_pairs : HaveOneAnswer ReadsPairs
one_pairs bytes (Ok ps) (Ok qs) is is' some some' = ap Ok (same_values IsPairLine same_pair (file_lines bytes) 0 ps qs is.1 is'.1)
one_pairs bytes (Ok ps) (Err (NotUtf8 at')) is is' some some' = absurd (is'.not_utf8 is.0)
one_pairs bytes (Ok ps) (Err (BadLine n')) is is' some some' = absurd (good_or_bad (file_lines bytes) ps n' is.1 is.2 is'.1)
one_pairs bytes (Ok ps) (Err Memory) is is' some some' = absurd (some' refl)
one_pairs bytes (Err (NotUtf8 at)) (Ok qs) is is' some some' = absurd (is.not_utf8 is'.0)
one_pairs bytes (Err (NotUtf8 at)) (Err (NotUtf8 at')) is is' some some' = ap (λ (n : ℕ). Err (NotUtf8 n)) (is.at_is ∙ sym is'.at_is)
one_pairs bytes (Err (NotUtf8 at)) (Err (BadLine n')) is is' some some' = absurd (is.not_utf8 is'.0)
one_pairs bytes (Err (NotUtf8 at)) (Err Memory) is is' some some' = absurd (some' refl)
one_pairs bytes (Err (BadLine n)) (Ok qs) is is' some some' = absurd (good_or_bad (file_lines bytes) qs n is'.1 is'.2 is.1)
one_pairs bytes (Err (BadLine n)) (Err (NotUtf8 at')) is is' some some' = absurd (is'.not_utf8 is.0)
one_pairs bytes (Err (BadLine n)) (Err (BadLine n')) is is' some some' = ap (λ (k : ℕ). Err (BadLine k)) (same_bad (file_lines bytes) n n' is.1 is'.1)
one_pairs bytes (Err (BadLine n)) (Err Memory) is is' some some' = absurd (some' refl)
one_pairs bytes (Err Memory) other is is' some some' = absurd (some refl)
