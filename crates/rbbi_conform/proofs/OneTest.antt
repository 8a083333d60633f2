-- A line of a test file is one thing: skipped, or one test, or neither.
use Rattle.std.proofs.Common.{◌≡◌, ℕ, Bool, true, false, List, [], ◌∷◌, get_or, refl, ap, sym, subst, ◌∙◌, arith}
use Rattle.std.specs.Prelude.{Some}
use Rattle.std.specs.List.{list_all}
use Rattle.std.proofs.lemmas.Bool.{and_parts, false≢true}
use Rattle.rbbi_text.specs.LineParts.{is_blank, before_comment, is_skipped}
use Rattle.rbbi_text.specs.declared.line_values.Line.{Line}
use Rattle.rbbi_text.specs.declared.line_values.Line.TheVariants.{Skipped, Writes, Bad}
use Rattle.rbbi_conform.specs.Tests.{Test}
use Rattle.rbbi_conform.specs.Grammar.{words_of, IsMark, IsHexadecimalOf, ArePairs, WritesTest}
use Rattle.rbbi_conform.specs.Files.{IsTestLine}
use Rattle.rbbi_conform.proofs.BlankWords.{words_behind}

-- a word is one character at most, and one mark
same_point : (word : List ℕ) (c d : ℕ) → IsHexadecimalOf word c → IsHexadecimalOf word d → c ≡ d
same_point word c d is is' = let e : Some c ≡ Some d = sym is.number ∙ is'.number in cc

no_mark_twice : (word : List ℕ) → IsMark word true → IsMark word false → ⊥
no_mark_twice word is is' = let second = ap (λ (w : List ℕ). get_or w 1 0) (sym is ∙ is') in omega arith

same_mark : (word : List ℕ) (one other : Bool) → IsMark word one → IsMark word other → one ≡ other
same_mark word true true is is' = refl
same_mark word true false is is' = absurd (no_mark_twice word is is')
same_mark word false true is is' = absurd (no_mark_twice word is' is)
same_mark word false false is is' = refl

parts_of : (p p' s s' : List ℕ) (r r' : List (List ℕ)) → p ∷ s ∷ r ≡ p' ∷ s' ∷ r' → (p ≡ p') × (s ≡ s') × (r ≡ r')
parts_of p p' s s' r r' e = (cc, cc, cc)

no_first : (w : List ℕ) (ws : List (List ℕ)) → w ∷ ws ≡ [] → ⊥
no_first w ws e = cc

-- words are one list of pairs at most
same_pairs : (words : List (List ℕ)) (text text' : List ℕ) (marks marks' : List Bool) → ArePairs words text marks → ArePairs words text' marks'
    → (text ≡ text') × (marks ≡ marks')
same_pairs words [] [] [] [] is is' = (refl, refl)
same_pairs words [] (d ∷ text') [] [] is is' = absurd is'
same_pairs words [] [] [] (n ∷ marks') is is' = absurd is'
same_pairs words [] (d ∷ text') [] (n ∷ marks') is (p', s', r', e', point', sign', more') = absurd (no_first p' (s' ∷ r') (sym e' ∙ is))
same_pairs words [] text' (m ∷ marks) marks' is is' = absurd is
same_pairs words (c ∷ text) text' [] marks' is is' = absurd is
same_pairs words (c ∷ text) [] (m ∷ marks) [] (p, s, r, e, point, sign, more) is' = absurd (no_first p (s ∷ r) (sym e ∙ is'))
same_pairs words (c ∷ text) (d ∷ text') (m ∷ marks) [] is is' = absurd is'
same_pairs words (c ∷ text) [] (m ∷ marks) (n ∷ marks') is is' = absurd is'
same_pairs words (c ∷ text) (d ∷ text') (m ∷ marks) (n ∷ marks') (p, s, r, e, point, sign, more) (p', s', r', e', point', sign', more') =
    let parts = parts_of p p' s s' r r' (sym e ∙ e') in
    let point_is = same_point p' c d (subst (λ w. IsHexadecimalOf w c) parts.0 point) point' in
    let mark_is = same_mark s' m n (subst (λ w. IsMark w m) parts.1 sign) sign' in
    let rest = same_pairs r' text text' marks marks' (subst (λ ws. ArePairs ws text marks) parts.2 more) more' in
    (ap (λ x. x ∷ text) point_is ∙ ap (λ t. d ∷ t) rest.0, ap (λ x. x ∷ marks) mark_is ∙ ap (λ l. n ∷ l) rest.1)

tails : (w w' : List ℕ) (ws ws' : List (List ℕ)) → w ∷ ws ≡ w' ∷ ws' → ws ≡ ws'
tails w w' ws ws' e = cc

-- a line writes one text and one list of marks at most
same_marked : (line text text' : List ℕ) (marks marks' : List Bool) → WritesTest line text marks → WritesTest line text' marks'
    → (text ≡ text') × (marks ≡ marks')
same_marked line text text' marks marks' is is' =
    same_pairs is'.rest text text' marks marks'
    (subst (λ ws. ArePairs ws text marks) (tails is.sign is'.sign is.rest is'.rest (sym is.words ∙ is'.words)) is.pairs) is'.pairs

same_test : (one other : Test) → one.line ≡ other.line → one.text ≡ other.text → one.marks ≡ other.marks → one ≡ other
same_test one other line text marks = λ i. record { line = line i; text = text i; marks = marks i }

-- blanks alone are no words
blank_words : (text : List ℕ) → list_all is_blank text ≡ true → words_of text ≡ []
blank_words [] blank = refl
blank_words (b ∷ text) blank =
    let parts = and_parts (is_blank b) (list_all is_blank text) blank in
    words_behind b text parts.0 ∙ blank_words text parts.1

-- a line that is skipped writes no test
skipped_or_written : (line text : List ℕ) (marks : List Bool) → is_skipped line ≡ true → WritesTest line text marks → ⊥
skipped_or_written line text marks skipped is = no_first is.sign is.rest (sym is.words ∙ blank_words (before_comment line) skipped)

-- a line is one thing
pub same_line : (line : List ℕ) (number : ℕ) (one other : Line Test) → IsTestLine line number one → IsTestLine line number other → one ≡ other
same_line line number Skipped Skipped is is' = refl
same_line line number Skipped (Writes test') is is' = absurd (skipped_or_written line test'.text test'.marks is is'.0)
same_line line number Skipped Bad is is' = absurd (false≢true (sym is'.0 ∙ is))
same_line line number (Writes test) Skipped is is' = absurd (skipped_or_written line test.text test.marks is' is.0)
same_line line number (Writes test) (Writes test') is is' =
    let same = same_marked line test.text test'.text test.marks test'.marks is.0 is'.0 in
    ap Writes (same_test test test' (is.1 ∙ sym is'.1) same.0 same.1)
same_line line number (Writes test) Bad is is' = absurd (is'.1 test.text test.marks is.0)
same_line line number Bad Skipped is is' = absurd (false≢true (sym is.0 ∙ is'))
same_line line number Bad (Writes test') is is' = absurd (is.1 test'.text test'.marks is'.0)
same_line line number Bad Bad is is' = refl
