-- A line writes one command at most.
use Rattle.std.proofs.Common.{◌≡◌, ◌≢◌, ℕ, List, [], ◌∷◌, ◌++◌, Option, Some, None, drop, refl, ap, sym, subst, ◌∙◌, inl, inr, if◌then◌else◌, arith}
use Rattle.std.specs.Prelude.{nat_eq, codes}
use Rattle.std.specs.List.{starts_with}
use Rattle.std.proofs.lemmas.Str.{encode_same, encode_ascii}
use Rattle.rbbi_model.specs.Answers.{Question, First, Last, Next, Previous, Following, Preceding, IsBoundary, Current, Status, Statuses, Breaks}
use Rattle.rbbi_model.specs.Scripts.{Command, Ask, Replace, ShowText}
use Rattle.rbbi_text.specs.Numbers.{decimal}
use Rattle.rbbi_script.specs.Grammar.{most_number, WritesNumber, IsField, IsEscapeOf, IsUnescaped, WritesCharacters, IsInsert, IsDelete, IsReplace, Writes}
use Rattle.rbbi_script.specs.Grammar.{IsSkipped}
use Rattle.rbbi_script.specs.inner.Readings.{IsOnlyEscape, named}
use Rattle.rbbi_script.proofs.Cuts.{no_brace, no_space, only_field}
use Rattle.rbbi_script.proofs.Words.{letter, line_feed, carriage_return, tab, backslash, only_number, at_letter, at_number, empty_is_no_character}
use Rattle.rbbi_script.proofs.LineKinds.{kind}

-- an escape that begins a text is the only one that does
only_escape : (text spelling rest : List ℕ) (c : ℕ) → IsEscapeOf spelling c → text ≡ spelling ++ rest → IsOnlyEscape text c rest
only_escape text s rest c (inl h) e =
    subst (λ d. IsOnlyEscape text d rest) (sym h.1) (letter 110 10 text rest (λ (same : 110 ≡ 117). omega arith) line_feed (at_letter 110 s rest text h.0 e))
only_escape text s rest c (inr (inl h)) e =
    subst (λ d. IsOnlyEscape text d rest) (sym h.1)
    (letter 114 13 text rest (λ (same : 114 ≡ 117). omega arith) carriage_return (at_letter 114 s rest text h.0 e))
only_escape text s rest c (inr (inr (inl h))) e =
    subst (λ d. IsOnlyEscape text d rest) (sym h.1) (letter 116 9 text rest (λ (same : 116 ≡ 117). omega arith) tab (at_letter 116 s rest text h.0 e))
only_escape text s rest c (inr (inr (inr (inl h)))) e =
    subst (λ d. IsOnlyEscape text d rest) (sym h.1) (letter 92 92 text rest (λ (same : 92 ≡ 117). omega arith) backslash (at_letter 92 s rest text h.0 e))
only_escape text s rest c (inr (inr (inr (inr h)))) e =
    only_number text h.digits rest c (at_number s rest text c h e) (no_brace h.digits c h.number) h.number h.character

-- a backslash begins no plain character
no_plain : (text spelling after : List ℕ) (c : ℕ) (rest : List ℕ) → IsUnescaped text c rest → text ≡ 92 ∷ spelling ++ after → ⊥
no_plain text spelling after c rest plain e =
    let same = encode_same c 92 rest (spelling ++ after) (sym plain.spelled ∙ e ∙ ap (λ x. x ++ (spelling ++ after)) (sym (encode_ascii 92 (omega arith)))) in
    plain.no_backslash same.0

-- the text of an edit writes one word at most
pub same_word : (text one other : List ℕ) → WritesCharacters text one → WritesCharacters text other → one ≡ other
same_word text [] [] is is' = refl
same_word text [] (d ∷ other) is (rest', inl p', is') = absurd (empty_is_no_character d rest' (sym is ∙ p'.spelled))
same_word text [] (d ∷ other) is (rest', inr p', is') = absurd (let e = sym is ∙ p'.spelled in cc)
same_word text (c ∷ one) [] (rest, inl p, is) is' = absurd (empty_is_no_character c rest (sym is' ∙ p.spelled))
same_word text (c ∷ one) [] (rest, inr p, is) is' = absurd (let e = sym is' ∙ p.spelled in cc)
same_word text (c ∷ one) (d ∷ other) (rest, inl p, is) (rest', inl p', is') =
    let same = encode_same c d rest rest' (sym p.spelled ∙ p'.spelled) in
    ap (λ x. x ∷ one) same.0 ∙ ap (λ w. d ∷ w) (same_word rest' one other (subst (λ t. WritesCharacters t one) same.1 is) is')
same_word text (c ∷ one) (d ∷ other) (rest, inl p, is) (rest', inr p', is') = absurd (no_plain text p'.spelling rest' c rest p p'.spelled)
same_word text (c ∷ one) (d ∷ other) (rest, inr p, is) (rest', inl p', is') = absurd (no_plain text p.spelling rest d rest' p' p.spelled)
same_word text (c ∷ one) (d ∷ other) (rest, inr p, is) (rest', inr p', is') =
    let only = only_escape (p.spelling ++ rest) p.spelling rest c p.escape refl in
    let same = only.only p'.spelling d rest' p'.escape (ap (drop 1) (sym p.spelled ∙ p'.spelled)) in
    ap (λ x. x ∷ one) (sym same.0) ∙ ap (λ w. d ∷ w) (same_word rest' one other (subst (λ t. WritesCharacters t one) (sym same.1) is) is')

some_number : (m n : ℕ) → Some m ≡ Some n → m ≡ n
some_number m n e = cc

same_number : (digits : List ℕ) (m n : ℕ) → WritesNumber digits m → WritesNumber digits n → m ≡ n
same_number digits m n is is' = some_number m n (sym is ∙ is')

-- a text begins with one number and a space at most
same_field : (text others : List ℕ) (m n : ℕ) (rest rest' : List ℕ) → text ≡ others → IsField text m rest → IsField others n rest' → (m ≡ n) × (rest ≡ rest')
same_field text others m n rest rest' e is is' =
    (only_field others is'.digits rest' n (record { parts = is'.spelled; first = no_space is'.digits n is'.number }) is'.number).only m rest
    (subst (λ t. IsField t m rest) e is)

-- edits of one kind that one line writes are the same
same_insert : (line : List ℕ) (at at' removed removed' : ℕ) (inserted inserted' : List ℕ) → IsInsert line at removed inserted →
    IsInsert line at' removed' inserted' → Replace at removed inserted ≡ Replace at' removed' inserted'
same_insert line at at' removed removed' inserted inserted' is is' =
    let place = same_field is.fields is'.fields at at' is.text is'.text (ap (drop 7) (sym is.spelled ∙ is'.spelled)) is.place is'.place in
    let word = same_word is'.text inserted inserted' (subst (λ t. WritesCharacters t inserted) place.1 is.spells) is'.spells in
    ap (λ n. Replace n removed inserted) place.0 ∙ ap (λ n. Replace at' n inserted) (is.none_removed ∙ sym is'.none_removed)
    ∙ ap (λ w. Replace at' removed' w) word

same_delete : (line : List ℕ) (at at' removed removed' : ℕ) (inserted inserted' : List ℕ) → IsDelete line at removed inserted →
    IsDelete line at' removed' inserted' → Replace at removed inserted ≡ Replace at' removed' inserted'
same_delete line at at' removed removed' inserted inserted' is is' =
    let place = same_field is.fields is'.fields at at' is.digits is'.digits (ap (drop 7) (sym is.spelled ∙ is'.spelled)) is.place is'.place in
    let count = same_number is'.digits removed removed' (subst (λ t. WritesNumber t removed) place.1 is.count) is'.count in
    ap (λ n. Replace n removed inserted) place.0 ∙ ap (λ n. Replace at' n inserted) count
    ∙ ap (λ w. Replace at' removed' w) (is.none_inserted ∙ sym is'.none_inserted)

same_replace : (line : List ℕ) (at at' removed removed' : ℕ) (inserted inserted' : List ℕ) → IsReplace line at removed inserted →
    IsReplace line at' removed' inserted' → Replace at removed inserted ≡ Replace at' removed' inserted'
same_replace line at at' removed removed' inserted inserted' is is' =
    let place = same_field is.fields is'.fields at at' is.others is'.others (ap (drop 8) (sym is.spelled ∙ is'.spelled)) is.place is'.place in
    let count = same_field is.others is'.others removed removed' is.text is'.text place.1 is.count is'.count in
    let word = same_word is'.text inserted inserted' (subst (λ t. WritesCharacters t inserted) count.1 is.spells) is'.spells in
    ap (λ n. Replace n removed inserted) place.0 ∙ ap (λ n. Replace at' n inserted) count.0 ∙ ap (λ w. Replace at' removed' w) word

-- edits of two kinds aren't written by one line
two_kinds : (line : List ℕ) (k l : ℕ) → k ≢ l → kind line ≡ k → kind line ≡ l → ⊥
two_kinds line k l differ is is' = differ (sym is ∙ is')

same_edit : (line : List ℕ) (at at' removed removed' : ℕ) (inserted inserted' : List ℕ) → Writes line (Replace at removed inserted) →
    Writes line (Replace at' removed' inserted') → Replace at removed inserted ≡ Replace at' removed' inserted'
same_edit line at at' removed removed' inserted inserted' (inl is) (inl is') = same_insert line at at' removed removed' inserted inserted' is is'
same_edit line at at' removed removed' inserted inserted' (inl is) (inr (inl is')) =
    absurd (two_kinds line 4 5 (λ e. omega arith) (ap kind is.spelled) (ap kind is'.spelled))
same_edit line at at' removed removed' inserted inserted' (inl is) (inr (inr is')) =
    absurd (two_kinds line 4 6 (λ e. omega arith) (ap kind is.spelled) (ap kind is'.spelled))
same_edit line at at' removed removed' inserted inserted' (inr (inl is)) (inl is') =
    absurd (two_kinds line 5 4 (λ e. omega arith) (ap kind is.spelled) (ap kind is'.spelled))
same_edit line at at' removed removed' inserted inserted' (inr (inl is)) (inr (inl is')) =
    same_delete line at at' removed removed' inserted inserted' is is'
same_edit line at at' removed removed' inserted inserted' (inr (inl is)) (inr (inr is')) =
    absurd (two_kinds line 5 6 (λ e. omega arith) (ap kind is.spelled) (ap kind is'.spelled))
same_edit line at at' removed removed' inserted inserted' (inr (inr is)) (inl is') =
    absurd (two_kinds line 6 4 (λ e. omega arith) (ap kind is.spelled) (ap kind is'.spelled))
same_edit line at at' removed removed' inserted inserted' (inr (inr is)) (inr (inl is')) =
    absurd (two_kinds line 6 5 (λ e. omega arith) (ap kind is.spelled) (ap kind is'.spelled))
same_edit line at at' removed removed' inserted inserted' (inr (inr is)) (inr (inr is')) =
    same_replace line at at' removed removed' inserted inserted' is is'

-- the command with this number, if there is a number
abbrev placed : (ℕ → Command) → Option ℕ → Option Command
placed command None = None
placed command (Some n) = Some (command n)

-- the command that a line writes, where it writes one that is no edit
abbrev other_command : List ℕ → Option Command
other_command line =
    if starts_with nat_eq line (codes "following ") then placed (λ n. Ask (Following n)) (decimal most_number (drop 10 line))
    else (if starts_with nat_eq line (codes "preceding ") then placed (λ n. Ask (Preceding n)) (decimal most_number (drop 10 line))
    else (if starts_with nat_eq line (codes "is ") then placed (λ n. Ask (IsBoundary n)) (decimal most_number (drop 3 line))
    else named line))

-- what a question, and what an edit, comes to there
asked : (line : List ℕ) (question : Question) → Writes line (Ask question) → other_command line ≡ Some (Ask question)
asked line First is = ap other_command is
asked line Last is = ap other_command is
asked line Next is = ap other_command is
asked line Previous is = ap other_command is
asked line (Following n) is = ap other_command is.spelled ∙ ap (placed (λ n. Ask (Following n))) is.number
asked line (Preceding n) is = ap other_command is.spelled ∙ ap (placed (λ n. Ask (Preceding n))) is.number
asked line (IsBoundary n) is = ap other_command is.spelled ∙ ap (placed (λ n. Ask (IsBoundary n))) is.number
asked line Current is = ap other_command is
asked line Status is = ap other_command is
asked line Statuses is = ap other_command is
asked line Breaks is = ap other_command is

edited : (line : List ℕ) (at removed : ℕ) (inserted : List ℕ) → Writes line (Replace at removed inserted) → other_command line ≡ None
edited line at removed inserted (inl is) = ap other_command is.spelled
edited line at removed inserted (inr (inl is)) = ap other_command is.spelled
edited line at removed inserted (inr (inr is)) = ap other_command is.spelled

some_command : (one other : Command) → Some one ≡ Some other → one ≡ other
some_command one other e = cc

some_or_none : (command : Command) (o : Option Command) → o ≡ Some command → o ≡ None → ⊥
some_or_none command o is none = let e = sym is ∙ none in cc

-- a line writes one command at most
pub same_command : (line : List ℕ) (one other : Command) → Writes line one → Writes line other → one ≡ other
same_command line (Ask p) (Ask q) is is' = some_command (Ask p) (Ask q) (sym (asked line p is) ∙ asked line q is')
same_command line (Ask p) (Replace at removed inserted) is is' =
    absurd (some_or_none (Ask p) (other_command line) (asked line p is) (edited line at removed inserted is'))
same_command line (Ask p) ShowText is is' = some_command (Ask p) ShowText (sym (asked line p is) ∙ ap other_command is')
same_command line (Replace at removed inserted) (Ask q) is is' =
    absurd (some_or_none (Ask q) (other_command line) (asked line q is') (edited line at removed inserted is))
same_command line (Replace at removed inserted) (Replace at' removed' inserted') is is' = same_edit line at at' removed removed' inserted inserted' is is'
same_command line (Replace at removed inserted) ShowText is is' =
    absurd (some_or_none ShowText (other_command line) (ap other_command is') (edited line at removed inserted is))
same_command line ShowText (Ask q) is is' = some_command ShowText (Ask q) (sym (ap other_command is) ∙ asked line q is')
same_command line ShowText (Replace at removed inserted) is is' =
    absurd (some_or_none ShowText (other_command line) (ap other_command is) (edited line at removed inserted is'))
same_command line ShowText ShowText is is' = refl

-- a line that is skipped writes none
skipped_no_other : (line : List ℕ) → IsSkipped line → other_command line ≡ None
skipped_no_other [] skipped = refl
skipped_no_other (b ∷ line) skipped = ap (λ x. other_command (x ∷ line)) skipped

skipped_no_kind : (line : List ℕ) → IsSkipped line → kind line ≡ 0
skipped_no_kind [] skipped = refl
skipped_no_kind (b ∷ line) skipped = ap (λ x. kind (x ∷ line)) skipped

pub skipped_or_written : (line : List ℕ) (command : Command) → IsSkipped line → Writes line command → ⊥
skipped_or_written line (Ask q) skipped is = some_or_none (Ask q) (other_command line) (asked line q is) (skipped_no_other line skipped)
skipped_or_written line ShowText skipped is = some_or_none ShowText (other_command line) (ap other_command is) (skipped_no_other line skipped)
skipped_or_written line (Replace at removed inserted) skipped (inl is) =
    two_kinds line 4 0 (λ e. omega arith) (ap kind is.spelled) (skipped_no_kind line skipped)
skipped_or_written line (Replace at removed inserted) skipped (inr (inl is)) =
    two_kinds line 5 0 (λ e. omega arith) (ap kind is.spelled) (skipped_no_kind line skipped)
skipped_or_written line (Replace at removed inserted) skipped (inr (inr is)) =
    two_kinds line 6 0 (λ e. omega arith) (ap kind is.spelled) (skipped_no_kind line skipped)
