-- The characters that the text of an edit writes, piece by piece.
use Rattle.std.proofs.Common.{◌≡◌, ◌≢◌, ℕ, Bool, true, false, ◌&&◌, lit<, ◌+◌, ◌<◌, ◌≤◌, List, [], ◌∷◌, ◌++◌, length, get_or, Option, Some, None, refl, ap}
use Rattle.std.proofs.Common.{sym, subst, ◌∙◌, inl, inr, append_assoc, append-nil, length-append, drop, if◌then◌else◌, ◌==◌, arith}
use Rattle.std.specs.Prelude.{encode_utf8, encode_utf8_all, IsUtf8, chars, codes}
use Rattle.std.specs.Char.{InScalarRange, OutOfScalarRange, is_ascii_hexdigit}
use Rattle.std.specs.List.{AllByRecursion, list_all}
use Rattle.std.proofs.lemmas.Str.{encode_same, encode_ascii, encodes-chars, byte_from_char, length-encode, len_utf8_bounds}
use Rattle.std.proofs.lemmas.Str.{IsUtf8-take, IsUtf8-drop, IsUtf8-past_char, IsCharBoundary-before_ascii}
use Rattle.std.proofs.lemmas.Str.{IsCharBoundary-after_ascii}
use Rattle.std.proofs.lemmas.List.{get_or-append-add}
use Rattle.std.proofs.Math.Seq.{get_or-append_seam, take-append_seam, drop-append-add}
use Rattle.std.proofs.lemmas.Bool.Decides.{nat_tests}
use Rattle.std.proofs.lemmas.List.Sums.{AllPass-from_list_all}
use Rattle.rbbi_model.specs.Words.{IsSurrogate}
use Rattle.rbbi_text.specs.Numbers.{hexadecimal}
use Rattle.rbbi_script.specs.Grammar.{IsNumberEscape, IsEscapeOf, WritesCharacters}
use Rattle.rbbi_script.specs.inner.Readings.{HasNone, IsNoEscape, IsNoNumberEscape, IsOnlyEscape, IsOnlyWord}
use Rattle.rbbi_script.proofs.Cuts.{same_cut, no_brace, hexadecimal_pass}

-- the escapes of one letter, or of a number
pub at_letter : (b : ℕ) (s r text : List ℕ) → s ≡ b ∷ [] → text ≡ s ++ r → text ≡ b ∷ r
at_letter b s r text e f = f ∙ ap (λ x. x ++ r) e

brace_assoc : (digits r : List ℕ) → codes "u{" ++ (digits ++ codes "}") ++ r ≡ codes "u{" ++ (digits ++ 125 ∷ r)
brace_assoc digits r = ap (λ x. codes "u{" ++ x) (append_assoc digits (codes "}") r)

pub at_number : (s r text : List ℕ) (c : ℕ) (h : IsNumberEscape s c) → text ≡ s ++ r → text ≡ codes "u{" ++ (h.digits ++ 125 ∷ r)
at_number s r text c h f = f ∙ ap (λ x. x ++ r) h.spelled ∙ brace_assoc h.digits r

-- a text begins with one letter, and with `u` where it begins with a number's escape
only_letter : (b c : ℕ) (rest : List ℕ) → b ≢ 117 → IsEscapeOf (b ∷ []) c → ((d : ℕ) → IsEscapeOf (b ∷ []) d → d ≡ c) → IsOnlyEscape (b ∷ rest) c rest
only_letter b c rest no_number is only = record {
  spelling = b ∷ [];
  is = is;
  parts = refl;
  only = λ other d others escape e. each other d others escape e;
}
  where
    tail_of : (x y : ℕ) (xs ys : List ℕ) → x ∷ xs ≡ y ∷ ys → (x ≡ y) × (xs ≡ ys)
    tail_of x y xs ys e = (cc, cc)

    letter : (x d : ℕ) (other others : List ℕ) → other ≡ x ∷ [] → IsEscapeOf other d → b ∷ rest ≡ other ++ others → (d ≡ c) × (others ≡ rest)
    letter x d other others spelled escape e =
        let parts = tail_of b x rest others (e ∙ ap (λ s. s ++ others) spelled) in
        (only d (subst (λ s. IsEscapeOf s d) (spelled ∙ ap (λ y. y ∷ []) (sym parts.0)) escape), sym parts.1)

    each : (other : List ℕ) (d : ℕ) (others : List ℕ) → IsEscapeOf other d → b ∷ rest ≡ other ++ others → (d ≡ c) × (others ≡ rest)
    each other d others (inl n) e = letter 110 d other others n.0 (inl n) e
    each other d others (inr (inl r)) e = letter 114 d other others r.0 (inr (inl r)) e
    each other d others (inr (inr (inl t))) e = letter 116 d other others t.0 (inr (inr (inl t))) e
    each other d others (inr (inr (inr (inl s)))) e = letter 92 d other others s.0 (inr (inr (inr (inl s)))) e
    each other d others (inr (inr (inr (inr h)))) e =
        absurd (no_number (tail_of b 117 rest _ (at_number other others (b ∷ rest) d h e)).0)

-- the character of an escape of one letter
abbrev letter_of : ℕ → Option ℕ
letter_of b = if b == 110 then Some 10 else (if b == 114 then Some 13 else (if b == 116 then Some 9 else (if b == 92 then Some 92 else None)))

letter_is : (b c : ℕ) → b ∷ [] ≡ c ∷ [] → b ≡ c
letter_is b c e = cc

-- what an escape of one letter stands for
of_letter : (b d : ℕ) → IsEscapeOf (b ∷ []) d → letter_of b ≡ Some d
of_letter b d (inl n) = ap letter_of (letter_is b 110 n.0) ∙ ap Some (sym n.1)
of_letter b d (inr (inl r)) = ap letter_of (letter_is b 114 r.0) ∙ ap Some (sym r.1)
of_letter b d (inr (inr (inl t))) = ap letter_of (letter_is b 116 t.0) ∙ ap Some (sym t.1)
of_letter b d (inr (inr (inr (inl s)))) = ap letter_of (letter_is b 92 s.0) ∙ ap Some (sym s.1)
of_letter b d (inr (inr (inr (inr h)))) =
    absurd (let long = ap length h.spelled in let more = length-append h.digits (codes "}") in omega arith)

some_same : (c d : ℕ) → Some c ≡ Some d → c ≡ d
some_same c d e = cc

-- a letter that begins the text is its only escape
pub letter : (b c : ℕ) (text rest : List ℕ) → b ≢ 117 → IsEscapeOf (b ∷ []) c → text ≡ b ∷ rest → IsOnlyEscape text c rest
letter b c text rest no_number is e =
    subst (λ t. IsOnlyEscape t c rest) (sym e)
    (only_letter b c rest no_number is (λ d h. some_same d c (sym (of_letter b d h) ∙ of_letter b c is)))

pub line_feed : IsEscapeOf (codes "n") 10
line_feed = inl (refl, refl)

pub carriage_return : IsEscapeOf (codes "r") 13
carriage_return = inr (inl (refl, refl))

pub tab : IsEscapeOf (codes "t") 9
tab = inr (inr (inl (refl, refl)))

pub backslash : IsEscapeOf (codes "\\") 92
backslash = inr (inr (inr (inl (refl, refl))))

-- where none of them begins the text, no escape does
pub no_escape : (text : List ℕ) → ((r : List ℕ) → text ≢ codes "n" ++ r) → ((r : List ℕ) → text ≢ codes "r" ++ r) → ((r : List ℕ) → text ≢ codes "t" ++ r) →
    ((r : List ℕ) → text ≢ codes "\\" ++ r) →
    IsNoNumberEscape text → IsNoEscape text
no_escape text n r t b number s c rest (inl h) e = n rest (at_letter 110 s rest text h.0 e)
no_escape text n r t b number s c rest (inr (inl h)) e = r rest (at_letter 114 s rest text h.0 e)
no_escape text n r t b number s c rest (inr (inr (inl h))) e = t rest (at_letter 116 s rest text h.0 e)
no_escape text n r t b number s c rest (inr (inr (inr (inl h)))) e = b rest (at_letter 92 s rest text h.0 e)
no_escape text n r t b number s c rest (inr (inr (inr (inr h)))) e = number s c rest h e

-- the escape of a number is the only one that begins the text
pub only_number : (text before after : List ℕ) (c : ℕ) →
    text ≡ codes "u{" ++ (before ++ 125 ∷ after) → HasNone 125 before → hexadecimal 1 6 0x10FFFF before ≡ Some c → ¬ IsSurrogate c → IsOnlyEscape text c after
only_number text before after c e none number character = record {
  spelling = codes "u{" ++ (before ++ codes "}");
  is = inr (inr (inr (inr (record { digits = before; number = number; character = character; spelled = refl }))));
  parts = e ∙ sym (brace_assoc before after);
  only = each;
}
  where
    head : (x : ℕ) (xs ys : List ℕ) → 117 ∷ xs ≡ x ∷ ys → 117 ≡ x
    head x xs ys h = cc

    each : (other : List ℕ) (d : ℕ) (others : List ℕ) → IsEscapeOf other d → text ≡ other ++ others → (d ≡ c) × (others ≡ after)
    each other d others (inl h) f = absurd (let k = head 110 _ _ (sym e ∙ at_letter 110 other others text h.0 f) in omega arith)
    each other d others (inr (inl h)) f = absurd (let k = head 114 _ _ (sym e ∙ at_letter 114 other others text h.0 f) in omega arith)
    each other d others (inr (inr (inl h))) f = absurd (let k = head 116 _ _ (sym e ∙ at_letter 116 other others text h.0 f) in omega arith)
    each other d others (inr (inr (inr (inl h)))) f = absurd (let k = head 92 _ _ (sym e ∙ at_letter 92 other others text h.0 f) in omega arith)
    each other d others (inr (inr (inr (inr h)))) f =
        let same = same_cut 125 before after h.digits others none (no_brace h.digits d h.number) (ap (drop 2) (sym e ∙ at_number other others text d h f)) in
        (some_same d c (sym h.number ∙ ap (hexadecimal 1 6 0x10FFFF) (sym same.0) ∙ number), sym same.1)

same_digits : (text before after : List ℕ) (e : text ≡ codes "u{" ++ (before ++ 125 ∷ after)) → HasNone 125 before →
    (s : List ℕ) (c : ℕ) (rest : List ℕ) (h : IsNumberEscape s c) → text ≡ s ++ rest → before ≡ h.digits
same_digits text before after e none s c rest h f =
    (same_cut 125 before after h.digits rest none (no_brace h.digits c h.number) (ap (drop 2) (sym e ∙ at_number s rest text c h f))).0

-- one with no number in its braces
pub no_number-bad : (text before after : List ℕ) →
    text ≡ codes "u{" ++ (before ++ 125 ∷ after) → HasNone 125 before → hexadecimal 1 6 0x10FFFF before ≡ None → IsNoNumberEscape text
no_number-bad text before after e none bad s c rest h f =
    let clash : None ≡ Some c = sym bad ∙ ap (hexadecimal 1 6 0x10FFFF) (same_digits text before after e none s c rest h f) ∙ h.number in
    absurd (cc)

-- one with the number of no character in its braces
pub no_number-surrogate : (text before after : List ℕ) (n : ℕ) →
    text ≡ codes "u{" ++ (before ++ 125 ∷ after) → HasNone 125 before → hexadecimal 1 6 0x10FFFF before ≡ Some n → IsSurrogate n → IsNoNumberEscape text
no_number-surrogate text before after n e none number surrogate s c rest h f =
    let same = some_same n c (sym number ∙ ap (hexadecimal 1 6 0x10FFFF) (same_digits text before after e none s c rest h f) ∙ h.number) in
    h.character (subst IsSurrogate same surrogate)

-- characters that are no backslash
abbrev ArePlain : List ℕ → Type 0
ArePlain cs = AllByRecursion (λ c. c ≢ 92) cs

none_right : (b : ℕ) (xs ys : List ℕ) → HasNone b (xs ++ ys) → HasNone b ys
none_right b xs ys h i l e =
    h (length xs + i) (let long = length-append xs ys in omega arith) (get_or-append-add xs ys i 0 ∙ e)

-- a text without the byte has no backslash
plain_characters : (cs : List ℕ) → HasNone 92 (encode_utf8_all cs) → ArePlain cs
plain_characters [] h = tt
plain_characters (c ∷ cs) h = (
  λ e. h 0 (let l = length-append (encode_utf8 c) (encode_utf8_all cs) in let k = length-encode c in let m = len_utf8_bounds c in omega arith)
      (byte_from_char (encode_utf8 c ++ encode_utf8_all cs) (encode_utf8_all cs) c refl (omega arith) ∙ e),
  plain_characters cs (none_right 92 (encode_utf8 c) (encode_utf8_all cs) h),
)

spells_plain : (cs rest word : List ℕ) → ArePlain cs → WritesCharacters rest word → WritesCharacters (encode_utf8_all cs ++ rest) (cs ++ word)
spells_plain [] rest word plain h = h
spells_plain (c ∷ cs) rest word plain h = (
  encode_utf8_all cs ++ rest,
  inl (record { no_backslash = plain.0; spelled = append_assoc (encode_utf8 c) (encode_utf8_all cs) rest }),
  spells_plain cs rest word plain.1 h,
)

pub empty_is_no_character : (c : ℕ) (rest : List ℕ) → [] ≡ encode_utf8 c ++ rest → ⊥
empty_is_no_character c rest e =
    let long = ap length e in let l = length-append (encode_utf8 c) rest in let k = length-encode c in let m = len_utf8_bounds c in omega arith

-- what a text with plain characters in front writes
plain_spells : (cs rest word : List ℕ) → ArePlain cs → WritesCharacters (encode_utf8_all cs ++ rest) word → (more : List ℕ) × (word ≡ cs ++ more) ×
    WritesCharacters rest more
plain_spells [] rest word plain h = (word, refl, h)
plain_spells (c ∷ cs) rest [] plain h =
    absurd (empty_is_no_character c (encode_utf8_all cs ++ rest) (sym h ∙ append_assoc (encode_utf8 c) (encode_utf8_all cs) rest))
plain_spells (c ∷ cs) rest (d ∷ word) plain (after, inl p, h) =
    let same = encode_same c d (encode_utf8_all cs ++ rest) after (sym (append_assoc (encode_utf8 c) (encode_utf8_all cs) rest) ∙ p.spelled) in
    let more = plain_spells cs rest word plain.1 (subst (λ t. WritesCharacters t word) (sym same.1) h) in
    (more.0, ap (λ x. x ∷ word) (sym same.0) ∙ ap (λ w. c ∷ w) more.1, more.2)
plain_spells (c ∷ cs) rest (d ∷ word) plain (after, inr p, h) =
    let same = encode_same c 92 (encode_utf8_all cs ++ rest) (p.spelling ++ after)
    (sym (append_assoc (encode_utf8 c) (encode_utf8_all cs) rest) ∙ p.spelled ∙ ap (λ x. x ++ (p.spelling ++ after)) (sym (encode_ascii 92 (omega arith)))) in
    absurd (plain.0 same.0)

-- behind a backslash stands an escape
escaped_spells : (after word : List ℕ) → WritesCharacters (92 ∷ after) word → (c : ℕ) (rest : List ℕ) → IsOnlyEscape after c rest → (more : List ℕ) ×
    (word ≡ c ∷ more) × WritesCharacters rest more
escaped_spells after [] h c rest only = absurd (let e : 92 ∷ after ≡ [] = h in cc)
escaped_spells after (d ∷ word) (others, inl p, h) c rest only =
    absurd (p.no_backslash (sym (encode_same 92 d after others (ap (λ x. x ++ after) (encode_ascii 92 (omega arith)) ∙ p.spelled)).0))
escaped_spells after (d ∷ word) (others, inr p, h) c rest only =
    let same = only.only p.spelling d others p.escape (tail_is after (p.spelling ++ others) p.spelled) in
    (word, ap (λ x. x ∷ word) same.0, subst (λ t. WritesCharacters t word) same.1 h)
  where
    tail_is : (xs ys : List ℕ) → 92 ∷ xs ≡ 92 ∷ ys → xs ≡ ys
    tail_is xs ys e = cc

no_escape_spells : (after word : List ℕ) → WritesCharacters (92 ∷ after) word → IsNoEscape after → ⊥
no_escape_spells after [] h none = let e : 92 ∷ after ≡ [] = h in cc
no_escape_spells after (d ∷ word) (others, inl p, h) none =
    p.no_backslash (sym (encode_same 92 d after others (ap (λ x. x ++ after) (encode_ascii 92 (omega arith)) ∙ p.spelled)).0)
no_escape_spells after (d ∷ word) (others, inr p, h) none =
    none p.spelling d others p.escape (ap (drop 1) p.spelled)

-- So much of the text writes these characters, and this is left.
pub record IsWriting (text word rest : List ℕ) : Type 0 where
  pub forth : (more : List ℕ) → WritesCharacters rest more → WritesCharacters text (word ++ more)
  pub back : (whole : List ℕ) → WritesCharacters text whole → (more : List ℕ) × (whole ≡ word ++ more) × WritesCharacters rest more

pub IsWriting-start : (text : List ℕ) → IsWriting text [] text
IsWriting-start text = record { forth = λ more h. h; back = λ whole h. (whole, refl, h) }

utf8_parts : (plain : List ℕ) → IsUtf8 plain → HasNone 92 plain → (encode_utf8_all (chars plain) ≡ plain) × ArePlain (chars plain)
utf8_parts plain utf8 none =
    let whole = encodes-chars plain utf8 in
    (whole, plain_characters (chars plain) (subst (HasNone 92) (sym whole) none))

-- plain characters and an escape more
pub IsWriting-more : (text word rest plain after : List ℕ) (c : ℕ) (left : List ℕ) → IsWriting text word rest → rest ≡ plain ++ 92 ∷ after →
    HasNone 92 plain → IsUtf8 plain → IsOnlyEscape after c left →
    IsWriting text (word ++ chars plain ++ c ∷ []) left
IsWriting-more text word rest plain after c left h e none utf8 escape =
    let parts = utf8_parts plain utf8 none in
    let whole : rest ≡ encode_utf8_all (chars plain) ++ 92 ∷ after = e ∙ ap (λ p. p ++ 92 ∷ after) (sym parts.0) in
    let joined : (more : List ℕ) → word ++ (chars plain ++ c ∷ more) ≡ word ++ chars plain ++ c ∷ [] ++ more =
    λ (more : List ℕ). sym (ap (λ w. w ++ more) refl ∙ append_assoc (word ++ chars plain) (c ∷ []) more ∙ append_assoc word (chars plain) (c ∷ more)) in
    record {
      forth = λ more spells.
          subst (WritesCharacters text) (joined more)
          (h.forth (chars plain ++ c ∷ more)
          (subst (λ t. WritesCharacters t (chars plain ++ c ∷ more)) (sym whole)
          (spells_plain (chars plain) (92 ∷ after) (c ∷ more) parts.1 (
            left,
            inr (record { spelling = escape.spelling; escape = escape.is; spelled = ap (λ t. 92 ∷ t) escape.parts }),
            spells,
          ))));
      back = λ all spells.
          let first = h.back all spells in
          let second = plain_spells (chars plain) (92 ∷ after) first.0 parts.1 (subst (λ t. WritesCharacters t first.0) whole first.2) in
          let third = escaped_spells after second.0 second.2 c left escape in
          (third.0, first.1 ∙ ap (λ w. word ++ w) (second.1 ∙ ap (λ w. chars plain ++ w) third.1) ∙ joined third.0, third.2);
    }

-- a backslash that begins no escape
pub IsWriting-bad : (text word rest plain after : List ℕ) → IsWriting text word rest → rest ≡ plain ++ 92 ∷ after → HasNone 92 plain → IsUtf8 plain →
    IsNoEscape after → (whole : List ℕ) → ¬ WritesCharacters text whole
IsWriting-bad text word rest plain after h e none utf8 escape whole spells =
    let parts = utf8_parts plain utf8 none in
    let first = h.back whole spells in
    let second = plain_spells (chars plain) (92 ∷ after) first.0 parts.1
    (subst (λ t. WritesCharacters t first.0) (e ∙ ap (λ p. p ++ 92 ∷ after) (sym parts.0)) first.2) in
    no_escape_spells after second.0 second.2 escape

-- nothing but plain characters is left
pub IsWriting-end : (text word rest : List ℕ) → IsWriting text word rest → HasNone 92 rest → IsUtf8 rest → IsOnlyWord text (word ++ chars rest)
IsWriting-end text word rest h none utf8 =
    let parts = utf8_parts rest utf8 none in
    let whole : rest ≡ encode_utf8_all (chars rest) ++ [] = sym parts.0 ∙ sym (append-nil (encode_utf8_all (chars rest))) in record {
      spells = h.forth (chars rest)
          (subst (λ t. WritesCharacters t (chars rest)) (sym whole)
          (subst (WritesCharacters (encode_utf8_all (chars rest) ++ [])) (append-nil (chars rest)) (spells_plain (chars rest) [] [] parts.1 refl)));
      only = λ other spells.
          let first = h.back other spells in
          let second = plain_spells (chars rest) [] first.0 parts.1 (subst (λ t. WritesCharacters t first.0) whole first.2) in
          first.1 ∙ ap (λ w. word ++ w) (second.1 ∙ nothing second.0 second.2 ∙ append-nil (chars rest));
    }
  where
    nothing : (more : List ℕ) → WritesCharacters [] more → chars rest ++ more ≡ chars rest ++ []
    nothing [] h = refl
    nothing (c ∷ more) (others, inl p, h) = absurd (empty_is_no_character c others p.spelled)
    nothing (c ∷ more) (others, inr p, h) = absurd (let e = p.spelled in cc)

-- a number of no character that is no greater than the last code point
pub surrogate_is : (n : ℕ) → OutOfScalarRange n → n ≤ 0x10FFFF → IsSurrogate n
surrogate_is n (inl within) below = within
surrogate_is n (inr past) below = absurd (omega arith)

pub no_surrogate : (n : ℕ) → InScalarRange n → ¬ IsSurrogate n
no_surrogate n (inl low) (above, below) = omega arith
no_surrogate n (inr high) (above, below) = let bound = high.0 in omega arith

-- what stands before and behind a backslash is text
pub utf8_before : (before after : List ℕ) → IsUtf8 (before ++ 92 ∷ after) → IsUtf8 before
utf8_before before after utf8 =
    let at : get_or (before ++ 92 ∷ after) (length before) 0 ≡ 92 = get_or-append_seam before 92 after 0 in
    let long = length-append before (92 ∷ after) in
    subst IsUtf8 (take-append_seam before (92 ∷ after))
    (IsUtf8-take (before ++ 92 ∷ after) (length before) utf8 (IsCharBoundary-before_ascii (before ++ 92 ∷ after) (length before) (omega arith) (omega arith)))

pub utf8_after : (before after : List ℕ) → IsUtf8 (before ++ 92 ∷ after) → IsUtf8 after
utf8_after before after utf8 =
    let at : get_or (before ++ 92 ∷ after) (length before) 0 ≡ 92 = get_or-append_seam before 92 after 0 in
    let long = length-append before (92 ∷ after) in
    subst IsUtf8 (drop-append-add before (92 ∷ after) 1)
    (IsUtf8-drop (before ++ 92 ∷ after) (length before + 1) utf8 (IsCharBoundary-after_ascii (before ++ 92 ∷ after) (length before) utf8 (omega arith)
    (omega arith)))

-- bytes of ASCII
abbrev AreAscii : List ℕ → Type 0
AreAscii bytes = AllByRecursion (λ b. b < 128) bytes

utf8_past : (ascii rest : List ℕ) → AreAscii ascii → IsUtf8 (ascii ++ rest) → IsUtf8 rest
utf8_past [] rest small utf8 = utf8
utf8_past (b ∷ ascii) rest small utf8 =
    utf8_past ascii rest small.1 (IsUtf8-past_char (b ∷ ascii ++ rest) (ascii ++ rest) b utf8 (ap (λ x. x ++ (ascii ++ rest)) (sym (encode_ascii b small.0))))

ascii_append : (xs ys : List ℕ) → AreAscii xs → AreAscii ys → AreAscii (xs ++ ys)
ascii_append [] ys h k = k
ascii_append (x ∷ xs) ys h k = (h.0, ascii_append xs ys h.1 k)

hexdigit_is_ascii : (b : ℕ) → is_ascii_hexdigit b ≡ true → b < 128
hexdigit_is_ascii b h = grind (arith, nat_tests)

ascii_digits : (digits : List ℕ) → list_all is_ascii_hexdigit digits ≡ true → AreAscii digits
ascii_digits [] h = tt
ascii_digits (d ∷ digits) h = (
  hexdigit_is_ascii d (AllPass-from_list_all is_ascii_hexdigit (d ∷ digits) h 0 0 (omega arith)),
  ascii_digits digits
      (and_true_right (is_ascii_hexdigit d) (list_all is_ascii_hexdigit digits) h),
)
  where
    and_true_right : (a b : Bool) → (a && b) ≡ true → b ≡ true
    and_true_right true b e = e
    and_true_right false b e = absurd (cc)

ascii_escape : (spelling : List ℕ) (c : ℕ) → IsEscapeOf spelling c → AreAscii spelling
ascii_escape s c (inl h) = subst AreAscii (sym h.0) (lit< tt, tt)
ascii_escape s c (inr (inl h)) = subst AreAscii (sym h.0) (lit< tt, tt)
ascii_escape s c (inr (inr (inl h))) = subst AreAscii (sym h.0) (lit< tt, tt)
ascii_escape s c (inr (inr (inr (inl h)))) = subst AreAscii (sym h.0) (lit< tt, tt)
ascii_escape s c (inr (inr (inr (inr h)))) =
    subst AreAscii (sym h.spelled)
    (lit< tt, (lit< tt, ascii_append h.digits (codes "}") (ascii_digits h.digits (hexadecimal_pass h.digits 1 6 0x10FFFF c h.number)) (lit< tt, tt)))

-- what stands behind an escape is text
pub utf8_left : (before after : List ℕ) (c : ℕ) (left : List ℕ) → IsUtf8 (before ++ 92 ∷ after) → IsOnlyEscape after c left → IsUtf8 left
utf8_left before after c left utf8 escape =
    utf8_past escape.spelling left (ascii_escape escape.spelling c escape.is) (subst IsUtf8 escape.parts (utf8_after before after utf8))
