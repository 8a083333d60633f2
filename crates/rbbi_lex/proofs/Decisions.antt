-- By each case a place spells a token, or none.
use Rattle.std.proofs.Common.{◌≡◌, ℕ, zero, suc, ◌+◌, ◌≤◌, ◌⊎◌, inl, inr, true, false, List, [], ◌∷◌, length, refl, sym, ap, subst, ◌∙◌, arith, slice_get}
use Rattle.std.proofs.Common.{slice_range}
use Rattle.std.proofs.Math.Utf8.{scalar}
use Rattle.std.proofs.lemmas.Bool.{false≢true, cases_Bool, cases_lt}
use Rattle.std.proofs.lemmas.Option.{slice_get_past}
use Rattle.std.specs.Prelude.{Option, None, Some, option_and_then, option_map, ◌==◌}
use Rattle.rbbi_lex.specs.declared.token.TokenKind.{TokenKind}
use Rattle.rbbi_lex.specs.declared.token.TokenKind.TheVariants.{SetOpen, Char, Quoted, Name, Control, Tag}
use Rattle.rbbi_lex.specs.declared.escape.Form.{Form}
use Rattle.rbbi_lex.specs.declared.escape.Form.TheVariants.{FourDigits, EightDigits, BracedDigits, FewDigits, StandsFor, Unknown}
use Rattle.rbbi_lex.specs.declared.stretch.Stretch.TheVariants.{NameText, ControlText, HexadecimalDigits, BracedBody, BracedName, BracketedBody, BracketedName}
use Rattle.rbbi_lex.specs.declared.case.Case.{Case}
use Rattle.rbbi_lex.specs.declared.case.Case.TheVariants.{Sign, SetSign, BracketedProperty, SetStart, Variable, ControlName, StatusNumber, QuotePair, Quotation}
use Rattle.rbbi_lex.specs.declared.case.Case.TheVariants.{BracedProperty, Escape, Brace, BareCharacter, SetCharacter, OtherCharacter}
use Rattle.rbbi_lex.specs.Characters.{is_name_start, is_line_end, is_sign, passes}
use Rattle.rbbi_lex.specs.Stretches.{stretch_end}
use Rattle.rbbi_lex.specs.Cases.{outer_sign, inner_sign}
use Rattle.rbbi_lex.specs.Points.{CharacterAt, is_at}
use Rattle.rbbi_text.specs.Numbers.{number}
use Rattle.rbbi_lex.specs.Escapes.{form_of, braced_end, few_end, WritesCharacter, FixedDigits, DigitsInBraces, OneOrTwoDigits, EscapeGoesOn}
use Rattle.rbbi_lex.specs.Quotations.{IsQuoted, QuotesUpTo}
use Rattle.rbbi_lex.specs.Properties.{property, body_start, SpellsBraced, SpellsBracketed}
use Rattle.rbbi_lex.specs.Spellings.{most_tag, digits_start, digits_end, tag_close, tag_number, SpellsName, SpellsControl, SpellsTag, SpellsQuotePair}
use Rattle.rbbi_lex.specs.Spellings.{SpellsQuotation, SpellsEscape, SpellsCase}
use Rattle.rbbi_lex.proofs.PointLemmas.{CharacterAt-unique, is_at-same, IsQuoted-closed, IsQuoted-unique, IsQuoted-forward}

-- some token is spelled so, or none
abbrev pub Decided : (ℕ → TokenKind → Type 0) → Type 0
Decided P = ((j : ℕ) × (kind : TokenKind) × P j kind) ⊎ ((j : ℕ) (kind : TokenKind) → ¬ P j kind)

some_kind : (o : Option TokenKind) (i : ℕ) → Decided (λ j kind. (o ≡ Some kind) × (j ≡ i + 1))
some_kind None i = inr (λ j kind p. let e = p.0 in cc)
some_kind (Some kind) i = inl (i + 1, kind, (refl, refl))

decide_name : (x : List ℕ) (i : ℕ) → Decided (SpellsName x i)
decide_name x i =
    elim (cases_Bool (passes is_name_start (slice_get x (i + 1)))) [
      | inl holds ↦ inl (stretch_end NameText x (i + 1), Name (slice_range x (i + 1) (stretch_end NameText x (i + 1))), (holds, refl, refl))
      | inr fails ↦ inr (λ j kind p. false≢true (sym fails ∙ p.0))
    ]

decide_control : (x : List ℕ) (i : ℕ) → Decided (SpellsControl x i)
decide_control x i =
    elim (cases_lt (i + 2) (stretch_end ControlText x (i + 2))) [
      | inl some ↦ inl (stretch_end ControlText x (i + 2), Control (slice_range x (i + 2) (stretch_end ControlText x (i + 2))), (some, refl, refl))
      | inr none ↦ inr (λ j kind p. absurd (omega (arith, none, p.0)))
    ]

decide_tag : (x : List ℕ) (i : ℕ) → Decided (SpellsTag x i)
decide_tag x i =
    elim (cases_lt (digits_start x i) (digits_end x i)) [
      | inr none ↦ inr (λ j kind p. absurd (omega (arith, none, p.0)))
      | inl some ↦
          elim (cases_Bool (is_at x (tag_close x i) 125)) [
            | inr fails ↦ inr (λ j kind p. false≢true (sym fails ∙ p.1))
            | inl closed ↦
                elim (cases_lt most_tag (tag_number x i)) [
                  | inl great ↦ inr (λ j kind p. absurd (omega (arith, great, p.2)))
                  | inr fits ↦ inl (tag_close x i + 1, Tag (tag_number x i), (some, closed, fits, refl, refl))
                ]
          ]
    ]

decide_pair : (x : List ℕ) (i : ℕ) → Decided (SpellsQuotePair x i)
decide_pair x i =
    elim (cases_Bool (is_at x (i + 1) 39)) [
      | inl holds ↦ inl (i + 2, Char 39 false, (holds, refl, refl))
      | inr fails ↦ inr (λ j kind p. false≢true (sym fails ∙ p.0))
    ]

decide_braced : (x : List ℕ) (i : ℕ) → Decided (SpellsBraced x i)
decide_braced x i =
    elim (cases_Bool (is_at x (stretch_end BracedBody x (i + 3)) 125)) [
      | inl holds ↦ inl (
        stretch_end BracedBody x (i + 3) + 1,
        property x (is_at x (i + 1) 80) (i + 3) (stretch_end BracedName x (i + 3))
            (stretch_end BracedBody x (i + 3)),
        (holds, refl, refl),
      )
      | inr fails ↦ inr (λ j kind p. false≢true (sym fails ∙ p.0))
    ]

decide_bracketed : (x : List ℕ) (i : ℕ) → Decided (SpellsBracketed x i)
decide_bracketed x i =
    elim (cases_Bool (is_at x (stretch_end BracketedBody x (i + 2)) 58)) [
      | inr fails ↦ inr (λ j kind p. false≢true (sym fails ∙ p.0))
      | inl colon ↦
          elim (cases_Bool (is_at x (stretch_end BracketedBody x (i + 2) + 1) 93)) [
            | inr fails ↦ inr (λ j kind p. false≢true (sym fails ∙ p.1))
            | inl holds ↦ inl (
              stretch_end BracketedBody x (i + 2) + 2,
              property x (is_at x (i + 2) 94) (body_start x i) (stretch_end BracketedName x (body_start x i))
                  (stretch_end BracketedBody x (i + 2)),
              (colon, holds, refl, refl),
            )
          ]
    ]

-- a character is written so, or none
abbrev Written : (ℕ → ℕ → Type 0) → Type 0
Written P = ((j : ℕ) × (c : ℕ) × P j c) ⊎ ((j c : ℕ) → ¬ P j c)

not_scalar : (x : List ℕ) (i j c : ℕ) → scalar (number 16 (slice_range x i j)) ≡ false → WritesCharacter x i j c → ⊥
not_scalar x i j c fails w = false≢true (sym fails ∙ ap scalar (sym w.0) ∙ w.1)

decide_fixed : (x : List ℕ) (n i : ℕ) → Written (FixedDigits x n i)
decide_fixed x n i =
    elim (cases_lt (stretch_end HexadecimalDigits x i) (i + n)) [
      | inl short ↦ inr (λ j c p. absurd (omega (arith, short, p.0)))
      | inr there ↦
          elim (cases_Bool (scalar (number 16 (slice_range x i (i + n))))) [
            | inr fails ↦ inr (λ j c p. not_scalar x i (i + n) c fails p.2)
            | inl holds ↦ inl (i + n, number 16 (slice_range x i (i + n)), (there, refl, (refl, holds)))
          ]
    ]

decide_in_braces : (x : List ℕ) (i : ℕ) → Written (DigitsInBraces x i)
decide_in_braces x i =
    elim (cases_lt (i + 1) (braced_end x i)) [
      | inr none ↦ inr (λ j c p. absurd (omega (arith, none, p.0)))
      | inl some ↦
          elim (cases_lt (i + 7) (braced_end x i)) [
            | inl long ↦ inr (λ j c p. absurd (omega (arith, long, p.1)))
            | inr short ↦
                elim (cases_Bool (is_at x (braced_end x i) 125)) [
                  | inr fails ↦ inr (λ j c p. false≢true (sym fails ∙ p.2))
                  | inl closed ↦
                      elim (cases_Bool (scalar (number 16 (slice_range x (i + 1) (braced_end x i))))) [
                        | inr fails ↦ inr (λ j c p. not_scalar x (i + 1) (braced_end x i) c fails p.4)
                        | inl holds ↦ inl (braced_end x i + 1, number 16 (slice_range x (i + 1) (braced_end x i)), (some, short, closed, refl, (refl, holds)))
                      ]
                ]
          ]
    ]

decide_few : (x : List ℕ) (i : ℕ) → Written (OneOrTwoDigits x i)
decide_few x i =
    elim (cases_lt i (stretch_end HexadecimalDigits x i)) [
      | inr none ↦ inr (λ j c p. absurd (omega (arith, none, p.0)))
      | inl some ↦
          elim (cases_Bool (scalar (number 16 (slice_range x i (few_end x i))))) [
            | inr fails ↦ inr (λ j c p. not_scalar x i (few_end x i) c fails p.2)
            | inl holds ↦ inl (few_end x i, number 16 (slice_range x i (few_end x i)), (some, refl, (refl, holds)))
          ]
    ]

decide_rest : (x : List ℕ) (form : Form) (i : ℕ) → Written (EscapeGoesOn x form i)
decide_rest x FourDigits i = decide_fixed x 4 i
decide_rest x EightDigits i = decide_fixed x 8 i
decide_rest x BracedDigits i = decide_in_braces x i
decide_rest x FewDigits i = decide_few x i
decide_rest x (StandsFor d) i = inl (i, d, (refl, refl))
decide_rest x Unknown i = inr (λ j c p. p)

decide_second : (x : List ℕ) (i : ℕ) (o : Option ℕ) → slice_get x (i + 1) ≡ o → Decided (SpellsEscape x i)
decide_second x i None e =
    inr (λ j kind p. let bad : None ≡ Some p.1.0 = sym e ∙ p.1.1 in cc)
decide_second x i (Some d) e =
    elim (decide_rest x (form_of d (slice_get x (i + 2))) (i + 2)) [
      | inl r ↦ inl (r.0, Char r.1 false, (r.1, (d, e, r.2), refl))
      | inr fails ↦ inr (λ j kind p. fails j p.0 (subst (λ (v : ℕ). EscapeGoesOn x (form_of v (slice_get x (i + 2))) (i + 2) j p.0)
          (CharacterAt-unique x (i + 1) p.1.0 d p.1.1 e) p.1.2))
    ]

-- a line terminator isn't written within quotes
at_line_end : (x : List ℕ) (i c j d : ℕ) → CharacterAt x i c → (c == 39) ≡ false → is_line_end c ≡ true → IsQuoted x i j d → ⊥
at_line_end x i c j d at other ends (inl p) =
    false≢true (sym other ∙ sym (is_at-same x i c 39 at) ∙ p.0)
at_line_end x i c j d at other ends (inr p) =
    false≢true (sym p.2 ∙ ap is_line_end (CharacterAt-unique x i d c p.0 at) ∙ ends)

no_character : (x : List ℕ) (i j c : ℕ) → slice_get x i ≡ None → IsQuoted x i j c → ⊥
no_character x i j c e (inl p) = false≢true (sym (ap (λ o. is_sign o 39) e) ∙ p.0)
no_character x i j c e (inr p) = let bad : None ≡ Some c = sym e ∙ p.0 in cc

past_end : (x : List ℕ) (i j c : ℕ) → length x ≤ i → IsQuoted x i j c → ⊥
past_end x i j c h p = no_character x i j c (slice_get_past x i h) p

-- where no character is written and no quote stands, nothing closes
pub no_close : (x : List ℕ) (i : ℕ) → is_at x i 39 ≡ false → ((j c : ℕ) → ¬ IsQuoted x i j c) → (word : List ℕ) (close : ℕ) → QuotesUpTo x i word close → ⊥
no_close x i fails none [] close p = false≢true (sym fails ∙ ap (λ k. is_at x k 39) p.0 ∙ p.1)
no_close x i fails none (c ∷ word) close p = none p.0 c p.1

-- a sequence isn't closed that goes on with a character and isn't closed behind it
pub not_closed : (x : List ℕ) (i next d : ℕ) → IsQuoted x i next d → ((word : List ℕ) (close : ℕ) → ¬ QuotesUpTo x next word close) →
    (word : List ℕ) (close : ℕ) → QuotesUpTo x i word close → ⊥
not_closed x i next d q fails [] close p =
    IsQuoted-closed x i next d q (ap (λ k. is_at x k 39) p.0 ∙ p.1) (ap (λ k. is_at x (k + 1) 39) p.0 ∙ p.2)
not_closed x i next d q fails (c ∷ word) close p =
    fails word close (subst (λ (k : ℕ). QuotesUpTo x k word close) (IsQuoted-unique x i p.0 next c d p.1 q).0 p.2)

-- within quotes a character is written at a place, or none
written_at : (x : List ℕ) (i c : ℕ) → CharacterAt x i c → Written (IsQuoted x i)
written_at x i c at =
    elim (cases_Bool (c == 39)) [
      | inl quote ↦
          let here = is_at-same x i c 39 at ∙ quote in
          elim (cases_Bool (is_at x (i + 1) 39)) [
            | inl pair ↦ inl (i + 2, 39, inl (here, pair, refl, refl))
            | inr closed ↦ inr (λ j d p. IsQuoted-closed x i j d p here closed)
          ]
      | inr other ↦
          elim (cases_Bool (is_line_end c)) [
            | inr plain ↦ inl (i + 1, c, inr (at, other, plain, refl))
            | inl ends ↦ inr (λ j d p. at_line_end x i c j d at other ends p)
          ]
    ]

written_in : (x : List ℕ) (i : ℕ) (o : Option ℕ) → slice_get x i ≡ o → Written (IsQuoted x i)
written_in x i None e = inr (λ j c p. no_character x i j c e p)
written_in x i (Some c) e = written_at x i c e

abbrev Closes : List ℕ → ℕ → Type 0
Closes x i =
    ((word : List ℕ) × (close : ℕ) × QuotesUpTo x i word close) ⊎ ((word : List ℕ) (close : ℕ) → ¬ QuotesUpTo x i word close)

closed_here : (x : List ℕ) (i : ℕ) → ((j c : ℕ) → ¬ IsQuoted x i j c) → Closes x i
closed_here x i none =
    elim (cases_Bool (is_at x i 39)) [
      | inr fails ↦ inr (λ word close p. no_close x i fails none word close p)
      | inl quote ↦
          elim (cases_Bool (is_at x (i + 1) 39)) [
            | inl pair ↦ absurd (none (i + 2) 39 (inl (quote, pair, refl, refl)))
            | inr last ↦ inl ([], i, (refl, quote, last))
          ]
    ]

-- a quoted sequence is closed, or isn't
closes : (n : ℕ) (x : List ℕ) (i : ℕ) → length x ≤ i + n → Closes x i
closes zero x i h = closed_here x i (λ j c p. past_end x i j c (omega arith) p)
closes (suc n) x i h =
    elim (written_in x i (slice_get x i) refl) [
      | inr none ↦ closed_here x i none
      | inl w ↦
          let forward = IsQuoted-forward x i w.0 w.1 w.2 in
          elim (closes n x w.0 (omega arith)) [
            | inl r ↦ inl (w.1 ∷ r.0, r.1, (w.0, w.2, r.2))
            | inr fails ↦ inr (λ word close p. not_closed x i w.0 w.1 w.2 fails word close p)
          ]
    ]

decide_quotation : (x : List ℕ) (i : ℕ) → Decided (SpellsQuotation x i)
decide_quotation x i =
    elim (cases_Bool (is_at x (i + 1) 39)) [
      | inl pair ↦ inr (λ j kind p. false≢true (sym p.0 ∙ pair))
      | inr single ↦
          elim (closes (length x) x (i + 1) (omega arith)) [
            | inl r ↦ inl (r.1 + 1, Quoted r.0, (single, (r.0, r.1, r.2, refl, refl)))
            | inr fails ↦ inr (λ j kind p. fails p.1.0 p.1.1 p.1.2)
          ]
    ]

-- by each case a place spells a token, or none
pub decide : (x : List ℕ) (case : Case) (i : ℕ) → Decided (SpellsCase x case i)
decide x Sign i = some_kind (option_and_then outer_sign (slice_get x i)) i
decide x SetSign i = some_kind (option_and_then inner_sign (slice_get x i)) i
decide x BracketedProperty i = decide_bracketed x i
decide x SetStart i = inl (i + 1, SetOpen, (refl, refl))
decide x Variable i = decide_name x i
decide x ControlName i = decide_control x i
decide x StatusNumber i = decide_tag x i
decide x QuotePair i = decide_pair x i
decide x Quotation i = decide_quotation x i
decide x BracedProperty i = decide_braced x i
decide x Escape i = decide_second x i (slice_get x (i + 1)) refl
decide x Brace i = inr (λ j kind p. p)
decide x BareCharacter i = some_kind (option_map (λ c. Char c true) (slice_get x i)) i
decide x SetCharacter i = some_kind (option_map (λ c. Char c true) (slice_get x i)) i
decide x OtherCharacter i = inr (λ j kind p. p)
