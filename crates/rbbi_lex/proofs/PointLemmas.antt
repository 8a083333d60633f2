-- At a place one case decides, and what it spells is determined.
use Rattle.std.proofs.Common.{◌≡◌, ℕ, ◌+◌, ◌<◌, ◌≤◌, inl, inr, true, false, List, [], ◌∷◌, length, refl, sym, ap, subst, ◌∙◌, arith, slice_get}
use Rattle.std.proofs.lemmas.Bool.{false≢true}
use Rattle.std.proofs.lemmas.Option.{slice_get_within}
use Rattle.std.specs.Prelude.{Option, Some, ◌==◌}
use Rattle.rbbi_lex.specs.declared.token.TokenKind.{TokenKind}
use Rattle.rbbi_lex.specs.declared.state.State.{State}
use Rattle.rbbi_lex.specs.declared.escape.Form.{Form}
use Rattle.rbbi_lex.specs.declared.escape.Form.TheVariants.{BracedDigits, StandsFor, Unknown}
use Rattle.rbbi_lex.specs.declared.case.Case.{Case}
use Rattle.rbbi_lex.specs.declared.case.Case.TheVariants.{Sign, SetSign, BracketedProperty, SetStart, StatusNumber, Quotation}
use Rattle.rbbi_lex.specs.declared.case.Case.TheVariants.{Escape, Brace, BareCharacter, SetCharacter, OtherCharacter}
use Rattle.rbbi_lex.specs.Characters.{is_sign}
use Rattle.rbbi_lex.specs.Cases.{first_case}
use Rattle.rbbi_lex.specs.Points.{CharacterAt, is_at, CaseAt}
use Rattle.rbbi_lex.specs.Escapes.{form_of, EscapeGoesOn, IsEscape}
use Rattle.rbbi_lex.specs.Quotations.{IsQuoted, QuotesUpTo}
use Rattle.rbbi_lex.specs.Spellings.{SpellsCase}
use Rattle.rbbi_lex.proofs.StretchLemmas.{is_at-within}

pub CharacterAt-unique : (x : List ℕ) (i c d : ℕ) → CharacterAt x i c → CharacterAt x i d → c ≡ d
CharacterAt-unique x i c d p q = let e : Some c ≡ Some d = sym p ∙ q in cc

pub CaseAt-unique : (x : List ℕ) (state : State) (i : ℕ) (r s : Case) → CaseAt x state i r → CaseAt x state i s → r ≡ s
CaseAt-unique x state i r s p q =
    let same = ap (λ c. first_case state c (slice_get x (i + 1)) (slice_get x (i + 2))) (CharacterAt-unique x i p.0 q.0 p.1 q.1) in
    let e : Some r ≡ Some s = sym p.2 ∙ same ∙ q.2 in cc

-- a character that stands at a place is this one where this one stands there
pub is_at-same : (x : List ℕ) (i c sign : ℕ) → CharacterAt x i c → is_at x i sign ≡ (c == sign)
is_at-same x i c sign at = ap (λ o. is_sign o sign) at

EscapeGoesOn-unique : (x : List ℕ) (form : Form) (i j k c d : ℕ) → EscapeGoesOn x form i j c → EscapeGoesOn x form i k d → (j ≡ k) × (c ≡ d)
EscapeGoesOn-unique x BracedDigits i j k c d p q = (p.3 ∙ sym q.3, p.4.0 ∙ sym q.4.0)
EscapeGoesOn-unique x (StandsFor e) i j k c d p q = (p.0 ∙ sym q.0, p.1 ∙ sym q.1)
EscapeGoesOn-unique x Unknown i j k c d p q = absurd p
EscapeGoesOn-unique x form i j k c d p q = (p.1 ∙ sym q.1, p.2.0 ∙ sym q.2.0)

IsEscape-unique : (x : List ℕ) (i j k c d : ℕ) → IsEscape x i j c → IsEscape x i k d → (j ≡ k) × (c ≡ d)
IsEscape-unique x i j k c d p q =
    let same = CharacterAt-unique x (i + 1) q.0 p.0 q.1 p.1 in
    let q' = subst (λ (e : ℕ). EscapeGoesOn x (form_of e (slice_get x (i + 2))) (i + 2) k d) same q.2 in
    EscapeGoesOn-unique x (form_of p.0 (slice_get x (i + 2))) (i + 2) j k c d p.2 q'

-- a quote within quotes is the first of a pair
pub IsQuoted-pair : (x : List ℕ) (i j c : ℕ) → IsQuoted x i j c → is_at x i 39 ≡ true → is_at x (i + 1) 39 ≡ true
IsQuoted-pair x i j c (inl p) h = p.1
IsQuoted-pair x i j c (inr p) h =
    absurd (false≢true (sym p.1 ∙ sym (is_at-same x i c 39 p.0) ∙ h))

-- at a quote that is not the first of a pair, the sequence doesn't go on
pub IsQuoted-closed : (x : List ℕ) (i j c : ℕ) → IsQuoted x i j c → is_at x i 39 ≡ true → is_at x (i + 1) 39 ≡ false → ⊥
IsQuoted-closed x i j c p h g = false≢true (sym g ∙ IsQuoted-pair x i j c p h)

pub IsQuoted-unique : (x : List ℕ) (i j k c d : ℕ) → IsQuoted x i j c → IsQuoted x i k d → (j ≡ k) × (c ≡ d)
IsQuoted-unique x i j k c d (inl p) (inl q) = (p.2 ∙ sym q.2, p.3 ∙ sym q.3)
IsQuoted-unique x i j k c d (inl p) (inr q) =
    absurd (false≢true (sym q.1 ∙ sym (is_at-same x i d 39 q.0) ∙ p.0))
IsQuoted-unique x i j k c d (inr p) (inl q) =
    absurd (false≢true (sym p.1 ∙ sym (is_at-same x i c 39 p.0) ∙ q.0))
IsQuoted-unique x i j k c d (inr p) (inr q) =
    (p.3 ∙ sym q.3, CharacterAt-unique x i c d p.0 q.0)

pub IsQuoted-forward : (x : List ℕ) (i j c : ℕ) → IsQuoted x i j c → i < j
IsQuoted-forward x i j c (inl p) = omega (arith, p.2)
IsQuoted-forward x i j c (inr p) = omega (arith, p.3)

-- within quotes a character is written within the text
pub IsQuoted-within : (x : List ℕ) (i j c : ℕ) → IsQuoted x i j c → i < length x
IsQuoted-within x i j c (inl p) = is_at-within x i 39 p.0
IsQuoted-within x i j c (inr p) = slice_get_within x i c p.0

-- behind a character that is written, the rest of the sequence is
pub QuotesUpTo-rest : (x : List ℕ) (i j c : ℕ) (word : List ℕ) (end : ℕ) → IsQuoted x i j c → QuotesUpTo x i word end →
    (left : List ℕ) × QuotesUpTo x j left end
QuotesUpTo-rest x i j c [] end q p =
    absurd (IsQuoted-closed x i j c q (subst (λ (n : ℕ). is_at x n 39 ≡ true) (sym p.0) p.1) (subst (λ (n : ℕ). is_at x (n + 1) 39 ≡ false) (sym p.0) p.2))
QuotesUpTo-rest x i j c (d ∷ word) end q p =
    (word, subst (λ (n : ℕ). QuotesUpTo x n word end) (IsQuoted-unique x i p.0 j d c p.1 q).0 p.2)

pub QuotesUpTo-unique : (x : List ℕ) (i j k : ℕ) (w v : List ℕ) → QuotesUpTo x i w j → QuotesUpTo x i v k → (j ≡ k) × (w ≡ v)
QuotesUpTo-unique x i j k [] [] p q = (sym p.0 ∙ q.0, refl)
QuotesUpTo-unique x i j k [] (d ∷ v) p q =
    absurd (IsQuoted-closed x i q.0 d q.1 (subst (λ (n : ℕ). is_at x n 39 ≡ true) (sym p.0) p.1) (subst (λ (n : ℕ). is_at x (n + 1) 39 ≡ false) (sym p.0) p.2))
QuotesUpTo-unique x i j k (c ∷ w) [] p q =
    absurd (IsQuoted-closed x i p.0 c p.1 (subst (λ (n : ℕ). is_at x n 39 ≡ true) (sym q.0) q.1) (subst (λ (n : ℕ). is_at x (n + 1) 39 ≡ false) (sym q.0) q.2))
QuotesUpTo-unique x i j k (c ∷ w) (d ∷ v) p q =
    let same = IsQuoted-unique x i q.0 p.0 d c q.1 p.1 in
    let rest = QuotesUpTo-unique x p.0 j k w v p.2 (subst (λ (n : ℕ). QuotesUpTo x n v k) same.0 q.2) in
    (rest.0, cc)

pub QuotesUpTo-forward : (x : List ℕ) (i j : ℕ) (w : List ℕ) → QuotesUpTo x i w j → i ≤ j
QuotesUpTo-forward x i j [] p = omega (arith, p.0)
QuotesUpTo-forward x i j (c ∷ w) p =
    let first = IsQuoted-forward x i p.0 c p.1 in
    let rest = QuotesUpTo-forward x p.0 j w p.2 in omega arith

-- the quote that closes
pub QuotesUpTo-close : (x : List ℕ) (i j : ℕ) (w : List ℕ) → QuotesUpTo x i w j → is_at x j 39 ≡ true
QuotesUpTo-close x i j [] p = p.1
QuotesUpTo-close x i j (c ∷ w) p = QuotesUpTo-close x p.0 j w p.2

same_Some : (a b : TokenKind) (o : Option TokenKind) → o ≡ Some a → o ≡ Some b → a ≡ b
same_Some a b o p q = let e : Some a ≡ Some b = sym p ∙ q in cc

pub Spells-unique : (x : List ℕ) (case : Case) (i j k : ℕ) (a b : TokenKind) → SpellsCase x case i j a → SpellsCase x case i k b → (j ≡ k) × (a ≡ b)
Spells-unique x Sign i j k a b p q = (p.1 ∙ sym q.1, same_Some a b _ p.0 q.0)
Spells-unique x SetSign i j k a b p q = (p.1 ∙ sym q.1, same_Some a b _ p.0 q.0)
Spells-unique x BracketedProperty i j k a b p q = (p.2 ∙ sym q.2, p.3 ∙ sym q.3)
Spells-unique x SetStart i j k a b p q = (p.0 ∙ sym q.0, p.1 ∙ sym q.1)
Spells-unique x StatusNumber i j k a b p q = (p.3 ∙ sym q.3, p.4 ∙ sym q.4)
Spells-unique x Quotation i j k a b p q =
    let same = QuotesUpTo-unique x (i + 1) p.1.1 q.1.1 p.1.0 q.1.0 p.1.2 q.1.2 in (cc, cc)
Spells-unique x Escape i j k a b p q =
    let same = IsEscape-unique x i j k p.0 q.0 p.1 q.1 in (same.0, cc)
Spells-unique x Brace i j k a b p q = absurd p
Spells-unique x BareCharacter i j k a b p q = (p.1 ∙ sym q.1, same_Some a b _ p.0 q.0)
Spells-unique x SetCharacter i j k a b p q = (p.1 ∙ sym q.1, same_Some a b _ p.0 q.0)
Spells-unique x OtherCharacter i j k a b p q = absurd p
Spells-unique x case i j k a b p q = (p.1 ∙ sym q.1, p.2 ∙ sym q.2)
