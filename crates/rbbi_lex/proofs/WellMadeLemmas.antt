-- What a case spells is well made.
use Rattle.std.proofs.Common.{◌≡◌, ℕ, ◌+◌, ◌<◌, Bool, true, false, cond, List, [], ◌∷◌, length, sym, ap, subst, ◌∙◌, arith, slice_get}
use Rattle.std.proofs.lemmas.Bool.{false≢true}
use Rattle.std.specs.Prelude.{Option, None, Some, option_and_then, option_map}
use Rattle.rbbi_lex.specs.declared.token.TokenKind.{TokenKind}
use Rattle.rbbi_lex.specs.declared.token.TokenKind.TheVariants.{Semi, Equals, Bar, Slash, Caret, Star, Plus, Quest, Dot, ParenOpen, ParenClose, SetClose}
use Rattle.rbbi_lex.specs.declared.token.TokenKind.TheVariants.{Hyphen, Amp, Char}
use Rattle.rbbi_lex.specs.declared.case.Case.{Case}
use Rattle.rbbi_lex.specs.declared.case.Case.TheVariants.{Sign, SetSign, BracketedProperty, SetStart, StatusNumber, Quotation}
use Rattle.rbbi_lex.specs.declared.case.Case.TheVariants.{Brace, BareCharacter, SetCharacter, OtherCharacter}
use Rattle.rbbi_lex.specs.Cases.{outer_sign, inner_sign}
use Rattle.rbbi_lex.specs.Points.{is_at}
use Rattle.rbbi_lex.specs.Quotations.{QuotesUpTo}
use Rattle.rbbi_lex.specs.Spellings.{SpellsCase}
use Rattle.rbbi_lex.specs.WellMade.{IsWellMadeKind}

-- where there is a kind, it is well made
HasWellMade : Option TokenKind → Type 0
HasWellMade None = Unit {0}
HasWellMade (Some kind) = IsWellMadeKind kind

none : HasWellMade None
unfolding HasWellMade
none = tt

made : (kind : TokenKind) → HasWellMade (Some kind) → IsWellMadeKind kind
unfolding HasWellMade
made kind h = h

choice : (b : Bool) (kind : TokenKind) (others : Option TokenKind) → IsWellMadeKind kind → HasWellMade others → HasWellMade (cond b (Some kind) others)
unfolding HasWellMade
choice true kind others h g = h
choice false kind others h g = g

outer : (c : ℕ) → HasWellMade (outer_sign c)
unfolding outer_sign
outer c =
    choice _ Semi _ tt (choice _ Equals _ tt (choice _ Bar _ tt (choice _ Slash _ tt
    (choice _ Caret _ tt (choice _ Star _ tt (choice _ Plus _ tt (choice _ Quest _ tt
    (choice _ Dot _ tt (choice _ ParenOpen _ tt (choice _ ParenClose _ tt none))))))))))

inner : (c : ℕ) → HasWellMade (inner_sign c)
unfolding inner_sign
inner c = choice _ SetClose _ tt (choice _ Caret _ tt (choice _ Hyphen _ tt (choice _ Amp _ tt none)))

at_sign : (signs : ℕ → Option TokenKind) (o : Option ℕ) → ((c : ℕ) → HasWellMade (signs c)) → HasWellMade (option_and_then signs o)
at_sign signs None h = none
at_sign signs (Some c) h = h c

at_bare : (o : Option ℕ) → HasWellMade (option_map (λ c. Char c true) o)
unfolding HasWellMade
at_bare None = tt
at_bare (Some c) = tt

quoted_some : (x : List ℕ) (i : ℕ) (word : List ℕ) (close : ℕ) → is_at x i 39 ≡ false → QuotesUpTo x i word close → 0 < length word
quoted_some x i [] close single q =
    absurd (false≢true (sym single ∙ ap (λ k. is_at x k 39) q.0 ∙ q.1))
quoted_some x i (c ∷ word) close single q = omega arith

-- what a case spells is well made
pub Spells-well_made : (x : List ℕ) (case : Case) (i j : ℕ) (kind : TokenKind) → SpellsCase x case i j kind → IsWellMadeKind kind
Spells-well_made x Sign i j kind p =
    made kind (subst HasWellMade p.0 (at_sign outer_sign (slice_get x i) outer))
Spells-well_made x SetSign i j kind p =
    made kind (subst HasWellMade p.0 (at_sign inner_sign (slice_get x i) inner))
Spells-well_made x BracketedProperty i j kind p = subst IsWellMadeKind (sym p.3) tt
Spells-well_made x SetStart i j kind p = subst IsWellMadeKind (sym p.1) tt
Spells-well_made x StatusNumber i j kind p = subst IsWellMadeKind (sym p.4) p.2
Spells-well_made x Quotation i j kind p =
    subst IsWellMadeKind (sym p.1.4) (quoted_some x (i + 1) p.1.0 p.1.1 p.0 p.1.2)
Spells-well_made x Brace i j kind p = absurd p
Spells-well_made x BareCharacter i j kind p = made kind (subst HasWellMade p.0 (at_bare (slice_get x i)))
Spells-well_made x SetCharacter i j kind p = made kind (subst HasWellMade p.0 (at_bare (slice_get x i)))
Spells-well_made x OtherCharacter i j kind p = absurd p
Spells-well_made x case i j kind p = subst IsWellMadeKind (sym p.2) tt
