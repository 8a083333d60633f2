-- At a place stands one token or one fault, within the text.
use Rattle.std.proofs.Common.{◌≡◌, ℕ, ◌+◌, ◌<◌, ◌≤◌, List, length, sym, ap, subst, ◌∙◌, arith, slice_get}
use Rattle.std.proofs.lemmas.Option.{slice_get_within}
use Rattle.rbbi_lex.specs.declared.token.TokenKind.{TokenKind}
use Rattle.rbbi_lex.specs.declared.token.TokenKind.TheVariants.{SetOpen}
use Rattle.rbbi_lex.specs.declared.state.State.{State}
use Rattle.rbbi_lex.specs.Cases.{state_after}
use Rattle.rbbi_lex.specs.declared.escape.Form.{Form}
use Rattle.rbbi_lex.specs.declared.escape.Form.TheVariants.{BracedDigits, FewDigits, StandsFor, Unknown}
use Rattle.rbbi_lex.specs.declared.stretch.Stretch.TheVariants.{NameText, ControlText, HexadecimalDigits}
use Rattle.rbbi_lex.specs.declared.case.Case.{Case}
use Rattle.rbbi_lex.specs.declared.case.Case.TheVariants.{BracketedProperty, SetStart, Variable, ControlName, StatusNumber, QuotePair, Quotation}
use Rattle.rbbi_lex.specs.declared.case.Case.TheVariants.{BracedProperty, Escape, Brace, OtherCharacter}
use Rattle.rbbi_lex.specs.Characters.{is_name_start}
use Rattle.rbbi_lex.specs.Escapes.{form_of, braced_end, EscapeGoesOn, IsEscape}
use Rattle.rbbi_lex.specs.Spellings.{tag_close, SpellsCase, TokenAt}
use Rattle.rbbi_lex.specs.Faults.{Fault, fault_of, FaultAt}
use Rattle.rbbi_lex.proofs.StretchLemmas.{stretch_end-within, stretch_end-moved, is_at-within, passes-within}
use Rattle.rbbi_lex.proofs.PointLemmas.{CaseAt-unique, QuotesUpTo-forward, QuotesUpTo-close, Spells-unique}

EscapeGoesOn-bounds : (x : List ℕ) (form : Form) (i j c : ℕ) → i ≤ length x → EscapeGoesOn x form i j c → (i ≤ j) × (j ≤ length x)
EscapeGoesOn-bounds x BracedDigits i j c h p =
    let close = is_at-within x (braced_end x i) 125 p.2 in (omega (arith, p.0, p.3), omega (arith, p.3, close))
EscapeGoesOn-bounds x FewDigits i j c h p =
    let ends = stretch_end-within HexadecimalDigits x i h in (omega (arith, p.0, p.1), omega (arith, p.0, p.1, ends))
EscapeGoesOn-bounds x (StandsFor d) i j c h p = (omega (arith, p.0), omega (arith, p.0))
EscapeGoesOn-bounds x Unknown i j c h p = absurd p
EscapeGoesOn-bounds x form i j c h p =
    let ends = stretch_end-within HexadecimalDigits x i h in (omega (arith, p.1), omega (arith, p.0, p.1, ends))

IsEscape-bounds : (x : List ℕ) (i j c : ℕ) → IsEscape x i j c → (i < j) × (j ≤ length x)
IsEscape-bounds x i j c p =
    let within = slice_get_within x (i + 1) p.0 p.1 in
    let rest = EscapeGoesOn-bounds x (form_of p.0 (slice_get x (i + 2))) (i + 2) j c (omega arith) p.2 in
    (omega (arith, rest.0), rest.1)

-- a token goes forward, and ends within the text
Spells-bounds : (x : List ℕ) (case : Case) (i j : ℕ) (kind : TokenKind) → i < length x → SpellsCase x case i j kind → (i < j) × (j ≤ length x)
Spells-bounds x BracketedProperty i j kind h p =
    let close = is_at-within x _ 93 p.1 in (omega (arith, p.2), omega (arith, p.2, close))
Spells-bounds x SetStart i j kind h p = (omega (arith, p.0), omega (arith, p.0))
Spells-bounds x Variable i j kind h p =
    let within = passes-within is_name_start x (i + 1) p.0 in
    let ends = stretch_end-within NameText x (i + 1) (omega arith) in (omega (arith, p.1), omega (arith, p.1, ends))
Spells-bounds x ControlName i j kind h p =
    let ends = stretch_end-moved ControlText x (i + 2) p.0 in (omega (arith, p.1), omega (arith, p.1, ends))
Spells-bounds x StatusNumber i j kind h p =
    let close = is_at-within x (tag_close x i) 125 p.1 in (omega (arith, p.3), omega (arith, p.3, close))
Spells-bounds x QuotePair i j kind h p =
    let close = is_at-within x (i + 1) 39 p.0 in (omega (arith, p.1), omega (arith, p.1, close))
Spells-bounds x Quotation i j kind h p =
    let forward = QuotesUpTo-forward x (i + 1) p.1.1 p.1.0 p.1.2 in
    let close = is_at-within x p.1.1 39 (QuotesUpTo-close x (i + 1) p.1.1 p.1.0 p.1.2) in
    (omega (arith, p.1.3), omega (arith, p.1.3, close))
Spells-bounds x BracedProperty i j kind h p =
    let close = is_at-within x _ 125 p.0 in (omega (arith, p.1), omega (arith, p.1, close))
Spells-bounds x Escape i j kind h p = IsEscape-bounds x i j p.0 p.1
Spells-bounds x Brace i j kind h p = absurd p
Spells-bounds x OtherCharacter i j kind h p = absurd p
Spells-bounds x case i j kind h p = (omega (arith, p.1), omega (arith, p.1))

-- a token stands within the text
pub TokenAt-within : (x : List ℕ) (state : State) (i j : ℕ) (kind : TokenKind) → TokenAt x state i j kind → i < length x
TokenAt-within x state i j kind t = slice_get_within x i t.1.0 t.1.1

-- a token goes forward
pub TokenAt-forward : (x : List ℕ) (state : State) (i j : ℕ) (kind : TokenKind) → TokenAt x state i j kind → i < j
TokenAt-forward x state i j kind t =
    (Spells-bounds x t.0 i j kind (TokenAt-within x state i j kind t) t.2).0

-- a token ends within the text
pub TokenAt-ends : (x : List ℕ) (state : State) (i j : ℕ) (kind : TokenKind) → TokenAt x state i j kind → j ≤ length x
TokenAt-ends x state i j kind t =
    (Spells-bounds x t.0 i j kind (TokenAt-within x state i j kind t) t.2).1

-- a fault stands within the text
pub FaultAt-within : (x : List ℕ) (state : State) (i : ℕ) (fault : Fault) → FaultAt x state i fault → i < length x
FaultAt-within x state i fault f = slice_get_within x i f.1.0 f.1.1

-- at a place stands at most one token
pub TokenAt-unique : (x : List ℕ) (state : State) (i j k : ℕ) (a b : TokenKind) → TokenAt x state i j a → TokenAt x state i k b → (j ≡ k) × (a ≡ b)
TokenAt-unique x state i j k a b t u =
    let same = CaseAt-unique x state i u.0 t.0 u.1 t.1 in
    Spells-unique x t.0 i j k a b t.2 (subst (λ (case : Case). SpellsCase x case i k b) same u.2)

-- at a place stands at most one fault
pub FaultAt-unique : (x : List ℕ) (state : State) (i : ℕ) (f g : Fault) → FaultAt x state i f → FaultAt x state i g → f ≡ g
FaultAt-unique x state i f g p q =
    p.3 ∙ ap fault_of (CaseAt-unique x state i p.0 q.0 p.1 q.1) ∙ sym q.3

-- where a token stands, there is no fault
pub TokenAt-no_fault : (x : List ℕ) (state : State) (i j : ℕ) (kind : TokenKind) (fault : Fault) → TokenAt x state i j kind → FaultAt x state i fault → ⊥
TokenAt-no_fault x state i j kind fault t f =
    let same = CaseAt-unique x state i t.0 f.0 t.1 f.1 in
    f.2 j kind (subst (λ (case : Case). SpellsCase x case i j kind) same t.2)

-- a token opens at most one bracket
pub state_after-depth : (state : State) (kind : TokenKind) → (state_after state kind).depth ≤ state.depth + 1
state_after-depth state SetOpen = omega arith
state_after-depth state _ = omega arith
