-- A text has one list of tokens or one fault, and the places of tokens rise.
use Rattle.std.proofs.Common.{◌≡◌, ℕ, ◌+◌, ◌<◌, ◌≤◌, List, [], ◌∷◌, ◌++◌, length, refl, sym, ap, subst, ◌∙◌, arith}
use Rattle.rbbi_lex.specs.declared.token.Token.{Token}
use Rattle.rbbi_lex.specs.declared.token.TokenKind.{TokenKind}
use Rattle.rbbi_lex.specs.declared.state.State.{State}
use Rattle.rbbi_lex.specs.Cases.{start_state, state_after}
use Rattle.rbbi_lex.specs.Spellings.{TokenAt}
use Rattle.rbbi_lex.specs.Faults.{Fault, FaultAt}
use Rattle.rbbi_lex.specs.Faults as Faults
use Rattle.rbbi_lex.specs.Skips.{Skipped}
use Rattle.rbbi_lex.specs.declared.error.LexErr.{LexErr}
use Rattle.rbbi_lex.specs.declared.error.LexErr.TheVariants.{BadChar, BadEscape, OpenQuote, OpenProperty, BadTag, BadName, Memory}
use Rattle.rbbi_lex.specs.inner.Errors.{error_of}
use Rattle.rbbi_lex.specs.Errors.{Reports, TellsFault}
use Rattle.rbbi_lex.specs.inner.Steps.{StopsAt}
use Rattle.rbbi_lex.specs.Lexing.{UsesUp, AreTokens, IsLexFault}
use Rattle.rbbi_lex.specs.Places.{PlacesRise}
use Rattle.rbbi_lex.specs.WellMade.{AreWellMadeTokens}
use Rattle.rbbi_lex.proofs.WellMadeLemmas.{Spells-well_made}
use Rattle.rbbi_lex.proofs.SpellingLemmas.{TokenAt-forward, TokenAt-within, FaultAt-within, TokenAt-unique, FaultAt-unique, TokenAt-no_fault}
use Rattle.rbbi_lex.proofs.SkipLemmas.{Skipped-forward, Skipped-unique}

-- one more token at the end
pub UsesUp-push : (x : List ℕ) (from : State) (i : ℕ) (ts : List Token) (to : State) (j : ℕ) (t : Token) (k : ℕ) → UsesUp x from i ts to j →
    Skipped x to j t.place → TokenAt x to t.place k t.kind → UsesUp x from i (ts ++ t ∷ []) (state_after to t.kind) k
UsesUp-push x from i [] to j t k u s at =
    let back = sym u.0 in
    let s' = subst (λ (v : ℕ). Skipped x from v t.place) (sym u.1) (subst (λ (v : State). Skipped x v j t.place) back s) in
    (k, s', subst (λ (v : State). TokenAt x v t.place k t.kind) back at, (ap (λ (v : State). state_after v t.kind) u.0, refl))
UsesUp-push x from i (first ∷ ts) to j t k u s at =
    (u.0, u.1, u.2, UsesUp-push x (state_after from first.kind) u.0 ts to j t k u.3 s at)

-- what an error reports, by what follows from it
pub Reports-map : (P Q : Fault → ℕ → Type 0) (e : LexErr) → ((fault : Fault) (place : ℕ) → P fault place → Q fault place) → Reports P e → Reports Q e
Reports-map P Q (BadChar place) f h = f Faults.BadChar place h
Reports-map P Q (BadEscape place) f h = f Faults.BadEscape place h
Reports-map P Q (OpenQuote place) f h = f Faults.OpenQuote place h
Reports-map P Q (OpenProperty place) f h = f Faults.OpenProperty place h
Reports-map P Q (BadTag place) f h = f Faults.BadTag place h
Reports-map P Q (BadName place) f h = f Faults.BadName place h
Reports-map P Q Memory f h = tt

-- the error for a fault reports it
pub error_of-reports : (P : Fault → ℕ → Type 0) (fault : Fault) (place : ℕ) → P fault place → Reports P (error_of fault place)
error_of-reports P Faults.BadChar place h = h
error_of-reports P fault place h = h

-- the fault at which the reading stops is the first
pub StopsAt-reports : (x : List ℕ) (ts : List Token) (to : State) (j : ℕ) (e : LexErr) → UsesUp x start_state 0 ts to j → StopsAt x to j e → TellsFault x e
StopsAt-reports x ts to j e u s =
    Reports-map (λ fault place. Skipped x to j place × FaultAt x to place fault) (IsLexFault x) e (λ fault place h. (ts, to, j, u, h.0, h.1)) s

-- a step that reads a token goes forward
pub step_forward : (x : List ℕ) (state : State) (i j k : ℕ) (kind : TokenKind) → Skipped x state i j → TokenAt x state j k kind → i < k
step_forward x state i j k kind s t =
    let skipped = Skipped-forward x state i j s in
    let read = TokenAt-forward x state j k kind t in omega arith

-- how the reading of a text ends: at its end, or at a fault
pub data Ending : Type 0 where
  Finished : Ending
  Stopped : (fault : Fault) (place : ℕ) → Ending

abbrev pub EndsAs : List ℕ → State → ℕ → Ending → Type 0
EndsAs x state i Finished = Skipped x state i (length x)
EndsAs x state i (Stopped fault place) = Skipped x state i place × FaultAt x state place fault

EndsAs-unique : (x : List ℕ) (state : State) (i : ℕ) (d e : Ending) → EndsAs x state i d → EndsAs x state i e → d ≡ e
EndsAs-unique x state i Finished Finished p q = refl
EndsAs-unique x state i Finished (Stopped f k) p q =
    let same = Skipped-unique x state i (length x) k p q.0 in
    let within = FaultAt-within x state k f q.1 in absurd (omega arith)
EndsAs-unique x state i (Stopped f k) Finished p q =
    let same = Skipped-unique x state i (length x) k q p.0 in
    let within = FaultAt-within x state k f p.1 in absurd (omega arith)
EndsAs-unique x state i (Stopped f k) (Stopped g l) p q =
    let same = Skipped-unique x state i l k q.0 p.0 in
    let fault = FaultAt-unique x state k f g p.1 (subst (λ (v : ℕ). FaultAt x state v g) same q.1) in cc

-- where the reading ends, no token stands
EndsAs-no_token : (x : List ℕ) (state : State) (i : ℕ) (e : Ending) (k j : ℕ) (kind : TokenKind) → EndsAs x state i e → Skipped x state i k →
    TokenAt x state k j kind → ⊥
EndsAs-no_token x state i Finished k j kind p s t =
    let same = Skipped-unique x state i (length x) k p s in
    let within = TokenAt-within x state k j kind t in omega arith
EndsAs-no_token x state i (Stopped f l) k j kind p s t =
    let same = Skipped-unique x state i k l s p.0 in
    TokenAt-no_fault x state l j kind f (subst (λ (v : ℕ). TokenAt x state v j kind) same t) p.1

Token-equal : (t u : Token) → t.kind ≡ u.kind → t.place ≡ u.place → t ≡ u
Token-equal t u kind place =
    let make : TokenKind → ℕ → Token = λ k p. record { kind = k; place = p } in
    ap (λ (k : TokenKind). make k t.place) kind ∙ ap (λ (p : ℕ). make u.kind p) place

moved : (x : List ℕ) (from to : State) (i j : ℕ) (e : Ending) → from ≡ to → i ≡ j → EndsAs x to j e → EndsAs x from i e
moved x from to i j e s p h =
    subst (λ (v : ℕ). EndsAs x from v e) (sym p) (subst (λ (v : State). EndsAs x v j e) (sym s) h)

-- a text is read in one way
read_once : (x : List ℕ) (from : State) (i : ℕ) (ts us : List Token) (to to' : State) (j j' : ℕ) (d e : Ending) → UsesUp x from i ts to j → EndsAs x to j d →
    UsesUp x from i us to' j' → EndsAs x to' j' e → (ts ≡ us) × (d ≡ e)
read_once x from i [] [] to to' j j' d e u p v q =
    (refl, EndsAs-unique x from i d e (moved x from to i j d u.0 u.1 p) (moved x from to' i j' e v.0 v.1 q))
read_once x from i [] (b ∷ us) to to' j j' d e u p v q =
    absurd (EndsAs-no_token x from i d b.place v.0 b.kind (moved x from to i j d u.0 u.1 p) v.1 v.2)
read_once x from i (a ∷ ts) [] to to' j j' d e u p v q =
    absurd (EndsAs-no_token x from i e a.place u.0 a.kind (moved x from to' i j' e v.0 v.1 q) u.1 u.2)
read_once x from i (a ∷ ts) (b ∷ us) to to' j j' d e u p v q =
    let place = Skipped-unique x from i b.place a.place v.1 u.1 in
    let same = TokenAt-unique x from a.place v.0 u.0 b.kind a.kind (subst (λ (n : ℕ). TokenAt x from n v.0 b.kind) place v.2) u.2 in
    let v' =
    subst (λ (kind : TokenKind). UsesUp x (state_after from kind) u.0 us to' j') same.1
    (subst (λ (n : ℕ). UsesUp x (state_after from b.kind) n us to' j') same.0 v.3) in
    let rest = read_once x (state_after from a.kind) u.0 ts us to to' j j' d e u.3 p v' q in
    let token = Token-equal a b (sym same.1) (sym place) in
    (cc, rest.1)

pub tokens_unique : (x : List ℕ) (ts us : List Token) → AreTokens x ts → AreTokens x us → ts ≡ us
tokens_unique x ts us a b =
    (read_once x start_state 0 ts us a.0 b.0 a.1 b.1 Finished Finished a.2 a.3 b.2 b.3).0

pub fault_unique : (x : List ℕ) (f g : Fault) (i j : ℕ) → IsLexFault x f i → IsLexFault x g j → (f ≡ g) × (i ≡ j)
fault_unique x f g i j a b =
    let same = (read_once x start_state 0 a.0 b.0 a.1 b.1 a.2 b.2 (Stopped f i) (Stopped g j) a.3 (a.4, a.5) b.3 (b.4, b.5)).1 in (cc, cc)

pub not_both : (x : List ℕ) (ts : List Token) (f : Fault) (i : ℕ) → AreTokens x ts → IsLexFault x f i → ⊥
not_both x ts f i a b =
    let same = (read_once x start_state 0 ts b.0 a.0 b.1 a.1 b.2 Finished (Stopped f i) a.2 a.3 b.3 (b.4, b.5)).1 in cc

-- the places of tokens rise
pub UsesUp-rise : (x : List ℕ) (from : State) (low i : ℕ) (ts : List Token) (to : State) (j : ℕ) → low ≤ i → UsesUp x from i ts to j →
    PlacesRise low (length x) ts
UsesUp-rise x from low i [] to j h u = tt
UsesUp-rise x from low i (t ∷ ts) to j h u =
    let skipped = Skipped-forward x from i t.place u.1 in
    let forward = TokenAt-forward x from t.place u.0 t.kind u.2 in
    (omega arith, TokenAt-within x from t.place u.0 t.kind u.2, UsesUp-rise x (state_after from t.kind) (t.place + 1) u.0 ts to j (omega arith) u.3)

-- the tokens of a text are well made
pub UsesUp-well_made : (x : List ℕ) (from : State) (i : ℕ) (ts : List Token) (to : State) (j : ℕ) → UsesUp x from i ts to j → AreWellMadeTokens ts
UsesUp-well_made x from i [] to j u = tt
UsesUp-well_made x from i (t ∷ ts) to j u =
    (Spells-well_made x u.2.0 t.place u.0 t.kind u.2.2, UsesUp-well_made x (state_after from t.kind) u.0 ts to j u.3)
