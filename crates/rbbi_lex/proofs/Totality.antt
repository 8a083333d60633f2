-- Each text has tokens or a fault.
use Rattle.std.proofs.Common.{◌≡◌, ◌⊎◌, inl, inr, ℕ, zero, suc, ◌+◌, ◌<◌, ◌≤◌, List, [], ◌∷◌, length, get_or, Bool, true, false, cond, eqb, refl, ap, ◌++◌}
use Rattle.std.proofs.Common.{subst, arith, slice_get}
use Rattle.std.proofs.lemmas.Bool.{cases_lt}
use Rattle.std.proofs.lemmas.Option.{slice_get-get_or}
use Rattle.std.specs.Prelude.{Option, Some}
use Rattle.std.specs.List.{find}
use Rattle.rbbi_lex.specs.declared.token.Token.{Token}
use Rattle.rbbi_lex.specs.declared.token.TokenKind.{TokenKind}
use Rattle.rbbi_lex.specs.declared.state.State.{State}
use Rattle.rbbi_lex.specs.declared.case.Case.{Case}
use Rattle.rbbi_lex.specs.declared.case.Case.TheVariants.{Sign, SetSign, BracketedProperty, SetStart, Variable, ControlName, StatusNumber, QuotePair, Quotation}
use Rattle.rbbi_lex.specs.declared.case.Case.TheVariants.{BracedProperty, Escape, Brace, BareCharacter, SetCharacter, OtherCharacter}
use Rattle.rbbi_lex.specs.Cases.{start_state, state_after, fits, outer_cases, inner_cases, first_case}
use Rattle.rbbi_lex.specs.Points.{CharacterAt, CaseAt}
use Rattle.rbbi_lex.specs.Spellings.{SpellsCase, TokenAt}
use Rattle.rbbi_lex.specs.Faults.{Fault, fault_of, FaultAt}
use Rattle.rbbi_lex.specs.Skips.{Skipped}
use Rattle.rbbi_lex.specs.Lexing.{UsesUp, AreTokens, IsLexFault}
use Rattle.rbbi_lex.proofs.SkipLemmas.{Skipped-none, Skipped-more, Skipped-at_end, Skipped-forward, Piece-forward, Piece-ends, decide_piece}
use Rattle.rbbi_lex.proofs.SpellingLemmas.{TokenAt-forward, TokenAt-ends}
use Rattle.rbbi_lex.proofs.Decisions.{Decided, decide}
use Rattle.rbbi_lex.proofs.LexingLemmas.{Ending, Finished, Stopped, EndsAs}

tried : (b : Bool) (case : Case) (others : Option Case) → ((found : Case) × (others ≡ Some found)) → (found : Case) × (cond b (Some case) others ≡ Some found)
tried true case others h = (case, refl)
tried false case others h = h

-- a case fits where the last one always does
some_fit : (test : Case → Bool) (cases : List Case) (last : Case) → test last ≡ true → (found : Case) × (find test (cases ++ last ∷ []) ≡ Some found)
some_fit test [] last h = (last, ap (λ b. cond b (Some last) (find test [])) h)
some_fit test (case ∷ cases) last h =
    tried (test case) case (find test (cases ++ last ∷ [])) (some_fit test cases last h)

chosen : (b : Bool) (outer inner : Option Case) → ((found : Case) × (outer ≡ Some found)) → ((found : Case) × (inner ≡ Some found)) →
    (found : Case) × (cond b outer inner ≡ Some found)
chosen true outer inner p q = p
chosen false outer inner p q = q

-- some case fits
some_row : (state : State) (c : ℕ) (next third : Option ℕ) → (case : Case) × (first_case state c next third ≡ Some case)
some_row state c next third =
    chosen (eqb state.depth 0) (find (fits c next third) outer_cases) (find (fits c next third) inner_cases)
    (some_fit (fits c next third) (Sign ∷ BracketedProperty ∷ SetStart ∷ Variable ∷ ControlName ∷ StatusNumber ∷ QuotePair ∷ Quotation ∷ BracedProperty ∷
    Escape ∷ BareCharacter ∷ []) OtherCharacter refl) (some_fit (fits c next third)
    (SetSign ∷ BracketedProperty ∷ SetStart ∷ Variable ∷ Brace ∷ BracedProperty ∷ Escape ∷ []) SetCharacter refl)

abbrev AtPoint : List ℕ → State → ℕ → Type 0
AtPoint x state i =
    ((j : ℕ) × (kind : TokenKind) × TokenAt x state i j kind) ⊎ ((fault : Fault) × FaultAt x state i fault)

by_row : (x : List ℕ) (state : State) (i : ℕ) (case : Case) → CaseAt x state i case → Decided (SpellsCase x case i) → AtPoint x state i
by_row x state i case r (inl t) = inl (t.0, t.1, (case, r, t.2))
by_row x state i case r (inr none) = inr (fault_of case, (case, r, none, refl))

-- at each place of the text stands a token or a fault
at_point : (x : List ℕ) (state : State) (i : ℕ) → i < length x → AtPoint x state i
at_point x state i h =
    let at : CharacterAt x i (get_or x i 0) = slice_get-get_or x i 0 h in
    let case = some_row state (get_or x i 0) (slice_get x (i + 1)) (slice_get x (i + 2)) in
    by_row x state i case.0 (get_or x i 0, at, case.1) (decide x case.0 i)

some_skipped : (n : ℕ) (x : List ℕ) (state : State) (i : ℕ) → i ≤ length x → length x ≤ i + n → (k : ℕ) × Skipped x state i k × (k ≤ length x)
some_skipped zero x state i h l = (i, Skipped-at_end x state i (omega arith), h)
some_skipped (suc n) x state i h l =
    elim (decide_piece x state i) [
      | inr none ↦ (i, Skipped-none x state i none, h)
      | inl piece ↦
          let forward = Piece-forward x state i piece.0 piece.1 in
          let rest = some_skipped n x state piece.0 (Piece-ends x state i piece.0 piece.1) (omega arith) in
          (rest.0, Skipped-more x state i piece.0 rest.0 piece.1 rest.1, rest.2)
    ]

abbrev Read : List ℕ → State → ℕ → Type 0
Read x from i =
    (ts : List Token) × (to : State) × (j : ℕ) × (e : Ending) × UsesUp x from i ts to j × EndsAs x to j e

-- where all that is left is skipped, the reading ends
at_end : (x : List ℕ) (from : State) (i k : ℕ) → Skipped x from i k → k ≤ length x → length x ≤ k → Read x from i
at_end x from i k s low high =
    let e : k ≡ length x = omega arith in
    ([], from, i, Finished, (refl, refl), subst (λ (v : ℕ). Skipped x from i v) e s)

-- the rest of a text is read to its end or a fault
some_reading : (n : ℕ) (x : List ℕ) (from : State) (i : ℕ) → i ≤ length x → length x ≤ i + n → Read x from i
some_reading zero x from i h l =
    let s = some_skipped zero x from i h l in
    let forward = Skipped-forward x from i s.0 s.1 in
    at_end x from i s.0 s.1 s.2 (omega arith)
some_reading (suc n) x from i h l =
    let s = some_skipped (suc n) x from i h l in
    let forward = Skipped-forward x from i s.0 s.1 in
    elim (cases_lt s.0 (length x)) [
      | inr past ↦ at_end x from i s.0 s.1 s.2 past
      | inl within ↦
          elim (at_point x from s.0 within) [
            | inr f ↦ ([], from, i, Stopped f.0 s.0, (refl, refl), (s.1, f.1))
            | inl t ↦
                let token : Token = record { kind = t.1; place = s.0 } in
                let ends = TokenAt-ends x from s.0 t.0 t.1 t.2 in
                let further = TokenAt-forward x from s.0 t.0 t.1 t.2 in
                let rest = some_reading n x (state_after from t.1) t.0 ends (omega arith) in
                (token ∷ rest.0, rest.1, rest.2, rest.3, (t.0, s.1, t.2, rest.4), rest.5)
          ]
    ]

abbrev Outcome : List ℕ → Type 0
Outcome x =
    ((ts : List Token) × AreTokens x ts) ⊎ ((fault : Fault) × (place : ℕ) × IsLexFault x fault place)

outcome : (x : List ℕ) (ts : List Token) (to : State) (j : ℕ) (e : Ending) → UsesUp x start_state 0 ts to j → EndsAs x to j e → Outcome x
outcome x ts to j Finished u s = inl (ts, (to, j, u, s))
outcome x ts to j (Stopped fault place) u s = inr (fault, place, (ts, to, j, u, s.0, s.1))

pub tokens_or_fault : (x : List ℕ) → ((ts : List Token) × AreTokens x ts) ⊎ ((fault : Fault) × (place : ℕ) × IsLexFault x fault place)
tokens_or_fault x =
    let r = some_reading (length x) x start_state 0 (omega arith) (omega arith) in
    outcome x r.0 r.1 r.2 r.3 r.4 r.5
