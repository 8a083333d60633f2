use Rattle.std.proofs.Common.{◌≡◌, ℕ, List, refl, sym, ap, subst, arith}
use Rattle.rbbi_lex.specs.declared.state.State.{State}
use Rattle.rbbi_lex.specs.declared.error.LexErr.{LexErr}
use Rattle.rbbi_lex.specs.Cases.{state_after}
use Rattle.rbbi_lex.specs.Points.{CaseAt}
use Rattle.rbbi_lex.specs.Spellings.{SpellsCase, TokenAt}
use Rattle.rbbi_lex.specs.Faults.{fault_of, SpellsNone, FaultAt}
use Rattle.rbbi_lex.specs.Skips.{Skipped}
use Rattle.rbbi_lex.specs.inner.Steps.{StopsAt}
use Rattle.rbbi_lex.proofs.SpellingLemmas.{TokenAt-forward, TokenAt-ends, state_after-depth}
use Rattle.rbbi_lex.proofs.LexingLemmas.{error_of-reports}
use Rattle.rbbi_lex.proofs.lexer.Lexer.next_token.Goals as goal

pub invariant_of-self : goal.invariant_of-self
invariant_of-self c =
    let self = c.skip.new.self in
    let t = c.in-Some.spelled in
    let spelled =
    subst (λ (x : List ℕ). SpellsCase x c.case-case.result self.place t.end t.kind) c.as_slice.ensures.value (rw c.in-Some.is at c.in_ok-spelled.ensures) in
    let at : TokenAt self.characters.items self.state self.place t.end t.kind = (c.case-case.result, c.case-case.ensures, spelled) in
    let forward = TokenAt-forward self.characters.items self.state self.place t.end t.kind at in
    let ends = TokenAt-ends self.characters.items self.state self.place t.end t.kind at in
    let more = state_after-depth self.state t.kind in
    let depth : c.note.new.self.depth ≡ (state_after self.state t.kind).depth = ap (λ (s : State). s.depth) c.note.ensures in
    record { within = omega arith; few_sets = omega arith; short = omega arith }

pub returns-in-None-clause-step : goal.returns-in-None-clause-step
returns-in-None-clause-step c =
    let old = c.args.self.now in
    let new = c.skip.new.self in
    let case = c.case-case.result in
    let x = old.characters.items in
    let items : new.characters.items ≡ x = rw c.skip.ensures.characters refl in
    let fits =
    subst (λ (v : List ℕ). CaseAt v old.state new.place case) items (subst (λ (s : State). CaseAt new.characters.items s new.place case) c.skip.ensures.state
    c.case-case.ensures) in
    let none =
    subst (λ (v : List ℕ). SpellsNone v case new.place) items (subst (λ (v : List ℕ). SpellsNone v case new.place) c.as_slice.ensures.value
    (rw c.in-None.is at c.in_ok-spelled.ensures)) in
    let reported =
    error_of-reports (λ fault place. Skipped x old.state old.place place × FaultAt x old.state place fault) (fault_of case) new.place
    (c.skip.ensures.skipped, (case, fits, none, refl)) in
    subst (λ (e : LexErr). StopsAt x old.state old.place e) (sym c.fault.ensures) reported
