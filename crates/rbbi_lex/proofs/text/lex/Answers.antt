use Rattle.std.proofs.Common.{◌≡◌, ℕ, List, length, refl, subst, ◌∙◌, arith, vec_len}
use Rattle.std.proofs.lemmas.Result.{err_from_is_err_and}
use Rattle.rbbi_lex.specs.Places.{PlacesRise}
use Rattle.rbbi_lex.specs.Cases.{start_state}
use Rattle.rbbi_lex.specs.Errors.{TellsFault}
use Rattle.rbbi_lex.proofs.LexingLemmas.{UsesUp-push, StopsAt-reports, step_forward, UsesUp-rise, UsesUp-well_made}
use Rattle.rbbi_lex.proofs.text.lex.Goals as goal

pub loop-lexer-init : goal.loop-lexer-init
loop-lexer-init c =
    let none = c.new-tokens.ensures in
    record { characters = c.in_ok-characters_of.ensures.characters; read = rw none (refl, refl) }

pub returns-in_err-token-clause-exact : goal.returns-in_err-token-clause-exact
returns-in_err-token-clause-exact c =
    let lexer = c.loop-lexer.lexer in
    let reported =
    StopsAt-reports lexer.characters.items c.loop-lexer.tokens lexer.state lexer.place c.in_err-token.field-0.0 c.loop-lexer.invariant.read
    c.in_err-token.ensures.step in
    let here = subst (λ (x : List ℕ). TellsFault x c.in_err-token.field-0.0) c.loop-lexer.invariant.characters reported in
    let exit = err_from_is_err_and c.from_residual-in_err-token.result c.from_residual-in_err-token.ensures.1 in
    rw (exit.1, exit.2) here

pub loop-lexer-smaller : goal.loop-lexer-smaller
loop-lexer-smaller c =
    let lexer = c.loop-lexer.lexer in
    let step = rw c.in-Some.is at c.in_ok-token.ensures.step in
    let forward =
    step_forward lexer.characters.items lexer.state lexer.place c.in-Some.token.place c.next_token.new.self.place c.in-Some.token.kind step.0 step.1 in
    let same = c.next_token.ensures.characters in
    let within = c.next_token.new.self.within in
    let shorter : vec_len c.next_token.new.self.characters ≡ vec_len lexer.characters = rw same refl in
    omega arith

pub loop-lexer-preserved : goal.loop-lexer-preserved
loop-lexer-preserved c =
    let lexer = c.loop-lexer.lexer in
    let x = lexer.characters.items in
    let next = c.next_token.new.self in
    let t = c.in-Some.token in
    let step = rw c.in-Some.is at c.in_ok-token.ensures.step in
    let read = UsesUp-push x start_state 0 c.loop-lexer.tokens lexer.state lexer.place t next.place c.loop-lexer.invariant.read step.0 step.1 in
    let same : next.characters.items ≡ x = rw c.next_token.ensures.characters refl in
    record {
      characters = same ∙ c.loop-lexer.invariant.characters;
      read = rw same (rw c.in_ok-push.ensures.ok (rw step.2 read));
    }

pub returns-clause-places : goal.returns-clause-places
returns-clause-places c =
    let lexer = c.loop-lexer.lexer in
    let rise = UsesUp-rise lexer.characters.items start_state 0 0 c.loop-lexer.tokens lexer.state lexer.place (omega arith) c.loop-lexer.invariant.read in
    subst (λ (x : List ℕ). PlacesRise 0 (length x) c.loop-lexer.tokens) c.loop-lexer.invariant.characters rise

pub returns-clause-well_made : goal.returns-clause-well_made
returns-clause-well_made c =
    let lexer = c.loop-lexer.lexer in
    UsesUp-well_made lexer.characters.items start_state 0 c.loop-lexer.tokens lexer.state lexer.place c.loop-lexer.invariant.read
