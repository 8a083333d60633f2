use Rattle.std.proofs.Common.{ℕ, List, subst, arith}
use Rattle.rbbi_lex.specs.Skips.{Piece}
use Rattle.rbbi_lex.proofs.SkipLemmas.{Skipped-none, Skipped-more, Piece-forward, Piece-ends}
use Rattle.rbbi_lex.proofs.lexer.Lexer.skip.Goals as goal

pub invariant_of-self : goal.invariant_of-self
invariant_of-self c =
    let self = c.loop-end.self in
    let piece = subst (λ (x : List ℕ). Piece x self.state self.place c.in-Some.end) c.as_slice.ensures.value c.in-Some.ensures in
    let forward = Piece-forward self.characters.items self.state self.place c.in-Some.end piece in
    let ends = Piece-ends self.characters.items self.state self.place c.in-Some.end piece in
    record { within = omega arith; few_sets = omega arith; short = omega arith }

pub loop-end-smaller : goal.loop-end-smaller
loop-end-smaller c =
    let self = c.loop-end.self in
    let piece = subst (λ (x : List ℕ). Piece x self.state self.place c.in-Some.end) c.as_slice.ensures.value c.in-Some.ensures in
    let forward = Piece-forward self.characters.items self.state self.place c.in-Some.end piece in
    let ends = Piece-ends self.characters.items self.state self.place c.in-Some.end piece in omega arith

pub loop-end-preserved : goal.loop-end-preserved
loop-end-preserved c =
    let self = c.loop-end.self in
    let piece = subst (λ (x : List ℕ). Piece x self.state self.place c.in-Some.end) c.as_slice.ensures.value c.in-Some.ensures in
    record {
      characters = c.loop-end.invariant.characters;
      state = c.loop-end.invariant.state;
      skipped = λ k s. c.loop-end.invariant.skipped k (Skipped-more self.characters.items self.state self.place c.in-Some.end k piece s);
    }

pub returns-clause-skipped : goal.returns-clause-skipped
returns-clause-skipped c =
    let self = c.loop-end.self in
    let none = subst (λ (x : List ℕ). (j : ℕ) → ¬ Piece x self.state self.place j) c.as_slice.ensures.value c.in_default.ensures in
    c.loop-end.invariant.skipped self.place (Skipped-none self.characters.items self.state self.place none)
