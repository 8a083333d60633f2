use Rattle.std.proofs.Common.{◌≡◌, List, ◌+◌, ℕ, Option, Some, None, sym, subst, ⊎_elim, arith}
use Rattle.std.specs.Prelude.{MatchOption, SomeIff, unwrap_or}
use Rattle.std.specs.Char.{IsScalar, InScalarRange, OutOfScalarRange}
use Rattle.rbbi_model.specs.Words.{IsCharacter}
use Rattle.rbbi_canon.specs.declared.letters.Letter.{Letter}
use Rattle.rbbi_canon.specs.inner.Joins.{JoinsLabels}
use Rattle.rbbi_canon.specs.inner.Letters.{AreLettersSoFar, IsLetter}
use Rattle.rbbi_canon.proofs.Connecting.{letter_more}
use Rattle.rbbi_canon.proofs.letters.add_letter.Goals as goal

-- what is found for a code is a character
character : (found : Option ℕ) (code : ℕ) → MatchOption found (OutOfScalarRange code) (λ _. InScalarRange code) → SomeIff found (IsScalar code) code →
    (c : ℕ) → c ≡ unwrap_or found 0xE000 → IsCharacter c
character None code out none c is = (omega (arith, is), λ surrogate. omega (arith, is, surrogate.1))
character (Some x) code inside same c is =
    ⊎_elim
    (λ low. (omega (arith, is, same.1, low), λ surrogate. omega (arith, is, same.1, low, surrogate.0)))
    (λ high. (omega (arith, is, same.1, high), λ surrogate. omega (arith, is, same.1, high, surrogate.1)))
    inside

pub returns-in_ok-push-clause-letters : goal.returns-in_ok-push-clause-letters
returns-in_ok-push-clause-letters c =
    let these = c.args.these.now in
    let those = c.args.those.now in
    let letter : Letter = record { character = c.unwrap_or-character.result; this = c.category-this.result; that = c.category-that.result } in
    let is : IsLetter these those letter = record {
      character = character c.from_u32.result c.args.start c.from_u32.ensures.cases c.from_u32.ensures.value c.unwrap_or-character.result
          c.unwrap_or-character.ensures;
      this = sym c.category-this.ensures.value;
      that = sym c.category-that.ensures.value;
    } in
    let joins = subst (λ n. JoinsLabels c.args.sets.now c.category-this.result (n + c.category-that.result) c.join.new.self) c.categories.ensures
    c.join.ensures in
    subst (λ (l : List Letter). AreLettersSoFar these those c.join.new.self l) (sym c.in_ok-push.ensures.items)
    (letter_more these those c.valid.ensures c.valid-2.ensures c.args.sets.now c.join.new.self c.args.letters.now.items letter c.requires is joins)
