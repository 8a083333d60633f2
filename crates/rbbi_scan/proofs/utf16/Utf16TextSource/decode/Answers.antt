use Rattle.std.proofs.Common.{ℕ, List, drop, ap, ◌∙◌, subst, arith}
use Rattle.std.proofs.lemmas.List.{drop-drop, take_rest}
use Rattle.rbbi_model.specs.declared.unit.Unit.TheVariants.{Utf16}
use Rattle.rbbi_scan.specs.Spelled.{BeginWithNone}
use Rattle.rbbi_scan.proofs.Decoding.{offset_small}
use Rattle.rbbi_scan.proofs.Spelling.{size_is, size_some}
use Rattle.rbbi_scan.proofs.utf16.Utf16TextSource.decode.Goals as goal

pub returns-in-None-clause-all : goal.returns-in-None-clause-all
returns-in-None-clause-all c =
    λ few.
    let used : ℕ = c.loop-decoded.decoded.used in
    let all : List ℕ = c.args.self.now.units.now in
    subst (BeginWithNone Utf16) (ap (drop used) (take_rest all c.args.from) ∙ drop-drop used c.args.from all) c.in-None.ensures

pub overflow_cast-ends : goal.overflow_cast-ends
overflow_cast-ends c =
    let is = c.in-Some.ensures in
    omega (
      arith,
      is.1,
      size_is Utf16 c.in-Some.next.c,
      (size_some Utf16 c.in-Some.next.c).1,
      c.loop-decoded.invariant.used_is,
      offset_small Utf16 c.loop-decoded.chars c.loop-decoded.decoded.count,
      c.requires.few,
      c.loop-decoded.auto.chars,
    )
