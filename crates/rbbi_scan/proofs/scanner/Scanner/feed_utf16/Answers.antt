use Rattle.std.proofs.Common.{◌≡◌, ◌++◌, drop, refl, sym, ap, ◌∙◌, arith}
use Rattle.rbbi_model.specs.declared.unit.Unit.TheVariants.{Utf16}
use Rattle.rbbi_scan.specs.Units.{unit_of, units_of}
use Rattle.rbbi_scan.proofs.Fed.{if_fed, is_fed}
use Rattle.rbbi_scan.proofs.scanner.Scanner.feed_utf16.Goals as goal

pub returns-clause-fed : goal.returns-clause-fed
returns-clause-fed c =
    is_fed Utf16 c.args.piece.now c.args.is_last c.args.self.now _ c.passed-passed.result (ap unit_of c.in-Wide.is) c.if-self.false
    c.passed-passed.ensures c.args.self.now.within (record { unit = sym (ap unit_of c.in-Wide.is); words = refl })
    (if_fed c.grow.result (c.grow.new.held.items ≡ drop c.passed-passed.result c.in-Wide.held.items ++ c.args.piece.now) c.grow.ensures.grown
    (sym c.is_err.ensures.value ∙ c.if-is_err.false)
    ∙ ap (λ h. drop c.passed-passed.result (units_of h) ++ c.args.piece.now) (sym c.in-Wide.is))
    refl (omega (arith, c.passed-passed.ensures)) refl
