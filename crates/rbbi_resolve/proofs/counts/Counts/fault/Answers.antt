use Rattle.std.proofs.Common.{Some, None, sym, refl}
use Rattle.rbbi_resolve.proofs.Counted.{counted_is, some_passed, none_counted, one_counted}
use Rattle.rbbi_resolve.proofs.counts.Counts.fault.Goals as goal

pub returns-in-Some : goal.returns-in-Some
returns-in-Some c =
    λ all is.
    sym (counted_is c.args.self.now c.args.end all None (Some c.in-Some.place) _ _ _ is (some_passed c.args.self.now c.args.end _ all is c.in-Some.is)
    c.in-Some.is refl refl refl)

pub returns-then-self-eq0 : goal.returns-then-self-eq0
returns-then-self-eq0 c =
    λ all is.
    sym (counted_is c.args.self.now c.args.end all (Some c.args.end) _ _ _ _ is
    (none_counted c.args.self.now c.args.end all is c.in_default.is c.if-self-eq0.true) refl refl refl refl)

pub returns : goal.returns
returns c =
    λ all is.
    let e = counted_is c.args.self.now c.args.end all None None _ _ _ is
    (one_counted c.args.self.now c.args.end all is c.in_default.is c.if-self-eq0.false) c.in_default.is refl refl refl in cc
