use Rattle.std.proofs.Common.{◌≡◌, ℕ, List, ◌+◌, ◌-◌, length, drop, take, sym, ap, ◌∙◌, subst, arith, length-drop}
use Rattle.std.proofs.lemmas.Bool.{eqb-true}
use Rattle.std.proofs.lemmas.List.{drop-drop, take_rest}
use Rattle.rbbi_model.specs.declared.unit.Unit.TheVariants.{Utf8}
use Rattle.rbbi_scan.specs.Spelled.{BeginWithNone}
use Rattle.rbbi_scan.proofs.Decoding.{none_begin}
use Rattle.rbbi_scan.proofs.utf8.Utf8TextSource.decode.Goals as goal

pub returns-then-is_empty-clause-all : goal.returns-then-is_empty-clause-all
returns-then-is_empty-clause-all c =
    λ few.
    let used : ℕ = c.loop-decoded.decoded.used in
    let all : List ℕ = c.args.self.now.bytes.now in
    let bytes : List ℕ = take (length all - c.args.from) (drop c.args.from all) in
    let empty : length c.front_of-text.result.now ≡ 0 = eqb-true (length c.front_of-text.result.now) 0 (sym c.is_empty.ensures ∙ c.if-is_empty.true) in
    subst (BeginWithNone Utf8) (take_rest bytes used ∙ ap (drop used) (take_rest all c.args.from) ∙ drop-drop used c.args.from all)
    (c.front_of-text.ensures.none empty)

pub returns-else-decoded-bytes-clause-all : goal.returns-else-decoded-bytes-clause-all
returns-else-decoded-bytes-clause-all c =
    λ few.
    let all : List ℕ = c.args.self.now.bytes.now in
    let there : ℕ = c.args.from + c.loop-decoded.decoded.used in
    none_begin Utf8 (drop there all)
    (omega (arith, length-drop there all, c.if-decoded-bytes.false, ap length (take_rest all c.args.from), length-drop c.args.from all))
