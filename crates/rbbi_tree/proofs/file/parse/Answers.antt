use Rattle.std.proofs.Common.{◌≡◌, ◌+◌, ◌≤◌, ◌∙◌, arith, take, length, IsTrue}
use Rattle.std.proofs.lemmas.Result.{err_from_is_err_and}
use Rattle.rbbi_tree.specs.Brackets.{open_after, open_from}
use Rattle.rbbi_tree.specs.inner.States.{progress}
use Rattle.rbbi_tree.proofs.Places.{refused_stuck, refused_deep, refused_within, run_more, run_whole}
use Rattle.rbbi_tree.proofs.Depth.{counted_more, opens_one, shallow_more}
use Rattle.rbbi_tree.proofs.Sound.{run_is_file}
use Rattle.rbbi_tree.proofs.WellMadeTrees.{file_made}
use Rattle.rbbi_tree.proofs.file.parse.Goals as goal

pub returns-in_err-read-clause-refused : goal.returns-in_err-read-clause-refused
returns-in_err-read-clause-refused c =
    let p = err_from_is_err_and c.from_residual.result c.from_residual.ensures.1 in
    rw (p.1, p.2)
    (refused_stuck c.args.tokens.now c.args.end c.loop-i.i c.get-token.result.now
    (progress c.loop-i.parser) c.in_err-read.field-0.0 c.get-token.ensures c.loop-i.invariant.ran c.loop-i.invariant.shallow c.in_err-read.ensures)

pub returns-then-depth-gt-DEEPEST-clause-refused : goal.returns-then-depth-gt-DEEPEST-clause-refused
returns-then-depth-gt-DEEPEST-clause-refused c =
    let ts = c.args.tokens.now in
    let t = c.get-token.result.now in
    let counted : open_after t.kind c.loop-i.depth ≡ open_from 0 (take (c.loop-i.i + 1) ts) =
    counted_more ts c.loop-i.i c.loop-i.depth t c.get-token.ensures c.loop-i.invariant.counted in
    let one : open_after t.kind c.loop-i.depth ≤ c.loop-i.depth + 1 = opens_one t.kind c.loop-i.depth in
    let few : c.loop-i.depth ≤ 64 = c.loop-i.invariant.few in
    let result : c.count_open-depth.result ≡ open_after t.kind c.loop-i.depth = c.count_open-depth.ensures in
    refused_deep ts c.args.end c.loop-i.i t (progress c.read.new.self) c.get-token.ensures
    (run_more ts c.loop-i.i t (progress c.loop-i.parser) (progress c.read.new.self) c.get-token.ensures c.loop-i.invariant.ran c.in_ok-read.ensures)
    c.loop-i.invariant.shallow (omega arith)

pub loop-i-preserved : goal.loop-i-preserved
loop-i-preserved c =
    let ts = c.args.tokens.now in
    let t = c.get-token.result.now in
    let counted : open_after t.kind c.loop-i.depth ≡ open_from 0 (take (c.loop-i.i + 1) ts) =
    counted_more ts c.loop-i.i c.loop-i.depth t c.get-token.ensures c.loop-i.invariant.counted in
    let result : c.count_open-depth.result ≡ open_after t.kind c.loop-i.depth = c.count_open-depth.ensures in
    record {
      ran = run_more ts c.loop-i.i t (progress c.loop-i.parser) (progress c.read.new.self) c.get-token.ensures c.loop-i.invariant.ran c.in_ok-read.ensures;
      counted = result ∙ counted;
      few = omega arith;
      shallow = shallow_more ts c.loop-i.i c.loop-i.invariant.shallow (omega arith);
    }

pub returns-then-not-is_between-clause-refused : goal.returns-then-not-is_between-clause-refused
returns-then-not-is_between-clause-refused c =
    let ts = c.args.tokens.now in
    let all : length ts ≤ c.loop-i.i = omega (arith, c.len-i-end.ensures) in
    refused_within ts c.args.end (progress c.loop-i.parser) (run_whole ts c.loop-i.i (progress c.loop-i.parser) all c.loop-i.invariant.ran)
    (λ e. let h : IsTrue c.is_between.result = c.is_between.ensures.not e in absurd (cc))
    (λ j below. c.loop-i.invariant.shallow j (omega arith))

pub returns-clause-parsed : goal.returns-clause-parsed
returns-clause-parsed c =
    let ts = c.args.tokens.now in
    let all : length ts ≤ c.loop-i.i = omega (arith, c.len-i-end.ensures) in
    rw c.into_statements.ensures
    (run_is_file ts (progress c.loop-i.parser) (run_whole ts c.loop-i.i (progress c.loop-i.parser) all c.loop-i.invariant.ran)
    (c.is_between.ensures.is c.if-not-is_between.false))

pub returns-clause-well_made : goal.returns-clause-well_made
returns-clause-well_made c =
    let ts = c.args.tokens.now in
    let all : length ts ≤ c.loop-i.i = omega (arith, c.len-i-end.ensures) in
    rw c.into_statements.ensures
    (file_made (progress c.loop-i.parser).statements ts
    (run_is_file ts (progress c.loop-i.parser) (run_whole ts c.loop-i.i (progress c.loop-i.parser) all c.loop-i.invariant.ran)
    (c.is_between.ensures.is c.if-not-is_between.false)) c.requires.well_made)
