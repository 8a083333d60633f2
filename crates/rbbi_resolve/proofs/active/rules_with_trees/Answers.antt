use Rattle.std.proofs.Common.{◌≡◌, [], length, sym, ap, subst, arith}
use Rattle.std.specs.List.{AllZip}
use Rattle.std.proofs.lemmas.List.{length-map}
use Rattle.rbbi_tree.specs.Values.{statement_trees}
use Rattle.rbbi_resolve.specs.inner.Contexts.{files_of, sets_of}
use Rattle.rbbi_resolve.specs.inner.RulesSoFar.{IsRuleBuilt}
use Rattle.rbbi_resolve.proofs.Meant.{ready_before}
use Rattle.rbbi_resolve.proofs.RulesBuilt.{all_built}
use Rattle.rbbi_resolve.proofs.Ending.{rules_at_start, switches_at_start}
use Rattle.rbbi_resolve.proofs.active.rules_with_trees.Goals as goal

pub loop-number-init : goal.loop-number-init
loop-number-init c =
    let context = c.args.context.now in
    let files = files_of context in
    let T = statement_trees context.statements.now in
    let none = ap (λ rows. length (sets_of context rows)) c.requires.empty in
    record {
      sound = c.requires.builder;
      switched = switches_at_start files T c.new-switches.result (c.new-switches.ensures files);
      done = [];
      every = rules_at_start files T;
      each = subst (λ rs. AllZip (IsRuleBuilt files (sets_of context c.args.builder.now.rows.items)) [] rs) (sym c.new-rules.ensures.items) tt;
      used = λ n low. absurd (omega arith);
    }

pub add_statement-requires-clause-ready : goal.add_statement-requires-clause-ready
add_statement-requires-clause-ready c =
    let test = c.loop-number-test.true in
    ready_before c.args.context.now c.args.leaves.now c.loop-number.number (omega arith) c.requires.ready

pub returns : goal.returns
returns c =
    let l = c.loop-number in
    let context = c.args.context.now in
    let long : length (statement_trees context.statements.now) ≡ length context.statements.now = simp length-map in
    let all = c.requires.all in
    let test = c.loop-number-test.false in
    all_built context c.args.leaves.now l.builder l.switches l.rules.items l.number (omega arith) l.invariant
