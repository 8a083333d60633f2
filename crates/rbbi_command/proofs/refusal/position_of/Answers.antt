use Rattle.std.proofs.Common.{◌≡◌, take, length, map-id, sym, ap, ◌∙◌, arith}
use Rattle.std.specs.Str.{chars}
use Rattle.std.proofs.lemmas.Iterator.{YieldsList-from_chars}
use Rattle.std.proofs.lemmas.Iterator.Consumers.{YieldsList-so_far, YieldsList-turn, YieldsList-end}
use Rattle.std.proofs.lemmas.List.{take_all, length_push}
use Rattle.std.proofs.lemmas.Str.{length-le-encodes, encodes-chars}
use Rattle.rbbi_command.proofs.Positions.{ends_after_end, since_after_end, ends_after_other, since_after_other, ends_few, since_few, row_here, column_here}
use Rattle.rbbi_command.proofs.refusal.position_of.Goals as goal

-- the characters so far are those before the place where none is left
front_of : (c : goal.Then-left-eq0) → c.loop-c.yielded ≡ take c.args.place (chars c.args.text.now)
front_of c =
    sym (map-id c.loop-c.yielded) ∙ YieldsList-so_far (YieldsList-from_chars c.args.text.now c.utf8.text cc) c.loop-c.yielded _ c.loop-c.yielded_by
    ∙ ap (λ n. take n (chars c.args.text.now)) (omega (arith, c.loop-c.invariant.0, c.if-left-eq0.true))

-- all characters are before a place that isn't before the end
all_of : (c : goal.In-None) → c.loop-c.yielded ≡ take c.args.place (chars c.args.text.now)
all_of c =
    let end = YieldsList-end (YieldsList-from_chars c.args.text.now c.utf8.text cc) c.loop-c.yielded _ c.loop-c.yielded_by _ _ c.in-None.is
    c.next.ensures.steps in
    sym (map-id c.loop-c.yielded) ∙ end.0 ∙ sym (take_all c.args.place (chars c.args.text.now) (omega (arith, end.1, c.loop-c.invariant.0)))

pub returns-then-left-eq0-clause-row : goal.returns-then-left-eq0-clause-row
returns-then-left-eq0-clause-row c = row_here (chars c.args.text.now) c.loop-c.yielded c.args.place c.loop-c.row (front_of c) c.loop-c.invariant.1

pub returns-then-left-eq0-clause-column : goal.returns-then-left-eq0-clause-column
returns-then-left-eq0-clause-column c = column_here (chars c.args.text.now) c.loop-c.yielded c.args.place c.loop-c.column (front_of c) c.loop-c.invariant.2

pub overflow_add-row : goal.overflow_add-row
overflow_add-row c =
    let turn = YieldsList-turn (YieldsList-from_chars c.args.text.now c.utf8.text cc) c.loop-c.yielded _ c.loop-c.yielded_by _ _ c.in-Some.c c.in-Some.is
    c.next.ensures.steps in
    let few = length-le-encodes (chars c.args.text.now) in
    let all = ap length (encodes-chars c.args.text.now c.utf8.text) in
    omega (arith, turn.0, few, all, c.requires, c.loop-c.invariant.1, ends_few c.loop-c.yielded)

pub loop-c-preserved-then-c-eq10 : goal.loop-c-preserved-then-c-eq10
loop-c-preserved-then-c-eq10 c = (
  omega (arith, c.loop-c.invariant.0, c.if-left-eq0.false, length_push c.loop-c.yielded c.in-Some.c),
  omega (arith, c.loop-c.invariant.1, ends_after_end c.loop-c.yielded c.in-Some.c c.if-c-eq10.true),
  omega (arith, since_after_end c.loop-c.yielded c.in-Some.c c.if-c-eq10.true),
)

pub overflow_add-column : goal.overflow_add-column
overflow_add-column c =
    let turn = YieldsList-turn (YieldsList-from_chars c.args.text.now c.utf8.text cc) c.loop-c.yielded _ c.loop-c.yielded_by _ _ c.in-Some.c c.in-Some.is
    c.next.ensures.steps in
    let few = length-le-encodes (chars c.args.text.now) in
    let all = ap length (encodes-chars c.args.text.now c.utf8.text) in
    omega (arith, turn.0, few, all, c.requires, c.loop-c.invariant.2, since_few c.loop-c.yielded)

pub loop-c-preserved : goal.loop-c-preserved
loop-c-preserved c = (
  omega (arith, c.loop-c.invariant.0, c.if-left-eq0.false, length_push c.loop-c.yielded c.in-Some.c),
  omega (arith, c.loop-c.invariant.1, ends_after_other c.loop-c.yielded c.in-Some.c c.if-c-eq10.false),
  omega (arith, c.loop-c.invariant.2, since_after_other c.loop-c.yielded c.in-Some.c c.if-c-eq10.false),
)

pub returns-clause-row : goal.returns-clause-row
returns-clause-row c = row_here (chars c.args.text.now) c.loop-c.yielded c.args.place c.loop-c.row (all_of c) c.loop-c.invariant.1

pub returns-clause-column : goal.returns-clause-column
returns-clause-column c = column_here (chars c.args.text.now) c.loop-c.yielded c.args.place c.loop-c.column (all_of c) c.loop-c.invariant.2
