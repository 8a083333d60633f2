use Rattle.std.proofs.Common.{ℕ, ◌+◌, ◌<◌, ◌≤◌, List, length, drop, get_or, sym, subst, arith}
use Rattle.std.proofs.lemmas.Bool.{le-leb, leb-true}
use Rattle.std.proofs.lemmas.List.{drop_more}
use Rattle.rbbi_table.proofs.Truth.{refuted, some_items, rest_item, items_end}
use Rattle.rbbi_table.proofs.ListLemmas.{RiseFrom, valid_where_rise}
use Rattle.rbbi_table.proofs.lists.is_valid_list.Goals as goal

pub loop-status-init : goal.loop-status-init
loop-status-init c =
    let one : 1 ≤ length c.args.statuses.now = some_items c.args.statuses.now c.is_empty.result c.is_empty.ensures c.if-is_empty.false in
    valid_where_rise c.args.statuses.now one (omega arith)

pub returns-then-status-previous : goal.returns-then-status-previous
returns-then-status-previous c =
    let statuses : List ℕ = c.args.statuses.now in
    let i : ℕ = c.loop-status.status-index in
    let item = rest_item statuses i 0 c.loop-status-test.true in
    refuted (λ valid.
    let rise = subst (λ (l : List ℕ). RiseFrom c.loop-status.previous l) (drop_more (drop 1 statuses) i 0 item.0) (c.loop-status.invariant.0 valid) in
    omega (arith, rise.0, item.1, c.if-status-previous.true))

pub loop-status-preserved : goal.loop-status-preserved
loop-status-preserved c =
    let statuses : List ℕ = c.args.statuses.now in
    let i : ℕ = c.loop-status.status-index in
    let item = rest_item statuses i 0 c.loop-status-test.true in
    let more = drop_more (drop 1 statuses) i 0 item.0 in (
      λ valid.
          let rise = subst (λ (l : List ℕ). RiseFrom c.loop-status.previous l) more (c.loop-status.invariant.0 valid) in
          subst (λ (n : ℕ). RiseFrom n (drop (i + 1) (drop 1 statuses))) (sym item.1) rise.1,
      λ rise.
          let rest = subst (λ (n : ℕ). RiseFrom n (drop (i + 1) (drop 1 statuses))) item.1 rise in
          let up : c.loop-status.previous < get_or (drop 1 statuses) i 0 = omega (arith, item.1, c.if-status-previous.false) in
          c.loop-status.invariant.1 (subst (λ (l : List ℕ). RiseFrom c.loop-status.previous l) (sym more) (up, rest)),
    )

pub returns : goal.returns
returns c =
    let statuses : List ℕ = c.args.statuses.now in
    let end = items_end statuses c.loop-status.status-index c.loop-status-test.false in (
      λ is. c.loop-status.invariant.1 (subst (λ (l : List ℕ). RiseFrom c.loop-status.previous l) (sym end) (leb-true c.loop-status.previous 2147483647 is)),
      λ valid. le-leb c.loop-status.previous 2147483647 (subst (λ (l : List ℕ). RiseFrom c.loop-status.previous l) end (c.loop-status.invariant.0 valid)),
    )
