use Rattle.std.proofs.Common.{ℕ, ◌+◌, ◌-◌, ◌*◌, List, ◌∷◌, [], length, ap, sym, ◌∙◌, subst, arith, length-append}
use Rattle.rbbi_file.specs.Lengths.{lists_end}
use Rattle.rbbi_file.specs.inner.Reading.{AreListsAt}
use Rattle.rbbi_file.proofs.Stands.{list_within, next_list, lists_more}
use Rattle.rbbi_file.proofs.parts.lists_at.Goals as goal

pub u16_at-length-requires : goal.u16_at-length-requires
u16_at-length-requires c =
    omega (
      arith,
      list_within c.args.bytes.now c.args.count c.loop-list._list c.args.at c.loop-list.end c.loop-list-test.true c.loop-list.invariant.2
          c.requires,
    )

pub list_at-requires-clause-whole : goal.list_at-requires-clause-whole
list_at-requires-clause-whole c =
    omega (
      arith,
      c.u16_at-length.ensures.value,
      list_within c.args.bytes.now c.args.count c.loop-list._list c.args.at c.loop-list.end
          c.loop-list-test.true c.loop-list.invariant.2 c.requires,
    )

pub loop-list-preserved : goal.loop-list-preserved
loop-list-preserved c =
    let bytes = c.args.bytes.now in
    let end : ℕ = c.loop-list.end in
    let left : ℕ = c.args.count - (c.loop-list._list + 1) in (
      subst (λ lists. AreListsAt bytes lists c.args.at (end + (2 + 4 * c.u16_at-length.result))) (sym {A = List (List ℕ)} c.in_ok-push.ensures.items)
          (lists_more bytes c.loop-list.lists.items c.in_ok-list_at.field-0 c.args.at end (end + (2 + 4 * c.u16_at-length.result))
          c.loop-list.invariant.0 c.in_ok-list_at.ensures.stand c.in_ok-list_at.ensures.fit),
      ap length c.in_ok-push.ensures.items ∙ length-append c.loop-list.lists.items (c.in_ok-list_at.field-0 ∷ [])
          ∙ ap (λ (n : ℕ). n + 1) c.loop-list.invariant.1,
      ap (λ (n : ℕ). lists_end bytes left (end + (2 + 4 * n))) c.u16_at-length.ensures.value
          ∙ sym (next_list bytes c.args.count c.loop-list._list end c.loop-list-test.true)
          ∙ c.loop-list.invariant.2,
    )
