use Rattle.std.proofs.Common.{◌≡◌, ℕ, ◌+◌, ◌≤◌, ◌↔◌, List, [], ◌∷◌, length, drop, get_or, sym, ◌∙◌, subst, arith}
use Rattle.std.proofs.lemmas.List.{drop_more, get_or_read}
use Rattle.rbbi_model.specs.ValidTables.{AreValidLists, IsValidList, IsBefore}
use Rattle.rbbi_table.proofs.Truth.{granted, some_items, item_is, items_end}
use Rattle.rbbi_table.proofs.ListLemmas.{ComeOn, valid_where_come_on, zero_alone_is}
use Rattle.rbbi_table.proofs.lists.are_valid_lists.Goals as goal

pub loop-list-init : goal.loop-list-init
loop-list-init c =
    let lists : List (List ℕ) = c.args.lists.now in
    let one : 1 ≤ length lists = some_items lists c.is_empty.result c.is_empty.ensures c.if-is_empty.false in
    let first : c.as_slice-previous.result.now ≡ get_or lists 0 [] = c.as_slice-previous.ensures ∙
    get_or_read lists 0 c.index-lists-0.result (omega arith) c.index-lists-0.is [] in
    let alone : get_or lists 0 [] ≡ 0 ∷ [] = sym first ∙ zero_alone_is c.as_slice-previous.result.now c.if-previous-ne1.false c.if-previous-ne0.false in
    subst (λ (l : List ℕ). AreValidLists lists ↔ ComeOn l (drop 1 lists)) (sym first) (valid_where_come_on lists one (omega arith) alone)

pub loop-list-preserved : goal.loop-list-preserved
loop-list-preserved c =
    let lists : List (List ℕ) = c.args.lists.now in
    let i : ℕ = c.loop-list.list-index in
    let read = item_is lists i c.list-item.result [] c.loop-list-test.true c.list-item.is in
    let item : c.as_slice-statuses.result.now ≡ get_or (drop 1 lists) i [] = c.as_slice-statuses.ensures ∙ read.1 in
    let more = drop_more (drop 1 lists) i [] read.0 in (
      λ valid.
          let come = subst (λ (l : List (List ℕ)). ComeOn c.loop-list.previous.now l) more (c.loop-list.invariant.0 valid) in
          subst (λ (l : List ℕ). ComeOn l (drop (i + 1) (drop 1 lists))) (sym item) come.1,
      λ come.
          let rest = subst (λ (l : List ℕ). ComeOn l (drop (i + 1) (drop 1 lists))) item come in
          let valid : IsValidList (get_or (drop 1 lists) i []) = subst (λ (l : List ℕ). IsValidList l) item
          (c.is_valid_list.ensures.0 c.if-not-is_valid_list.false) in
          let before : IsBefore c.loop-list.previous.now (get_or (drop 1 lists) i []) =
          subst (λ (l : List ℕ). IsBefore c.loop-list.previous.now l) item (c.is_before.ensures.0 c.if-not-is_before.false) in
          c.loop-list.invariant.1 (subst (λ (l : List (List ℕ)). ComeOn c.loop-list.previous.now l) (sym more) ((valid, before), rest)),
    )

pub returns : goal.returns
returns c =
    let lists : List (List ℕ) = c.args.lists.now in
    granted (c.loop-list.invariant.1 (subst (λ (l : List (List ℕ)). ComeOn c.loop-list.previous.now l)
    (sym (items_end lists c.loop-list.list-index c.loop-list-test.false)) tt))
