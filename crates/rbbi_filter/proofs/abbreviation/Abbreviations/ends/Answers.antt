use Rattle.std.proofs.Common.{◌≡◌, ℕ, ◌-◌, true, false, length, take, drop, sym, ap, ◌∙◌, arith, Vec, Global}
use Rattle.std.specs.Prelude.{◌&&◌, nat_eq}
use Rattle.std.specs.List.{list_any}
use Rattle.std.specs.Cmp.Lexicographic.{pointwise}
use Rattle.std.proofs.lemmas.Bool.{and_left, and_right}
use Rattle.std.proofs.lemmas.List.{take_rest}
use Rattle.rbbi_filter.specs.Abbreviations.{ends, ends_apart, ends_with_member}
use Rattle.rbbi_filter.proofs.Members.{none_longer, none_at_last, one_ends, is_in}
use Rattle.rbbi_filter.proofs.abbreviation.Abbreviations.ends.Goals as goal
use Rattle.rbbi_filter.proofs.abbreviation.Abbreviations.ends.Goals.{else-ends_apart-via-then-ends_apart+else-contains, else-ends_apart-via-else-ends_apart}

pub returns-then-contains : goal.returns-then-contains
returns-then-contains c =
    let list = c.self.inside.list in
    let keys = c.self.inside.members.keys in
    let w = c.without_last_spaces-w.result.now in
    let start = length c.without_last_spaces-w.result.now - c.loop-len.len in
    let is : list_any (pointwise nat_eq (drop start w)) list ≡ true =
    sym (is_in (λ (v : Vec ℕ Global). v.items) keys list c.self.inside.longest (drop start w) c.self.invariant)
    ∙ ap (λ q. list_any (λ (v : Vec ℕ Global). pointwise nat_eq q v.items) keys) (sym (take_rest w start))
    ∙ sym c.contains.ensures
    ∙ c.if-contains.true in
    sym
    (ap (λ l. ends l c.args.w.now) (sym c.self.view_is)
    ∙ ap (λ v. list_any (ends_with_member v) list) (sym c.without_last_spaces-w.ensures)
    ∙ one_ends w start list (omega arith) (sym c.ends_apart.ensures ∙ c.if-ends_apart.true) is)

pub loop-len-preserved : goal.loop-len-preserved
loop-len-preserved c =
    let list = c.self.inside.list in
    let keys = c.self.inside.members.keys in
    let w = c.without_last_spaces-w.result.now in
    let start = length c.without_last_spaces-w.result.now - c.loop-len.len in
    let any = list_any (pointwise nat_eq (drop start w)) list in
    let none : (ends_apart (take start w) && any) ≡ false =
    elim c.else-ends_apart.branch [
      | else-ends_apart-via-then-ends_apart+else-contains b ↦ and_right (ends_apart (take start w)) any
          (sym (is_in (λ (v : Vec ℕ Global). v.items) keys list c.self.inside.longest (drop start w) c.self.invariant)
          ∙ ap (λ q. list_any (λ (v : Vec ℕ Global). pointwise nat_eq q v.items) keys) (sym (take_rest w start))
          ∙ sym b.contains.ensures
          ∙ b.if-contains.false)
      | else-ends_apart-via-else-ends_apart b ↦ and_left (ends_apart (take start w)) any (sym c.ends_apart.ensures ∙ b.if-ends_apart.false)
    ] in
    none_longer w c.loop-len.len start list (omega (arith, c.loop-len-test.true, c.min-len-end.ensures)) none c.loop-len.invariant

pub returns : goal.returns
returns c =
    let list = c.self.inside.list in
    let w = c.without_last_spaces-w.result.now in
    sym
    (ap (λ l. ends l c.args.w.now) (sym c.self.view_is)
    ∙ ap (λ v. list_any (ends_with_member v) list) (sym c.without_last_spaces-w.ensures)
    ∙ none_at_last w c.loop-len.len c.self.inside.longest list (omega (arith, c.loop-len-test.false, c.min-len-end.ensures)) c.self.invariant.most
    c.loop-len.invariant)
