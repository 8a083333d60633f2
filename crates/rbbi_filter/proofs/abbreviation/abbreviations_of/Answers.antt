use Rattle.std.proofs.Common.{◌≡◌, ℕ, ◌+◌, List, [], get_or, take, length, sym, ◌∙◌, subst, arith, Vec, Global}
use Rattle.std.specs.Prelude.{map, max}
use Rattle.std.proofs.lemmas.List.{take_all}
use Rattle.std.proofs.lemmas.Option.{get_or_from_slice_get}
use Rattle.rbbi_filter.specs.inner.Members.{AreMembers}
use Rattle.rbbi_filter.proofs.Members.{no_members, one_more, put_in}
use Rattle.rbbi_filter.proofs.abbreviation.abbreviations_of.Goals as goal

pub loop-i-init : goal.loop-i-init
loop-i-init c =
    subst (λ (keys : List (Vec ℕ Global)). AreMembers [] (map (λ (member : Vec ℕ Global). member.items) keys) 0) (sym c.new-members.ensures.empty) no_members

pub loop-i-preserved : goal.loop-i-preserved
loop-i-preserved c =
    let items : Vec ℕ Global → List ℕ = λ member. member.items in
    let list = c.args.list in
    let key = c.in_ok-member.member in
    let at : get_or c.args.list c.loop-i.i [] ≡ c.in_ok-member.member.items =
    get_or_from_slice_get list c.loop-i.i c.get.result.now [] c.get.ensures ∙ sym c.in_ok-member.ensures in
    let long : c.max-longest.result ≡ max c.loop-i.longest (length c.in_ok-member.member.items) = omega (arith, c.max-longest.ensures, c.len.ensures) in
    subst (λ n. AreMembers (take (c.loop-i.i + 1) c.args.list) (map items c.insert.new.self.keys) n) (sym long)
    (one_more list c.loop-i.i c.loop-i.longest (map items c.loop-i.members.keys) (map items c.insert.new.self.keys) key.items
    (omega (arith, c.loop-i-test.true, c.len-i-end.ensures)) at
    (put_in items c.loop-i.members.keys c.insert.new.self.keys key c.in_ok-insert.field-0 c.in_ok-insert.ensures.added c.in_ok-insert.ensures.keys)
    c.loop-i.invariant)

pub invariant_of-result : goal.invariant_of-result
invariant_of-result c =
    subst (λ l. AreMembers l (map (λ (member : Vec ℕ Global). member.items) c.loop-i.members.keys) c.loop-i.longest)
    (take_all c.loop-i.i c.args.list (omega (arith, c.loop-i-test.false, c.len-i-end.ensures))) c.loop-i.invariant
