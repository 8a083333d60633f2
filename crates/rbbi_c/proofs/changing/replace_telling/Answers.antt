use Rattle.std.proofs.Common.{◌≡◌, ◌+◌, ◌-◌, ◌≤◌, chars, ℕ, List, length, sym, ap, ◌∙◌, subst, arith}
use Rattle.rbbi_model.specs.declared.unit.Unit.{Unit as TextUnit}
use Rattle.rbbi_model.specs.Units.{offset_of}
use Rattle.rbbi_cache.specs.Edits.{IsSpliced}
use Rattle.rbbi_cache.proofs.Texts.{length_is}
use Rattle.rbbi_session.specs.UnitWalks.{UnitSetting}
use Rattle.rbbi_c.proofs.Telling.{offset_behind, text_there, spliced_by, told_is, removed_there, offset_there, spliced_there, least_there}
use Rattle.rbbi_c.proofs.changing.replace_telling.Goals as goal

pub overflow_sub-edit : goal.overflow_sub-edit
overflow_sub-edit g c =
    let old = c.args.session.now in let new = c.replace.new.self in let part = c.in_ok-removed.removed in
    let is = removed_there c.args.session.now c.args.at c.args.remove c.in_ok-removed.removed c.requires.unit c.text-2.ensures c.in_ok-removed.ensures in
    let edited = spliced_by old.unit old.asked.state.text c.args.at c.args.remove (chars c.args.insert.now) part is new.asked.state.text _
    c.in_ok-replace.ensures.accepted in
    omega (
      arith,
      length_is old.asked.state.text new.asked.state.text part.first (length part.text) (length (chars c.args.insert.now)) edited,
      c.len-length.ensures.exact,
      ap length c.text.ensures,
      c.len-2.ensures.exact,
      ap length c.text-text.ensures,
      c.len-3.ensures.exact,
    )

pub new-before-requires-clause-within : goal.new-before-requires-clause-within
new-before-requires-clause-within g c =
    let old = c.args.session.now in let new = c.replace.new.self in let part = c.in_ok-removed.removed in
    let is = removed_there c.args.session.now c.args.at c.args.remove c.in_ok-removed.removed c.requires.unit c.text-2.ensures c.in_ok-removed.ensures in
    let edited = spliced_by old.unit old.asked.state.text c.args.at c.args.remove (chars c.args.insert.now) part is new.asked.state.text _
    c.in_ok-replace.ensures.accepted in
    omega (
      arith,
      edited.within,
      length_is old.asked.state.text new.asked.state.text part.first (length part.text) (length (chars c.args.insert.now)) edited,
      c.len-length.ensures.exact,
      ap length c.text.ensures,
      c.len-2.ensures.exact,
      ap length c.text-text.ensures,
      c.len-3.ensures.exact,
    )

pub changed-found-requires-clause-edited : goal.changed-found-requires-clause-edited
changed-found-requires-clause-edited g c =
    let old = c.args.session.now in let new = c.replace.new.self in let part = c.in_ok-removed.removed in
    let is = removed_there c.args.session.now c.args.at c.args.remove c.in_ok-removed.removed c.requires.unit c.text-2.ensures c.in_ok-removed.ensures in
    let edited = spliced_by old.unit old.asked.state.text c.args.at c.args.remove (chars c.args.insert.now) part is new.asked.state.text _
    c.in_ok-replace.ensures.accepted in
    let n_is : c.len-2.result + c.len-3.result - c.len-length.result ≡ length (chars c.args.insert.now) =
    omega (
      arith,
      length_is old.asked.state.text new.asked.state.text part.first (length part.text) (length (chars c.args.insert.now)) edited,
      c.len-length.ensures.exact,
      ap length c.text.ensures,
      c.len-2.ensures.exact,
      ap length c.text-text.ensures,
      c.len-3.ensures.exact,
    ) in
    let there = spliced_there old.asked.state.text part.first (length part.text) c.text-text.ensures n_is edited in
    let before = c.new-before.ensures.old old.asked.state.text there (text_there old.unit old.asked.state.text c.args.at c.args.remove (chars c.args.insert.now) part is) in
    subst (λ (r : ℕ). IsSpliced c.new-before.result c.text-text.result.now c.in_ok-removed.removed.first r
    (c.len-2.result + c.len-3.result - c.len-length.result)) (sym c.len.ensures.exact)
    (subst (λ (x : List ℕ). IsSpliced x c.text-text.result.now c.in_ok-removed.removed.first (length c.in_ok-removed.removed.text)
    (c.len-2.result + c.len-3.result - c.len-length.result)) (sym before) there)

pub offset-new_to-requires : goal.offset-new_to-requires
offset-new_to-requires g c =
    let old = c.args.session.now in let new = c.replace.new.self in let part = c.in_ok-removed.removed in
    let is = removed_there c.args.session.now c.args.at c.args.remove c.in_ok-removed.removed c.requires.unit c.text-2.ensures c.in_ok-removed.ensures in
    let edited = spliced_by old.unit old.asked.state.text c.args.at c.args.remove (chars c.args.insert.now) part is new.asked.state.text _
    c.in_ok-replace.ensures.accepted in
    let long = length_is old.asked.state.text new.asked.state.text part.first (length part.text) (length (chars c.args.insert.now)) edited in
    let n_is : c.len-2.result + c.len-3.result - c.len-length.result ≡ length (chars c.args.insert.now) =
    omega (arith, long, c.len-length.ensures.exact, ap length c.text.ensures, c.len-2.ensures.exact, ap length c.text-text.ensures, c.len-3.ensures.exact) in
    let there = spliced_there old.asked.state.text part.first (length part.text) c.text-text.ensures n_is edited in
    let before = c.new-before.ensures.old old.asked.state.text there
    (text_there old.unit old.asked.state.text c.args.at c.args.remove (chars c.args.insert.now) part is) in
    let out = c.changed-found.ensures.least.outside in
    omega (
      arith,
      long,
      n_is,
      ap length before,
      ap length c.text-text.ensures,
      c.len.ensures.exact,
      out.ends,
      out.ends_new,
      c.changed-found.ensures.within,
    )

pub overflow_sub-change-2 : goal.overflow_sub-change-2
overflow_sub-change-2 g c =
    let old = c.args.session.now in let new = c.replace.new.self in let part = c.in_ok-removed.removed in
    let is = removed_there c.args.session.now c.args.at c.args.remove c.in_ok-removed.removed c.requires.unit c.text-2.ensures c.in_ok-removed.ensures in
    let edited = spliced_by old.unit old.asked.state.text c.args.at c.args.remove (chars c.args.insert.now) part is new.asked.state.text _
    c.in_ok-replace.ensures.accepted in
    let long = length_is old.asked.state.text new.asked.state.text part.first (length part.text) (length (chars c.args.insert.now)) edited in
    let n_is : c.len-2.result + c.len-3.result - c.len-length.result ≡ length (chars c.args.insert.now) =
    omega (arith, long, c.len-length.ensures.exact, ap length c.text.ensures, c.len-2.ensures.exact, ap length c.text-text.ensures, c.len-3.ensures.exact) in
    let out = c.changed-found.ensures.least.outside in
    let change = c.changed-found.result in
    let ends : part.first + length part.text ≤ change.old_to = omega (arith, out.ends, c.len.ensures.exact) in
    let q_is : change.new_to ≡ change.old_to + length (chars c.args.insert.now) - length part.text =
    omega (arith, out.ends_new, n_is, c.len.ensures.exact) in
    let behind = offset_behind old.unit old.asked.state.text new.asked.state.text part.first (length part.text) (length (chars c.args.insert.now)) edited
    change.old_to ends in
    let at_end = c.offset-new_to.ensures ∙ offset_there change.new_to (sym c.requires.unit) c.text-text.ensures in
    let same = ap (λ p. offset_of old.unit new.asked.state.text p) q_is in
    let unit_is : new.unit ≡ old.unit = ap (λ (s : UnitSetting). s.unit) c.in_ok-replace.ensures.same in
    let all = c.units.ensures ∙ ap (λ (u : TextUnit). offset_of u new.asked.state.text (length new.asked.state.text)) unit_is in
    omega (arith, behind, at_end, same, all, c.units-units.ensures)

pub returns-clause-told : goal.returns-clause-told
returns-clause-told g c =
    let old = c.args.session.now in let new = c.replace.new.self in let part = c.in_ok-removed.removed in
    let is = removed_there c.args.session.now c.args.at c.args.remove c.in_ok-removed.removed c.requires.unit c.text-2.ensures c.in_ok-removed.ensures in
    let edited = spliced_by old.unit old.asked.state.text c.args.at c.args.remove (chars c.args.insert.now) part is new.asked.state.text _
    c.in_ok-replace.ensures.accepted in
    let long = length_is old.asked.state.text new.asked.state.text part.first (length part.text) (length (chars c.args.insert.now)) edited in
    let n_is : c.len-2.result + c.len-3.result - c.len-length.result ≡ length (chars c.args.insert.now) =
    omega (arith, long, c.len-length.ensures.exact, ap length c.text.ensures, c.len-2.ensures.exact, ap length c.text-text.ensures, c.len-3.ensures.exact) in
    let there = spliced_there old.asked.state.text part.first (length part.text) c.text-text.ensures n_is edited in
    let before = c.new-before.ensures.old old.asked.state.text there
    (text_there old.unit old.asked.state.text c.args.at c.args.remove (chars c.args.insert.now) part is) in
    let change = c.changed-found.result in
    let within : change.old_to ≤ length old.asked.state.text = omega (arith, c.changed-found.ensures.within, ap length before) in
    let unit_is : new.unit ≡ old.unit = ap (λ (s : UnitSetting). s.unit) c.in_ok-replace.ensures.same in
    let all = c.units.ensures ∙ ap (λ (u : TextUnit). offset_of u new.asked.state.text (length new.asked.state.text)) unit_is in
    told_is old new c.args.at c.args.remove (chars c.args.insert.now) part is c.in_ok-replace.ensures.same edited change _
    (least_there part.first change (sym c.requires.table) before c.text-text.ensures c.len.ensures.exact n_is c.changed-found.ensures.least)
    within
    (c.offset.ensures ∙ offset_there change.from (sym c.requires.unit) c.text-text.ensures)
    (c.offset-new_to.ensures ∙ offset_there change.new_to (sym c.requires.unit) c.text-text.ensures)
    (omega (arith, c.units-units.ensures, all))
