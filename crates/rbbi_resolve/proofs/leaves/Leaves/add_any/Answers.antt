use Rattle.std.proofs.Common.{ℕ, ◌≤◌, ◌↔◌, Some, subst}
use Rattle.rbbi_classes.specs.Classes.{HasMember}
use Rattle.rbbi_model.specs.SetTrees as model
use Rattle.rbbi_resolve.specs.inner.Contexts.{files_of, division_of}
use Rattle.rbbi_resolve.specs.inner.ClassValues.{AreClassesOf}
use Rattle.rbbi_resolve.proofs.Adding.{any_respects, one_row}
use Rattle.rbbi_resolve.proofs.leaves.Leaves.add_any.Goals as goal

pub returns : goal.returns
returns c =
    let context = c.args.context.now in
    let division = division_of context in
    let set = c.in_ok-negate.field-0 in
    let negated = subst (λ bounds. (d : ℕ) → HasMember bounds set d ↔ ((d ≤ 0x10FFFF) × ¬ HasMember bounds c.empty-none.result d)) c.layout.ensures
    c.in_ok-negate.ensures in
    let members : AreClassesOf (files_of context) division.bounds (model.Others model.Nothing) set =
    λ d first. (λ h. (((negated d).0 h).0, λ n. n), λ h. (negated d).1 (h.0, c.empty-none.ensures division.bounds d)) in
    one_row context (Some (model.Others model.Nothing)) (Some set) c.args.self.now.rows.items c.add.new.self.rows.items c.in_ok-add.ensures
    (record { own = members; respects = any_respects (files_of context) division c.requires.classes.divides; letter = tt })
