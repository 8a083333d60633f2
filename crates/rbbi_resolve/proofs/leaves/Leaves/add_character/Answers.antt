use Rattle.std.proofs.Common.{ℕ, ◌≤◌, ◌↔◌, Some, subst, arith}
use Rattle.rbbi_classes.specs.Classes.{HasMember, IsFirstOfClass}
use Rattle.rbbi_model.specs.SetTrees as model
use Rattle.rbbi_resolve.specs.inner.Contexts.{files_of, division_of}
use Rattle.rbbi_resolve.specs.inner.ClassValues.{AreClassesOf}
use Rattle.rbbi_resolve.proofs.Adding.{is_character, one_row}
use Rattle.rbbi_resolve.proofs.leaves.Leaves.add_character.Goals as goal

pub returns : goal.returns
returns c =
    let context = c.args.context.now in
    let ch = c.args.c in
    let set = c.in_ok-range.field-0 in
    let range = subst (λ bounds. (d : ℕ) → IsFirstOfClass bounds d → HasMember bounds set d ↔ ((ch ≤ d) × (d ≤ ch))) c.layout.ensures c.in_ok-range.ensures in
    let members : AreClassesOf (files_of context) (division_of context).bounds (model.Character ch) set =
    λ d first. (λ h. let b = (range d first).0 h in let low = b.0 in let high = b.1 in omega arith, λ e. (range d first).1 (omega arith, omega arith)) in
    λ respects.
    one_row context (Some (model.Character ch)) (Some set) c.args.self.now.rows.items c.add.new.self.rows.items c.in_ok-add.ensures
    (record { own = members; respects = respects; letter = is_character ch c.ranges.c.0 })
