use Rattle.std.proofs.Common.{◌≡◌, ℕ, ◌+◌, ◌-◌, List, IsTrue, length, chars, rules, ap, subst, sym, arith}
use Rattle.rbbi_model.specs.Spelling.{joined}
use Rattle.rbbi_text.specs.Weighed.{IsSingle}
use Rattle.rbbi_text.proofs.Splices.{length-splice}
use Rattle.rbbi_text.proofs.Singles.{single_spliced}
use Rattle.rbbi_text.proofs.pieces.PiecesEditText.replace.Goals as goal
use Rattle.rbbi_text.proofs.pieces.PiecesEditText.replace.Goals.{then-self, else-self}

pub invariant_of-self : goal.invariant_of-self
invariant_of-self c =
    let told = c.in_err-edit.ensures in (
      search rules,
      search rules,
      λ on. subst (λ m. IsSingle m.unit (joined c.edit.new.pieces.items)) (sym told.err_milestones)
          (subst (λ ps. IsSingle c.self.inside.milestones.unit (joined ps)) (sym told.err) (c.self.invariant.2 on)),
    )

pub invariant_of-self-2 : goal.invariant_of-self-2
invariant_of-self-2 c =
    let told = c.in_ok-edit.ensures in
    let x : List ℕ = joined c.self.inside.pieces.items in
    let w : List ℕ = chars c.args.insert.now in
    let kept : ℕ = c.self.inside.len - c.args.remove in
    let long : kept + c.in_ok-added.added ≡ length (joined c.edit.new.pieces.items) =
    omega (arith, ap length told.text, length-splice x w c.args.at c.args.remove, c.self.invariant.0.long) in
    let was : IsTrue c.self.inside.single → IsSingle c.edit.new.milestones.unit x =
    λ single. subst (λ u. IsSingle u x) (sym told.unit) (c.self.invariant.2 single) in (
      record { whole = told.cut.whole; begin = told.cut.begin; long = long },
      told.milestones,
      λ on.
          elim c.if-self.branch [
            | then-self w ↦
                single_spliced c.edit.new.milestones.unit x (was w.if-self.true) (chars c.args.insert.now) _ c.args.at c.args.remove
                (w.each_takes_one-self-inside.ensures (subst IsTrue w.self-is on)) told.text
            | else-self w ↦ absurd (search (rules, subst IsTrue w.self-is on))
          ],
    )
