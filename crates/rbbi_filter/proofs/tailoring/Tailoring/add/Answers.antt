use Rattle.std.proofs.Common.{ap, sym, ◌∙◌, subst, set, Some}
use Rattle.rbbi_text.proofs.Characters.{IsCharacter-from_scalar}
use Rattle.rbbi_filter.specs.Pairs.{second_of}
use Rattle.rbbi_filter.specs.inner.Turning.{AreSeconds}
use Rattle.rbbi_filter.proofs.Turning.{kept_more}
use Rattle.rbbi_filter.proofs.tailoring.Tailoring.add.Goals as goal

pub invariant_of-self-2 : goal.invariant_of-self-2
invariant_of-self-2 c =
    let pairs = c.self.inside.pairs.items in
    let room = c.make_room.new.seconds.items in
    subst (λ l. AreSeconds l (set room c.args.from (Some c.args.to))) (sym c.in_ok-push.ensures.items)
    (kept_more pairs (record { from = c.args.from; to = c.args.to }) c.self.inside.seconds.items room c.self.invariant
    (ap (λ l. second_of l c.args.from) c.self.view_is ∙ c.requires) (IsCharacter-from_scalar c.args.from c.ranges.from.0)
    (IsCharacter-from_scalar c.args.to c.ranges.to.0) c.in_ok-make_room.ensures.long c.make_room.ensures.few c.make_room.ensures.same)
