use Rattle.std.proofs.Common.{◌≡◌, ◌+◌, length, take, drop, ap, arith, subst, sym, ◌∙◌, chars, append_assoc}
use Rattle.rbbi_model.specs.Words.{IsText}
use Rattle.rbbi_model.specs.Scripts.{splice}
use Rattle.rbbi_text.proofs.Characters.{IsText-chars}
use Rattle.rbbi_text.proofs.Splices.{length-splice, text-splice}
use Rattle.rbbi_text.proofs.plain.PlainTextEditText.replace.Goals as goal

pub invariant_of-self-2 : goal.invariant_of-self-2
invariant_of-self-2 c =
    let x = c.self.inside.items.items in
    let w = chars c.args.insert.now in
    let long = length-splice x w c.args.at c.args.remove (omega (arith, c.in_ok-_added.ensures.0, c.len.ensures)) in
    let edited : c.put.new.items.items ≡ splice x c.args.at c.args.remove w = c.in_ok-put.ensures.ok ∙
    sym (append_assoc (take c.args.at x) w (drop (c.args.at + c.args.remove) x)) in (
      subst IsText (sym edited) (text-splice x w c.args.at c.args.remove c.self.invariant.0 (IsText-chars c.args.insert.now c.utf8.insert)),
      omega (arith, ap length edited, long, c.in_ok-_added.ensures.1, c.len.ensures),
    )
