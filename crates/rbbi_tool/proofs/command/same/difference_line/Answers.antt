use Rattle.std.proofs.Common.{◌≡◌, ◌++◌, ◌∷◌, [], map-id, sym, ap, ◌∙◌}
use Rattle.std.specs.Prelude.{codes}
use Rattle.std.specs.List.{flat_map}
use Rattle.std.proofs.lemmas.Iterator.{YieldsList-from_chars}
use Rattle.std.proofs.lemmas.Iterator.Consumers.{YieldsList-end}
use Rattle.rbbi_tool.specs.Command.Same.{code_point_digits}
use Rattle.rbbi_tool.proofs.command.same.difference_line.Goals as goal

pub returns : goal.returns
returns c =
    let text = c.as_str.result.now in
    let end = YieldsList-end (YieldsList-from_chars text c.as_str.utf8 cc) c.loop-character.yielded _ c.loop-character.yielded_by _ _ c.in-None.is
    c.next.ensures.steps in
    let all : c.loop-character.yielded ≡ c.args.word.now = sym (map-id c.loop-character.yielded) ∙ end.0 ∙ c.as_str.ensures.characters in
    c.in_ok-push.ensures.items ∙ ap (λ line. line ++ 10 ∷ []) c.loop-character.invariant
    ∙ ap (λ w. (codes "differ" ++ flat_map (λ c. 32 ∷ code_point_digits c) w) ++ 10 ∷ []) all
