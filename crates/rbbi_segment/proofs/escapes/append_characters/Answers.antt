use Rattle.std.proofs.Common.{◌≡◌, List, ℕ, ◌++◌, chars, ap, sym, ◌∙◌, append-nil}
use Rattle.std.proofs.lemmas.List.{map-id, flat_map_more}
use Rattle.std.proofs.lemmas.Iterator.{YieldsList-from_chars}
use Rattle.std.proofs.lemmas.Iterator.Consumers.{YieldsList-end}
use Rattle.rbbi_segment.specs.Escapes.{shown}
use Rattle.rbbi_segment.specs.Lines.{shown_all}
use Rattle.rbbi_segment.proofs.escapes.append_characters.Goals as goal

pub loop-c-init : goal.loop-c-init
loop-c-init c = sym (append-nil c.args.out.now.items)

pub loop-c-preserved : goal.loop-c-preserved
loop-c-preserved c =
    c.in_ok-append_character.ensures ∙ ap (λ l. l ++ shown c.args.within c.in-Some.c) c.loop-c.invariant
    ∙ flat_map_more (shown c.args.within) c.args.out.now.items c.loop-c.yielded c.in-Some.c

-- the characters so far are all
pub returns : goal.returns
returns c =
    let t =
    YieldsList-end (YieldsList-from_chars c.args.text.now c.utf8.text cc) c.loop-c.yielded _ c.loop-c.yielded_by _ _ c.in-None.is c.next.ensures.steps in
    c.loop-c.invariant ∙ ap (λ l. c.args.out.now.items ++ shown_all c.args.within l) (sym (map-id c.loop-c.yielded) ∙ t.0)
