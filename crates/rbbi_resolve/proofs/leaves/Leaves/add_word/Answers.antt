use Rattle.std.proofs.Common.{◌≡◌, ℕ, Option, Some, ◌∷◌, [], map, sym, ◌∙◌, subst}
use Rattle.std.specs.List.{AllByRecursion}
use Rattle.std.proofs.lemmas.List.{map-id, map-append}
use Rattle.std.proofs.lemmas.Iterator.{YieldsList-from_chars}
use Rattle.std.proofs.lemmas.Iterator.Consumers.{YieldsList-end}
use Rattle.rbbi_model.proofs.Lists.{all_left, all_right}
use Rattle.rbbi_model.specs.SetTrees as model
use Rattle.rbbi_resolve.specs.inner.Covered.{Respects}
use Rattle.rbbi_resolve.specs.inner.Contexts.{files_of, stand_of, AddsRows}
use Rattle.rbbi_resolve.proofs.Adding.{no_rows, more_rows}
use Rattle.rbbi_resolve.proofs.leaves.Leaves.add_word.Goals as goal

pub loop-c-init : goal.loop-c-init
loop-c-init c = λ none. no_rows c.args.context.now c.args.self.now.rows.items

pub loop-c-preserved : goal.loop-c-preserved
loop-c-preserved c =
    let context = c.args.context.now in
    let P : ℕ → Type 0 = λ d. Respects (files_of context) (stand_of context) (model.Character d) in
    let old = c.args.self.now.rows.items in
    let new = c.add_character.new.self.rows.items in
    let leaf : ℕ → Option model.SetTree = λ d. Some (model.Character d) in
    let last = c.in-Some.c ∷ [] in
    λ respects.
    subst (λ values. AddsRows context values old new) (sym (map-append leaf c.loop-c.yielded last))
    (more_rows context (map leaf c.loop-c.yielded) (leaf c.in-Some.c ∷ []) old c.loop-c.self.rows.items new
    (c.loop-c.invariant (all_left P c.loop-c.yielded last respects)) (c.in_ok-add_character.ensures (all_right P c.loop-c.yielded last respects).0))

pub returns : goal.returns
returns c =
    let context = c.args.context.now in
    let end = YieldsList-end (YieldsList-from_chars c.as_str.result.now c.as_str.utf8 cc) c.loop-c.yielded _ c.loop-c.yielded_by _ _ c.in-None.is
    c.next.ensures.steps in
    let all : c.loop-c.yielded ≡ c.args.word.now = sym (map-id c.loop-c.yielded) ∙ end.0 ∙ c.as_str.ensures.characters in
    subst (λ w. AllByRecursion (λ d. Respects (files_of context) (stand_of context) (model.Character d)) w →
    AddsRows context (map (λ d. Some (model.Character d)) w) c.args.self.now.rows.items c.loop-c.self.rows.items) all c.loop-c.invariant
