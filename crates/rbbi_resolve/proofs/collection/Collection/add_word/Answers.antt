use Rattle.std.proofs.Common.{◌≡◌, ◌∷◌, [], sym, ◌∙◌, subst}
use Rattle.std.specs.List.{AllByRecursion}
use Rattle.std.proofs.lemmas.List.{map-id}
use Rattle.std.proofs.lemmas.Iterator.{YieldsList-from_chars}
use Rattle.std.proofs.lemmas.Iterator.Consumers.{YieldsList-end}
use Rattle.rbbi_model.proofs.Lists.{all_append}
use Rattle.rbbi_resolve.specs.inner.Covered.{HasSingle}
use Rattle.rbbi_resolve.proofs.Collecting.{word_kept}
use Rattle.rbbi_resolve.proofs.collection.Collection.add_word.Goals as goal

pub loop-c-init : goal.loop-c-init
loop-c-init c = record { keeps = λ base has. has; added = tt; singled = c.requires; kept = λ files is. is }

pub loop-c-preserved : goal.loop-c-preserved
loop-c-preserved c =
    let before = c.loop-c.invariant in
    let own = c.in_ok-add_character.ensures in
    let after = c.add_character.new.self.bases.items in
    record {
      keeps = λ base has. own.keeps base (before.keeps base has);
      added = all_append (HasSingle after) c.loop-c.yielded (c.in-Some.c ∷ [])
          (word_kept c.loop-c.self.bases.items after own.keeps c.loop-c.yielded before.added) (own.added, tt);
      singled = own.singled;
      kept = λ files is. own.kept files (before.kept files is);
    }

pub returns-clause-added : goal.returns-clause-added
returns-clause-added c =
    let end = YieldsList-end (YieldsList-from_chars c.as_str.result.now c.as_str.utf8 cc) c.loop-c.yielded _ c.loop-c.yielded_by _ _ c.in-None.is
    c.next.ensures.steps in
    let all : c.loop-c.yielded ≡ c.args.word.now = sym (map-id c.loop-c.yielded) ∙ end.0 ∙ c.as_str.ensures.characters in
    subst (AllByRecursion (HasSingle c.loop-c.self.bases.items)) all c.loop-c.invariant.added
