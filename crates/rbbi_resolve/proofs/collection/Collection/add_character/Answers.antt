use Rattle.std.proofs.Common.{◌≡◌, ◌∷◌, [], ◌||◌, eqb, List, length, sym, ap, ◌∙◌, subst, arith}
use Rattle.std.specs.HashMap.{values}
use Rattle.std.specs.List.{Contains}
use Rattle.std.specs.Vec.{with_items}
use Rattle.std.proofs.lemmas.List.{with_items_is}
use Rattle.std.proofs.lemmas.List.Elements.{Contains-append_left}
use Rattle.rbbi_bits.specs.BitRows.{row_bit}
use Rattle.rbbi_model.specs.Ranges.{Range}
use Rattle.rbbi_resolve.specs.inner.Covered.{AreSingled, HasSingle}
use Rattle.rbbi_resolve.proofs.Adding.{is_character}
use Rattle.rbbi_resolve.proofs.Collecting.{answers_kept, single_pushed, singled_more}
use Rattle.rbbi_resolve.proofs.collection.Collection.add_character.Goals as goal
use Rattle.rbbi_resolve.proofs.collection.Collection.add_character.Goals.{After-insert}

pub insert-requires : goal.insert-requires
insert-requires c =
    let low = (is_character c.args.c c.ranges.c.0).0 in
    let same = ap length c.deref_mut.ensures.value in
    let long = c.requires.long in
    omega arith

-- the sets with the character's, and the row with the character
keeps : (c : After-insert) → (base : List Range) → Contains c.args.self.now.bases.items base → Contains c.push.new.self.items base
keeps c base has =
    subst (λ bases. Contains bases base) (sym c.in_ok-push.ensures.items)
    (Contains-append_left c.args.self.now.bases.items (c.in_ok-range.field-0 ∷ []) base has)

single : (c : After-insert) → HasSingle c.push.new.self.items c.args.c
single c =
    subst (λ bases. HasSingle bases c.args.c) (sym c.in_ok-push.ensures.items)
    (single_pushed c.args.self.now.bases.items c.in_ok-range.field-0 c.args.c c.in_ok-range.ensures (is_character c.args.c c.ranges.c.0).0)

singled : (c : After-insert) → AreSingled c.push.new.self.items (with_items c.args.self.now.characters c.insert.new.row).items
singled c =
    let row = c.args.self.now.characters in
    let same = c.deref_mut.ensures.value in
    let kept : length c.insert.new.row ≡ length c.deref_mut.result.now = c.insert.auto.row in
    let long : length c.insert.new.row ≡ length row.items = kept ∙ ap length same in
    let is = with_items_is row c.insert.new.row (long ∙ sym row.ok.0) in
    singled_more c.args.self.now.bases.items c.push.new.self.items row.items (with_items row c.insert.new.row).items c.args.c c.requires (keeps c) (single c)
    (ap length is ∙ long)
    (λ other. ap (λ r. row_bit r other) is ∙ c.insert.ensures other ∙ ap (λ r. row_bit r other || eqb other c.args.c) same)

pub returns-clause-added : goal.returns-clause-added
returns-clause-added c = single (goal.at.returns-clause-added c).After-insert

pub returns-clause-singled : goal.returns-clause-singled
returns-clause-singled c = singled (goal.at.returns-clause-singled c).After-insert

pub returns-clause-kept : goal.returns-clause-kept
returns-clause-kept c =
    let here = (goal.at.returns-clause-kept c).After-insert in
    λ files is.
    record {
      answers = answers_kept files c.args.self.now.bases.items c.push.new.self.items (values c.args.self.now.answers) (keeps here) is.answers;
      singled = singled here;
    }
