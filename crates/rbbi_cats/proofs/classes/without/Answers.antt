-- The row loses the classes that begin with surrogates, and these are those of surrogates.
use Rattle.std.proofs.Common.{◌≡◌, ℕ, sym, subst}
use Rattle.rbbi_classes.specs.Classes.{ClassBits, HasMember}
use Rattle.rbbi_classes.specs.Divisions.{stand_in}
use Rattle.rbbi_classes.proofs.FirstCodePoints.{stand-in_is_first}
use Rattle.rbbi_classes.proofs.DividedMembers.{divided-by_number}
use Rattle.rbbi_classes.proofs.CharacterMembers.{has-characters}
use Rattle.rbbi_cats.proofs.classes.without.Goals as goal

pub returns : goal.returns
returns c = λ code small.
    let division = c.args.division.now in
    let form = c.requires.form in
    let at : ℕ = stand_in division code in
    let rest = c.in_ok-characters.ensures division.bounds at in
    let surrogate = c.requires.surrogates at (stand-in_is_first division form code small) in
    let same : c.in_ok-own.own ≡ c.args.row.now = c.in_ok-own.ensures.cases in
    let by_number = divided-by_number division form c.in_ok-characters.characters code in
    let has = has-characters division c.args.row.now code in
    let Has_it : ClassBits → Type 0 = λ set. HasMember division.bounds set at in (
      λ t.
          let both = rest.0 (by_number.1 (small, t)).1 in
          has.1 ((small, subst Has_it same both.0), λ s. both.1 (surrogate.1 ((form.surrogates code small).0 s))),
      λ h.
          let both = has.0 h in
          (by_number.0 (small, rest.1 (subst Has_it (sym same) both.0.1, λ s. both.1 ((form.surrogates code small).1 (surrogate.0 s))))).1,
    )
