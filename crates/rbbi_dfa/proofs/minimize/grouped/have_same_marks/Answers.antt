use Rattle.std.proofs.Common.{◌≡◌, slice_index, ap, sym, ◌∙◌}
use Rattle.std.proofs.lemmas.Bool.Decides.{Decides-eqb}
use Rattle.rbbi_model.specs.Tables.{RowHead, accept_of, fronts_of, list_of}
use Rattle.rbbi_dfa.proofs.Grouping.{same_marks}
use Rattle.rbbi_dfa.proofs.minimize.grouped.have_same_marks.Goals as goal

pub returns-then-these-those-2 : goal.returns-then-these-those-2
returns-then-these-those-2 c =
    let automaton = c.args.automaton.now in
    let places = c.args.places.now in
    let these = c.these.view_is ∙ c.head-these.ensures in
    let those = c.those.view_is ∙ c.head-those.ensures in
    let these_list : c.these.inside.list ≡ list_of automaton c.args.this = ap (λ (head : RowHead). head.list) these in
    let those_list : c.those.inside.list ≡ list_of automaton c.args.that = ap (λ (head : RowHead). head.list) those in
    let accept : accept_of automaton c.args.this ≡ accept_of automaton c.args.that =
    sym (ap (λ (head : RowHead). head.accept) these) ∙ c.if-these-those-2.true.0 ∙ ap (λ (head : RowHead). head.accept) those in
    let fronts : fronts_of automaton c.args.this ≡ fronts_of automaton c.args.that =
    sym (ap (λ (head : RowHead). head.fronts) these) ∙ c.if-these-those-2.true.1 ∙ ap (λ (head : RowHead). head.fronts) those in
    let same = same_marks automaton c.requires.places.0 places c.args.this c.args.that c.requires.determined c.requires.places.1 c.requires.this
    c.requires.that accept fronts in
    let equal = Decides-eqb (slice_index places c.these.inside.list) (slice_index places c.those.inside.list) in (
      λ e. same.0 (ap (λ i. slice_index places i) (sym these_list) ∙ equal.0 e ∙ ap (λ i. slice_index places i) those_list),
      λ e. equal.1 (ap (λ i. slice_index places i) these_list ∙ same.1 e ∙ ap (λ i. slice_index places i) (sym those_list)),
    )
