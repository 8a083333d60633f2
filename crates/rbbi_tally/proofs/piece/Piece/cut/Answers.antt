use Rattle.std.proofs.Common.{◌≡◌, ◌≤◌, take, sym, ap, ◌∙◌, subst}
use Rattle.std.specs.List.{AllByRecursion}
use Rattle.std.proofs.lemmas.List.{take-map}
use Rattle.rbbi_model.proofs.Lists.{all_take}
use Rattle.rbbi_tally.specs.inner.Segments.{Segment}
use Rattle.rbbi_tally.specs.inner.Pieces.{segment_of, segments_by, segments_in, most_looked}
use Rattle.rbbi_tally.proofs.PieceLists.{looks_within}
use Rattle.rbbi_tally.proofs.piece.Piece.cut.Goals as goal

pub reach_of-self-requires : goal.reach_of-self-requires
reach_of-self-requires c =
    let p = c.args.self.now in
    let is : segments_by p.start c.deref.result.now ≡ take c.args.count (segments_in p) =
    ap (segments_by p.start) (c.deref.ensures.value ∙ c.truncate.ensures.items) ∙ sym (take-map (segment_of p.start) c.args.count p.items.items) in
    subst (λ l. AllByRecursion (λ s. s.look ≤ most_looked) l) (sym is)
    (all_take (λ (s : Segment). s.look ≤ most_looked) c.args.count (segments_in p)
    (looks_within most_looked (segments_in p) (subst (λ n. n ≤ most_looked) c.requires.is.reach_is c.requires.is.small)))

pub returns-clause-segments : goal.returns-clause-segments
returns-clause-segments c =
    ap (segments_by c.args.self.now.start) c.truncate.ensures.items ∙ sym (take-map (segment_of c.args.self.now.start) c.args.count c.args.self.now.items.items)
