use Rattle.std.proofs.Common.{◌+◌, ◌-◌, sym, ap, ◌∙◌}
use Rattle.rbbi_tally.specs.inner.Pieces.{farthest}
use Rattle.rbbi_tally.proofs.PieceLists.{segments_shift, reach_shift}
use Rattle.rbbi_tally.proofs.piece.Piece.shift.Goals as goal

pub returns-clause-segments : goal.returns-clause-segments
returns-clause-segments c =
    segments_shift c.args.self.now.start c.args.removed c.args.inserted c.args.self.now.items.items c.requires.behind

pub returns-clause-is : goal.returns-clause-is
returns-clause-is c =
    let items = c.args.self.now.items.items in
    record {
      begin = c.requires.is.begin;
      reach_is =
          ap (λ n. n - c.args.removed + c.args.inserted) c.requires.is.reach_is
          ∙ sym (reach_shift c.args.self.now.start c.args.removed c.args.inserted items c.requires.is.begin c.requires.behind)
          ∙ ap farthest (sym (segments_shift c.args.self.now.start c.args.removed c.args.inserted items c.requires.behind));
      small = c.requires.small;
    }
