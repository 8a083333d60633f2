use Rattle.std.proofs.Common.{◌≡◌, sym, ap, ◌∙◌, subst, arith}
use Rattle.std.specs.Prelude.{chars}
use Rattle.std.proofs.lemmas.List.{length-map}
use Rattle.rbbi_cache.specs.Kept.{AreTrueRuns}
use Rattle.rbbi_session.specs.Scans.{IsConsistent}
use Rattle.rbbi_session.proofs.Reaching.{reached_start}
use Rattle.rbbi_filter.specs.Pairs.{turn, turned}
use Rattle.rbbi_filter.proofs.Turning.{turned_splice}
use Rattle.rbbi_filter.proofs.tailored.TurnedMoves.replace.Goals as goal

pub edited-requires : goal.edited-requires
edited-requires g c =
    let pairs = (g.M.Maps.pairs_of c.self.inside.held) in
    let x = g.T.Chars.characters c.self.inside.text in
    let same = length-map x (turn pairs) in
    record {
      text = turned pairs x;
      edited = record {
        within = omega (arith, same, c.in_ok-replace.ensures.0);
        characters = turned pairs (chars c.args.insert.now);
        many = length-map (chars c.args.insert.now) (turn pairs) ∙ sym c.character_count-inserted.ensures;
        spliced = c.new-text.ensures ∙ ap (turned pairs) c.in_ok-replace.ensures.2
            ∙ turned_splice pairs x c.args.at c.args.remove (chars c.args.insert.now);
      };
      small = omega (arith, same, c.len-short.ensures.most);
      are_true = subst (λ t. AreTrueRuns t (turned pairs x) c.self.inside.cache.runs) (sym c.table-table.ensures) c.self.invariant.are_true;
    }

pub invariant_of-self-2 : goal.invariant_of-self-2
invariant_of-self-2 g c =
    let table = c.table-table.result.now in
    let y = turned (g.M.Maps.pairs_of c.self.inside.held) (g.T.Chars.characters c.replace.new.self) in
    let is = c.new-text.ensures in
    subst (λ t. IsConsistent t y 0 0 c.edited.new.self.runs c.edited.new.self.slashes) c.table-table.ensures (record {
      reached = reached_start table c.valid.ensures y;
      fit = c.edited.ensures.fit ∙ c.self.invariant.fit ∙ ap (λ t. t.slashes) (sym c.table-table.ensures);
      are_true = subst (λ z. AreTrueRuns table z c.edited.new.self.runs) is c.edited.ensures.are_true;
    })
