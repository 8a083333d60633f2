use Rattle.std.proofs.Common.{◌<◌, length, sym, subst}
use Rattle.rbbi_session.proofs.Reaching.{found_within}
use Rattle.rbbi_change.proofs.reached.next_from.Goals as goal

pub returns-clause-next : goal.returns-clause-next
returns-clause-next g c = record {
  at = c.next-found.ensures.at;
  list = c.next-found.ensures.status;
  listed =
      subst (λ n. n < length c.args.table.now.lists) (sym c.next-found.ensures.status)
      (found_within c.args.table.now c.valid.ensures (g.T.Chars.characters c.args.text.now) c.args.place);
}
