use Rattle.std.proofs.Common.{sym, subst}
use Rattle.rbbi_cache.specs.Kept.{AreTrueRuns}
use Rattle.rbbi_session.proofs.kept.Kept.replace.Goals as goal

pub edited-requires : goal.edited-requires
edited-requires g c = record {
  text = g.T.Chars.characters c.deref_mut-body.result.now.text;
  edited = record {
    within = c.in_ok-replace.ensures.0;
    characters = _;
    many = sym c.character_count-inserted.ensures;
    spliced = c.in_ok-replace.ensures.2;
  };
  small = c.len-short.ensures.most;
  are_true = subst (λ k. AreTrueRuns c.args.table.now (g.T.Chars.characters k.text) k.cache.runs) (sym c.deref_mut-body.ensures.value)
      (subst (λ k. AreTrueRuns c.args.table.now k.state.text k.runs) (sym c.self.view_is) c.requires.by.are_true);
}
