use Rattle.rbbi_dfa.proofs.WordFollowers.{kept_with}
use Rattle.rbbi_dfa.proofs.determinize.last_words.LastWords.update.Goals as goal

pub returns-in_ok-union-clause-kept : goal.returns-in_ok-union-clause-kept
returns-in_ok-union-clause-kept c =
    let self = c.args.self.now in
    kept_with c.args.rows.now self.words.items self.unions.items c.args.i c.args.word c.in_ok-union.union c.requires.kept c.requires.within
    c.in_ok-union.ensures.wide c.in_ok-union.ensures.next
