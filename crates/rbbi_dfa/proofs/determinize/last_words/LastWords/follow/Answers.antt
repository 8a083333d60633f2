use Rattle.std.proofs.Common.{ℕ, ◌<◌, ◌↔◌, List, get_or, subst, arith}
use Rattle.rbbi_bits.specs.BitRows.{Holds}
use Rattle.rbbi_dfa.specs.inner.LastWords.{FollowsWord}
use Rattle.rbbi_bits.proofs.RowLists.{found_row}
use Rattle.rbbi_dfa.proofs.Steps.{followers_all}
use Rattle.rbbi_dfa.proofs.WordFollowers.{followers_word}
use Rattle.rbbi_dfa.proofs.determinize.last_words.LastWords.follow.Goals as goal

pub loop-i-preserved : goal.loop-i-preserved
loop-i-preserved c =
    let rows = c.args.rows.now in
    let i = c.loop-i.i in
    let kept = c.in_ok-update.ensures.kept in
    let word : ℕ = get_or c.update.new.self.words.items c.loop-i.i 0 in
    let short : c.loop-i.i < c.args.rows.now.width = omega (arith, c.loop-i-test.true, c.requires.set) in
    let is = found_row c.update.new.self.unions.items i c.index.result.now (omega (arith, short, kept.many)) c.index.ensures in
    record {
      followers = followers_word rows.follow c.args.set.now c.loop-i.candidates c.add_to.new.set c.index.result.now i word c.loop-i.invariant.followers
          c.in_ok-update.ensures.word
          (λ p. subst (λ (union : List ℕ). Holds union p ↔ FollowsWord rows.follow i word p) is (kept.each i short p)) c.add_to.ensures;
      kept = kept;
    }

pub returns-clause-followers : goal.returns-clause-followers
returns-clause-followers c = followers_all c.args.rows.now c.args.set.now c.loop-i.candidates c.loop-i.i c.loop-i-test.false c.loop-i.invariant.followers
