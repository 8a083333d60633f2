use Rattle.std.proofs.Common.{◌≡◌, length, refl, sym, ◌∙◌, subst}
use Rattle.std.specs.Prelude.{Bool, true, false, not, IsTrue}
use Rattle.rbbi_scan.specs.Columns.{columns}
use Rattle.rbbi_scan.specs.Scanning.{GoesOn}
use Rattle.rbbi_scan.proofs.Stopping.{goes_none, goes_append, scans_of}
use Rattle.rbbi_scan.proofs.scanning.by_windows.Goals as goal

pub loop-now-init : goal.loop-now-init
loop-now-init g c = record {
  within = c.requires.within;
  counted = c.requires.counted;
  fit = refl;
  goes = goes_none g.S.Source.unit c.args.table.now c.args.asked c.args.is_last (g.S.Source.units c.args.source.now) (length c.args.chars.now) c.args.start
      (columns c.args.starts.now c.args.places.now c.args.statuses.now);
}

pub loop-now-preserved : goal.loop-now-preserved
loop-now-preserved g c =
    let unit = g.S.Source.unit in
    let units = g.S.Source.units c.args.source.now in
    let table = c.args.table.now in
    let most = length c.args.chars.now in
    let before = columns c.args.starts.now c.args.places.now c.args.statuses.now in
    let middle = columns c.loop-now.starts c.loop-now.places c.loop-now.statuses in
    let after = columns c.one_window-now.new.starts c.one_window-now.new.places c.one_window-now.new.statuses in
    let goes : GoesOn unit table c.args.asked c.args.is_last (length c.args.chars.now) units c.loop-now.now.reached middle after c.one_window-now.result =
    subst (λ n. GoesOn unit table c.args.asked c.args.is_last n units c.loop-now.now.reached middle after c.one_window-now.result) c.loop-now.auto.chars
    c.one_window-now.ensures.goes in
    record {
      within = c.one_window-now.ensures.within;
      counted = c.one_window-now.ensures.counted;
      fit = c.one_window-now.ensures.fit ∙ c.loop-now.invariant.fit;
      goes = goes_append unit table c.args.asked c.args.is_last units most c.args.start before middle after c.loop-now.now c.one_window-now.result
          c.loop-now.invariant.goes goes;
    }

pub returns-clause-scans : goal.returns-clause-scans
returns-clause-scans g c =
    scans_of g.S.Source.unit c.args.table.now c.args.asked c.args.is_last (g.S.Source.units c.args.source.now) (length c.args.chars.now) c.args.start
    (columns c.args.starts.now c.args.places.now c.args.statuses.now) (columns c.loop-now.starts c.loop-now.places c.loop-now.statuses) c.loop-now.now
    (over c.loop-now.now.is_over c.loop-now-test.false) c.loop-now.invariant.goes
  where
    over : (b : Bool) → not b ≡ false → IsTrue b
    over true none = refl
    over false none = sym none
