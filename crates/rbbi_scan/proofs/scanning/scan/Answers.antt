use Rattle.std.proofs.Common.{◌≡◌, refl, ◌∙◌, subst, arith}
use Rattle.rbbi_model.specs.Words.{most_characters}
use Rattle.rbbi_scan.specs.Columns.{columns}
use Rattle.rbbi_scan.specs.Scanning.{ScansOn, IsFarIf}
use Rattle.rbbi_scan.specs.declared.reached.Stop.TheVariants.{Memory}
use Rattle.rbbi_scan.proofs.Stopping.{scans_none, scans_append, scans_any}
use Rattle.rbbi_scan.proofs.scanning.scan.Goals as goal
use Rattle.rbbi_scan.proofs.scanning.scan.Goals.{then-loop-size-test+else-is_far, else-loop-size-test}

pub returns-in_default-clause-scans : goal.returns-in_default-clause-scans
returns-in_default-clause-scans g c =
    λ stop. scans_none g.S.Source.unit c.args.table.now c.args.asked c.args.is_last (g.S.Source.units c.args.source.now) most_characters
    (record { count = 0; resume = c.args.from; stop = stop }) (record { count = 0; resume = c.args.from; stop = Memory })
    (columns c.args.starts.now c.args.places.now c.args.statuses.now) refl

pub loop-size-preserved : goal.loop-size-preserved
loop-size-preserved g c = record {
  some = omega (arith, c.min-size.ensures, c.loop-size.invariant.some);
  small = omega (arith, c.min-size.ensures);
  within = c.by_wide_windows-now.ensures.within;
  counted = c.by_wide_windows-now.ensures.counted;
  fit = c.by_wide_windows-now.ensures.fit ∙ c.loop-size.invariant.fit;
  scans = scans_append g.S.Source.unit c.args.table.now c.args.asked c.args.is_last (g.S.Source.units c.args.source.now) c.loop-size.size c.min-size.result
      (record { count = 0; resume = c.args.from; stop = Memory }) c.loop-size.now c.by_wide_windows-now.result
      (columns c.args.starts.now c.args.places.now c.args.statuses.now) (columns c.loop-size.starts c.loop-size.places c.loop-size.statuses)
      (columns c.by_wide_windows-now.new.starts c.by_wide_windows-now.new.places c.by_wide_windows-now.new.statuses) c.loop-size.invariant.scans c.by_wide_windows-now.ensures.scans;
}

pub returns-clause-scans : goal.returns-clause-scans
returns-clause-scans g c =
    λ stop.
    let unit = g.S.Source.unit in
    let units = g.S.Source.units c.args.source.now in
    let before = columns c.args.starts.now c.args.places.now c.args.statuses.now in
    let after = columns c.loop-size.starts c.loop-size.places c.loop-size.statuses in
    let all : ScansOn unit c.args.table.now c.args.asked c.args.is_last most_characters units (record { count = 0; resume = c.args.from; stop = Memory }) before after
    c.loop-size.now =
    elim c.loop-size-test.branch [
      | then-loop-size-test+else-is_far b ↦
          scans_any unit c.args.table.now c.args.asked c.args.is_last units c.loop-size.size most_characters
          (record { count = 0; resume = c.args.from; stop = Memory }) c.loop-size.now before after
          (subst (λ far. IsFarIf far c.loop-size.now.stop) b.if-is_far.false b.is_far.ensures) c.loop-size.invariant.scans
      | else-loop-size-test b ↦
          subst (λ n. ScansOn unit c.args.table.now c.args.asked c.args.is_last n units (record { count = 0; resume = c.args.from; stop = Memory }) before after
          c.loop-size.now) (let e : c.loop-size.size ≡ most_characters = omega (arith, b.loop-size-test.false, c.loop-size.invariant.small) in e)
          c.loop-size.invariant.scans
    ] in
    all
