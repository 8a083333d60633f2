use Rattle.std.proofs.Common.{◌≡◌, ◌+◌, ◌<◌, ◌≤◌, ℕ, List, length, take, drop, sym, ap, ◌∙◌, subst, arith, length-take, length-drop}
use Rattle.std.specs.Prelude.{IsTrue}
use Rattle.std.proofs.lemmas.Bool.{false≢true, eqb-true}
use Rattle.rbbi_model.specs.Units.{offset_of}
use Rattle.rbbi_scan.specs.Columns.{columns}
use Rattle.rbbi_scan.specs.Filling.{FillsOn, FillsAll}
use Rattle.rbbi_scan.specs.Scanning.{StopIs, GoesOn}
use Rattle.rbbi_scan.proofs.Standing.{end_at, units_at, units_low, offset_far}
use Rattle.rbbi_scan.proofs.Stopping.{goes_one, goes_further}
use Rattle.rbbi_scan.proofs.scanning.one_window.Given.{Over}
use Rattle.rbbi_scan.proofs.scanning.one_window.Goals as goal
use Rattle.rbbi_scan.proofs.scanning.one_window.Goals.{then-is_last, else-is_last}

pub fill-filled-requires-clause-small : goal.fill-filled-requires-clause-small
fill-filled-requires-clause-small g c =
    λ k few.
    let low : k < c.decode-decoded.result.count =
    omega (arith, few, ap length c.of-window.ensures, length-take c.decode-decoded.result.count c.decode-decoded.new.chars) in
    let within = end_at g.S.Source.unit (g.S.Source.units c.args.source.now) c.decode-decoded.new.chars c.decode-decoded.new.ends
    c.decode-decoded.result.count c.decode-decoded.result.used c.args.start.resume c.decode-decoded.ensures.decoded c.requires.within k low in
    omega (arith, within, c.len-len.ensures)

pub fill-filled-requires-clause-low : goal.fill-filled-requires-clause-low
fill-filled-requires-clause-low g c = omega (arith, c.requires.within, c.requires.small)

pub overflow_add-resume : goal.overflow_add-resume
overflow_add-resume g c =
    omega (
      arith,
      units_low g.S.Source.unit (drop c.args.start.resume (g.S.Source.units c.args.source.now)) c.decode-decoded.new.chars c.decode-decoded.new.ends
          c.decode-decoded.result.count c.decode-decoded.result.used c.decode-decoded.ensures.decoded c.fill-filled.result.at
          (subst (λ w. c.fill-filled.result.at ≤ length w) c.of-window.ensures c.fill-filled.ensures.within) c.units_before.result c.units_before.ensures,
      c.decode-decoded.ensures.decoded.within,
      length-drop c.args.start.resume (g.S.Source.units c.args.source.now),
      c.requires.within,
      c.len-len.ensures,
    )

pub returns-clause-within : goal.returns-clause-within
returns-clause-within g c =
    omega (
      arith,
      c.turn_of.ensures.resume,
      units_low g.S.Source.unit (drop c.args.start.resume (g.S.Source.units c.args.source.now)) c.decode-decoded.new.chars c.decode-decoded.new.ends
          c.decode-decoded.result.count c.decode-decoded.result.used c.decode-decoded.ensures.decoded c.fill-filled.result.at
          (subst (λ w. c.fill-filled.result.at ≤ length w) c.of-window.ensures c.fill-filled.ensures.within) c.units_before.result c.units_before.ensures,
      c.decode-decoded.ensures.decoded.within,
      length-drop c.args.start.resume (g.S.Source.units c.args.source.now),
      c.requires.within,
    )

-- where the window has gone to lies so far on
resume_at : (g : Over) (c : goal.After-turn_of g) →
    c.turn_of.result.reached.resume
    ≡ c.args.start.resume + offset_of g.S.Source.unit (take c.decode-decoded.result.count c.decode-decoded.new.chars) c.fill-filled.result.at
resume_at g c =
    c.turn_of.ensures.resume
    ∙ ap (λ n. c.args.start.resume + n)
    (units_at g.S.Source.unit (drop c.args.start.resume (g.S.Source.units c.args.source.now)) c.decode-decoded.new.chars c.decode-decoded.new.ends
    c.decode-decoded.result.count c.decode-decoded.result.used c.decode-decoded.ensures.decoded c.fill-filled.result.at
    (subst (λ w. c.fill-filled.result.at ≤ length w) c.of-window.ensures c.fill-filled.ensures.within) c.units_before.result c.units_before.ensures)

-- why nothing more is found
why : (g : Over) (c : goal.After-turn_of g) →
    StopIs c.args.is_last (length (g.S.Source.units c.args.source.now)) (length c.args.places.now) (length c.decode-decoded.new.chars)
    c.decode-decoded.result c.fill-filled.result (c.args.start.resume + c.decode-decoded.result.used) c.stop_of-stop.result
why g c =
    let found : StopIs c.args.is_last c.len-len.result (length c.fill-filled.new.places) (length c.decode-decoded.new.chars) c.decode-decoded.result
    c.fill-filled.result (c.args.start.resume + c.decode-decoded.result.used) c.stop_of-stop.result =
    c.stop_of-stop.ensures in
    subst (λ n. StopIs c.args.is_last n (length c.args.places.now) (length c.decode-decoded.new.chars) c.decode-decoded.result
    c.fill-filled.result (c.args.start.resume + c.decode-decoded.result.used) c.stop_of-stop.result) c.len-len.ensures
    (subst (λ n. StopIs c.args.is_last c.len-len.result n (length c.decode-decoded.new.chars) c.decode-decoded.result
    c.fill-filled.result (c.args.start.resume + c.decode-decoded.result.used) c.stop_of-stop.result) c.fill-filled.auto.places found)

-- with the last units the window may be the last
final : (g : Over) (c : goal.After-turn_of g) → IsTrue c.if-is_last.fill →
    IsTrue c.args.is_last × (c.args.start.resume + c.decode-decoded.result.used ≡ length (g.S.Source.units c.args.source.now))
final g c is =
    elim c.if-is_last.branch [
      | then-is_last b ↦ (
        b.if-is_last.true,
        eqb-true (c.args.start.resume + c.decode-decoded.result.used) c.len-len.result (sym b.fill-is ∙ is) ∙ c.len-len.ensures,
      )
      | else-is_last b ↦ absurd (false≢true (sym b.if-is_last.false ∙ sym b.fill-is ∙ is))
    ]

pub returns-clause-goes : goal.returns-clause-goes
returns-clause-goes g c =
    let unit = g.S.Source.unit in
    let units : List ℕ = g.S.Source.units c.args.source.now in
    let chars : List ℕ = c.decode-decoded.new.chars in
    let ends : List ℕ = c.decode-decoded.new.ends in
    let count : ℕ = c.decode-decoded.result.count in
    let filled = c.fill-filled.result in
    let before = columns c.args.starts.now c.args.places.now c.args.statuses.now in
    let after = columns c.fill-filled.new.starts c.fill-filled.new.places c.fill-filled.new.statuses in
    let window = c.of-window.ensures in
    let fills : FillsOn c.args.table.now c.args.asked (take count chars) (take count ends) c.args.start.resume c.if-is_last.fill c.args.start.count before after filled =
    subst (λ w. FillsOn c.args.table.now c.args.asked w (take count ends) c.args.start.resume c.if-is_last.fill c.args.start.count before after filled) window
    c.fill-filled.ensures.filled in
    let fills_all : FillsAll c.args.table.now (take count chars) c.if-is_last.fill (length c.args.places.now) filled =
    subst (λ w. FillsAll c.args.table.now w c.if-is_last.fill (length c.args.places.now) filled) window c.fill-filled.ensures.all in
    let inside : filled.at ≤ length (take count chars) = subst (λ w. filled.at ≤ length w) window c.fill-filled.ensures.within in
    let room : length chars ≡ length c.args.chars.now = c.decode-decoded.auto.chars in
    subst (λ n. GoesOn unit c.args.table.now c.args.asked c.args.is_last n units c.args.start before after c.turn_of.result) room
    (goes_one unit c.args.table.now c.args.asked units c.args.is_last c.args.start chars ends c.decode-decoded.result filled before after c.if-is_last.fill
    c.requires.within c.decode-decoded.ensures.decoded c.decode-decoded.ensures.all (final g c) (omega (arith, c.requires.some, room)) inside fills fills_all
    c.stop_of-stop.result c.turn_of.result (why g c) c.turn_of.ensures.count (resume_at g c) c.turn_of.ensures.stop)

pub returns-clause-further : goal.returns-clause-further
returns-clause-further g c =
    λ more.
    let unit = g.S.Source.unit in
    let at : ℕ = c.fill-filled.result.at in
    let w : List ℕ = take c.decode-decoded.result.count c.decode-decoded.new.chars in
    let some : 1 ≤ at =
    goes_further c.args.is_last (length (g.S.Source.units c.args.source.now)) (length c.args.places.now) (length c.decode-decoded.new.chars)
    c.decode-decoded.result c.fill-filled.result (c.args.start.resume + c.decode-decoded.result.used) c.stop_of-stop.result c.turn_of.result
    (why g c) c.turn_of.ensures.stop more in
    let inside : at ≤ length w = omega (arith, c.fill-filled.ensures.within, ap length c.of-window.ensures) in
    omega (arith, resume_at g c, offset_far unit w at inside, some)
