use Rattle.std.proofs.Common.{ℕ, ◌+◌, ◌*◌, ◌/◌, ◌≤◌, List, length, sym, ap, ◌∙◌, subst, arith}
use Rattle.std.specs.Prelude.{sum_by}
use Rattle.rbbi_model.specs.Ranges.{Range}
use Rattle.rbbi_model.specs.Rules.{leaves_of}
use Rattle.rbbi_resolve.specs.RuleLists.{rules_of}
use Rattle.rbbi_bits.specs.BitRows.{row_bit}
use Rattle.rbbi_positions.specs.FollowPositions.{Follows}
use Rattle.rbbi_positions.specs.PositionMarks.{ReadsCategory}
use Rattle.rbbi_positions.specs.inner.Rows.{in_row}
use Rattle.rbbi_positions.specs.inner.RuleTests.{some_rule, rule_begins, front_ends, rule_ends, rule_goes, AreCodesOf}
use Rattle.rbbi_positions.specs.inner.Readers.{AreReaders}
use Rattle.rbbi_positions.proofs.Marking.{alike, first_is, last_is, front_last_is, follows_is}
use Rattle.rbbi_positions.proofs.Leaves.{follower_within}
use Rattle.rbbi_positions.proofs.RowWrites.{row_within, row_holds}
use Rattle.rbbi_positions.proofs.Reading.{reads_are, reads_within, leaves_total}
use Rattle.rbbi_positions.proofs.from_rules.positions.Goals as goal

pub readers_of-requires-clause-wide : goal.readers_of-requires-clause-wide
readers_of-requires-clause-wide c =
    omega (arith, ap length (c.deref.ensures.value ∙ c.in_ok-numbers.ensures), leaves_total c.args.rules.now, c.leaves-leaves.ensures)

pub returns : goal.returns
returns c =
    let rules = rules_of c.args.rules.now in
    let words : ℕ = (c.leaves-leaves.result + 63) / 64 in
    let wide : sum_by leaves_of rules ≤ 64 * words = omega (arith, c.leaves-leaves.ensures) in
    let codes : AreCodesOf c.args.cats.now.count c.args.cats.now.ranges c.deref-2.result.now =
    subst (AreCodesOf c.args.cats.now.count c.args.cats.now.ranges) (sym c.deref-2.ensures.value) c.in_ok-codes.ensures.codes in
    record {
      leaves = c.leaves.ensures;
      rule_count = c.in_ok-marks.ensures.many;
      category_count = c.count.ensures.value;
      rule_marks = c.in_ok-marks.ensures.each;
      owner = λ position below. c.in_ok-owners.ensures.each.each position (omega (arith, below, c.leaves.ensures, c.in_ok-owners.ensures.many));
      first = λ position.
          alike (row_bit c.in_ok-firsts.firsts.items position) (some_rule (rule_begins position) rules 0) (c.in_ok-firsts.ensures.bits position)
          (first_is rules c.requires.lawful.each position);
      last = λ position.
          alike (row_bit c.in_ok-lasts.lasts.items position) (some_rule (rule_ends position) rules 0) (c.in_ok-lasts.ensures.bits position)
          (last_is rules c.requires.lawful.each position);
      front_last = λ position.
          alike (row_bit c.in_ok-front_lasts.front_lasts.items position) (some_rule (front_ends position) rules 0)
          (c.in_ok-front_lasts.ensures.bits position) (front_last_is rules c.requires.lawful.each position);
      follows = λ position next below.
          row_holds words position c.in_ok-followers.followers.items
          (row_within position c.leaves-leaves.result words (length c.in_ok-followers.followers.items)
          (omega (arith, below, c.leaves.ensures, c.leaves-leaves.ensures)) (omega (arith, c.in_ok-followers.ensures.many)))
          (λ next. Follows rules position next)
          (λ next short. alike (in_row words c.in_ok-followers.followers.items position next) (some_rule (rule_goes position next) rules 0)
          (c.in_ok-followers.ensures.rows position next short) (follows_is rules c.requires.lawful.each position next))
          (λ next follows. omega (arith, follower_within rules position next follows, wide))
          next;
      reads = λ position category few.
          let readers : AreReaders c.args.rules.now.sets c.deref.result.now c.deref-2.result.now words c.in_ok-readers.readers.items =
          subst (λ (sets : List (List Range)). AreReaders sets c.deref.result.now c.deref-2.result.now words c.in_ok-readers.readers.items)
          c.sets.ensures.value c.in_ok-readers.ensures.read in
          let numbers = c.deref.ensures.value ∙ c.in_ok-numbers.ensures in
          row_holds words category c.in_ok-readers.readers.items
          (row_within category (length c.deref-2.result.now) words (length c.in_ok-readers.readers.items) (omega (arith, few, codes.many))
          (omega (arith, c.in_ok-readers.ensures.many)))
          (λ position. ReadsCategory rules c.args.cats.now.ranges position category)
          (λ position short. reads_are c.args.rules.now c.args.cats.now.count c.args.cats.now.ranges c.deref.result.now c.deref-2.result.now words
          c.in_ok-readers.readers.items numbers readers codes c.requires.classes wide position category short few)
          (λ position reads. reads_within c.args.rules.now c.args.cats.now.count c.args.cats.now.ranges c.deref.result.now c.deref-2.result.now words
          c.in_ok-readers.readers.items numbers readers codes c.requires.classes wide position category reads)
          position;
    }
