use Rattle.std.proofs.Common.{◌≡◌, ◌⊎◌, ◌<◌, ◌≤◌, length, ◌∙◌, subst, inl, inr, arith}
use Rattle.rbbi_canon.specs.inner.Letters.{IsConnected, first_character, start_or_end}
use Rattle.rbbi_canon.proofs.Connecting.{AreConnected, here_first, there_first, one_here, one_there, all_letters}
use Rattle.rbbi_table.proofs.RangeLemmas.{few_ranges}
use Rattle.rbbi_canon.proofs.letters.letters_of.Goals as goal
use Rattle.rbbi_canon.proofs.letters.letters_of.Goals.{then-here-ranges, else-here-ranges+then-there-ranges}

pub starts-preserved-then-this-that : goal.starts-preserved-then-this-that
starts-preserved-then-this-that c =
    let these = c.args.these.now in
    let those = c.args.those.now in
    let here = c.starts.here in
    let there = c.starts.there in
    let some : (here < length these.ranges) ⊎ (there < length those.ranges) =
    elim c.if-here-ranges.branch [
      | then-here-ranges w ↦ inl (omega (arith, w.if-here-ranges.true, c.ranges-in-starts.ensures))
      | else-here-ranges+then-there-ranges w ↦ inr (omega (arith, w.if-there-ranges.true, w.ranges-else-here-ranges.ensures))
    ] in
    let less : start_or_end these.ranges here ≤ start_or_end those.ranges there =
    omega (arith, c.if-this-that.true, c.start_of-this.ensures, c.start_of-that.ensures) in
    let start : c.min.result ≡ start_or_end these.ranges here =
    let min : c.min.result ≡ c.start_of-this.result = omega (arith, c.min.ensures, c.if-this-that.true) in min ∙ c.start_of-this.ensures in
    one_here these those c.valid.ensures c.valid-2.ensures c.starts.sets c.add_letter.new.sets c.starts.letters.items c.add_letter.new.letters.items here there
    c.starts.invariant c.in_ok-add_letter.ensures.letters c.in_ok-add_letter.ensures.stay
    (here_first these.categories those.categories these.ranges those.ranges here there c.valid.ensures.ranges c.valid-2.ensures.ranges some less)
    (subst (λ n. IsConnected these those c.add_letter.new.sets (first_character n)) start c.in_ok-add_letter.ensures.connected)

pub overflow_add-there : goal.overflow_add-there
overflow_add-there c =
    let few = few_ranges c.args.those.now.categories c.args.those.now.ranges c.valid-2.ensures.ranges in
    let within = c.starts.invariant.there_within in
    omega arith

pub starts-preserved : goal.starts-preserved
starts-preserved c =
    let these = c.args.these.now in
    let those = c.args.those.now in
    let here = c.starts.here in
    let there = c.starts.there in
    let less : start_or_end those.ranges there < start_or_end these.ranges here =
    omega (arith, c.if-this-that.false, c.start_of-this.ensures, c.start_of-that.ensures) in
    let start : c.min.result ≡ start_or_end those.ranges there =
    let min : c.min.result ≡ c.start_of-that.result = omega (arith, c.min.ensures, c.if-this-that.false) in min ∙ c.start_of-that.ensures in
    one_there these those c.valid.ensures c.valid-2.ensures c.starts.sets c.add_letter.new.sets c.starts.letters.items c.add_letter.new.letters.items here there
    c.starts.invariant c.in_ok-add_letter.ensures.letters c.in_ok-add_letter.ensures.stay
    (there_first these.categories those.categories these.ranges those.ranges here there c.valid.ensures.ranges less)
    (subst (λ n. IsConnected these those c.add_letter.new.sets (first_character n)) start c.in_ok-add_letter.ensures.connected)

pub returns : goal.returns
returns c =
    let these = c.args.these.now in
    let those = c.args.those.now in
    let h = c.starts.invariant in
    let here : c.starts.here ≡ length these.ranges = omega (arith, h.here_within, c.if-here-ranges.false, c.ranges-in-starts.ensures) in
    let there : c.starts.there ≡ length those.ranges = omega (arith, h.there_within, c.if-there-ranges.false, c.ranges-else-here-ranges.ensures) in
    all_letters these those c.valid.ensures c.valid-2.ensures c.starts.sets c.starts.letters.items
    (subst (λ n. AreConnected these those c.starts.sets c.starts.letters.items n (length those.ranges)) here
    (subst (λ n. AreConnected these those c.starts.sets c.starts.letters.items c.starts.here n) there h))
