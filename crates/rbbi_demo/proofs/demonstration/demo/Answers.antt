use Rattle.std.proofs.Common.{◌≡◌, ◌/◌, ℕ, length, ap, ◌∙◌, arith}
use Rattle.rbbi_demo.specs.Generator.{drawn_text, state_drawn}
use Rattle.rbbi_demo.proofs.Demonstrating.{after_none, after_more, summed_up}
use Rattle.rbbi_demo.proofs.demonstration.demo.Goals as goal

pub loop-made-init : goal.loop-made-init
loop-made-init g c =
    let count : ℕ = c.args.count in
    let opened = c.in_ok-session.ensures in
    after_none c.args.table.now count c.in_ok-session.session c.drawn.new.generator.state opened.table_is
    (ap (λ s. s.text) opened.state_is ∙ c.in_ok-text.ensures.text ∙ ap (λ s. drawn_text s count) c.new-generator.ensures)
    (c.in_ok-text.ensures.state ∙ ap (λ s. state_drawn s count) c.new-generator.ensures)

pub loop-made-preserved : goal.loop-made-preserved
loop-made-preserved g c =
    after_more c.args.table.now c.args.count c.loop-made._made c.loop-made.session c.edit.new.session c.ask-sum.new.session c.loop-made.generator.state
    c.edit.new.generator.state c.ask-sum.new.generator.state c.loop-made.sum c.ask-sum.result c.loop-made.invariant
    c.in_ok-edit.ensures.table c.in_ok-edit.ensures.text c.in_ok-edit.ensures.longer c.in_ok-edit.ensures.state
    c.ask-sum.ensures.sum c.ask-sum.ensures.small c.ask-sum.ensures.table c.ask-sum.ensures.text c.ask-sum.ensures.state

pub returns : goal.returns
returns g c =
    let done : c.loop-made._made ≡ c.args.count / 100 = omega (arith, c.loop-made-test.false, c.loop-made.auto._made-end) in
    summed_up c.args.table.now c.args.count c.loop-made._made c.loop-made.session c.loop-made.generator.state c.loop-made.sum c.len.result
    c.count_boundaries.result done c.loop-made.invariant (c.len.ensures.exact ∙ ap length c.text.ensures) c.count_boundaries.ensures
