use Rattle.std.proofs.Common.{◌≡◌, ◌+◌, ◌%◌, length, ap, ◌∙◌}
use Rattle.std.specs.Prelude.{unwrap_or}
use Rattle.rbbi_session.specs.Sessions.{boundaries_of}
use Rattle.rbbi_demo.specs.Generator.{drawn}
use Rattle.rbbi_demo.specs.Edits.{places_sum}
use Rattle.rbbi_demo.proofs.Editing.{sum_is}
use Rattle.rbbi_demo.proofs.edit.ask.Goals as goal

pub returns-clause-sum : goal.returns-clause-sum
returns-clause-sum g c =
    let sum = sum_is c.args.session.now c.following.new.self c.preceding.new.self c.below-place.result c.following.result c.preceding.result
    c.following.ensures.answers c.preceding.ensures.answers in
    let place : c.below-place.result ≡ drawn c.args.generator.now.state 1 % (length c.args.session.now.state.text + 1) =
    c.below-place.ensures.number ∙ ap (λ n. drawn c.args.generator.now.state 1 % (n + 1)) (c.len.ensures.exact ∙ ap length c.text.ensures) in
    let after : c.from.result ≡ unwrap_or c.following.result 0 = c.from.ensures ∙ c.unwrap_or-after.ensures in
    let before : c.from-2.result ≡ unwrap_or c.preceding.result 0 = c.from-2.ensures ∙ c.unwrap_or-before.ensures in
    ap (λ n. n + c.from-2.result) after ∙ ap (λ n. unwrap_or c.following.result 0 + n) before
    ∙ sum ∙ ap (places_sum (boundaries_of c.args.session.now)) place
