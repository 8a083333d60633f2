use Rattle.std.proofs.Common.{ℕ, ◌-◌, List, length-take, length-drop, take, drop, subst, arith}
use Rattle.rbbi_model.specs.Units.{size_of}
use Rattle.rbbi_text.specs.Excerpts.{Excerpt}
use Rattle.rbbi_text.specs.Weighed.{IsSingle}
use Rattle.rbbi_text.proofs.MilestoneLemmas.{sum_parts}
use Rattle.rbbi_text.proofs.excerpt.Excerpt.are_single.Goals as goal

pub returns : goal.returns
returns c =
    λ single.
    let x : List ℕ = c.args.self.now.items in
    let parts = sum_parts (size_of c.args.unit) x c.args.from c.args.to c.requires.forward in
    let some : List ℕ = take (c.args.to - c.args.from) (drop c.args.from x) in
    let ones : IsSingle c.args.unit some =
    subst (λ (e : Excerpt). IsSingle c.args.unit (take (c.args.to - c.args.from) (drop c.args.from e.items))) c.self.view_is (c.are_single.ensures single) in
    omega (arith, parts, ones, length-take (c.args.to - c.args.from) (drop c.args.from x), length-drop c.args.from x, c.requires.within)
