use Rattle.std.proofs.Common.{◌≡◌, [], ◌∷◌, ◌++◌, chars, sym, subst, arith}
use Rattle.std.specs.List.{All}
use Rattle.std.proofs.lemmas.List.Elements.{All-push}
use Rattle.std.proofs.lemmas.Grind.{common_steps}
use Rattle.rbbi_lint.specs.declared.piece.Piece.{Piece}
use Rattle.rbbi_lint.specs.Effects.{ChangesNothing}
use Rattle.rbbi_lint.proofs.findings.add_if_idle.Goals as goal

pub returns : goal.returns
returns c =
    let P : Piece → Type 0 = ChangesNothing c.args.props.now c.args.ignored (chars c.args.text.now) c.args.table.now in
    let items : c.push.new.self.items ≡ c.args.idle.now.items ++ c.args.piece ∷ [] = grind (arith, common_steps) in
    λ all. subst (All P) (sym items) (All-push P c.args.idle.now.items c.args.piece all (rw c.in-Nothing.is at c.in_ok-effect.ensures))
