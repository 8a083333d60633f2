use Rattle.std.proofs.Common.{◌≡◌, Option, [], ◌∷◌, slice_index, sym, ◌∙◌, subst, arith}
use Rattle.std.proofs.lemmas.Grind.{get_or_default_zero}
use Rattle.rbbi_model.specs.SetTrees.{SetTree}
use Rattle.rbbi_tree.specs.Values.{statement_trees}
use Rattle.rbbi_resolve.specs.inner.Contexts.{IsWritten, files_of}
use Rattle.rbbi_resolve.specs.inner.Builders.{StandFrom}
use Rattle.rbbi_resolve.proofs.Meant.{written_stands, written_inside}
use Rattle.rbbi_resolve.proofs.build.Builder.add_set.Goals as goal
use Rattle.rbbi_resolve.proofs.build.Builder.add_set.Goals.{After-index}

pub index-requires : goal.index-requires
index-requires c =
    let inside = written_inside c.args.context.now c.args.leaves.now c.args.writer _ c.requires.ready c.requires.written.1 in
    omega (arith, c.args.leaves.now.firsts.now.ok.0)

-- the leaf stands at the statement's first number
stands : (c : After-index) (value : Option SetTree) →
    IsWritten (files_of c.args.context.now) (statement_trees c.args.context.now.statements.now) c.args.writer value →
    StandFrom c.args.context.now c.args.leaves.now c.index.result.now (value ∷ [])
stands c value written =
    let context = c.args.context.now in
    let leaves = c.args.leaves.now in
    let inside = written_inside context leaves c.args.writer value c.requires.ready written in
    let first : c.index.result.now ≡ slice_index leaves.firsts.now.items c.args.writer =
    c.index.ensures ∙ get_or_default_zero leaves.firsts.now.items c.args.writer c.index.result.now inside in
    subst (λ n. StandFrom context leaves n (value ∷ [])) (sym first) (written_stands context leaves c.args.writer value c.requires.ready written)

pub add_leaf-requires-clause-stand : goal.add_leaf-requires-clause-stand
add_leaf-requires-clause-stand c =
    (c.requires.written.0, stands (goal.at.add_leaf-requires-clause-stand c).After-index c.requires.written.0 c.requires.written.1)

pub returns-clause-added : goal.returns-clause-added
returns-clause-added c =
    λ value written. c.in_ok-add_leaf.ensures.added value (stands (goal.at.returns-clause-added c).After-index value written)
