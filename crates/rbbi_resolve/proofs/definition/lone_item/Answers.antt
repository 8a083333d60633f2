use Rattle.std.proofs.Common.{◌≡◌, Option, inl, inr, length, sym, ap, ◌∙◌, rules}
use Rattle.rbbi_model.specs.SetTrees.{SetTree}
use Rattle.rbbi_tree.specs.Trees.{alternative, no_alternatives, item, placed, no_items}
use Rattle.rbbi_tree.specs.Values.{atom_tree}
use Rattle.rbbi_tree.specs.declared.syntax.Atom.TheViews.{out-Expr, out-Seq}
use Rattle.rbbi_tree.specs.declared.syntax.Quant.{Quant}
use Rattle.rbbi_resolve.specs.Expressions.{set_of_expr, set_of_item}
use Rattle.rbbi_resolve.proofs.Lone.{not_lone_sequence, lone_sequence, not_lone_item, lone_item}
use Rattle.rbbi_resolve.proofs.definition.lone_item.Goals as goal

pub returns-then-len-ne1-clause-none : goal.returns-then-len-ne1-clause-none
returns-then-len-ne1-clause-none c =
    let len : c.len.result ≡ length (out-Expr c.args.expr.now).items.items = search rules in
    λ k. not_lone_sequence k c.args.expr.now (λ one. c.if-len-ne1.true (len ∙ one))

pub returns-then-len-ne1-2-clause-none : goal.returns-then-len-ne1-2-clause-none
returns-then-len-ne1-2-clause-none c =
    let len : c.len.result ≡ length (out-Expr c.args.expr.now).items.items = search rules in
    let len2 : c.len-2.result ≡ length (out-Seq c.index-seq.result.now).items.items = search rules in
    let is = lone_sequence c.args.expr.now c.index-seq.result.now (sym len ∙ c.if-len-ne1.false) c.index-seq.ensures in
    λ k. not_lone_item k c.args.expr.now c.index-seq.result.now is (λ one. c.if-len-ne1-2.true (len2 ∙ one))

pub returns-in-Once-clause-lone : goal.returns-in-Once-clause-lone
returns-in-Once-clause-lone c =
    let len : c.len.result ≡ length (out-Expr c.args.expr.now).items.items = search rules in
    let len2 : c.len-2.result ≡ length (out-Seq c.index-seq.result.now).items.items = search rules in
    let is = lone_sequence c.args.expr.now c.index-seq.result.now (sym len ∙ c.if-len-ne1.false) c.index-seq.ensures in
    lone_item c.args.expr.now c.index-seq.result.now c.index-item.result.now is (sym len2 ∙ c.if-len-ne1-2.false) c.index-item.ensures
    ∙ ap (λ q. alternative (item (placed c.index-item.result.now.place (atom_tree c.index-item.result.now.atom) q) no_items) no_alternatives) c.in-Once.is

pub returns-in-Star : goal.returns-in-Star
returns-in-Star c =
    let len : c.len.result ≡ length (out-Expr c.args.expr.now).items.items = search rules in
    let len2 : c.len-2.result ≡ length (out-Seq c.index-seq.result.now).items.items = search rules in
    let is = lone_sequence c.args.expr.now c.index-seq.result.now (sym len ∙ c.if-len-ne1.false) c.index-seq.ensures in
    let whole = lone_item c.args.expr.now c.index-seq.result.now c.index-item.result.now is (sym len2 ∙ c.if-len-ne1-2.false) c.index-item.ensures in
    record {
      lone = tt;
      none = λ k.
          let of : Quant → Option (Option SetTree) = λ q. set_of_item k (placed c.index-item.result.now.place (atom_tree c.index-item.result.now.atom) q) in
          ap (set_of_expr k) whole ∙ elim c.in-Star.is [ inl star ↦ ap of star | inr others ↦ elim others [ inl plus ↦ ap of plus | inr quest ↦ ap of quest ] ];
    }
