use Rattle.std.proofs.Common.{◌<◌, arith, subst, sym, ap, ◌∙◌, if◌then◌else◌}
use Rattle.rbbi_resolve.specs.inner.Summaries.{IsCapped}
use Rattle.rbbi_resolve.specs.inner.Countings.{one, slash_of, tall_of}
use Rattle.rbbi_resolve.specs.Counts.{leaves_meant}
use Rattle.rbbi_resolve.proofs.Counted.{capped_self, tall_capped}
use Rattle.rbbi_resolve.proofs.counts.Counts.add.Goals as goal

pub returns : goal.returns
returns c =
    λ rule left all at leaves height slash is.
    record {
      rule_count = c.add.ensures 4097 one rule left all (omega arith) at (capped_self 4097 1 (omega arith)) is.rule_count;
      leaf_count = c.add-2.ensures 8193 leaves_meant rule left all (omega arith) at leaves is.leaf_count;
      slash_count =
          let few : c.one_where.result < 33 = omega (arith, c.one_where.ensures.few) in
          c.add-3.ensures 33 slash_of rule left all (omega arith) at
          (subst (λ n. IsCapped 33 n c.one_where.result) (c.one_where.ensures.one ∙ ap (λ b. if b then 1 else 0) (sym slash))
          (capped_self 33 c.one_where.result few)) is.slash_count;
      tall_count =
          let few : c.one_where-2.result < 2 = omega (arith, c.one_where-2.ensures.few) in
          c.add-4.ensures 2 tall_of rule left all (omega arith) at
          (subst (λ n. IsCapped 2 n c.one_where-2.result) (c.one_where-2.ensures.one
          ∙ ap (λ b. if b then 1 else 0) (tall_capped rule.height c.args.whole.height height)) (capped_self 2 c.one_where-2.result few)) is.tall_count;
    }
