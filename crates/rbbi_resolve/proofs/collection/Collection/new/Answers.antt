use Rattle.std.proofs.Common.{◌≡◌, ℕ, replicate, sym, ap, ◌∙◌, rules, length}
use Rattle.std.proofs.lemmas.Bool.{false≢true}
use Rattle.std.proofs.lemmas.List.{length-replicate}
use Rattle.std.specs.HashMap.{values}
use Rattle.std.specs.List.{All}
use Rattle.rbbi_bits.proofs.Rows.{blank}
use Rattle.rbbi_resolve.specs.inner.Covered.{IsBasedAnswer}
use Rattle.rbbi_resolve.proofs.collection.Collection.new.Goals as goal

pub returns : goal.returns
returns c =
    λ files.
    let zeros : c.in_ok-vec.field-0.items ≡ replicate 17408 0 = c.in_ok-vec.ensures.items_if_clones_equal (λ y e. search rules) in
    let none : All (IsBasedAnswer files c.new.result.items) (values c.new-2.result) = search rules in
    record {
      answers = none;
      singled = record {
        long = ap length zeros ∙ length-replicate {A = ℕ} 17408 0;
        each = λ d h. absurd (false≢true (sym (blank c.in_ok-vec.field-0.items 17408 d zeros) ∙ h));
      };
    }
