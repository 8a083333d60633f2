-- Where boundaries part and where they meet again make the least range that an edit changed.
use Rattle.std.proofs.Common.{◌≡◌, ℕ, ◌+◌, ◌-◌, List, ⊎_elim, arith}
use Rattle.std.proofs.lemmas.Bool.{cases_lt}
use Rattle.rbbi_model.specs.Tables.{Table}
use Rattle.rbbi_model.specs.Searches.{table_boundaries}
use Rattle.rbbi_change.specs.Changes.{IsLeastChange}
use Rattle.rbbi_change.specs.inner.Parting.{ArePartedAt, IsLastChange}
use Rattle.rbbi_change.specs.declared.change.Edit.{Edit}
use Rattle.rbbi_change.specs.declared.change.Change.{Change}
use Rattle.rbbi_change.specs.declared.part.Parting.{Parting}

pub least_of : (table : Table) (x y : List ℕ) (edit : Edit) (parting : Parting) (last : ℕ) (change : Change) → ArePartedAt table x y edit.at parting →
    IsLastChange table x y edit last → change.from ≡ parting.from → change.old_to ≡ last → change.new_to ≡ last + edit.inserted - edit.removed →
    IsLeastChange edit (table_boundaries table x) (table_boundaries table y) change
least_of table x y edit parting last change parted met from_is old_to_is new_to_is =
    let up_to = parted.up_to in
    let behind = met.behind in
    record {
      outside =
          record {
            begins = omega arith;
            ends = omega arith;
            ends_new = omega arith;
            before = λ p less. parted.same p (omega arith);
            behind = λ p past. met.same p (omega arith);
          };
      least = λ other stays.
          let begins = stays.begins in
          let ends = stays.ends in (
            ⊎_elim
                (λ at_edit. omega arith)
                (λ apart.
                ⊎_elim (λ inside. absurd (apart (stays.before parting.from inside))) (λ up_to. omega arith) (cases_lt parting.from other.from))
                parted.differ,
            ⊎_elim
                (λ at_end. omega arith)
                (λ apart. ⊎_elim (λ inside. absurd (apart (stays.behind last inside))) (λ from. omega arith) (cases_lt other.old_to last))
                met.differ,
          );
    }
