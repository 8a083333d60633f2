-- What is merged of a minimised automaton is its least table.
use Rattle.std.proofs.Common.{◌*◌, ℕ, List, length, ap, sym, ◌∙◌, arith}
use Rattle.rbbi_model.specs.Tables.{Table}
use Rattle.rbbi_model.specs.ValidTables.{AreValidLists}
use Rattle.rbbi_dfa.specs.inner.Automata.{IsDetermined}
use Rattle.rbbi_dfa.specs.inner.Partitions.{IsMinimized, IsMerged}
use Rattle.rbbi_dfa.specs.inner.LeastTables.{IsLeastOf}
use Rattle.rbbi_dfa.proofs.Merged.{merged_IsLeast, merged_AreValidRows, merged_AreFronted, marks_from_start}
use Rattle.rbbi_dfa.proofs.Needed.{NeedsRows-at_most}

pub IsLeastOf-merged : (automaton table : Table) (classes firsts : List ℕ) → IsDetermined automaton → IsMinimized automaton classes firsts →
    IsMerged automaton classes firsts table → IsLeastOf automaton table
IsLeastOf-merged automaton table classes firsts determined minimized merged =
    let partition = minimized.partition in
    let stable = minimized.stable in
    let valid : AreValidLists table.lists = record {
      some = omega (arith, merged.list 0 (omega (arith, partition.some)));
      few = omega (arith, merged.few_lists, minimized.few);
      each = merged.valid;
      first = merged.first_list;
      in_order = merged.in_order;
    } in
    record {
      categories = merged.categories;
      slashes = merged.slashes;
      cells = merged.cells ∙ ap (λ n. n * automaton.categories) (sym merged.rows) ∙ ap (λ n. length table.rows * n) (sym merged.categories);
      lists = valid;
      rows = merged_AreValidRows automaton table classes firsts determined partition merged stable minimized.few;
      fronts = merged_AreFronted automaton table classes firsts determined partition merged stable;
      least = merged_IsLeast automaton table classes firsts determined partition merged stable;
      marks = λ way h. marks_from_start automaton table classes firsts determined partition merged stable way h;
      enough = λ needs. absurd (omega (arith, NeedsRows-at_most automaton classes firsts determined partition stable 4095 needs, minimized.few));
    }
