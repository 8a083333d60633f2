use Rattle.std.proofs.Common.{List, ℕ, [], ◌∷◌, ◌++◌, ◌∙◌, ap, sym, subst}
use Rattle.rbbi_io.specs.inner.Memory.{IsIndexOf, IsAbsent}
use Rattle.rbbi_io.proofs.NamedFiles.{set-place, with_file-absent}
use Rattle.rbbi_io.proofs.named_files.store.Goals as goal

-- in the place of an older file
pub returns-in-Some-clause-ok : goal.returns-in-Some-clause-ok
returns-in-Some-clause-ok c =
    let files = c.args.files.now.items in
    let name = c.args.name.now in
    let bytes = c.args.bytes.items in
    let place = c.in-Some.place in
    let at : IsIndexOf files name place = subst (λ (fs : List (List ℕ × List ℕ)). IsIndexOf fs name place) c.as_slice.ensures.value c.in-Some.ensures in
    set-place files name bytes place c.index_mut.result.now c.replace.new.self at c.index_mut.ensures.value c.replace.ensures

-- at the end
pub returns-in_ok-push-in-None-clause-ok : goal.returns-in_ok-push-in-None-clause-ok
returns-in_ok-push-in-None-clause-ok c =
    let files = c.args.files.now.items in
    let name = c.args.name.now in
    let bytes = c.args.bytes.items in
    let absent : IsAbsent files name = subst (λ (fs : List (List ℕ × List ℕ)). IsAbsent fs name) c.as_slice.ensures.value c.in-None.ensures in
    c.in_ok-push-in-None.ensures.items
    ∙ ap (λ (n : List ℕ). files ++ (n, bytes) ∷ []) c.in_ok-name-in-None.ensures.ok
    ∙ sym (with_file-absent files name bytes absent)
