use Rattle.std.proofs.Common.{◌≡◌, ◌≢◌, ◌<◌, ◌⊎◌, ◌++◌, ◌∷◌, ℕ, [], Vec, Global, length, ap, sym, ◌∙◌, inl, inr, ⊎_elim, arith}
use Rattle.std.proofs.lemmas.List.{get_or_read, length_push}
use Rattle.rbbi_canon.proofs.ColumnsKept.{kept_length, column_more}
use Rattle.rbbi_canon.proofs.columns.add_column.Goals as goal
use Rattle.rbbi_canon.proofs.columns.add_column.Goals.{then-number-len+in_ok-push, else-number-len}

pub returns : goal.returns
returns c =
    let category = c.args.category in
    let kept = c.args.kept.now in
    let firsts = c.args.firsts.now.items in
    let found = c.args.found.now.items in
    let column = c.read_column.new.column in
    let firsts' = c.if-number-len.firsts.items in
    let number = c.in-Some.number in
    let rows = c.number_of.ensures.rows in
    let listed = rw c.in-Some.is at c.in_ok-number.ensures.number in
    let len : c.len.result ≡ length firsts = omega (arith, c.len.ensures, c.args.firsts.now.ok.0) in
    let either : ((number ≡ length firsts) × (firsts' ≡ firsts ++ category ∷ [])) ⊎ ((number ≢ length firsts) × (firsts' ≡ firsts)) =
    elim c.if-number-len.branch [
      | then-number-len+in_ok-push w ↦ inl (w.if-number-len.true ∙ len, ap (λ (v : Vec ℕ Global). v.items) w.firsts-is ∙ w.in_ok-push.ensures.items)
      | else-number-len w ↦ inr (λ same. w.if-number-len.false (same ∙ sym len), ap (λ (v : Vec ℕ Global). v.items) w.firsts-is)
    ] in
    let short : number < length firsts' =
    ⊎_elim (λ new. omega (arith, new.0, ap length new.1, length_push firsts category))
    (λ known. omega (arith, known.0, ap length known.1, listed.1, kept_length kept column c.number_of.new.self rows, c.requires.kept.many))
    either in
    column_more c.args.grid.now category kept firsts found column c.requires.kept c.requires.category c.read_column.ensures
    c.number_of.new.self number firsts' c.push-2.new.self.items rows listed.1 listed.2 either
    (c.in_ok-push-2.ensures.items ∙ ap (λ n. found ++ n ∷ []) (get_or_read firsts' number c.index.result.now short c.index.ensures 0))
