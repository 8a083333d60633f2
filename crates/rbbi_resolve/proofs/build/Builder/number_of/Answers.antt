use Rattle.std.proofs.Common.{◌≡◌, ◌<◌, Some, ◌∷◌, [], ◌++◌, length, slice_get, set, ap, ◌∙◌, subst, arith, rules}
use Rattle.std.proofs.lemmas.Option.{slice_get_read}
use Rattle.rbbi_resolve.specs.inner.Contexts.{division_of}
use Rattle.rbbi_resolve.specs.inner.OwnLeaves.{IsLawfulRow}
use Rattle.rbbi_resolve.proofs.Building.{get_at, set_added, lawful_inside}
use Rattle.rbbi_resolve.proofs.build.Builder.number_of.Goals as goal
use Rattle.rbbi_resolve.proofs.build.Builder.number_of.Goals.{In_ok-push}

-- the row of the leaf
row_at : (c : In_ok-push) → slice_get c.args.leaves.now.rows.now.items c.args.place ≡ Some (Some c.in-Some-index.row)
row_at c =
    let rows = c.args.leaves.now.rows.now.items in
    slice_get_read rows (length rows) c.args.place c.index-2.result.now (λ i. length rows)
    (lawful_inside (division_of c.args.context.now) rows c.args.place c.requires.row) c.index-2.ensures ∙ ap Some c.in-Some-index.is

-- it is the last one now
rows_are : (c : In_ok-push) → c.push.new.self.items ≡ c.args.self.now.rows.items ++ c.in-Some-index.row ∷ []
rows_are c =
    let copy : c.in_ok-clone.field-0 ≡ c.in-Some-index.row = search rules in
    c.in_ok-push.ensures.items ∙ ap (λ row. c.args.self.now.rows.items ++ row ∷ []) copy

pub returns-clause-on : goal.returns-clause-on
returns-clause-on c =
    let here = (goal.at.returns-clause-on c).In_ok-push in
    let self = c.args.self.now in
    let last : c.len-number.result ≡ length self.rows.items = omega (arith, c.len-number.ensures, self.rows.ok.0) in
    let few : length self.rows.items < 4294967295 = let test = c.if-len-ge-MOST_SETS.false in omega (arith, c.len.ensures, self.rows.ok.0) in
    set_added c.args.context.now c.args.leaves.now self _ c.args.place c.in-Some-index.row c.requires.builder (row_at here)
    (subst (IsLawfulRow (division_of c.args.context.now)) (row_at here) c.requires.row) few (rows_are here)
    (ap (λ n. set self.numbers.items c.args.place (Some n)) last)

pub returns-clause-number : goal.returns-clause-number
returns-clause-number c =
    let here = (goal.at.returns-clause-number c).In_ok-push in
    let old = c.args.self.now.rows.items in
    let last : length old ≡ c.len-number.result = omega (arith, c.len-number.ensures, c.args.self.now.rows.ok.0) in
    λ row there.
    let at = row_at here in
    let same : Some c.in-Some-index.row ≡ Some row = cc in
    ap (λ xs. slice_get xs c.len-number.result) (rows_are here) ∙ get_at old c.in-Some-index.row [] c.len-number.result last ∙ same
