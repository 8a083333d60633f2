-- The runs of a table have the values by which a set is defined.
use Rattle.std.proofs.Common.{◌≡◌, ℕ, ap, ◌∙◌}
use Rattle.std.proofs.lemmas.Result.{IfOk-weaker}
use Rattle.unicode.specs.GeneralCategory.{general_category}
use Rattle.unicode.specs.Sets.{in_set}
use Rattle.unicode.specs.Steps.{is_between}
use Rattle.ucd_category.proofs.GeneralCategoryGroupLemmas.{in_group-group_bounds}
use Rattle.ucd_table.proofs.RunsLemmas.{is_between-one_if, is_between-same}
use Rattle.rbbi_props.proofs.ReadRuns.{Has-along}
use Rattle.rbbi_props.proofs.single.set_of.Goals as goal

-- a value between two bounds, which are equal to others as it is to another value
between-along : (first last value low high other : ℕ) → first ≡ low → last ≡ high → value ≡ other → is_between first last value ≡ is_between low high other
between-along first last value low high other f l v = cc

pub returns-in-Binary-clause-members : goal.returns-in-Binary-clause-members
unfolding in_set
returns-in-Binary-clause-members c =
    rw c.in-Binary.is (IfOk-weaker c.set_of_runs.result _ _
    (λ found members x le. Has-along found x _ _ (members x le) (ap (is_between 1 1) (c.runs.ensures.values x le) ∙ is_between-one_if _))
    c.set_of_runs.ensures.members)

pub returns-in-Category-clause-members : goal.returns-in-Category-clause-members
unfolding in_set
returns-in-Category-clause-members c =
    let number = c.number-number.ensures in
    rw c.in-Category.is (IfOk-weaker c.set_of_runs-in-Category.result _ _
    (λ found members x le.
    Has-along found x _ _ (members x le)
    (between-along _ _ _ _ _ _ number number (c.runs-in-Category.ensures.values x le) ∙ is_between-same _ _))
    c.set_of_runs-in-Category.ensures.members)

pub returns-in-CategoryGroup-clause-members : goal.returns-in-CategoryGroup-clause-members
unfolding in_set
returns-in-CategoryGroup-clause-members c =
    let bounds = c.bounds-first.ensures in
    rw c.in-CategoryGroup.is (IfOk-weaker c.set_of_runs-in-CategoryGroup.result _ _
    (λ found members x le.
    Has-along found x _ _ (members x le)
    (between-along _ _ _ _ _ _ (ap (λ b. b.0) bounds) (ap (λ b. b.1) bounds) (c.runs-in-CategoryGroup.ensures.values x le)
    ∙ in_group-group_bounds c.in-CategoryGroup.group (general_category x)))
    c.set_of_runs-in-CategoryGroup.ensures.members)

pub returns-in-Script-clause-members : goal.returns-in-Script-clause-members
unfolding in_set
returns-in-Script-clause-members c =
    let number = c.number-number-in-Script.ensures in
    rw c.in-Script.is (IfOk-weaker c.set_of_runs-in-Script.result _ _
    (λ found members x le.
    Has-along found x _ _ (members x le)
    (between-along _ _ _ _ _ _ number number (c.runs-in-Script.ensures.values x le) ∙ is_between-same _ _))
    c.set_of_runs-in-Script.ensures.members)
