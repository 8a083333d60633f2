-- The names of the refusals of an edit whose places count a unit.
use Rattle.std.specs.Prelude.{ℕ, List, codes}
use Rattle.rbbi_session.specs.declared.unit_error.UnitEditErr.{UnitEditErr}
use Rattle.rbbi_session.specs.declared.unit_error.UnitEditErr.TheVariants.{Outside, Inside, TooLong, Memory}

-- the name of the variant
abbrev pub unit_edit_err_label : UnitEditErr → List ℕ
unit_edit_err_label Outside = codes "Outside"
unit_edit_err_label Inside = codes "Inside"
unit_edit_err_label TooLong = codes "TooLong"
unit_edit_err_label Memory = codes "Memory"
