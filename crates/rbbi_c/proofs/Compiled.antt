-- Tables that are compiled for C, and faults of the bytes of rule files.
use Rattle.std.proofs.Common.{◌≡◌, ℕ, Bool, List, [], inr, refl, subst, Result, Ok, Err, None, MatchResult}
use Rattle.std.specs.Prelude.{IsUtf8}
use Rattle.rbbi_model.specs.Tables.{Table}
use Rattle.rbbi_props.specs.Rows.{File}
use Rattle.rbbi_command.specs.declared.refusal.Place.{Place}
use Rattle.rbbi_command.specs.Refusals.{place_in}
use Rattle.rbbi_compile.specs.declared.error.CompileErr.{CompileErr}
use Rattle.rbbi_compile.specs.Errors.{label_of, place_of}
use Rattle.rbbi_compile.specs.Rules.{text_of}
use Rattle.rbbi_builtin.specs.Compiling.{HasFaultOver}
use Rattle.rbbi_c.specs.Faults.{Told}
use Rattle.rbbi_c.specs.Compiling.{HasFaultAt, IsCompiledFrom, IsNotCompiled, IsCompiledBy, IsNotCompiledBy}

-- by a handle that holds nothing there are no property files
pub by_none : (ignored : Bool) (bytes : List ℕ) (before after : Told) (result : Result Table ℕ)
    → MatchResult result (IsCompiledFrom [] ignored bytes before after) (IsNotCompiled [] ignored bytes before after)
    → MatchResult result (IsCompiledBy None ignored bytes before after) (IsNotCompiledBy None ignored bytes before after)
by_none ignored bytes before after (Ok table) made = made
by_none ignored bytes before after (Err code) refused = inr refused

-- the fault of a text is one of the bytes that spell it
pub fault_of_text : (files : List File) (ignored : Bool) (bytes x : List ℕ) (error : CompileErr) (place : Place) → IsUtf8 bytes → x ≡ text_of bytes
    → HasFaultOver files ignored x error → place ≡ place_in x (place_of error) → HasFaultAt files ignored bytes (label_of error) place
fault_of_text files ignored bytes x error place utf8 spelled has at =
    inr (
      utf8,
      error,
      subst (λ (y : List ℕ). HasFaultOver files ignored y error) spelled has,
      refl,
      subst (λ (y : List ℕ). place ≡ place_in y (place_of error)) spelled at,
    )
