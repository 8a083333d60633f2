-- What a file of lines comes to is determined, and so are verdicts. The laws of the lower crates are handed in.
use Rattle.std.proofs.Common.{◌≡◌, ℕ, List, [], ◌∷◌, map, refl, ap, sym, subst, ◌∙◌}
use Rattle.std.specs.Prelude.{Result, Ok, Err}
use Rattle.rbbi_model.specs.Boundaries.{Boundary}
use Rattle.rbbi_model.specs.Scripts.{Command}
use Rattle.rbbi_script.specs.Meaning.{meaning}
use Rattle.rbbi_script.specs.Files.{ReadsScript}
use Rattle.rbbi_script.specs.Laws.{HaveOneScript}
use Rattle.rbbi_conform.specs.Tests.{Test}
use Rattle.rbbi_conform.specs.declared.verdict.Verdict.{Verdict}
use Rattle.rbbi_conform.specs.Verdicts.{IsVerdict}
use Rattle.rbbi_conform.specs.Laws.{HasOneVerdict}
use Rattle.rbbi_text.specs.declared.error.LinesErr.{LinesErr}
use Rattle.rbbi_filter.specs.Laws.{HaveOneAnswer}
use Rattle.rbbi_command.specs.declared.inputs.Input.{Input}
use Rattle.rbbi_command.specs.Stages.{followed_by, gives}
use Rattle.rbbi_tool.specs.inner.Stages.{IsDeterministic}
use Rattle.rbbi_tool.specs.Basis.{Basis, AreBoundariesBy}
use Rattle.rbbi_tool.specs.Scripts.{lines_fault, lines_stage, script_stage}
use Rattle.rbbi_tool.specs.Command.Conform.{AreVerdictsBy}
use Rattle.rbbi_tool.proofs.StageLemmas.{gives_determined, determined_both}

-- answers that are the same have the same value or the same error, and are of one kind
module _ {A E : Type 0} where
  value_of : (a b : A) → (let this : Result A E = Ok a in this) ≡ Ok b → a ≡ b
  value_of a b same = cc

  error_of : (e f : E) → (let this : Result A E = Err e in this) ≡ Err f → e ≡ f
  error_of e f same = cc

  no_error : (a : A) (e : E) → (let this : Result A E = Ok a in this) ≡ Err e → ⊥
  no_error a e same = cc

-- what a file of lines is read as is determined, where its bytes have one answer
module _ {A : Type 0} (Reads : List ℕ → Result A LinesErr → Type 0) (law : HaveOneAnswer Reads) (file : Input) where
  pub lines_determined : IsDeterministic A (lines_stage (Reads file.bytes) file.name)
  lines_determined = record {
    value = λ a b is is'. value_of a b (law file.bytes (Ok a) (Ok b) is is' (λ e. no_error _ _ e) (λ e. no_error _ _ e));
    refusal = λ r s is is'.
        let same = law file.bytes (Err is.error) (Err is'.error) is.refused is'.refused (λ e. is.not_memory (error_of _ _ e))
        (λ e. is'.not_memory (error_of _ _ e)) in
        is.is ∙ ap (lines_fault file.name) (error_of is.error is'.error same) ∙ sym is'.is;
    apart = λ a r is is'.
        no_error a is'.error (law file.bytes (Ok a) (Err is'.error) is is'.refused (λ e. no_error _ _ e) (λ e. is'.not_memory (error_of _ _ e)));
  }

  -- and so is what is made of it
  pub made_determined : {B : Type 0} (make : A → B) → IsDeterministic B (followed_by (lines_stage (Reads file.bytes) file.name) (λ a. gives (make a)))
  made_determined make =
      determined_both (lines_stage (Reads file.bytes) file.name) (λ a. gives (make a)) lines_determined (λ a. gives_determined (make a))

-- what a script comes to is determined
pub script_determined : HaveOneScript → (script : Input) → IsDeterministic (List Command) (script_stage script)
script_determined law script = made_determined ReadsScript law script (map meaning)

-- tests have one list of verdicts, where each text has one list of boundaries
pub same_verdicts : (basis : Basis)
    → ((x : List ℕ) (these those : List Boundary) → AreBoundariesBy basis x these → AreBoundariesBy basis x those → these ≡ those)
    → ((boundaries : List Boundary) (test : Test) → HasOneVerdict boundaries test)
    → (tests : List Test) (these those : List Verdict) → AreVerdictsBy basis tests these → AreVerdictsBy basis tests those → these ≡ those
same_verdicts basis boundaries law [] [] [] are are' = refl
same_verdicts basis boundaries law [] [] (w ∷ those) are are' = absurd are'
same_verdicts basis boundaries law [] (v ∷ these) those are are' = absurd are
same_verdicts basis boundaries law (test ∷ tests) [] those are are' = absurd are
same_verdicts basis boundaries law (test ∷ tests) (v ∷ these) [] are are' = absurd are'
same_verdicts basis boundaries law (test ∷ tests) (v ∷ these) (w ∷ those) ((bs, by, is), are) ((bs', by', is'), are') =
    let verdict = law bs' test v w (subst (λ (b : List Boundary). IsVerdict b test v) (boundaries test.text bs bs' by by') is) is' in
    ap (λ x. x ∷ these) verdict ∙ ap (λ rest. w ∷ rest) (same_verdicts basis boundaries law tests these those are are')
