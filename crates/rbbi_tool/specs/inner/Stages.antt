-- What a function answers that runs a stage; and stages that come to one thing alone.
use Rattle.std.specs.Prelude.{◌≡◌, ◌⊎◌, Result, Ok, Err}
use Rattle.rbbi_command.specs.declared.refusal.Refusal.{Refusal}
use Rattle.rbbi_command.specs.declared.refusal.Refusal.TheVariants.{Memory}
use Rattle.rbbi_command.specs.Stages.{Stage}

-- What a function answers that runs the stage, where its value is seen by this view. That memory ran out says nothing.
abbrev pub Meets : {A V : Type 0} → (V → A) → Stage A → Result V Refusal → Type 0
Meets view stage (Ok value) = stage.passes (view value)
Meets view stage (Err refusal) = (refusal ≡ Memory) ⊎ stage.refuses refusal

-- What a function answers that runs the stage, where its value is so related to the stage's. That memory ran out says nothing.
abbrev pub Serves : {A V : Type 0} → (V → A → Type 0) → Stage A → Result V Refusal → Type 0
Serves {A} related stage (Ok value) = (a : A) × stage.passes a × related value a
Serves related stage (Err refusal) = (refusal ≡ Memory) ⊎ stage.refuses refusal

-- the stage doesn't both pass and refuse, and it passes with one value and refuses in one way alone
pub record IsDeterministic (A : Type 0) (stage : Stage A) : Type 0 where
  pub value : (a b : A) → stage.passes a → stage.passes b → a ≡ b
  pub refusal : (r s : Refusal) → stage.refuses r → stage.refuses s → r ≡ s
  pub apart : (a : A) (r : Refusal) → stage.passes a → stage.refuses r → ⊥
