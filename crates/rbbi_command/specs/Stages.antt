-- A stage of a run passes with a value, or refuses. Of consecutive stages the first that refuses decides.
use Rattle.std.specs.Prelude.{◌≡◌, ◌⊎◌}
use Rattle.rbbi_command.specs.declared.refusal.Refusal.{Refusal}

-- with which values the stage passes, and how it refuses
pub record Stage (A : Type 0) : Type 1 where
  pub passes : A → Type 0
  pub refuses : Refusal → Type 0

-- one stage, and then the next, which knows the value of the first
abbrev pub followed_by : {A B : Type 0} → Stage A → (A → Stage B) → Stage B
followed_by {A} {B} first next = record {
  passes = λ b. (a : A) × first.passes a × (next a).passes b;
  refuses = λ refusal. first.refuses refusal ⊎ ((a : A) × first.passes a × (next a).refuses refusal);
}

-- the stage passes with such values, and never refuses
abbrev pub passing : {A : Type 0} → (A → Type 0) → Stage A
passing P = record { passes = P; refuses = λ _. ⊥ }

-- the stage passes with this value alone, and never refuses
abbrev pub gives : {A : Type 0} → A → Stage A
gives {A} a = record { passes = λ b. b ≡ a; refuses = λ _. ⊥ }
