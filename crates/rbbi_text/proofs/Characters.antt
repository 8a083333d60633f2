-- The characters of UTF-8 are a text.
use Rattle.std.proofs.Common.{◌≡◌, ℕ, ◌<◌, ◌≤◌, true, List, [], ◌∷◌, arith, ⊎_elim}
use Rattle.std.proofs.lemmas.Bool.{and_parts}
use Rattle.std.specs.Prelude.{IsUtf8, chars}
use Rattle.std.specs.Str.{all_scalars}
use Rattle.std.proofs.Math.Utf8.{scalar, scalar_cases}
use Rattle.std.proofs.lemmas.Str.{scalars-chars}
use Rattle.rbbi_model.specs.Words.{IsCharacter, IsText}

pub IsCharacter-from_scalar : (c : ℕ) → scalar c ≡ true → IsCharacter c
IsCharacter-from_scalar c e =
    ⊎_elim
    (λ (h : c < 55296). (omega arith, λ s. omega (arith, s.0)))
    (λ (h : (57344 ≤ c) × (c < 1114112)). (omega (arith, h.1), λ s. omega (arith, s.1, h.0)))
    (scalar_cases c e)

-- scalar values are a text
pub IsText-from_scalars : (cs : List ℕ) → all_scalars cs ≡ true → IsText cs
IsText-from_scalars [] e = tt
IsText-from_scalars (c ∷ cs) e =
    let h = and_parts (scalar c) (all_scalars cs) e in (IsCharacter-from_scalar c h.0, IsText-from_scalars cs h.1)

-- what UTF-8 spells is a text
pub IsText-chars : (bytes : List ℕ) → IsUtf8 bytes → IsText (chars bytes)
IsText-chars bytes u = IsText-from_scalars (chars bytes) (scalars-chars bytes u)
