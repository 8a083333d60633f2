-- What a sink took, over several puts.
use Rattle.std.proofs.Common.{◌≡◌, ◌+◌, ◌-◌, ◌++◌, ℕ, List, length, take, drop, ap, sym, ◌∙◌, append_assoc, take-add, Option, Some, None, Result, Ok}
use Rattle.std.proofs.Common.{refl, subst}
use Rattle.std.specs.Prelude.{option_map}
use Rattle.std.proofs.lemmas.List.{take_rest}
use Rattle.rbbi_io.specs.declared.error.WriteErr.{WriteErr}
use Rattle.rbbi_io.specs.Puts as puts
use Rattle.rbbi_io.specs.Puts.{ArePut}
use Rattle.rbbi_io.specs.Sinks.{Takes}

option_map-append : (taken : Option (List ℕ)) (xs ys : List ℕ) → option_map (λ t. t ++ ys) (option_map (λ t. t ++ xs) taken) ≡ option_map
    (λ t. t ++ (xs ++ ys)) taken
option_map-append None xs ys = refl
option_map-append (Some t) xs ys = ap Some (append_assoc t xs ys)

-- what was taken in two steps
pub Takes-both : (before between now : Option (List ℕ)) (xs ys : List ℕ) → Takes before between xs → Takes between now ys → Takes before now (xs ++ ys)
Takes-both before between now xs ys first second =
    second ∙ ap (option_map (λ t. t ++ ys)) first ∙ option_map-append before xs ys

-- a front of the bytes, and then a front of the rest
pub Takes-more : (before between now : Option (List ℕ)) (bytes : List ℕ) (at n : ℕ) → Takes before between (take at bytes) →
    Takes between now (take n (take (length bytes - at) (drop at bytes))) → Takes before now (take (at + n) bytes)
Takes-more before between now bytes at n first second =
    Takes-both before between now (take at bytes) (take n (take (length bytes - at) (drop at bytes))) first second
    ∙ ap (λ rest. option_map (λ t. t ++ (take at bytes ++ take n rest)) before) (take_rest bytes at)
    ∙ ap (λ front. option_map (λ t. t ++ front) before) (sym (take-add at n bytes))

-- one put more, of the rest of the bytes
pub ArePut-more : {S : Type 0} (gives : S → List ℕ → Result ℕ WriteErr → S → Type 0) (bytes : List ℕ) (before between now : S) (at n : ℕ) →
    ArePut gives bytes before at between → gives between (take (length bytes - at) (drop at bytes)) (Ok n) now → ArePut gives bytes before (at + n) now
ArePut-more gives bytes before between now at n earlier put =
    puts.OneMore at n between now earlier (subst (λ rest. gives between rest (Ok n) now) (take_rest bytes at) put)
