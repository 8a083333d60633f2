-- The list of the files that a request names to be read.
use Rattle.std.proofs.Common.{◌≡◌, ◌<◌, ◌+◌, ℕ, List, ◌∷◌, ◌++◌, length, drop, get_or, sym, ap, ◌∙◌, append_assoc}
use Rattle.std.proofs.lemmas.List.{drop_more}
use Rattle.rbbi_command.specs.declared.words.command.Operand.{Operand}
use Rattle.rbbi_command.specs.declared.files.Source.{Source}
use Rattle.rbbi_command.specs.Files.{operand_source, operand_sources}

-- what is left of the operands, of which the first is next
operands_turn : (operands : List Operand) (names : List (List ℕ)) (i : ℕ) (operand d : Operand) (name : List ℕ) → i < length operands → i < length names
    → operand ≡ get_or operands i d → name ≡ get_or names i name
    → operand_sources (drop i operands) (drop i names) ≡ operand_source operand name ++ operand_sources (drop (i + 1) operands) (drop (i + 1) names)
operands_turn operands names i operand d name inside inside' is is' =
    ap (λ os. operand_sources os (drop i names)) (drop_more operands i d inside)
    ∙ ap (λ ns. operand_sources (get_or operands i d ∷ drop (i + 1) operands) ns) (drop_more names i name inside')
    ∙ ap (λ o. operand_source o (get_or names i name) ++ operand_sources (drop (i + 1) operands) (drop (i + 1) names)) (sym is)
    ∙ ap (λ n. operand_source operand n ++ operand_sources (drop (i + 1) operands) (drop (i + 1) names)) (sym is')

-- the file of one operand more
pub operands_more : (operands : List Operand) (names : List (List ℕ)) (so_far after all : List Source) (i : ℕ) (operand d : Operand) (name : List ℕ)
    → i < length operands → i < length names → operand ≡ get_or operands i d → name ≡ get_or names i name
    → after ≡ so_far ++ operand_source operand name → so_far ++ operand_sources (drop i operands) (drop i names) ≡ all
    → after ++ operand_sources (drop (i + 1) operands) (drop (i + 1) names) ≡ all
operands_more operands names so_far after all i operand d name inside inside' is is' pushed invariant =
    let rest : List Source = operand_sources (drop (i + 1) operands) (drop (i + 1) names) in
    ap (λ w. w ++ rest) pushed ∙ append_assoc so_far (operand_source operand name) rest
    ∙ ap (λ w. so_far ++ w) (sym (operands_turn operands names i operand d name inside inside' is is')) ∙ invariant
