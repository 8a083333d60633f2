-- Whether each word is of its operand's form, told one by one.
use Rattle.std.proofs.Common.{◌≡◌, ◌<◌, ◌≤◌, ◌+◌, ℕ, List, ◌∷◌, length, drop, get_or, sym, ap, ◌∙◌, subst}
use Rattle.std.proofs.lemmas.List.{drop_more, drop_all}
use Rattle.rbbi_command.specs.declared.words.command.Operand.{Operand}
use Rattle.rbbi_command.specs.Words.{Fits, AllFit}

-- so many words are of their operands' forms
pub record AreFitTo (operands : List Operand) (words : List (List ℕ)) (i : ℕ) : Type 0 where
  pub back : AllFit (drop i operands) (drop i words) → AllFit operands words
  pub forth : AllFit operands words → AllFit (drop i operands) (drop i words)

module _ {operands : List Operand} {words : List (List ℕ)} {i : ℕ} (so_far : AreFitTo operands words i) (operand d : Operand) (word : List ℕ)
    (inside : i < length operands) (inside' : i < length words) (is : operand ≡ get_or operands i d) (is' : word ≡ get_or words i word) where
  first_left : drop i operands ≡ operand ∷ drop (i + 1) operands
  first_left = drop_more operands i d inside ∙ ap (λ o. o ∷ drop (i + 1) operands) (sym is)

  first_word : drop i words ≡ word ∷ drop (i + 1) words
  first_word = drop_more words i word inside' ∙ ap (λ w. w ∷ drop (i + 1) words) (sym is')

  taken : AllFit (drop i operands) (drop i words) → Fits operand word × AllFit (drop (i + 1) operands) (drop (i + 1) words)
  taken fit = subst (λ ws. AllFit (operand ∷ drop (i + 1) operands) ws) first_word (subst (λ os. AllFit os (drop i words)) first_left fit)

  put : Fits operand word × AllFit (drop (i + 1) operands) (drop (i + 1) words) → AllFit (drop i operands) (drop i words)
  put both =
      subst (λ os. AllFit os (drop i words)) (sym first_left) (subst (λ ws. AllFit (operand ∷ drop (i + 1) operands) ws) (sym first_word) both)

  -- this one isn't
  pub fitting_ends : ¬ Fits operand word → ¬ AllFit operands words
  fitting_ends none fit =
      let here = taken (so_far.forth fit) in
      none here.0

  -- this one is
  pub fitting_more : Fits operand word → AreFitTo operands words (i + 1)
  fitting_more here = record {
    back = λ rest. so_far.back (put (here, rest));
    forth = λ fit. let both = taken (so_far.forth fit) in both.1;
  }

-- all are
pub all_fit : (operands : List Operand) (words : List (List ℕ)) (i : ℕ) → AreFitTo operands words i → length operands ≤ i → AllFit operands words
all_fit operands words i so_far whole = so_far.back (subst (λ os. AllFit os (drop i words)) (sym (drop_all i operands whole)) tt)
