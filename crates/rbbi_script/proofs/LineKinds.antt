-- Lines that begin with different words write different commands.
use Rattle.std.proofs.Common.{◌≡◌, ℕ, zero, suc, ◌<◌, List, [], ◌++◌, refl, ap, sym, subst, ◌∙◌, if◌then◌else◌, arith}
use Rattle.std.specs.Prelude.{nat_eq, codes}
use Rattle.std.specs.List.{starts_with}
use Rattle.rbbi_model.specs.Answers.{Question, First, Last, Next, Previous, Following, Preceding, IsBoundary, Current, Status, Statuses, Breaks}
use Rattle.rbbi_script.specs.Grammar.{IsNumbered, WritesQuestion}

-- the number of the word with a space behind it that begins the line, or 0
abbrev pub kind : List ℕ → ℕ
kind line =
    if starts_with nat_eq line (codes "following ") then 1
    else (if starts_with nat_eq line (codes "preceding ") then 2
    else (if starts_with nat_eq line (codes "is ") then 3
    else (if starts_with nat_eq line (codes "insert ") then 4
    else (if starts_with nat_eq line (codes "delete ") then 5
    else (if starts_with nat_eq line (codes "replace ") then 6 else 0)))))

-- the word of a question with a number
abbrev pub word_of : ℕ → List ℕ
word_of zero = []
word_of (suc zero) = codes "following "
word_of (suc (suc zero)) = codes "preceding "
word_of (suc (suc (suc k))) = codes "is "

-- a line of this kind asks no question but one with its word and a number
pub asks_none : (line : List ℕ) (k : ℕ) → 0 < k → kind line ≡ k → ((n : ℕ) → ¬ IsNumbered line (word_of k) n) → (question : Question) →
    ¬ WritesQuestion line question
asks_none line k l e none First h = let z = ap kind h in omega arith
asks_none line k l e none Last h = let z = ap kind h in omega arith
asks_none line k l e none Next h = let z = ap kind h in omega arith
asks_none line k l e none Previous h = let z = ap kind h in omega arith
asks_none line k l e none (Following n) h = none n (subst (λ j. IsNumbered line (word_of j) n) (sym (ap kind h.spelled) ∙ e) h)
asks_none line k l e none (Preceding n) h = none n (subst (λ j. IsNumbered line (word_of j) n) (sym (ap kind h.spelled) ∙ e) h)
asks_none line k l e none (IsBoundary n) h = none n (subst (λ j. IsNumbered line (word_of j) n) (sym (ap kind h.spelled) ∙ e) h)
asks_none line k l e none Current h = let z = ap kind h in omega arith
asks_none line k l e none Status h = let z = ap kind h in omega arith
asks_none line k l e none Statuses h = let z = ap kind h in omega arith
asks_none line k l e none Breaks h = let z = ap kind h in omega arith

-- a line of an edit asks nothing
pub asks_no_edit : (line : List ℕ) (k : ℕ) → 3 < k → kind line ≡ k → (question : Question) → ¬ WritesQuestion line question
asks_no_edit line k l e question = asks_none line k (omega arith) e (λ n h. absurd (none n h)) question
  where
    word_is : (j : ℕ) → 3 < j → word_of j ≡ codes "is "
    word_is (suc (suc (suc (suc j)))) l = refl
    word_is (suc (suc (suc zero))) l = absurd (omega arith)
    word_is (suc (suc zero)) l = absurd (omega arith)
    word_is (suc zero) l = absurd (omega arith)
    word_is zero l = absurd (omega arith)

    none : (n : ℕ) → IsNumbered line (word_of k) n → ⊥
    none n h =
        let z = ap kind (h.spelled ∙ ap (λ w. w ++ h.digits) (word_is k l)) in omega arith
