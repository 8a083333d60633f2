-- Sets of classes, word by word and bit by bit.
use Rattle.std.proofs.Common.{◌≡◌, ℕ, ◌+◌, ◌-◌, ◌/◌, ◌%◌, ◌<◌, ◌≤◌, ◌⊎◌, false, List, length, get_or, sym, ap, ◌∙◌, ⊎_elim, arith}
use Rattle.std.proofs.lemmas.Bool.{false≢true}
use Rattle.std.proofs.lemmas.Bool.Decides.{nat_tests}
use Rattle.std.proofs.lemmas.List.{get_or_past}
use Rattle.rbbi_model.specs.Places.{has_bit}
use Rattle.rbbi_bits.proofs.WordBits.{no_bit}
use Rattle.rbbi_classes.specs.Classes.{ClassBits, word_at, class_bit, HasClass}

-- the set whose words these are
abbrev pub bits_of : ℕ → List ℕ → ClassBits
bits_of from words = record { from = from; words = words }

-- a word in front of a set's words, one of them, and one past them
pub word_at-before : (set : ClassBits) (i : ℕ) → i < set.from → word_at set i ≡ 0
word_at-before set i sooner = grind (arith, nat_tests)

pub word_at-from : (set : ClassBits) (i : ℕ) → set.from ≤ i → word_at set i ≡ get_or set.words (i - set.from) 0
word_at-from set i later = grind (arith, nat_tests)

pub word_at-past : (set : ClassBits) (i : ℕ) → set.from + length set.words ≤ i → word_at set i ≡ 0
word_at-past set i past =
    word_at-from set i (omega (arith, past)) ∙ get_or_past set.words (i - set.from) 0 (omega (arith, past))

-- a class in a place for which a set has no word
pub no_word : (set : ClassBits) (k : ℕ) → word_at set (k / 64) ≡ 0 → class_bit set k ≡ false
no_word set k none = ap (λ n. has_bit n (k % 64)) none ∙ no_bit (k % 64)

pub bit-outside : (set : ClassBits) (k : ℕ) → (k / 64 < set.from) ⊎ (set.from + length set.words ≤ k / 64) → class_bit set k ≡ false
bit-outside set k =
    ⊎_elim (λ sooner. no_word set k (word_at-before set (k / 64) sooner)) (λ past. no_word set k (word_at-past set (k / 64) past))

pub not-in_zero : (set : ClassBits) (k : ℕ) → word_at set (k / 64) ≡ 0 → ¬ HasClass set k
not-in_zero set k none = λ has. false≢true (sym (no_word set k none) ∙ has)

-- a class by a word of a row
pub bit-from : (from : ℕ) (row : List ℕ) (k : ℕ) → from ≤ k / 64 → class_bit (bits_of from row) k ≡ has_bit (get_or row (k / 64 - from) 0) (k % 64)
bit-from from row k later = ap (λ n. has_bit n (k % 64)) (word_at-from (bits_of from row) (k / 64) later)
