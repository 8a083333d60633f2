-- The hash of a list of words.
use Rattle.std.specs.Prelude.{ℕ, ◌*◌, ◌/◌, ◌%◌, ◌^◌, List}
use Rattle.std.specs.List.{fold}
use Rattle.std.specs.Int.RustNames.{bit_xor}

-- the upper half of a word folded upon the lower one
abbrev pub folded : ℕ → ℕ
folded product = bit_xor product (product / 2 ^ 32)

-- the hash with one word more, and that of all
abbrev pub mixed_with : ℕ → ℕ → ℕ
mixed_with hash word = folded (bit_xor hash word * 0x9E3779B97F4A7C15 % 2 ^ 64)

abbrev pub hash_upon : List ℕ → ℕ
hash_upon words = fold mixed_with 0 words
