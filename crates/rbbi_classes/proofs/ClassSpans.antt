-- The words of classes that follow one another.
use Rattle.std.proofs.Common.{◌≡◌, ℕ, ◌+◌, ◌-◌, ◌*◌, ◌/◌, ◌%◌, ◌^◌, ◌<◌, ◌≤◌, ◌↔◌, List, length, get_or, set, min, replicate, sym, ap, ◌∙◌, subst}
use Rattle.std.proofs.Common.{⊎_elim, arith, length-set}
use Rattle.std.specs.Int.{bit_at}
use Rattle.std.specs.Prelude.{bit_and}
use Rattle.std.proofs.lemmas.Bool.{cases_lt, cases_eq}
use Rattle.std.proofs.lemmas.List.{get_or-set_same, get_or-set_other, get_or-replicate, length-replicate, get_or_default}
use Rattle.std.proofs.lemmas.Nat.Bits.{bit_at_and, bit_at-lt, ones_shl, ones_shr, bit_at_ones, bit_at_ones_above, bit_at_mask_inside, bit_at_mask_below}
use Rattle.rbbi_classes.specs.Classes.{HasClass, word_at}
use Rattle.rbbi_classes.proofs.ClassWords.{bits_of, word_at-before, word_at-from, word_at-past, not-in_zero}
use Rattle.rbbi_bits.proofs.WordBits.{set_from_one, one_from_set}

-- what the mask leaves of a word of a row
masked : (row : List ℕ) (i mask j t : ℕ) → i < length row →
    (bit_at (get_or (set row i (bit_and (get_or row i 0) mask)) j 0) t ≡ 1) ↔ ((bit_at (get_or row j 0) t ≡ 1) × (j ≡ i → bit_at mask t ≡ 1))
masked row i mask j t inside =
    ⊎_elim
    (λ here.
    let low = bit_at-lt (get_or row i 0) t in
    let low' = bit_at-lt mask t in
    let old : bit_at (get_or row j 0) t ≡ bit_at (get_or row i 0) t = ap (λ n. bit_at (get_or row n 0) t) here in
    let same : bit_at (get_or (set row i (bit_and (get_or row i 0) mask)) j 0) t ≡ min (bit_at (get_or row i 0) t) (bit_at mask t) =
    ap (λ n. bit_at (get_or (set row i (bit_and (get_or row i 0) mask)) n 0) t) here
    ∙ ap (λ n. bit_at n t) (get_or-set_same row i (bit_and (get_or row i 0) mask) 0 inside) ∙ bit_at_and (get_or row i 0) mask t in (
      λ one. (omega (arith, one, same, old, low, low'), λ _. omega (arith, one, same, low, low')),
      λ both. let right = both.1 here in omega (arith, same, old, both.0, right),
    ))
    (λ apart.
    let same : bit_at (get_or (set row i (bit_and (get_or row i 0) mask)) j 0) t ≡ bit_at (get_or row j 0) t =
    ap (λ n. bit_at n t) (get_or-set_other row i j (bit_and (get_or row i 0) mask) 0 apart) in
    (λ one. (sym same ∙ one, λ here. absurd (apart here)), λ both. same ∙ both.0))
    (cases_eq j i)

-- the bits of `MAX << s`
bit_low : (s t : ℕ) → s < 64 → (bit_at ((2 ^ 64 - 1) * 2 ^ s % 2 ^ 64) t ≡ 1) → t < 64 → s ≤ t
bit_low s t small one short =
    ⊎_elim
    (λ below. let zero : bit_at ((2 ^ 64 - 1) * 2 ^ s % 2 ^ 64) t ≡ 0 = ap (λ n. bit_at n t) (ones_shl 64 s (omega arith)) ∙ bit_at_mask_below s 64 t below in
    absurd (omega (arith, one, zero)))
    (λ later. later)
    (cases_lt t s)

low_bit : (s t : ℕ) → s < 64 → s ≤ t → t < 64 → bit_at ((2 ^ 64 - 1) * 2 ^ s % 2 ^ 64) t ≡ 1
low_bit s t small later short = ap (λ n. bit_at n t) (ones_shl 64 s (omega arith)) ∙ bit_at_mask_inside s 64 t later short

-- the bits of `MAX >> (63 - e)`
module _ (e t : ℕ) (small : e < 64) where
  high : (2 ^ 64 - 1) / 2 ^ (63 - e) ≡ 2 ^ (e + 1) - 1
  high =
      ones_shr 64 (63 - e) (omega arith)
      ∙ ap (λ n. 2 ^ n - 1) (let same : 64 - (63 - e) ≡ e + 1 = omega (arith, small) in same)

  bit_high : (bit_at ((2 ^ 64 - 1) / 2 ^ (63 - e)) t ≡ 1) → t ≤ e
  bit_high one =
      ⊎_elim
      (λ past. let zero : bit_at ((2 ^ 64 - 1) / 2 ^ (63 - e)) t ≡ 0 = ap (λ n. bit_at n t) high ∙ bit_at_ones_above (e + 1) t (omega (arith, past)) in
      absurd (omega (arith, one, zero)))
      (λ up_to. omega (arith, up_to))
      (cases_lt e t)

  high_bit : t ≤ e → bit_at ((2 ^ 64 - 1) / 2 ^ (63 - e)) t ≡ 1
  high_bit up_to = ap (λ n. bit_at n t) high ∙ bit_at_ones (e + 1) t (omega (arith, up_to))

all_ones : (n j t : ℕ) → j < n → t < 64 → bit_at (get_or (replicate n (2 ^ 64 - 1)) j 0) t ≡ 1
all_ones n j t inside small = ap (λ n. bit_at n t) (get_or-replicate n j (2 ^ 64 - 1) 0 inside) ∙ bit_at_ones 64 t small

-- a number is up to another where its word is sooner, or the same and its place there is up to the other's
le-by_word : (first k : ℕ) → first / 64 ≤ k / 64 → (k / 64 - first / 64 ≡ 0 → first % 64 ≤ k % 64) → first ≤ k
le-by_word first k later above =
    ⊎_elim (λ here. let place = above here in omega (arith, later, here, place)) (λ apart. omega (arith, later, apart)) (cases_eq (k / 64 - first / 64) 0)

le-by_last : (first last k : ℕ) → k / 64 - first / 64 < last / 64 - first / 64 + 1 → first / 64 ≤ last / 64 → first / 64 ≤ k / 64 →
    (k / 64 - first / 64 ≡ last / 64 - first / 64 → k % 64 ≤ last % 64) → k ≤ last
le-by_last first last k short ordered later below =
    ⊎_elim (λ here. let place = below here in omega (arith, ordered, later, here, place)) (λ apart. omega (arith, short, ordered, later, apart))
    (cases_eq (k / 64 - first / 64) (last / 64 - first / 64))

-- the words of a span: all ones, but for the low bits of the first and the high bits of the last
module _ (first last : ℕ) (ordered : first ≤ last) where
  abbrev pub from : ℕ
  from = first / 64

  abbrev pub end : ℕ
  end = last / 64 - from

  abbrev pub ones : List ℕ
  ones = replicate (end + 1) (2 ^ 64 - 1)

  abbrev pub low : ℕ
  low = (2 ^ 64 - 1) * 2 ^ (first % 64) % 2 ^ 64

  abbrev pub cut : List ℕ
  cut = set ones 0 (bit_and (get_or ones 0 0) low)

  abbrev pub high_mask : ℕ
  high_mask = (2 ^ 64 - 1) / 2 ^ (63 - last % 64)

  abbrev pub words : List ℕ
  words = set cut end (bit_and (get_or cut end 0) high_mask)

  long : length cut ≡ end + 1
  long = length-set ones 0 _ ∙ length-replicate (end + 1) (2 ^ 64 - 1)

  long_words : length words ≡ end + 1
  long_words = length-set cut end _ ∙ long

  has_in : (k : ℕ) → from ≤ k / 64 → k / 64 - from < end + 1 → HasClass (bits_of from words) k ↔ ((first ≤ k) × (k ≤ last))
  has_in k later short =
      let j : ℕ = k / 64 - from in
      let t : ℕ = k % 64 in
      let small : t < 64 = omega arith in
      let read = ap (λ n. bit_at n t) (word_at-from (bits_of from words) (k / 64) later) in
      let second = masked cut end high_mask j t (omega (arith, long)) in
      let first_word = masked ones 0 low j t (omega (arith, length-replicate (end + 1) (2 ^ 64 - 1))) in (
        λ has.
            let both = second.0 (sym read ∙ one_from_set (word_at (bits_of from words) (k / 64)) t has) in
            let both' = first_word.0 both.0 in
            let above : j ≡ 0 → first % 64 ≤ t = λ here. bit_low (first % 64) t (omega arith) (both'.1 here) small in
            let below : j ≡ end → t ≤ last % 64 = λ here. bit_high (last % 64) t (omega arith) (both.1 here) in
            (le-by_word first k later above, le-by_last first last k short (omega (arith, ordered)) later below),
        λ within. set_from_one (word_at (bits_of from words) (k / 64)) t (read ∙ second.1 (
          first_word.1 (
            all_ones (end + 1) j t short small,
            λ here. low_bit (first % 64) t (omega arith) (let e : first % 64 ≤ t = omega (arith, here, within.0) in e) small,
          ),
          λ here. high_bit (last % 64) t (omega arith) (let e : t ≤ last % 64 = omega (arith, here, within.1) in e),
        )),
      )

  pub has_span : (k : ℕ) → HasClass (bits_of from words) k ↔ ((first ≤ k) × (k ≤ last))
  has_span k =
      ⊎_elim
      (λ sooner. (
        λ has. absurd (not-in_zero (bits_of from words) k (word_at-before (bits_of from words) (k / 64) sooner) has),
        λ within. absurd (omega (arith, sooner, within.0)),
      ))
      (λ later. ⊎_elim (has_in k later)
      (λ past. (
        λ has. absurd (not-in_zero (bits_of from words) k (word_at-past (bits_of from words) (k / 64) (omega (arith, past, later, long_words))) has),
        λ within. absurd (omega (arith, past, later, within.1)),
      ))
      (cases_lt (k / 64 - from) (end + 1)))
      (cases_lt (k / 64) from)

  -- the same as it is made
  pub has_made : (made : List ℕ) (word word' : ℕ) → made ≡ ones → word ≡ get_or made 0 word → word' ≡ get_or (set made 0 (bit_and word low)) end word' →
      (k : ℕ) → HasClass (bits_of from (set (set made 0 (bit_and word low)) end (bit_and word' high_mask))) k ↔ ((first ≤ k) × (k ≤ last))
  has_made made word word' full read read' k =
      let is : word ≡ get_or ones 0 0 =
      read ∙ ap (λ (row : List ℕ). get_or row 0 word) full ∙ get_or_default ones 0 word 0 (omega (arith, length-replicate (end + 1) (2 ^ 64 - 1))) in
      let is_cut : set made 0 (bit_and word low) ≡ cut =
      ap (λ (row : List ℕ). set row 0 (bit_and word low)) full ∙ ap (λ n. set ones 0 (bit_and n low)) is in
      let is' : word' ≡ get_or cut end 0 =
      read' ∙ ap (λ (row : List ℕ). get_or row end word') is_cut ∙ get_or_default cut end word' 0 (omega (arith, long)) in
      let is_words : set (set made 0 (bit_and word low)) end (bit_and word' high_mask) ≡ words =
      ap (λ (row : List ℕ). set row end (bit_and word' high_mask)) is_cut ∙ ap (λ n. set cut end (bit_and n high_mask)) is' in
      subst (λ (row : List ℕ). HasClass (bits_of from row) k ↔ ((first ≤ k) × (k ≤ last))) (sym is_words) (has_span k)
