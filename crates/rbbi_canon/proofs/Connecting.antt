-- Letters connect the categories of each character, since they do so at the starts of ranges.
use Rattle.std.proofs.Common.{◌≡◌, ◌⊎◌, ℕ, suc, ◌+◌, ◌-◌, ◌<◌, ◌≤◌, cond, List, [], ◌∷◌, ◌++◌, length, get_or, refl, ap, sym, ◌∙◌, subst}
use Rattle.std.proofs.Common.{⊎_elim, arith, ltb, leb, below_more}
use Rattle.std.proofs.lemmas.Bool.{cases_lt, cond-true, cond-false, lt-ltb, le-ltb, le-leb}
use Rattle.std.proofs.lemmas.List.{get_or_append_left, get_or_push, length_push}
use Rattle.rbbi_model.specs.Words.{IsCharacter}
use Rattle.rbbi_model.specs.Tables.{Table, CategoryRange, category_of}
use Rattle.rbbi_model.specs.ValidTables.{AreValidRanges, IsValidTable}
use Rattle.rbbi_model.proofs.Categories.{category_within}
use Rattle.rbbi_model.proofs.Lists.{all_at}
use Rattle.rbbi_model.specs.ValidTables.{IsWithin}
use Rattle.rbbi_table.specs.inner.Ranges.{start_of, HoldsCodePoint}
use Rattle.rbbi_table.proofs.RangeLemmas.{category_held}
use Rattle.rbbi_canon.specs.declared.letters.Letter.{Letter}
use Rattle.rbbi_canon.specs.inner.Joins.{JoinsLabels, AreJoinedBy}
use Rattle.rbbi_canon.specs.inner.Letters.{letter_at, IsLetter, AreLetters, start_or_end, first_character, IsConnected, StayConnected, AreLettersSoFar}
use Rattle.rbbi_canon.proofs.Sets.{one_more}

-- some range holds each code point
holder_from : (range : CategoryRange) (ranges : List CategoryRange) (c : ℕ) → range.start ≤ c → (k : ℕ) × HoldsCodePoint (range ∷ ranges) k c
holder_from range [] c starts = (0, record { within = omega arith; begins = starts; ends = λ more. absurd (omega (arith, more)) })
holder_from range (next ∷ rest) c starts =
    ⊎_elim
    (λ early. (0, record { within = omega arith; begins = starts; ends = λ more. early }))
    (λ late.
    let found = holder_from next rest c late in
    let k : ℕ = found.0 in
    let one : suc (k + 1) ≡ suc k + 1 = omega arith in (
      suc k,
      record {
        within = omega (arith, found.1.within);
        begins = found.1.begins;
        ends = λ more. subst (λ n. c < start_of (range ∷ next ∷ rest) n) one (found.1.ends (omega (arith, more)));
      },
    ))
    (cases_lt c next.start)

pub holder : (count : ℕ) (ranges : List CategoryRange) (c : ℕ) → AreValidRanges count ranges → (k : ℕ) × HoldsCodePoint ranges k c
holder count [] c valid = absurd valid.from_zero
holder count (range ∷ ranges) c valid = holder_from range ranges c (omega (arith, valid.from_zero))

pub start_before_end : (count : ℕ) (ranges : List CategoryRange) (k : ℕ) → AreValidRanges count ranges → k < length ranges → start_or_end ranges k ≤ 0x10FFFF
start_before_end count ranges k valid short =
    let none : CategoryRange = record { start = 0; category = 0 } in
    omega (
      arith,
      cond-true (ltb k (length ranges)) (get_or ranges k none).start 0x110000 (lt-ltb k (length ranges) short),
      (all_at (IsWithin count) ranges k none short valid.within).0,
    )

pub past_end : (ranges : List CategoryRange) (k : ℕ) → length ranges ≤ k → start_or_end ranges k ≡ 0x110000
past_end ranges k past =
    cond-false (ltb k (length ranges)) (get_or ranges k (record { start = 0; category = 0 })).start 0x110000 (le-ltb k (length ranges) past)

start_is : (ranges : List CategoryRange) (k : ℕ) → k < length ranges → start_or_end ranges k ≡ start_of ranges k
start_is ranges k short =
    cond-true (ltb k (length ranges)) (get_or ranges k (record { start = 0; category = 0 })).start 0x110000 (lt-ltb k (length ranges) short)

-- the first character from a start on is no later than each that follows
first_between : (s c : ℕ) → s ≤ c → IsCharacter c → (s ≤ first_character s) × (first_character s ≤ c)
first_between s c low is =
    ⊎_elim
    (λ before. let e = cond-true (ltb s 0xD800) s (cond (ltb s 0xE000) 0xE000 (cond (leb s 0x10FFFF) s 0xE000)) (lt-ltb s 0xD800 before) in
    (omega (arith, e), omega (arith, e, low)))
    (λ from.
    let e = cond-false (ltb s 0xD800) s (cond (ltb s 0xE000) 0xE000 (cond (leb s 0x10FFFF) s 0xE000)) (le-ltb s 0xD800 from) in
    ⊎_elim
    (λ within.
    let e' = cond-true (ltb s 0xE000) 0xE000 (cond (leb s 0x10FFFF) s 0xE000) (lt-ltb s 0xE000 within) in
    let past : 0xE000 ≤ c = ⊎_elim (λ less. absurd (is.1 (omega (arith, from, low), omega (arith, less)))) (λ past. past) (cases_lt c 0xE000) in
    (omega (arith, e, e', within), omega (arith, e, e', past)))
    (λ behind.
    let e' = cond-false (ltb s 0xE000) 0xE000 (cond (leb s 0x10FFFF) s 0xE000) (le-ltb s 0xE000 behind) in
    let e'' = cond-true (leb s 0x10FFFF) s 0xE000 (le-leb s 0x10FFFF (omega (arith, low, is.0))) in
    (omega (arith, e, e', e''), omega (arith, e, e', e'', low)))
    (cases_lt s 0xE000))
    (cases_lt s 0xD800)

same_holder : (count : ℕ) (ranges : List CategoryRange) (k c x : ℕ) → AreValidRanges count ranges → HoldsCodePoint ranges k c → start_of ranges k ≤ x → x ≤ c →
    category_of ranges x ≡ category_of ranges c
same_holder count ranges k c x valid holds low high =
    category_held ranges k x valid.apart (record { within = holds.within; begins = low; ends = λ more. let e = holds.ends more in omega (arith, e, high) })
    ∙ sym (category_held ranges k c valid.apart holds)

-- the letters connect the categories at the first so many starts of both tables
pub record AreConnected (these those : Table) (labels : List ℕ) (letters : List Letter) (here there : ℕ) : Type 0 where
  pub so_far : AreLettersSoFar these those labels letters
  pub here_within : here ≤ length these.ranges
  pub there_within : there ≤ length those.ranges
  pub at_here : (k : ℕ) → k < here → IsConnected these those labels (first_character (start_or_end these.ranges k))
  pub at_there : (k : ℕ) → k < there → IsConnected these those labels (first_character (start_or_end those.ranges k))

module _ (these those : Table) (valid : IsValidTable these) (valid' : IsValidTable those) where
  category_low : (c : ℕ) → category_of these.ranges c < these.categories
  category_low c = category_within these.categories these.ranges c valid.ranges

  category_low' : (c : ℕ) → category_of those.ranges c < those.categories
  category_low' c = category_within those.categories those.ranges c valid'.ranges

  -- one more letter
  pub letter_more : (labels new : List ℕ) (letters : List Letter) (letter : Letter) → AreLettersSoFar these those labels letters → IsLetter these those letter →
      JoinsLabels labels letter.this (these.categories + letter.that) new → AreLettersSoFar these those new (letters ++ letter ∷ [])
  letter_more labels new letters letter h is joins =
      let more : List Letter = letters ++ letter ∷ [] in
      let none : Letter = record { character = 0; this = 0; that = 0 } in
      let before : (k : ℕ) → k < length letters → letter_at more k ≡ letter_at letters k = λ k short. get_or_append_left letters (letter ∷ []) none k short in
      let last : letter_at more (length letters) ≡ letter = get_or_push letters letter none (length letters) refl in
      let this_is : (letter_at more (length letters)).this ≡ letter.this = ap (λ (l : Letter). l.this) last in
      let that_is : these.categories + (letter_at more (length letters)).that ≡ these.categories + letter.that =
      ap (λ (l : Letter). these.categories + l.that) last in
      let low : letter.this < these.categories = subst (λ n. n < these.categories) is.this (category_low letter.character) in
      let low' : letter.that < those.categories = subst (λ n. n < those.categories) is.that (category_low' letter.character) in
      let long : length more ≡ length letters + 1 = length_push letters letter in
      record {
        each = λ k short. below_more (λ n. IsLetter these those (letter_at more n)) (length letters)
            (λ n less. subst (IsLetter these those) (sym (before n less)) (h.each n less)) (subst (IsLetter these those) (sym last) is)
            k (omega (arith, short, long));
        joined = subst (λ n. AreJoinedBy (these.categories + those.categories) new n (λ k. (letter_at more k).this)
            (λ k. these.categories + (letter_at more k).that))
            (sym long)
            (one_more (these.categories + those.categories) labels new (length letters)
            (λ k. (letter_at letters k).this) (λ k. these.categories + (letter_at letters k).that)
            (λ k. (letter_at more k).this) (λ k. these.categories + (letter_at more k).that)
            h.joined (λ k less. ap (λ (l : Letter). l.this) (before k less)) (λ k less. ap (λ (l : Letter). these.categories + l.that) (before k less))
            (omega (arith, this_is, low)) (omega (arith, that_is, low'))
            (subst (λ n. JoinsLabels labels n (these.categories + (letter_at more (length letters)).that) new) (sym this_is)
            (subst (λ n. JoinsLabels labels letter.this n new) (sym that_is) joins)));
      }

  -- what is connected at a start stays so
  pub still : (old new : List ℕ) (c : ℕ) → length old ≡ these.categories + those.categories → StayConnected old new → IsConnected these those old c →
      IsConnected these those new c
  still old new c all h is =
      h.stay (category_of these.ranges c) (these.categories + category_of those.ranges c) (omega (arith, all, category_low c))
      (omega (arith, all, category_low' c)) is

  -- the letters connect the categories of each character
  connected : (labels : List ℕ) (letters : List Letter) → AreConnected these those labels letters (length these.ranges) (length those.ranges) →
      (c : ℕ) → IsCharacter c → IsConnected these those labels c
  connected labels letters h c is =
      let own = holder these.categories these.ranges c valid.ranges in
      let other = holder those.categories those.ranges c valid'.ranges in
      let s : ℕ = start_of these.ranges own.0 in
      let s' : ℕ = start_of those.ranges other.0 in
      let at : (x : ℕ) → s ≤ x → s' ≤ x → x ≤ c → IsConnected these those labels x → IsConnected these those labels c =
      λ x low low' high there.
      ap (λ n. get_or labels n 0) (sym (same_holder these.categories these.ranges own.0 c x valid.ranges own.1 low high))
      ∙ there
      ∙ ap (λ n. get_or labels (these.categories + n) 0) (same_holder those.categories those.ranges other.0 c x valid'.ranges other.1 low' high)
      in
      ⊎_elim
      (λ less.
      let between = first_between s' c other.1.begins is in
      at (first_character s') (omega (arith, less, between.0)) between.0 between.1
      (subst (λ n. IsConnected these those labels (first_character n)) (start_is those.ranges other.0 other.1.within) (h.at_there other.0 other.1.within)))
      (λ most.
      let between = first_between s c own.1.begins is in
      at (first_character s) between.0 (omega (arith, most, between.0)) between.1
      (subst (λ n. IsConnected these those labels (first_character n)) (start_is these.ranges own.0 own.1.within) (h.at_here own.0 own.1.within)))
      (cases_lt s s')

  pub all_letters : (labels : List ℕ) (letters : List Letter) → AreConnected these those labels letters (length these.ranges) (length those.ranges) →
      AreLetters these those letters
  all_letters labels letters h = record {
    each = h.so_far.each;
    enough = λ f g same c is.
        let count : ℕ = these.categories in
        let joint : ℕ → List ℕ = λ n. cond (ltb n count) (f n) (g (n - count)) in
        let left : (n : ℕ) → n < count → joint n ≡ f n = λ n low. cond-true (ltb n count) (f n) (g (n - count)) (lt-ltb n count low) in
        let right : (n : ℕ) → joint (count + n) ≡ g n =
        λ n. cond-false (ltb (count + n) count) (f (count + n)) (g (count + n - count)) (le-ltb (count + n) count (omega arith))
        ∙ ap g (let e : count + n - count ≡ n = omega arith in e) in
        let joined = h.so_far.joined in
        sym (left (category_of these.ranges c) (category_low c))
        ∙ joined.only joint
        (λ k short.
        let letter = h.so_far.each k short in
        left (letter_at letters k).this (subst (λ n. n < count) letter.this (category_low (letter_at letters k).character))
        ∙ same k short ∙ sym (right (letter_at letters k).that))
        (category_of these.ranges c) (count + category_of those.ranges c) (omega (arith, category_low c)) (omega (arith, category_low' c))
        (connected labels letters h c is)
        ∙ right (category_of those.ranges c);
  }

at_most_end : (count : ℕ) (ranges : List CategoryRange) (k : ℕ) → AreValidRanges count ranges → start_or_end ranges k ≤ 0x110000
at_most_end count ranges k valid =
    ⊎_elim
    (λ short. let e = start_before_end count ranges k valid short in omega (arith, e))
    (λ past. omega (arith, past_end ranges k past))
    (cases_lt k (length ranges))

-- the lesser start is that of a range
pub here_first : (count count' : ℕ) (ranges ranges' : List CategoryRange) (here there : ℕ) → AreValidRanges count ranges → AreValidRanges count' ranges' →
    ((here < length ranges) ⊎ (there < length ranges')) → start_or_end ranges here ≤ start_or_end ranges' there → here < length ranges
here_first count count' ranges ranges' here there valid valid' some less =
    ⊎_elim
    (λ short. short)
    (λ past.
    ⊎_elim
    (λ short. short)
    (λ short. absurd (omega (arith, past_end ranges here past, start_before_end count' ranges' there valid' short, less)))
    some)
    (cases_lt here (length ranges))

pub there_first : (count count' : ℕ) (ranges ranges' : List CategoryRange) (here there : ℕ) → AreValidRanges count ranges →
    start_or_end ranges' there < start_or_end ranges here → there < length ranges'
there_first count count' ranges ranges' here there valid less =
    ⊎_elim
    (λ short. short)
    (λ past. absurd (omega (arith, past_end ranges' there past, at_most_end count ranges here valid, less)))
    (cases_lt there (length ranges'))

-- one more start
module _ (these those : Table) (valid : IsValidTable these) (valid' : IsValidTable those) (labels new : List ℕ) (letters more : List Letter) (here there : ℕ)
    (h : AreConnected these those labels letters here there) (so_far : AreLettersSoFar these those new more) (keeps : StayConnected labels new) where
  all_still : (c : ℕ) → IsConnected these those labels c → IsConnected these those new c
  all_still c is = still these those valid valid' labels new c h.so_far.joined.all keeps is

  pub one_here : here < length these.ranges → IsConnected these those new (first_character (start_or_end these.ranges here)) →
      AreConnected these those new more (here + 1) there
  one_here short is = record {
    so_far = so_far;
    here_within = omega (arith, short);
    there_within = h.there_within;
    at_here = below_more (λ k. IsConnected these those new (first_character (start_or_end these.ranges k))) here
        (λ k less. all_still (first_character (start_or_end these.ranges k)) (h.at_here k less)) is;
    at_there = λ k less. all_still (first_character (start_or_end those.ranges k)) (h.at_there k less);
  }

  pub one_there : there < length those.ranges → IsConnected these those new (first_character (start_or_end those.ranges there)) →
      AreConnected these those new more here (there + 1)
  one_there short is = record {
    so_far = so_far;
    here_within = h.here_within;
    there_within = omega (arith, short);
    at_here = λ k less. all_still (first_character (start_or_end these.ranges k)) (h.at_here k less);
    at_there = below_more (λ k. IsConnected these those new (first_character (start_or_end those.ranges k))) there
        (λ k less. all_still (first_character (start_or_end those.ranges k)) (h.at_there k less)) is;
  }
