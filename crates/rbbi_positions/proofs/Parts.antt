-- What is computed of a sequence or a choice, part by part.
use Rattle.std.proofs.Common.{◌≡◌, ℕ, ◌+◌, ◌-◌, ◌<◌, ◌≤◌, Bool, true, false, ◌&&◌, ◌||◌, List, [], ◌∷◌, ◌++◌, length, get_or, take, drop, refl, ap}
use Rattle.std.proofs.Math.Bool.{or-false, or_comm, and-false, or_assoc}
use Rattle.std.proofs.Common.{sym, ◌∙◌, arith}
use Rattle.std.specs.Prelude.{map}
use Rattle.std.proofs.lemmas.List.{drop_all, map_more}
use Rattle.rbbi_model.specs.Spelling.{Tree, Empty, Never, Either, sequence_of, choice_of}
use Rattle.rbbi_model.specs.Rules.{leaf_count}
use Rattle.rbbi_positions.specs.inner.Trees.{is_nullable, begins, ends, leads, goes}
use Rattle.rbbi_positions.proofs.Empties.{empty_sequence, next_part}

-- a sequence, with one part more in front
pub count_cons : (part : Tree) (parts : List Tree) → leaf_count (sequence_of (part ∷ parts)) ≡ leaf_count part + leaf_count (sequence_of parts)
count_cons part [] = omega arith
count_cons part (next ∷ parts) = refl

pub begins_cons : (part : Tree) (parts : List Tree) (first p : ℕ) →
    begins (sequence_of (part ∷ parts)) first p ≡ (begins part first p || (is_nullable part && begins (sequence_of parts) (first + leaf_count part) p))
begins_cons part [] first p = sym (ap (λ x. begins part first p || x) (and-false (is_nullable part)) ∙ or-false (begins part first p))
begins_cons part (next ∷ parts) first p = refl

pub ends_cons : (part : Tree) (parts : List Tree) (first p : ℕ) →
    ends (sequence_of (part ∷ parts)) first
    p ≡ (ends (sequence_of parts) (first + leaf_count part) p || (is_nullable (sequence_of parts) && ends part first p))
ends_cons part [] first p = refl
ends_cons part (next ∷ parts) first p = refl

pub goes_cons : (part : Tree) (parts : List Tree) (first p q : ℕ) (behind : Bool) →
    goes (sequence_of (part ∷ parts)) first p q
    behind ≡ (goes part first p q (leads (sequence_of parts) (first + leaf_count part) q behind) || goes (sequence_of parts) (first + leaf_count part) p q
    behind)
goes_cons part [] first p q behind = sym (or-false (goes part first p q behind))
goes_cons part (next ∷ parts) first p q behind = refl

-- what may stand before a sequence, with one part more in front
pub leads_cons : (part : Tree) (parts : List Tree) (first q : ℕ) (behind : Bool) →
    leads (sequence_of (part ∷ parts)) first q behind ≡ leads part first q (leads (sequence_of parts) (first + leaf_count part) q behind)
leads_cons part parts first q behind =
    ap (λ x. x || (is_nullable (sequence_of (part ∷ parts)) && behind)) (begins_cons part parts first q)
    ∙ ap (λ x. (begins part first q || (is_nullable part && begins (sequence_of parts) (first + leaf_count part) q)) || (x && behind))
    (empty_sequence part parts)
    ∙ regroup (begins part first q) (is_nullable part) (begins (sequence_of parts) (first + leaf_count part) q) (is_nullable (sequence_of parts)) behind
  where
    regroup : (a b d e f : Bool) → ((a || (b && d)) || ((b && e) && f)) ≡ (a || (b && (d || (e && f))))
    regroup true b d e f = refl
    regroup false true d e f = refl
    regroup false false d e f = refl

-- a sequence, with one part more at its end
pub count_snoc : (parts : List Tree) (part : Tree) → leaf_count (sequence_of (parts ++ part ∷ [])) ≡ leaf_count (sequence_of parts) + leaf_count part
count_snoc [] part = omega arith
count_snoc (front ∷ parts) part = omega (arith, count_cons front (parts ++ part ∷ []), count_cons front parts, count_snoc parts part)

pub empty_snoc : (parts : List Tree) (part : Tree) → is_nullable (sequence_of (parts ++ part ∷ [])) ≡ (is_nullable (sequence_of parts) && is_nullable part)
empty_snoc [] part = refl
empty_snoc (front ∷ parts) part =
    empty_sequence front (parts ++ part ∷ []) ∙ ap (λ x. is_nullable front && x) (empty_snoc parts part)
    ∙ regroup (is_nullable front) (is_nullable (sequence_of parts)) (is_nullable part) ∙ ap (λ x. x && is_nullable part) (sym (empty_sequence front parts))
  where
    regroup : (a b d : Bool) → (a && (b && d)) ≡ ((a && b) && d)
    regroup true b d = refl
    regroup false b d = refl

-- the first position of a part after others
later : (first : ℕ) (front : Tree) (parts : List Tree) →
    (first + leaf_count front) + leaf_count (sequence_of parts) ≡ first + leaf_count (sequence_of (front ∷ parts))
later first front parts = omega (arith, count_cons front parts)

pub leads_snoc : (parts : List Tree) (part : Tree) (first q : ℕ) (behind : Bool) →
    leads (sequence_of (parts ++ part ∷ [])) first q behind ≡ leads (sequence_of parts) first q (leads part (first + leaf_count (sequence_of parts)) q behind)
leads_snoc [] part first q behind = ap (λ (n : ℕ). leads part n q behind) (omega arith)
leads_snoc (front ∷ parts) part first q behind =
    leads_cons front (parts ++ part ∷ []) first q behind ∙ ap (λ x. leads front first q x) (leads_snoc parts part (first + leaf_count front) q behind)
    ∙ sym (leads_cons front parts first q (leads part ((first + leaf_count front) + leaf_count (sequence_of parts)) q behind))
    ∙ ap (λ (n : ℕ). leads (sequence_of (front ∷ parts)) first q (leads part n q behind)) (later first front parts)

pub ends_snoc : (parts : List Tree) (part : Tree) (first p : ℕ) →
    ends (sequence_of (parts ++ part ∷ [])) first
    p ≡ (ends part (first + leaf_count (sequence_of parts)) p || (is_nullable part && ends (sequence_of parts) first p))
ends_snoc [] part first p = ap (λ (n : ℕ). ends part n p) (omega arith)
    ∙ sym (ap (λ x. ends part (first + 0) p || x) (and-false (is_nullable part)) ∙ or-false (ends part (first + 0) p))
ends_snoc (front ∷ parts) part first p =
    ends_cons front (parts ++ part ∷ []) first p
    ∙ ap (λ x. x || (is_nullable (sequence_of (parts ++ part ∷ [])) && ends front first p)) (ends_snoc parts part (first + leaf_count front) p)
    ∙ ap (λ x. (ends part ((first + leaf_count front) + leaf_count (sequence_of parts))
    p || (is_nullable part && ends (sequence_of parts) (first + leaf_count front) p)) || (x && ends front first p)) (empty_snoc parts part)
    ∙ regroup (ends part ((first + leaf_count front) + leaf_count (sequence_of parts)) p) (is_nullable part)
    (ends (sequence_of parts) (first + leaf_count front) p) (is_nullable (sequence_of parts)) (ends front first p)
    ∙ ap (λ x. ends part ((first + leaf_count front) + leaf_count (sequence_of parts)) p || (is_nullable part && x)) (sym (ends_cons front parts first p))
    ∙ ap (λ (n : ℕ). ends part n p || (is_nullable part && ends (sequence_of (front ∷ parts)) first p)) (later first front parts)
  where
    regroup : (a b d e f : Bool) → ((a || (b && d)) || ((e && b) && f)) ≡ (a || (b && (d || (e && f))))
    regroup true b d e f = refl
    regroup false true d true f = refl
    regroup false true d false f = refl
    regroup false false d true f = refl
    regroup false false d false f = refl

pub goes_snoc : (parts : List Tree) (part : Tree) (first p q : ℕ) (behind : Bool) →
    goes (sequence_of (parts ++ part ∷ [])) first p q behind
    ≡ (goes (sequence_of parts) first p q (leads part (first + leaf_count (sequence_of parts)) q behind) || goes part (first + leaf_count (sequence_of parts)) p
    q behind)
goes_snoc [] part first p q behind = ap (λ (n : ℕ). goes part n p q behind) (omega arith)
goes_snoc (front ∷ parts) part first p q behind =
    let second = first + leaf_count front in
    let third = second + leaf_count (sequence_of parts) in
    goes_cons front (parts ++ part ∷ []) first p q behind
    ∙ ap (λ x. goes front first p q x || goes (sequence_of (parts ++ part ∷ [])) second p q behind) (leads_snoc parts part second q behind)
    ∙ ap (λ x. goes front first p q (leads (sequence_of parts) second q (leads part third q behind)) || x) (goes_snoc parts part second p q behind)
    ∙ sym (or_assoc (goes front first p q (leads (sequence_of parts) second q (leads part third q behind)))
    (goes (sequence_of parts) second p q (leads part third q behind)) (goes part third p q behind))
    ∙ ap (λ x. x || goes part third p q behind) (sym (goes_cons front parts first p q (leads part third q behind)))
    ∙ ap (λ (n : ℕ). goes (sequence_of (front ∷ parts)) first p q (leads part n q behind) || goes part n p q behind) (later first front parts)

-- a choice, with one part more in front
pub choice_count_cons : (part : Tree) (parts : List Tree) → leaf_count (choice_of (part ∷ parts)) ≡ leaf_count part + leaf_count (choice_of parts)
choice_count_cons part [] = omega arith
choice_count_cons part (next ∷ parts) = refl

-- what holds of a choice where it does of a part
pub record OfChoice (test : Tree → ℕ → Bool) : Type 0 where
  pub none : (first : ℕ) → test Never first ≡ false
  pub either : (front rest : Tree) (first : ℕ) → test (Either front rest) first ≡ (test front first || test rest (first + leaf_count front))

pub choice_cons : (test : Tree → ℕ → Bool) → OfChoice test → (part : Tree) (parts : List Tree) (first : ℕ) →
    test (choice_of (part ∷ parts)) first ≡ (test part first || test (choice_of parts) (first + leaf_count part))
choice_cons test of part [] first = sym (ap (λ x. test part first || x) (of.none (first + leaf_count part)) ∙ or-false (test part first))
choice_cons test of part (next ∷ parts) first = of.either part (choice_of (next ∷ parts)) first

pub begins_of : (p : ℕ) → OfChoice (λ tree first. begins tree first p)
begins_of p = record { none = λ first. refl; either = λ front rest first. refl }

pub ends_of : (p : ℕ) → OfChoice (λ tree first. ends tree first p)
ends_of p = record { none = λ first. refl; either = λ front rest first. refl }

pub goes_of : (p q : ℕ) (behind : Bool) → OfChoice (λ tree first. goes tree first p q behind)
goes_of p q behind = record { none = λ first. refl; either = λ front rest first. refl }

-- a part in the middle of parts that a loop goes through
module _ {T : Type 0} (f : T → Tree) (parts : List T) (i : ℕ) (part : T) (below : i < length parts) (is : part ≡ get_or parts i part) where
  pub count_sequence : leaf_count (sequence_of (map f (drop i parts))) ≡ leaf_count (f part) + leaf_count (sequence_of (map f (drop (i + 1) parts)))
  count_sequence = ap (λ l. leaf_count (sequence_of l)) (next_part f parts i part below is) ∙ count_cons (f part) (map f (drop (i + 1) parts))

  pub count_choice : leaf_count (choice_of (map f (drop i parts))) ≡ leaf_count (f part) + leaf_count (choice_of (map f (drop (i + 1) parts)))
  count_choice = ap (λ l. leaf_count (choice_of l)) (next_part f parts i part below is) ∙ choice_count_cons (f part) (map f (drop (i + 1) parts))

  -- a loop that joins what holds of the parts in front
  pub begins_on : (start count p : ℕ) (before after : Bool) → is_nullable (f part) ≡ true → count ≡ leaf_count (f part) →
      after ≡ (before || begins (f part) start p) →
      (after || begins (sequence_of (map f (drop (i + 1) parts))) (start + count) p) ≡ (before || begins (sequence_of (map f (drop i parts))) start p)
  begins_on start count p before after empty many new =
      let rest = sequence_of (map f (drop (i + 1) parts)) in
      ap (λ x. x || begins rest (start + count) p) new ∙ or_assoc before (begins (f part) start p) (begins rest (start + count) p)
      ∙ ap (λ n. before || (begins (f part) start p || begins rest (start + n) p)) many
      ∙ sym (
      ap (λ l. before || begins (sequence_of l) start p) (next_part f parts i part below is)
      ∙ ap (λ x. before || x) (begins_cons (f part) (map f (drop (i + 1) parts)) start p)
      ∙ ap (λ x. before || (begins (f part) start p || (x && begins rest (start + leaf_count (f part)) p))) empty
      )

  pub begins_end : (start p : ℕ) (before after : Bool) → is_nullable (f part) ≡ false → after ≡ (before || begins (f part) start p) →
      after ≡ (before || begins (sequence_of (map f (drop i parts))) start p)
  begins_end start p before after none new =
      let rest = sequence_of (map f (drop (i + 1) parts)) in
      new ∙ sym (
      ap (λ l. before || begins (sequence_of l) start p) (next_part f parts i part below is)
      ∙ ap (λ x. before || x) (begins_cons (f part) (map f (drop (i + 1) parts)) start p)
      ∙ ap (λ x. before || (begins (f part) start p || (x && begins rest (start + leaf_count (f part)) p))) none
      ∙ ap (λ x. before || x) (or-false (begins (f part) start p))
      )

  pub choice_on : (test : Tree → ℕ → Bool) → OfChoice test → (start count : ℕ) (before after : Bool) → count ≡ leaf_count (f part) →
      after ≡ (before || test (f part) start) →
      (after || test (choice_of (map f (drop (i + 1) parts))) (start + count)) ≡ (before || test (choice_of (map f (drop i parts))) start)
  choice_on test of start count before after many new =
      let rest = choice_of (map f (drop (i + 1) parts)) in
      ap (λ x. x || test rest (start + count)) new ∙ or_assoc before (test (f part) start) (test rest (start + count))
      ∙ ap (λ n. before || (test (f part) start || test rest (start + n))) many
      ∙ sym (
      ap (λ l. before || test (choice_of l) start) (next_part f parts i part below is)
      ∙ ap (λ x. before || x) (choice_cons test of (f part) (map f (drop (i + 1) parts)) start)
      )

-- a part before the last of those that a loop from the last to the first has yet to go through
module _ {T : Type 0} (f : T → Tree) (parts : List T) (i : ℕ) (part : T) (some : 0 < i) (short : i ≤ length parts) (is : part ≡ get_or parts (i - 1) part) where
  pub part_more : map f (take i parts) ≡ map f (take (i - 1) parts) ++ f part ∷ []
  part_more =
      let below : i - 1 < length parts = omega arith in
      let one : i ≡ (i - 1) + 1 = omega arith in
      ap (λ (n : ℕ). map f (take n parts)) one ∙ map_more f parts (i - 1) part below ∙ ap (λ (p : T). map f (take (i - 1) parts) ++ f p ∷ []) (sym is)

  pub count_up_to : leaf_count (sequence_of (map f (take i parts))) ≡ leaf_count (sequence_of (map f (take (i - 1) parts))) + leaf_count (f part)
  count_up_to = ap (λ l. leaf_count (sequence_of l)) part_more ∙ count_snoc (map f (take (i - 1) parts)) (f part)

  pub ends_on : (first start p : ℕ) (before after : Bool) → start ≡ first + leaf_count (sequence_of (map f (take (i - 1) parts))) →
      is_nullable (f part) ≡ true → after ≡ (before || ends (f part) start p) →
      (after || ends (sequence_of (map f (take (i - 1) parts))) first p) ≡ (before || ends (sequence_of (map f (take i parts))) first p)
  ends_on first start p before after at empty new =
      let front = sequence_of (map f (take (i - 1) parts)) in
      ap (λ x. x || ends front first p) new ∙ or_assoc before (ends (f part) start p) (ends front first p)
      ∙ ap (λ n. before || (ends (f part) n p || ends front first p)) at
      ∙ sym (
      ap (λ l. before || ends (sequence_of l) first p) part_more
      ∙ ap (λ x. before || x) (ends_snoc (map f (take (i - 1) parts)) (f part) first p)
      ∙ ap (λ x. before || (ends (f part) (first + leaf_count front) p || (x && ends front first p))) empty
      )

  pub ends_end : (first start p : ℕ) (before after : Bool) → start ≡ first + leaf_count (sequence_of (map f (take (i - 1) parts))) →
      is_nullable (f part) ≡ false → after ≡ (before || ends (f part) start p) →
      after ≡ (before || ends (sequence_of (map f (take i parts))) first p)
  ends_end first start p before after at none new =
      let front = sequence_of (map f (take (i - 1) parts)) in
      new ∙ ap (λ n. before || ends (f part) n p) at
      ∙ sym (
      ap (λ l. before || ends (sequence_of l) first p) part_more
      ∙ ap (λ x. before || x) (ends_snoc (map f (take (i - 1) parts)) (f part) first p)
      ∙ ap (λ x. before || (ends (f part) (first + leaf_count front) p || (x && ends front first p))) none
      ∙ ap (λ x. before || x) (or-false (ends (f part) (first + leaf_count front) p))
      )

  pub goes_on : (first start p q : ℕ) (behind behind' before after : Bool) → start ≡ first + leaf_count (sequence_of (map f (take (i - 1) parts))) →
      behind' ≡ leads (f part) start q behind → after ≡ (before || goes (f part) start p q behind) →
      (after || goes (sequence_of (map f (take (i - 1) parts))) first p q behind') ≡ (before || goes (sequence_of (map f (take i parts))) first p q behind)
  goes_on first start p q behind behind' before after at led new =
      let front = sequence_of (map f (take (i - 1) parts)) in
      ap (λ x. x || goes front first p q behind') new ∙ ap (λ x. (before || goes (f part) start p q behind) || goes front first p q x) led
      ∙ or_assoc before (goes (f part) start p q behind) (goes front first p q (leads (f part) start q behind))
      ∙ ap (λ x. before || x) (or_comm (goes (f part) start p q behind) (goes front first p q (leads (f part) start q behind)))
      ∙ ap (λ n. before || (goes front first p q (leads (f part) n q behind) || goes (f part) n p q behind)) at
      ∙ sym (
      ap (λ l. before || goes (sequence_of l) first p q behind) part_more
      ∙ ap (λ x. before || x) (goes_snoc (map f (take (i - 1) parts)) (f part) first p q behind)
      )

pub sequence_done : {A : Type 0} (measure : Tree → A) {T : Type 0} (f : T → Tree) (parts : List T) (i : ℕ) → length parts ≤ i →
    measure (sequence_of (map f (drop i parts))) ≡ measure Empty
sequence_done measure f parts i past = ap (λ l. measure (sequence_of (map f l))) (drop_all i parts past)

pub choice_done : {A : Type 0} (measure : Tree → A) {T : Type 0} (f : T → Tree) (parts : List T) (i : ℕ) → length parts ≤ i →
    measure (choice_of (map f (drop i parts))) ≡ measure Never
choice_done measure f parts i past = ap (λ l. measure (choice_of (map f l))) (drop_all i parts past)

pub none_left : {A : Type 0} (measure : Tree → A) {T : Type 0} (f : T → Tree) (parts : List T) (n : ℕ) → n ≤ 0 →
    measure (sequence_of (map f (take n parts))) ≡ measure Empty
none_left measure f parts n none = (let zero' : n ≡ 0 = omega arith in ap (λ (m : ℕ). measure (sequence_of (map f (take m parts)))) zero')
