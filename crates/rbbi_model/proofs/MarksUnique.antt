-- The marks after a word are determined.
use Rattle.std.proofs.Common.{◌≡◌, ℕ, ◌+◌, ◌<◌, true, eqb, List, length, sym, ap, ◌∙◌, ⊎_elim, arith}
use Rattle.std.specs.Prelude.{IsTrue}
use Rattle.std.specs.Int.{bit_at}
use Rattle.std.proofs.lemmas.Bool.{cases_eq, cases_lt, eq-eqb}
use Rattle.std.proofs.lemmas.Bool.Decides.{nat_tests}
use Rattle.std.proofs.lemmas.Nat.Bits.{same_from_bits}
use Rattle.rbbi_model.specs.Places.{has_bit}
use Rattle.rbbi_model.specs.Rules.{Rule}
use Rattle.rbbi_model.specs.Marks.{Marks, look_ahead_number, AreMarksAtEnd, AreMarks}
use Rattle.rbbi_model.proofs.Bits.{has_bit_is}
use Rattle.rbbi_model.proofs.Uniqueness.{same_tags}

-- the bit as a number, and as a test

pub bit_is_one : (n k : ℕ) → IsTrue (has_bit n k) → bit_at n k ≡ 1
bit_is_one n k is = let one : eqb (bit_at n k) 1 ≡ true = sym (has_bit_is n k) ∙ is in grind (arith, nat_tests)

pub one_is_bit : (n k : ℕ) → bit_at n k ≡ 1 → IsTrue (has_bit n k)
one_is_bit n k one = has_bit_is n k ∙ eq-eqb (bit_at n k) 1 one

same_bits : (m n : ℕ) → ((k : ℕ) → IsTrue (has_bit m k) → IsTrue (has_bit n k)) → ((k : ℕ) → IsTrue (has_bit n k) → IsTrue (has_bit m k)) → m ≡ n
same_bits m n to from =
    same_from_bits m n
    (λ k.
    ⊎_elim
    (λ one. one ∙ sym (bit_is_one n k (to k (one_is_bit m k one))))
    (λ other.
    ⊎_elim
    (λ one. absurd (other (bit_is_one m k (from k (one_is_bit n k one)))))
    (λ other'. omega arith)
    (cases_eq (bit_at n k) 1))
    (cases_eq (bit_at m k) 1))

module _ (rules : List Rule) (w : List ℕ) (these those : Marks) where
  same_accept : AreMarksAtEnd rules w these → AreMarksAtEnd rules w those → these.accept ≡ those.accept
  same_accept at at' =
      ⊎_elim
      (λ completed.
      ⊎_elim
      (λ completed'.
      let low = completed.first completed'.number completed'.ends in
      let high = completed'.first completed.number completed.ends in
      let same : completed.number ≡ completed'.number = omega arith in
      completed.numbered ∙ ap (λ n. look_ahead_number rules n + 2) same ∙ sym completed'.numbered)
      (⊎_elim (λ ended'. absurd (ended'.no_look_ahead completed.number completed.ends))
      (λ unended'. absurd (unended'.no_end completed.number completed.ends.ends)))
      at'.accept)
      (⊎_elim
      (λ ended.
      ⊎_elim
      (λ completed'. absurd (ended.no_look_ahead completed'.number completed'.ends))
      (⊎_elim (λ ended'. ended.is_one ∙ sym ended'.is_one) (λ unended'. absurd (unended'.no_end ended.number ended.ends)))
      at'.accept)
      (λ unended.
      ⊎_elim
      (λ completed'. absurd (unended.no_end completed'.number completed'.ends.ends))
      (⊎_elim (λ ended'. absurd (unended.no_end ended'.number ended'.ends)) (λ unended'. unended.is_zero ∙ sym unended'.is_zero))
      at'.accept))
      at.accept

  same_fronts : AreMarksAtEnd rules w these → AreMarksAtEnd rules w those → these.fronts ≡ those.fronts
  same_fronts at at' =
      let same = same_accept at at' in
      ⊎_elim
      (λ small.
      let small' : those.accept < 2 = omega arith in
      same_bits these.fronts those.fronts (λ k is. (at'.fronts small' k).1 ((at.fronts small k).0 is))
      (λ k is. (at.fronts small k).1 ((at'.fronts small' k).0 is)))
      (λ many. at.no_fronts many ∙ sym (at'.no_fronts (omega arith)))
      (cases_lt these.accept 2)

  at_end_same : AreMarksAtEnd rules w these → AreMarksAtEnd rules w those → these ≡ those
  at_end_same at at' =
      let accept = same_accept at at' in
      let fronts = same_fronts at at' in
      let statuses = same_tags rules w 0 (length w) these.statuses those.statuses at.statuses at'.statuses in
      λ i. record { accept = accept i; fronts = fronts i; statuses = statuses i }

  pub same_marks : AreMarks rules w these → AreMarks rules w those → these ≡ those
  same_marks are are' =
      ⊎_elim
      (λ ended. ⊎_elim (λ ended'. ended.1 ∙ sym ended'.1) (λ at'. absurd (at'.0 ended.0)) are')
      (λ at. ⊎_elim (λ ended'. absurd (at.0 ended'.0)) (λ at'. at_end_same at.1 at'.1) are')
      are
