-- The rules `'ab'; 'bc'{7};`, both of which may be chained into, worked by hand: over `abc` they share the `b`.
use Rattle.std.proofs.Common.{◌≡◌, ◌≢◌, ℕ, zero, suc, true, Some, None, List, [], ◌∷◌, length, sym, refl, ap, subst, inl, inr, arith}
use Rattle.std.specs.Prelude.{unwrap_or}
use Rattle.std.proofs.lemmas.Bool.{false≢true}
use Rattle.rbbi_model.specs.Ranges.{Has}
use Rattle.rbbi_model.specs.Spelling.{Tree, Leaf, Then, Spells}
use Rattle.rbbi_model.specs.Rules.{Rule, LooksAhead}
use Rattle.rbbi_model.specs.Chains.{IsRule, EndsAt, Word, Chained, IsTagAt}
use Rattle.rbbi_model.specs.LeafSets.{first_position, EndedBefore, InLeafSet}

abbrev letter : ℕ → Tree
letter c = Leaf (record { low = c; high = c } ∷ [])

has_letter : (c : ℕ) → Has (record { low = c; high = c } ∷ []) c
has_letter c = inl (omega arith, omega arith)

abbrev rule_ab : Rule
rule_ab = record { front = Then (letter 97) (letter 98); rest = None; chained_into = true; tag = None; place = 0 }

abbrev rule_bc : Rule
rule_bc = record { front = Then (letter 98) (letter 99); rest = None; chained_into = true; tag = Some 7; place = 6 }

abbrev rules : List Rule
rules = rule_ab ∷ rule_bc ∷ []

-- two letters in a row
pair : (a b : ℕ) → Spells (Then (letter a) (letter b)) (a ∷ b ∷ [])
pair a b = (a ∷ [], b ∷ [], (a, has_letter a, refl), (b, has_letter b, refl), refl)

some_pair : (a b : ℕ) → a ∷ b ∷ [] ≢ []
some_pair a b same = omega (arith, ap length same)

abbrev abc : List ℕ
abc = 97 ∷ 98 ∷ 99 ∷ []

ab_ends : EndsAt rules abc 0 2 0
ab_ends = Word 2 0 rule_ab refl (record { starts = omega arith; ends = omega arith; word = (some_pair 97 98, pair 97 98) })

-- the second rule ends at 3 by the `b` that it shares with the first
bc_ends : EndsAt rules abc 0 3 1
bc_ends = Chained 2 0 3 1 rule_bc ab_ends refl refl (record { starts = omega arith; ends = omega arith; word = (some_pair 98 99, pair 98 99) })

seven_at_3 : IsTagAt rules abc 0 3 7
seven_at_3 = record { number = 1; rule = rule_bc; is_rule = refl; ends = bc_ends; tagged = refl }

-- after `ab` the last character is read by the second position, the end of the first rule, and by the third, with which the
-- second rule would go on

no_rule : (rule : Rule) → None ≡ Some rule → ⊥
no_rule rule is = grind arith

no_rest : (number : ℕ) (rule : Rule) → IsRule rules number rule → LooksAhead rule → ⊥
no_rest zero rule is looks = false≢true (subst (λ r. LooksAhead r) (sym (ap (λ o. unwrap_or o rule_ab) is)) looks)
no_rest (suc zero) rule is looks = false≢true (subst (λ r. LooksAhead r) (sym (ap (λ o. unwrap_or o rule_bc) is)) looks)
no_rest (suc (suc number)) rule is looks = no_rule rule is

none_before : (w : List ℕ) → EndedBefore rules w → ⊥
none_before w ended = no_rest ended.number ended.ends.rule ended.ends.is_rule ended.ends.looks_ahead

second_position : first_position rules 1 ≡ 2
second_position = refl

read_by_the_first : InLeafSet rules (97 ∷ 98 ∷ []) 1
read_by_the_first = (
  none_before (97 ∷ 98 ∷ []),
  inl (record {
    number = 0;
    rule = rule_ab;
    is_rule = refl;
    reads = record {
      positions = 0 ∷ 1 ∷ [];
      spelled = (0 ∷ [], 1 ∷ [], refl, refl, refl);
      reads = ((record { low = 97; high = 97 } ∷ [], refl, has_letter 97), ((record { low = 98; high = 98 } ∷ [], refl, has_letter 98), tt));
      some = some_pair 97 98;
      last = refl;
    };
  }),
)

read_by_the_second : InLeafSet rules (97 ∷ 98 ∷ []) 2
read_by_the_second = (
  none_before (97 ∷ 98 ∷ []),
  inr (record {
    m = 2;
    before = 0;
    ends = Word 2 0 rule_ab refl (record { starts = omega arith; ends = omega arith; word = (some_pair 97 98, pair 97 98) });
    number = 1;
    rule = rule_bc;
    is_rule = refl;
    chained_into = refl;
    reads = record {
      positions = 2 ∷ 3 ∷ [];
      spelled = (2 ∷ [], 3 ∷ [], refl, refl, refl);
      reads = ((record { low = 98; high = 98 } ∷ [], refl, has_letter 98), tt);
      some = λ same. omega (arith, ap length same);
      last = refl;
    };
  }),
)
