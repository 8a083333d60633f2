-- The rules `a;` and their table, worked by hand: the table is compiled from the rules, and both give the boundaries of `ab`.
use Rattle.std.proofs.Common.{◌≡◌, ◌≢◌, ℕ, zero, suc, ◌+◌, ◌-◌, ◌<◌, ◌≤◌, ◌⊎◌, ◌↔◌, false, Some, None, List, [], ◌∷◌, length, drop, get_or, map, sym, refl, ap}
use Rattle.std.proofs.Common.{◌∙◌, subst, inl, inr, ⊎_elim, arith}
use Rattle.std.specs.Prelude.{slice_range, IsTrue, unwrap_or}
use Rattle.std.proofs.lemmas.Bool.{cases_eq, cases_order, false≢true}
use Rattle.std.proofs.lemmas.List.{length-take, length-drop, take_all}
use Rattle.rbbi_model.specs.Words.{IsCodePoint, IsWord}
use Rattle.rbbi_model.specs.Ranges.{Range, Has}
use Rattle.rbbi_model.specs.Places.{has_bit}
use Rattle.rbbi_model.specs.Spelling.{Leaf}
use Rattle.rbbi_model.specs.Rules.{Rule, LooksAhead, IsWordOf}
use Rattle.rbbi_model.specs.Chains.{IsRule, EndsAt, Word, FrontEndsAt, IsTagAt, AreTags}
use Rattle.rbbi_model.specs.Boundaries.{LookAheadEndsAt, IsNext, AreBoundaries}
use Rattle.rbbi_model.specs.Tables.{accept_of, fronts_of, list_of, step, row_along, row_after, category_of}
use Rattle.rbbi_model.specs.SafePairs.{stored_bit, is_safe}
use Rattle.rbbi_model.specs.ValidTables.{AreValidRanges, IsValidRow, IsWay, IsValidTable}
use Rattle.rbbi_model.specs.Searches.{table_boundaries}
use Rattle.rbbi_model.specs.LeafSets.{EndedBefore}
use Rattle.rbbi_model.specs.Marks.{no_marks, marks_of, HasFront, AreMarks, HasSameMarks}
use Rattle.rbbi_model.specs.Compiled.{IsLeast, IsRead, AreAlike, AreClasses, IsCompiled}
use Rattle.rbbi_model.proofs.Unchained.{NoneChainedInto, unchained}
use Rattle.rbbi_model.proofs.Cuts.{no_bit}
use Rattle.rbbi_model.proofs.Categories.{one_category, category_within}
use Rattle.rbbi_model.proofs.Worked.{table_a, ab}

-- `a` alone
abbrev set_a : List Range
set_a = record { low = 97; high = 97 } ∷ []

abbrev rule_a : Rule
rule_a = record { front = Leaf set_a; rest = None; chained_into = false; tag = None; place = 0 }

abbrev rules_a : List Rule
rules_a = rule_a ∷ []

no_number : {X : Type 0} (x : X) → None ≡ Some x → ⊥
no_number x is = grind arith

-- the one rule
is_rule_a : (number : ℕ) (rule : Rule) → IsRule rules_a number rule → (number ≡ 0) × (rule_a ≡ rule)
is_rule_a zero rule is = (refl, ap (λ o. unwrap_or o rule_a) is)
is_rule_a (suc number) rule is = absurd (no_number rule is)

none_chained : NoneChainedInto rules_a
none_chained number rule is = sym (ap (λ r. r.chained_into) (is_rule_a number rule is).1)

in_set_a : (c : ℕ) → Has set_a c → c ≡ 97
in_set_a c has = ⊎_elim (λ own. omega (arith, own.0, own.1)) (λ none. absurd none) has

word_a : (w : List ℕ) → IsWordOf rule_a w → w ≡ 97 ∷ []
word_a w word = word.1.2 ∙ ap (λ c. c ∷ []) (in_set_a word.1.0 word.1.1)

is_word_a : IsWordOf rule_a (97 ∷ [])
is_word_a = (λ same. absurd (omega (arith, ap length same)), (97, inl (omega arith, omega arith), refl))

-- where a rule ends, an `a` stands
ends_a : (x : List ℕ) (s e number : ℕ) → EndsAt rules_a x s e number → (slice_range x s e ≡ 97 ∷ []) × (s ≤ e) × (e ≤ length x)
ends_a x s e number ends =
    let at = unchained rules_a x s e number none_chained ends in (
      word_a (slice_range x s e) (subst (λ r. IsWordOf r (slice_range x s e)) (sym (is_rule_a number at.rule at.is_rule).1) at.piece.word),
      at.piece.starts,
      at.piece.ends,
    )

-- so it is one character long
one_long : (x : List ℕ) (s e number : ℕ) → EndsAt rules_a x s e number → e ≡ s + 1
one_long x s e number ends =
    let is = ends_a x s e number ends in
    omega (arith, ap length is.0, length-take (e - s) (drop s x), length-drop s x, is.1, is.2)

no_look_ahead : (x : List ℕ) (s e number : ℕ) → LookAheadEndsAt rules_a x s e number → ⊥
no_look_ahead x s e number ends =
    false≢true (subst (λ r. LooksAhead r) (sym (is_rule_a number ends.rule ends.is_rule).1) ends.looks_ahead)

no_front : (x : List ℕ) (s q number : ℕ) → FrontEndsAt rules_a x s q number → ⊥
no_front x s q number ends =
    ⊎_elim
    (λ piece. looks_not ends.rule ends.is_rule piece.word.0)
    (λ chained. looks_not ends.rule ends.is_rule chained.piece.word.0)
    ends.front
  where
    looks_not : (rule : Rule) → IsRule rules_a number rule → LooksAhead rule → ⊥
    looks_not rule is looks = false≢true (subst (λ r. LooksAhead r) (sym (is_rule_a number rule is).1) looks)

no_tag : (x : List ℕ) (s e tag : ℕ) → IsTagAt rules_a x s e tag → ⊥
no_tag x s e tag at = no_number tag (ap (λ r. r.tag) (is_rule_a at.number at.rule at.is_rule).1 ∙ at.tagged)

tags_a : (x : List ℕ) (s e : ℕ) → AreTags rules_a x s e (0 ∷ [])
tags_a x s e =
    record {
      rising = tt;
      exactly = λ tag. (
        λ here. inr (⊎_elim (λ is. sym is) (λ none. absurd none) here, λ other. no_tag x s e other),
        λ either. inl (⊎_elim (λ at. absurd (no_tag x s e tag at)) (λ is. sym is.0) either),
      );
    }

-- the boundaries of `ab` by the rules: the longest match, then one character
longest_in_ab : IsNext rules_a ab 0 (record { at = 1; statuses = 0 ∷ [] })
longest_in_ab =
    inr (inl (record {
      no_look_ahead = no_look_ahead ab 0;
      ends = (0, Word 1 0 rule_a refl (record { starts = omega arith; ends = omega arith; word = is_word_a }));
      greatest = λ e number ends. omega (arith, one_long ab 0 e number ends);
      statuses = tags_a ab 0 1;
    }))

single_in_ab : IsNext rules_a ab 1 (record { at = 2; statuses = 0 ∷ [] })
single_in_ab =
    inr (inr (record {
      no_end = λ e number ends.
          let is = ends_a ab 1 e number ends in
          let at : e ≡ 2 = one_long ab 1 e number ends in
          let found : 98 ∷ [] ≡ 97 ∷ [] = subst (λ k. slice_range ab 1 k ≡ 97 ∷ []) at is.0 in
          omega (arith, ap (λ l. get_or l 0 0) found);
      at = refl;
      statuses = refl;
    }))

rules_give_ab : AreBoundaries rules_a ab (table_boundaries table_a ab)
rules_give_ab = (refl, (omega arith, longest_in_ab, (omega arith, single_in_ab, refl)))

-- the table is valid

-- every row leads to row 0, but row 1 also to row 2
leads : (row category : ℕ) → row < 3 → category < 2 → (step table_a row category ≡ 0) ⊎ ((row ≡ 1) × (step table_a row category ≡ 2))
leads zero zero r c = inl refl
leads zero (suc zero) r c = inl refl
leads (suc zero) zero r c = inl refl
leads (suc zero) (suc zero) r c = inr (refl, refl)
leads (suc (suc zero)) zero r c = inl refl
leads (suc (suc zero)) (suc zero) r c = inl refl
leads (suc (suc (suc row))) category r c = absurd (omega (arith, r))
leads zero (suc (suc category)) r c = absurd (omega (arith, c))
leads (suc zero) (suc (suc category)) r c = absurd (omega (arith, c))
leads (suc (suc zero)) (suc (suc category)) r c = absurd (omega (arith, c))

leads_to_0 : (row category : ℕ) → row < 3 → category < 2 → row ≢ 1 → step table_a row category ≡ 0
leads_to_0 row category r c other = ⊎_elim (λ is. is) (λ from_1. absurd (other from_1.0)) (leads row category r c)

open_leads : (first second from : ℕ) → first < 2 → second < 2 → from < 3 → step table_a (step table_a from first) second ≡ 0
open_leads first second from f s r =
    ⊎_elim
    (λ is. leads_to_0 (step table_a from first) second (omega arith) s (λ one. omega arith))
    (λ is. leads_to_0 (step table_a from first) second (omega (arith, is.1)) s (λ one. omega (arith, is.1)))
    (leads from first r f)

all_safe : (first second : ℕ) → first < 2 → second < 2 → IsTrue (is_safe table_a first second)
all_safe zero zero f s = refl
all_safe zero (suc zero) f s = refl
all_safe (suc zero) zero f s = refl
all_safe (suc zero) (suc zero) f s = refl
all_safe (suc (suc first)) second f s = absurd (omega (arith, f))
all_safe zero (suc (suc second)) f s = absurd (omega (arith, s))
all_safe (suc zero) (suc (suc second)) f s = absurd (omega (arith, s))

no_filling : (i : ℕ) → 4 ≤ i → i < 8 → IsTrue (stored_bit (0x0F ∷ []) i) → ⊥
no_filling i low high is = four (i - 4) (omega arith) (subst (λ j. IsTrue (stored_bit (0x0F ∷ []) j)) (let e : i ≡ 4 + (i - 4) = omega arith in e) is)
  where
    four : (j : ℕ) → j < 4 → IsTrue (stored_bit (0x0F ∷ []) (4 + j)) → ⊥
    four zero short on = false≢true on
    four (suc zero) short on = false≢true on
    four (suc (suc zero)) short on = false≢true on
    four (suc (suc (suc zero))) short on = false≢true on
    four (suc (suc (suc (suc j)))) short on = omega (arith, short)

cell_within : (row category : ℕ) → row < 3 → category < 2 → step table_a row category < 3
cell_within row category r c = ⊎_elim (λ is. omega arith) (λ is. omega (arith, is.1)) (leads row category r c)

-- no look-ahead rule is completed anywhere
pub small_accept : (row : ℕ) → accept_of table_a row ≤ 1
small_accept zero = omega arith
small_accept (suc zero) = omega arith
small_accept (suc (suc zero)) = omega arith
small_accept (suc (suc (suc row))) = omega arith

bare_head : (row : ℕ) → (fronts_of table_a row ≡ 0) × (list_of table_a row ≡ 0)
bare_head zero = (refl, refl)
bare_head (suc zero) = (refl, refl)
bare_head (suc (suc zero)) = (refl, refl)
bare_head (suc (suc (suc row))) = (refl, refl)

row_valid : (row : ℕ) → row < 3 → IsValidRow table_a row
row_valid row r = record {
  accept = small_accept row;
  fronts = omega (arith, (bare_head row).0);
  list = omega (arith, (bare_head row).1);
  next = λ c short. cell_within row c r short;
  unended = λ _. (bare_head row).1;
  completed = λ many. absurd (omega (arith, many, small_accept row));
}

stop_leads : (category : ℕ) → category < 2 → step table_a 0 category ≡ 0
stop_leads category short = leads_to_0 0 category (omega arith) short (λ same. omega (arith, same))

pub ranges_valid : AreValidRanges 2 table_a.ranges
ranges_valid =
    record {
      some_categories = omega arith;
      few_categories = omega arith;
      some_ranges = omega arith;
      from_zero = refl;
      apart = (omega arith, omega arith, (omega arith, omega arith, tt));
      within = ((omega arith, omega arith), ((omega arith, omega arith), ((omega arith, omega arith), tt)));
    }

pub table_valid : IsValidTable table_a
table_valid =
    record {
      well_formed = record { cells = refl; safe = refl; bytes = (omega arith, tt) };
      ranges = ranges_valid;
      lists = record {
        some = omega arith;
        few = omega arith;
        each = (
          record { some = omega arith; few = omega arith; rising = tt; small = (omega arith, tt) },
          tt,
        );
        first = refl;
        in_order = tt;
      };
      rows = record {
        some = omega arith;
        few = omega arith;
        few_slashes = omega arith;
        each = row_valid;
        stop = (refl, refl, refl);
        start = (refl, refl, refl);
        stop_leads = stop_leads;
      };
      fronts = λ way k is completed. absurd (omega (arith, completed, small_accept (row_along table_a 1 way)));
      safe = record {
        exactly = λ first second f s. (λ _. (0, λ from r is. open_leads first second from f s r), λ _. all_safe first second f s);
        filling =
            no_filling;
      };
    }

-- the marks of the rules after a word: an `a` ends, and nothing else

whole : (w : List ℕ) → slice_range w 0 (length w) ≡ w
whole w = take_all (length w - 0) w (omega arith)

ended_a : (w : List ℕ) (number : ℕ) → EndsAt rules_a w 0 (length w) number → w ≡ 97 ∷ []
ended_a w number ends = sym (whole w) ∙ (ends_a w 0 (length w) number ends).0

none_before : (w : List ℕ) → EndedBefore rules_a w → ⊥
none_before w ended = no_look_ahead w 0 ended.e ended.number ended.ends

no_fronts_here : (w : List ℕ) (k : ℕ) → IsTrue (has_bit 0 k) ↔ HasFront rules_a w k
no_fronts_here w k = (λ bit. absurd (no_bit 0 k refl bit), λ front. absurd (no_front w 0 (length w) front.number front.front))

marks_of_a : AreMarks rules_a (97 ∷ []) (record { accept = 1; fronts = 0; statuses = 0 ∷ [] })
marks_of_a =
    inr (
      none_before (97 ∷ []),
      record {
        accept = inr (inl (record {
          number = 0;
          ends = Word 1 0 rule_a refl (record { starts = omega arith; ends = omega arith; word = is_word_a });
          no_look_ahead = λ other. no_look_ahead (97 ∷ []) 0 1 other;
          is_one = refl;
        }));
        fronts = λ _ k. no_fronts_here (97 ∷ []) k;
        no_fronts = λ _. refl;
        statuses = tags_a (97 ∷ []) 0 1;
      },
    )

marks_of_others : (w : List ℕ) → (w ≡ 97 ∷ [] → ⊥) → AreMarks rules_a w no_marks
marks_of_others w other =
    inr (
      none_before w,
      record {
        accept = inr (inr (record { no_end = λ number ends. other (ended_a w number ends); is_zero = refl }));
        fronts = λ _ k. no_fronts_here w k;
        no_fronts = λ _. refl;
        statuses = tags_a w 0 (length w);
      },
    )

-- the rows of the table after a word

stuck : (w : List ℕ) → row_along table_a 0 (map (category_of table_a.ranges) w) ≡ 0
stuck [] = refl
stuck (c ∷ w) =
    ap (λ row. row_along table_a row (map (category_of table_a.ranges) w))
    (stop_leads (category_of table_a.ranges c) (category_within 2 table_a.ranges c ranges_valid)) ∙ stuck w

pub other_category : (c : ℕ) → IsCodePoint c → (c ≡ 97 → ⊥) → category_of table_a.ranges c ≡ 0
other_category c small other =
    ⊎_elim
    (λ is. absurd (other is))
    (⊎_elim
    (λ less. sym ((one_category 2 table_a.ranges c 0 ranges_valid small).0 (inl (omega arith, omega arith, refl))))
    (λ more. sym ((one_category 2 table_a.ranges c 0 ranges_valid small).0 (inr (inr (omega arith, small, refl))))))
    (cases_order c 97)

row_of_others : (w : List ℕ) → IsWord w → w ≢ [] → (w ≡ 97 ∷ [] → ⊥) → row_after table_a w ≡ 0
row_of_others [] is some other = absurd (some refl)
row_of_others (c ∷ []) is some other = ap (λ k. step table_a 1 k) (other_category c is.0 (λ same. other (ap (λ d. d ∷ []) same)))
row_of_others (c ∷ d ∷ w) is some other =
    ap (λ row. row_along table_a row (map (category_of table_a.ranges) w))
    (open_leads (category_of table_a.ranges c) (category_of table_a.ranges d) 1 (category_within 2 table_a.ranges c ranges_valid)
    (category_within 2 table_a.ranges d ranges_valid) (omega arith))
    ∙ stuck w

is_a_or_not : (w : List ℕ) → (w ≡ 97 ∷ []) ⊎ (w ≡ 97 ∷ [] → ⊥)
is_a_or_not [] = inr (λ same. omega (arith, ap length same))
is_a_or_not (c ∷ []) = ⊎_elim (λ is. inl (ap (λ d. d ∷ []) is)) (λ isnt. inr (λ same. isnt (ap (λ l. get_or l 0 0) same))) (cases_eq c 97)
is_a_or_not (c ∷ d ∷ w) = inr (λ same. omega (arith, ap length same))

same_marks : HasSameMarks table_a rules_a
same_marks =
    record {
      slashes = refl;
      each = λ w is some.
          ⊎_elim
          (λ same. subst (λ v. AreMarks rules_a v (marks_of table_a (row_after table_a v))) (sym same) marks_of_a)
          (λ other. subst (λ row. AreMarks rules_a w (marks_of table_a row)) (sym (row_of_others w is some other)) (marks_of_others w other))
          (is_a_or_not w);
    }

-- the table is least

reached : (row : ℕ) → row ≢ 0 → row < 3 → (way : List ℕ) × IsWay table_a way × (row_along table_a 1 way ≡ row)
reached zero some short = absurd (some refl)
reached (suc zero) some short = ([], tt, refl)
reached (suc (suc zero)) some short = (1 ∷ [], (omega arith, tt), refl)
reached (suc (suc (suc row))) some short = absurd (omega (arith, short))

apart : (this that : ℕ) → this < that → that < 3 → ¬ ((this ≡ 0) × (that ≡ 1)) → (way : List ℕ) × IsWay table_a way ×
    (marks_of table_a (row_along table_a this way) ≢ marks_of table_a (row_along table_a that way))
apart zero zero less short differ = absurd (omega (arith, less))
apart zero (suc zero) less short differ = absurd (differ (refl, refl))
apart zero (suc (suc zero)) less short differ = ([], tt, λ same. omega (arith, ap (λ m. m.accept) same))
apart (suc zero) (suc (suc zero)) less short differ = ([], tt, λ same. omega (arith, ap (λ m. m.accept) same))
apart this (suc (suc (suc that))) less short differ = absurd (omega (arith, short))
apart (suc this) zero less short differ = absurd (omega (arith, less))
apart (suc this) (suc zero) less short differ = absurd (omega (arith, less))
apart (suc (suc this)) (suc (suc zero)) less short differ = absurd (omega (arith, less))

pub least : IsLeast table_a
least = record { reached = reached; apart = apart; lists = λ list some short. absurd (some (omega (arith, short))) }

-- its categories are the classes of the one set

read_a : (c : ℕ) → IsRead rules_a c → c ≡ 97
read_a c read = by_place read.0 read.1 read.2 read.3 read.4
  where
    by_place : (k : ℕ) (set : List Range) → k < 1 → get_or (set_a ∷ []) k set ≡ set → Has set c → c ≡ 97
    by_place zero set short same has = in_set_a c (subst (λ s. Has s c) (sym same) has)
    by_place (suc k) set short same has = absurd (omega (arith, short))

is_read_a : IsRead rules_a 97
is_read_a = (0, set_a, omega arith, refl, inl (omega arith, omega arith))

pub category_a : (c : ℕ) → c ≡ 97 → category_of table_a.ranges c ≡ 1
category_a c is = ap (λ d. category_of table_a.ranges d) is

alike_a : (c d : ℕ) → IsCodePoint c → IsCodePoint d → (category_of table_a.ranges c ≡ category_of table_a.ranges d) ↔ AreAlike rules_a c d
alike_a c d small small' =
    ⊎_elim
    (λ is.
    ⊎_elim
    (λ is'. (
      λ _. ((λ _. subst (λ e. Has set_a e) (sym is') has_a, λ _. subst (λ e. Has set_a e) (sym is) has_a), tt),
      λ _. category_a c is ∙
          sym (category_a d is'),
    ))
    (λ other. (
      λ same. absurd (omega (arith, category_a c is, other_category d small' other, same)),
      λ alike. absurd (other (in_set_a d (alike.0.0 (subst (λ e. Has set_a e) (sym is) has_a)))),
    ))
    (cases_eq d 97))
    (λ other.
    ⊎_elim
    (λ is'. (
      λ same. absurd (omega (arith, category_a d is', other_category c small other, same)),
      λ alike. absurd (other (in_set_a c (alike.0.1 (subst (λ e. Has set_a e) (sym is') has_a)))),
    ))
    (λ other'. (
      λ _. ((λ has. absurd (other (in_set_a c has)), λ has. absurd (other' (in_set_a d has))), tt),
      λ _. other_category c small other ∙
          sym (other_category d small' other'),
    ))
    (cases_eq d 97))
    (cases_eq c 97)
  where
    has_a : Has set_a 97
    has_a = inl (omega arith, omega arith)

classes : AreClasses rules_a table_a.categories table_a.ranges
classes =
    record {
      none = λ c small. (
        λ is read. omega (arith, is, category_a c (read_a c read)),
        λ unread. other_category c small (λ is. unread (subst (λ d. IsRead rules_a d) (sym is) is_read_a)),
      );
      alike = alike_a;
      used = λ category some short. (97, omega arith, (let is : 1 ≡ category = omega arith in is));
      numbered = λ category later d some less small is. absurd (omega (arith, category_within 2 table_a.ranges d ranges_valid, is, some, less));
    }

-- the table of `a;` is compiled from the rules
compiled : IsCompiled table_a rules_a
compiled = record { valid = table_valid; same = same_marks; least = least; classes = classes }
