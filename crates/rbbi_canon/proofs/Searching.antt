-- Pairs of rows that are searched for a difference, and what it says that none is found.
use Rattle.std.proofs.Common.{◌≡◌, ℕ, zero, suc, ◌+◌, ◌-◌, ◌<◌, ◌≤◌, cond, List, [], ◌∷◌, ◌++◌, length, map, get_or, refl, ap, sym, ◌∙◌, subst}
use Rattle.std.proofs.Common.{arith, ltb, below_more}
use Rattle.std.proofs.lemmas.Bool.{cond-true, cond-false, lt-ltb, le-ltb}
use Rattle.std.proofs.lemmas.List.{get_or_append_left, get_or_push, length_push}
use Rattle.rbbi_model.specs.Words.{IsCharacter, IsText}
use Rattle.rbbi_model.specs.Tables.{Table, category_of, step, row_along}
use Rattle.rbbi_model.specs.ValidTables.{IsValidTable}
use Rattle.rbbi_model.specs.Marks.{Marks, marks_of}
use Rattle.rbbi_model.specs.Canonical.{AreMarkedAlike}
use Rattle.rbbi_model.proofs.Categories.{category_within}
use Rattle.rbbi_canon.specs.declared.letters.Letter.{Letter}
use Rattle.rbbi_canon.specs.declared.pairs.Pair.{Pair}
use Rattle.rbbi_canon.specs.Differences.{TellsApart}
use Rattle.rbbi_canon.specs.inner.Joins.{JoinsLabels, AreJoinedBy}
use Rattle.rbbi_canon.specs.inner.Letters.{letter_at, AreLetters, StayConnected}
use Rattle.rbbi_canon.specs.inner.Pairs.{pair_at, IsLed, AreReached, LeadsToPair, AreFollowed, AreSearched}
use Rattle.rbbi_canon.proofs.Rows.{marks_by_parts, next_row, start_marks}
use Rattle.rbbi_canon.proofs.Sets.{none_joined, one_more, stay, joined_now}

-- marks as a list
abbrev listed : Marks → List ℕ
listed marks = marks.accept ∷ marks.fronts ∷ marks.statuses

same_marks : (this that : Marks) → listed this ≡ listed that → this ≡ that
same_marks this that e = marks_by_parts this that (cc) (cc) (cc)

same_only : (m n : ℕ) → (m ∷ []) ≡ (n ∷ []) → m ≡ n
same_only m n e = cc

module _ (these those : Table) (valid : IsValidTable these) (valid' : IsValidTable those) (letters : List Letter) (are : AreLetters these those letters) where
  none : Pair
  none = record { this = 0; that = 0; «from» = 0; letter = 0 }

  pub letter_low : (k : ℕ) → k < length letters → (letter_at letters k).this < these.categories
  letter_low k short =
      let letter = are.each k short in
      subst (λ n. n < these.categories) letter.this (category_within these.categories these.ranges (letter_at letters k).character valid.ranges)

  pub letter_low' : (k : ℕ) → k < length letters → (letter_at letters k).that < those.categories
  letter_low' k short =
      let letter = are.each k short in
      subst (λ n. n < those.categories) letter.that (category_within those.categories those.ranges (letter_at letters k).character valid'.ranges)

  module _ (pairs : List Pair) (reached : AreReached these those letters pairs) (pair : Pair) (before : pair.from < length pairs)
      (letter : pair.letter < length letters) (this : step these (pair_at pairs pair.from).this (letter_at letters pair.letter).this ≡ pair.this)
      (that : step those (pair_at pairs pair.from).that (letter_at letters pair.letter).that ≡ pair.that) where
    abbrev More : List Pair
    More = pairs ++ pair ∷ []

    pub old_pair : (k : ℕ) → k < length pairs → pair_at More k ≡ pair_at pairs k
    unfolding none
    old_pair k short = get_or_append_left pairs (pair ∷ []) none k short

    pub new_pair : pair_at More (length pairs) ≡ pair
    unfolding none
    new_pair = get_or_push pairs pair none (length pairs) refl

    more_pairs : length More ≡ length pairs + 1
    more_pairs = length_push pairs pair

    old_led : (k : ℕ) → k < length pairs → IsLed these those letters pairs k → IsLed these those letters More k
    old_led k short led =
        let same = old_pair k short in
        let at : ℕ = (pair_at pairs k).from in
        let from_same : pair_at More (pair_at More k).from ≡ pair_at pairs at =
        ap (λ (p : Pair). pair_at More p.from) same ∙ old_pair at (omega (arith, led.before, short)) in
        record {
          before = subst (λ (p : Pair). p.from < k) (sym same) led.before;
          letter = subst (λ (p : Pair). p.letter < length letters) (sym same) led.letter;
          this = ap (λ (p : Pair). step these p.this (letter_at letters (pair_at More k).letter).this) from_same
              ∙ ap (λ (p : Pair). step these (pair_at pairs at).this (letter_at letters p.letter).this) same ∙ led.this
              ∙ ap (λ (p : Pair). p.this) (sym same);
          that = ap (λ (p : Pair). step those p.that (letter_at letters (pair_at More k).letter).that) from_same
              ∙ ap (λ (p : Pair). step those (pair_at pairs at).that (letter_at letters p.letter).that) same ∙ led.that
              ∙ ap (λ (p : Pair). p.that) (sym same);
        }

    new_led : IsLed these those letters More (length pairs)
    new_led =
        let same = new_pair in
        let from_same : pair_at More (pair_at More (length pairs)).from ≡ pair_at pairs pair.from =
        ap (λ (p : Pair). pair_at More p.from) same ∙ old_pair pair.from before in
        record {
          before = subst (λ (p : Pair). p.from < length pairs) (sym same) before;
          letter = subst (λ (p : Pair). p.letter < length letters) (sym same) letter;
          this = ap (λ (p : Pair). step these p.this (letter_at letters (pair_at More (length pairs)).letter).this) from_same
              ∙ ap (λ (p : Pair). step these (pair_at pairs pair.from).this (letter_at letters p.letter).this) same ∙ this
              ∙ ap (λ (p : Pair). p.this) (sym same);
          that = ap (λ (p : Pair). step those p.that (letter_at letters (pair_at More (length pairs)).letter).that) from_same
              ∙ ap (λ (p : Pair). step those (pair_at pairs pair.from).that (letter_at letters p.letter).that) same ∙ that
              ∙ ap (λ (p : Pair). p.that) (sym same);
        }

    pair_rows : (pair.this < length these.rows) × (pair.that < length those.rows)
    pair_rows =
        let rows = reached.rows pair.from before in (
          subst (λ n. n < length these.rows) this (next_row these valid (pair_at pairs pair.from).this (letter_at letters pair.letter).this rows.0
              (letter_low pair.letter letter)),
          subst (λ n. n < length those.rows) that (next_row those valid' (pair_at pairs pair.from).that (letter_at letters pair.letter).that rows.1
              (letter_low' pair.letter letter)),
        )

    -- a letter leads to one more pair
    pub pair_more : AreReached these those letters More
    pair_more = record {
      some = omega (arith, more_pairs);
      first_this = ap (λ (p : Pair). p.this) (old_pair 0 (omega (arith, reached.some))) ∙ reached.first_this;
      first_that = ap (λ (p : Pair). p.that) (old_pair 0 (omega (arith, reached.some))) ∙ reached.first_that;
      rows = λ k short. below_more (λ n. ((pair_at More n).this < length these.rows) × ((pair_at More n).that < length those.rows)) (length pairs)
          (λ n less. subst (λ (p : Pair). (p.this < length these.rows) × (p.that < length those.rows)) (sym (old_pair n less)) (reached.rows n less))
          (subst (λ (p : Pair). (p.this < length these.rows) × (p.that < length those.rows)) (sym new_pair) pair_rows)
          k (omega (arith, short, more_pairs));
      each = λ k one short. below_more (λ n. 1 ≤ n → IsLed these those letters More n) (length pairs)
          (λ n less some. old_led n less (reached.each n some less)) (λ some. new_led) k (omega (arith, short, more_pairs)) one;
    }

    -- which has the same marks in both tables, and is joined
    pub searched_more : (labels new : List ℕ) (next : ℕ) → AreSearched these those letters labels pairs next → next < length pairs →
        marks_of these pair.this ≡ marks_of those pair.that → JoinsLabels labels pair.this (length these.rows + pair.that) new →
        AreSearched these those letters new More next
    searched_more labels new next h next_low marked joins =
        let count : ℕ = length these.rows + length those.rows in
        let rows = pair_rows in
        let this_is : (pair_at More (length pairs)).this ≡ pair.this = ap (λ (p : Pair). p.this) new_pair in
        let that_is : length these.rows + (pair_at More (length pairs)).that ≡ length these.rows + pair.that =
        ap (λ (p : Pair). length these.rows + p.that) new_pair in
        record {
          reached = pair_more;
          joined = subst (λ n. AreJoinedBy count new n (λ k. (pair_at More k).this) (λ k. length these.rows + (pair_at More k).that)) (sym more_pairs)
              (one_more count labels new (length pairs) (λ k. (pair_at pairs k).this) (λ k. length these.rows + (pair_at pairs k).that)
              (λ k. (pair_at More k).this) (λ k. length these.rows + (pair_at More k).that)
              h.joined (λ k less. ap (λ (p : Pair). p.this) (old_pair k less)) (λ k less. ap (λ (p : Pair). length these.rows + p.that) (old_pair k less))
              (omega (arith, this_is, rows.0)) (omega (arith, that_is, rows.1))
              (subst (λ n. JoinsLabels labels n (length these.rows + (pair_at More (length pairs)).that) new) (sym this_is)
              (subst (λ n. JoinsLabels labels pair.this n new) (sym that_is) joins)));
          marked = λ k short. below_more (λ n. marks_of these (pair_at More n).this ≡ marks_of those (pair_at More n).that) (length pairs)
              (λ n less. ap (λ (p : Pair). marks_of these p.this) (old_pair n less) ∙ h.marked n less ∙
              ap (λ (p : Pair). marks_of those p.that) (sym (old_pair n less)))
              (ap (λ (p : Pair). marks_of these p.this) new_pair ∙ marked ∙ ap (λ (p : Pair). marks_of those p.that) (sym new_pair))
              k (omega (arith, short, more_pairs));
          followed = λ k number less low.
              subst (λ (p : Pair). AreFollowed these those letters new p number) (sym (old_pair k (omega (arith, less, next_low))))
              (followed_still labels new (stay labels pair.this (length these.rows + pair.that) new joins) h.joined.all (pair_at pairs k) number
              (reached.rows k (omega (arith, less, next_low))) low (h.followed k number less low));
        }
      where
        followed_still : (labels new : List ℕ) → StayConnected labels new → length labels ≡ length these.rows + length those.rows →
            (p : Pair) (number : ℕ) → (p.this < length these.rows) × (p.that < length those.rows) → number < length letters →
            AreFollowed these those letters labels p number → AreFollowed these those letters new p number
        followed_still labels new h all p number rows low is =
            h.stay (step these p.this (letter_at letters number).this) (length these.rows + step those p.that (letter_at letters number).that)
            (omega (arith, all, next_row these valid p.this (letter_at letters number).this rows.0 (letter_low number low)))
            (omega (arith, all, next_row those valid' p.that (letter_at letters number).that rows.1 (letter_low' number low))) is

  -- letters lead from a pair to rows
  pub follows_within : (pairs : List Pair) (next number : ℕ) (pair : Pair) → AreReached these those letters pairs → next < length pairs
      → pair_at pairs next ≡ pair →
      number < length letters →
      (step these pair.this (letter_at letters number).this < length these.rows) × (step those pair.that (letter_at letters number).that < length those.rows)
  follows_within pairs next number pair reached low is number_low =
      let rows = subst (λ (p : Pair). (p.this < length these.rows) × (p.that < length those.rows)) is (reached.rows next low) in (
        next_row these valid pair.this (letter_at letters number).this rows.0 (letter_low number number_low),
        next_row those valid' pair.that (letter_at letters number).that rows.1 (letter_low' number number_low),
      )

  -- one more pair, which a letter leads to from this one
  module _ (pairs : List Pair) (labels : List ℕ) (next number this that : ℕ) (pair new : Pair) (searched : AreSearched these those letters labels pairs next)
      (low : next < length pairs) (is : pair_at pairs next ≡ pair) (number_low : number < length letters)
      (this_is : this ≡ step these pair.this (letter_at letters number).this) (that_is : that ≡ step those pair.that (letter_at letters number).that)
      (new_is : new ≡ record { this = this; that = that; «from» = next; letter = number }) where
    led_this : step these (pair_at pairs new.from).this (letter_at letters new.letter).this ≡ new.this
    led_this =
        ap (λ (p : Pair). step these (pair_at pairs p.from).this (letter_at letters p.letter).this) new_is
        ∙ ap (λ (p : Pair). step these p.this (letter_at letters number).this) is ∙ sym this_is ∙ ap (λ (p : Pair). p.this) (sym new_is)

    led_that : step those (pair_at pairs new.from).that (letter_at letters new.letter).that ≡ new.that
    led_that =
        ap (λ (p : Pair). step those (pair_at pairs p.from).that (letter_at letters p.letter).that) new_is
        ∙ ap (λ (p : Pair). step those p.that (letter_at letters number).that) is ∙ sym that_is ∙ ap (λ (p : Pair). p.that) (sym new_is)

    from_low : new.from < length pairs
    from_low = subst (λ (p : Pair). p.from < length pairs) (sym new_is) low

    letter_in : new.letter < length letters
    letter_in = subst (λ (p : Pair). p.letter < length letters) (sym new_is) number_low

    pub led_reached : AreReached these those letters (pairs ++ new ∷ [])
    led_reached = pair_more pairs searched.reached new from_low letter_in led_this led_that

    pub led_searched : (joint : List ℕ) → marks_of these this ≡ marks_of those that → JoinsLabels labels this (length these.rows + that) joint →
        AreSearched these those letters joint (pairs ++ new ∷ []) next
    led_searched joint marked joins =
        let this_same : new.this ≡ this = ap (λ (p : Pair). p.this) new_is in
        let that_same : new.that ≡ that = ap (λ (p : Pair). p.that) new_is in
        searched_more pairs searched.reached new from_low letter_in led_this led_that labels joint next searched low
        (ap (λ n. marks_of these n) this_same ∙ marked ∙ ap (λ n. marks_of those n) (sym that_same))
        (subst (λ n. JoinsLabels labels n (length these.rows + new.that) joint) (sym this_same)
        (subst (λ n. JoinsLabels labels this (length these.rows + n) joint) (sym that_same) joins))

    pub led_pair : pair_at (pairs ++ new ∷ []) next ≡ pair
    led_pair = old_pair pairs searched.reached new from_low letter_in led_this led_that next low ∙ is

    -- the letters up to this one are followed
    pub led_followed : (joint : List ℕ) → JoinsLabels labels this (length these.rows + that) joint →
        ((n : ℕ) → n < number → AreFollowed these those letters labels pair n) → (n : ℕ) → n < number + 1 → AreFollowed these those letters joint pair n
    led_followed joint joins before =
        let all = searched.joined.all in
        let rows = λ (n : ℕ) (n_low : n < length letters). follows_within pairs next n pair searched.reached low is n_low in
        below_more (λ n. AreFollowed these those letters joint pair n) number
        (λ n less.
        let n_rows = rows n (omega (arith, less, number_low)) in
        (stay labels this (length these.rows + that) joint joins).stay (step these pair.this (letter_at letters n).this)
        (length these.rows + step those pair.that (letter_at letters n).that) (omega (arith, n_rows.0, all)) (omega (arith, n_rows.1, all)) (before n less))
        (let own = rows number number_low in
        ap (λ n. get_or joint n 0) (sym this_is)
        ∙ joined_now labels this (length these.rows + that) joint joins (omega (arith, own.0, this_is, all)) (omega (arith, own.1, that_is, all))
        ∙ ap (λ n. get_or joint (length these.rows + n) 0) that_is)

  -- the pair that is joined first
  pub first_searched : (labels new : List ℕ) (pair : Pair) → pair.this ≡ 1 → pair.that ≡ 1 → length labels ≡ length these.rows + length those.rows →
      ((k : ℕ) → k < length these.rows + length those.rows → get_or labels k 0 ≡ k) →
      JoinsLabels labels 1 (length these.rows + 1) new → AreSearched these those letters new (pair ∷ []) 0
  first_searched labels new pair one one' all own joins =
      let count : ℕ = length these.rows + length those.rows in
      let that_is : length these.rows + pair.that ≡ length these.rows + 1 = ap (λ n. length these.rows + n) one' in
      record {
        reached = record {
          some = omega arith;
          first_this = one;
          first_that = one';
          rows = rows;
          each = λ k some short. absurd (omega (arith, some, short));
        };
        joined = one_more count labels new 0 (λ k. (pair_at [] k).this) (λ k. length these.rows + (pair_at [] k).that)
            (λ k. (pair_at (pair ∷ []) k).this) (λ k. length these.rows + (pair_at (pair ∷ []) k).that)
            (none_joined count labels (λ k. (pair_at [] k).this) (λ k. length these.rows + (pair_at [] k).that) all own)
            (λ k less. absurd (omega (arith, less))) (λ k less. absurd (omega (arith, less)))
            (omega (arith, one, valid.rows.some)) (omega (arith, one', valid'.rows.some))
            (subst (λ n. JoinsLabels labels n (length these.rows + pair.that) new) (sym one)
            (subst (λ n. JoinsLabels labels 1 n new) (sym that_is) joins));
        marked = marked;
        followed = λ k number less low. absurd (omega (arith, less));
      }
    where
      rows : (k : ℕ) → k < 1 → ((pair_at (pair ∷ []) k).this < length these.rows) × ((pair_at (pair ∷ []) k).that < length those.rows)
      rows zero short = (omega (arith, one, valid.rows.some), omega (arith, one', valid'.rows.some))
      rows (suc k) short = absurd (omega (arith, short))

      marked : (k : ℕ) → k < 1 → marks_of these (pair_at (pair ∷ []) k).this ≡ marks_of those (pair_at (pair ∷ []) k).that
      marked zero short =
          ap (λ n. marks_of these n) one ∙ start_marks these valid ∙ sym (start_marks those valid') ∙ ap (λ n. marks_of those n) (sym one')
      marked (suc k) short = absurd (omega (arith, short))

  -- where all pairs are followed, the tables have the same marks after every text
  module _ (labels : List ℕ) (pairs : List Pair) (h : AreSearched these those letters labels pairs (length pairs)) where
    abbrev Rows : ℕ
    Rows = length these.rows

    -- what is given by the one table's rows, and after them by the other's
    abbrev joint : (ℕ → List ℕ) → (ℕ → List ℕ) → ℕ → List ℕ
    joint f g n = cond (ltb n Rows) (f n) (g (n - Rows))

    left : (f g : ℕ → List ℕ) (n : ℕ) → n < Rows → joint f g n ≡ f n
    left f g n low = cond-true (ltb n Rows) (f n) (g (n - Rows)) (lt-ltb n Rows low)

    right : (f g : ℕ → List ℕ) (n : ℕ) → joint f g (Rows + n) ≡ g n
    right f g n =
        cond-false (ltb (Rows + n) Rows) (f (Rows + n)) (g (Rows + n - Rows)) (le-ltb (Rows + n) Rows (omega arith))
        ∙ ap g (let e : Rows + n - Rows ≡ n = omega arith in e)

    -- what two functions give alike for each pair they give alike for all rows that are joined
    alike : (f g : ℕ → List ℕ) → ((k : ℕ) → k < length pairs → f (pair_at pairs k).this ≡ g (pair_at pairs k).that) →
        (p q : ℕ) → p < Rows → q < length those.rows → get_or labels p 0 ≡ get_or labels (Rows + q) 0 → f p ≡ g q
    alike f g each p q low low' is =
        sym (left f g p low)
        ∙ h.joined.only (joint f g)
        (λ k short. left f g (pair_at pairs k).this (h.reached.rows k short).0 ∙ each k short ∙ sym (right f g (pair_at pairs k).that))
        p (Rows + q) (omega (arith, low)) (omega (arith, low')) is
        ∙ right f g q

    step_alike : (c : ℕ) → IsCharacter c → (p q : ℕ) → p < Rows → q < length those.rows → get_or labels p 0 ≡ get_or labels (Rows + q) 0 →
        get_or labels (step these p (category_of these.ranges c)) 0 ≡ get_or labels (Rows + step those q (category_of those.ranges c)) 0
    step_alike c is p q low low' same =
        same_only (get_or labels (step these p (category_of these.ranges c)) 0) (get_or labels (Rows + step those q (category_of those.ranges c)) 0)
        (alike (λ n. get_or labels (step these n (category_of these.ranges c)) 0 ∷ [])
        (λ n. get_or labels (Rows + step those n (category_of those.ranges c)) 0 ∷ [])
        (λ k short.
        are.enough (λ n. get_or labels (step these (pair_at pairs k).this n) 0 ∷ []) (λ n. get_or labels (Rows + step those (pair_at pairs k).that n) 0 ∷ [])
        (λ number number_low. ap (λ n. n ∷ []) (h.followed k number short number_low)) c is)
        p q low low' same)

    along_alike : (w : List ℕ) → IsText w → (p q : ℕ) → p < Rows → q < length those.rows → get_or labels p 0 ≡ get_or labels (Rows + q) 0 →
        marks_of these (row_along these p (map (category_of these.ranges) w)) ≡ marks_of those (row_along those q (map (category_of those.ranges) w))
    along_alike [] is p q low low' same =
        same_marks (marks_of these p) (marks_of those q)
        (alike (λ n. listed (marks_of these n)) (λ n. listed (marks_of those n)) (λ k short. ap (λ (m : Marks). listed m) (h.marked k short)) p q low low' same)
    along_alike (c ∷ w) is p q low low' same =
        along_alike w is.1 (step these p (category_of these.ranges c)) (step those q (category_of those.ranges c))
        (next_row these valid p (category_of these.ranges c) low (category_within these.categories these.ranges c valid.ranges))
        (next_row those valid' q (category_of those.ranges c) low' (category_within those.categories those.ranges c valid'.ranges))
        (step_alike c is.0 p q low low' same)

    pub marked_alike : AreMarkedAlike these those
    marked_alike w is some =
        along_alike w is 1 1 (omega (arith, valid.rows.some)) (omega (arith, valid'.rows.some))
        (ap (λ n. get_or labels n 0) (sym h.reached.first_this) ∙ h.joined.pairs 0 h.reached.some ∙
        ap (λ n. get_or labels (Rows + n) 0) h.reached.first_that)

pub searched_less : (these those : Table) (letters : List Letter) (labels : List ℕ) (pairs : List Pair) (count next : ℕ) → count ≤ next →
    AreSearched these those letters labels pairs next → AreSearched these those letters labels pairs count
searched_less these those letters labels pairs count next less h = record {
  reached = h.reached;
  joined = h.joined;
  marked = h.marked;
  followed = λ k number k_low low. h.followed k number (omega (arith, k_low, less)) low;
}

-- a pair with different marks, and the text that leads to it
pub told_apart : (these those : Table) (pairs : List Pair) (last : ℕ) (w : List ℕ) → 1 ≤ last → LeadsToPair these those pairs last w →
    ¬ (marks_of these (pair_at pairs last).this ≡ marks_of those (pair_at pairs last).that) → TellsApart these those w
told_apart these those pairs last w one leads differ = record {
  is_text = leads.is_text;
  some = leads.some one;
  differ = λ same. differ (ap (λ n. marks_of these n) (sym leads.this) ∙ same ∙ ap (λ n. marks_of those n) leads.that);
}
