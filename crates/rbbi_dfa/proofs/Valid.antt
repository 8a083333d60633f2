-- The status lists are valid, and the automaton is as what follows wants it.
use Rattle.std.proofs.Common.{◌≡◌, ℕ, zero, suc, ◌+◌, ◌-◌, ◌<◌, ◌≤◌, List, [], ◌∷◌, length, get_or, sym, refl, ap, ◌∙◌, subst, inl, inr, ⊎_elim, arith}
use Rattle.std.specs.Prelude.{IfSome, unwrap_or}
use Rattle.std.specs.List.{AllByRecursion}
use Rattle.std.proofs.lemmas.Bool.{cases_eq}
use Rattle.rbbi_model.specs.Lists.{Member, IsRising}
use Rattle.rbbi_model.specs.Rules.{Rule, AreLawful, largest_tag}
use Rattle.rbbi_model.specs.Tables.{Table, CategoryRange, list_of, statuses_of}
use Rattle.rbbi_model.specs.ValidTables.{IsValidList}
use Rattle.rbbi_model.specs.Marks.{Marks}
use Rattle.rbbi_model.proofs.Rising.{rising_tail, less_than_later}
use Rattle.rbbi_model.proofs.Lists.{all_by_index, all_at, all_through}
use Rattle.rbbi_bits.specs.NumberedRows.{listed_row}
use Rattle.rbbi_dfa.specs.inner.Automata.{IsDetermined}
use Rattle.rbbi_dfa.specs.inner.PositionRows.{PositionRows}
use Rattle.rbbi_dfa.specs.inner.PositionAutomata.{Marked, Tagged, IsOfRules}
use Rattle.rbbi_dfa.specs.inner.Determinizing.{HasMark, AreTagsOf, IsDeterminized}
use Rattle.rbbi_dfa.proofs.WalkReading.{same_rule, lawful_rule}
use Rattle.rbbi_dfa.proofs.MarkLoops.{member_at}
use Rattle.rbbi_dfa.proofs.Lists.{le_from_choices}
use Rattle.rbbi_dfa.proofs.Determined.{zero_alone, each_row, each_reached}
use Rattle.rbbi_positions.proofs.Leaves.{rule_within}
use Rattle.rbbi_dfa.proofs.Leading.{each_leads, are_fronted}

zero_valid : IsValidList (0 ∷ [])
zero_valid = record { some = omega arith; few = omega arith; rising = tt; small = (omega arith, tt) }

all_members : (P : ℕ → Type 0) (xs : List ℕ) → ((t : ℕ) → Member xs t → P t) → AllByRecursion P xs
all_members P [] each = tt
all_members P (x ∷ xs) each = (each x (inl refl), all_members P xs (λ t member. each t (inr member)))

-- numbers of a rising list rise by their places
rising_places : (xs : List ℕ) (i j : ℕ) → IsRising xs → i < j → j < length xs → get_or xs i 0 < get_or xs j 0
rising_places [] i j rising less short = absurd (omega (arith, short))
rising_places (x ∷ xs) i zero rising less short = absurd (omega (arith, less))
rising_places (x ∷ xs) zero (suc j) rising less short = less_than_later x xs (get_or xs j 0) rising (member_at xs j (omega (arith, short)))
rising_places (x ∷ xs) (suc i) (suc j) rising less short = rising_places xs i j (rising_tail x xs rising) (omega (arith, less)) (omega (arith, short))

module _ (rules : List Rule) (lawful : AreLawful rules) where
  -- some rule with this number has the status number
  abbrev pub HasNumber : ℕ → Type 0
  HasNumber tag = (number : ℕ) × Tagged rules number tag

  same_tag : (number tag other : ℕ) → Tagged rules number tag → Tagged rules number other → tag ≡ other
  same_tag number tag other is is' =
      let rule = same_rule rules number is.rule is'.rule is.is_rule is'.is_rule in
      ap (λ o. unwrap_or o tag) (sym is.tagged ∙ ap (λ (r : Rule). r.tag) rule ∙ is'.tagged)

  few_tags : (tags : List ℕ) → IsRising tags → AllByRecursion HasNumber tags → length tags ≤ 4096
  few_tags tags rising all =
      let most = le_from_choices (λ i number. Tagged rules number (get_or tags i 0)) (length tags) (length rules)
      (λ i short. let has = all_at HasNumber tags i 0 short all in (has.0, (rule_within rules has.0 has.1.rule has.1.is_rule, has.1)))
      (λ i j number less short this that.
      omega (arith, same_tag number (get_or tags i 0) (get_or tags j 0) this that, rising_places tags i j rising less short)) in
      omega (arith, most, lawful.few)

  pub tag_small : (tag : ℕ) → HasNumber tag → tag ≤ largest_tag
  tag_small tag (number, is) = subst (λ o. IfSome o (λ n. n ≤ largest_tag)) is.tagged (lawful_rule rules number is.rule lawful.each is.is_rule).tag

  module _ (ranges : List CategoryRange) (rows : PositionRows) (of : IsOfRules rules ranges rows) where
    tags_valid : (set statuses : List ℕ) → AreTagsOf rows set statuses → IsValidList statuses
    tags_valid set [] tags =
        let nothing : (other : ℕ) → HasMark set (Marked rows.tags) other → ⊥ = λ other has. (tags.exactly other).1 (inl has) in
        absurd ((tags.exactly 0).1 (inr (refl, nothing)))
    tags_valid set (s ∷ statuses) tags =
        ⊎_elim
        (λ has.
        let all = all_members HasNumber (s ∷ statuses)
        (λ t member.
        ⊎_elim
        (λ has'. let tagged = (of.tags has'.0 t).0 has'.2 in (tagged.0, tagged.2))
        (λ none. absurd (none.1 s has))
        ((tags.exactly t).0 member)) in
        record {
          some = omega arith;
          few = few_tags (s ∷ statuses) tags.rising all;
          rising = tags.rising;
          small = all_through HasNumber (λ status. status ≤ largest_tag) tag_small (s ∷ statuses) all;
        })
        (λ none.
        let only = zero_alone (s ∷ statuses) tags.rising
        (λ t. (
          λ member. ⊎_elim (λ has. absurd (none.1 t has)) (λ nothing. nothing.0) ((tags.exactly t).0 member),
          λ same. (tags.exactly t).1
              (inr (same, none.1)),
        )) in
        subst IsValidList (sym only) zero_valid)
        ((tags.exactly s).0 (inl refl))

    module _ (sets : List (List ℕ)) (automaton : Table) (is : IsDeterminized rows sets automaton) where
      list_valid : (list : ℕ) → list < length automaton.lists → IsValidList (statuses_of automaton list)
      list_valid list short =
          let named = is.named list short in
          let row : ℕ = named.0 in
          let here : statuses_of automaton (list_of automaton row) ≡ statuses_of automaton list = ap (λ n. statuses_of automaton n) named.2 in
          subst IsValidList here
          (⊎_elim
          (λ none. subst IsValidList (sym (ap (λ r. statuses_of automaton (list_of automaton r)) none ∙ ap (λ (m : Marks). m.statuses) is.plain_stop))
          zero_valid)
          (λ some.
          ⊎_elim
          (λ one. subst IsValidList (sym (ap (λ r. statuses_of automaton (list_of automaton r)) one ∙ ap (λ (m : Marks). m.statuses) is.plain_start))
          zero_valid)
          (λ more.
          let i : ℕ = row - 2 in
          let at : i + 2 ≡ row = omega (arith, some, more) in
          let marks = is.marks i (omega (arith, named.1, is.many, at)) in
          subst (λ r. IsValidList (statuses_of automaton (list_of automaton r))) at
          (tags_valid (listed_row sets i) (statuses_of automaton (list_of automaton (i + 2))) marks.tags))
          (cases_eq row 1))
          (cases_eq row 0))

      pub is_determined : length sets ≤ 16384 → IsDetermined automaton
      is_determined few = record {
        cells = is.cells;
        some_categories = omega (arith, is.categories, of.some_categories);
        few_categories = omega (arith, is.categories, of.few_categories);
        few_slashes = omega (arith, is.slashes, of.slashes, lawful.few_look_aheads);
        some = omega (arith, is.many);
        few = omega (arith, is.many, few);
        lists = all_by_index IsValidList [] automaton.lists list_valid;
        each = each_row rules lawful ranges rows of sets automaton is;
        stop = is.plain_stop;
        start = is.plain_start;
        stop_leads = λ category within. is.stop category (omega (arith, within, is.categories));
        reached = each_reached rules lawful ranges rows of sets automaton is;
        lead = each_leads rules lawful ranges rows of sets automaton is;
        fronts = are_fronted rules lawful ranges rows of sets automaton is;
      }
