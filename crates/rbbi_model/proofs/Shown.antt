-- What a true run shows is so.
use Rattle.std.proofs.Common.{◌≡◌, ℕ, ◌+◌, ◌<◌, ◌≤◌, ◌⊎◌, ltb, eqb, List, [], ◌∷◌, ◌++◌, Option, Some, None, length, map, sym, refl, ap, ◌∙◌, subst, inl, inr}
use Rattle.std.proofs.Common.{⊎_elim, append_assoc, arith}
use Rattle.std.specs.List.{AllByRecursion}
use Rattle.std.proofs.lemmas.Bool.{cases_lt, cases_eq, cond-true, cond-false, lt-ltb, le-ltb, eq-eqb, ne_eqb}
use Rattle.std.proofs.lemmas.List.{map-append}
use Rattle.rbbi_model.specs.Lists.{Member, IsRising}
use Rattle.rbbi_model.specs.Boundaries.{Boundary, start}
use Rattle.rbbi_model.specs.Cover.{places, IsPlaceOf, end_of}
use Rattle.rbbi_model.specs.Answers.{first_place, last_place, first_after, last_before}
use Rattle.rbbi_model.specs.Tables.{Table}
use Rattle.rbbi_model.specs.ValidTables.{IsValidTable}
use Rattle.rbbi_model.specs.Searches.{next_boundary, follow_by, fresh, table_boundaries}
use Rattle.rbbi_model.specs.Runs.{low, from_place, Entry, Run, boundary_of, LeadsTruly, IsTrueRun, EndsUpTo, StartsFrom, ShowsAfter, ShowsBefore}
use Rattle.rbbi_model.proofs.Rising.{rising_tail, less_than_later, not_less_than_first}
use Rattle.rbbi_model.proofs.Found.{found_lies}
use Rattle.rbbi_model.proofs.Covering.{follow_rise, table_covers}
use Rattle.rbbi_model.proofs.FreshTrue.{kept, dropped, fresh_true}

-- members of joined lists

in_right : (us vs : List ℕ) (k : ℕ) → Member vs k → Member (us ++ vs) k
in_right [] vs k here = here
in_right (u ∷ us) vs k here = inr (in_right us vs k here)

in_either : (us vs : List ℕ) (k : ℕ) → Member (us ++ vs) k → Member us k ⊎ Member vs k
in_either [] vs k here = inr here
in_either (u ∷ us) vs k here = ⊎_elim (λ is. inl (inl is)) (λ later. ⊎_elim (λ left. inl (inr left)) (λ right. inr right) (in_either us vs k later)) here

-- in a rising list what stands before a number is less
less_before : (us : List ℕ) (a : ℕ) (vs : List ℕ) (k : ℕ) → IsRising (us ++ a ∷ vs) → Member us k → k < a
less_before [] a vs k rising here = absurd here
less_before (u ∷ us) a vs k rising here =
    ⊎_elim
    (λ is. subst (λ j. j < a) is (less_than_later u (us ++ a ∷ vs) a rising (in_right us (a ∷ vs) a (inl refl))))
    (λ later. less_before us a vs k (rising_tail u (us ++ a ∷ vs) rising) later)
    here

pub rising_left : (us vs : List ℕ) → IsRising (us ++ vs) → IsRising us
rising_left [] vs rising = tt
rising_left (u ∷ []) vs rising = tt
rising_left (u ∷ w ∷ us) vs rising = (rising.0, rising_left (w ∷ us) vs rising.1)

rising_right : (us vs : List ℕ) → IsRising (us ++ vs) → IsRising vs
rising_right [] vs rising = rising
rising_right (u ∷ us) vs rising = rising_right us vs (rising_tail u (us ++ vs) rising)

-- the first boundary past a place, and the last before one, in a rising list

first_after_is : (bs : List Boundary) (i a : ℕ) → IsRising (places bs) → IsPlaceOf bs a → i < a → ((k : ℕ) → IsPlaceOf bs k → i < k → a ≤ k) →
    first_after bs i ≡ Some a
first_after_is [] i a rising here past least = absurd here
first_after_is (b ∷ bs) i a rising here past least =
    ⊎_elim
    (λ more.
    let low = least b.at (inl refl) more in
    let high = not_less_than_first b.at (places bs) a rising here in
    let same : b.at ≡ a = omega arith in
    cond-true (ltb i b.at) (Some b.at) (first_place (λ at. ltb i at) bs) (lt-ltb i b.at more) ∙ ap (λ p. Some p) same)
    (λ less.
    let later : IsPlaceOf bs a = ⊎_elim (λ is. absurd (omega arith)) (λ l. l) here in
    cond-false (ltb i b.at) (Some b.at) (first_place (λ at. ltb i at) bs) (le-ltb i b.at less) ∙
    first_after_is bs i a (rising_tail b.at (places bs) rising) later past (λ k member. least k (inr member)))
    (cases_lt i b.at)

-- nothing passes any more
last_stays : (bs : List Boundary) (i : ℕ) (before : Option ℕ) → ((k : ℕ) → IsPlaceOf bs k → i ≤ k) → last_place (λ at. ltb at i) before bs ≡ before
last_stays [] i before none = refl
last_stays (b ∷ bs) i before none =
    ap (λ o. last_place (λ at. ltb at i) o bs) (cond-false (ltb b.at i) (Some b.at) before (le-ltb b.at i (none b.at (inl refl)))) ∙
    last_stays bs i before (λ k member. none k (inr member))

last_before_is : (bs : List Boundary) (i a : ℕ) (before : Option ℕ) → IsRising (places bs) → IsPlaceOf bs a → a < i →
    ((k : ℕ) → IsPlaceOf bs k → k < i → k ≤ a) → last_place (λ at. ltb at i) before bs ≡ Some a
last_before_is [] i a before rising here short most = absurd here
last_before_is (b ∷ bs) i a before rising here short most =
    let low = not_less_than_first b.at (places bs) a rising here in
    let passed : last_place (λ at. ltb at i) before (b ∷ bs) ≡ last_place (λ at. ltb at i) (Some b.at) bs =
    ap (λ o. last_place (λ at. ltb at i) o bs) (cond-true (ltb b.at i) (Some b.at) before (lt-ltb b.at i (omega arith))) in
    ⊎_elim
    (λ is.
    passed
    ∙ last_stays bs i (Some b.at)
    (λ k member.
    let later = less_than_later b.at (places bs) k rising member in
    ⊎_elim (λ less. let high = most k (inr member) less in absurd (omega arith)) (λ ok. ok) (cases_lt k i))
    ∙ ap (λ p. Some p) is)
    (λ later. passed ∙ last_before_is bs i a (Some b.at) (rising_tail b.at (places bs) rising) later short (λ k member. most k (inr member)))
    here

-- no member of a rising list is past its end
within_end : (b : Boundary) (bs : List Boundary) (k : ℕ) → IsRising (places (b ∷ bs)) → IsPlaceOf (b ∷ bs) k → k ≤ end_of (b ∷ bs)
within_end b [] k rising here = ⊎_elim (λ is. omega arith) (λ none. absurd none) here
within_end b (c ∷ bs) k rising here =
    ⊎_elim
    (λ is. let further = within_end c bs c.at (rising_tail b.at (places (c ∷ bs)) rising) (inl refl) in omega (arith, rising.0))
    (λ later. within_end c bs k (rising_tail b.at (places (c ∷ bs)) rising) later)
    here

-- members from a place on

member_kept : (place k : ℕ) (bs : List Boundary) → place ≤ k → IsPlaceOf bs k → IsPlaceOf (from_place place bs) k
member_kept place k [] from here = here
member_kept place k (b ∷ bs) from here =
    ⊎_elim
    (λ is. subst (λ cs. IsPlaceOf cs k) (sym (kept place b bs (omega arith))) (inl is))
    (λ later.
    ⊎_elim
    (λ less. subst (λ cs. IsPlaceOf cs k) (sym (dropped place b bs less)) (member_kept place k bs from later))
    (λ more. subst (λ cs. IsPlaceOf cs k) (sym (kept place b bs more)) (inr (member_kept place k bs from later)))
    (cases_lt b.at place))
    here

member_of_kept : (place k : ℕ) (bs : List Boundary) → IsPlaceOf (from_place place bs) k → IsPlaceOf bs k
member_of_kept place k [] here = here
member_of_kept place k (b ∷ bs) here =
    ⊎_elim
    (λ less. inr (member_of_kept place k bs (subst (λ cs. IsPlaceOf cs k) (dropped place b bs less) here)))
    (λ more. ⊎_elim (λ is. inl is) (λ later. inr (member_of_kept place k bs later)) (subst (λ cs. IsPlaceOf cs k) (kept place b bs more) here))
    (cases_lt b.at place)

-- entries by their places

pub places_of_entries : (table : Table) (entries : List Entry) → places (map (boundary_of table) entries) ≡ map (λ entry. entry.at) entries
places_of_entries table [] = refl
places_of_entries table (entry ∷ entries) = ap (λ ks. entry.at ∷ ks) (places_of_entries table entries)

-- what stands up to a last entry that isn't past i isn't either
ends_up : (us : List ℕ) (entries : List Entry) (i k : ℕ) → IsRising (us ++ map (λ entry. entry.at) entries) → EndsUpTo entries i →
    Member (us ++ map (λ entry. entry.at) entries) k → k ≤ i
ends_up us [] i k rising ends here = absurd ends
ends_up us (entry ∷ []) i k rising ends here =
    ⊎_elim
    (λ left. let less = less_before us entry.at [] k rising left in omega arith)
    (λ right. ⊎_elim (λ is. omega arith) (λ none. absurd none) right)
    (in_either us (entry.at ∷ []) k here)
ends_up us (entry ∷ next ∷ entries) i k rising ends here =
    let shift : us ++ map (λ e. e.at) (entry ∷ next ∷ entries) ≡ us ++ entry.at ∷ [] ++ map (λ e. e.at) (next ∷ entries) =
    sym (append_assoc us (entry.at ∷ []) (map (λ e. e.at) (next ∷ entries))) in
    ends_up (us ++ entry.at ∷ []) (next ∷ entries) i k (subst IsRising shift rising) ends (subst (λ ks. Member ks k) shift here)

-- what stands from a first entry on that isn't before i isn't either
starts_from : (entries : List Entry) (vs : List ℕ) (i k : ℕ) → IsRising (map (λ entry. entry.at) entries ++ vs) → StartsFrom entries i →
    Member (map (λ entry. entry.at) entries ++ vs) k → i ≤ k
starts_from [] vs i k rising starts here = absurd starts
starts_from (entry ∷ entries) vs i k rising starts here = let first = not_less_than_first entry.at (map (λ e. e.at) entries ++ vs) k rising here in omega arith

all_at : (P : Entry → Type 0) (before : List Entry) (entry : Entry) (after : List Entry) → AllByRecursion P (before ++ entry ∷ after) → P entry
all_at P [] entry after all = all.0
all_at P (e ∷ before) entry after all = all_at P before entry after all.1

-- the last of some entries is one of them
last_at : (P : Entry → Type 0) (before : List Entry) (rest : List Entry) (i : ℕ) → AllByRecursion P (before ++ rest) → EndsUpTo before i → (entry : Entry) ×
    P entry × (entry.at ≤ i)
last_at P [] rest i all ends = absurd ends
last_at P (entry ∷ []) rest i all ends = (entry, all.0, ends)
last_at P (entry ∷ next ∷ before) rest i all ends = last_at P (next ∷ before) rest i all.1 ends

all_members : (P : ℕ → Type 0) (bs : List Boundary) (k : ℕ) → AllByRecursion (λ b. P b.at) bs → IsPlaceOf bs k → P k
all_members P [] k all here = absurd here
all_members P (b ∷ bs) k all here = ⊎_elim (λ is. subst P is all.0) (λ later. all_members P bs k all.1 later) here

low_past : (p : ℕ) → p + 1 ≤ low p
low_past p =
    ⊎_elim
    (λ is. omega (arith, cond-true (eqb p 0) 1 (p + 2) (eq-eqb p 0 is)))
    (λ other. omega (arith, cond-false (eqb p 0) 1 (p + 2) (ne_eqb p 0 other)))
    (cases_eq p 0)

module _ (table : Table) (valid : IsValidTable table) (x : List ℕ) (run : Run) (is_true : IsTrueRun table x run) where
  agree : (places (from_place (run.anchor + 1) (fresh table x run.anchor)) ≡ places (from_place (run.anchor + 1) (table_boundaries table x))) ×
      (from_place (low run.anchor) (fresh table x run.anchor) ≡ from_place (low run.anchor) (table_boundaries table x))
  agree = fresh_true table valid x run.anchor is_true.anchor

  -- past the anchor, and everywhere for the anchor 0, members of the one list are members of the other

  to_fresh : (k : ℕ) → (run.anchor ≡ 0) ⊎ (run.anchor + 1 ≤ k) → IsPlaceOf (table_boundaries table x) k → IsPlaceOf (fresh table x run.anchor) k
  to_fresh k where_is here =
      ⊎_elim
      (λ is. subst (λ q. IsPlaceOf (fresh table x q) k) (sym is) here)
      (λ past. member_of_kept (run.anchor + 1) k (fresh table x run.anchor)
      (subst (λ ks. Member ks k) (sym agree.0) (member_kept (run.anchor + 1) k (table_boundaries table x) past here)))
      where_is

  from_fresh : (k : ℕ) → (run.anchor ≡ 0) ⊎ (run.anchor + 1 ≤ k) → IsPlaceOf (fresh table x run.anchor) k → IsPlaceOf (table_boundaries table x) k
  from_fresh k where_is here =
      ⊎_elim
      (λ is. subst (λ q. IsPlaceOf (fresh table x q) k) is here)
      (λ past. member_of_kept (run.anchor + 1) k (table_boundaries table x)
      (subst (λ ks. Member ks k) agree.0 (member_kept (run.anchor + 1) k (fresh table x run.anchor) past here)))
      where_is

  fresh_rises : IsRising (places (fresh table x run.anchor))
  fresh_rises = follow_rise (next_boundary table x) (length x) (λ s short. found_lies table x s short) (length x)
      (record { at = run.anchor; statuses = 0 ∷ [] })

  true_rises : IsRising (places (table_boundaries table x))
  true_rises = (table_covers table x).rise

  module _ (before : List Entry) (entry : Entry) (after : List Entry) (whole : run.entries ≡ before ++ entry ∷ after) where
    split : places (fresh table x run.anchor) ≡ (places is_true.consecutive.before ++ map (λ e. e.at) before) ++
        (entry.at ∷ (map (λ e. e.at) after ++ places is_true.consecutive.after))
    split =
        let left : List ℕ = places is_true.consecutive.before in
        let right : List ℕ = places is_true.consecutive.after in
        let middle : places (map (boundary_of table) run.entries) ≡ map (λ e. e.at) before ++ (entry.at ∷ map (λ e. e.at) after) =
        places_of_entries table run.entries ∙ ap (λ es. map (λ e. e.at) es) whole ∙ map-append (λ e. e.at) before (entry ∷ after) in
        ap places is_true.consecutive.whole
        ∙ map-append (λ b. b.at) (is_true.consecutive.before ++ map (boundary_of table) run.entries) is_true.consecutive.after
        ∙ ap (λ ks. ks ++ right) (map-append (λ b. b.at) is_true.consecutive.before (map (boundary_of table) run.entries) ∙ ap (λ ks. left ++ ks) middle)
        ∙ ap (λ ks. ks ++ right) (sym (append_assoc left (map (λ e. e.at) before) (entry.at ∷ map (λ e. e.at) after)))
        ∙ append_assoc (left ++ map (λ e. e.at) before) (entry.at ∷ map (λ e. e.at) after) right

    rises : IsRising ((places is_true.consecutive.before ++ map (λ e. e.at) before) ++ (entry.at ∷ (map (λ e. e.at) after ++ places is_true.consecutive.after)))
    rises = subst IsRising split fresh_rises

    entry_in : IsPlaceOf (fresh table x run.anchor) entry.at
    entry_in = subst (λ ks. Member ks entry.at) (sym split) (in_right (places is_true.consecutive.before ++ map (λ e. e.at) before)
        (entry.at ∷ (map (λ e. e.at) after ++ places is_true.consecutive.after)) entry.at (inl refl))

    entry_place : (run.anchor ≡ 0) ⊎ (run.anchor + 1 ≤ entry.at)
    entry_place =
        ⊎_elim (λ is. inl is) (λ past. inr (omega arith))
        (all_at (λ e. (run.anchor ≡ 0) ⊎ (run.anchor + 2 ≤ e.at)) before entry after
        (subst (λ es. AllByRecursion (λ e. (run.anchor ≡ 0) ⊎ (run.anchor + 2 ≤ e.at)) es) whole is_true.places))

    pub entry_true : IsPlaceOf (table_boundaries table x) entry.at
    entry_true = from_fresh entry.at entry_place entry_in

    -- a member past the last entry before is the entry or later
    after_last : (i : ℕ) → EndsUpTo before i → (k : ℕ) → i < k → IsPlaceOf (fresh table x run.anchor) k → entry.at ≤ k
    after_last i ends k past here =
        let us : List ℕ = places is_true.consecutive.before ++ map (λ e. e.at) before in
        let vs : List ℕ = map (λ e. e.at) after ++ places is_true.consecutive.after in
        ⊎_elim
        (λ left. absurd (let up = ends_up (places is_true.consecutive.before) before i k (rising_left us (entry.at ∷ vs) rises) ends left in omega arith))
        (λ right. not_less_than_first entry.at vs k (rising_right us (entry.at ∷ vs) rises) right)
        (in_either us (entry.at ∷ vs) k (subst (λ ks. Member ks k) split here))

    -- a member before the first entry after is the entry or earlier
    before_next : (i : ℕ) → StartsFrom after i → (k : ℕ) → k < i → IsPlaceOf (fresh table x run.anchor) k → k ≤ entry.at
    before_next i starts k short here =
        let us : List ℕ = places is_true.consecutive.before ++ map (λ e. e.at) before in
        let vs : List ℕ = map (λ e. e.at) after ++ places is_true.consecutive.after in
        ⊎_elim
        (λ left. let less = less_before us entry.at vs k rises left in omega arith)
        (λ right. ⊎_elim (λ is. omega arith) (λ later. absurd (let from =
        starts_from after (places is_true.consecutive.after) i k (rising_tail entry.at vs (rising_right us (entry.at ∷ vs) rises)) starts later in
        omega arith)) right)
        (in_either us (entry.at ∷ vs) k (subst (λ ks. Member ks k) split here))

  -- what the run shows to be the first boundary past i is so
  pub shown_after : (i a : ℕ) → ShowsAfter run i a → first_after (table_boundaries table x) i ≡ Some a
  shown_after i a shows =
      let entry : Entry = shows.entry in
      let least : (k : ℕ) → IsPlaceOf (table_boundaries table x) k → i < k → entry.at ≤ k = λ k here past.
      ⊎_elim
      (λ ends.
      let last = last_at (λ e. (run.anchor ≡ 0) ⊎ (run.anchor + 2 ≤ e.at)) shows.before (entry ∷ shows.after) i
      (subst (λ es. AllByRecursion (λ e. (run.anchor ≡ 0) ⊎ (run.anchor + 2 ≤ e.at)) es) shows.whole is_true.places) ends in
      let where_is : (run.anchor ≡ 0) ⊎ (run.anchor + 1 ≤ k) = ⊎_elim (λ is. inl is) (λ far. inr (omega (arith, last.2))) last.1 in
      after_last shows.before entry shows.after shows.whole i ends k past (to_fresh k where_is here))
      (λ first.
      let from = low_past run.anchor in
      let entries : run.entries ≡ entry ∷ shows.after = shows.whole ∙ ap (λ es. es ++ entry ∷ shows.after) first.0 in
      let truly = subst (λ es. LeadsTruly table x run.anchor es) entries (is_true.leads first.1) in
      all_members (λ j. low run.anchor ≤ j → entry.at ≤ j) (fresh table x run.anchor) k truly (to_fresh k (inr (omega (arith, first.2))) here)
      (omega (arith, first.2)))
      shows.nearest in
      first_after_is (table_boundaries table x) i entry.at true_rises (entry_true shows.before entry shows.after shows.whole)
      (omega (arith, shows.at, shows.past)) least ∙ ap (λ p. Some p) shows.at

  -- what the run shows to be the last boundary before i is so
  pub shown_before : (i a : ℕ) → ShowsBefore x run i a → last_before (table_boundaries table x) i ≡ Some a
  shown_before i a shows =
      let entry : Entry = shows.entry in
      let most : (k : ℕ) → IsPlaceOf (table_boundaries table x) k → k < i → k ≤ entry.at = λ k here short.
      ⊎_elim
      (λ starts.
      ⊎_elim
      (λ later.
      let where_is : (run.anchor ≡ 0) ⊎ (run.anchor + 1 ≤ k) =
      ⊎_elim (λ is. inl is) (λ far. inr (omega arith)) (entry_place shows.before entry shows.after shows.whole) in
      before_next shows.before entry shows.after shows.whole i starts k short (to_fresh k where_is here))
      (λ earlier. earlier)
      (cases_lt entry.at k))
      (λ end. omega (arith, within_text k here, shows.at, end))
      shows.nearest in
      last_before_is (table_boundaries table x) i entry.at None true_rises (entry_true shows.before entry shows.after shows.whole)
      (omega (arith, shows.at, shows.short_of)) most ∙ ap (λ p. Some p) shows.at
    where
      within_text : (k : ℕ) → IsPlaceOf (table_boundaries table x) k → k ≤ length x
      within_text k here = omega (
        arith,
        within_end start (follow_by (next_boundary table x) (length x) (length x) start) k true_rises here,
        (table_covers table x).reach,
      )
