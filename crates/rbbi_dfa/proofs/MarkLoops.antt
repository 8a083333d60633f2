-- Loops over the marks of positions.
use Rattle.std.proofs.Common.{◌≡◌, ◌≢◌, ℕ, zero, suc, ◌+◌, ◌-◌, ◌*◌, ◌%◌, ◌^◌, ◌<◌, ◌≤◌, ◌⊎◌, ◌↔◌, List, [], ◌∷◌, ◌++◌, length}
use Rattle.std.proofs.Common.{get_or, refl, sym, ap, ◌∙◌, subst, inl, inr, ⊎_elim, arith}
use Rattle.std.specs.Prelude.{IsTrue}
use Rattle.std.specs.List.{All, AllPairs}
use Rattle.std.specs.Int.{bit_at, w32}
use Rattle.std.specs.Int.RustNames.{bit_or}
use Rattle.std.proofs.lemmas.Bool.{cases_eq}
use Rattle.std.proofs.lemmas.List.{get_or_default, get_or_append_left, get_or_push, length_push}
use Rattle.std.proofs.lemmas.Nat.{pow_pos, or_lt}
use Rattle.std.proofs.Math.Nat.{mod-le}
use Rattle.std.proofs.Math.Pow.{pow-lt}
use Rattle.std.proofs.lemmas.Nat.Bits.{bit_at_set_same, bit_at_set_other}
use Rattle.rbbi_model.specs.Places.{has_bit}
use Rattle.rbbi_model.specs.Lists.{Member, IsRising}
use Rattle.rbbi_model.proofs.MarksUnique.{bit_is_one, one_is_bit}
use Rattle.rbbi_bits.specs.BitRows.{Holds}
use Rattle.rbbi_bits.specs.NumberedRows.{listed_row}
use Rattle.rbbi_model.specs.Tables.{RowHead, empty_head}
use Rattle.rbbi_dfa.specs.inner.PositionRows.{PositionMark, PositionRows}
use Rattle.rbbi_dfa.specs.inner.PositionAutomata.{Marked}
use Rattle.rbbi_dfa.specs.inner.Determinizing.{HasMark, IsAccept, AreFrontsOf, AreTagsOf, AreMarksOf, marks_by, AreMarked}

-- the mark with this number
abbrev pub mark_at : List PositionMark → ℕ → PositionMark
mark_at marks k = get_or marks k (record { position = 0; mark = 0 })

-- one of the first so many marks has this value and a position in the set
abbrev pub HasMarkUpTo : List PositionMark → List ℕ → ℕ → ℕ → Type 0
HasMarkUpTo marks set i mark = (k : ℕ) × (k < i) × Holds set (mark_at marks k).position × ((mark_at marks k).mark ≡ mark)

pub has_none : (marks : List PositionMark) (set : List ℕ) (mark : ℕ) → ¬ HasMarkUpTo marks set 0 mark
has_none marks set mark = λ has. omega (arith, has.1)

pub has_here : (marks : List PositionMark) (set : List ℕ) (i position mark : ℕ) → record { position = position; mark = mark } ≡ mark_at marks i →
    Holds set position → HasMarkUpTo marks set (i + 1) mark
has_here marks set i position mark read holds =
    (i, omega arith, subst (λ (m : PositionMark). Holds set m.position) read holds, sym (ap (λ (m : PositionMark). m.mark) read))

pub has_later : (marks : List PositionMark) (set : List ℕ) (i mark : ℕ) → HasMarkUpTo marks set i mark → HasMarkUpTo marks set (i + 1) mark
has_later marks set i mark has = (has.0, omega (arith, has.1), has.2, has.3)

pub has_cases : (marks : List PositionMark) (set : List ℕ) (i mark position here : ℕ) → record { position = position; mark = here } ≡ mark_at marks i →
    HasMarkUpTo marks set (i + 1) mark → HasMarkUpTo marks set i mark ⊎ (Holds set position × (here ≡ mark))
has_cases marks set i mark position here read has =
    ⊎_elim
    (λ same.
    let is : record { position = position; mark = here } ≡ mark_at marks has.0 = read ∙ ap (λ k. mark_at marks k) (sym same) in
    inr (subst (λ (m : PositionMark). Holds set m.position) (sym is) has.2, ap (λ (m : PositionMark). m.mark) is ∙ has.3))
    (λ other. inl (has.0, omega (arith, has.1, other), has.2, has.3))
    (cases_eq has.0 i)

-- all marks
pub has_all : (marks : List PositionMark) (set : List ℕ) (i mark : ℕ) → length marks ≤ i → i ≤ length marks → HasMarkUpTo marks set i mark ↔ HasMark set
    (Marked marks) mark
has_all marks set i mark all within = (
  λ has.
      let this : PositionMark = record { position = (mark_at marks has.0).position; mark = mark } in
      let is : this ≡ mark_at marks has.0 = λ j. record { position = (mark_at marks has.0).position; mark = sym has.3 j } in (
        this.position,
        has.2,
        (
          has.0,
          omega (arith, has.1, within),
          get_or_default marks has.0 this (record { position = 0; mark = 0 })
              (omega (arith, has.1, within)) ∙ sym is,
        ),
      ),
  λ has.
      let this : PositionMark = record { position = has.0; mark = mark } in
      let k : ℕ = has.2.0 in
      let is : mark_at marks k ≡ this = get_or_default marks k (record { position = 0; mark = 0 }) this has.2.1 ∙ has.2.2 in
      (k, omega (arith, has.2.1, all), subst (λ (m : PositionMark). Holds set m.position) (sym is) has.1, ap (λ (m : PositionMark). m.mark) is),
)

-- a mark as read from the list
pub mark_read : (marks : List PositionMark) (i position mark : ℕ) (read : PositionMark) → i < length marks → read ≡ get_or marks i read →
    record { position = position; mark = mark } ≡ read → record { position = position; mark = mark } ≡ mark_at marks i
mark_read marks i position mark read short is seen = seen ∙ is ∙ get_or_default marks i read (record { position = 0; mark = 0 }) short

pub mark_small : (marks : List PositionMark) (bound i : ℕ) → All (λ mark. mark.mark < bound) marks → i < length marks → (mark_at marks i).mark < bound
mark_small marks bound i all short = all i (record { position = 0; mark = 0 }) short

-- the accept number after some marks
pub record IsAcceptUpTo (marks : List PositionMark) (set last : List ℕ) (i accept : ℕ) : Type 0 where
  pub completed : (mark : ℕ) → HasMarkUpTo marks set i mark → (2 ≤ accept) × (accept ≤ mark + 2)
  pub is_completed : 2 ≤ accept → (mark : ℕ) × HasMarkUpTo marks set i mark × (accept ≡ mark + 2)
  pub ended : (position : ℕ) → Holds set position → Holds last position → 1 ≤ accept
  pub is_ended : accept ≡ 1 → (position : ℕ) × Holds set position × Holds last position

pub accept_takes : (marks : List PositionMark) (set last : List ℕ) (i accept position mark : ℕ) → record {
  position = position;
  mark =
      mark;
} ≡ mark_at marks i → (accept < 2) ⊎ (mark + 2 < accept) → Holds set position → IsAcceptUpTo marks set last i accept →
    IsAcceptUpTo marks set last (i + 1) (mark + 2)
accept_takes marks set last i accept position mark read better holds is = record {
  completed = λ other has.
      ⊎_elim
      (λ earlier. let bound =
      is.completed other earlier in ⊎_elim (λ small. absurd (omega (arith, small, bound.0))) (λ less. (omega arith, omega (arith, less, bound.1))) better)
      (λ here. (omega arith, omega (arith, here.1)))
      (has_cases marks set i other position mark read has);
  is_completed = λ many. (mark, has_here marks set i position mark read holds, refl);
  ended = λ p in_set in_last. omega arith;
  is_ended = λ one. absurd (omega (arith, one));
}

pub accept_stays : (marks : List PositionMark) (set last : List ℕ) (i accept position mark : ℕ) → record {
  position = position;
  mark =
      mark;
} ≡ mark_at marks i → (Holds set position → (2 ≤ accept) × (accept ≤ mark + 2)) → IsAcceptUpTo marks set last i accept →
    IsAcceptUpTo marks set last (i + 1) accept
accept_stays marks set last i accept position mark read bound is = record {
  completed = λ other has.
      ⊎_elim
      (λ earlier. is.completed other earlier)
      (λ here. let low = bound here.0 in (low.0, omega (arith, low.1, here.1)))
      (has_cases marks set i other position mark read has);
  is_completed = λ many. let has = is.is_completed many in (has.0, has_later marks set i has.0 has.1, has.2);
  ended = is.ended;
  is_ended = is.is_ended;
}

pub accept_all : (rows : PositionRows) (set : List ℕ) (i accept : ℕ) → length rows.completed ≤ i → i ≤ length rows.completed →
    IsAcceptUpTo rows.completed set rows.last i accept → IsAccept rows set accept
accept_all rows set i accept all within is = record {
  completed = λ mark has. is.completed mark ((has_all rows.completed set i mark all within).1 has);
  is_completed = λ many.
      let has = is.is_completed many in
      let same : has.0 ≡ accept - 2 = omega (arith, has.2) in
      subst (λ m. HasMark set (Marked rows.completed) m) same ((has_all rows.completed set i has.0 all within).0 has.1);
  ended = is.ended;
  is_ended = is.is_ended;
}

-- the mask after some marks
abbrev pub AreFrontsUpTo : List PositionMark → List ℕ → ℕ → ℕ → Type 0
AreFrontsUpTo marks set i fronts = (mark : ℕ) → IsTrue (has_bit fronts mark) ↔ HasMarkUpTo marks set i mark

pub fronts_takes : (marks : List PositionMark) (set : List ℕ) (i fronts position mark : ℕ) → record { position = position; mark = mark } ≡ mark_at marks i →
    mark < 32 → Holds set position → AreFrontsUpTo marks set i fronts → AreFrontsUpTo marks set (i + 1) (bit_or fronts (1 * 2 ^ mark % 2 ^ 32))
fronts_takes marks set i fronts position mark read small holds are other =
    let new : ℕ = bit_or fronts (1 * 2 ^ mark % 2 ^ 32) in (
      λ bit.
          ⊎_elim
          (λ same. subst (HasMarkUpTo marks set (i + 1)) (sym same) (has_here marks set i position mark read holds))
          (λ apart.
          let old : bit_at fronts other ≡ 1 = sym (bit_at_set_other w32 fronts mark small other apart) ∙ bit_is_one new other bit in
          has_later marks set i other ((are other).0 (one_is_bit fronts other old)))
          (cases_eq other mark),
      λ has.
          one_is_bit new other
          (⊎_elim
          (λ same. ap (λ k. bit_at new k) same ∙ bit_at_set_same w32 fronts mark small)
          (λ apart.
          ⊎_elim
          (λ earlier. bit_at_set_other w32 fronts mark small other apart ∙ bit_is_one fronts other ((are other).1 earlier))
          (λ here. absurd (apart (sym here.1)))
          (has_cases marks set i other position mark read has))
          (cases_eq other mark)),
    )

pub fronts_stays : (marks : List PositionMark) (set : List ℕ) (i fronts position mark : ℕ) → record { position = position; mark = mark } ≡ mark_at marks i →
    ¬ Holds set position → AreFrontsUpTo marks set i fronts → AreFrontsUpTo marks set (i + 1) fronts
fronts_stays marks set i fronts position mark read absent are other = (
  λ bit. has_later marks set i other ((are other).0 bit),
  λ has. ⊎_elim (λ earlier. (are other).1 earlier) (λ here. absurd (absent here.0)) (has_cases marks set i other position mark read has),
)

pub fronts_all : (rows : PositionRows) (set : List ℕ) (i fronts : ℕ) → length rows.fronts ≤ i → i ≤ length rows.fronts →
    AreFrontsUpTo rows.fronts set i fronts → AreFrontsOf rows set fronts
fronts_all rows set i fronts all within are mark =
    (λ bit. (has_all rows.fronts set i mark all within).0 ((are mark).0 bit), λ has. (are mark).1 ((has_all rows.fronts set i mark all within).1 has))

-- rising lists with one number more

pub member_push : (xs : List ℕ) (x t : ℕ) → Member (xs ++ x ∷ []) t ↔ (Member xs t ⊎ (x ≡ t))
member_push [] x t = (λ m. ⊎_elim (λ same. inr same) (λ out. absurd out) m, ⊎_elim (λ out. absurd out) (λ same. inl same))
member_push (y ∷ xs) x t = (
  λ m. ⊎_elim (λ same. inl (inl same)) (λ rest. ⊎_elim (λ old. inl (inr old)) (λ new. inr new) ((member_push xs x t).0 rest)) m,
  ⊎_elim (λ old. ⊎_elim (λ same. inl same) (λ rest. inr ((member_push xs x t).1 (inl rest))) old) (λ new. inr ((member_push xs x t).1 (inr new))),
)

pub rising_push : (xs : List ℕ) (x : ℕ) → IsRising xs → ((k : ℕ) → length xs ≡ k + 1 → get_or xs k 0 < x) → IsRising (xs ++ x ∷ [])
rising_push [] x rising last = tt
rising_push (y ∷ []) x rising last = (last 0 refl, tt)
rising_push (y ∷ z ∷ xs) x rising last = (rising.0, rising_push (z ∷ xs) x rising.1 (λ k long. last (suc k) (omega (arith, long))))

pub member_at : (xs : List ℕ) (i : ℕ) → i < length xs → Member xs (get_or xs i 0)
member_at [] i short = absurd (omega (arith, short))
member_at (x ∷ xs) zero short = inl refl
member_at (x ∷ xs) (suc i) short = inr (member_at xs i (omega (arith, short)))

-- the status numbers after some marks
pub record AreTagsUpTo (marks : List PositionMark) (set : List ℕ) (i : ℕ) (statuses : List ℕ) : Type 0 where
  pub rising : IsRising statuses
  pub exactly : (tag : ℕ) → Member statuses tag ↔ HasMarkUpTo marks set i tag

pub tags_start : (marks : List PositionMark) (set statuses : List ℕ) → statuses ≡ [] → AreTagsUpTo marks set 0 statuses
tags_start marks set [] none = record { rising = tt; exactly = λ tag. (λ out. absurd out, λ has. absurd (has_none marks set tag has)) }
tags_start marks set (s ∷ statuses) none = absurd (cc)

pub tags_takes : (marks : List PositionMark) (set statuses : List ℕ) (i position mark : ℕ) → record { position = position; mark = mark } ≡ mark_at marks i →
    Holds set position → ((k : ℕ) → length statuses ≡ k + 1 → get_or statuses k 0 < mark) → AreTagsUpTo marks set i statuses →
    AreTagsUpTo marks set (i + 1) (statuses ++ mark ∷ [])
tags_takes marks set statuses i position mark read holds above are = record {
  rising = rising_push statuses mark are.rising above;
  exactly = λ tag. (
    λ member. ⊎_elim (λ old. has_later marks set i tag ((are.exactly tag).0 old))
        (λ new. subst (HasMarkUpTo marks set (i + 1)) new (has_here marks set i position mark read holds)) ((member_push statuses mark tag).0 member),
    λ has. (member_push statuses mark tag).1
        (⊎_elim (λ earlier. inl ((are.exactly tag).1 earlier)) (λ here. inr here.1) (has_cases marks set i tag position mark read has)),
  );
}

-- the mark is that of the last status, or its position isn't in the set
pub tags_stays : (marks : List PositionMark) (set statuses : List ℕ) (i position mark : ℕ) → record { position = position; mark = mark } ≡ mark_at marks i →
    (Holds set position → Member statuses mark) → AreTagsUpTo marks set i statuses → AreTagsUpTo marks set (i + 1) statuses
tags_stays marks set statuses i position mark read there are = record {
  rising = are.rising;
  exactly = λ tag. (
    λ member. has_later marks set i tag ((are.exactly tag).0 member),
    λ has. ⊎_elim (λ earlier. (are.exactly tag).1 earlier) (λ here. subst (Member statuses) here.1 (there here.0))
        (has_cases marks set i tag position mark read has),
  );
}

-- where the last status isn't less than the mark it is the mark, since marks don't fall
pub last_is : (marks : List PositionMark) (set statuses : List ℕ) (i k position mark : ℕ) → record { position = position; mark = mark } ≡ mark_at marks i →
    i < length marks → AllPairs (λ these those. these.mark ≤ those.mark) marks → AreTagsUpTo marks set i statuses → length statuses ≡ k + 1 →
    mark ≤ get_or statuses k 0 → Member statuses mark
last_is marks set statuses i k position mark read short sorted are long low =
    let member = member_at statuses k (omega (arith, long)) in
    let has = (are.exactly (get_or statuses k 0)).0 member in
    let up = sorted has.0 i (record { position = 0; mark = 0 }) has.1 short in
    let here : mark ≡ (mark_at marks i).mark = ap (λ (m : PositionMark). m.mark) read in
    let same : get_or statuses k 0 ≡ mark = omega (arith, up, here, has.3, low) in
    subst (Member statuses) same member

module _ (rows : PositionRows) (set : List ℕ) (i : ℕ) (all : length rows.tags ≤ i) (within : i ≤ length rows.tags) where
  pub tags_all : (statuses : List ℕ) → statuses ≢ [] → AreTagsUpTo rows.tags set i statuses → AreTagsOf rows set statuses
  tags_all [] some are = absurd (some refl)
  tags_all (s ∷ statuses) some are = record {
    rising = are.rising;
    exactly = λ tag. (
      λ member. inl ((has_all rows.tags set i tag all within).0 ((are.exactly tag).0 member)),
      ⊎_elim
          (λ has. (are.exactly tag).1 ((has_all rows.tags set i tag all within).1 has))
          (λ none. absurd (none.1 s ((has_all rows.tags set i s all within).0 ((are.exactly s).0 (inl refl))))),
    );
  }

  pub tags_none : (statuses : List ℕ) → statuses ≡ [] → AreTagsUpTo rows.tags set i statuses → (one : List ℕ) → one ≡ 0 ∷ [] → AreTagsOf rows set one
  tags_none (s ∷ statuses) none are one is = absurd (cc)
  tags_none [] none are one is =
      let nothing : (other : ℕ) → HasMark set (Marked rows.tags) other → ⊥ =
      λ other has. (are.exactly other).1 ((has_all rows.tags set i other all within).1 has) in
      subst (AreTagsOf rows set) (sym is)
      (record {
        rising = tt;
        exactly = λ tag. (
          λ member. ⊎_elim (λ same. inr (sym same, λ other has. nothing other has)) (λ out. absurd out) member,
          ⊎_elim (λ has. absurd (nothing tag has)) (λ none'. inl (sym none'.0)),
        );
      })

pub fronts_small : (fronts mark slashes : ℕ) → mark < slashes → slashes ≤ 32 → fronts < 2 ^ slashes → bit_or fronts (1 * 2 ^ mark % 2 ^ 32) < 2 ^ slashes
fronts_small fronts mark slashes below few small =
    let power : 2 ^ mark < 2 ^ slashes = pow-lt below in
    or_lt slashes fronts (1 * 2 ^ mark % 2 ^ 32) small (omega (arith, power, mod-le (1 * 2 ^ mark) (2 ^ 32)))

-- heads and lists with those of one set more
module _ (rows : PositionRows) (sets : List (List ℕ)) where
  pub marked_more : (heads : List RowHead) (lists : List (List ℕ)) (count : ℕ) (head : RowHead) (statuses : List ℕ) → head.list ≡ count + 1 →
      IsAccept rows (listed_row sets count) head.accept → (head.accept < 2 → AreFrontsOf rows (listed_row sets count) head.fronts) →
      (2 ≤ head.accept → head.fronts ≡ 0) → head.fronts < 2 ^ rows.slashes → AreTagsOf rows (listed_row sets count) statuses →
      AreMarked rows sets heads lists count → AreMarked rows sets (heads ++ head ∷ []) (lists ++ statuses ∷ []) (count + 1)
  marked_more heads lists count head statuses list accept fronts no_fronts small tags are =
      let new : List RowHead = heads ++ head ∷ [] in
      let new_lists : List (List ℕ) = lists ++ statuses ∷ [] in
      let old_at : (row : ℕ) → row < count + 2 → get_or new row empty_head ≡ get_or heads row empty_head =
      λ row short. get_or_append_left heads (head ∷ []) empty_head row (omega (arith, short, are.many)) in
      let new_at : get_or new (count + 2) empty_head ≡ head = get_or_push heads head empty_head (count + 2) are.many in
      let old_list : (i : ℕ) → i < count + 1 → get_or new_lists i [] ≡ get_or lists i [] =
      λ i short. get_or_append_left lists (statuses ∷ []) [] i (omega (arith, short, are.many_lists)) in
      let new_list : get_or new_lists (count + 1) [] ≡ statuses = get_or_push lists statuses [] (count + 1) are.many_lists in
      record {
        many = omega (arith, length_push heads head, are.many);
        many_lists = omega (arith, length_push lists statuses, are.many_lists);
        stop = old_at 0 (omega arith) ∙ are.stop;
        start = old_at 1 (omega arith) ∙ are.start;
        first_list = old_list 0 (omega arith) ∙ are.first_list;
        numbered = λ i short.
            ⊎_elim
            (λ here. omega (arith, ap (λ n. (get_or new (n + 2) empty_head).list) here, ap (λ (h : RowHead). h.list) new_at, list, here))
            (λ other. let before : i < count = omega (arith, short, other) in ap (λ (h : RowHead). h.list) (old_at (i + 2) (omega (arith, before)))
            ∙ are.numbered i before)
            (cases_eq i count);
        lists_within = λ row short.
            ⊎_elim
            (λ here. omega (arith, ap (λ r. (get_or new r empty_head).list) here, ap (λ (h : RowHead). h.list) new_at, list))
            (λ other. let before : row < count + 2 =
            omega (arith, short, other) in omega (arith, ap (λ (h : RowHead). h.list) (old_at row before), are.lists_within row before))
            (cases_eq row (count + 2));
        each = λ i short.
            ⊎_elim
            (λ here.
            let row : get_or new (i + 2) empty_head ≡ head = ap (λ n. get_or new (n + 2) empty_head) here ∙ new_at in
            let marks : marks_by new new_lists (i + 2) ≡ record { accept = head.accept; fronts = head.fronts; statuses = statuses } =
            ap (λ (h : RowHead). record { accept = h.accept; fronts = h.fronts; statuses = get_or new_lists h.list [] }) row
            ∙ ap (λ l. record { accept = head.accept; fronts = head.fronts; statuses = l }) (ap (λ n. get_or new_lists n []) list ∙ new_list) in
            subst (AreMarksOf rows (listed_row sets i)) (sym marks)
            (subst (λ n. AreMarksOf rows (listed_row sets n) (record { accept = head.accept; fronts = head.fronts; statuses = statuses })) (sym here)
            (record { accept = accept; fronts = fronts; no_fronts = no_fronts; small_fronts = small; tags = tags })))
            (λ other.
            let before : i < count = omega (arith, short, other) in
            let row = old_at (i + 2) (omega (arith, before)) in
            let within = are.lists_within (i + 2) (omega (arith, before)) in
            let marks : marks_by new new_lists (i + 2) ≡ marks_by heads lists (i + 2) =
            ap (λ (h : RowHead). record { accept = h.accept; fronts = h.fronts; statuses = get_or new_lists h.list [] }) row
            ∙ ap (λ l. record { accept = (get_or heads (i + 2) empty_head).accept; fronts = (get_or heads (i + 2) empty_head).fronts; statuses = l })
            (old_list (get_or heads (i + 2) empty_head).list within) in
            subst (AreMarksOf rows (listed_row sets i)) (sym marks) (are.each i before))
            (cases_eq i count);
      }

pub no_fronts_small : (fronts slashes : ℕ) → fronts ≡ 0 → fronts < 2 ^ slashes
no_fronts_small fronts slashes none = omega (arith, none, pow_pos slashes)
