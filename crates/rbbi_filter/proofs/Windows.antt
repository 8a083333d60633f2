-- The characters before a place that tell whether an abbreviation stands there.
use Rattle.std.proofs.Common.{◌≡◌, ℕ, suc, ◌+◌, ◌-◌, ◌<◌, ◌≤◌, ◌⊎◌, inl, inr, Bool, true, false, cond, List, [], ◌∷◌, ◌++◌, length, take, drop, get_or}
use Rattle.std.proofs.Common.{refl, sym, ap, ◌∙◌, subst, ⊎_elim, arith, length-append, length-drop}
use Rattle.std.specs.Prelude.{◌&&◌, ◌||◌, ◌==◌, nat_eq, nat_lt, reverse, set, slice_range}
use Rattle.std.specs.List.{AllByRecursion, list_any, prefix_len, suffix_len}
use Rattle.std.specs.Cmp.Lexicographic.{pointwise}
use Rattle.std.proofs.lemmas.Bool.{lt-ltb, cases_lt, ne_eqb, cond-false, cond-true}
use Rattle.std.proofs.lemmas.List.{reverse-append, length-reverse, length-take-le, take_all, get_or-append_right, take-append-drop}
use Rattle.std.proofs.lemmas.List.{drop_more, get_or-set_same, drop-set-lt, drop-drop, drop-take, length-set}
use Rattle.std.proofs.lemmas.List.Folds.{prefix_len-append}
use Rattle.std.proofs.lemmas.List.Sums.{suffix_len-le-length}
use Rattle.rbbi_model.specs.Words.{IsText}
use Rattle.rbbi_model.proofs.Texts.{text_take, text_drop}
use Rattle.rbbi_filter.specs.Abbreviations.{is_space, is_white_space, without_last_spaces, ends_apart, ends_with_member, ends, window, is_suppressed}
use Rattle.rbbi_filter.specs.inner.Windows.{IsEnough}

take_past : (front w : List ℕ) (n : ℕ) → take (length front + n) (front ++ w) ≡ front ++ take n w
take_past [] w n = ap (λ k. take k w) (omega arith)
take_past (c ∷ front) w n =
    ap (λ k. take k ((c ∷ front) ++ w)) (let e : length (c ∷ front) + n ≡ suc (length front + n) = omega arith in e)
    ∙ ap (λ l. c ∷ l) (take_past front w n)

drop_past : (front w : List ℕ) (n : ℕ) → drop (length front + n) (front ++ w) ≡ drop n w
drop_past [] w n = ap (λ k. drop k w) (omega arith)
drop_past (c ∷ front) w n =
    ap (λ k. drop k ((c ∷ front) ++ w)) (let e : length (c ∷ front) + n ≡ suc (length front + n) = omega arith in e) ∙ drop_past front w n

length_trim : (w : List ℕ) → length (without_last_spaces w) + suffix_len is_space w ≡ length w
length_trim w =
    let most = suffix_len-le-length is_space w in
    omega (arith, most, length-take-le (length w - suffix_len is_space w) w (omega arith))

-- characters before others that aren't all spaces
suffix_append : (front w : List ℕ) → suffix_len is_space w < length w → suffix_len is_space (front ++ w) ≡ suffix_len is_space w
suffix_append front w some =
    ap (prefix_len is_space) (reverse-append front w)
    ∙ prefix_len-append is_space (reverse w) (reverse front)
    ∙ cond-false _ _ _ (ne_eqb (suffix_len is_space w) (length (reverse w)) (λ e. absurd (omega (arith, some, e, length-reverse w))))

trim_append : (front w : List ℕ) → 0 < length (without_last_spaces w) → without_last_spaces (front ++ w) ≡ front ++ without_last_spaces w
trim_append front w some =
    let long = length_trim w in
    ap (λ n. take n (front ++ w)) (omega (arith, long, some, length-append front w, suffix_append front w (omega (arith, long, some))))
    ∙ take_past front w (length w - suffix_len is_space w)

-- a character before spaces alone
suffix_cons : (c : ℕ) (w : List ℕ) → length (without_last_spaces w) ≡ 0 → suffix_len is_space (c ∷ w) ≡ length w + cond (is_space c) 1 0
suffix_cons c w none =
    ap (prefix_len is_space) (reverse-append (c ∷ []) w)
    ∙ prefix_len-append is_space (reverse w) (c ∷ [])
    ∙ cond-true _ _ _ (subst_eqb (suffix_len is_space w) (length (reverse w)) (omega (arith, none, length_trim w, length-reverse w)))
    ∙ ap (λ n. n + cond (is_space c) 1 0) (length-reverse w)
  where
    subst_eqb : (a b : ℕ) → a ≡ b → (a == b) ≡ true
    subst_eqb a b e = grind (arith, e)

pub trim_space : (c : ℕ) (w : List ℕ) → is_space c ≡ true → length (without_last_spaces w) ≡ 0 → without_last_spaces (c ∷ w) ≡ []
trim_space c w space none =
    let all : suffix_len is_space (c ∷ w) ≡ length w + 1 = suffix_cons c w none ∙ ap (λ b. length w + cond b 1 0) space in
    ap (λ n. take n (c ∷ w)) (let e : length (c ∷ w) - suffix_len is_space (c ∷ w) ≡ 0 = omega (arith, all) in e)

pub trim_char : (c : ℕ) (w : List ℕ) → (is_space c ≡ false) ⊎ (0 < length (without_last_spaces w)) →
    without_last_spaces (c ∷ w) ≡ c ∷ without_last_spaces w
trim_char c w solid =
    ⊎_elim
    (λ some. trim_append (c ∷ []) w some)
    (λ few. let none : length (without_last_spaces w) ≡ 0 = omega arith in ⊎_elim
    (λ char.
    let all : suffix_len is_space (c ∷ w) ≡ length w + 0 = suffix_cons c w none ∙ ap (λ b. length w + cond b 1 0) char in
    ap (λ n. take n (c ∷ w)) (let e : length (c ∷ w) - suffix_len is_space (c ∷ w) ≡ suc (length w - suffix_len is_space w) =
    omega (arith, all, none, length_trim w) in e))
    (λ some. absurd (omega (arith, none, some)))
    solid)
    (cases_lt 0 (length (without_last_spaces w)))

pub solid_char : (c : ℕ) (w : List ℕ) → (is_space c ≡ false) ⊎ (0 < length w) → suffix_len is_space w ≡ 0 → suffix_len is_space (c ∷ w) ≡ 0
solid_char c [] solid none = ⊎_elim (λ char. ap (λ b. cond b 1 0) char) (λ some. absurd (omega (arith, some))) solid
solid_char c (d ∷ w) solid none = suffix_append (c ∷ []) (d ∷ w) (omega (arith, none)) ∙ none

apart_append : (front w : List ℕ) → 0 < length w → ends_apart (front ++ w) ≡ ends_apart w
apart_append front w some =
    let long = length-append front w in
    ap (λ b. b || is_white_space (get_or (front ++ w) (length (front ++ w) - 1) 0))
    (ne_eqb (length (front ++ w)) 0 (λ e. absurd (omega (arith, e, long, some))) ∙ sym (ne_eqb (length w) 0 (λ e. absurd (omega (arith, e, some)))))
    ∙ ap (λ d. (length w == 0) || is_white_space d)
    (get_or-append_right front w (length front) (length (front ++ w) - 1) 0 refl (omega (arith, long, some))
    ∙ ap (λ n. get_or w n 0) (omega (arith, long, some)))

member_append : (front part member : List ℕ) → length member < length part →
    ends_with_member part member ≡ ends_with_member (front ++ part) member
member_append front part member short =
    let past : length (front ++ part) - length member ≡ length front + (length part - length member) = omega (arith, short, length-append front part) in
    let most : length part - length member ≤ length part = omega arith in
    sym
    (ap (λ n. pointwise nat_eq member (drop n (front ++ part)) && ends_apart (take n (front ++ part))) past
    ∙ ap (λ w. pointwise nat_eq member w && ends_apart (take (length front + (length part - length member)) (front ++ part)))
    (drop_past front part (length part - length member))
    ∙ ap (λ w. pointwise nat_eq member (drop (length part - length member) part) && ends_apart w) (take_past front part (length part - length member))
    ∙ ap (λ b. pointwise nat_eq member (drop (length part - length member) part) && b)
    (apart_append front (take (length part - length member) part) (omega (arith, short, length-take-le (length part - length member) part most))))

any_append : (front part : List ℕ) (longest : ℕ) (list : List (List ℕ)) → longest < length part → AllByRecursion (λ member. length member ≤ longest) list →
    list_any (ends_with_member part) list ≡ list_any (ends_with_member (front ++ part)) list
any_append front part longest [] long most = refl
any_append front part longest (member ∷ list) long most =
    ap (λ b. b || list_any (ends_with_member part) list) (member_append front part member (omega (arith, most.0)))
    ∙ ap (λ b. ends_with_member (front ++ part) member || b) (any_append front part longest list long most.1)

-- what is read is enough
pub enough_ends : (list : List (List ℕ)) (longest : ℕ) (w part : List ℕ) → AllByRecursion (λ member. length member ≤ longest) list →
    IsEnough longest w part → ends list part ≡ ends list w
enough_ends list longest w part most enough =
    let found : List ℕ → Bool = λ v. list_any (ends_with_member v) list in
    ap found (take_all (length part - suffix_len is_space part) part (omega arith))
    ∙ ⊎_elim
    (λ whole. ap found (enough.part_is ∙ ap (λ n. without_last_spaces (drop n w)) whole))
    (λ long. any_append (take enough.start w) part longest list long most
    ∙ ap (λ v. found (take enough.start w ++ v)) enough.part_is
    ∙ ap found
    (sym (trim_append (take enough.start w) (drop enough.start w) (omega (arith, long, ap length enough.part_is)))
    ∙ ap without_last_spaces (take-append-drop enough.start w)))
    enough.most

pub enough_text : (longest : ℕ) (x part : List ℕ) (at : ℕ) → IsText x → IsEnough longest (window x at) part → IsText part
enough_text longest x part at text enough =
    let w : List ℕ = drop enough.start (window x at) in
    subst IsText (sym enough.part_is)
    (text_take (length w - suffix_len is_space w) w
    (text_drop enough.start (window x at) (text_take (at - (at - 64)) (drop (at - 64) x) (text_drop (at - 64) x text))))

no_length : (w : List ℕ) → length w ≡ 0 → w ≡ []
no_length [] none = refl
no_length (c ∷ w) none = absurd (omega (arith, none))

-- before anything is read
pub nothing_read : (x buffer : List ℕ) (at : ℕ) → length buffer ≡ 64 →
    (drop 64 buffer ≡ without_last_spaces (slice_range x at at)) × (suffix_len is_space (drop 64 buffer) ≡ 0)
nothing_read x buffer at room =
    let none = no_length (drop 64 buffer) (omega (arith, room, length-drop 64 buffer)) in
    let range : slice_range x at at ≡ [] = ap (λ n. take n (drop at x)) (let e : at - at ≡ 0 = omega arith in e) in (
      none ∙ sym (ap without_last_spaces range),
      ap (suffix_len is_space) none,
    )

-- the characters from one before a place on
from_before : (x : List ℕ) (place at : ℕ) → 0 < place → place ≤ at → at ≤ length x →
    slice_range x (place - 1) at ≡ get_or x (place - 1) 0 ∷ slice_range x place at
from_before x place at some order within =
    ap (take (at - (place - 1))) (drop_more x (place - 1) 0 (omega arith))
    ∙ ap (λ n. take (at - (place - 1)) (get_or x (place - 1) 0 ∷ drop n x)) (let e : place - 1 + 1 ≡ place = omega arith in e)
    ∙ ap (λ n. take n (get_or x (place - 1) 0 ∷ drop place x)) (let e : at - (place - 1) ≡ suc (at - place) = omega arith in e)

-- a character is put before those that are kept
pub one_kept : (x buffer : List ℕ) (place at first c : ℕ) → 0 < place → place ≤ at → at ≤ length x → length buffer ≡ 64 → 0 < first → first ≤ 64 →
    c ≡ get_or x (place - 1) 0 → (is_space c ≡ false) ⊎ (first < 64) → drop first buffer ≡ without_last_spaces (slice_range x place at) →
    suffix_len is_space (drop first buffer) ≡ 0 →
    (drop (first - 1) (set buffer (first - 1) c) ≡ without_last_spaces (slice_range x (place - 1) at))
    × (suffix_len is_space (drop (first - 1) (set buffer (first - 1) c)) ≡ 0)
one_kept x buffer place at first c some order within room begun few is solid part none =
    let kept : drop (first - 1) (set buffer (first - 1) c) ≡ c ∷ drop first buffer =
    drop_more (set buffer (first - 1) c) (first - 1) 0 (omega (arith, room, length-set buffer (first - 1) c))
    ∙ ap (λ d. d ∷ drop (first - 1 + 1) (set buffer (first - 1) c)) (get_or-set_same buffer (first - 1) c 0 (omega (arith, room)))
    ∙ ap (λ w. c ∷ w) (drop-set-lt (first - 1 + 1) buffer (first - 1) c (omega arith))
    ∙ ap (λ n. c ∷ drop n buffer) (let e : first - 1 + 1 ≡ first = omega arith in e) in
    let long : length (drop first buffer) ≡ 64 - first = omega (arith, room, length-drop first buffer) in (
      kept
          ∙ ap (λ w. c ∷ w) part
          ∙ sym (ap without_last_spaces (from_before x place at some order within ∙ ap (λ d. d ∷ slice_range x place at) (sym is))
          ∙ trim_char c (slice_range x place at) (⊎_elim inl (λ more. inr (omega (arith, more, long, ap length part))) solid)),
      ap (suffix_len is_space) kept ∙ solid_char c (drop first buffer) (⊎_elim inl (λ more. inr (omega (arith, more, long))) solid) none,
    )

-- a space at the end is passed over
pub one_passed : (x buffer : List ℕ) (place at first c : ℕ) → 0 < place → place ≤ at → at ≤ length x → length buffer ≡ 64 → 64 ≤ first →
    c ≡ get_or x (place - 1) 0 → is_space c ≡ true → drop first buffer ≡ without_last_spaces (slice_range x place at) →
    drop first buffer ≡ without_last_spaces (slice_range x (place - 1) at)
one_passed x buffer place at first c some order within room full is space part =
    let none : length (drop first buffer) ≡ 0 = omega (arith, room, full, length-drop first buffer) in
    no_length (drop first buffer) none
    ∙ sym (ap without_last_spaces (from_before x place at some order within ∙ ap (λ d. d ∷ slice_range x place at) (sym is))
    ∙ trim_space c (slice_range x place at) space (omega (arith, none, ap length part)))

-- enough is read at the window's start, or where more than the longest abbreviation has is kept
pub read_enough : (x part : List ℕ) (place at longest : ℕ) → at - 64 ≤ place → place ≤ at → at ≤ length x →
    part ≡ without_last_spaces (slice_range x place at) → suffix_len is_space part ≡ 0 → (place ≤ at - 64) ⊎ (longest < length part) →
    IsEnough longest (window x at) part
read_enough x part place at longest reach order within is none most = record {
  start = place - (at - 64);
  part_is = let low : ℕ = at - 64 in let k : ℕ = place - low in
      is
      ∙ ap without_last_spaces
      (sym
      (ap (λ n. drop k (take n (drop low x))) (let e : at - low ≡ k + (at - place) = omega arith in e)
      ∙ drop-take k (at - place) (drop low x)
      ∙ ap (take (at - place)) (drop-drop k low x)
      ∙ ap (λ n. take (at - place) (drop n x)) (let e : low + k ≡ place = omega arith in e)));
  solid = none;
  most = ⊎_elim (λ whole. inl (omega arith)) inr most;
}

-- a place within the text is suppressed where the characters before it end with an abbreviation
pub told_by_window : (list : List (List ℕ)) (x : List ℕ) (at : ℕ) → 0 < at → at < length x → ends list (window x at) ≡ is_suppressed list x at
told_by_window list x at some within =
    sym (ap (λ b. b && (nat_lt at (length x) && ends list (window x at))) (lt-ltb 0 at some)
    ∙ ap (λ b. b && ends list (window x at)) (lt-ltb at (length x) within))
