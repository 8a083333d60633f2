-- Pieces of a text: what stands where, and what an edit of some of them makes of all.
use Rattle.std.proofs.Common.{◌≡◌, ℕ, zero, suc, ◌+◌, ◌-◌, ◌*◌, ◌/◌, ◌<◌, ◌≤◌, min, List, [], ◌∷◌, ◌++◌, map, length, get_or, set, take, drop, refl, ap, sym}
use Rattle.std.proofs.Common.{◌∙◌, subst, arith, length-append, length-take, length-drop, append_assoc, append-nil, ◌⊎◌, inl, inr, ⊎_elim}
use Rattle.std.specs.List.{AllByRecursion}
use Rattle.std.specs.Prelude.{Bool, true, false, MatchBool}
use Rattle.std.proofs.lemmas.Bool.{cases_lt, false≢true}
use Rattle.std.proofs.lemmas.List.{take-append-drop, drop_more, drop_all, take_at, drop_at, get_or-append_right, get_or_read}
use Rattle.std.proofs.lemmas.List.{get_or_append_left, get_or-drop, get_or-take, get_or-map, ext_get_or, length-map, set_split, take_more, length-take-le}
use Rattle.rbbi_model.specs.Words.{IsCharacter, IsText, most_characters}
use Rattle.rbbi_model.specs.Spelling.{joined}
use Rattle.rbbi_model.specs.Scripts.{splice}
use Rattle.rbbi_model.proofs.Lists.{all_append, all_left, all_right}
use Rattle.rbbi_text.specs.Cuts.{starts_from, IsFilled, AreFilled, ArePieces, AreCut}
use Rattle.rbbi_text.specs.Excerpts.{IsExcerptOf}
use Rattle.rbbi_text.specs.Texts.{IsShortText}
use Rattle.rbbi_text.specs.inner.Cuts.{AreSoFar, HaveRoom, IsIn, shifted, pieces_with, starts_with_new, edited_piece, AreWholeCut, IsFound, IsMiddle}
use Rattle.rbbi_text.proofs.Splices.{length-splice, text-splice}

-- joined pieces

pub joined-append : (xs ys : List (List ℕ)) → joined (xs ++ ys) ≡ joined xs ++ joined ys
joined-append [] ys = refl
joined-append (x ∷ xs) ys = ap (λ (l : List ℕ). x ++ l) (joined-append xs ys) ∙ sym (append_assoc x (joined xs) (joined ys))

pub joined_push : (ps : List (List ℕ)) (p : List ℕ) → joined (ps ++ p ∷ []) ≡ joined ps ++ p
joined_push ps p = joined-append ps (p ∷ []) ∙ ap (λ (l : List ℕ). joined ps ++ l) (append-nil p)

-- the front of what is left becomes a piece
pub cut_more : (ps : List (List ℕ)) (rest all : List ℕ) (k : ℕ) → joined ps ++ rest ≡ all → joined (ps ++ take k rest ∷ []) ++ drop k rest ≡ all
cut_more ps rest all k is =
    ap (λ (l : List ℕ). l ++ drop k rest) (joined_push ps (take k rest)) ∙ append_assoc (joined ps) (take k rest) (drop k rest)
    ∙ ap (λ (l : List ℕ). joined ps ++ l) (take-append-drop k rest) ∙ is

-- those before a number and those from it on
pub parted : (ps : List (List ℕ)) (k : ℕ) → joined ps ≡ joined (take k ps) ++ joined (drop k ps)
parted ps k = ap joined (sym (take-append-drop k ps)) ∙ joined-append (take k ps) (drop k ps)

-- a piece, and those before and after it
pub piece_at : (ps : List (List ℕ)) (k : ℕ) → k < length ps → joined (drop k ps) ≡ get_or ps k [] ++ joined (drop (k + 1) ps)
piece_at ps k short = ap joined (drop_more ps k [] short)

-- lengths: before, in and after a piece
pub length_parted : (ps : List (List ℕ)) (k : ℕ) → length (joined ps) ≡ length (joined (take k ps)) + length (joined (drop k ps))
length_parted ps k = ap length (parted ps k) ∙ length-append (joined (take k ps)) (joined (drop k ps))

pub length_piece : (ps : List (List ℕ)) (k : ℕ) → k < length ps → length (joined (drop k ps)) ≡ length (get_or ps k []) + length (joined (drop (k + 1) ps))
length_piece ps k short = ap length (piece_at ps k short) ∙ length-append (get_or ps k []) (joined (drop (k + 1) ps))

pub length_behind : (ps : List (List ℕ)) (k : ℕ) → length ps ≤ k → length (joined (drop k ps)) ≡ 0
length_behind ps k past = ap (λ (l : List (List ℕ)). length (joined l)) (drop_all k ps past)

-- starts

pub length-starts : (n : ℕ) (ps : List (List ℕ)) → length (starts_from n ps) ≡ length ps
length-starts n [] = refl
length-starts n (p ∷ ps) = ap suc (length-starts (n + length p) ps)

pub starts-append : (n : ℕ) (xs ys : List (List ℕ)) → starts_from n (xs ++ ys) ≡ starts_from n xs ++ starts_from (n + length (joined xs)) ys
starts-append n [] ys = ap (λ (m : ℕ). starts_from m ys) (omega arith)
starts-append n (x ∷ xs) ys =
    ap (λ (l : List ℕ). n ∷ l) (starts-append (n + length x) xs ys)
    ∙ ap (λ (m : ℕ). n ∷ (starts_from (n + length x) xs ++ starts_from m ys)) (omega (arith, length-append x (joined xs)))

pub start_is : (n : ℕ) (ps : List (List ℕ)) (k : ℕ) → k < length ps → get_or (starts_from n ps) k 0 ≡ n + length (joined (take k ps))
start_is n [] k short = absurd (omega (arith, short))
start_is n (p ∷ ps) zero short = omega arith
start_is n (p ∷ ps) (suc k) short = start_is (n + length p) ps k (omega (arith, short)) ∙ omega (arith, length-append p (joined (take k ps)))

pub take-starts : (k n : ℕ) (ps : List (List ℕ)) → take k (starts_from n ps) ≡ starts_from n (take k ps)
take-starts zero n ps = refl
take-starts (suc k) n [] = refl
take-starts (suc k) n (p ∷ ps) = ap (λ (l : List ℕ). n ∷ l) (take-starts k (n + length p) ps)

pub drop-starts : (k n : ℕ) (ps : List (List ℕ)) → drop k (starts_from n ps) ≡ starts_from (n + length (joined (take k ps))) (drop k ps)
drop-starts zero n ps = ap (λ (m : ℕ). starts_from m ps) (omega arith)
drop-starts (suc k) n [] = refl
drop-starts (suc k) n (p ∷ ps) =
    drop-starts k (n + length p) ps ∙ ap (λ (m : ℕ). starts_from m (drop k ps)) (omega (arith, length-append p (joined (take k ps))))

-- starts that lie after what was removed are shifted as one
pub shifted-starts : (n removed added : ℕ) (ps : List (List ℕ)) → removed ≤ n → shifted removed added (starts_from n ps) ≡ starts_from (n - removed + added) ps
shifted-starts n removed added [] behind = refl
shifted-starts n removed added (p ∷ ps) behind =
    ap (λ (l : List ℕ). (n - removed + added) ∷ l)
    (shifted-starts (n + length p) removed added ps (omega (arith, behind)) ∙ ap (λ (m : ℕ). starts_from m ps) (omega (arith, behind)))

-- starts don't fall
pub starts_go_on : (n : ℕ) (ps : List (List ℕ)) (j k : ℕ) → j ≤ k → k < length ps → get_or (starts_from n ps) j 0 ≤ get_or (starts_from n ps) k 0
starts_go_on n [] j k before short = absurd (omega (arith, short))
starts_go_on n (p ∷ ps) zero zero before short = omega arith
starts_go_on n (p ∷ ps) zero (suc k) before short = omega (arith, start_is (n + length p) ps k (omega (arith, short)))
starts_go_on n (p ∷ ps) (suc j) zero before short = absurd (omega (arith, before))
starts_go_on n (p ∷ ps) (suc j) (suc k) before short = starts_go_on (n + length p) ps j k (omega (arith, before)) (omega (arith, short))

-- how full pieces are

pub filled_small : (ps : List (List ℕ)) (k : ℕ) → AreFilled ps → length (get_or ps k []) ≤ 1024
filled_small [] k filled = omega arith
filled_small (p ∷ []) zero filled = filled
filled_small (p ∷ []) (suc k) filled = omega arith
filled_small (p ∷ q ∷ ps) zero filled = filled.0.1
filled_small (p ∷ q ∷ ps) (suc k) filled = filled_small (q ∷ ps) k filled.1

pub filled_enough : (ps : List (List ℕ)) (k : ℕ) → AreFilled ps → k + 1 < length ps → 256 ≤ length (get_or ps k [])
filled_enough [] k filled short = absurd (omega (arith, short))
filled_enough (p ∷ []) k filled short = absurd (omega (arith, short))
filled_enough (p ∷ q ∷ ps) zero filled short = filled.0.0
filled_enough (p ∷ q ∷ ps) (suc k) filled short = filled_enough (q ∷ ps) k filled.1 (omega (arith, short))

pub filled_drop : (k : ℕ) (ps : List (List ℕ)) → AreFilled ps → AreFilled (drop k ps)
filled_drop zero ps filled = filled
filled_drop (suc k) [] filled = tt
filled_drop (suc zero) (p ∷ []) filled = tt
filled_drop (suc (suc k)) (p ∷ []) filled = tt
filled_drop (suc k) (p ∷ q ∷ ps) filled = filled_drop k (q ∷ ps) filled.1

pub filled_take : (k : ℕ) (ps : List (List ℕ)) → AreFilled ps → k < length ps → AllByRecursion IsFilled (take k ps)
filled_take zero ps filled short = tt
filled_take (suc k) [] filled short = tt
filled_take (suc k) (p ∷ []) filled short = absurd (omega (arith, short))
filled_take (suc k) (p ∷ q ∷ ps) filled short = (filled.0, filled_take k (q ∷ ps) filled.1 (omega (arith, short)))

pub all_filled : (ps : List (List ℕ)) → AllByRecursion IsFilled ps → AreFilled ps
all_filled [] all = tt
all_filled (p ∷ []) all = all.0.1
all_filled (p ∷ q ∷ ps) all = (all.0, all_filled (q ∷ ps) all.1)

pub filled-append : (xs ys : List (List ℕ)) → AllByRecursion IsFilled xs → AreFilled ys → AreFilled (xs ++ ys)
filled-append [] ys all filled = filled
filled-append (x ∷ []) [] all filled = all.0.1
filled-append (x ∷ []) (y ∷ ys) all filled = (all.0, filled)
filled-append (x ∷ z ∷ xs) ys all filled = (all.0, filled-append (z ∷ xs) ys all.1 filled)

-- pieces that aren't more than full start no later than full ones
pub joined_small : (k : ℕ) (ps : List (List ℕ)) → AreFilled ps → length (joined (take k ps)) ≤ 1024 * k
joined_small zero ps filled = omega arith
joined_small (suc k) [] filled = omega arith
joined_small (suc k) (p ∷ ps) filled =
    omega (arith, filled_small (p ∷ ps) zero filled, length-append p (joined (take k ps)), joined_small k ps (filled_drop (suc zero) (p ∷ ps) filled))

-- the piece in which a place would be if all were full doesn't start after it
pub full_start : (ps : List (List ℕ)) (place : ℕ) → 1 ≤ length ps → AreFilled ps →
    get_or (starts_from 0 ps) (min (place / 1024) (length (starts_from 0 ps) - 1)) 0 ≤ place
full_start ps place some filled =
    let k : ℕ = min (place / 1024) (length (starts_from 0 ps) - 1) in
    let within : k < length ps = omega (arith, some, length-starts 0 ps) in
    let low : 1024 * k ≤ place = omega arith in
    omega (arith, start_is 0 ps k within, joined_small k ps filled, low)

-- what is found of a piece

-- where the piece ends
pub ends_at : (ps : List (List ℕ)) (k : ℕ) → k < length ps → length (joined (take (k + 1) ps)) ≡ get_or (starts_from 0 ps) k 0 + length (get_or ps k [])
ends_at ps k short = omega (arith, start_is 0 ps k short, length_parted ps k, length_parted ps (k + 1), length_piece ps k short)

-- the piece in which a place was found ends after the place, or with the text
found_before : (ps : List (List ℕ)) (k place : ℕ) → IsIn (starts_from 0 ps) k place →
    (place < get_or (starts_from 0 ps) k 0 + length (get_or ps k [])) ⊎ (get_or (starts_from 0 ps) k 0 + length (get_or ps k []) ≡ length (joined ps))
found_before ps k place found =
    let short : k < length ps = omega (arith, found.within, length-starts 0 ps) in
    ⊎_elim
    (λ (more : k + 1 < length ps).
    inl (omega (arith, found.ends (omega (arith, more, length-starts 0 ps)), start_is 0 ps (k + 1) more, ends_at ps k short)))
    (λ (none : length ps ≤ k + 1). inr (omega (arith, ends_at ps k short, length_parted ps (k + 1), length_behind ps (k + 1) none)))
    (cases_lt (k + 1) (length ps))

-- the character at a place
pub character_in : (ps : List (List ℕ)) (k place : ℕ) → k < length ps → get_or (starts_from 0 ps) k 0 ≤ place →
    place < get_or (starts_from 0 ps) k 0 + length (get_or ps k []) → get_or (joined ps) place 0 ≡ get_or (get_or ps k [])
    (place - get_or (starts_from 0 ps) k 0) 0
character_in ps k place short begins inside =
    let start : ℕ = get_or (starts_from 0 ps) k 0 in
    let long : length (joined (take k ps)) ≡ start = sym (start_is 0 ps k short ∙ omega arith) in
    ap (λ (l : List ℕ). get_or l place 0) (parted ps k ∙ ap (λ (l : List ℕ). joined (take k ps) ++ l) (piece_at ps k short))
    ∙ get_or-append_right (joined (take k ps)) (get_or ps k [] ++ joined (drop (k + 1) ps)) start place 0 long begins
    ∙ get_or_append_left (get_or ps k []) (joined (drop (k + 1) ps)) 0 (place - start) (omega (arith, begins, inside))

-- what stands before a place in a piece, and from it on
module _ (ps : List (List ℕ)) (k x : ℕ) (short : k < length ps) (within : x ≤ length (get_or ps k [])) where
  p : List ℕ
  p = get_or ps k []

  front : List ℕ
  front = joined (take k ps) ++ take x p

  back : List ℕ
  back = drop x p ++ joined (drop (k + 1) ps)

  long : length front ≡ get_or (starts_from 0 ps) k 0 + x
  unfolding front p
  long = omega (arith, length-append (joined (take k ps)) (take x p), length-take-le x p within, start_is 0 ps k short)

  whole : joined ps ≡ front ++ back
  unfolding front back p
  whole =
      parted ps k ∙ ap (λ (l : List ℕ). joined (take k ps) ++ l) (piece_at ps k short ∙ ap (λ (l : List ℕ). l ++ joined (drop (k + 1) ps))
      (sym (take-append-drop x p)))
      ∙ simp append_assoc

  pub taken_in : take (get_or (starts_from 0 ps) k 0 + x) (joined ps) ≡ joined (take k ps) ++ take x (get_or ps k [])
  unfolding front p
  taken_in = ap (λ (l : List ℕ). take (get_or (starts_from 0 ps) k 0 + x) l) whole ∙ take_at front back (get_or (starts_from 0 ps) k 0 + x) long

  pub dropped_in : drop (get_or (starts_from 0 ps) k 0 + x) (joined ps) ≡ drop x (get_or ps k []) ++ joined (drop (k + 1) ps)
  unfolding back p
  dropped_in = ap (λ (l : List ℕ). drop (get_or (starts_from 0 ps) k 0 + x) l) whole ∙ drop_at front back (get_or (starts_from 0 ps) k 0 + x) long

-- edits

-- What an edit of the pieces from `first` on and before `past` is: the new ones and what is after are what stands in piece `first`
-- before the place, the word, and what stands in the text after what is removed.
pub record IsEdit (ps new : List (List ℕ)) (w : List ℕ) (at remove first past : ℕ) : Type 0 where
  pub order : first < past
  pub past_within : past ≤ length ps
  pub begins : get_or (starts_from 0 ps) first 0 ≤ at
  pub within : at ≤ get_or (starts_from 0 ps) first 0 + length (get_or ps first [])
  pub inside : at + remove ≤ length (joined ps)
  pub behind : at + remove ≤ length (joined (take past ps))
  pub same : joined new ++ joined (drop past ps) ≡ take (at - get_or (starts_from 0 ps) first 0) (get_or ps first []) ++ (w ++ drop (at + remove) (joined ps))
  pub some : 1 ≤ length new
  pub filled : AreFilled new
  pub all : past < length ps → AllByRecursion IsFilled new

-- the text after it
pub edited_text : (ps new : List (List ℕ)) (w : List ℕ) (at remove first past : ℕ) → IsEdit ps new w at remove first past →
    joined (pieces_with ps first past new) ≡ splice (joined ps) at remove w
edited_text ps new w at remove first past edit =
    let start : ℕ = get_or (starts_from 0 ps) first 0 in
    let p : List ℕ = get_or ps first [] in
    let front : List ℕ = joined (take first ps) in
    let back : List ℕ = drop (at + remove) (joined ps) in
    let short : first < length ps = omega (arith, edit.order, edit.past_within) in
    let place : start + (at - start) ≡ at = omega (arith, edit.begins) in
    let before : front ++ take (at - start) p ≡ take at (joined ps) =
    sym (taken_in ps first (at - start) short (omega (arith, edit.begins, edit.within))) ∙ ap (λ (n : ℕ). take n (joined ps)) place in
    joined-append (take first ps) (new ++ drop past ps) ∙ ap (λ (l : List ℕ). front ++ l) (joined-append new (drop past ps) ∙ edit.same)
    ∙ sym (append_assoc front (take (at - start) p) (w ++ back)) ∙ ap (λ (l : List ℕ). l ++ (w ++ back)) before
    ∙ sym (append_assoc (take at (joined ps)) w back)

-- the starts after it
pub edited_starts : (ps new : List (List ℕ)) (w : List ℕ) (at remove first past : ℕ) → IsEdit ps new w at remove first past →
    starts_with_new (starts_from 0 ps) first past new remove (length w) ≡ starts_from 0 (pieces_with ps first past new)
edited_starts ps new w at remove first past edit =
    let start : ℕ = get_or (starts_from 0 ps) first 0 in
    let short : first < length ps = omega (arith, edit.order, edit.past_within) in
    let begin : start ≡ 0 + length (joined (take first ps)) = start_is 0 ps first short in
    let end : ℕ = 0 + length (joined (take past ps)) in
    let text = edited_text ps new w at remove first past edit in
    let long : length (joined (take first ps)) + (length (joined new) + length (joined (drop past ps))) ≡ length (joined ps) - remove + length w =
    sym (ap length (joined-append (take first ps) (new ++ drop past ps)) ∙ length-append (joined (take first ps)) (joined (new ++ drop past ps))
    ∙ ap (λ (n : ℕ). length (joined (take first ps)) + n) (ap length (joined-append new (drop past ps)) ∙ length-append (joined new) (joined (drop past ps))))
    ∙ ap length text ∙ length-splice (joined ps) w at remove edit.inside in
    let next : end - remove + length w ≡ start + length (joined new) = omega (arith, long, begin, length_parted ps past, edit.behind) in
    let front : take first (starts_from 0 ps) ≡ starts_from 0 (take first ps) = take-starts first 0 ps in
    let back : shifted remove (length w) (drop past (starts_from 0 ps)) ≡ starts_from (start + length (joined new)) (drop past ps) =
    ap (λ (l : List ℕ). shifted remove (length w) l) (drop-starts past 0 ps) ∙ shifted-starts end remove (length w) (drop past ps) (omega (arith, edit.behind))
    ∙ ap (λ (n : ℕ). starts_from n (drop past ps)) next in
    ap (λ (l : List ℕ). l ++ (starts_from start new ++ shifted remove (length w) (drop past (starts_from 0 ps)))) front
    ∙ ap (λ (l : List ℕ). starts_from 0 (take first ps) ++ (starts_from start new ++ l)) back
    ∙ ap (λ (l : List ℕ). starts_from 0 (take first ps) ++ l) (sym (starts-append start new (drop past ps)))
    ∙ ap (λ (n : ℕ). starts_from 0 (take first ps) ++ starts_from n (new ++ drop past ps)) begin
    ∙ sym (starts-append 0 (take first ps) (new ++ drop past ps))

-- pieces after it are filled
pub edited_filled : (ps new : List (List ℕ)) (w : List ℕ) (at remove first past : ℕ) → AreFilled ps → IsEdit ps new w at remove first past →
    AreFilled (pieces_with ps first past new)
edited_filled ps new w at remove first past filled edit =
    let short : first < length ps = omega (arith, edit.order, edit.past_within) in
    let front = filled_take first ps filled short in
    ⊎_elim
    (λ (more : past < length ps). filled-append (take first ps) (new ++ drop past ps) front
    (filled-append new (drop past ps) (edit.all more) (filled_drop past ps filled)))
    (λ (none : length ps ≤ past).
    let same : new ++ drop past ps ≡ new = ap (λ (l : List (List ℕ)). new ++ l) (drop_all past ps none) ∙ append-nil new in
    filled-append (take first ps) (new ++ drop past ps) front (subst AreFilled (sym same) edit.filled))
    (cases_lt past (length ps))

-- all together
pub edited : (ps new : List (List ℕ)) (len : ℕ) (w : List ℕ) (at remove first past : ℕ) → AreCut ps (starts_from 0 ps) len → IsText w →
    length (joined ps) - remove + length w ≤ most_characters → IsEdit ps new w at remove first past →
    AreCut (pieces_with ps first past new) (starts_with_new (starts_from 0 ps) first past new remove (length w)) (len - remove + length w)
edited ps new len w at remove first past cut word few edit =
    let text = edited_text ps new w at remove first past edit in
    let long = length-splice (joined ps) w at remove edit.inside in
    let P : List ℕ → Type 0 = IsText in
    record {
      whole = record {
        some = omega (arith, edit.some, length-append (take first ps) (new ++ drop past ps), length-append new (drop past ps));
        filled = edited_filled ps new w at remove first past cut.whole.filled edit;
        text = (subst P (sym text) (text-splice (joined ps) w at remove cut.whole.text.0 word), omega (arith, ap length text, long, few));
      };
      begin = edited_starts ps new w at remove first past edit;
      long = omega (arith, ap length text, long, cut.long);
    }

-- one more piece
pub all_filled_push : (ps : List (List ℕ)) (p : List ℕ) → AllByRecursion IsFilled ps → IsFilled p → AllByRecursion IsFilled (ps ++ p ∷ [])
all_filled_push ps p all filled = all_append IsFilled ps (p ∷ []) all (filled, tt)

pub filled_push : (ps : List (List ℕ)) (p : List ℕ) → AllByRecursion IsFilled ps → length p ≤ 1024 → AreFilled (ps ++ p ∷ [])
filled_push ps p all small = filled-append ps (p ∷ []) all small

-- what a piece that is put after others makes of them
pub ruleset pushed = (cut_more, joined_push, all_filled_push, filled_push)

-- the piece that is full becomes one of the pieces
pub room_behind : (ps : List (List ℕ)) (last : List ℕ) → AreSoFar ps last → length last ≡ 1024 → length ps < 16383 →
    HaveRoom (joined ps ++ last) (ps ++ last ∷ []) []
room_behind ps last so_far full few = record {
  so_far = record {
    full = all_filled_push ps last so_far.full (omega (arith, full), omega (arith, full));
    long = omega (arith, ap length (joined_push ps last), length-append (joined ps) last, length-append ps (last ∷ []), so_far.long, full);
    few = omega (arith, length-append ps (last ∷ []), few);
    small = omega arith;
  };
  same = append-nil (joined (ps ++ last ∷ [])) ∙ joined_push ps last;
  room = omega arith;
}

-- what is needed to find a place
pub can_find : (ps : List (List ℕ)) (starts : List ℕ) (place : ℕ) → ArePieces ps → starts ≡ starts_from 0 ps → (0 < length starts) ×
    (get_or starts (min (place / 1024) (length starts - 1)) 0 ≤ place)
can_find ps starts place whole begin =
    let P : List ℕ → Type 0 = λ s. (0 < length s) × (get_or s (min (place / 1024) (length s - 1)) 0 ≤ place) in
    subst P (sym begin) (omega (arith, whole.some, length-starts 0 ps), full_start ps place whole.some whole.filled)

-- more pieces have no fewer characters
pub taken_longer : (ps : List (List ℕ)) (j k : ℕ) → j ≤ k → length (joined (take j ps)) ≤ length (joined (take k ps))
taken_longer ps zero k before = omega arith
taken_longer [] (suc j) k before = omega arith
taken_longer (p ∷ ps) (suc j) zero before = absurd (omega (arith, before))
taken_longer (p ∷ ps) (suc j) (suc k) before =
    omega (arith, length-append p (joined (take j ps)), length-append p (joined (take k ps)), taken_longer ps j k (omega (arith, before)))

-- one piece in place of another
pub one_piece : (ps : List (List ℕ)) (first : ℕ) (q : List ℕ) → first < length ps → set ps first q ≡ pieces_with ps first (first + 1) (q ∷ [])
one_piece ps first q short =
    let next : suc first ≡ first + 1 = omega arith in
    set_split ps first q short ∙ ap (λ (n : ℕ). take first ps ++ (q ∷ drop n ps)) next

-- and its start, which stays
pub one_start : (starts : List ℕ) (first removed added : ℕ) (q : List ℕ) → first < length starts → take (first + 1) starts ++ shifted removed added
    (drop (first + 1) starts) ≡ starts_with_new starts first (first + 1) (q ∷ []) removed added
one_start starts first removed added q short =
    ap (λ (l : List ℕ). l ++ shifted removed added (drop (first + 1) starts)) (take_more starts first 0 short)
    ∙ append_assoc (take first starts) (get_or starts first 0 ∷ []) (shifted removed added (drop (first + 1) starts))

-- an edit that stays in a piece is one
pub piece_edit : (ps : List (List ℕ)) (w : List ℕ) (at remove first from : ℕ) → first < length ps → get_or (starts_from 0 ps) first 0 + from ≡ at →
    from + remove ≤ length (get_or ps first []) → length (get_or ps first []) - remove + length w ≤ 1024 →
    (first + 1 < length ps → 256 ≤ length (get_or ps first []) - remove + length w) → IsEdit ps (edited_piece ps first from remove w ∷ []) w at remove first
    (first + 1)
piece_edit ps w at remove first from short place within full quarter =
    let p : List ℕ = get_or ps first [] in
    let x : ℕ = from + remove in
    let start : ℕ = get_or (starts_from 0 ps) first 0 in
    let q : List ℕ = edited_piece ps first from remove w in
    let back : List ℕ = joined (drop (first + 1) ps) in
    let before : at - start ≡ from = omega (arith, place) in
    let end : start + x ≡ at + remove = omega (arith, place) in
    let long : length q ≡ length p - remove + length w =
    omega (arith, within, length-append (take from p) (w ++ drop x p), length-append w (drop x p), length-take from p, length-drop x p) in
    let behind : at + remove ≤ length (joined (take (first + 1) ps)) = omega (arith, end, within, ends_at ps first short) in
    record {
      order = omega arith;
      past_within = omega (arith, short);
      begins = omega (arith, place);
      within = omega (arith, place, within);
      inside = omega (arith, behind, length_parted ps (first + 1));
      behind = behind;
      same =
          ap (λ (l : List ℕ). l ++ back) (append-nil q) ∙ append_assoc (take from p) (w ++ drop x p) back
          ∙ ap (λ (l : List ℕ). take from p ++ l) (append_assoc w (drop x p) back
          ∙ ap (λ (l : List ℕ). w ++ l) (sym (dropped_in ps first x short within) ∙ ap (λ (n : ℕ). drop n (joined ps)) end))
          ∙ ap (λ (n : ℕ). take n p ++ (w ++ drop (at + remove) (joined ps))) (sym before);
      some = omega arith;
      filled = omega (arith, long, full);
      all = λ more. ((omega (arith, long, quarter more), omega (arith, long, full)), tt);
    }

-- what is made of several pieces is one
pub middle_edit : (ps new : List (List ℕ)) (characters w : List ℕ) (at remove first from past : ℕ) → first < past → past ≤ length ps →
    get_or (starts_from 0 ps) first 0 + from ≡ at → from ≤ length (get_or ps first []) → at + remove ≤ length (joined (take past ps)) →
    characters ++ joined (drop past ps) ≡ take from (get_or ps first []) ++ (w ++ drop (at + remove) (joined ps)) → joined new ≡ characters →
    1 ≤ length new → AreFilled new → (past < length ps → AllByRecursion IsFilled new) → IsEdit ps new w at remove first past
middle_edit ps new characters w at remove first from past order past_within place within behind same are some filled all =
    let p : List ℕ = get_or ps first [] in
    let before : at - get_or (starts_from 0 ps) first 0 ≡ from = omega (arith, place) in
    record {
      order = order;
      past_within = past_within;
      begins = omega (arith, place);
      within = omega (arith, place, within);
      inside = omega (arith, behind, length_parted ps past);
      behind = behind;
      same = ap (λ (l : List ℕ). l ++ joined (drop past ps)) are ∙ same ∙ ap (λ (n : ℕ). take n p ++ (w ++ drop (at + remove) (joined ps))) (sym before);
      some = some;
      filled = filled;
      all = all;
    }

-- the pieces, the starts and the text after an edit
pub edit_made : (ps ps' new : List (List ℕ)) (starts starts' : List ℕ) (w : List ℕ) (at remove first past : ℕ) → AreWholeCut ps starts → IsText w →
    length (joined ps) - remove + length w ≤ most_characters → IsEdit ps new w at remove first past → ps' ≡ pieces_with ps first past new →
    starts' ≡ starts_with_new starts first past new remove (length w) → AreWholeCut ps' starts' × (joined ps' ≡ splice (joined ps) at remove w)
edit_made ps ps' new starts starts' w at remove first past cut word few edit are are' =
    let begun : AreWholeCut ps (starts_from 0 ps) = record { whole = cut.whole; begin = refl; long = refl } in
    let made = edited ps new (length (joined ps)) w at remove first past begun word few edit in
    let text : joined ps' ≡ splice (joined ps) at remove w = ap joined are ∙ edited_text ps new w at remove first past edit in
    let P : List (List ℕ) → Type 0 = ArePieces in
    let begin : starts' ≡ starts_from 0 ps' =
    are' ∙ ap (λ (s : List ℕ). starts_with_new s first past new remove (length w)) cut.begin ∙ made.begin
    ∙ ap (λ (l : List (List ℕ)). starts_from 0 l) (sym are) in
    (record { whole = subst P (sym are) made.whole; begin = begin; long = refl }, text)

-- finding

found_here : (ps : List (List ℕ)) (k place : ℕ) → place ≤ length (joined ps) → IsIn (starts_from 0 ps) k place → IsFound ps (starts_from 0 ps) k place
found_here ps k place inside found = record {
  within = omega (arith, found.within, length-starts 0 ps);
  within_starts = found.within;
  begins = found.begins;
  next = found.ends;
  at_most = ⊎_elim (λ less. omega (arith, less)) (λ whole. omega (arith, whole, inside)) (found_before ps k place found);
  inside = λ within. ⊎_elim (λ less. less) (λ whole. omega (arith, whole, within)) (found_before ps k place found);
}

pub is_found : (ps : List (List ℕ)) (starts : List ℕ) (k place : ℕ) → AreWholeCut ps starts → place ≤ length (joined ps) → IsIn starts k place →
    IsFound ps starts k place
is_found ps starts k place cut inside found =
    let P : List ℕ → Type 0 = λ s. IsIn s k place → IsFound ps s k place in
    subst P (sym cut.begin) (λ (f : IsIn (starts_from 0 ps) k place). found_here ps k place inside f) found

-- the character at a place that was found
pub character_at : (ps : List (List ℕ)) (starts : List ℕ) (k place : ℕ) → AreWholeCut ps starts → IsFound ps starts k place → place < length (joined ps) →
    get_or (joined ps) place 0 ≡ get_or (get_or ps k []) (place - get_or starts k 0) 0
character_at ps starts k place cut found short =
    let P : List ℕ → Type 0 = λ s. IsFound ps s k place → get_or (joined ps) place 0 ≡ get_or (get_or ps k []) (place - get_or s k 0) 0 in
    subst P (sym cut.begin) (λ (f : IsFound ps (starts_from 0 ps) k place). character_in ps k place f.within f.begins (f.inside short)) found

-- the piece in which a place was found is an excerpt of the text
pub piece_excerpt : (ps : List (List ℕ)) (starts : List ℕ) (k place : ℕ) (piece : List ℕ) → AreWholeCut ps starts → IsFound ps starts k place →
    piece ≡ get_or ps k [] → IsExcerptOf (joined ps) (record { from = get_or starts k 0; items = piece })
piece_excerpt ps starts k place piece cut found is =
    let start : ℕ = get_or (starts_from 0 ps) k 0 in
    let from : get_or starts k 0 ≡ start = ap (λ (s : List ℕ). get_or s k 0) cut.begin in
    record {
      within = omega (arith, from, ends_at ps k found.within, length_parted ps (k + 1), ap length is);
      each = λ j short.
          let inside : start + j < start + length (get_or ps k []) = omega (arith, short, ap length is) in
          let behind : start + j - start ≡ j = omega arith in
          ap (λ (l : List ℕ). get_or l j 0) is
          ∙ sym (character_in ps k (start + j) found.within (omega arith) inside ∙ ap (λ (n : ℕ). get_or (get_or ps k []) n 0) behind)
          ∙ ap (λ (n : ℕ). get_or (joined ps) (n + j) 0) (sym from);
    }

-- and a text
pub piece_text : (ps : List (List ℕ)) (k : ℕ) → ArePieces ps → k < length ps → IsShortText (get_or ps k [])
piece_text ps k pieces short = (
  all_left IsCharacter (get_or ps k []) (joined (drop (k + 1) ps))
      (subst IsText (piece_at ps k short)
      (all_right IsCharacter (joined (take k ps)) (joined (drop k ps)) (subst IsText (parted ps k) pieces.text.0))),
  omega (arith, filled_small ps k pieces.filled),
)

-- starts after an edit
pub behind_start : (ps : List (List ℕ)) (starts : List ℕ) (past removed : ℕ) → AreWholeCut ps starts → removed ≤ length (joined (take past ps)) →
    (k : ℕ) → past ≤ k → k < length starts → removed ≤ get_or starts k 0
behind_start ps starts past removed cut before k behind short =
    let same : get_or starts k 0 ≡ get_or (starts_from 0 ps) k 0 = ap (λ (s : List ℕ). get_or s k 0) cut.begin in
    let within : k < length ps = omega (arith, short, ap length cut.begin, length-starts 0 ps) in
    omega (arith, before, same, start_is 0 ps k within, taken_longer ps past k behind)

pub small_start : (ps : List (List ℕ)) (starts : List ℕ) → AreWholeCut ps starts → (k : ℕ) → k < length starts → get_or starts k 0 ≤ length (joined ps)
small_start ps starts cut k short =
    let same : get_or starts k 0 ≡ get_or (starts_from 0 ps) k 0 = ap (λ (s : List ℕ). get_or s k 0) cut.begin in
    let within : k < length ps = omega (arith, short, ap length cut.begin, length-starts 0 ps) in
    omega (arith, same, start_is 0 ps k within, length_parted ps k)

-- a piece that was found ends before the next starts
pub found_end : (ps : List (List ℕ)) (starts : List ℕ) (k place : ℕ) → AreWholeCut ps starts → IsFound ps starts k place →
    length (joined (take (k + 1) ps)) ≡ get_or starts k 0 + length (get_or ps k [])
found_end ps starts k place cut found = ends_at ps k found.within ∙ ap (λ (s : List ℕ). get_or s k 0 + length (get_or ps k [])) (sym cut.begin)

-- what stands from a place on that was found
found_rest : (ps : List (List ℕ)) (starts : List ℕ) (k place : ℕ) → AreWholeCut ps starts → IsFound ps starts k place → place ≤ length (joined ps) →
    drop place (joined ps) ≡ drop (place - get_or starts k 0) (get_or ps k []) ++ joined (drop (k + 1) ps)
found_rest ps starts k place cut found inside =
    let start : ℕ = get_or (starts_from 0 ps) k 0 in
    let same : get_or starts k 0 ≡ start = ap (λ (s : List ℕ). get_or s k 0) cut.begin in
    let x : ℕ = place - get_or starts k 0 in
    let at : place ≡ start + x = omega (arith, same, found.begins) in
    ap (λ (n : ℕ). drop n (joined ps)) at ∙ dropped_in ps k x found.within (omega (arith, found.begins, found.at_most))

-- a piece that starts no later is before the one past the place
found_order : (ps : List (List ℕ)) (starts : List ℕ) (k place : ℕ) → AreWholeCut ps starts → IsFound ps starts k place → (first : ℕ) → first < length ps →
    get_or starts first 0 ≤ place → first < k + 1
found_order ps starts k place cut found first short begins =
    let long : length starts ≡ length ps = ap length cut.begin ∙ length-starts 0 ps in
    let same : get_or starts first 0 ≡ get_or (starts_from 0 ps) first 0 = ap (λ (s : List ℕ). get_or s first 0) cut.begin in
    let same' : get_or starts (k + 1) 0 ≡ get_or (starts_from 0 ps) (k + 1) 0 = ap (λ (s : List ℕ). get_or s (k + 1) 0) cut.begin in
    ⊎_elim
    (λ (below : first < k + 1). below)
    (λ (above : k + 1 ≤ first).
    absurd (omega (arith, begins, same, same', found.next (omega (arith, above, short, long)), starts_go_on 0 ps (k + 1) first above short)))
    (cases_lt first (k + 1))

pub middle_one : (ps : List (List ℕ)) (starts front w : List ℕ) (end last : ℕ) (characters : List ℕ) → AreWholeCut ps starts → IsFound ps starts last end →
    end ≤ length (joined ps) → characters ≡ front ++ (w ++ drop (end - get_or starts last 0) (get_or ps last [])) →
    (last + 1 < length ps → 256 ≤ length characters) → IsMiddle ps starts front w end characters (last + 1)
middle_one ps starts front w end last characters cut found inside are enough =
    let tail : List ℕ = drop (end - get_or starts last 0) (get_or ps last []) in
    let back : List ℕ = joined (drop (last + 1) ps) in
    let long : length starts ≡ length ps = ap length cut.begin ∙ length-starts 0 ps in
    record {
      same =
          ap (λ (l : List ℕ). l ++ back) are ∙ append_assoc front (w ++ tail) back
          ∙ ap (λ (l : List ℕ). front ++ l) (append_assoc w tail back ∙ ap (λ (l : List ℕ). w ++ l) (sym (found_rest ps starts last end cut found inside)));
      past_within = omega (arith, found.within);
      past_within_starts = omega (arith, found.within, long);
      behind = omega (arith, found_end ps starts last end cut found, found.at_most);
      behind_first = found_order ps starts last end cut found;
      enough = enough;
    }

pub middle_two : (ps : List (List ℕ)) (starts front w : List ℕ) (end last : ℕ) (characters both : List ℕ) → AreWholeCut ps starts →
    IsFound ps starts last end → end ≤ length (joined ps) → characters ≡ front ++ (w ++ drop (end - get_or starts last 0) (get_or ps last [])) →
    last + 1 < length ps → both ≡ characters ++ get_or ps (last + 1) [] → IsMiddle ps starts front w end both (last + 2)
middle_two ps starts front w end last characters both cut found inside are more join =
    let next : List ℕ = get_or ps (last + 1) [] in
    let tail : List ℕ = drop (end - get_or starts last 0) (get_or ps last []) in
    let back : List ℕ = joined (drop (last + 2) ps) in
    let long : length starts ≡ length ps = ap length cut.begin ∙ length-starts 0 ps in
    let step : last + 1 + 1 ≡ last + 2 = omega arith in
    let behind : joined (drop (last + 1) ps) ≡ next ++ back = piece_at ps (last + 1) more ∙ ap (λ (n : ℕ). next ++ joined (drop n ps)) step in
    record {
      same =
          ap (λ (l : List ℕ). l ++ back) join ∙ append_assoc characters next back ∙ ap (λ (l : List ℕ). characters ++ l) (sym behind)
          ∙ ap (λ (l : List ℕ). l ++ joined (drop (last + 1) ps)) are ∙ append_assoc front (w ++ tail) (joined (drop (last + 1) ps))
          ∙ ap (λ (l : List ℕ). front ++ l) (append_assoc w tail (joined (drop (last + 1) ps))
          ∙ ap (λ (l : List ℕ). w ++ l) (sym (found_rest ps starts last end cut found inside)));
      past_within = omega (arith, more);
      past_within_starts = omega (arith, more, long);
      behind = omega (arith, found_end ps starts last end cut found, found.at_most, taken_longer ps (last + 1) (last + 2) (omega arith));
      behind_first = λ first short begins. omega (arith, found_order ps starts last end cut found first short begins);
      enough = λ further. omega (arith, ap length join, length-append characters next, filled_enough ps (last + 1) cut.whole.filled (omega (arith, further)));
    }

-- what is made isn't long
pub middle_short : (ps : List (List ℕ)) (starts front w : List ℕ) (end : ℕ) (characters : List ℕ) (past : ℕ) →
    IsMiddle ps starts front w end characters past → length characters ≤ length front + length w + length (joined ps)
middle_short ps starts front w end characters past middle =
    omega (
      arith,
      ap length middle.same,
      length-append characters (joined (drop past ps)),
      length-append front (w ++ drop end (joined ps)),
      length-append w (drop end (joined ps)),
      length-drop end (joined ps),
    )

-- the text and its pieces after an edit in a piece
pub edit_one : (ps ps' : List (List ℕ)) (starts starts' w : List ℕ) (at remove first from : ℕ) → AreWholeCut ps starts → IsText w →
    length (joined ps) - remove + length w ≤ most_characters → first < length ps → get_or starts first 0 + from ≡ at →
    from + remove ≤ length (get_or ps first []) → length (get_or ps first []) - remove + length w ≤ 1024 →
    (first + 1 < length ps → 256 ≤ length (get_or ps first []) - remove + length w) → ps' ≡ set ps first (edited_piece ps first from remove w) →
    starts' ≡ take (first + 1) starts ++ shifted remove (length w) (drop (first + 1) starts) → AreWholeCut ps' starts' ×
    (joined ps' ≡ splice (joined ps) at remove w)
edit_one ps ps' starts starts' w at remove first from cut word few short place within full quarter are are' =
    let q : List ℕ = edited_piece ps first from remove w in
    let long : length starts ≡ length ps = ap length cut.begin ∙ length-starts 0 ps in
    let place' : get_or (starts_from 0 ps) first 0 + from ≡ at = ap (λ (s : List ℕ). get_or s first 0 + from) (sym cut.begin) ∙ place in
    edit_made ps ps' (q ∷ []) starts starts' w at remove first (first + 1) cut word few (piece_edit ps w at remove first from short place' within full quarter)
    (are ∙ one_piece ps first q short) (are' ∙ one_start starts first remove (length w) q (omega (arith, short, long)))

-- and after one of several pieces
pub edit_many : (ps ps' new : List (List ℕ)) (starts starts' characters w : List ℕ) (at remove first from past : ℕ) → AreWholeCut ps starts → IsText w →
    length (joined ps) - remove + length w ≤ most_characters → first < length ps → get_or starts first 0 + from ≡ at → from ≤ length (get_or ps first []) →
    IsMiddle ps starts (take from (get_or ps first [])) w (at + remove) characters past → joined new ≡ characters → 1 ≤ length new → AreFilled new →
    (256 ≤ length characters → AllByRecursion IsFilled new) → ps' ≡ pieces_with ps first past new → starts' ≡ starts_with_new starts first past new remove
    (length w) → AreWholeCut ps' starts' × (joined ps' ≡ splice (joined ps) at remove w)
edit_many ps ps' new starts starts' characters w at remove first from past cut word few short place within middle same some filled all are are' =
    let place' : get_or (starts_from 0 ps) first 0 + from ≡ at = ap (λ (s : List ℕ). get_or s first 0 + from) (sym cut.begin) ∙ place in
    edit_made ps ps' new starts starts' w at remove first past cut word few
    (middle_edit ps new characters w at remove first from past (middle.behind_first first short (omega (arith, place))) middle.past_within place' within
    middle.behind middle.same same some filled (λ more. all (middle.enough more)))
    are are'

pub shift_joined : (a b : List ℕ) (n removed added : ℕ) → length a ≡ n →
    take n (a ++ b) ++ shifted removed added (drop n (a ++ b)) ≡ a ++ shifted removed added b
shift_joined a b n removed added long =
    ap (λ (l : List ℕ). l ++ shifted removed added (drop n (a ++ b))) (take_at a b n long)
    ∙ ap (λ (l : List ℕ). a ++ shifted removed added l) (drop_at a b n long)

-- a list whose items are shifted from a number on
pub shifted_is : (old new : List ℕ) (from removed added : ℕ) → length new ≡ length old → from ≤ length old
    → ((i : ℕ) → i < from → get_or new i 0 ≡ get_or old i 0) → ((i : ℕ) → from ≤ i → i < length old → get_or new i 0 ≡ get_or old i 0 - removed + added)
    → new ≡ take from old ++ shifted removed added (drop from old)
shifted_is old new from removed added long within before behind =
    let f : ℕ → ℕ = λ n. n - removed + added in
    let front : List ℕ = take from old in
    let back : List ℕ = map f (drop from old) in
    let front_long : length front ≡ from = length-take-le from old within in
    let all : length new ≡ length (front ++ back) =
    omega (arith, long, length-append front back, front_long, length-map (drop from old) f, length-drop from old, within) in
    ext_get_or 0 new (front ++ back) all (λ i short.
    ⊎_elim
    (λ (low : i < from). before i low ∙ sym (get_or_append_left front back 0 i (omega (arith, front_long, low)) ∙ get_or-take from old i 0 low))
    (λ (high : from ≤ i).
    let place : ℕ = i - from in
    let is : from + place ≡ i = omega (arith, high) in
    let fits : place < length (drop from old) = omega (arith, length-drop from old, short, long, high) in
    behind i high (omega (arith, short, long))
    ∙ sym (get_or-append_right front back from i 0 front_long high ∙ get_or-map f (drop from old) place 0 0 fits
    ∙ ap f (get_or-drop from old place 0 ∙ ap (λ (n : ℕ). get_or old n 0) is)))
    (cases_lt i from))

-- no room
pub no_room : (b : Bool) (P Q : Type 0) → b ≡ false → MatchBool b P Q → Q
no_room true P Q none both = absurd (false≢true (sym none))
no_room false P Q none both = both

-- the pieces so far and the last one
pub so_far_pieces : (ps : List (List ℕ)) (last x : List ℕ) → AreSoFar ps last → joined ps ++ last ≡ x → IsText x → ArePieces (ps ++ last ∷ []) ×
    (joined (ps ++ last ∷ []) ≡ x)
so_far_pieces ps last x so_far same text =
    let all : joined (ps ++ last ∷ []) ≡ x = joined_push ps last ∙ same in (
      record {
        some = omega (arith, length-append ps (last ∷ []));
        filled = filled_push ps last so_far.full so_far.small;
        text = (
          subst IsText (sym all) text,
          omega
              (arith, ap length (joined_push ps last), length-append (joined ps) last, so_far.long, so_far.few, so_far.small),
        );
      },
      all,
    )

-- What an edit has read: the piece in which it begins, and where that starts.
pub record IsRead (ps : List (List ℕ)) (starts : List ℕ) (first at start : ℕ) (piece : List ℕ) : Type 0 where
  pub found : IsFound ps starts first at
  pub start_is : start ≡ get_or starts first 0
  pub piece_is : piece ≡ get_or ps first []
  pub place : get_or starts first 0 + (at - start) ≡ at
  pub small : length (get_or ps first []) ≤ 1024

pub is_read : (ps ps' : List (List ℕ)) (starts starts' : List ℕ) (first at start : ℕ) (piece : List ℕ) → AreWholeCut ps starts → ps' ≡ ps →
    starts' ≡ starts → IsFound ps' starts' first at → start ≡ get_or starts first start → piece ≡ get_or ps first piece → IsRead ps starts first at start piece
is_read ps ps' starts starts' first at start piece cut same same' found' start_at piece_at =
    let P : List (List ℕ) → Type 0 = λ x. IsFound x starts' first at in
    let Q : List ℕ → Type 0 = λ x. IsFound ps x first at in
    let found : IsFound ps starts first at = subst Q same' (subst P same found') in
    let start_is : start ≡ get_or starts first 0 = get_or_read starts first start found.within_starts start_at 0 in
    record {
      found = found;
      start_is = start_is;
      piece_is = get_or_read ps first piece found.within piece_at [];
      place = omega (arith, start_is, found.begins);
      small = filled_small ps first cut.whole.filled;
    }

-- what is made of the pieces that an edit touches, where that piece is read again
pub middle_read : {ps : List (List ℕ)} {starts : List ℕ} {first at start : ℕ} {piece : List ℕ} (ps' : List (List ℕ)) (starts' front w : List ℕ) (end : ℕ)
    (characters piece' : List ℕ) (past : ℕ) → IsRead ps starts first at start piece → ps' ≡ ps → starts' ≡ starts → piece' ≡ get_or ps first piece' →
    front ≡ take (at - start) piece' → IsMiddle ps' starts' front w end characters past →
    IsMiddle ps starts (take (at - start) (get_or ps first [])) w end characters past
middle_read {ps} {starts} {first} {at} {start} ps' starts' front w end characters piece' past r same same_starts piece_at front_is middle =
    let P : List (List ℕ) → Type 0 = λ x. IsMiddle x starts' front w end characters past in
    let Q : List ℕ → Type 0 = λ x. IsMiddle ps x front w end characters past in
    let R : List ℕ → Type 0 = λ x. IsMiddle ps starts x w end characters past in
    subst R (front_is ∙ ap (λ (l : List ℕ). take (at - start) l) (get_or_read ps first piece' r.found.within piece_at []))
    (subst Q same_starts (subst P same middle))

-- starts with new ones, part by part
pub starts_made : (starts first_starts both all made new_starts : List ℕ) (first past behind removed added : ℕ) → first_starts ≡ take first starts →
    both ≡ first_starts ++ new_starts → all ≡ both ++ drop past starts → length both ≡ behind → made ≡ take behind all ++ shifted removed added
    (drop behind all) → made ≡ take first starts ++ (new_starts ++ shifted removed added (drop past starts))
starts_made starts first_starts both all made new_starts first past behind removed added is_first is_both is_all long is_made =
    let tail : List ℕ = shifted removed added (drop past starts) in
    is_made ∙ ap (λ (l : List ℕ). take behind l ++ shifted removed added (drop behind l)) is_all
    ∙ shift_joined both (drop past starts) behind removed added long
    ∙ ap (λ (l : List ℕ). l ++ tail) (is_both ∙ ap (λ (l : List ℕ). l ++ new_starts) is_first) ∙ append_assoc (take first starts) new_starts tail
