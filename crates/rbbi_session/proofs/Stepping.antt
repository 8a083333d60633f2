-- A session that goes from boundary to boundary, from the text's start on.
use Rattle.std.proofs.Common.{◌≡◌, ℕ, ◌+◌, ◌-◌, ◌<◌, ◌≤◌, ltb, false, List, [], ◌∷◌, ◌++◌, Option, Some, None, length, sym, refl, ap, ◌∙◌, subst}
use Rattle.std.proofs.Common.{append_assoc, arith}
use Rattle.std.specs.Prelude.{unwrap_or}
use Rattle.std.specs.List.{AllByRecursion}
use Rattle.std.proofs.lemmas.Bool.{cond-false, le-ltb, lt-ltb}
use Rattle.rbbi_model.specs.Lists.{IsRising}
use Rattle.rbbi_model.specs.Boundaries.{Boundary}
use Rattle.rbbi_model.specs.Cover.{places}
use Rattle.rbbi_model.specs.Answers.{First, Next, Place, first_after, moved}
use Rattle.rbbi_model.proofs.Covering.{table_covers}
use Rattle.rbbi_session.specs.Sessions.{Session, boundaries_of, place_reply, Answers}
use Rattle.rbbi_session.proofs.Places.{all_through, first_skips, first_takes}
use Rattle.rbbi_session.proofs.Rises.{rises_before, rises_after, rising_right}
use Rattle.rbbi_session.proofs.Answering.{none_past}

-- the cursor stands at the first of these boundaries, or there is none
abbrev pub StandsBefore : ℕ → Option ℕ → List Boundary → Type 0
StandsBefore cursor None rest = rest ≡ []
StandsBefore cursor (Some at) [] = ⊥
StandsBefore cursor (Some at) (b ∷ rest) = (b.at ≡ at) × (cursor ≡ at)

-- the session has gone on from the first boundaries, and stands at the next one, if there is one
pub record HasCome (old now : Session) (place : Option ℕ) : Type 0 where
  pub front : List Boundary
  pub rest : List Boundary
  pub whole : boundaries_of old ≡ front ++ rest
  pub text_is : now.state.text ≡ old.state.text
  pub table_is : now.table ≡ old.table
  pub stands : StandsBefore now.state.cursor place rest

-- the session stands at the first boundary, and has gone on from none
pub record HasNotGone (old now : Session) (place : ℕ) : Type 0 where
  pub come : HasCome old now (Some place)
  pub none : come.front ≡ []

pub come_start : (old now : Session) (r : ℕ) → Answers old First (Place r) now → HasNotGone old now r
come_start old now r answers =
    let zero_is : r ≡ 0 = cc (answers.replied) in
    record {
      come = record {
        front = [];
        rest = boundaries_of old;
        whole = refl;
        text_is = ap (λ s. s.text) answers.moved.state_is;
        table_is = answers.moved.table_is;
        stands = (sym zero_is, ap (λ s. s.cursor) answers.moved.state_is ∙ sym zero_is);
      };
      none = refl;
    }

pub same_boundaries : (old now : Session) → now.state.text ≡ old.state.text → now.table ≡ old.table → boundaries_of now ≡ boundaries_of old
same_boundaries old now text table = cc (text, table)

-- where the session stands: the boundary at its cursor, and those behind it
pub record StandsAt (old now : Session) (at : ℕ) (front : List Boundary) : Type 0 where
  pub here : Boundary
  pub later : List Boundary
  pub whole : boundaries_of old ≡ front ++ here ∷ later
  pub rising : IsRising (places (front ++ here ∷ later))
  pub same : boundaries_of now ≡ front ++ here ∷ later
  pub place : here.at ≡ at
  pub cursor : now.state.cursor ≡ here.at

pub stands_at : (old now : Session) (at : ℕ) (come : HasCome old now (Some at)) → StandsAt old now at come.front
stands_at old now at come = of come.front come.rest come.whole come.stands
  where
    of : (front rest : List Boundary) → boundaries_of old ≡ front ++ rest → StandsBefore now.state.cursor (Some at) rest → StandsAt old now at front
    of front [] whole stands = absurd stands
    of front (b ∷ rest) whole stands = record {
      here = b;
      later = rest;
      whole = whole;
      rising = subst (λ bs. IsRising (places bs)) whole (table_covers old.table old.state.text).rise;
      same = same_boundaries old now come.text_is come.table_is ∙ whole;
      place = stands.0;
      cursor = stands.1 ∙ sym stands.0;
    }

-- the place of the first boundary, if there is one
abbrev pub place_of : List Boundary → Option ℕ
place_of [] = None
place_of (b ∷ bs) = Some b.at

pub place_is : (place other : Option ℕ) (cursor : ℕ) → place_reply place ≡ (moved other cursor).reply → place ≡ other
place_is None None cursor is = refl
place_is None (Some p) cursor is = cc
place_is (Some p) None cursor is = cc
place_is (Some p) (Some q) cursor is = cc

next_place : (low : ℕ) (rest : List Boundary) → AllByRecursion (λ c. low < c.at) rest → first_after rest low ≡ place_of rest
next_place low [] later = refl
next_place low (c ∷ rest) later = first_takes (λ p. ltb low p) c rest (lt-ltb low c.at later.0)

-- the first boundary past one of them is the next of the list
pub first_is_next : (front : List Boundary) (b : Boundary) (rest : List Boundary) → IsRising (places (front ++ b ∷ rest)) →
    first_after (front ++ b ∷ rest) b.at ≡ place_of rest
first_is_next front b rest rising =
    first_skips (λ p. ltb b.at p) front (b ∷ rest) (all_through (λ c. c.at < b.at) (λ c. ltb b.at c.at ≡ false) (λ c less. le-ltb b.at c.at (omega arith))
    front (rises_before front b rest rising))
    ∙ cond-false (ltb b.at b.at) (Some b.at) (first_after rest b.at) (le-ltb b.at b.at (omega arith))
    ∙ next_place b.at rest (rises_after b rest (rising_right front (b ∷ rest) rising))

-- how many characters are left behind the place
abbrev pub left_of : ℕ → Option ℕ → ℕ
left_of len None = 0
left_of len (Some at) = len + 1 - at

pub later_within : (front rest : List Boundary) (most : ℕ) → AllByRecursion (λ b. b.at ≤ most) (front ++ rest) → AllByRecursion (λ b. b.at ≤ most) rest
later_within [] rest most each = each
later_within (b ∷ front) rest most each = later_within front rest most each.1

pub falls : (len at : ℕ) (rest : List Boundary) → at ≤ len → AllByRecursion (λ b. at < b.at) rest → left_of len (place_of rest) < len + 1 - at
falls len at [] within later = omega arith
falls len at (b ∷ rest) within later = let past : at < b.at = later.0 in omega arith

pub stands_next : (cursor other : ℕ) (rest : List Boundary) (place : Option ℕ) → place ≡ place_of rest → cursor ≡ unwrap_or place other →
    StandsBefore cursor place rest
stands_next cursor other [] None is stands = refl
stands_next cursor other [] (Some p) is stands = cc
stands_next cursor other (b ∷ rest) None is stands = cc
stands_next cursor other (b ∷ rest) (Some p) is stands = let same : b.at ≡ p = cc in (same, stands)

pub moved_cursor : (place : Option ℕ) (cursor : ℕ) → (moved place cursor).cursor ≡ unwrap_or place cursor
moved_cursor None cursor = refl
moved_cursor (Some p) cursor = refl

-- the session has gone to the next boundary from the one at which it stood
pub record HasGoneOn (old now new : Session) (at : ℕ) (place : Option ℕ) (front : List Boundary) : Type 0 where
  pub from : StandsAt old now at front
  pub come : HasCome old new place
  pub more : come.front ≡ front ++ from.here ∷ []
  pub less : left_of (length old.state.text) place < length old.state.text + 1 - at

pub gone_on : (old now new : Session) (at : ℕ) (come : HasCome old now (Some at)) (place : Option ℕ) → Answers now Next (place_reply place) new →
    HasGoneOn old now new at place come.front
gone_on old now new at come place answers =
    let from : StandsAt old now at come.front = stands_at old now at come in
    let found : place ≡ first_after (boundaries_of now) now.state.cursor =
    place_is place (first_after (boundaries_of now) now.state.cursor) now.state.cursor answers.replied in
    let next : place ≡ place_of from.later =
    found
    ∙ ap (first_after (boundaries_of now)) from.cursor
    ∙ ap (λ bs. first_after bs from.here.at) from.same
    ∙ first_is_next come.front from.here from.later from.rising in
    let within : AllByRecursion (λ c. c.at ≤ length old.state.text) (from.here ∷ from.later) =
    later_within come.front (from.here ∷ from.later) (length old.state.text)
    (subst (λ bs. AllByRecursion (λ c. c.at ≤ length old.state.text) bs) from.whole (none_past old.table old.state.text)) in
    let low : from.here.at ≤ length old.state.text = within.0 in
    record {
      from = from;
      come = record {
        front = come.front ++ from.here ∷ [];
        rest = from.later;
        whole = from.whole ∙ sym (append_assoc come.front (from.here ∷ []) from.later);
        text_is = ap (λ s. s.text) answers.moved.state_is ∙ come.text_is;
        table_is = answers.moved.table_is ∙ come.table_is;
        stands = stands_next new.state.cursor now.state.cursor from.later place next
            (ap (λ s. s.cursor) answers.moved.state_is ∙ moved_cursor (first_after (boundaries_of now) now.state.cursor) now.state.cursor
            ∙ ap (λ p. unwrap_or p now.state.cursor) (sym found));
      };
      more = refl;
      less = subst (λ p. left_of (length old.state.text) p < length old.state.text + 1 - at) (sym next)
          (subst (λ p. left_of (length old.state.text) (place_of from.later) < length old.state.text + 1 - p) from.place
          (falls (length old.state.text) from.here.at from.later low
          (rises_after from.here from.later (rising_right come.front (from.here ∷ from.later) from.rising))));
    }
