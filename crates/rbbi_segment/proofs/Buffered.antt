-- Bytes that are made and put bit by bit: of all that were made a front was put, and the others wait.
use Rattle.std.proofs.Common.{◌≡◌, ℕ, ◌+◌, ◌<◌, ◌≤◌, List, [], ◌++◌, length, get_or, Option, Some, None, refl, sym, ap, ◌∙◌}
use Rattle.std.proofs.Common.{append_assoc, append-nil}
use Rattle.std.specs.List.{flat_map, slice_range}
use Rattle.std.proofs.lemmas.Grind.{get_or_default_zero}
use Rattle.std.proofs.lemmas.List.{flat_map_more}
use Rattle.rbbi_lex.proofs.WordLemmas.{slice_range-none, slice_range-more}
use Rattle.rbbi_io.specs.Sinks.{Takes, IsBuffered}
use Rattle.rbbi_io.proofs.Puts.{Takes-both}

-- a sink that isn't called takes nothing
takes_nothing : (taken : Option (List ℕ)) → Takes taken taken []
takes_nothing None = refl
takes_nothing (Some bytes) = ap Some (sym (append-nil bytes))

-- all that was made waits
pub waits : (taken : Option (List ℕ)) (made waiting : List ℕ) → waiting ≡ made → IsBuffered taken taken made waiting
waits taken made waiting is = record { flushed = []; taken = takes_nothing taken; parts = sym is }

-- more was made, and waits
pub more_waits : (before now : Option (List ℕ)) (made waiting bytes left : List ℕ) → IsBuffered before now made waiting → left ≡ waiting ++ bytes
    → IsBuffered before now (made ++ bytes) left
more_waits before now made waiting bytes left so_far is = record {
  flushed = so_far.flushed;
  taken = so_far.taken;
  parts = ap (λ l. l ++ bytes) so_far.parts ∙ append_assoc so_far.flushed waiting bytes ∙ ap (λ l. so_far.flushed ++ l) (sym is);
}

-- some of what waits was put
pub more_is_put : (before between now : Option (List ℕ)) (made waiting left : List ℕ) → IsBuffered before between made waiting
    → IsBuffered between now waiting left → IsBuffered before now made left
more_is_put before between now made waiting left so_far more = record {
  flushed = so_far.flushed ++ more.flushed;
  taken = Takes-both before between now so_far.flushed more.flushed so_far.taken more.taken;
  parts = so_far.parts ∙ ap (λ l. so_far.flushed ++ l) more.parts ∙ sym (append_assoc so_far.flushed more.flushed left);
}

-- more was made and put bit by bit
pub more_is_made : (before between now : Option (List ℕ)) (made waiting bytes left : List ℕ) → IsBuffered before between made waiting
    → IsBuffered between now (waiting ++ bytes) left → IsBuffered before now (made ++ bytes) left
more_is_made before between now made waiting bytes left so_far more =
    more_is_put before between now (made ++ bytes) (waiting ++ bytes) left (more_waits before between made waiting bytes (waiting ++ bytes) so_far refl) more

-- no characters of a piece are written yet
pub none_shown : (f : ℕ → List ℕ) (x : List ℕ) (start : ℕ) (made : List ℕ) → made ≡ made ++ flat_map f (slice_range x start start)
none_shown f x start made = sym (ap (λ l. made ++ flat_map f l) (slice_range-none x start) ∙ append-nil made)

-- the characters of a piece, as each is written, and one character more
pub shown_more : (f : ℕ → List ℕ) (x : List ℕ) (start i c : ℕ) (made : List ℕ) → start ≤ i → i < length x → c ≡ get_or x i 0
    → (made ++ flat_map f (slice_range x start i)) ++ f c ≡ made ++ flat_map f (slice_range x start (i + 1))
shown_more f x start i c made first inside is =
    let one = slice_range-more x start i c first inside (is ∙ sym (get_or_default_zero x i c inside)) in
    flat_map_more f made (slice_range x start i) c ∙ ap (λ l. made ++ flat_map f l) (sym one)

-- three parts behind what was made
pub three_parts : (made first second third : List ℕ) → ((made ++ first) ++ second) ++ third ≡ made ++ ((first ++ second) ++ third)
three_parts made first second third =
    append_assoc (made ++ first) second third ∙ append_assoc made first (second ++ third) ∙ ap (λ l. made ++ l) (sym (append_assoc first second third))
