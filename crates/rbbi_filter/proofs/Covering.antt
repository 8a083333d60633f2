-- The boundaries of a text through a filter cover it.
use Rattle.std.proofs.Common.{◌≡◌, ℕ, Bool, false, not, ltb, ◌&&◌, List, length, refl, subst, arith}
use Rattle.std.proofs.lemmas.Bool.{not_from_false, and_left, and_right, le-ltb}
use Rattle.std.proofs.lemmas.List.{length-map}
use Rattle.rbbi_model.specs.Cover.{CoverText}
use Rattle.rbbi_model.specs.Tables.{Table}
use Rattle.rbbi_model.specs.Searches.{table_boundaries}
use Rattle.rbbi_model.proofs.Covering.{table_covers}
use Rattle.rbbi_filter.specs.Abbreviations.{ends, window, is_suppressed, kept}
use Rattle.rbbi_filter.specs.Pairs.{turn, turned}
use Rattle.rbbi_filter.specs.declared.filter.Filter.{Filter}
use Rattle.rbbi_filter.specs.declared.filter.Filter.TheVariants.{Suppressing, Turning}
use Rattle.rbbi_filter.specs.Filters.{searched, boundaries_through}
use Rattle.rbbi_filter.specs.FilterSessions.{FilterSession, boundaries_of}
use Rattle.rbbi_filter.proofs.Sifting.{sift_covers}

-- the test of places by which boundaries are kept
abbrev pub passes : List (List ℕ) → List ℕ → ℕ → Bool
passes list x place = not (is_suppressed list x place)

-- the text's end is told
pub end_is_told : (list : List (List ℕ)) (x : List ℕ) (place : ℕ) → place ≡ length x → is_suppressed list x place ≡ false
end_is_told list x p end =
    let n : ℕ = length x in
    and_right (ltb 0 p) (ltb p n && ends list (window x p)) (and_left (ltb p n) (ends list (window x p)) (le-ltb p n (omega (arith, end))))

pub kept_covers : (list : List (List ℕ)) (table : Table) (x : List ℕ) → CoverText (length x) (kept list x (table_boundaries table x))
kept_covers list table x = sift_covers (passes list x) (length x) (table_boundaries table x) (table_covers table x) refl
    (not_from_false (is_suppressed list x (length x)) (end_is_told list x (length x) refl))

pub length-searched : (filter : Filter) (x : List ℕ) → length (searched filter x) ≡ length x
length-searched (Suppressing list) x = refl
length-searched (Turning pairs) x = length-map x (turn pairs)

pub through_covers : (filter : Filter) (table : Table) (x : List ℕ) → CoverText (length x) (boundaries_through filter table x)
through_covers (Suppressing list) table x = kept_covers list table x
through_covers (Turning pairs) table x =
    subst (λ n. CoverText n (table_boundaries table (turned pairs x))) (length-searched (Turning pairs) x) (table_covers table (turned pairs x))

pub covers : (session : FilterSession) → CoverText (length session.state.text) (boundaries_of session)
covers session = through_covers session.filter session.table session.state.text
