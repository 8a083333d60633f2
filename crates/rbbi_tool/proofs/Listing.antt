-- The lines of the boundaries that searches find, one after another.
use Rattle.std.proofs.Common.{◌≡◌, ℕ, zero, suc, ◌+◌, ◌<◌, ◌≤◌, List, [], ◌∷◌, ◌++◌, length, cond, sym, refl, ap, ◌∙◌, arith, Option}
use Rattle.std.proofs.lemmas.Bool.{lt-ltb, le-ltb}
use Rattle.rbbi_model.specs.declared.unit.Unit.{Unit as TextUnit}
use Rattle.rbbi_model.specs.Boundaries.{Boundary, start}
use Rattle.rbbi_model.specs.Units.{offset_of, measured}
use Rattle.rbbi_model.specs.Lines.{boundary_line, boundary_lines}
use Rattle.rbbi_model.specs.Tables.{Table}
use Rattle.rbbi_model.specs.Searches.{next_boundary, follow_by, table_boundaries}
use Rattle.rbbi_io.specs.Sinks.{Takes, IsBuffered}
use Rattle.rbbi_tool.proofs.Emitting.{IsPutTo, put_none, put_more, put_flushed, put_end}

-- the boundaries that follow one at this place, at most so many
abbrev pub following : Table → List ℕ → ℕ → ℕ → List Boundary
following table x most at = follow_by (next_boundary table x) (length x) most (record { at = at; statuses = [] })

-- What follows a boundary depends on its place alone.
pub by_place : (table : Table) (x : List ℕ) (most : ℕ) (b : Boundary) → follow_by (next_boundary table x) (length x) most b ≡ following table x most b.at
by_place table x zero b = refl
by_place table x (suc most) b = refl

-- one more boundary follows, or none does at the text's end
pub follows : (table : Table) (x : List ℕ) (most at : ℕ) → at < length x
    → following table x (suc most) at ≡ next_boundary table x at ∷ following table x most (next_boundary table x at).at
follows table x most at inside =
    let next : Boundary = next_boundary table x at in
    ap (λ t. cond t (next ∷ follow_by (next_boundary table x) (length x) most next) []) (lt-ltb at (length x) inside)
    ∙ ap (λ bs. next ∷ bs) (by_place table x most next)

ends : (table : Table) (x : List ℕ) (most at : ℕ) → length x ≤ at → following table x most at ≡ []
ends table x zero at past = refl
ends table x (suc most) at past =
    let next : Boundary = next_boundary table x at in
    ap (λ t. cond t (next ∷ follow_by (next_boundary table x) (length x) most next) []) (le-ltb at (length x) past)

-- a way of writing boundaries, one after another
pub record WritesEach (line : Boundary → List ℕ) (lines : List Boundary → List ℕ) : Type 0 where
  pub none : lines [] ≡ []
  pub one : (b : Boundary) (bs : List Boundary) → lines (b ∷ bs) ≡ line b ++ lines bs

-- The lines of the boundaries up to a place were made, those that follow it are the rest, and a prefix of them was put.
pub record AreListedTo (lines : List Boundary → List ℕ) (table : Table) (x : List ℕ) (before now : Option (List ℕ)) (waiting : List ℕ) (at : ℕ) : Type 0
  where
    pub within : at ≤ length x
    pub most : ℕ
    pub enough : length x ≤ at + most
    pub put : IsPutTo (lines (table_boundaries table x)) (lines (following table x most at)) before now waiting

module _ (line : Boundary → List ℕ) (lines : List Boundary → List ℕ) (each : WritesEach line lines) (table : Table) (x : List ℕ) where
  -- the text's start is listed
  pub listed_start : (taken : Option (List ℕ)) (waiting : List ℕ) → waiting ≡ line start → AreListedTo lines table x taken taken waiting 0
  listed_start taken waiting is =
      let rest : List ℕ = lines (following table x (length x) 0) in
      record {
        within = omega arith;
        most = length x;
        enough = omega arith;
        put = put_none (lines (table_boundaries table x)) rest taken waiting
            (each.one start (follow_by (next_boundary table x) (length x) (length x) start)
            ∙ ap (λ bs. line start ++ lines bs) (by_place table x (length x) start) ∙ ap (λ l. l ++ rest) (sym is));
      }

  -- one boundary more is listed
  pub listed_more : (before now : Option (List ℕ)) (waiting made : List ℕ) (at next : ℕ) → AreListedTo lines table x before now waiting at
      → at < length x → (at < (next_boundary table x at).at) × ((next_boundary table x at).at ≤ length x) → next ≡ (next_boundary table x at).at
      → made ≡ waiting ++ line (next_boundary table x at) → AreListedTo lines table x before now made next
  listed_more before now waiting made at next so_far inside past is pushed = by_most so_far.most so_far.enough so_far.put
    where
      by_most : (most : ℕ) → length x ≤ at + most → IsPutTo (lines (table_boundaries table x)) (lines (following table x most at)) before now waiting
          → AreListedTo lines table x before now made next
      by_most zero enough put = absurd (omega arith)
      by_most (suc most) enough put =
          let this : Boundary = next_boundary table x at in
          record {
            within = omega (arith, past.1);
            most = most;
            enough = omega (arith, past.0);
            put = put_more (lines (table_boundaries table x)) (lines (following table x (suc most) at)) before now waiting put (line this)
                (lines (following table x most next)) made
                (ap lines (follows table x most at inside) ∙ each.one this (following table x most this.at)
                ∙ ap (λ n. line this ++ lines (following table x most n)) (sym is)) pushed;
          }

  -- at the text's end all are listed
  pub all_listed : (before between now : Option (List ℕ)) (waiting : List ℕ) (at : ℕ) → AreListedTo lines table x before between waiting at
      → length x ≤ at → Takes between now waiting → Takes before now (lines (table_boundaries table x))
  all_listed before between now waiting at so_far past more =
      put_end _ _ before between waiting so_far.put (ap lines (ends table x so_far.most at past) ∙ each.none) now more

-- some of the lines were put
pub listed_flushed : (lines : List Boundary → List ℕ) (table : Table) (x : List ℕ) (before between now : Option (List ℕ)) (waiting left : List ℕ) (at : ℕ)
    → AreListedTo lines table x before between waiting at → IsBuffered between now waiting left → AreListedTo lines table x before now left at
listed_flushed lines table x before between now waiting left at so_far more = record {
  within = so_far.within;
  most = so_far.most;
  enough = so_far.enough;
  put = put_flushed _ _ before between waiting so_far.put now left more;
}

-- the lines of boundaries, and that of one, with places in the unit
abbrev pub lines_in : TextUnit → List ℕ → List Boundary → List ℕ
lines_in unit x boundaries = boundary_lines (measured unit x boundaries)

abbrev pub measured_one : TextUnit → List ℕ → Boundary → Boundary
measured_one unit x boundary = record { at = offset_of unit x boundary.at; statuses = boundary.statuses }

abbrev pub line_in : TextUnit → List ℕ → Boundary → List ℕ
line_in unit x boundary = boundary_line (measured_one unit x boundary)

pub measured_each : (unit : TextUnit) (x : List ℕ) → WritesEach (line_in unit x) (lines_in unit x)
measured_each unit x = record { none = refl; one = λ b bs. refl }
