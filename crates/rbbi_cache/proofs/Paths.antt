-- The way of fresh searches from one member to another, and how it is moved into another text.
use Rattle.std.proofs.Common.{◌≡◌, ℕ, zero, suc, ◌+◌, ◌<◌, ◌≤◌, ltb, List, [], ◌∷◌, ◌++◌, length, map, sym, ◌∙◌, subst, ⊎_elim, append_assoc, arith}
use Rattle.std.specs.List.{AllByRecursion}
use Rattle.std.proofs.lemmas.List.{append-nil}
use Rattle.std.proofs.lemmas.Bool.{cond-true, cond-false, cases_lt, lt-ltb, le-ltb}
use Rattle.rbbi_model.specs.Boundaries.{Boundary}
use Rattle.rbbi_model.specs.Tables.{Table, statuses_of}
use Rattle.rbbi_model.specs.Searches.{found, next_boundary, follow_by, fresh}
use Rattle.rbbi_model.specs.ReadAlike.{ReadsAlike}
use Rattle.rbbi_model.proofs.Found.{found_lies}
use Rattle.rbbi_model.proofs.SearchesAlike.{finds_alike}
use Rattle.rbbi_cache.specs.inner.Scans.{Reached}
use Rattle.rbbi_cache.proofs.Reached.{first_member, reached_start, reached_step}

-- The searches lead from one member over those that are done to another.
pub data Path (table : Table) (x : List ℕ) : Boundary → List Boundary → Boundary → Type 0 where
  Here : (b : Boundary) → Path table x b [] b
  Then : (b : Boundary) (done : List Boundary) (c : Boundary) → b.at < length x → Path table x (next_boundary table x b.at) done c → Path table x b (b ∷ done) c

-- a path from a member that was reached reaches its end
pub path_reaches : (table : Table) (x : List ℕ) (p : ℕ) (before : List Boundary) (b : Boundary) (done : List Boundary) (c : Boundary) →
    Reached table x p before b → Path table x b done c → Reached table x p (before ++ done) c
path_reaches table x p before _ _ _ reached (Here b) = subst (λ bs. Reached table x p bs b) (sym (append-nil before)) reached
path_reaches table x p before _ _ _ reached (Then b done c short path) =
    subst (λ bs. Reached table x p bs c) (append_assoc before (b ∷ []) done)
    (path_reaches table x p (before ++ b ∷ []) (next_boundary table x b.at) done c (reached_step table x p before b reached short) path)

nothing_left : (done : List Boundary) (c : Boundary) (rest : List Boundary) → [] ≡ done ++ c ∷ rest → ⊥
nothing_left [] c rest is = cc
nothing_left (d ∷ done) c rest is = cc

cons_injective : {b d : Boundary} {bs ds : List Boundary} → b ∷ bs ≡ d ∷ ds → (b ≡ d) × (bs ≡ ds)
cons_injective is = (cc, cc)

-- what the searches from an anchor find is a path up to each member
pub path_of_follow : (table : Table) (x : List ℕ) (most : ℕ) (b : Boundary) (done : List Boundary) (c : Boundary) (rest : List Boundary) →
    b ∷ follow_by (next_boundary table x) (length x) most b ≡ done ++ c ∷ rest → Path table x b done c
path_of_follow table x most b [] c rest whole = subst (λ d. Path table x b [] d) (cons_injective whole).0 (Here b)
path_of_follow table x zero b (d ∷ done) c rest whole = absurd (nothing_left done c rest (cons_injective whole).1)
path_of_follow table x (suc most) b (d ∷ done) c rest whole =
    let next : Boundary = next_boundary table x b.at in
    let parts = cons_injective whole in
    ⊎_elim
    (λ short.
    let goes_on : next ∷ follow_by (next_boundary table x) (length x) most next ≡ done ++ c ∷ rest =
    sym (cond-true (ltb b.at (length x)) (next ∷ follow_by (next_boundary table x) (length x) most next) [] (lt-ltb b.at (length x) short)) ∙ parts.1 in
    subst (λ e. Path table x b (e ∷ done) c) parts.0 (Then b done c short (path_of_follow table x most next done c rest goes_on)))
    (λ end.
    absurd (nothing_left done c rest
    (sym (cond-false (ltb b.at (length x)) (next ∷ follow_by (next_boundary table x) (length x) most next) [] (le-ltb b.at (length x) end)) ∙ parts.1)))
    (cases_lt b.at (length x))

pub path_to : (table : Table) (x : List ℕ) (p : ℕ) (done : List Boundary) (c : Boundary) (rest : List Boundary) → fresh table x p ≡ done ++ c ∷ rest →
    Path table x (first_member p) done c
path_to table x p done c rest whole = path_of_follow table x (length x) (first_member p) done c rest whole

-- what stands before a member and the member are reached
pub reached_of : (table : Table) (x : List ℕ) (p : ℕ) (done : List Boundary) (c : Boundary) (rest : List Boundary) → fresh table x p ≡ done ++ c ∷ rest →
    Reached table x p done c
reached_of table x p done c rest whole = path_reaches table x p [] (first_member p) done c (reached_start table x p) (path_to table x p done c rest whole)

module _ (table : Table) (x y : List ℕ) (move : ℕ → ℕ) where
  -- the boundary at its moved place
  abbrev pub moved : Boundary → Boundary
  moved b = record { at = move b.at; statuses = b.statuses }

  -- the search from the member is the one from its moved place, and finds the moved place
  pub record IsCarried (b : Boundary) : Type 0 where
    pub short : move b.at < length y
    pub next : next_boundary table y (move b.at) ≡ moved (next_boundary table x b.at)

  -- a path all of whose searches are carried over is one of the other text
  pub path_moved : (b : Boundary) (done : List Boundary) (c : Boundary) → Path table x b done c → AllByRecursion IsCarried done →
      Path table y (moved b) (map moved done) (moved c)
  path_moved _ _ _ (Here b) each = Here (moved b)
  path_moved _ _ _ (Then b done c short path) each =
      Then (moved b) (map moved done) (moved c) each.0.short
      (subst (λ d. Path table y d (map moved done) (moved c)) (sym each.0.next) (path_moved (next_boundary table x b.at) done c path each.1))

  -- a search that reads alike is carried over, where the places that it leads to are moved by the same distance
  pub carried : (b : Boundary) → ReadsAlike table x y b.at (move b.at) → move b.at < length y → ((q : ℕ) → b.at ≤ q → move q + b.at ≡ q + move b.at) →
      IsCarried b
  carried b alike short moves =
      let finds = finds_alike table x y b.at (move b.at) alike in
      let lies = found_lies table x b.at alike.within in
      let at : (found table y (move b.at)).at ≡ move (found table x b.at).at = omega (arith, finds.at, moves (found table x b.at).at (omega (arith, lies.0))) in
      record {
        short = short;
        next = λ i. record { at = at i; statuses = statuses_of table (finds.list i) };
      }
