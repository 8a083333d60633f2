-- What the searches on from an entry read is a part of what those from an anchor that isn't past it read.
use Rattle.std.proofs.Common.{◌≡◌, ℕ, ◌+◌, ◌<◌, ◌≤◌, List, [], ◌∷◌, ◌++◌, length, sym, refl, ap, ◌∙◌, subst, ⊎_elim, append_assoc, arith}
use Rattle.std.specs.Prelude.{sum_by}
use Rattle.std.specs.List.{AllByRecursion}
use Rattle.std.proofs.lemmas.Bool.{cases_eq}
use Rattle.std.proofs.lemmas.List.{append_cancel_left}
use Rattle.std.proofs.lemmas.List.Sums.{sum_by-append, sum_by-cons}
use Rattle.rbbi_model.specs.Lists.{Member}
use Rattle.rbbi_model.specs.Boundaries.{Boundary}
use Rattle.rbbi_model.specs.Cover.{IsPlaceOf}
use Rattle.rbbi_model.specs.Tables.{Table}
use Rattle.rbbi_model.specs.ValidTables.{IsValidTable}
use Rattle.rbbi_model.specs.Searches.{next_boundary, follow_by, fresh, table_boundaries}
use Rattle.rbbi_model.specs.Runs.{Entry, Run, IsAnchor, from_place, boundary_of, IsTrueRun}
use Rattle.rbbi_model.specs.Costs.{characters_read, searches_cost}
use Rattle.rbbi_model.proofs.FreshTrue.{fresh_true}
use Rattle.rbbi_model.proofs.Shown.{entry_true}
use Rattle.rbbi_model.proofs.Lists.{all_append, all_through}
use Rattle.rbbi_cache.specs.inner.Scans.{Reached}
use Rattle.rbbi_cache.proofs.Reached.{done_before, cost_is}
use Rattle.rbbi_cache.proofs.Paths.{Path, Here, Then, path_of_follow, path_reaches, reached_of}
use Rattle.rbbi_cache.proofs.Members.{Stands, member_stands, member_kept, member_of_kept, by_place, place_of}

-- a path from another boundary at the same place, which reads as much
record IsLike (table : Table) (x : List ℕ) (i : ℕ) (b' : Boundary) (done : List Boundary) (c : Boundary) : Type 0 where
  done' : List Boundary
  c' : Boundary
  path : Path table x b' done' c'
  end : c'.at ≡ c.at
  read : sum_by (λ m. characters_read table x m.at) done' ≡ sum_by (λ m. characters_read table x m.at) done
  up_to : AllByRecursion (λ m. m.at ≤ i) done'

like : (table : Table) (x : List ℕ) (i : ℕ) (b : Boundary) (done : List Boundary) (c : Boundary) → Path table x b done c → (b' : Boundary) → b'.at ≡ b.at →
    AllByRecursion (λ m. m.at ≤ i) done → IsLike table x i b' done c
like table x i _ _ _ (Here b) b' same each = record { done' = []; c' = b'; path = Here b'; end = same; read = refl; up_to = tt }
like table x i _ _ _ (Then b done c short path) b' same each = record {
  done' = b' ∷ done;
  c' = c;
  path = Then b' done c (omega arith) (subst (λ m. Path table x m done c) (ap (next_boundary table x) (sym same)) path);
  end = refl;
  read = omega (
    arith,
    sum_by-cons (λ (m : Boundary). characters_read table x m.at) b' done,
    sum_by-cons (λ (m : Boundary). characters_read table x m.at) b
        done,
    ap (characters_read table x) same,
  );
  up_to = (omega (arith, each.0), each.1);
}

-- what was searched after a member is a path from there
pub searched_path : (table : Table) (x : List ℕ) (p : ℕ) (done : List Boundary) (b : Boundary) (searched : List Boundary) (c : Boundary) → Reached table x p
    done b → Reached table x p (done ++ searched) c → Path table x b searched c
searched_path table x p done b searched c first last =
    path_of_follow table x first.most b searched c (follow_by (next_boundary table x) (length x) last.most c)
    (append_cancel_left done (b ∷ follow_by (next_boundary table x) (length x) first.most b) (searched ++ c ∷ follow_by (next_boundary table x) (length x)
    last.most c)
    (sym first.whole ∙ last.whole ∙ append_assoc done searched (c ∷ follow_by (next_boundary table x) (length x) last.most c)))

module _ (table : Table) (valid : IsValidTable table) (x : List ℕ) (q : ℕ) (anchor : IsAnchor table x q) where
  -- a boundary that isn't before the anchor is found from there
  pub member : (k : ℕ) → q ≤ k → IsPlaceOf (table_boundaries table x) k → Stands (λ b. b.at ≡ k) (fresh table x q)
  member k from here =
      ⊎_elim
      (λ same. record {
        before = [];
        member = record { at = q; statuses = 0 ∷ [] };
        after = follow_by (next_boundary table x) (length x) (length x) (record {
          at = q;
          statuses = 0 ∷ [];
        });
        whole = refl;
        such = same;
      })
      (λ other.
      let At : Boundary → Type 0 = λ b. b.at ≡ k in
      let past : q + 1 ≤ k = omega arith in
      let there = member_kept (λ b. b.at ≡ k) (q + 1) (λ b is. omega arith) (table_boundaries table x) (by_place k (table_boundaries table x) here) in
      let found : IsPlaceOf (from_place (q + 1) (fresh table x q)) k =
      subst (λ ks. Member ks k) (sym (fresh_true table valid x q anchor).0) (place_of k (from_place (q + 1) (table_boundaries table x)) there) in
      member_stands (λ b. b.at ≡ k) (fresh table x q) (member_of_kept (λ b. b.at ≡ k) (q + 1) (fresh table x q) (by_place k (from_place (q + 1) (fresh table x
      q)) found)))
      (cases_eq q k)

  pub nearer_cost : (i : ℕ) (former : Run) (is_true : IsTrueRun table x former) (front : List Entry) (from : Entry) → former.entries ≡ front ++ from ∷ [] → q ≤
      from.at → from.at ≤ i →
      (searched : List Boundary) (here : Boundary) → Path table x (boundary_of table from) searched here → AllByRecursion (λ m. m.at ≤ i) searched → i <
      here.at →
      sum_by (λ m. characters_read table x m.at) searched ≤ searches_cost table x q i
  nearer_cost i former is_true front from whole near up_to searched here path each past =
      let start = member from.at near (entry_true table valid x former is_true front from [] whole) in
      let alike = like table x i (boundary_of table from) searched here path start.member start.such each in
      let before = reached_of table x q start.before start.member start.after start.whole in
      let there = path_reaches table x q start.before start.member alike.done' alike.c' before alike.path in
      let low : AllByRecursion (λ m. m.at ≤ i) start.before =
      all_through (λ m. m.at < start.member.at) (λ m. m.at ≤ i) (λ m less. omega (arith, start.such)) start.before (done_before table x q start.before
      start.member before) in
      omega (
        arith,
        cost_is table x q (start.before ++ alike.done') alike.c' there i (all_append (λ m. m.at ≤ i) start.before alike.done' low alike.up_to) (omega (
          arith,
          alike.end,
        )),
        sum_by-append (λ (m : Boundary). characters_read table x m.at) start.before alike.done',
        alike.read,
      )
