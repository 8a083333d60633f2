-- The rows of a property, that are read from the runs of a table, run by run.
use Rattle.std.proofs.Common.{◌≡◌, ℕ, ◌+◌, ◌-◌, ◌/◌, ◌%◌, ◌<◌, ◌≤◌, Bool, true, false, cond, ◌&&◌, ◌||◌, nat_lt, List, [], ◌∷◌, ◌++◌, map, filter}
use Rattle.std.proofs.Common.{bytes_eq, length, slice_index, slice_index_or, refl, sym, ap, ◌∙◌, arith, inl, inr}
use Rattle.std.specs.List.{list_any}
use Rattle.std.proofs.lemmas.Bool.{cases_Bool}
use Rattle.std.proofs.lemmas.Bool.Decides.{nat_tests}
use Rattle.std.proofs.lemmas.List.{map-append}
use Rattle.std.proofs.lemmas.List.Elements.{filter-append}
use Rattle.ucd_table.specs.Steps.{run_value, ends_rise}
use Rattle.ucd_table.proofs.RunsLemmas.{IsAt, IsAt-below, IsAt-next}
use Rattle.rbbi_model.specs.Ranges.{Range}
use Rattle.rbbi_sets.specs.Covers.{covers, is_between}
use Rattle.rbbi_sets.specs.Rising.{IsRange}
use Rattle.rbbi_sets.proofs.Coverage.{covers-append}
use Rattle.rbbi_props.specs.Rows.{Row}
use Rattle.rbbi_props.specs.LooseForms.{loose}
use Rattle.rbbi_props.specs.Lookups.{ranges_of}
use Rattle.rbbi_props.specs.RunRows.{AreRowsOf, is_among, is_named, names_in, rows_under_names}
use Rattle.rbbi_props.proofs.ReadRuns.{value-here, start-last, rise-within}

ranges_of-append : (rows more : List Row) (name : List ℕ) → ranges_of (rows ++ more) name ≡ ranges_of rows name ++ ranges_of more name
ranges_of-append rows more name =
    ap (map (λ (row : Row). row.range)) (filter-append (λ (row : Row). bytes_eq row.value name) rows more)
    ∙ map-append (λ (row : Row). row.range) (filter (λ (row : Row). bytes_eq row.value name) rows) (filter (λ (row : Row). bytes_eq row.value name) more)

no_and : (b : Bool) → false ≡ (b && false)
no_and true = refl
no_and false = refl

yes_part : (inside any : Bool) → (inside || (inside && any)) ≡ (inside && (true || any))
yes_part inside any = grind arith

-- of the rows under names those of one name cover the range, if it is among them
covers-names : (range : Range) (names : List (List ℕ)) (name : List ℕ) (c : ℕ) →
    covers (ranges_of (rows_under_names range names) name) c ≡ (is_between range.low range.high c && list_any (λ other. bytes_eq (loose other) name) names)
covers-names range [] name c = no_and (is_between range.low range.high c)
covers-names range (first ∷ names) name c =
    let rest = covers-names range names name c in
    let inside = is_between range.low range.high c in
    let any = list_any (λ other. bytes_eq (loose other) name) names in
    let rows : Bool → List Row = λ b. cond b (record { value = loose first; range = range } ∷ filter (λ (row : Row). bytes_eq row.value name)
    (rows_under_names range names)) (filter (λ (row : Row). bytes_eq row.value name) (rows_under_names range names)) in
    elim (cases_Bool (bytes_eq (loose first) name)) [
      | inl same ↦
          ap (λ b. covers (map (λ (row : Row). row.range) (rows b)) c) same ∙ ap (λ b. inside || b) rest ∙ yes_part inside any
          ∙ sym (ap (λ b. inside && (b || any)) same)
      | inr other ↦
          ap (λ b. covers (map (λ (row : Row). row.range) (rows b)) c) other ∙ rest ∙ sym (ap (λ b. inside && (b || any)) other)
    ]

-- the rows are those of the runs up to a place, which end before `start`
pub record AreRead (runs : List ℕ) (values : List (List ℕ)) (i start : ℕ) (rows : List Row) : Type 0 where
  pub at : IsAt runs i start
  pub members : (c : ℕ) (name : List ℕ) → covers (ranges_of rows name) c ≡ (nat_lt c start && is_named values (run_value runs c) name)

below_none : (named : Bool) (c : ℕ) → false ≡ (nat_lt c 0 && named)
below_none named c = grind (arith, nat_tests)

pub AreRead-none : (runs : List ℕ) (values : List (List ℕ)) → ends_rise 0 runs ≡ true → AreRead runs values 0 0 []
AreRead-none runs values partition = record {
  at = record { rising = partition; values = λ c l. refl };
  members = λ c name. below_none (is_named values (run_value runs c) name) c;
}

-- the range of the run at a place
module _ (runs : List ℕ) (values : List (List ℕ)) (i start : ℕ) (rows : List Row) (h : AreRead runs values i start rows) (lt : i < length runs) where
  pub run-ends : start < slice_index runs i / 2048
  run-ends = IsAt-below runs i start h.at lt

  pub run-range : IsRange (record { low = start; high = slice_index runs i / 2048 - 1 })
  run-range =
      let next = IsAt-next runs i start h.at lt in
      (omega (arith, run-ends), omega (arith, run-ends, rise-within _ _ next.rising))

more-is : (held named here : Bool) (start end c : ℕ) → start < end → held ≡ (nat_lt c start && named) → (start ≤ c → c < end → named ≡ here) →
    (held || (is_between start (end - 1) c && here)) ≡ (nat_lt c end && named)
more-is held named here start end c l h same = grind (arith, nat_tests)

-- with the rows of one more run
pub AreRead-more : (runs : List ℕ) (values : List (List ℕ)) (i start : ℕ) (rows more : List Row) (names : List ℕ) → AreRead runs values i start rows →
    i < length runs → names ≡ slice_index_or values (slice_index runs i % 2048) [] →
    more ≡ rows ++ rows_under_names (record { low = start; high = slice_index runs i / 2048 - 1 }) (names_in names) →
    AreRead runs values (i + 1) (slice_index runs i / 2048) more
AreRead-more runs values i start rows more names h lt here is =
    let range : Range = record { low = start; high = slice_index runs i / 2048 - 1 } in
    let added = rows_under_names range (names_in names) in
    record {
      at = IsAt-next runs i start h.at lt;
      members = λ c name.
          ap (λ rs. covers (ranges_of rs name) c) is ∙ ap (λ rs. covers rs c) (ranges_of-append rows added name)
          ∙ covers-append (ranges_of rows name) (ranges_of added name) c
          ∙ ap (λ b. covers (ranges_of rows name) c || b) (covers-names range (names_in names) name c)
          ∙ more-is (covers (ranges_of rows name) c) (is_named values (run_value runs c) name) (is_among names name) start (slice_index runs i / 2048) c
          (run-ends runs values i start rows h lt) (h.members c name)
          (λ low high. ap (λ k. is_named values k name) (value-here runs i start c h.at lt low high) ∙ ap (λ text. is_among text name) (sym here));
    }

below_last : (held named : Bool) (start c : ℕ) → start ≡ 0x11_0000 → c ≤ 0x10FFFF → held ≡ (nat_lt c start && named) → held ≡ named
below_last held named start c e l h = grind (arith, nat_tests)

-- all runs are read
pub AreRead-all : (runs : List ℕ) (values : List (List ℕ)) (i start : ℕ) (rows : List Row) → AreRead runs values i start rows → length runs ≤ i →
    AreRowsOf runs values rows
AreRead-all runs values i start rows h end = λ c name le.
    below_last (covers (ranges_of rows name) c) (is_named values (run_value runs c) name) start c (start-last runs i start h.at end) le (h.members c name)
