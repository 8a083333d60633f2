-- A table that passes the tests gives the boundaries of each text by its rule, with their statuses.
use Rattle.std.proofs.Common.{◌≡◌, ℕ, ◌<◌, Bool, true, List, [], ◌∷◌, cond, leb, eqb, get_or, sym, ◌∙◌, subst}
use Rattle.std.proofs.lemmas.Bool.{leb-true}
use Rattle.unicode_segmentation.specs.Segments.{Rule}
use Rattle.rbbi_model.specs.Words.{IsCharacter}
use Rattle.rbbi_model.specs.Tables.{Table, CategoryRange, category_of}
use Rattle.rbbi_model.specs.ValidTables.{IsValidTable}
use Rattle.ucd_table.proofs.Stepped.{Stepped}
use Rattle.rbbi_annexes.specs.Statuses.{GivesBoundaries, SpellBoundaries}
use Rattle.rbbi_annexes.proofs.Categories.{classes_fit, class_is}
use Rattle.rbbi_annexes.proofs.Reading.{two, table_in, table_is}
use Rattle.rbbi_annexes.proofs.Monitors.{Monitor, Tells}
use Rattle.rbbi_annexes.proofs.Agreement.{agreement}
use Rattle.rbbi_annexes.proofs.Checker.{Entry, passes, agrees, IsUsed, IsState, IsReached}

-- the start of the first range of the category
unfoldable pub first_of : ℕ → List CategoryRange → ℕ
first_of k [] = 0
first_of k (range ∷ ranges) = let later = first_of k ranges in cond (eqb range.category k) range.start later

module _ {S : Type 0} (same : S → S → Bool) (equal : (a b : S) → same a b ≡ true → a ≡ b) (table : Table) (monitor : Monitor S) (kinds : ℕ)
    (lives : ℕ → Bool) (states : List S) (entries : List (List (Entry S))) (rule : Rule) (status : List ℕ → ℕ) where
  pub gives_boundaries : IsValidTable table → passes same table monitor kinds lives states entries ≡ true →
      ((c : ℕ) → IsCharacter c → IsUsed same table monitor kinds lives (category_of table.ranges c)) →
      Tells monitor (category_of table.ranges) rule status → GivesBoundaries table rule status
  gives_boundaries valid ok used tells =
      agreement table monitor kinds (IsUsed same table monitor kinds lives) (IsState same table monitor kinds lives states entries)
      (IsReached same table monitor kinds lives states entries) (agrees same table monitor kinds lives states entries equal ok) rule status tells used
      valid.rows.stop.0

-- The same of each valid table that the bytes spell. What is tested is the table that is read from the bytes.
module _ {V S : Type 0} (same_class : V → V → Bool) (equal_class : (v w : V) → same_class v w ≡ true → v ≡ w) (of : ℕ → V) (stepped : Stepped of) (other : V)
    (same : S → S → Bool) (equal : (a b : S) → same a b ≡ true → a ≡ b) (kinds : ℕ) (rule : Rule) (status : List ℕ → ℕ)
    (bytes : List ℕ) (table : Table) (lives : ℕ → Bool) (classes : List V) (monitor : Monitor S)
    (tells : ((c : ℕ) → IsCharacter c → (category_of table.ranges c < table.categories) × (lives (category_of table.ranges c) ≡ true)
    × (get_or classes (category_of table.ranges c) other ≡ of c)) → Tells monitor (category_of table.ranges) rule status)
    (states : List S) (entries : List (List (Entry S))) where
  pub spell_boundaries_by : table_in bytes ≡ table → get_or bytes 7 0 ≡ 2 → leb (two (get_or bytes 16 0) (get_or bytes 17 0)) 255 ≡ true →
      classes_fit same_class equal_class of stepped classes other table.categories lives table.ranges ≡ true →
      passes same table monitor kinds lives states entries ≡ true → SpellBoundaries bytes rule status
  spell_boundaries_by read version few fit ok spelled valid is =
      let are : table ≡ spelled =
      sym read ∙ table_is spelled valid bytes is version (leb-true (two (get_or bytes 16 0) (get_or bytes 17 0)) 255 few) in
      let class = class_is same_class equal_class of stepped classes other table.categories lives table.ranges fit in
      subst (λ t. IsValidTable t → GivesBoundaries t rule status) are (λ holds. gives_boundaries same equal table monitor kinds lives states entries rule
      status holds ok (λ c is. ((class c is).0, (class c is).1)) (tells class)) valid
