-- Tables that are compiled or read, and the boundaries that they give.
use Rattle.std.proofs.Common.{◌≡◌, ℕ, Bool, true, false, List, refl, sym, ap, subst, inl, inr}
use Rattle.std.specs.Prelude.{Result, Ok, Err}
use Rattle.rbbi_model.specs.Words.{IsText}
use Rattle.rbbi_model.specs.Rules.{Rule}
use Rattle.rbbi_model.specs.Tables.{Table}
use Rattle.rbbi_model.specs.ValidTables.{IsValidTable}
use Rattle.rbbi_model.specs.Marks.{HasSameMarks}
use Rattle.rbbi_model.specs.Compiled.{IsCompiled, GivesBoundaries}
use Rattle.rbbi_model.specs.Searches.{table_boundaries}
use Rattle.rbbi_command.specs.Settings.{Options}
use Rattle.rbbi_command.specs.Inputs.{Inputs}
use Rattle.rbbi_command.specs.declared.refusal.Refusal.{Refusal}
use Rattle.rbbi_command.specs.Stages.{Stage, followed_by}
use Rattle.rbbi_tool.specs.inner.Stages.{Meets, Serves}
use Rattle.rbbi_tool.proofs.StageLemmas.{serves_on}
use Rattle.rbbi_props.specs.Rows.{File}
use Rattle.rbbi_tool.specs.Properties.{properties_stage, property_files}
use Rattle.rbbi_tool.specs.Basis.{compiled_bytes_stage, compiled_with, compiled_stage, table_stage, basis_by}
use Rattle.rbbi_tool.specs.Basis.{Basis, ByRules, ByTable, IsTableOf, AreBoundariesBy}

-- what boundaries come by, behind the property files
abbrev behind : Options → Inputs → Bool → Stage Basis
behind options inputs by_table =
    followed_by (properties_stage options.properties inputs.properties) (λ _. basis_by by_table options inputs)

module _ (options : Options) (inputs : Inputs) (passed : (properties_stage options.properties inputs.properties).passes tt) where
  -- a table of a rule file that was read, behind property files that were read
  pub read_serves : (files : List File) (read : List ℕ) (result : Result Table Refusal)
      → files ≡ property_files options.properties inputs.properties → read ≡ inputs.rules
      → Serves IsCompiled (compiled_bytes_stage files options.ignored read) result → Serves IsCompiled (compiled_stage options inputs) result
  read_serves files read result same same' served =
      serves_on (properties_stage options.properties inputs.properties) (λ _. compiled_with options inputs) IsCompiled tt result passed
      (subst (λ b. Serves IsCompiled (compiled_bytes_stage (property_files options.properties inputs.properties) options.ignored b) result) same'
      (subst (λ fs. Serves IsCompiled (compiled_bytes_stage fs options.ignored read) result) same served))

  -- boundaries come by a table of the rules of a rule file
  pub compiled_serves : (by_table : Bool) (result : Result Table Refusal) → by_table ≡ false
      → Serves IsCompiled (compiled_stage options inputs) result → Serves IsTableOf (behind options inputs by_table) result
  compiled_serves by_table result is served = subst (λ b. Serves IsTableOf (behind options inputs b) result) (sym is) (serve result served)
    where
      serve : (result : Result Table Refusal) → Serves IsCompiled (compiled_stage options inputs) result
          → Serves IsTableOf (behind options inputs false) result
      serve (Ok table) (rules, (u, ok, mean), compiled) = (ByRules rules, (u, ok, (rules, mean, refl)), compiled)
      serve (Err r) (inl memory) = inl memory
      serve (Err r) (inr (inl is)) = inr (inl is)
      serve (Err r) (inr (inr (u, ok, is))) = inr (inr (u, ok, inl is))

  -- boundaries come by a table that is read
  pub table_serves : (by_table : Bool) (read : List ℕ) (result : Result Table Refusal) → by_table ≡ true → read ≡ inputs.table
      → Meets (λ table. table) (table_stage read) result → Serves IsTableOf (behind options inputs by_table) result
  table_serves by_table read result is same met =
      subst (λ b. Serves IsTableOf (behind options inputs b) result) (sym is)
      (serve result (subst (λ b. Meets (λ table. table) (table_stage b) result) same met))
    where
      serve : (result : Result Table Refusal) → Meets (λ table. table) (table_stage inputs.table) result
          → Serves IsTableOf (behind options inputs true) result
      serve (Ok table) met = (ByTable table, (tt, passed, (table, met, refl)), refl)
      serve (Err r) (inl memory) = inl memory
      serve (Err r) (inr is) = inr (inr (tt, passed, inl is))

-- the table gives the boundaries
abbrev pub GivesThem : Table → Basis → Type 0
GivesThem table (ByRules rules) = GivesBoundaries table rules
GivesThem table (ByTable other) = other ≡ table

pub gives_them : ((table : Table) (rules : List Rule) → IsValidTable table → HasSameMarks table rules → GivesBoundaries table rules)
    → (basis : Basis) (table : Table) → IsTableOf table basis → GivesThem table basis
gives_them law (ByRules rules) table compiled = law table rules compiled.valid compiled.same
gives_them law (ByTable other) table same = same

pub boundaries_given : (basis : Basis) (table : Table) (x : List ℕ) → GivesThem table basis → IsText x → AreBoundariesBy basis x (table_boundaries table x)
boundaries_given (ByRules rules) table x given text = given x text
boundaries_given (ByTable other) table x given text = ap (λ t. table_boundaries t x) (sym given)
