-- The commands of lines with fields.
use Rattle.std.proofs.Common.{ℕ, List, [], ◌++◌, refl, ap, sym, subst, inl, inr, drop, arith}
use Rattle.std.specs.Prelude.{codes}
use Rattle.rbbi_model.specs.Scripts.{Ask, Replace, ShowText}
use Rattle.rbbi_model.specs.Scripts as model
use Rattle.rbbi_script.specs.Grammar.{WritesNumber, IsField, WritesCharacters, Writes, IsInsert, IsDelete, IsReplace}
use Rattle.rbbi_script.specs.inner.Readings.{IsOnlyField}
use Rattle.rbbi_script.proofs.LineKinds.{kind, asks_no_edit}

-- what a line that begins so writes is an edit of its kind
insert_only : (fields : List ℕ) → ((at removed : ℕ) (inserted : List ℕ) → ¬ IsInsert (codes "insert " ++ fields) at removed inserted) →
    (command : model.Command) → ¬ Writes (codes "insert " ++ fields) command
insert_only fields none (Ask question) h = asks_no_edit (codes "insert " ++ fields) 4 (omega arith) refl question h
insert_only fields none ShowText h = let z = ap kind h in omega arith
insert_only fields none (Replace at removed inserted) (inl h) = none at removed inserted h
insert_only fields none (Replace at removed inserted) (inr (inl h)) = let z = ap kind h.spelled in omega arith
insert_only fields none (Replace at removed inserted) (inr (inr h)) = let z = ap kind h.spelled in omega arith

delete_only : (fields : List ℕ) → ((at removed : ℕ) (inserted : List ℕ) → ¬ IsDelete (codes "delete " ++ fields) at removed inserted) →
    (command : model.Command) → ¬ Writes (codes "delete " ++ fields) command
delete_only fields none (Ask question) h = asks_no_edit (codes "delete " ++ fields) 5 (omega arith) refl question h
delete_only fields none ShowText h = let z = ap kind h in omega arith
delete_only fields none (Replace at removed inserted) (inl h) = let z = ap kind h.spelled in omega arith
delete_only fields none (Replace at removed inserted) (inr (inl h)) = none at removed inserted h
delete_only fields none (Replace at removed inserted) (inr (inr h)) = let z = ap kind h.spelled in omega arith

replace_only : (fields : List ℕ) → ((at removed : ℕ) (inserted : List ℕ) → ¬ IsReplace (codes "replace " ++ fields) at removed inserted) →
    (command : model.Command) → ¬ Writes (codes "replace " ++ fields) command
replace_only fields none (Ask question) h = asks_no_edit (codes "replace " ++ fields) 6 (omega arith) refl question h
replace_only fields none ShowText h = let z = ap kind h in omega arith
replace_only fields none (Replace at removed inserted) (inl h) = let z = ap kind h.spelled in omega arith
replace_only fields none (Replace at removed inserted) (inr (inl h)) = let z = ap kind h.spelled in omega arith
replace_only fields none (Replace at removed inserted) (inr (inr h)) = none at removed inserted h

-- no number and space
pub insert_no_place : (fields : List ℕ) → ((n : ℕ) (rest : List ℕ) → ¬ IsField fields n rest) → (command : model.Command) →
    ¬ Writes (codes "insert " ++ fields) command
insert_no_place fields none =
    insert_only fields (λ at removed inserted h. none at h.text (subst (λ f. IsField f at h.text) (sym (ap (drop 7) h.spelled)) h.place))

pub delete_no_place : (fields : List ℕ) → ((n : ℕ) (rest : List ℕ) → ¬ IsField fields n rest) → (command : model.Command) →
    ¬ Writes (codes "delete " ++ fields) command
delete_no_place fields none =
    delete_only fields (λ at removed inserted h. none at h.digits (subst (λ f. IsField f at h.digits) (sym (ap (drop 7) h.spelled)) h.place))

pub replace_no_place : (fields : List ℕ) → ((n : ℕ) (rest : List ℕ) → ¬ IsField fields n rest) → (command : model.Command) →
    ¬ Writes (codes "replace " ++ fields) command
replace_no_place fields none =
    replace_only fields (λ at removed inserted h. none at h.others (subst (λ f. IsField f at h.others) (sym (ap (drop 8) h.spelled)) h.place))

-- a text that isn't one
pub insert_no_text : (fields : List ℕ) (n : ℕ) (text : List ℕ) → IsOnlyField fields n text → ((word : List ℕ) → ¬ WritesCharacters text word) →
    (command : model.Command) → ¬ Writes (codes "insert " ++ fields) command
insert_no_text fields n text field none =
    insert_only fields (λ at removed inserted h.
    let same = field.only at h.text (subst (λ f. IsField f at h.text) (sym (ap (drop 7) h.spelled)) h.place) in
    none inserted (subst (λ t. WritesCharacters t inserted) same.1 h.spells))

-- no count
pub delete_no_count : (fields : List ℕ) (n : ℕ) (digits : List ℕ) → IsOnlyField fields n digits → ((m : ℕ) → ¬ WritesNumber digits m) →
    (command : model.Command) → ¬ Writes (codes "delete " ++ fields) command
delete_no_count fields n digits field none =
    delete_only fields (λ at removed inserted h.
    let same = field.only at h.digits (subst (λ f. IsField f at h.digits) (sym (ap (drop 7) h.spelled)) h.place) in
    none removed (subst (λ t. WritesNumber t removed) same.1 h.count))

pub replace_no_count : (fields : List ℕ) (n : ℕ) (others : List ℕ) → IsOnlyField fields n others → ((m : ℕ) (rest : List ℕ) → ¬ IsField others m rest) →
    (command : model.Command) → ¬ Writes (codes "replace " ++ fields) command
replace_no_count fields n others field none =
    replace_only fields (λ at removed inserted h.
    let same = field.only at h.others (subst (λ f. IsField f at h.others) (sym (ap (drop 8) h.spelled)) h.place) in
    none removed h.text (subst (λ t. IsField t removed h.text) same.1 h.count))

pub replace_no_text : (fields : List ℕ) (n : ℕ) (others : List ℕ) (m : ℕ) (text : List ℕ) → IsOnlyField fields n others → IsOnlyField others m text →
    ((word : List ℕ) → ¬ WritesCharacters text word) → (command : model.Command) → ¬ Writes (codes "replace " ++ fields) command
replace_no_text fields n others m text field count none =
    replace_only fields (λ at removed inserted h.
    let first = field.only at h.others (subst (λ f. IsField f at h.others) (sym (ap (drop 8) h.spelled)) h.place) in
    let second = count.only removed h.text (subst (λ t. IsField t removed h.text) first.1 h.count) in
    none inserted (subst (λ t. WritesCharacters t inserted) second.1 h.spells))

-- the edits that the lines write
pub inserts : (fields : List ℕ) (n : ℕ) (text word : List ℕ) → IsField fields n text → WritesCharacters text word →
    Writes (codes "insert " ++ fields) (Replace n 0 word)
inserts fields n text word place spells =
    inl (record { fields = fields; text = text; spelled = refl; place = place; none_removed = refl; spells = spells })

pub deletes : (fields : List ℕ) (n : ℕ) (digits : List ℕ) (m : ℕ) → IsField fields n digits → WritesNumber digits m →
    Writes (codes "delete " ++ fields) (Replace n m [])
deletes fields n digits m place count =
    inr (inl (record { fields = fields; digits = digits; spelled = refl; place = place; count = count; none_inserted = refl }))
