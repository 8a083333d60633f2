-- In a file without faults each set has a value, and each expression has parts.
use Rattle.std.proofs.Common.{◌≡◌, ℕ, Bool, true, false, nat_lt, nat_le, is_some, is_none, if◌then◌else◌, Option, Some, None}
use Rattle.std.proofs.Common.{List, [], ◌∷◌, ◌++◌, encode_utf8_all, sym, refl, ap, ◌∙◌}
use Rattle.std.proofs.Common.{arith}
use Rattle.std.specs.Option.{option_map}
use Rattle.std.proofs.lemmas.Bool.Decides.{nat_tests}
use Rattle.rbbi_model.specs.SetTrees as model
use Rattle.rbbi_props.specs.Rows.{File}
use Rattle.rbbi_tree.specs.Trees.{SetSyntax, PartsTree, PartTree, SetItemTree, set_of, no_parts, part, joined, set_character, set_range, set_name, set_property}
use Rattle.rbbi_tree.specs.Trees.{set_within}
use Rattle.rbbi_tree.specs.Trees.{ExprTree, SeqTree, ItemTree, AtomTree, no_alternatives, alternative, no_items, item, placed, character, quoted, any, name}
use Rattle.rbbi_tree.specs.Trees.{property, set, group}
use Rattle.rbbi_tree.specs.WellMade.{IsWellMadeExpr, AreWellMadeSeqs, AreWellMadeItems, IsWellMadeItem, IsWellMadeAtom, HasSeq, HasItem}
use Rattle.rbbi_tree.specs.declared.syntax.Quant.{Quant}
use Rattle.rbbi_tree.specs.declared.syntax.Quant.TheVariants as quant
use Rattle.rbbi_resolve.specs.declared.fault.Fault.{Fault}
use Rattle.rbbi_resolve.specs.declared.fault.FaultKind.{FaultKind}
use Rattle.rbbi_resolve.specs.declared.fault.FaultKind.TheVariants as kinds
use Rattle.rbbi_resolve.specs.SetValues.{property_test, join_of, joined_to, signed, value_of_property, value_of_range, value_of_set, value_of_parts}
use Rattle.rbbi_resolve.specs.SetValues.{value_of_part}
use Rattle.rbbi_resolve.specs.SetValues.{value_of_item}
use Rattle.rbbi_resolve.specs.Meanings.{Meaning}
use Rattle.rbbi_resolve.specs.Contexts.{Variable, Set, Expression, Context, variable_of, value_of_name, value_of_variable}
use Rattle.rbbi_resolve.specs.Expressions.{leaf_of, word_of, meaning_of_variable, repeated, meaning_of_expr, meaning_of_seq, meaning_of_item, meaning_of_atom}
use Rattle.rbbi_resolve.specs.Expressions.{height_of_expr, set_of_variable, set_of_atom, set_of_item, set_of_expr, variable_with, variable_for}
use Rattle.rbbi_resolve.specs.Parts.{Part, Outside, Within, parts_of_set, parts_of_parts, parts_of_part, parts_in_item, parts_of_expr, parts_of_seq}
use Rattle.rbbi_resolve.specs.Parts.{parts_of_item, parts_in_atom}
use Rattle.rbbi_resolve.specs.Faults.{faults_where, faults_of_part, faults_of_parts, is_undefined, is_expression, is_not_a_set, is_unknown_property}
use Rattle.rbbi_resolve.specs.Faults.{is_bad_range, is_empty_set, place_of_part}
use Rattle.rbbi_resolve.specs.inner.Soundness.{IsFull, IsSound, AreSound}
use Rattle.rbbi_resolve.proofs.Noting.{faults_of_append}

-- two lists that are empty together are so each
pub first_empty : {A : Type 0} (a b : List A) → a ++ b ≡ [] → a ≡ []
first_empty [] b e = refl
first_empty (x ∷ a) b e = absurd cc

pub second_empty : {A : Type 0} (a b : List A) → a ++ b ≡ [] → b ≡ []
second_empty [] b e = e
second_empty (x ∷ a) b e = absurd cc

pub not_where : (b : Bool) (place : ℕ) (kind : FaultKind) → faults_where b place kind ≡ [] → b ≡ false
not_where false place kind e = refl
not_where true place kind e = absurd cc

none_where : (b : Bool) (place : ℕ) (kind : FaultKind) (more : List Fault) → faults_where b place kind ++ more ≡ [] → (b ≡ false) × (more ≡ [])
none_where false place kind more e = (refl, e)
none_where true place kind more e = absurd cc

-- no fault of a part
pub record IsFaultless (k : Context) (p : Part) : Type 0 where
  pub defined : is_undefined k p ≡ false
  pub sets : is_not_a_set k p ≡ false
  pub known : is_unknown_property k p ≡ false
  pub ranges : is_bad_range k p ≡ false
  pub filled : is_empty_set k p ≡ false

pub faultless_part : (k : Context) (p : Part) → faults_of_parts k (p ∷ []) ≡ [] → IsFaultless k p
faultless_part k p e =
    let undefined = none_where (is_undefined k p) (place_of_part p) kinds.Undefined _ (first_empty (faults_of_part k p) [] e) in
    let no_set = none_where (is_not_a_set k p) (place_of_part p) kinds.NotASet _ undefined.1 in
    let unknown = none_where (is_unknown_property k p) (place_of_part p) kinds.UnknownProperty _ no_set.1 in
    let falling = none_where (is_bad_range k p) (place_of_part p) kinds.BadRange _ unknown.1 in
    let empty = none_where (is_empty_set k p) (place_of_part p) kinds.EmptySet _ falling.1 in
    record { defined = undefined.0; sets = no_set.0; known = unknown.0; ranges = falling.0; filled = empty.0 }

-- no fault of parts, of two lists of them
pub faultless_first : (k : Context) (a b : List Part) → faults_of_parts k (a ++ b) ≡ [] → faults_of_parts k a ≡ []
faultless_first k a b e = first_empty (faults_of_parts k a) (faults_of_parts k b) (sym (faults_of_append k a b) ∙ e)

pub faultless_second : (k : Context) (a b : List Part) → faults_of_parts k (a ++ b) ≡ [] → faults_of_parts k b ≡ []
faultless_second k a b e = second_empty (faults_of_parts k a) (faults_of_parts k b) (sym (faults_of_append k a b) ∙ e)

-- the value is there
abbrev pub IsThere : Option model.SetTree → Type 0
IsThere value = (tree : model.SetTree) × (value ≡ Some tree)

pub known_there : (files : List File) (negated : Bool) (word : List ℕ) (value : Option (List ℕ)) → is_none (property_test files word value) ≡ false →
    IsThere (value_of_property files negated word value)
known_there files negated word value e =
    let some : (o : Option (ℕ → Bool)) → is_none o ≡ false → is_some o ≡ true =
    λ o. elim o as (λ x. is_none x ≡ false → is_some x ≡ true) [ None ↦ λ n. absurd cc | Some test ↦ λ n. refl ] in
    (model.Property negated word value, ap (λ b. if b then Some (model.Property negated word value) else None) (some (property_test files word value) e))

range_there : (first last : ℕ) → nat_lt last first ≡ false → IsThere (value_of_range first last)
range_there first last e =
    let le : nat_le first last ≡ true = grind (arith, nat_tests) in
    (model.Span (record { low = first; high = last }), ap (λ b. if b then Some (model.Span (record { low = first; high = last })) else None) le)

name_there : (v : Option Variable) → IsSound v → is_none v ≡ false → is_expression v ≡ false → IsThere (value_of_variable v)
name_there None sound there no_set = absurd cc
name_there (Some (Set None)) sound there no_set = absurd sound
name_there (Some (Set (Some tree))) sound there no_set = (tree, refl)
name_there (Some (Expression meaning height)) sound there no_set = absurd cc

mutual
  -- a set without faults has a value
  pub set_there : (k : Context) → AreSound k → (s : SetSyntax) → faults_of_parts k (parts_of_set s) ≡ [] → IsThere (value_of_set k.files (value_of_name k) s)
  set_there k sound (set_of place negated parts) e =
      let whole = parts_there k sound (Some model.Nothing) (model.Nothing, refl) parts e in
      (signed negated whole.0, ap (option_map (signed negated)) whole.1)

  parts_there : (k : Context) → AreSound k → (left : Option model.SetTree) → IsThere left → (parts : PartsTree) →
      faults_of_parts k (parts_of_parts parts) ≡ [] →
      IsThere (value_of_parts k.files (value_of_name k) left parts)
  parts_there k sound left l no_parts e = l
  parts_there k sound left l (part first more) e =
      parts_there k sound (value_of_part k.files (value_of_name k) left first)
      (part_there k sound left l first (faultless_first k (parts_of_part first) (parts_of_parts more) e)) more
      (faultless_second k (parts_of_part first) (parts_of_parts more) e)

  part_there : (k : Context) → AreSound k → (left : Option model.SetTree) → IsThere left → (p : PartTree) → faults_of_parts k (parts_of_part p) ≡ [] →
      IsThere (value_of_part k.files (value_of_name k) left p)
  part_there k sound left l (joined place join member) e =
      let i = item_there k sound place member (faultless_first k (parts_in_item member) (Within place member ∷ []) e)
      (faultless_part k (Within place member) (faultless_second k (parts_in_item member) (Within place member ∷ []) e)) in
      (model.Joined l.0 (join_of join) i.0, ap (λ x. joined_to join x left) i.1 ∙ ap (joined_to join (Some i.0)) l.1)

  item_there : (k : Context) → AreSound k → (place : ℕ) (i : SetItemTree) → faults_of_parts k (parts_in_item i) ≡ [] → IsFaultless k (Within place i) →
      IsThere (value_of_item k.files (value_of_name k) i)
  item_there k sound place (set_character c) e f = (model.Character c, refl)
  item_there k sound place (set_range first last) e f = range_there first last f.ranges
  item_there k sound place (set_name word) e f = name_there (variable_of k word) (sound.each (encode_utf8_all word)) f.defined f.sets
  item_there k sound place (set_property negated word value) e f = known_there k.files negated word value f.known
  item_there k sound place (set_within inner) e f = set_there k sound inner e

full_leaf : (v : Option model.SetTree) → IsFull (leaf_of v)
full_leaf None = tt
full_leaf (Some tree) = tt

full_word : (c : ℕ) (word : List ℕ) → IsFull (word_of (c ∷ word))
full_word c [] = tt
full_word c (d ∷ word) = (tt, full_word d word)

full_repeated : (q : Quant) (m : Meaning) → IsFull m → IsFull (repeated q m)
full_repeated quant.Once m full = full
full_repeated quant.Star m full = full
full_repeated quant.Plus m full = full
full_repeated quant.Quest m full = full

full_variable : (v : Option Variable) → IsSound v → is_none v ≡ false → IsFull (meaning_of_variable v)
full_variable None sound there = absurd cc
full_variable (Some (Set None)) sound there = absurd sound
full_variable (Some (Set (Some tree))) sound there = tt
full_variable (Some (Expression meaning height)) sound there = sound

mutual
  -- an expression without faults has parts
  pub full_expr : (k : Context) → AreSound k → (x : ExprTree) → HasSeq x → AreWellMadeSeqs x → faults_of_parts k (parts_of_expr x) ≡ [] →
      IsFull (meaning_of_expr k x)
  full_expr k sound no_alternatives has well e = absurd has
  full_expr k sound (alternative first no_alternatives) has well e = full_seq k sound first well.0 well.1 (faultless_first k (parts_of_seq first) [] e)
  full_expr k sound (alternative first (alternative second more)) has well e = (
    full_seq k sound first well.0 well.1 (faultless_first k (parts_of_seq first) (parts_of_expr (alternative second more)) e),
    full_expr k sound
        (alternative second more) tt well.2 (faultless_second k (parts_of_seq first) (parts_of_expr (alternative second more)) e),
  )

  full_seq : (k : Context) → AreSound k → (x : SeqTree) → HasItem x → AreWellMadeItems x → faults_of_parts k (parts_of_seq x) ≡ [] → IsFull (meaning_of_seq k x)
  full_seq k sound no_items has well e = absurd has
  full_seq k sound (item first no_items) has well e = full_item k sound first well.0 (faultless_first k (parts_of_item first) [] e)
  full_seq k sound (item first (item second more)) has well e = (
    full_item k sound first well.0 (faultless_first k (parts_of_item first) (parts_of_seq (item second more)) e),
    full_seq k sound (item second more) tt
        well.1 (faultless_second k (parts_of_item first) (parts_of_seq (item second more)) e),
  )

  full_item : (k : Context) → AreSound k → (x : ItemTree) → IsWellMadeItem x → faults_of_parts k (parts_of_item x) ≡ [] → IsFull (meaning_of_item k x)
  full_item k sound (placed place atom quant) well e =
      full_repeated quant (meaning_of_atom k atom)
      (full_atom k sound place atom well (faultless_first k (parts_in_atom atom) (Outside place atom ∷ []) e)
      (faultless_part k (Outside place atom) (faultless_second k (parts_in_atom atom) (Outside place atom ∷ []) e)))

  full_atom : (k : Context) → AreSound k → (place : ℕ) (x : AtomTree) → IsWellMadeAtom x → faults_of_parts k (parts_in_atom x) ≡ [] →
      IsFaultless k (Outside place x) → IsFull (meaning_of_atom k x)
  full_atom k sound place (character c bare) well e f = tt
  full_atom k sound place (quoted []) well e f = absurd (omega arith)
  full_atom k sound place (quoted (c ∷ word)) well e f = full_word c word
  full_atom k sound place any well e f = tt
  full_atom k sound place (name word) well e f = full_variable (variable_of k word) (sound.each (encode_utf8_all word)) f.defined
  full_atom k sound place (property negated word value) well e f = full_leaf (value_of_property k.files negated word value)
  full_atom k sound place (set s) well e f = full_leaf (value_of_set k.files (value_of_name k) s)
  full_atom k sound place (group inner) well e f = full_expr k sound inner well.0 well.1 e

-- where it is a set, it has a value
abbrev IsSetThere : Option (Option model.SetTree) → Type 0
IsSetThere None = Unit {0}
IsSetThere (Some None) = ⊥
IsSetThere (Some (Some tree)) = Unit {0}

there_is_there : (v : Option model.SetTree) → IsThere v → IsSetThere (Some v)
there_is_there None t = let e = t.1 in absurd cc
there_is_there (Some tree) t = tt

variable_is_there : (v : Option Variable) → IsSound v → IsSetThere (set_of_variable v)
variable_is_there None sound = tt
variable_is_there (Some (Set None)) sound = sound
variable_is_there (Some (Set (Some tree))) sound = tt
variable_is_there (Some (Expression meaning height)) sound = tt

set_of_atom_there : (k : Context) → AreSound k → (place : ℕ) (x : AtomTree) → faults_of_parts k (parts_in_atom x) ≡ [] → IsFaultless k (Outside place x) →
    IsSetThere (set_of_atom k x)
set_of_atom_there k sound place (character c bare) e f = tt
set_of_atom_there k sound place (quoted word) e f = tt
set_of_atom_there k sound place any e f = tt
set_of_atom_there k sound place (name word) e f = variable_is_there (variable_of k word) (sound.each (encode_utf8_all word))
set_of_atom_there k sound place (property negated word value) e f =
    there_is_there (value_of_property k.files negated word value) (known_there k.files negated word value f.known)
set_of_atom_there k sound place (set s) e f = there_is_there (value_of_set k.files (value_of_name k) s) (set_there k sound s e)
set_of_atom_there k sound place (group inner) e f = tt

set_of_item_there : (k : Context) → AreSound k → (x : ItemTree) → faults_of_parts k (parts_of_item x) ≡ [] → IsSetThere (set_of_item k x)
set_of_item_there k sound (placed place atom quant.Once) e =
    set_of_atom_there k sound place atom (faultless_first k (parts_in_atom atom) (Outside place atom ∷ []) e)
    (faultless_part k (Outside place atom) (faultless_second k (parts_in_atom atom) (Outside place atom ∷ []) e))
set_of_item_there k sound (placed place atom quant.Star) e = tt
set_of_item_there k sound (placed place atom quant.Plus) e = tt
set_of_item_there k sound (placed place atom quant.Quest) e = tt

set_of_expr_there : (k : Context) → AreSound k → (x : ExprTree) → faults_of_parts k (parts_of_expr x) ≡ [] → IsSetThere (set_of_expr k x)
set_of_expr_there k sound no_alternatives e = tt
set_of_expr_there k sound (alternative no_items more) e = tt
set_of_expr_there k sound (alternative (item first (item second rest)) more) e = tt
set_of_expr_there k sound (alternative (item first no_items) (alternative second more)) e = tt
set_of_expr_there k sound (alternative (item first no_items) no_alternatives) e =
    set_of_item_there k sound first (faultless_first k (parts_of_item first) [] (faultless_first k (parts_of_item first ++ []) [] e))

sound_with : (o : Option (Option model.SetTree)) (m : Meaning) (h : ℕ) → IsSetThere o → IsFull m → IsSound (Some (variable_with o m h))
sound_with None m h there full = full
sound_with (Some None) m h there full = there
sound_with (Some (Some tree)) m h there full = tt

-- a variable of an expression without faults is sound
pub sound_variable : (k : Context) → AreSound k → (x : ExprTree) → IsWellMadeExpr x → faults_of_parts k (parts_of_expr x) ≡ [] →
    IsSound (Some (variable_for k x))
sound_variable k sound x well e =
    sound_with (set_of_expr k x) (meaning_of_expr k x) (height_of_expr k x) (set_of_expr_there k sound x e) (full_expr k sound x well.0 well.1 e)
