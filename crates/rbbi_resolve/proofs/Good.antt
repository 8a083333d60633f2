-- In a file of characters without faults each leaf's set holds a character, and nothing past the last code point.
use Rattle.std.proofs.Common.{◌≡◌, ℕ, ◌≤◌, Bool, true, false, not, nat_le, is_some, is_none, if◌then◌else◌, Option}
use Rattle.std.proofs.Common.{Some, None, IfSome, List, [], ◌∷◌, ◌++◌, encode_utf8_all, bytes_eq, codes, refl, arith}
use Rattle.std.specs.Option.{option_map}
use Rattle.std.specs.List.{AllByRecursion}
use Rattle.rbbi_model.specs.Words.{IsCharacter}
use Rattle.rbbi_model.specs.SetTrees as model
use Rattle.rbbi_props.specs.Rows.{File}
use Rattle.rbbi_tree.specs.Trees as trees
use Rattle.rbbi_tree.specs.Trees.{SetSyntax, PartsTree, PartTree, SetItemTree, set_of, no_parts, part, joined, set_character, set_range, set_name, set_property}
use Rattle.rbbi_tree.specs.Trees.{set_within}
use Rattle.rbbi_tree.specs.Trees.{ExprTree, SeqTree, ItemTree, AtomTree, no_alternatives, alternative, no_items, item, placed, character, quoted, any, name}
use Rattle.rbbi_tree.specs.Trees.{property, group}
use Rattle.rbbi_tree.specs.Trees.{StatementTree, nothing, control, assign, rule}
use Rattle.rbbi_tree.specs.declared.syntax.Quant.{Quant}
use Rattle.rbbi_tree.specs.declared.syntax.Quant.TheVariants as quant
use Rattle.rbbi_tree.specs.declared.syntax.Join.{Join}
use Rattle.rbbi_resolve.specs.SetValues.{property_test, joined_to, signed, value_of_property, value_of_range, value_of_set, value_of_parts}
use Rattle.rbbi_resolve.specs.SetValues.{value_of_part, value_of_item}
use Rattle.rbbi_resolve.specs.Emptiness.{holds_character}
use Rattle.rbbi_resolve.specs.Meanings.{Meaning, Leaf, Empty, Never, Then, Either, Repeat}
use Rattle.rbbi_resolve.specs.Contexts.{Variable, Set, Expression, Assigned, Context, assigned_to, variable_of, value_of_name, value_of_variable}
use Rattle.rbbi_resolve.specs.Expressions.{leaf_of, word_of, meaning_of_variable, repeated, meaning_of_expr, meaning_of_seq, meaning_of_item, meaning_of_atom}
use Rattle.rbbi_resolve.specs.Expressions.{height_of_expr, set_of_variable, set_of_atom, set_of_item, set_of_expr, variable_with, variable_for}
use Rattle.rbbi_resolve.specs.Parts.{Outside, parts_of_set, parts_of_expr, parts_of_seq, parts_of_item, parts_in_atom}
use Rattle.rbbi_resolve.specs.Faults.{faults_of_parts, is_empty_value}
use Rattle.rbbi_resolve.specs.Files.{context_after, faults_of_statement, ends_active}
use Rattle.rbbi_resolve.specs.inner.Soundness.{IsSound, AreSound}
use Rattle.rbbi_resolve.specs.TextCharacters.{IsSetOfCharacters, ArePartsOfCharacters, IsPartOfCharacters, IsMemberOfCharacters, IsOfCharacters}
use Rattle.rbbi_resolve.specs.TextCharacters.{IsSeqOfCharacters, IsItemOfCharacters, IsAtomOfCharacters, IsStatementOfCharacters}
use Rattle.rbbi_resolve.proofs.Characters.{in_set_takes, character_held}
use Rattle.rbbi_resolve.proofs.SoundFiles.{assigned_faultless}
use Rattle.rbbi_resolve.proofs.Sound.{IsFaultless, faultless_part, faultless_first, faultless_second, IsThere, known_there, set_there}

-- nothing past the last code point is in the set
abbrev pub IsWithin : model.SetTree → Type 0
IsWithin model.Nothing = Unit {0}
IsWithin (model.Character c) = c ≤ 0x10FFFF
IsWithin (model.Span range) = range.high ≤ 0x10FFFF
IsWithin (model.Property negated word value) = Unit {0}
IsWithin (model.Joined left join right) = IsWithin left × IsWithin right
IsWithin (model.Others own) = Unit {0}

abbrev IsValueWithin : Option model.SetTree → Type 0
IsValueWithin None = Unit {0}
IsValueWithin (Some tree) = IsWithin tree

-- a leaf's set
pub record IsGoodSet (files : List File) (tree : model.SetTree) : Type 0 where
  pub within : IsWithin tree
  pub holds : holds_character files tree ≡ true

-- each leaf's set
abbrev pub IsGood : List File → Meaning → Type 0
IsGood files (Leaf tree) = IsGoodSet files tree
IsGood files Empty = Unit {0}
IsGood files Never = Unit {0}
IsGood files (Then first rest) = IsGood files first × IsGood files rest
IsGood files (Either first rest) = IsGood files first × IsGood files rest
IsGood files (Repeat repetition inner) = IsGood files inner

abbrev pub IsGoodVariable : List File → Option Variable → Type 0
IsGoodVariable files None = Unit {0}
IsGoodVariable files (Some (Set None)) = Unit {0}
IsGoodVariable files (Some (Set (Some tree))) = IsGoodSet files tree
IsGoodVariable files (Some (Expression meaning height)) = IsGood files meaning

pub record AreGood (k : Context) : Type 0 where
  pub each : (word : List ℕ) → IsGoodVariable k.files (assigned_to k.variables word)

within_signed : (negated : Bool) (v : Option model.SetTree) → IsValueWithin v → IsValueWithin (option_map (signed negated) v)
within_signed negated None w = tt
within_signed false (Some tree) w = w
within_signed true (Some tree) w = tt

within_joined : (join : Join) (own left : Option model.SetTree) → IsValueWithin own → IsValueWithin left → IsValueWithin (joined_to join own left)
within_joined join None left a b = tt
within_joined join (Some own) None a b = tt
within_joined join (Some own) (Some left) a b = (b, a)

within_name : (files : List File) (v : Option Variable) → IsGoodVariable files v → IsValueWithin (value_of_variable v)
within_name files None g = tt
within_name files (Some (Set None)) g = tt
within_name files (Some (Set (Some tree))) g = g.within
within_name files (Some (Expression meaning height)) g = tt

within_range : (first last : ℕ) → IsCharacter last → IsValueWithin (value_of_range first last)
within_range first last c =
    elim (nat_le first last) as (λ b. IsValueWithin (if b then Some (model.Span (record { low = first; high = last })) else None)) [ true ↦ c.0 | false ↦ tt ]

within_property : (files : List File) (negated : Bool) (word : List ℕ) (value : Option (List ℕ)) → IsValueWithin (value_of_property files negated word value)
within_property files negated word value =
    elim (is_some (property_test files word value)) as (λ b. IsValueWithin (if b then Some
    (model.Property negated word value) else None)) [ true ↦ tt | false ↦ tt ]

mutual
  within_set : (k : Context) → AreGood k → (s : SetSyntax) → IsSetOfCharacters s → IsValueWithin (value_of_set k.files (value_of_name k) s)
  within_set k good (set_of place negated parts) c = within_signed negated _ (within_parts k good (Some model.Nothing) tt parts c)

  within_parts : (k : Context) → AreGood k → (left : Option model.SetTree) → IsValueWithin left → (ps : PartsTree) → ArePartsOfCharacters ps →
      IsValueWithin (value_of_parts k.files (value_of_name k) left ps)
  within_parts k good left w no_parts c = w
  within_parts k good left w (part first more) c =
      within_parts k good (value_of_part k.files (value_of_name k) left first) (within_part k good left w first c.0) more c.1

  within_part : (k : Context) → AreGood k → (left : Option model.SetTree) → IsValueWithin left → (p : PartTree) → IsPartOfCharacters p →
      IsValueWithin (value_of_part k.files (value_of_name k) left p)
  within_part k good left w (joined place join member) c =
      within_joined join (value_of_item k.files (value_of_name k) member) left (within_item k good member c) w

  within_item : (k : Context) → AreGood k → (i : SetItemTree) → IsMemberOfCharacters i → IsValueWithin (value_of_item k.files (value_of_name k) i)
  within_item k good (set_character d) c = c.0
  within_item k good (set_range first last) c = within_range first last c.1
  within_item k good (set_name word) c = within_name k.files (variable_of k word) (good.each (encode_utf8_all word))
  within_item k good (set_property negated word value) c = within_property k.files negated word value
  within_item k good (set_within inner) c = within_set k good inner c

pub not_empty_holds : (files : List File) (tree : model.SetTree) → is_empty_value files (Some tree) ≡ false → holds_character files tree ≡ true
not_empty_holds files tree e = elim (holds_character files tree) as (λ b. not b ≡ false → b ≡ true) [ true ↦ λ n. refl | false ↦ λ n. absurd cc ] e

-- the leaf of a value that is there, within, and not empty
good_value : (files : List File) (v : Option model.SetTree) → IsThere v → IsValueWithin v → is_empty_value files v ≡ false → IfSome v (IsGoodSet files)
good_value files None t w e = tt
good_value files (Some tree) t w e = record { within = w; holds = not_empty_holds files tree e }

good_leaf : (files : List File) (v : Option model.SetTree) → IsThere v → IfSome v (IsGoodSet files) → IsGood files (leaf_of v)
good_leaf files None t g = let e = t.1 in absurd cc
good_leaf files (Some tree) t g = g

good_character : (files : List File) (c : ℕ) → IsCharacter c → IsGoodSet files (model.Character c)
good_character files c is =
    record { within = is.0; holds = character_held files (model.Character c) c is.0 is.1 (in_set_takes files (model.Character c) c refl) }

good_any : (files : List File) → IsGoodSet files (model.Others model.Nothing)
good_any files =
    record {
      within = tt;
      holds = character_held files (model.Others model.Nothing) 97 (omega arith) (λ s. omega (arith, s.0))
          (in_set_takes files (model.Others model.Nothing) 97 (omega arith, λ n. n));
    }

good_word : (files : List File) (word : List ℕ) → AllByRecursion IsCharacter word → IsGood files (word_of word)
good_word files [] c = tt
good_word files (d ∷ []) c = good_character files d c.0
good_word files (d ∷ e ∷ word) c = (good_character files d c.0, good_word files (e ∷ word) c.1)

good_repeated : (files : List File) (q : Quant) (m : Meaning) → IsGood files m → IsGood files (repeated q m)
good_repeated files quant.Once m g = g
good_repeated files quant.Star m g = g
good_repeated files quant.Plus m g = g
good_repeated files quant.Quest m g = g

good_variable : (files : List File) (v : Option Variable) → IsSound v → IsGoodVariable files v → is_none v ≡ false → IsGood files (meaning_of_variable v)
good_variable files None sound g e = absurd cc
good_variable files (Some (Set None)) sound g e = absurd sound
good_variable files (Some (Set (Some tree))) sound g e = g
good_variable files (Some (Expression meaning height)) sound g e = g

good_property : (k : Context) (place : ℕ) (negated : Bool) (word : List ℕ) (value : Option (List ℕ)) →
    IsFaultless k (Outside place (property negated word value)) → IfSome (value_of_property k.files negated word value) (IsGoodSet k.files)
good_property k place negated word value f =
    good_value k.files (value_of_property k.files negated word value) (known_there k.files negated word value f.known)
    (within_property k.files negated word value) f.filled

good_set : (k : Context) → AreSound k → AreGood k → (place : ℕ) (s : SetSyntax) → IsSetOfCharacters s → faults_of_parts k (parts_of_set s) ≡ [] →
    IsFaultless k (Outside place (trees.set s)) → IfSome (value_of_set k.files (value_of_name k) s) (IsGoodSet k.files)
good_set k sound good place s c e f = good_value k.files (value_of_set k.files (value_of_name k) s) (set_there k sound s e) (within_set k good s c) f.filled

mutual
  pub good_expr : (k : Context) → AreSound k → AreGood k → (x : ExprTree) → IsOfCharacters x → faults_of_parts k (parts_of_expr x) ≡ [] →
      IsGood k.files (meaning_of_expr k x)
  good_expr k sound good no_alternatives c e = tt
  good_expr k sound good (alternative first no_alternatives) c e = good_seq k sound good first c.0 (faultless_first k (parts_of_seq first) [] e)
  good_expr k sound good (alternative first (alternative second more)) c e = (
    good_seq k sound good first c.0 (faultless_first k (parts_of_seq first) (parts_of_expr (alternative second more)) e),
    good_expr k sound good
        (alternative second more) c.1 (faultless_second k (parts_of_seq first) (parts_of_expr (alternative second more)) e),
  )

  good_seq : (k : Context) → AreSound k → AreGood k → (x : SeqTree) → IsSeqOfCharacters x → faults_of_parts k (parts_of_seq x) ≡ [] →
      IsGood k.files (meaning_of_seq k x)
  good_seq k sound good no_items c e = tt
  good_seq k sound good (item first no_items) c e = good_item k sound good first c.0 (faultless_first k (parts_of_item first) [] e)
  good_seq k sound good (item first (item second more)) c e = (
    good_item k sound good first c.0 (faultless_first k (parts_of_item first) (parts_of_seq (item second more)) e),
    good_seq k sound good
        (item second more) c.1 (faultless_second k (parts_of_item first) (parts_of_seq (item second more)) e),
  )

  good_item : (k : Context) → AreSound k → AreGood k → (x : ItemTree) → IsItemOfCharacters x → faults_of_parts k (parts_of_item x) ≡ [] →
      IsGood k.files (meaning_of_item k x)
  good_item k sound good (placed place atom quant) c e =
      good_repeated k.files quant (meaning_of_atom k atom)
      (good_atom k sound good place atom c (faultless_first k (parts_in_atom atom) (Outside place atom ∷ []) e)
      (faultless_part k (Outside place atom) (faultless_second k (parts_in_atom atom) (Outside place atom ∷ []) e)))

  good_atom : (k : Context) → AreSound k → AreGood k → (place : ℕ) (x : AtomTree) → IsAtomOfCharacters x → faults_of_parts k (parts_in_atom x) ≡ [] →
      IsFaultless k (Outside place x) → IsGood k.files (meaning_of_atom k x)
  good_atom k sound good place (character d bare) c e f = good_character k.files d c
  good_atom k sound good place (quoted word) c e f = good_word k.files word c
  good_atom k sound good place any c e f = good_any k.files
  good_atom k sound good place (name word) c e f =
      good_variable k.files (variable_of k word) (sound.each (encode_utf8_all word)) (good.each (encode_utf8_all word)) f.defined
  good_atom k sound good place (property negated word value) c e f =
      good_leaf k.files (value_of_property k.files negated word value) (known_there k.files negated word value f.known)
      (good_property k place negated word value f)
  good_atom k sound good place (trees.set s) c e f =
      good_leaf k.files (value_of_set k.files (value_of_name k) s) (set_there k sound s e) (good_set k sound good place s c e f)
  good_atom k sound good place (group inner) c e f = good_expr k sound good inner c e

abbrev IsGoodOption : List File → Option (Option model.SetTree) → Type 0
IsGoodOption files None = Unit {0}
IsGoodOption files (Some v) = IfSome v (IsGoodSet files)

option_of_variable : (files : List File) (v : Option Variable) → IsGoodVariable files v → IsGoodOption files (set_of_variable v)
option_of_variable files None g = tt
option_of_variable files (Some (Set None)) g = tt
option_of_variable files (Some (Set (Some tree))) g = g
option_of_variable files (Some (Expression meaning height)) g = tt

option_of_atom : (k : Context) → AreSound k → AreGood k → (place : ℕ) (x : AtomTree) → IsAtomOfCharacters x → faults_of_parts k (parts_in_atom x) ≡ [] →
    IsFaultless k (Outside place x) → IsGoodOption k.files (set_of_atom k x)
option_of_atom k sound good place (character d bare) c e f = tt
option_of_atom k sound good place (quoted word) c e f = tt
option_of_atom k sound good place any c e f = tt
option_of_atom k sound good place (name word) c e f = option_of_variable k.files (variable_of k word) (good.each (encode_utf8_all word))
option_of_atom k sound good place (property negated word value) c e f = good_property k place negated word value f
option_of_atom k sound good place (trees.set s) c e f = good_set k sound good place s c e f
option_of_atom k sound good place (group inner) c e f = tt

option_of_item : (k : Context) → AreSound k → AreGood k → (x : ItemTree) → IsItemOfCharacters x → faults_of_parts k (parts_of_item x) ≡ [] →
    IsGoodOption k.files (set_of_item k x)
option_of_item k sound good (placed place atom quant.Once) c e =
    option_of_atom k sound good place atom c (faultless_first k (parts_in_atom atom) (Outside place atom ∷ []) e)
    (faultless_part k (Outside place atom) (faultless_second k (parts_in_atom atom) (Outside place atom ∷ []) e))
option_of_item k sound good (placed place atom quant.Star) c e = tt
option_of_item k sound good (placed place atom quant.Plus) c e = tt
option_of_item k sound good (placed place atom quant.Quest) c e = tt

option_of_expr : (k : Context) → AreSound k → AreGood k → (x : ExprTree) → IsOfCharacters x → faults_of_parts k (parts_of_expr x) ≡ [] →
    IsGoodOption k.files (set_of_expr k x)
option_of_expr k sound good no_alternatives c e = tt
option_of_expr k sound good (alternative no_items more) c e = tt
option_of_expr k sound good (alternative (item first (item second rest)) more) c e = tt
option_of_expr k sound good (alternative (item first no_items) (alternative second more)) c e = tt
option_of_expr k sound good (alternative (item first no_items) no_alternatives) c e =
    option_of_item k sound good first c.0.0 (faultless_first k (parts_of_item first) [] (faultless_first k (parts_of_item first ++ []) [] e))

good_with : (files : List File) (o : Option (Option model.SetTree)) (m : Meaning) (h : ℕ) → IsGoodOption files o → IsGood files m →
    IsGoodVariable files (Some (variable_with o m h))
good_with files None m h g own = own
good_with files (Some None) m h g own = tt
good_with files (Some (Some tree)) m h g own = g

good_joined : (k : Context) (a : Assigned) (word : List ℕ) → AreGood k → IsGoodVariable k.files (Some a.variable) →
    (b : Bool) → IsGoodVariable k.files (if b then Some a.variable else assigned_to k.variables word)
good_joined k a word good own true = own
good_joined k a word good own false = good.each word

good_assigned : (k : Context) (a : Assigned) → AreGood k → IsGoodVariable k.files (Some a.variable) →
    (b : Bool) → AreGood (if b then k else record k { variables = a ∷ k.variables })
good_assigned k a good own true = good
good_assigned k a good own false = record { each = λ word. good_joined k a word good own (bytes_eq a.name word) }

good_control : (k : Context) (a b c d : Bool) → AreGood k →
    AreGood (if a then record k {
      chained =
          true;
    } else (if b then record k { quoted_only = true } else (if c then record k { active = true } else (if d then record k { active = false } else k))))
good_control k true b c d g = record { each = g.each }
good_control k false true c d g = record { each = g.each }
good_control k false false true d g = record { each = g.each }
good_control k false false false true g = record { each = g.each }
good_control k false false false false g = g

pub good_after : (ignored : Bool) (k : Context) (s : StatementTree) → AreSound k → AreGood k → IsStatementOfCharacters s →
    faults_of_statement ignored k s ≡ [] → AreGood (context_after k s)
good_after ignored k nothing sound good c e = good
good_after ignored k (control word place) sound good c e =
    let text = encode_utf8_all word in
    good_control k (bytes_eq text (codes "chain")) (bytes_eq text (codes "quoted_literals_only")) (bytes_eq text (codes "forward")) (ends_active text) good
good_after ignored k (assign word place x) sound good c e =
    let own = assigned_faultless ignored k word place x e in
    good_assigned k (record { name = encode_utf8_all word; variable = variable_for k x }) good
    (good_with k.files (set_of_expr k x) (meaning_of_expr k x) (height_of_expr k x) (option_of_expr k sound good x c own) (good_expr k sound good x c own))
    (is_some (variable_of k word))
good_after ignored k (rule place no_chain_in front slash rest tag) sound good c e = good
