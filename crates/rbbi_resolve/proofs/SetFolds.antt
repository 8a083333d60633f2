-- The value of a set, one part after another.
use Rattle.std.proofs.Common.{◌≡◌, ℕ, ◌+◌, ◌<◌, ◌≤◌, Option, Some, option_map, List, map, length}
use Rattle.std.proofs.Common.{drop, get_or, sym, refl, ap, ◌∙◌, subst}
use Rattle.std.proofs.lemmas.List.{drop_all}
use Rattle.rbbi_model.specs.SetTrees as model
use Rattle.rbbi_classes.specs.Classes.{ClassBits, HasMember}
use Rattle.rbbi_props.specs.Rows.{File}
use Rattle.rbbi_tree.specs.Trees.{PartsTree, no_parts, part, joined, parts_of}
use Rattle.rbbi_tree.specs.Values.{set_tree, part_tree, set_item_tree, part_tree_out}
use Rattle.rbbi_tree.specs.declared.syntax.Join.{Join}
use Rattle.rbbi_tree.specs.declared.syntax.SetExpr.{SetExpr}
use Rattle.rbbi_tree.specs.declared.syntax.SetPart.{SetPart}
use Rattle.rbbi_tree.specs.declared.syntax.SetItem.TheViews.{out-SetExpr, out-SetPart}
use Rattle.rbbi_resolve.specs.declared.fault.Fault.{Fault}
use Rattle.rbbi_resolve.specs.Contexts.{Context, value_of_name}
use Rattle.rbbi_resolve.specs.SetValues.{joined_to, signed, value_of_set, value_of_parts, value_of_item}
use Rattle.rbbi_resolve.specs.inner.ClassValues.{IsClassValue}
use Rattle.rbbi_resolve.specs.Parts.{parts_of_set, parts_of_part, parts_of_parts}
use Rattle.rbbi_resolve.specs.inner.Faults.{noted_parts}
use Rattle.rbbi_resolve.proofs.Noting.{noted_parts_of_append}
use Rattle.rbbi_resolve.proofs.SetLoops.{parts_in, parts_left, set_is}

-- The parts up to those that are left were joined, and their faults were noted.
pub record IsFolding (files : List File) (bounds : List ℕ) (context : Context) (before : Option Fault) (parts left : PartsTree) (value : Option ClassBits)
    (least : Option Fault) : Type 0 where
  pub so_far : Option model.SetTree
  pub value_so_far : IsClassValue files bounds so_far value
  pub whole : value_of_parts files (value_of_name context) so_far left ≡ value_of_parts files (value_of_name context) (Some model.Nothing) parts
  pub noted : noted_parts context least (parts_of_parts left) ≡ noted_parts context before (parts_of_parts parts)

-- what evaluating an item does
pub record EvaluatesItem (context : Context) (files : List File) (bounds : List ℕ) (p : SetPart) (item : Option ClassBits)
    (least least' : Option Fault) : Type 0 where
  pub value : IsClassValue files bounds (value_of_item files (value_of_name context) (set_item_tree (out-SetPart p).item)) item
  pub noted : (join : Join) → least' ≡ noted_parts context least (parts_of_part (joined (out-SetPart p).place join (set_item_tree (out-SetPart p).item)))

-- what joining it does
abbrev pub Joins : Join → (left item whole : Option ClassBits) → Type 0
Joins join left item whole = (files : List File) (bounds : List ℕ) (left_tree item_tree : Option model.SetTree) → IsClassValue files bounds left_tree left →
    IsClassValue files bounds item_tree item → IsClassValue files bounds (joined_to join item_tree left_tree) whole

pub folding_starts : (files : List File) (bounds : List ℕ) (context : Context) (least : Option Fault) (parts : PartsTree) (empty : ClassBits) →
    ((bounds : List ℕ) (c : ℕ) → ¬ HasMember bounds empty c) → IsFolding files bounds context least parts parts (Some empty) least
folding_starts files bounds context least parts empty none =
    record {
      so_far = Some model.Nothing;
      value_so_far = λ c first. (λ h. none bounds c h, λ n. absurd n);
      whole = refl;
      noted = refl;
    }

pub folding_turn : (k : Context) (files : List File) (bounds : List ℕ) (before : Option Fault) (parts : PartsTree)
    (value item value' : Option ClassBits) (least least' : Option Fault) (items : List SetPart) (i : ℕ) (p : SetPart) →
    i < length items → p ≡ get_or items i p → IsFolding files bounds k before parts (parts_of (map part_tree (drop i items))) value least →
    EvaluatesItem k files bounds p item least least' → Joins (out-SetPart p).join value item value' →
    IsFolding files bounds k before parts (parts_of (map part_tree (drop (i + 1) items))) value' least'
folding_turn k files bounds before parts value item value' least least' items i p inside is folding step joins =
    let join = (out-SetPart p).join in
    let tree = set_item_tree (out-SetPart p).item in
    let rest = parts_of (map part_tree (drop (i + 1) items)) in
    let more : parts_of (map part_tree (drop i items)) ≡ part (joined (out-SetPart p).place join tree) rest =
    parts_left items i p inside is ∙ ap (λ q. part q rest) (part_tree_out p) in
    let here : IsFolding files bounds k before parts (part (joined (out-SetPart p).place join tree) rest) value least =
    subst (λ left. IsFolding files bounds k before parts left value least) more folding in
    record {
      so_far = joined_to join (value_of_item files (value_of_name k) tree) here.so_far;
      value_so_far = joins files bounds here.so_far (value_of_item files (value_of_name k) tree) here.value_so_far step.value;
      whole = here.whole;
      noted =
          ap (λ l. noted_parts k l (parts_of_parts rest)) (step.noted join)
          ∙ sym (noted_parts_of_append k least (parts_of_part (joined (out-SetPart p).place join tree)) (parts_of_parts rest))
          ∙ here.noted;
    }

-- all parts were joined
folded : (files : List File) (bounds : List ℕ) (context : Context) (before : Option Fault) (s : SetExpr) (items : List SetPart) (i : ℕ)
    (value : Option ClassBits) (least : Option Fault) → items ≡ parts_in s → length items ≤ i →
    IsFolding files bounds context before (parts_of (map part_tree items)) (parts_of (map part_tree (drop i items))) value least →
    IsFolding files bounds context before (parts_of (map part_tree (parts_in s))) no_parts value least
folded files bounds context before s items i value least of all folding =
    subst (λ xs. IsFolding files bounds context before (parts_of (map part_tree xs)) no_parts value least) of
    (subst (λ xs. IsFolding files bounds context before (parts_of (map part_tree items)) (parts_of (map part_tree xs)) value least)
    (drop_all i items all) folding)

pub folding_gives : (files : List File) (bounds : List ℕ) (context : Context) (before : Option Fault) (s : SetExpr) (items : List SetPart) (i : ℕ)
    (value result : Option ClassBits) (least : Option Fault) → items ≡ parts_in s → length items ≤ i →
    IsFolding files bounds context before (parts_of (map part_tree items)) (parts_of (map part_tree (drop i items))) value least →
    ((tree : Option model.SetTree) → IsClassValue files bounds tree value →
    IsClassValue files bounds (option_map (signed (out-SetExpr s).negated) tree) result) →
    IsClassValue files bounds (value_of_set files (value_of_name context) (set_tree s)) result
    × (least ≡ noted_parts context before (parts_of_set (set_tree s)))
folding_gives files bounds context before s items i value result least of all folding signs =
    let e = folded files bounds context before s items i value least of all folding in
    let named = value_of_name context in (
      subst (λ t. IsClassValue files bounds (value_of_set files named t) result) (sym (set_is s))
          (subst (λ v. IsClassValue files bounds (option_map (signed (out-SetExpr s).negated) v) result) e.whole (signs e.so_far e.value_so_far)),
      e.noted ∙ ap (λ t. noted_parts context before (parts_of_set t)) (sym (set_is s)),
    )
