-- The parts of a set, as the code has them.
use Rattle.std.proofs.Common.{◌≡◌, ℕ, ◌+◌, ◌<◌, List, ◌∷◌, map, length, drop, get_or, sym, ap, ◌∙◌}
use Rattle.std.proofs.lemmas.List.{drop_more}
use Rattle.rbbi_tree.specs.Trees.{set_of, parts_of}
use Rattle.rbbi_tree.specs.Values.{set_tree, part_tree, set_tree_out, parts_tree_out}
use Rattle.rbbi_tree.specs.declared.syntax.SetExpr.{SetExpr}
use Rattle.rbbi_tree.specs.declared.syntax.SetPart.{SetPart}
use Rattle.rbbi_tree.specs.declared.syntax.SetItem.TheViews.{out-SetExpr, out-Parts}

-- the parts of a set
abbrev pub parts_in : SetExpr → List SetPart
parts_in s = (out-Parts (out-SetExpr s).parts).items.items

pub set_is : (s : SetExpr) → set_tree s ≡ set_of (out-SetExpr s).place (out-SetExpr s).negated (parts_of (map part_tree (parts_in s)))
set_is s = set_tree_out s ∙ ap (set_of (out-SetExpr s).place (out-SetExpr s).negated) (parts_tree_out (out-SetExpr s).parts)

pub parts_left : (items : List SetPart) (i : ℕ) (p : SetPart) → i < length items → p ≡ get_or items i p → parts_of (map part_tree (drop i items)) ≡ parts_of
    (part_tree p ∷ map part_tree (drop (i + 1) items))
parts_left items i p inside is = ap (λ ps. parts_of (map part_tree ps)) (drop_more items i p inside ∙ ap (λ q. q ∷ drop (i + 1) items) (sym is))
