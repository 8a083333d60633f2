use Rattle.std.proofs.Common.{◌≡◌, ◌+◌, ◌*◌, ◌<◌, ◌≤◌, [], ◌∷◌, map, drop, length, slice_index, sym, ap, ◌∙◌, subst, arith, rules}
use Rattle.std.proofs.lemmas.Grind.{get_or_default_zero}
use Rattle.std.proofs.lemmas.List.{append-nil, drop_more, drop_all, length-map, length-append}
use Rattle.rbbi_tree.specs.Trees.{ExprTree, expr_of, seq_of, name, quoted, group}
use Rattle.rbbi_tree.specs.Values.{statement_trees, expr_tree, seq_tree, item_tree, atom_tree, item_tree_out}
use Rattle.rbbi_resolve.specs.declared.rules.Tree.{Tree}
use Rattle.rbbi_resolve.specs.Expressions.{meaning_of_expr, meaning_of_seq, meaning_of_item, meaning_of_atom, meaning_of_variable, set_of_expr}
use Rattle.rbbi_resolve.specs.Expressions.{height_of_expr, height_of_seq, height_of_item, height_of_atom, height_of_variable}
use Rattle.rbbi_resolve.specs.inner.Files.{context_at}
use Rattle.rbbi_resolve.specs.inner.Contexts.{IsAssigned, context_of, files_of, division_of, bounds_of}
use Rattle.rbbi_resolve.specs.inner.OwnLeaves.{leaves_of_expr, leaves_of_seq, leaves_of_item, leaves_of_atom}
use Rattle.rbbi_resolve.specs.inner.Builders.{IsSetRow, StandFrom, AddsTree}
use Rattle.rbbi_resolve.proofs.Heights.{low_seq, low_item, low_atom, assigned_height, assigned_height_is}
use Rattle.rbbi_resolve.proofs.Counting.{expr_by_items, seq_by_items, exprs_left, seqs_left}
use Rattle.rbbi_resolve.proofs.ItemTrees.{atom_of_quoted, atom_of_name, atom_of_group}
use Rattle.rbbi_resolve.proofs.Building.{AreBuilding, stand_parts, never_added, repeated_added, choice_added, sequence_added, building_start, building_turn}
use Rattle.rbbi_resolve.proofs.Meant.{named, set_named, expression_named, unnamed, expr_means, seq_means, ready_before}
use Rattle.rbbi_resolve.proofs.LeafAtoms.{leaf_atom}
use Rattle.rbbi_resolve.proofs.build.Builder.+build.Goals as goal

pub add_definition-add_expr-requires : goal.add_definition-add_expr-requires
add_definition-add_expr-requires t c =
    let context = c.args.context.now in
    let T = statement_trees context.statements.now in
    let e = expr_tree c.in-Some.expr.now in
    let at = c.in-Some.ensures.some.at in
    let k = context_of context in
    let same = assigned_height_is (files_of context) T context.limit e c.in-Some.ensures.some in
    let smaller : 5 * height_of_expr k e + 3 < 5 * assigned_height (files_of context) T context.limit + 4 = omega arith in
    let low = c.requires.low e c.in-Some.ensures.some in
    let ready = c.requires.ready in
    let builder = c.requires.builder in
    let firsts = c.args.leaves.now.firsts.now.items in
    let first : c.index.result.now ≡ slice_index firsts context.limit =
    c.index.ensures ∙ get_or_default_zero firsts context.limit c.index.result.now (omega (arith, ready.long, c.requires.inside)) in
    let stand = subst (λ n. StandFrom context c.args.leaves.now n (leaves_of_expr (context_of context) e)) (sym first) (ready.stand context.limit _ at) in
    search rules

pub add_definition-returns-in_ok-add_expr-in-Some-clause-added : goal.add_definition-returns-in_ok-add_expr-in-Some-clause-added
add_definition-returns-in_ok-add_expr-in-Some-clause-added t c = λ expr is.
    let context = c.args.context.now in
    let at = c.in-Some.ensures.some.at in
    let other = is.at in
    let eq : expr_tree c.in-Some.expr.now ≡ expr = cc in
    subst (λ x. AddsTree context c.args.self.now c.add_expr.new.self (meaning_of_expr (context_of context) x) c.args.trees.now.items
    c.add_expr.new.trees.items) eq c.in_ok-add_expr-in-Some.ensures.added

pub add_definition-returns-in-None-clause-added : goal.add_definition-returns-in-None-clause-added
add_definition-returns-in-None-clause-added t c = λ expr is. absurd (c.in-None.ensures.none expr is)

pub add_expr-loop-seq-init : goal.add_expr-loop-seq-init
add_expr-loop-seq-init t c =
    let context = c.args.context.now in
    let tree = expr_by_items c.args.expr.now _ c.deref-seq-items.ensures.value in
    building_start context c.args.leaves.now c.args.self.now c.args.next.now _ _ _ c.requires.builder
    (subst (λ x. StandFrom context c.args.leaves.now c.args.next.now (leaves_of_expr (context_of context) x)) tree c.requires.stand)

pub add_expr-add_seq-requires : goal.add_expr-add_seq-requires
add_expr-add_seq-requires t c =
    let context = c.args.context.now in
    let k = context_of context in
    let l = c.loop-seq in
    let xs = c.deref-seq-items.result.now in
    let p = c.seq-item.result in
    let inside : l.seq-index < length xs = omega arith in
    let part = low_seq k xs l.seq-index p inside c.seq-item.is in
    let whole = ap (height_of_expr k) (expr_by_items c.args.expr.now _ c.deref-seq-items.ensures.value) in
    let smaller : 5 * height_of_seq k (seq_tree p) + 2 < 5 * height_of_expr k (expr_tree c.args.expr.now) + 3 = omega arith in
    let low : height_of_seq k (seq_tree p) ≤ 256 = omega (arith, c.requires.low) in
    let builder = l.invariant.goes.builder in
    let ready = c.requires.ready in
    let stand = (stand_parts (IsSetRow (files_of context) (division_of context)) c.args.leaves.now.rows.now.items l.next (leaves_of_seq k (seq_tree p))
    (leaves_of_expr k (expr_of (map seq_tree (drop (l.seq-index + 1) xs))))
    (subst (λ x. StandFrom context c.args.leaves.now l.next (leaves_of_expr k x)) (exprs_left xs l.seq-index p inside c.seq-item.is) l.invariant.stand)).0 in
    search rules

pub add_expr-loop-seq-preserved : goal.add_expr-loop-seq-preserved
add_expr-loop-seq-preserved t c =
    let context = c.args.context.now in
    let k = context_of context in
    let l = c.loop-seq in
    let xs = c.deref-seq-items.result.now in
    let p = c.seq-item.result in
    let ds : drop l.seq-index xs ≡ p ∷ drop (l.seq-index + 1) xs = drop_more xs l.seq-index p (omega arith)
    ∙ ap (λ q. q ∷ drop (l.seq-index + 1) xs) (sym c.seq-item.is) in
    let here = subst (λ ys. AreBuilding context c.args.leaves.now c.args.self.now c.args.next.now (map (meaning_of_seq k) (map seq_tree xs))
    (leaves_of_expr k (expr_of (map seq_tree xs))) c.args.trees.now.items l.self l.next l.trees.items (map (meaning_of_seq k) (map seq_tree ys))
    (leaves_of_expr k (expr_of (map seq_tree ys)))) ds l.invariant in
    building_turn context c.args.leaves.now _ _ _ _ _ _ _ _ _ _ _ (meaning_of_seq k (seq_tree p)) _ (leaves_of_seq k (seq_tree p)) _ here
    c.in_ok-add_seq.ensures.on c.in_ok-add_seq.ensures.moved c.in_ok-add_seq.ensures.added

pub add_expr-returns-clause-moved : goal.add_expr-returns-clause-moved
add_expr-returns-clause-moved t c =
    let k = context_of c.args.context.now in
    let none = drop_all c.loop-seq.seq-index c.deref-seq-items.result.now (omega arith) in
    omega (
      arith,
      c.loop-seq.invariant.moved,
      ap (λ ys. length (leaves_of_expr k (expr_of (map seq_tree ys)))) none,
      ap (λ x. length (leaves_of_expr k x)) (expr_by_items c.args.expr.now _ c.deref-seq-items.ensures.value),
    )

pub add_expr-returns-clause-added : goal.add_expr-returns-clause-added
add_expr-returns-clause-added t c =
    let context = c.args.context.now in
    let k = context_of context in
    let l = c.loop-seq in
    let xs = c.deref-seq-items.result.now in
    let none = ap (λ ys. map (meaning_of_seq k) (map seq_tree ys)) (drop_all l.seq-index xs (omega arith)) in
    let eq = sym (expr_means k (map seq_tree xs)) ∙ ap (meaning_of_expr k) (sym (expr_by_items c.args.expr.now _ c.deref-seq-items.ensures.value)) in
    subst (λ m. AddsTree context c.args.self.now l.self m c.args.trees.now.items c.in_choice.new.trees.items) eq
    (choice_added context c.args.leaves.now _ _ _ _ _ _ _ _ _ _ _ c.len-first.result l.invariant none (omega arith) c.in_ok-in_choice.ensures)

pub add_seq-loop-item-init : goal.add_seq-loop-item-init
add_seq-loop-item-init t c =
    let context = c.args.context.now in
    let tree = seq_by_items c.args.seq.now _ c.deref-item-items.ensures.value in
    building_start context c.args.leaves.now c.args.self.now c.args.next.now _ _ _ c.requires.builder
    (subst (λ x. StandFrom context c.args.leaves.now c.args.next.now (leaves_of_seq (context_of context) x)) tree c.requires.stand)

pub add_seq-add_item-requires : goal.add_seq-add_item-requires
add_seq-add_item-requires t c =
    let context = c.args.context.now in
    let k = context_of context in
    let l = c.loop-item in
    let xs = c.deref-item-items.result.now in
    let p = c.item-item.result in
    let inside : l.item-index < length xs = omega arith in
    let part = low_item k xs l.item-index p inside c.item-item.is in
    let whole = ap (height_of_seq k) (seq_by_items c.args.seq.now _ c.deref-item-items.ensures.value) in
    let smaller : 5 * height_of_item k (item_tree p) + 1 < 5 * height_of_seq k (seq_tree c.args.seq.now) + 2 = omega arith in
    let low : height_of_item k (item_tree p) ≤ 256 = omega (arith, c.requires.low) in
    let builder = l.invariant.goes.builder in
    let ready = c.requires.ready in
    let stand = (stand_parts (IsSetRow (files_of context) (division_of context)) c.args.leaves.now.rows.now.items l.next (leaves_of_item k (item_tree p))
    (leaves_of_seq k (seq_of (map item_tree (drop (l.item-index + 1) xs))))
    (subst (λ x. StandFrom context c.args.leaves.now l.next (leaves_of_seq k x)) (seqs_left xs l.item-index p inside c.item-item.is) l.invariant.stand)).0 in
    search rules

pub add_seq-loop-item-preserved : goal.add_seq-loop-item-preserved
add_seq-loop-item-preserved t c =
    let context = c.args.context.now in
    let k = context_of context in
    let l = c.loop-item in
    let xs = c.deref-item-items.result.now in
    let p = c.item-item.result in
    let ds : drop l.item-index xs ≡ p ∷ drop (l.item-index + 1) xs = drop_more xs l.item-index p (omega arith)
    ∙ ap (λ q. q ∷ drop (l.item-index + 1) xs) (sym c.item-item.is) in
    let here = subst (λ ys. AreBuilding context c.args.leaves.now c.args.self.now c.args.next.now (map (meaning_of_item k) (map item_tree xs))
    (leaves_of_seq k (seq_of (map item_tree xs))) c.args.trees.now.items l.self l.next l.trees.items (map (meaning_of_item k) (map item_tree ys))
    (leaves_of_seq k (seq_of (map item_tree ys)))) ds l.invariant in
    building_turn context c.args.leaves.now _ _ _ _ _ _ _ _ _ _ _ (meaning_of_item k (item_tree p)) _ (leaves_of_item k (item_tree p)) _ here
    c.in_ok-add_item.ensures.on c.in_ok-add_item.ensures.moved c.in_ok-add_item.ensures.added

pub add_seq-returns-clause-moved : goal.add_seq-returns-clause-moved
add_seq-returns-clause-moved t c =
    let k = context_of c.args.context.now in
    let none = drop_all c.loop-item.item-index c.deref-item-items.result.now (omega arith) in
    omega (
      arith,
      c.loop-item.invariant.moved,
      ap (λ ys. length (leaves_of_seq k (seq_of (map item_tree ys)))) none,
      ap (λ x. length (leaves_of_seq k x)) (seq_by_items c.args.seq.now _ c.deref-item-items.ensures.value),
    )

pub add_seq-returns-clause-added : goal.add_seq-returns-clause-added
add_seq-returns-clause-added t c =
    let context = c.args.context.now in
    let k = context_of context in
    let l = c.loop-item in
    let xs = c.deref-item-items.result.now in
    let none = ap (λ ys. map (meaning_of_item k) (map item_tree ys)) (drop_all l.item-index xs (omega arith)) in
    let eq = sym (seq_means k (map item_tree xs)) ∙ ap (meaning_of_seq k) (sym (seq_by_items c.args.seq.now _ c.deref-item-items.ensures.value)) in
    subst (λ m. AddsTree context c.args.self.now l.self m c.args.trees.now.items c.in_sequence.new.trees.items) eq
    (sequence_added context c.args.leaves.now _ _ _ _ _ _ _ _ _ _ _ c.len-first.result l.invariant none (omega arith) c.in_ok-in_sequence.ensures)

pub add_item-repeat_last-requires : goal.add_item-repeat_last-requires
add_item-repeat_last-requires t c =
    let a = c.in_ok-add_atom.ensures.added in
    omega (arith, ap length a.is, length-append {A = Tree}, c.add_atom.new.trees.ok.0)

pub add_item-returns-clause-added : goal.add_item-returns-clause-added
add_item-returns-clause-added t c =
    let context = c.args.context.now in
    let k = context_of context in
    let i = c.args.item.now in
    subst (λ x. AddsTree context c.args.self.now c.add_atom.new.self (meaning_of_item k x) c.args.trees.now.items c.repeat_last.new.trees.items)
    (sym (item_tree_out i))
    (repeated_added context c.args.self.now c.add_atom.new.self i.quant (meaning_of_atom k (atom_tree i.atom)) _ _ _ c.in_ok-add_atom.ensures.added
    c.in_ok-repeat_last.ensures)

pub add_item-add_atom-requires : goal.add_item-add_atom-requires
add_item-add_atom-requires t c =
    let context = c.args.context.now in
    let k = context_of context in
    let i = c.args.item.now in
    let part = low_atom k i in
    let smaller : 5 * height_of_atom k (atom_tree i.atom) < 5 * height_of_item k (item_tree i) + 1 = omega arith in
    let low : height_of_atom k (atom_tree i.atom) ≤ 256 = omega (arith, c.requires.low) in
    let builder = c.requires.builder in
    let ready = c.requires.ready in
    let stand = subst (λ x. StandFrom context c.args.leaves.now c.args.next.now (leaves_of_item k x)) (item_tree_out i) c.requires.stand in
    search rules

pub add_atom-add_expr-requires : goal.add_atom-add_expr-requires
add_atom-add_expr-requires t c =
    let context = c.args.context.now in
    let k = context_of context in
    let inner = expr_tree c.in-Group.inner in
    let e : atom_tree c.args.atom.now ≡ group inner = let i = c.in-Group.is in ap atom_tree i ∙ atom_of_group c.in-Group.inner in
    let higher : height_of_atom k (atom_tree c.args.atom.now) ≡ height_of_expr k inner + 1 = ap (height_of_atom k) e in
    let smaller : 5 * height_of_expr k inner + 3 < 5 * height_of_atom k (atom_tree c.args.atom.now) = omega arith in
    let low : height_of_expr k inner ≤ 256 = omega (arith, c.requires.low) in
    let builder = c.requires.builder in
    let ready = c.requires.ready in
    let stand = subst (λ x. StandFrom context c.args.leaves.now c.args.next.now (leaves_of_atom k x)) e c.requires.stand in
    search rules

pub add_atom-add_definition-requires : goal.add_atom-add_definition-requires
add_atom-add_definition-requires t c =
    let context = c.args.context.now in
    let T = statement_trees context.statements.now in
    let v = c.in-Some.variable.now in
    let r = c.requires.ready in
    let n = named context c.args.leaves.now c.in-Name.name v r c.in-Some.ensures in
    let files = files_of context in
    let k = context_of context in
    let inner = context_at files T v.statement in
    let below = n.low in
    let own = assigned_height_is files T v.statement n.expr n.assigned in
    let e : atom_tree c.args.atom.now ≡ name c.in-Name.name = let i = c.in-Name.is in ap atom_tree i ∙ atom_of_name c.in-Name.name in
    let higher : height_of_atom k (atom_tree c.args.atom.now) ≡ height_of_expr inner n.expr + 1 = ap (height_of_atom k) e ∙ ap height_of_variable n.found
    ∙ expression_named files (bounds_of context) T v.kind c.in-Expression.field-0 (set_of_expr inner n.expr) _ _ c.in-Expression.is n.kind in
    let smaller : 5 * assigned_height files T v.statement + 4 < 5 * height_of_atom k (atom_tree c.args.atom.now) = omega arith in
    let low : (expr : ExprTree) → IsAssigned T v.statement expr → height_of_expr inner expr ≤ 256 =
    λ expr is. omega (arith, assigned_height_is files T v.statement expr is, c.requires.low) in
    let ready = ready_before context c.args.leaves.now v.statement (omega arith) r in
    let builder = c.requires.builder in
    let inside : v.statement < length context.statements.now = n.inside in
    search rules

pub add_atom-add_leaf-requires-clause-stand : goal.add_atom-add_leaf-requires-clause-stand
add_atom-add_leaf-requires-clause-stand t c =
    let l = leaf_atom (context_of c.args.context.now) c.args.atom.now c.in-Char.is in
    (l.0, subst (StandFrom c.args.context.now c.args.leaves.now c.args.next.now) l.1 c.requires.stand)

pub add_atom-returns-in_ok-add_leaf-in-Char-clause-added : goal.add_atom-returns-in_ok-add_leaf-in-Char-clause-added
add_atom-returns-in_ok-add_leaf-in-Char-clause-added t c =
    let context = c.args.context.now in
    let l = leaf_atom (context_of context) c.args.atom.now c.in-Char.is in
    subst (λ m. AddsTree context c.args.self.now c.add_leaf.new.self m c.args.trees.now.items c.add_leaf.new.trees.items) (sym l.2)
    (c.in_ok-add_leaf-in-Char.ensures.added l.0 (subst (StandFrom context c.args.leaves.now c.args.next.now) l.1 c.requires.stand))

pub add_atom-returns-in_ok-add_word-in-Quoted-clause-moved : goal.add_atom-returns-in_ok-add_word-in-Quoted-clause-moved
add_atom-returns-in_ok-add_word-in-Quoted-clause-moved t c =
    let k = context_of c.args.context.now in
    let e : atom_tree c.args.atom.now ≡ quoted c.in-Quoted.word = let i = c.in-Quoted.is in ap atom_tree i ∙ atom_of_quoted c.in-Quoted.word in
    let long : length (leaves_of_atom k (quoted c.in-Quoted.word)) ≡ length c.in-Quoted.word = simp length-map in
    c.in_ok-add_word-in-Quoted.ensures.moved ∙ ap (λ n. c.args.next.now + n) (sym long) ∙ ap (λ a. c.args.next.now + length (leaves_of_atom k a)) (sym e)

pub add_atom-returns-in_ok-add_definition-in-Expression-clause-added : goal.add_atom-returns-in_ok-add_definition-in-Expression-clause-added
add_atom-returns-in_ok-add_definition-in-Expression-clause-added t c =
    let context = c.args.context.now in
    let n = named context c.args.leaves.now c.in-Name.name c.in-Some.variable.now c.requires.ready c.in-Some.ensures in
    let e : atom_tree c.args.atom.now ≡ name c.in-Name.name = let i = c.in-Name.is in ap atom_tree i ∙ atom_of_name c.in-Name.name in
    let own = c.in_ok-add_definition-in-Expression.ensures.added n.expr n.assigned in
    subst (λ m. AddsTree context c.args.self.now c.add_definition.new.self m c.args.trees.now.items c.add_definition.new.trees.items)
    (sym (ap (meaning_of_atom (context_of context)) e ∙ n.means)) (record { tree = own.tree; is = own.is; built = own.built })

pub add_atom-add_set-requires-clause-written : goal.add_atom-add_set-requires-clause-written
add_atom-add_set-requires-clause-written t c =
    let context = c.args.context.now in
    let v = c.in-Some.variable.now in
    let n = named context c.args.leaves.now c.in-Name.name v c.requires.ready c.in-Some.ensures in
    let s = set_named (files_of context) (bounds_of context) (statement_trees context.statements.now) v.kind _ _ _ c.in-Set.is n.kind in
    (s.value, s.written)

pub add_atom-returns-in_ok-add_set-in-Set-clause-added : goal.add_atom-returns-in_ok-add_set-in-Set-clause-added
add_atom-returns-in_ok-add_set-in-Set-clause-added t c =
    let context = c.args.context.now in
    let v = c.in-Some.variable.now in
    let n = named context c.args.leaves.now c.in-Name.name v c.requires.ready c.in-Some.ensures in
    let s = set_named (files_of context) (bounds_of context) (statement_trees context.statements.now) v.kind _ _ _ c.in-Set.is n.kind in
    let e : atom_tree c.args.atom.now ≡ name c.in-Name.name = let i = c.in-Name.is in ap atom_tree i ∙ atom_of_name c.in-Name.name in
    let own = c.in_ok-add_set-in-Set.ensures.added s.value s.written in
    subst (λ m. AddsTree context c.args.self.now c.add_set.new.self m c.args.trees.now.items c.add_set.new.trees.items)
    (sym (ap (meaning_of_atom (context_of context)) e ∙ ap meaning_of_variable n.found ∙ s.means)) (record { tree = own.tree; is = own.is; built = own.built })

pub add_atom-returns-in_ok-in_choice-in-None-clause-added : goal.add_atom-returns-in_ok-in_choice-in-None-clause-added
add_atom-returns-in_ok-in_choice-in-None-clause-added t c =
    let context = c.args.context.now in
    let never = unnamed context c.args.leaves.now c.in-Name.name c.requires.ready c.in-None.ensures in
    let e : atom_tree c.args.atom.now ≡ name c.in-Name.name = let i = c.in-Name.is in ap atom_tree i ∙ atom_of_name c.in-Name.name in
    let old = c.args.trees.now.items in
    subst (λ m. AddsTree context c.args.self.now c.args.self.now m old c.in_choice.new.trees.items)
    (sym (ap (meaning_of_atom (context_of context)) e ∙ never))
    (never_added context c.args.self.now _ _
    (c.in_ok-in_choice-in-None.ensures old [] (omega (arith, c.args.trees.now.ok.0, c.len-first.ensures)) (sym (append-nil old))))
