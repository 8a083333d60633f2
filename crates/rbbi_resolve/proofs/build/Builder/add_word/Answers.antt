use Rattle.std.proofs.Common.{◌≡◌, ◌+◌, ◌<◌, ℕ, List, Option, Some, ◌∷◌, [], map, drop, length, get_or, sym, ap, subst, arith}
use Rattle.std.proofs.lemmas.List.{drop_more, drop_all, length-map}
use Rattle.rbbi_model.specs.SetTrees as model
use Rattle.rbbi_resolve.specs.Meanings.{Meaning, Leaf}
use Rattle.rbbi_resolve.specs.inner.Contexts.{files_of, division_of}
use Rattle.rbbi_resolve.specs.inner.Builders.{IsSetRow, StandFrom, AddsTree}
use Rattle.rbbi_resolve.proofs.Building.{AreBuilding, stand_parts, sequence_added, building_start, building_turn}
use Rattle.rbbi_resolve.proofs.Meant.{word_means}
use Rattle.rbbi_resolve.proofs.build.Builder.add_word.Goals as goal

pub loop-init : goal.loop-init
loop-init c =
    building_start c.args.context.now c.args.leaves.now c.args.self.now c.args.next.now _ _ _ c.requires.builder c.requires.stand

pub add_leaf-requires-clause-builder : goal.add_leaf-requires-clause-builder
add_leaf-requires-clause-builder c = c.loop.invariant.goes.builder

-- the letters that are left begin with the next one
left : (word : List ℕ) (i : ℕ) → i < length word → drop i word ≡ get_or word i 0 ∷ drop (i + 1) word
left word i inside = drop_more word i 0 inside

pub add_leaf-requires-clause-stand : goal.add_leaf-requires-clause-stand
add_leaf-requires-clause-stand c =
    let context = c.args.context.now in
    let word = c.args.word.now in
    let i = c.loop.counter in
    let inside : i < length word = let test = c.loop-test.true in omega (arith, c.count_of-end.ensures) in
    let leaf : ℕ → Option model.SetTree = λ d. Some (model.Character d) in (
      leaf (get_or word i 0),
      (stand_parts (IsSetRow (files_of context) (division_of context)) c.args.leaves.now.rows.now.items c.loop.next (leaf (get_or word i 0) ∷ [])
          (map leaf (drop (i + 1) word))
          (subst (λ ds. StandFrom context c.args.leaves.now c.loop.next (map leaf ds)) (left word i inside) c.loop.invariant.stand)).0,
    )

pub loop-preserved : goal.loop-preserved
loop-preserved c =
    let context = c.args.context.now in
    let leaves = c.args.leaves.now in
    let word = c.args.word.now in
    let i = c.loop.counter in
    let inside : i < length word = let test = c.loop-test.true in omega (arith, c.count_of-end.ensures) in
    let d = get_or word i 0 in
    let means : ℕ → Meaning = λ e. Leaf (model.Character e) in
    let leaf : ℕ → Option model.SetTree = λ e. Some (model.Character e) in
    let here = subst (λ ds. AreBuilding context leaves c.args.self.now c.args.next.now (map means word) (map leaf word)
    c.args.trees.now.items c.loop.self c.loop.next c.loop.trees.items (map means ds) (map leaf ds)) (left word i inside) c.loop.invariant in
    let own = (stand_parts (IsSetRow (files_of context) (division_of context)) leaves.rows.now.items c.loop.next (leaf d ∷ []) (map leaf (drop (i + 1) word))
    here.stand).0 in
    building_turn context leaves _ _ _ _ _ _ _ _ _ _ _ (means d) (map means (drop (i + 1) word)) (leaf d ∷ []) (map leaf (drop (i + 1) word)) here
    c.in_ok-add_leaf.ensures.on c.in_ok-add_leaf.ensures.moved (c.in_ok-add_leaf.ensures.added (leaf d) own)

pub returns-clause-moved : goal.returns-clause-moved
returns-clause-moved c =
    let leaf : ℕ → Option model.SetTree = λ d. Some (model.Character d) in
    let word = c.args.word.now in
    let none = ap (λ ds. length (map leaf ds)) (drop_all c.loop.counter word (let test = c.loop-test.false in omega (arith, c.count_of-end.ensures))) in
    let all : length (map leaf word) ≡ length word = simp length-map in
    omega (arith, c.loop.invariant.moved, none, all)

pub returns-clause-added : goal.returns-clause-added
returns-clause-added c =
    let context = c.args.context.now in
    let word = c.args.word.now in
    let means : ℕ → Meaning = λ d. Leaf (model.Character d) in
    let none = ap (map means) (drop_all c.loop.counter word (let test = c.loop-test.false in omega (arith, c.count_of-end.ensures))) in
    subst (λ m. AddsTree context c.args.self.now c.loop.self m c.args.trees.now.items c.in_sequence.new.trees.items) (sym (word_means word))
    (sequence_added context c.args.leaves.now _ _ _ _ _ _ _ _ _ _ _ c.len-first.result c.loop.invariant none (omega arith) c.in_ok-in_sequence.ensures)
