use Rattle.std.proofs.Common.{◌≡◌, ◌<◌, List, [], ℕ, Bor, Vec, Global, map, length, slice_index_or, ap, sym, ◌∙◌, subst, arith}
use Rattle.std.specs.List.{Contains}
use Rattle.std.proofs.lemmas.List.{get_or-map, length-map}
use Rattle.rbbi_dfa.proofs.Ranking.{ArePlaced-none, ArePlaced-more, AreRanks-from_placed}
use Rattle.rbbi_dfa.proofs.minimize.ranks.places.Goals as goal

-- what is read of the vector with this number
read_list : (lists : List (Vec ℕ Global)) (i : ℕ) (item : Vec ℕ Global) (statuses : List ℕ) → i < length lists → item ≡ slice_index_or lists i item →
    statuses ≡ item.items → statuses ≡ slice_index_or (map (λ (statuses : Vec ℕ Global). statuses.items) lists) i []
read_list lists i item statuses h e f =
    f ∙ ap (λ (v : Vec ℕ Global). v.items) e ∙ sym (get_or-map (λ (statuses : Vec ℕ Global). statuses.items) lists i item [] h)

pub loop-list-init : goal.loop-list-init
loop-list-init c = ArePlaced-none _ _ _ c.in_ok-ranks.ensures.items

pub place_of-requires-clause-held : goal.place_of-requires-clause-held
place_of-requires-clause-held c =
    let lists = c.args.lists.now in
    subst (λ (statuses : List ℕ). Contains (map (λ (statuses : Bor (List ℕ)). statuses.now) c.args.sorted.now) statuses)
    (sym (read_list lists c.loop-list.list-index c.list-item.result _ c.loop-list-test.true c.list-item.is c.as_slice.ensures.value))
    (c.requires.all c.loop-list.list-index (omega (arith, length-map lists (λ (statuses : Vec ℕ Global). statuses.items))))

pub loop-list-preserved : goal.loop-list-preserved
loop-list-preserved c =
    let lists = c.args.lists.now in
    ArePlaced-more _ _ _ _ c.loop-list.list-index c.place_of.result c.loop-list.invariant (
      omega (arith, c.place_of.ensures.place, length-map c.args.sorted.now (λ (statuses : Bor (List ℕ)). statuses.now)),
      c.place_of.ensures.list
          ∙ read_list lists c.loop-list.list-index c.list-item.result _ c.loop-list-test.true c.list-item.is c.as_slice.ensures.value,
    )
    c.in_ok-push.ensures.items

pub returns : goal.returns
returns c =
    AreRanks-from_placed _ _ _ c.loop-list.list-index (omega (arith, length-map c.args.lists.now (λ (statuses : Vec ℕ Global). statuses.items)))
    c.loop-list.invariant
