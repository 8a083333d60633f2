use Rattle.std.proofs.Common.{◌≡◌, ◌<◌, ◌≤◌, ◌++◌, map, take, drop, sym, ap, ◌∙◌, subst, arith}
use Rattle.std.specs.List.{AllByRecursion}
use Rattle.rbbi_model.specs.Lists.{IsRising}
use Rattle.rbbi_model.proofs.Lists.{all_drop, all_take}
use Rattle.rbbi_tally.specs.declared.piece.Piece.{Piece}
use Rattle.rbbi_tally.specs.inner.Segments.{Segment, moved}
use Rattle.rbbi_tally.specs.inner.Editing.{FitText, CanShift}
use Rattle.rbbi_tally.specs.inner.Pieces.{segments_by, segments_from, segments_before, contents, IsPiece}
use Rattle.rbbi_tally.proofs.Committing.{same_behind, same_front, front_before, can_shift, new_rise, new_fit, new_begin, starts_before, all_committed}
use Rattle.rbbi_tally.proofs.commit.commit.Goals as goal
use Rattle.rbbi_tally.proofs.commit.commit.Goals.{After-keep_tail-past, After-cut_at-front, After-remove}

-- the segments that are put in, and those behind them
tail : (c : After-keep_tail-past) → segments_by c.args.start c.keep_tail-past.new.items.items
    ++ map (moved c.args.edit.removed c.args.edit.inserted) (contents (drop c.keep_tail-past.result c.deref.result.now))
    ≡ segments_by c.args.start c.args.items.now.items
    ++ map (moved c.args.edit.removed c.args.edit.inserted) (segments_from c.args.pieces.now.items c.args.met)
tail c =
    c.keep_tail-past.ensures.tail
    ∙ ap (λ l. segments_by c.args.start c.args.items.now.items ++ map (moved c.args.edit.removed c.args.edit.inserted) (segments_from l c.args.met))
    c.deref.ensures.value

order : (c : After-cut_at-front) → c.cut_at-front.result ≤ c.keep_tail-past.result
order c =
    front_before c.args.first c.args.met c.cut_at-front.result c.keep_tail-past.result c.requires.order c.keep_tail-past.ensures.past
    c.keep_tail-past.ensures.past_cut c.cut_at-front.ensures.whole c.cut_at-front.ensures.parted

all : (c : After-remove) → contents c.remove.new.pieces.items ≡ segments_before c.args.pieces.now.items c.args.first
    ++ (segments_by c.args.start c.args.items.now.items ++ map (moved c.args.edit.removed c.args.edit.inserted)
    (segments_from c.args.pieces.now.items c.args.met))
all c =
    let order' = front_before c.args.first c.args.met c.cut_at-front.result c.keep_tail-past.result c.requires.order c.keep_tail-past.ensures.past
    c.keep_tail-past.ensures.past_cut c.cut_at-front.ensures.whole c.cut_at-front.ensures.parted in
    all_committed c.args.edit c.args.start c.cut_at-front.result c.keep_tail-past.result c.put-count.result _ c.deref.result.now _ _ _ _ _ _ _ _
    c.deref.ensures.value order' c.cut_at-front.ensures.front c.cut_at-front.ensures.rest c.shift_behind.ensures.before c.shift_behind.ensures.behind
    c.put-count.ensures.front c.put-count.ensures.rest
    (c.keep_tail-past.ensures.tail
    ∙ ap (λ l. segments_by c.args.start c.args.items.now.items ++ map (moved c.args.edit.removed c.args.edit.inserted) (segments_from l c.args.met))
    c.deref.ensures.value)
    c.remove.ensures

pub shift_behind-requires-clause-movable : goal.shift_behind-requires-clause-movable
shift_behind-requires-clause-movable c =
    let past = c.keep_tail-past.result in
    let same : drop past c.cut_at-front.new.pieces.items ≡ drop past c.deref.result.now =
    same_behind c.cut_at-front.new.pieces.items c.args.pieces.now.items c.cut_at-front.result past c.cut_at-front.ensures.rest
    (order (goal.at.shift_behind-requires-clause-movable c).After-cut_at-front) ∙ ap (drop past) (sym c.deref.ensures.value) in
    subst (AllByRecursion (CanShift c.args.edit)) (sym same)
    (can_shift c.args.edit c.args.start (drop past c.deref.result.now)
    (all_drop IsPiece past c.deref.result.now (subst (AllByRecursion IsPiece) (sym c.deref.ensures.value) c.requires.pieces)) c.keep_tail-past.ensures.movable)

pub put-count-requires-clause-behind : goal.put-count-requires-clause-behind
put-count-requires-clause-behind c =
    let front = c.cut_at-front.result in
    let cut = c.cut_at-front.new.pieces.items in
    let order' = order (goal.at.put-count-requires-clause-behind c).After-cut_at-front in
    subst (AllByRecursion (λ (p : Piece). p.start ≤ c.args.start))
    (sym (same_front c.shift_behind.new.pieces.items cut front c.keep_tail-past.result c.shift_behind.ensures.before order'))
    (starts_before c.args.start (take front cut) (all_take IsPiece front cut c.cut_at-front.ensures.pieces)
    (subst (λ l. AllByRecursion (λ (s : Segment). s.at < c.args.start) l) (sym c.cut_at-front.ensures.front) c.requires.before))

pub remove-requires-clause-order : goal.remove-requires-clause-order
remove-requires-clause-order c = omega (arith, order (goal.at.remove-requires-clause-order c).After-cut_at-front)

pub put-count-requires-clause-small : goal.put-count-requires-clause-small
put-count-requires-clause-small c =
    new_fit c.args.edit c.args.start (segments_before c.args.pieces.now.items c.args.first) _ c.args.items.now.items _ _
    (tail (goal.at.put-count-requires-clause-small c).After-keep_tail-past) c.requires.small

pub put-count-requires-clause-rise : goal.put-count-requires-clause-rise
put-count-requires-clause-rise c =
    new_rise c.args.edit c.args.start (segments_before c.args.pieces.now.items c.args.first) _ c.args.items.now.items _ _
    (tail (goal.at.put-count-requires-clause-rise c).After-keep_tail-past) c.requires.rise

pub put-count-requires-clause-begin : goal.put-count-requires-clause-begin
put-count-requires-clause-begin c =
    new_begin c.args.edit c.args.start (segments_before c.args.pieces.now.items c.args.first) _ c.args.items.now.items _ _
    (tail (goal.at.put-count-requires-clause-begin c).After-keep_tail-past) c.requires.begin

pub join-requires-clause-rise : goal.join-requires-clause-rise
join-requires-clause-rise c =
    subst (λ l. IsRising (map (λ (s : Segment). s.at) l)) (sym (all (goal.at.join-requires-clause-rise c).After-remove)) c.requires.rise

pub join-requires-clause-small : goal.join-requires-clause-small
join-requires-clause-small c = subst (AllByRecursion FitText) (sym (all (goal.at.join-requires-clause-small c).After-remove)) c.requires.small

pub join-requires-2-clause-rise : goal.join-requires-2-clause-rise
join-requires-2-clause-rise c =
    let is = c.join.ensures.same ∙ all (goal.at.join-requires-2-clause-rise c).After-remove in
    subst (λ l. IsRising (map (λ (s : Segment). s.at) l)) (sym is) c.requires.rise

pub join-requires-2-clause-small : goal.join-requires-2-clause-small
join-requires-2-clause-small c =
    subst (AllByRecursion FitText) (sym (c.join.ensures.same ∙ all (goal.at.join-requires-2-clause-small c).After-remove)) c.requires.small

pub returns-clause-contents : goal.returns-clause-contents
returns-clause-contents c = c.join-2.ensures.same ∙ c.join.ensures.same ∙ all (goal.at.returns-clause-contents c).After-remove
