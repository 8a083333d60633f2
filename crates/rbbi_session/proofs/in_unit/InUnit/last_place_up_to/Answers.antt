use Rattle.std.proofs.Common.{◌≡◌, ◌+◌, ◌<◌, ℕ, true, ltb, List, length, inl, inr, ap, sym, ◌∙◌, subst, arith}
use Rattle.std.specs.Prelude.{◌⊎◌, if◌then◌else◌}
use Rattle.std.proofs.lemmas.Bool.{cond-true, cond-false, le-ltb, lt-ltb}
use Rattle.rbbi_model.specs.declared.unit.Unit.{Unit as TextUnit}
use Rattle.rbbi_model.specs.Units.{offset_of}
use Rattle.rbbi_model.specs.UnitAnswers.{place_before}
use Rattle.rbbi_text.specs.declared.units.Index.{Index}
use Rattle.rbbi_text.specs.Indexes.{IsIndex}
use Rattle.rbbi_session.specs.UnitSessions.{InUnit}
use Rattle.rbbi_session.specs.inner.UnitPlaces.{IsPlaceUpTo}
use Rattle.rbbi_session.proofs.UnitCursors.{up_to_past, up_to_index, up_to_end, past_end, before_is, named_is}
use Rattle.rbbi_session.proofs.in_unit.InUnit.last_place_up_to.Goals as goal

-- the place that is asked for, where the number doesn't lie past the text's end, and where it does
within_is : (unit : TextUnit) (x : List ℕ) (o : ℕ) (index : Index) → IsIndex unit x o index → index.whole ≡ true ⊎ (index.at < length x)
    → index.at ≡ (if ltb (offset_of unit x (length x)) o then length x + 1 else place_before unit x o)
within_is unit x o index is where_ =
    sym (cond-false (ltb (offset_of unit x (length x)) o) (length x + 1) (place_before unit x o)
    (le-ltb (offset_of unit x (length x)) o (up_to_end unit x o index is where_))
    ∙ before_is unit x o index is)

past_is : (unit : TextUnit) (x : List ℕ) (o : ℕ) → offset_of unit x (length x) < o
    → length x + 1 ≡ (if ltb (offset_of unit x (length x)) o then length x + 1 else place_before unit x o)
past_is unit x o past =
    sym (cond-true (ltb (offset_of unit x (length x)) o) (length x + 1) (place_before unit x o) (lt-ltb (offset_of unit x (length x)) o past))

pub returns-then-index-clause-place : goal.returns-then-index-clause-place
returns-then-index-clause-place g c =
    let s = c.args.self.now in
    within_is s.unit (g.W.Walk.view.state s.asked).text c.args.o c.index-index.result c.index-index.ensures.index (inl c.if-index.true)

pub returns-then-index-clause-past : goal.returns-then-index-clause-past
returns-then-index-clause-past g c =
    let s = c.args.self.now in
    up_to_index s.unit (g.W.Walk.view.state s.asked).text c.args.o c.index-index.result c.index-index.ensures.index

pub returns-then-index-clause-known : goal.returns-then-index-clause-known
returns-then-index-clause-known g c =
    let s = c.args.self.now in
    named_is s.unit (g.W.Walk.view.state s.asked).text c.args.o c.index-index.result c.index-index.ensures.index

pub returns-then-index-len-clause-place : goal.returns-then-index-len-clause-place
returns-then-index-len-clause-place g c =
    let s = c.args.self.now in
    let long : c.len-len.result ≡ length (g.W.Walk.view.state s.asked).text = c.len-len.ensures.exact ∙ ap length c.text.ensures
    ∙ ap (λ (v : InUnit _). length (g.W.Walk.view.state v.asked).text) c.self.view_is in
    within_is s.unit (g.W.Walk.view.state s.asked).text c.args.o c.index-index.result c.index-index.ensures.index
    (inr (omega (arith, long, c.if-index-len.true)))

pub returns-then-index-len-clause-past : goal.returns-then-index-len-clause-past
returns-then-index-len-clause-past g c =
    let s = c.args.self.now in
    up_to_index s.unit (g.W.Walk.view.state s.asked).text c.args.o c.index-index.result c.index-index.ensures.index

pub returns-then-index-len-clause-known : goal.returns-then-index-len-clause-known
returns-then-index-len-clause-known g c =
    let s = c.args.self.now in
    named_is s.unit (g.W.Walk.view.state s.asked).text c.args.o c.index-index.result c.index-index.ensures.index

pub returns-clause-place : goal.returns-clause-place
returns-clause-place g c =
    let s = c.args.self.now in
    let long : c.len-len.result ≡ length (g.W.Walk.view.state s.asked).text = c.len-len.ensures.exact ∙ ap length c.text.ensures
    ∙ ap (λ (v : InUnit _). length (g.W.Walk.view.state v.asked).text) c.self.view_is in
    ap (λ n. n + 1) long
    ∙ past_is s.unit (g.W.Walk.view.state s.asked).text c.args.o
    (past_end s.unit (g.W.Walk.view.state s.asked).text c.args.o c.index-index.result c.index-index.ensures.index c.if-index.false
    (omega (arith, long, c.if-index-len.false)))

pub returns-clause-past : goal.returns-clause-past
returns-clause-past g c =
    let s = c.args.self.now in
    let long : c.len-len.result ≡ length (g.W.Walk.view.state s.asked).text = c.len-len.ensures.exact ∙ ap length c.text.ensures
    ∙ ap (λ (v : InUnit _). length (g.W.Walk.view.state v.asked).text) c.self.view_is in
    subst (λ n. IsPlaceUpTo s.unit (g.W.Walk.view.state s.asked).text c.args.o (n + 1)) (sym long)
    (up_to_past s.unit (g.W.Walk.view.state s.asked).text c.args.o
    (past_end s.unit (g.W.Walk.view.state s.asked).text c.args.o c.index-index.result c.index-index.ensures.index c.if-index.false
    (omega (arith, long, c.if-index-len.false))))
