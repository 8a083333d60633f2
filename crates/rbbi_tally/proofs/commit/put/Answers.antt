use Rattle.std.proofs.Common.{◌≡◌, ◌+◌, ◌≤◌, ◌++◌, ◌∷◌, [], List, take, drop, sym, ap, ◌∙◌, subst, arith}
use Rattle.std.specs.List.{AllByRecursion}
use Rattle.std.proofs.lemmas.List.{append-nil}
use Rattle.rbbi_model.proofs.Lists.{all_through}
use Rattle.rbbi_tally.specs.declared.piece.Piece.{Piece}
use Rattle.rbbi_tally.specs.inner.Segments.{Segment}
use Rattle.rbbi_tally.specs.inner.Editing.{FitText}
use Rattle.rbbi_tally.specs.inner.Pieces.{segments_by, segments_in, contents, most_looked}
use Rattle.rbbi_tally.proofs.PieceLists.{contents-append}
use Rattle.rbbi_tally.proofs.Joining.{inserted_parts}
use Rattle.rbbi_tally.proofs.commit.put.Goals as goal
use Rattle.rbbi_tally.proofs.commit.put.Goals.{After-insert_one, in-Ok+else-insert_all, in_default}

-- the new piece is put behind those before it
parts : (c : After-insert_one) →
    (take (c.args.front + 1) c.insert_one.new.pieces.items ≡ take c.args.front c.extend.new.pieces.items ++ (c.new-2.result ∷ []))
    × (drop (c.args.front + 1) c.insert_one.new.pieces.items ≡ drop c.args.front c.extend.new.pieces.items)
parts c =
    let same : c.match-pieces_of.pieces.items ≡ c.extend.new.pieces.items =
    elim c.match-pieces_of.branch [
      | in-Ok+else-insert_all w ↦ ap (λ v. v.items) w.pieces-is ∙ w.if-insert_all.ensures.items
      | in_default w ↦ ap (λ v. v.items) w.pieces-is
    ] in
    let is = c.insert_one.ensures ∙ ap (λ (l : List Piece). take c.args.front l ++ (c.new-2.result ∷ drop c.args.front l)) same in
    inserted_parts _ _ (c.new-2.result ∷ []) c.args.front 1 is (omega (arith, c.extend.ensures.len, c.requires.within)) (omega arith)

pub returns-then-insert_all-clause-front : goal.returns-then-insert_all-clause-front
returns-then-insert_all-clause-front c =
    let ps : List Piece = c.extend.new.pieces.items in
    let new : List Piece = c.in-Ok.new.items in
    let parts = inserted_parts ps c.insert_all.new.pieces.items new c.args.front c.len-count.result c.if-insert_all.ensures.items
    (omega (arith, c.extend.ensures.len, c.requires.within)) (omega (arith, c.len-count.ensures)) in
    ap contents parts.0 ∙ contents-append (take c.args.front ps) new ∙ ap (λ l. l ++ contents new) c.if-extend.ensures.front
    ∙ ap (λ l. contents (take c.args.front c.args.pieces.now.items) ++ l) (c.in-Ok.ensures.1 ∙ ap (segments_by c.args.start) c.deref-2.ensures.value)

pub returns-then-insert_all-clause-rest : goal.returns-then-insert_all-clause-rest
returns-then-insert_all-clause-rest c =
    (inserted_parts c.extend.new.pieces.items c.insert_all.new.pieces.items c.in-Ok.new.items c.args.front c.len-count.result c.if-insert_all.ensures.items
    (omega (arith, c.extend.ensures.len, c.requires.within)) (omega (arith, c.len-count.ensures))).1 ∙ c.extend.ensures.rest

pub new-requires-2-clause-small : goal.new-requires-2-clause-small
new-requires-2-clause-small c =
    all_through FitText (λ (s : Segment). s.look ≤ most_looked) (λ s fit. fit.look) (segments_by c.args.start c.replace-own.result.items)
    (subst (λ v. AllByRecursion FitText (segments_by c.args.start v.items)) (sym c.replace-own.ensures.value) c.requires.small)

pub returns-clause-front : goal.returns-clause-front
returns-clause-front c =
    let p : Piece = c.new-2.result in
    ap contents (parts (goal.at.returns-clause-front c).After-insert_one).0 ∙ contents-append (take c.args.front c.extend.new.pieces.items) (p ∷ [])
    ∙ ap (λ l. l ++ contents (p ∷ [])) c.if-extend.ensures.front
    ∙ ap (λ l. contents (take c.args.front c.args.pieces.now.items) ++ l) (append-nil (segments_in p)
    ∙ ap (λ n. segments_by n p.items.items) c.new-2.ensures.start
    ∙ ap (λ v. segments_by c.args.start v.items) (c.new-2.ensures.items ∙ c.replace-own.ensures.value))

pub returns-clause-rest : goal.returns-clause-rest
returns-clause-rest c = (parts (goal.at.returns-clause-rest c).After-insert_one).1 ∙ c.extend.ensures.rest
