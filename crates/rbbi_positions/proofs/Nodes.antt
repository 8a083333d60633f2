-- First, last and following positions of a node from those of its parts.
use Rattle.std.proofs.Common.{◌≡◌, ◌≢◌, ℕ, ◌+◌, ◌≤◌, ◌⊎◌, ◌↔◌, List, [], ◌∷◌, ◌++◌, length, refl, ap, sym, ◌∙◌, subst, inl, inr, append_assoc, arith}
use Rattle.std.proofs.Common.{length-append}
use Rattle.std.specs.List.{AllByRecursion}
use Rattle.std.proofs.lemmas.List.{append-nil}
use Rattle.rbbi_model.specs.Spelling.{Repetition, Star, Plus, Quest, Tree, Leaf, Empty, Never, Then, Either, Repeat, Allows, joined}
use Rattle.rbbi_model.specs.Rules.{leaf_count, IsLawfulTree}
use Rattle.rbbi_model.specs.LeafSets.{SpellsPositions}
use Rattle.rbbi_model.proofs.Lists.{all_right}
use Rattle.rbbi_positions.proofs.Exchanges.{Both}
use Rattle.rbbi_positions.proofs.Splits.{side_of, piece_of}

-- the lists that are spelled
abbrev pub Lists : Type 1
Lists = List ℕ → Type 0

-- some list is spelled
abbrev pub Some : Lists → Type 0
Some Spelled = (positions : List ℕ) × Spelled positions

-- some list that is spelled begins with the position
abbrev pub Begins : Lists → ℕ → Type 0
Begins Spelled position = (others : List ℕ) × Spelled (position ∷ others)

-- some list that is spelled ends with the position
abbrev pub Ends : Lists → ℕ → Type 0
Ends Spelled position = (others : List ℕ) × Spelled (others ++ position ∷ [])

-- in some list that is spelled the next position stands right after this
abbrev pub Neighbours : Lists → ℕ → ℕ → Type 0
Neighbours Spelled position next = (before : List ℕ) × (after : List ℕ) × Spelled (before ++ position ∷ next ∷ after)

-- every lawful tree spells some list
pub some_spelled : (tree : Tree) (first : ℕ) → IsLawfulTree tree → Some (SpellsPositions tree first)
some_spelled (Leaf set) first lawful = (first ∷ [], refl)
some_spelled Empty first lawful = absurd lawful
some_spelled Never first lawful = absurd lawful
some_spelled (Then front rest) first lawful =
    let (u, left) = some_spelled front first lawful.0 in
    let (v, right) = some_spelled rest (first + leaf_count front) lawful.1 in
    (u ++ v, (u, v, left, right, refl))
some_spelled (Either front rest) first lawful = (let (u, left) = some_spelled front first lawful.0 in (u, inl left))
some_spelled (Repeat repetition part) first lawful =
    let (u, inner) = some_spelled part first lawful in
    (u, (u ∷ [], once repetition u, (inner, tt), sym (append-nil u)))
  where
    once : (repetition : Repetition) (u : List ℕ) → Allows repetition (u ∷ [])
    once Star u = tt
    once Plus u = λ e. absurd (cc)
    once Quest u = omega arith

-- a sequence of two
pub both_empty : (Front Rest : Lists) → Both Front Rest [] ↔ (Front [] × Rest [])
both_empty Front Rest = (there, λ (f, r). ([], [], f, r, refl))
  where
    there : ((u : List ℕ) × (v : List ℕ) × Front u × Rest v × ([] ≡ u ++ v)) → Front [] × Rest []
    there ([], v, f, r, e) = (f, subst Rest (sym e) r)
    there (x ∷ u, v, f, r, e) = absurd (cc)

module _ (Front Rest : Lists) (some_front : Some Front) (some_rest : Some Rest) where
  pub both_begins : (position : ℕ) → Begins (Both Front Rest) position ↔ (Begins Front position ⊎ (Front [] × Begins Rest position))
  both_begins position = (there, back)
    where
      there : Begins (Both Front Rest) position → Begins Front position ⊎ (Front [] × Begins Rest position)
      there (others, ([], v, f, r, e)) = inr (f, (others, subst Rest (sym e) r))
      there (others, (x ∷ u, v, f, r, e)) =
          let same : x ≡ position = cc in
          inl (u, subst (λ (y : ℕ). Front (y ∷ u)) same f)

      back : Begins Front position ⊎ (Front [] × Begins Rest position) → Begins (Both Front Rest) position
      back (inl (others, f)) = (let (v, r) = some_rest in (others ++ v, (position ∷ others, v, f, r, refl)))
      back (inr (f, (others, r))) = (others, ([], position ∷ others, f, r, refl))

  pub both_ends : (position : ℕ) → Ends (Both Front Rest) position ↔ (Ends Rest position ⊎ (Rest [] × Ends Front position))
  both_ends position = (there, back)
    where
      there : Ends (Both Front Rest) position → Ends Rest position ⊎ (Rest [] × Ends Front position)
      there (others, (u, v, f, r, e)) =
          elim (side_of u v others [] position e) [
            | inl h ↦
                let none : (h.between ≡ []) × (v ≡ []) = both_nil h.between v (sym h.after_is) in
                inr (subst Rest none.1 r, (others, subst (λ (l : List ℕ). Front (others ++ position ∷ l)) none.0 (subst Front h.front_is f)))
            | inr h ↦ inl (h.between, subst Rest h.back_is r)
          ]
        where
          both_nil : (a b : List ℕ) → a ++ b ≡ [] → (a ≡ []) × (b ≡ [])
          both_nil [] b e = (refl, e)
          both_nil (x ∷ a) b e = absurd (cc)

      back : Ends Rest position ⊎ (Rest [] × Ends Front position) → Ends (Both Front Rest) position
      back (inl (others, r)) = (let (u, f) = some_front in (u ++ others, (u, others ++ position ∷ [], f, r, append_assoc u others (position ∷ []))))
      back (inr (r, (others, f))) = (others, (others ++ position ∷ [], [], f, r, sym (append-nil (others ++ position ∷ []))))

  pub both_neighbours : (position next : ℕ) → Neighbours (Both Front Rest) position next ↔
      (Neighbours Front position next ⊎ (Neighbours Rest position next ⊎ (Ends Front position × Begins Rest next)))
  both_neighbours position next = (there, back)
    where
      there : Neighbours (Both Front Rest) position next →
          Neighbours Front position next ⊎ (Neighbours Rest position next ⊎ (Ends Front position × Begins Rest next))
      there (before, after, (u, v, f, r, e)) =
          elim (side_of u v before (next ∷ after) position e) [
            | inl h ↦ across before after h.between v (subst Front h.front_is f) r h.after_is
            | inr h ↦ inr (inl (h.between, after, subst Rest h.back_is r))
          ]
        where
          across : (before after between v : List ℕ) → Front (before ++ position ∷ between) → Rest v → next ∷ after ≡ between ++ v →
              Neighbours Front position next ⊎ (Neighbours Rest position next ⊎ (Ends Front position × Begins Rest next))
          across before after [] v f r e = inr (inr ((before, f), (after, subst Rest (sym e) r)))
          across before after (x ∷ between) v f r e =
              let same : x ≡ next = cc in
              inl (before, between, subst (λ (y : ℕ). Front (before ++ position ∷ y ∷ between)) same f)

      back : Neighbours Front position next ⊎ (Neighbours Rest position next ⊎ (Ends Front position × Begins Rest next)) →
          Neighbours (Both Front Rest) position next
      back (inl (before, after, f)) =
          (let (v, r) = some_rest in (before, after ++ v, (before ++ position ∷ next ∷ after, v, f, r, sym (append_assoc before (position ∷ next ∷ after) v))))
      back (inr (inl (before, after, r))) =
          (let (u, f) = some_front in (u ++ before, after, (u, before ++ position ∷ next ∷ after, f, r, append_assoc u before (position ∷ next ∷ after))))
      back (inr (inr ((before, f), (after, r)))) =
          (before, after, (before ++ position ∷ [], next ∷ after, f, r, sym (append_assoc before (position ∷ []) (next ∷ after))))

-- a repeat
abbrev pub Repeated : Repetition → Lists → Lists
Repeated repetition Part positions = (pieces : List (List ℕ)) × Allows repetition pieces × AllByRecursion Part pieces × (positions ≡ joined pieces)

pub no_parts : (a b : List ℕ) → [] ≡ a ++ b → (a ≡ []) × (b ≡ [])
no_parts [] b e = (refl, sym e)
no_parts (x ∷ a) b e = absurd (cc)

one_piece : (repetition : Repetition) (Part : Lists) (positions : List ℕ) → Part positions → Repeated repetition Part positions
one_piece Star Part positions h = (positions ∷ [], tt, (h, tt), sym (append-nil positions))
one_piece Plus Part positions h = (positions ∷ [], (λ e. absurd (cc)), (h, tt), sym (append-nil positions))
one_piece Quest Part positions h = (positions ∷ [], omega arith, (h, tt), sym (append-nil positions))

pub plus_empty : (Part : Lists) → Repeated Plus Part [] ↔ Part []
plus_empty Part = (there, λ h. one_piece Plus Part [] h)
  where
    there : Repeated Plus Part [] → Part []
    there ([], some, each, e) = absurd (some refl)
    there (piece ∷ pieces, some, each, e) = subst Part (no_parts piece (joined pieces) e).0 each.0

pub star_empty : (Part : Lists) → Repeated Star Part []
star_empty Part = ([], tt, tt, refl)

pub quest_empty : (Part : Lists) → Repeated Quest Part []
quest_empty Part = ([], omega arith, tt, refl)

pub repeat_begins : (repetition : Repetition) (Part : Lists) (position : ℕ) → Begins (Repeated repetition Part) position ↔ Begins Part position
repeat_begins repetition Part position = (there, λ (others, h). (others, one_piece repetition Part (position ∷ others) h))
  where
    there : Begins (Repeated repetition Part) position → Begins Part position
    there (others, (pieces, allowed, each, e)) =
        let at = piece_of pieces [] others position e in
        let none = no_parts (joined at.sooner) at.front at.before_is in
        let inner : Part (at.front ++ position ∷ at.back) =
        (all_right Part at.sooner ((at.front ++ position ∷ at.back) ∷ at.later) (subst (AllByRecursion Part) at.pieces_are each)).0 in
        (at.back, subst (λ (l : List ℕ). Part (l ++ position ∷ at.back)) none.1 inner)

pub repeat_ends : (repetition : Repetition) (Part : Lists) (position : ℕ) → Ends (Repeated repetition Part) position ↔ Ends Part position
repeat_ends repetition Part position = (there, λ (others, h). (others, one_piece repetition Part (others ++ position ∷ []) h))
  where
    there : Ends (Repeated repetition Part) position → Ends Part position
    there (others, (pieces, allowed, each, e)) =
        let at = piece_of pieces others [] position e in
        let none = no_parts at.back (joined at.later) at.after_is in
        let inner : Part (at.front ++ position ∷ at.back) =
        (all_right Part at.sooner ((at.front ++ position ∷ at.back) ∷ at.later) (subst (AllByRecursion Part) at.pieces_are each)).0 in
        (at.front, subst (λ (l : List ℕ). Part (at.front ++ position ∷ l)) none.0 inner)

-- where a position and the next stand in joined pieces
neighbours_there : (Part : Lists) (position next : ℕ) (before after : List ℕ) (pieces : List (List ℕ)) → AllByRecursion Part pieces →
    before ++ position ∷ next ∷ after ≡ joined pieces →
    Neighbours Part position next ⊎ (Ends Part position × Begins Part next × (2 ≤ length pieces))
neighbours_there Part position next before after pieces each e =
    let at = piece_of pieces before (next ∷ after) position e in
    let behind = all_right Part at.sooner ((at.front ++ position ∷ at.back) ∷ at.later) (subst (AllByRecursion Part) at.pieces_are each) in
    across at.front at.back at.later at.sooner behind.0 behind.1 at.after_is (ap length at.pieces_are
    ∙ length-append at.sooner ((at.front ++ position ∷ at.back) ∷ at.later))
  where
    across : (front back : List ℕ) (later sooner : List (List ℕ)) → Part (front ++ position ∷ back) → AllByRecursion Part later →
        next ∷ after ≡ back ++ joined later →
        length pieces ≡ length sooner + length ((front ++ position ∷ back) ∷ later) →
        Neighbours Part position next ⊎ (Ends Part position × Begins Part next × (2 ≤ length pieces))
    across front [] later sooner here rest e' long =
        let at = piece_of later [] after next e' in
        let none = no_parts (joined at.sooner) at.front at.before_is in
        let inner : Part (at.front ++ next ∷ at.back) =
        (all_right Part at.sooner ((at.front ++ next ∷ at.back) ∷ at.later) (subst (AllByRecursion Part) at.pieces_are rest)).0 in
        inr (
          (front, here),
          (at.back, subst (λ (l : List ℕ). Part (l ++ next ∷ at.back)) none.1 inner),
          omega (arith, long, ap length at.pieces_are, length-append at.sooner ((at.front ++ next ∷ at.back) ∷ at.later)),
        )
    across front (x ∷ back) later sooner here rest e' long =
        let same : x ≡ next = cc in
        inl (front, back, subst (λ (y : ℕ). Part (front ++ position ∷ y ∷ back)) same here)

pub quest_neighbours : (Part : Lists) (position next : ℕ) → Neighbours (Repeated Quest Part) position next ↔ Neighbours Part position next
quest_neighbours Part position next = (there, λ (before, after, h). (before, after, one_piece Quest Part (before ++ position ∷ next ∷ after) h))
  where
    there : Neighbours (Repeated Quest Part) position next → Neighbours Part position next
    there (before, after, (pieces, allowed, each, e)) =
        elim (neighbours_there Part position next before after pieces each e) [ inl h ↦ h | inr (ends, begins, many) ↦ absurd (omega (arith, allowed, many)) ]

-- a repeat of more than one round
pub loops : Repetition → Type 0
loops repetition = (pieces : List (List ℕ)) → pieces ≢ [] → Allows repetition pieces

pub star_loops : loops Star
unfolding loops
star_loops pieces some = tt

pub plus_loops : loops Plus
unfolding loops
plus_loops pieces some = some

pub loop_neighbours : (repetition : Repetition) → loops repetition → (Part : Lists) (position next : ℕ) →
    Neighbours (Repeated repetition Part) position next ↔ (Neighbours Part position next ⊎ (Ends Part position × Begins Part next))
unfolding loops
loop_neighbours repetition allowed Part position next = (there, back)
  where
    there : Neighbours (Repeated repetition Part) position next → Neighbours Part position next ⊎ (Ends Part position × Begins Part next)
    there (before, after, (pieces, allowed', each, e)) =
        elim (neighbours_there Part position next before after pieces each e) [ inl h ↦ inl h | inr (ends, begins, many) ↦ inr (ends, begins) ]

    back : Neighbours Part position next ⊎ (Ends Part position × Begins Part next) → Neighbours (Repeated repetition Part) position next
    back (inl (before, after, h)) = (before, after, one_piece repetition Part (before ++ position ∷ next ∷ after) h)
    back (inr ((before, f), (after, g))) = (
      before,
      after,
      (
        (before ++ position ∷ []) ∷ (next ∷ after) ∷ [],
        allowed ((before ++ position ∷ []) ∷ (next ∷ after) ∷ []) (λ e. absurd (cc)),
        (f, (g, tt)),
        sym (append_assoc before (position ∷ []) ((next ∷ after) ++ []) ∙ ap (λ (l : List ℕ). before ++ position ∷ l) (append-nil (next ∷ after))),
      ),
    )

-- a choice of two
abbrev pub EitherOf : Lists → Lists → Lists
EitherOf Front Rest positions = Front positions ⊎ Rest positions

pub either_begins : (Front Rest : Lists) (position : ℕ) → Begins (EitherOf Front Rest) position ↔ (Begins Front position ⊎ Begins Rest position)
either_begins Front Rest position = (
  λ (others, h). elim h [ inl f ↦ inl (others, f) | inr r ↦ inr (others, r) ],
  λ h. elim h [ inl (others, f) ↦ (others, inl f) | inr (others, r) ↦ (others, inr r) ],
)

pub either_ends : (Front Rest : Lists) (position : ℕ) → Ends (EitherOf Front Rest) position ↔ (Ends Front position ⊎ Ends Rest position)
either_ends Front Rest position = (
  λ (others, h). elim h [ inl f ↦ inl (others, f) | inr r ↦ inr (others, r) ],
  λ h. elim h [ inl (others, f) ↦ (others, inl f) | inr (others, r) ↦ (others, inr r) ],
)

pub either_neighbours : (Front Rest : Lists) (position next : ℕ) → Neighbours (EitherOf Front Rest) position next ↔
    (Neighbours Front position next ⊎ Neighbours Rest position next)
either_neighbours Front Rest position next = (
  λ (before, after, h). elim h [ inl f ↦ inl (before, after, f) | inr r ↦ inr (before, after, r) ],
  λ h. elim h [ inl (before, after, f) ↦ (before, after, inl f) | inr (before, after, r) ↦ (before, after, inr r) ],
)
