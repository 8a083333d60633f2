-- A meaning spells the empty word, by the test that faults cite, exactly if its tree spells it.
use Rattle.std.proofs.Common.{◌≡◌, ℕ, ◌⊎◌, ◌↔◌, inl, inr, true, false, List, [], ◌∷◌, sym, refl, subst, arith}
use Rattle.std.specs.List.{AllByRecursion}
use Rattle.std.proofs.lemmas.Bool.{and_cases, and_parts, or_parts, or_cases, true_from_ne_false}
use Rattle.rbbi_model.specs.Spelling as spelling
use Rattle.rbbi_model.specs.Spelling.{Spells, joined, Star, Plus, Quest}
use Rattle.rbbi_props.specs.Rows.{File}
use Rattle.rbbi_resolve.specs.Meanings.{Meaning, Leaf, Empty, Never, Then, Either, Repeat, Stands, spells_empty}
use Rattle.rbbi_resolve.proofs.Sound.{first_empty, second_empty}

piece_empty : (t : spelling.Tree) (pieces : List (List ℕ)) → (pieces ≡ [] → ⊥) → AllByRecursion (Spells t) pieces → [] ≡ joined pieces → Spells t []
piece_empty t [] some all e = absurd (some refl)
piece_empty t (piece ∷ pieces) some all e = subst (Spells t) (first_empty piece (joined pieces) (sym e)) all.0

pub not_empty : (files : List File) (m : Meaning) (t : spelling.Tree) → Stands files m t → spells_empty m ≡ false → ¬ Spells t []
not_empty files (Leaf tree) t s e = λ p. let q = subst (λ x. Spells x []) s.1 p in let f = q.2 in absurd cc
not_empty files Empty t s e = absurd cc
not_empty files Never t s e = λ p. subst (λ x. Spells x []) s p
not_empty files (Then first rest) t s e =
    λ p.
    let q = subst (λ x. Spells x []) s.2 p in
    let u = first_empty q.0 q.1 (sym q.4) in
    let v = second_empty q.0 q.1 (sym q.4) in
    elim (and_cases (spells_empty first) (spells_empty rest) e) [
      | inl a ↦ not_empty files first s.0 s.3 a (subst (Spells s.0) u q.2)
      | inr b ↦ not_empty files rest s.1 s.4 b (subst (Spells s.1) v q.3)
    ]
not_empty files (Either first rest) t s e =
    λ p.
    let both = or_parts (spells_empty first) (spells_empty rest) e in
    let q : Spells s.0 [] ⊎ Spells s.1 [] = subst (λ x. Spells x []) s.2 p in
    elim q [ inl a ↦ not_empty files first s.0 s.3 both.0 a | inr b ↦ not_empty files rest s.1 s.4 both.1 b ]
not_empty files (Repeat Star part) t s e = absurd cc
not_empty files (Repeat Plus part) t s e =
    λ p.
    let q = subst (λ x. Spells x []) s.1 p in
    not_empty files part s.0 s.2 e (piece_empty s.0 q.0 q.1 q.2 q.3)
not_empty files (Repeat Quest part) t s e = absurd cc

spelled : (files : List File) (m : Meaning) (t : spelling.Tree) → Stands files m t → spells_empty m ≡ true → Spells t []
spelled files (Leaf tree) t s e = absurd cc
spelled files Empty t s e = subst (λ x. Spells x []) (sym s) refl
spelled files Never t s e = absurd cc
spelled files (Then first rest) t s e =
    let both = and_parts (spells_empty first) (spells_empty rest) e in
    subst (λ x. Spells x []) (sym s.2) ([], [], spelled files first s.0 s.3 both.0, spelled files rest s.1 s.4 both.1, refl)
spelled files (Either first rest) t s e =
    subst (λ x. Spells x []) (sym s.2)
    (elim (or_cases (spells_empty first) (spells_empty rest) e) [ inl a ↦ inl (spelled files first s.0 s.3 a) | inr b ↦ inr (spelled files rest s.1 s.4 b) ])
spelled files (Repeat Star part) t s e = subst (λ x. Spells x []) (sym s.1) ([], tt, tt, refl)
spelled files (Repeat Plus part) t s e = subst (λ x. Spells x []) (sym s.1) ([] ∷ [], (λ n. absurd cc), (spelled files part s.0 s.2 e, tt), refl)
spelled files (Repeat Quest part) t s e = subst (λ x. Spells x []) (sym s.1) ([], omega arith, tt, refl)

pub empty_words : (files : List File) (m : Meaning) (t : spelling.Tree) → Stands files m t → (spells_empty m ≡ true) ↔ Spells t []
empty_words files m t s = (spelled files m t s, λ p. true_from_ne_false (spells_empty m) (λ e. not_empty files m t s e p))
