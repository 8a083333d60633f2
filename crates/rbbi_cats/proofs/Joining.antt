-- The categories of classes, row by row.
use Rattle.std.proofs.Common.{◌≡◌, ℕ, ◌+◌, ◌≤◌, ◌<◌, ◌↔◌, List, [], ◌∷◌, ◌++◌, length, get_or, take, drop, map, replicate, ap, sym, ◌∙◌, subst, inl, inr, arith}
use Rattle.std.proofs.lemmas.Bool.{cases_lt}
use Rattle.std.proofs.lemmas.List.{take_more, map-append, take-append-drop, get_or-replicate, get_or_past, length-replicate, take_all, drop_all, append-nil}
use Rattle.rbbi_model.specs.Ranges.{Range, Has}
use Rattle.rbbi_classes.specs.CharacterSets.{characters_of}
use Rattle.rbbi_classes.specs.Classes.{ClassBits, HasClass, AreBoundsFrom}
use Rattle.rbbi_classes.specs.Divisions.{ClassDivision, IsDivision, first_of}
use Rattle.rbbi_classes.specs.Steps.{number_at}
use Rattle.rbbi_classes.proofs.FirstCodePoints.{first-is_point}
use Rattle.rbbi_cats.specs.inner.Refinements.{AreNumbered, Refines}
use Rattle.rbbi_cats.specs.inner.Categories.{AreCategories, HasTold}
use Rattle.rbbi_cats.proofs.Telling.{told_more, has_told}

-- there are fewer bounds than code points
pub bounds_few : (before : ℕ) (bounds : List ℕ) → before ≤ 0x10FFFF → AreBoundsFrom before bounds → before + length bounds ≤ 0x10FFFF
bounds_few before [] small h = omega (arith, small)
bounds_few before (bound ∷ bounds) small h = omega (arith, h.0, bounds_few bound bounds h.1 h.2)

-- what is written into the whole of a list
written : (new old : List ℕ) (n : ℕ) → length new ≡ n → length old ≡ n → take n (new ++ drop (length new) old) ≡ new
written new old n long same =
    ap (λ list. take n (new ++ list)) (drop_all (length new) old (omega (arith, long, same))) ∙ ap (take n) (append-nil new)
    ∙ take_all n new (omega (arith, long))

-- the categories by the first so many rows
pub record JoinedSoFar (division : ClassDivision) (rows : List ClassBits) (categories : List ℕ) (count i : ℕ) : Type 0 where
  pub numbered : AreNumbered categories count
  pub many : length categories ≡ length division.bounds + 1
  pub told : AreCategories division.steps (map (characters_of division) (take i rows)) categories
  pub few : count ≤ 1000

zeros : (n k : ℕ) → ◌≡◌ {A = ℕ} (get_or (replicate n 0) k 0) 0
zeros n k = elim (cases_lt k n) [
  | inl inside ↦ get_or-replicate {A = ℕ} n k 0 0 inside
  | inr past ↦ get_or_past {X = ℕ} (replicate n 0) k 0 (omega (arith, past, length-replicate {A = ℕ} n 0))
]

pub joined_none : (division : ClassDivision) (rows : List ClassBits) (categories : List ℕ) (n : ℕ) → categories ≡ replicate n 0 →
    n ≡ length division.bounds + 1 → JoinedSoFar division rows categories 1 0
joined_none division rows categories n is many =
    subst (λ (list : List ℕ). JoinedSoFar division rows list 1 0) (sym is) (record {
      numbered = record {
        some = omega arith;
        within = λ k below. omega (arith, zeros n k);
        used = λ category one less. absurd (omega (arith, one, less));
        earlier = λ k category below one less. absurd (omega (arith, one, less, zeros n k));
      };
      many = length-replicate {A = ℕ} n 0 ∙ many;
      told = record {
        alike = λ c d small small'. (
          λ e set (k, below, same). absurd (omega (arith, below)),
          λ t. zeros n (number_at division.steps c) ∙ sym (zeros n (number_at division.steps d)),
        );
        some = λ c small. (
          λ other. absurd (other (zeros n (number_at division.steps c))),
          λ (k, set, below, rest, has) z. absurd (omega (arith, below)),
        );
      };
      few = omega arith;
    })

module _ (division : ClassDivision) (form : IsDivision division) (rows : List ClassBits) (i : ℕ) (row characters : ClassBits) (inside : i < length rows)
    (is : get_or rows i row ≡ row) (before after : List ℕ) (old count : ℕ) (h : JoinedSoFar division rows before old i)
    (has : (c : ℕ) → c ≤ 0x10FFFF → HasClass characters (number_at division.steps c) ↔ Has (characters_of division row) c)
    (numbered : AreNumbered after count) (refines : Refines characters before after) where
  many_more : length after ≡ length division.bounds + 1
  many_more = refines.many ∙ h.many

  told : AreCategories division.steps (map (characters_of division) (take (i + 1) rows)) after
  told =
      subst (λ (sets : List (List Range)). AreCategories division.steps sets after)
      (sym (ap (map (characters_of division)) (take_more rows i row inside ∙ ap (λ (last : ClassBits). take i rows ++ last ∷ []) is)
      ∙ map-append (characters_of division) (take i rows) (row ∷ [])))
      (told_more division.steps (map (characters_of division) (take i rows)) (characters_of division row) characters before after
      (λ c small. omega (arith, form.within c small, h.many)) has refines h.told)

  pub joined_more : (written_to : List ℕ) (n : ℕ) → n ≡ length before → written_to ≡ take n (after ++ drop (length after) before) → count ≤ 1000 →
      JoinedSoFar division rows written_to count (i + 1)
  joined_more written_to n all same few =
      subst (λ (list : List ℕ). JoinedSoFar division rows list count (i + 1))
      (sym (same ∙ written after before n (omega (arith, refines.many, all)) (omega (arith, all))))
      (record { numbered = numbered; many = many_more; told = told; few = few })

  pub told_many : 1000 < count → HasTold (map (characters_of division) rows) 1000
  told_many more =
      subst (λ (sets : List (List Range)). HasTold sets 1000)
      (sym (map-append (characters_of division) (take (i + 1) rows) (drop (i + 1) rows)) ∙ ap (map (characters_of division)) (take-append-drop (i + 1) rows))
      (has_told division.steps division.bounds (map (characters_of division) (take (i + 1) rows)) (map (characters_of division) (drop (i + 1) rows)) after 1000
      count numbered more (λ k below. let small : k ≤ length division.bounds = omega (arith, below, many_more) in
      (first_of division.bounds k, first-is_point division.bounds form.bounds k small, form.first k small)) told)
