-- A tree spells a word where it spells positions whose sets hold the word's code points, and so does a rule.
use Rattle.std.proofs.Common.{◌≡◌, ℕ, zero, suc, ◌+◌, ◌<◌, List, [], ◌∷◌, ◌++◌, Option, Some, None, length, take, sym, refl, ap, ◌∙◌, subst, inl, inr, arith}
use Rattle.std.specs.Prelude.{slice_get, sum_by, unwrap_or}
use Rattle.std.specs.List.{AllByRecursion, AllZip}
use Rattle.std.specs.Option.{option_map_or}
use Rattle.std.proofs.lemmas.List.{length-append}
use Rattle.std.proofs.lemmas.List.Sums.{sum_by-cons}
use Rattle.rbbi_model.specs.Ranges.{Range, Has}
use Rattle.rbbi_model.specs.Spelling.{Repetition, Tree, Leaf, Empty, Never, Then, Either, Repeat, Star, Plus, Quest, Allows, joined, Spells}
use Rattle.rbbi_model.specs.Rules.{Rule, leaf_count, leaves_of}
use Rattle.rbbi_model.specs.Chains.{IsRule}
use Rattle.rbbi_model.specs.LeafSets.{sets_of, sets_of_rule, all_sets, first_position, SpellsPositions}

-- places in joined lists

get_left : {X : Type 0} (xs ys : List X) (i : ℕ) → i < length xs → slice_get (xs ++ ys) i ≡ slice_get xs i
get_left [] ys i short = absurd (omega (arith, short))
get_left (x ∷ xs) ys zero short = refl
get_left (x ∷ xs) ys (suc i) short = get_left xs ys i (omega (arith, short))

get_right : {X : Type 0} (xs ys : List X) (i : ℕ) → slice_get (xs ++ ys) (length xs + i) ≡ slice_get ys i
get_right [] ys i = ap (λ n. slice_get ys n) (let same : 0 + i ≡ i = omega arith in same)
get_right (x ∷ xs) ys i =
    let same : suc (length xs) + i ≡ suc (length xs + i) = omega arith in
    ap (λ n. slice_get (x ∷ (xs ++ ys)) n) same ∙ get_right xs ys i

pub sets_many : (tree : Tree) → length (sets_of tree) ≡ leaf_count tree
sets_many (Leaf set) = refl
sets_many Empty = refl
sets_many Never = refl
sets_many (Then first rest) = length-append (sets_of first) (sets_of rest) ∙ ap (λ n. n + length (sets_of rest)) (sets_many first)
    ∙ ap (λ n. leaf_count first + n) (sets_many rest)
sets_many (Either first rest) = length-append (sets_of first) (sets_of rest) ∙ ap (λ n. n + length (sets_of rest)) (sets_many first)
    ∙ ap (λ n. leaf_count first + n) (sets_many rest)
sets_many (Repeat repetition part) = sets_many part

-- two lists that match, in parts

pub zip_append : {A B : Type 0} (R : A → B → Type 0) (us vs : List A) (xs ys : List B) → AllZip R us xs → AllZip R vs ys → AllZip R (us ++ vs) (xs ++ ys)
zip_append R [] vs [] ys z z' = z'
zip_append R [] vs (x ∷ xs) ys z z' = absurd z
zip_append R (u ∷ us) vs [] ys z z' = absurd z
zip_append R (u ∷ us) vs (x ∷ xs) ys z z' = (z.0, zip_append R us vs xs ys z.1 z')

pub record ZipParts {A B : Type 0} (R : A → B → Type 0) (us vs : List A) (ws : List B) : Type 0 where
  pub front : List B
  pub back : List B
  pub whole : ws ≡ front ++ back
  pub first : AllZip R us front
  pub second : AllZip R vs back

pub zip_parts : {A B : Type 0} (R : A → B → Type 0) (us vs : List A) (ws : List B) → AllZip R (us ++ vs) ws → ZipParts R us vs ws
zip_parts R [] vs ws z = record { front = []; back = ws; whole = refl; first = tt; second = z }
zip_parts R (u ∷ us) vs [] z = absurd z
zip_parts R (u ∷ us) vs (w ∷ ws) z =
    let rest = zip_parts R us vs ws z.1 in
    record { front = w ∷ rest.front; back = rest.back; whole = ap (λ l. w ∷ l) rest.whole; first = (z.0, rest.first); second = rest.second }

module _ (all : List (List Range)) where
  -- the set at the position holds the code point
  abbrev pub ReadsIn : ℕ → ℕ → Type 0
  ReadsIn position c = (set : List Range) × (slice_get all position ≡ Some set) × Has set c

  -- these sets stand in the list from the place on
  abbrev pub StandsAt : ℕ → List (List Range) → Type 0
  StandsAt first sets = (i : ℕ) → i < length sets → slice_get all (first + i) ≡ slice_get sets i

  pub stands_left : (first : ℕ) (xs ys : List (List Range)) → StandsAt first (xs ++ ys) → StandsAt first xs
  stands_left first xs ys stands i short = stands i (omega (arith, length-append xs ys)) ∙ get_left xs ys i short

  pub stands_right : (first many : ℕ) (xs ys : List (List Range)) → length xs ≡ many → StandsAt first (xs ++ ys) → StandsAt (first + many) ys
  stands_right first many xs ys long stands i short =
      ap (λ n. slice_get all n) (let same : first + many + i ≡ first + (length xs + i) = omega (arith, long) in same)
      ∙ stands (length xs + i) (omega (arith, length-append xs ys)) ∙ get_right xs ys i

  abbrev pub SpelledBy : Tree → ℕ → List ℕ → Type 0
  SpelledBy tree first w = (positions : List ℕ) × SpellsPositions tree first positions × AllZip ReadsIn positions w

  pieces_to : (part : Tree) (first : ℕ) → ((w : List ℕ) → Spells part w → SpelledBy part first w) → (pieces : List (List ℕ)) →
      AllByRecursion (Spells part) pieces →
      (those : List (List ℕ)) × (length those ≡ length pieces) × AllByRecursion (SpellsPositions part first) those ×
      AllZip ReadsIn (joined those) (joined pieces)
  pieces_to part first to [] each = ([], refl, tt, tt)
  pieces_to part first to (piece ∷ pieces) each =
      let one = to piece each.0 in
      let rest = pieces_to part first to pieces each.1 in
      (one.0 ∷ rest.0, ap (λ n. suc n) rest.1, (one.1, rest.2), zip_append ReadsIn one.0 (joined rest.0) piece (joined pieces) one.2 rest.3)

  pieces_from : (part : Tree) (first : ℕ) → ((positions w : List ℕ) → SpellsPositions part first positions → AllZip ReadsIn positions w → Spells part w) →
      (those : List (List ℕ)) (w : List ℕ) → AllByRecursion (SpellsPositions part first) those → AllZip ReadsIn (joined those) w →
      (pieces : List (List ℕ)) × (length pieces ≡ length those) × AllByRecursion (Spells part) pieces × (w ≡ joined pieces)
  pieces_from part first from [] [] each z = ([], refl, tt, refl)
  pieces_from part first from [] (c ∷ w) each z = absurd z
  pieces_from part first from (positions ∷ those) w each z =
      let parts = zip_parts ReadsIn positions (joined those) w z in
      let rest = pieces_from part first from those parts.back each.1 parts.second in
      (parts.front ∷ rest.0, ap (λ n. suc n) rest.1, (from positions parts.front each.0 parts.first, rest.2), parts.whole ∙ ap (λ l. parts.front ++ l) rest.3)

  allows_same : (repetition : Repetition) (these those : List (List ℕ)) → length these ≡ length those → Allows repetition these → Allows repetition those
  allows_same Star these those long allows = tt
  allows_same Plus [] those long allows = absurd (allows refl)
  allows_same Plus (piece ∷ these) [] long allows = absurd (omega (arith, long))
  allows_same Plus (piece ∷ these) (other ∷ those) long allows = λ none. omega (arith, ap length none)
  allows_same Quest these those long allows = omega (arith, long, allows)

  pub spelled_to : (tree : Tree) (first : ℕ) → StandsAt first (sets_of tree) → (w : List ℕ) → Spells tree w → SpelledBy tree first w
  spelled_to (Leaf set) first stands w (c, has, same) =
      let at : slice_get all first ≡ Some set = ap (λ n. slice_get all n) (let e : first ≡ first + 0 = omega arith in e) ∙ stands 0 (omega arith) in
      (first ∷ [], refl, subst (λ l. AllZip ReadsIn (first ∷ []) l) (sym same) ((set, at, has), tt))
  spelled_to Empty first stands w spells = ([], refl, subst (λ l. AllZip ReadsIn [] l) (sym spells) tt)
  spelled_to Never first stands w spells = absurd spells
  spelled_to (Then front rest) first stands w (u, v, left, right, same) =
      let one = spelled_to front first (stands_left first (sets_of front) (sets_of rest) stands) u left in
      let two = spelled_to rest (first + leaf_count front) (stands_right first (leaf_count front) (sets_of front) (sets_of rest) (sets_many front) stands) v
      right in (
        one.0 ++ two.0,
        (one.0, two.0, one.1, two.1, refl),
        subst (λ l. AllZip ReadsIn (one.0 ++ two.0) l) (sym same)
            (zip_append ReadsIn one.0 two.0 u v one.2 two.2),
      )
  spelled_to (Either front rest) first stands w (inl left) =
      let one = spelled_to front first (stands_left first (sets_of front) (sets_of rest) stands) w left in
      (one.0, inl one.1, one.2)
  spelled_to (Either front rest) first stands w (inr right) =
      let two = spelled_to rest (first + leaf_count front) (stands_right first (leaf_count front) (sets_of front) (sets_of rest) (sets_many front) stands) w
      right in
      (two.0, inr two.1, two.2)
  spelled_to (Repeat repetition part) first stands w (pieces, allows, each, same) =
      let those = pieces_to part first (spelled_to part first stands) pieces each in (
        joined those.0,
        (those.0, allows_same repetition pieces those.0 (sym those.1) allows, those.2, refl),
        subst (λ l. AllZip ReadsIn (joined those.0) l)
            (sym same) those.3,
      )

  leaf_from : (set : List Range) (first : ℕ) (w : List ℕ) → StandsAt first (set ∷ []) → AllZip ReadsIn (first ∷ []) w → Spells (Leaf set) w
  leaf_from set first [] stands z = absurd z
  leaf_from set first (c ∷ []) stands z =
      let at : slice_get all first ≡ Some set = ap (λ n. slice_get all n) (let e : first ≡ first + 0 = omega arith in e) ∙ stands 0 (omega arith) in
      let same : z.0.0 ≡ set = ap (λ o. unwrap_or o set) (sym z.0.1 ∙ at) in
      (c, subst (λ s. Has s c) same z.0.2, refl)
  leaf_from set first (c ∷ d ∷ w) stands z = absurd z.1

  empty_from : (w : List ℕ) → AllZip ReadsIn [] w → w ≡ []
  empty_from [] z = refl
  empty_from (c ∷ w) z = absurd z

  pub spelled_from : (tree : Tree) (first : ℕ) → StandsAt first (sets_of tree) → (positions w : List ℕ) → SpellsPositions tree first positions →
      AllZip ReadsIn positions w → Spells tree w
  spelled_from (Leaf set) first stands positions w spells z = leaf_from set first w stands (subst (λ l. AllZip ReadsIn l w) spells z)
  spelled_from Empty first stands positions w spells z = empty_from w (subst (λ l. AllZip ReadsIn l w) spells z)
  spelled_from Never first stands positions w spells z = absurd spells
  spelled_from (Then front rest) first stands positions w (u, v, left, right, same) z =
      let parts = zip_parts ReadsIn u v w (subst (λ l. AllZip ReadsIn l w) same z) in (
        parts.front,
        parts.back,
        spelled_from front first (stands_left first (sets_of front) (sets_of rest) stands) u parts.front left parts.first,
        spelled_from rest (first + leaf_count front) (stands_right first (leaf_count front) (sets_of front) (sets_of rest) (sets_many front) stands) v
            parts.back right parts.second,
        parts.whole,
      )
  spelled_from (Either front rest) first stands positions w (inl left) z =
      inl (spelled_from front first (stands_left first (sets_of front) (sets_of rest) stands) positions w left z)
  spelled_from (Either front rest) first stands positions w (inr right) z =
      inr (spelled_from rest (first + leaf_count front) (stands_right first (leaf_count front) (sets_of front) (sets_of rest) (sets_many front) stands)
      positions w right z)
  spelled_from (Repeat repetition part) first stands positions w (those, allows, each, same) z =
      let pieces = pieces_from part first (spelled_from part first stands) those w each (subst (λ l. AllZip ReadsIn l w) same z) in
      (pieces.0, allows_same repetition those pieces.0 (sym pieces.1) allows, pieces.2, pieces.3)

-- the sets of each rule stand among all sets

rest_many : (rest : Option Tree) → length (option_map_or sets_of rest []) ≡ option_map_or leaf_count rest 0
rest_many None = refl
rest_many (Some tree) = sets_many tree

pub rule_sets_many : (rule : Rule) → length (sets_of_rule rule) ≡ leaves_of rule
rule_sets_many rule =
    length-append (sets_of rule.front) (option_map_or sets_of rule.rest []) ∙ ap (λ n. n + length (option_map_or sets_of rule.rest [])) (sets_many rule.front)
    ∙ ap (λ n. leaf_count rule.front + n) (rest_many rule.rest)

pub rule_stands : (rules : List Rule) (number : ℕ) (rule : Rule) → IsRule rules number rule → StandsAt (all_sets rules) (first_position rules number)
    (sets_of_rule rule)
rule_stands [] number rule is_rule i short = absurd (cc)
rule_stands (other ∷ rules) zero rule is_rule i short =
    let same : other ≡ rule = ap (λ o. unwrap_or o rule) is_rule in
    ap (λ n. slice_get (all_sets (other ∷ rules)) n) (let e : 0 + i ≡ i = omega arith in e)
    ∙ ap (λ r. slice_get (sets_of_rule r ++ all_sets rules) i) same ∙ get_left (sets_of_rule rule) (all_sets rules) i short
rule_stands (other ∷ rules) (suc number) rule is_rule i short =
    let from : first_position (other ∷ rules) (suc number) + i ≡ length (sets_of_rule other) + (first_position rules number + i) =
    omega (arith, sum_by-cons leaves_of other (take number rules), rule_sets_many other) in
    ap (λ n. slice_get (all_sets (other ∷ rules)) n) from
    ∙ get_right (sets_of_rule other) (all_sets rules) (first_position rules number + i)
    ∙ rule_stands rules number rule is_rule i short
