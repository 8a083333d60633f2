-- How first, last and following positions are told by the words that rules begin to read: by exchanging spelled lists after a
-- position that they have in common.
use Rattle.std.proofs.Common.{◌≡◌, ◌≢◌, ℕ, zero, suc, ◌+◌, ◌-◌, List, [], ◌∷◌, ◌++◌, Option, Some, None, length, take, sym, refl, ap, ◌∙◌, subst}
use Rattle.std.proofs.Common.{append_assoc, arith}
use Rattle.std.specs.Prelude.{slice_get, MatchOption, IfSome, unwrap_or}
use Rattle.std.specs.List.{AllByRecursion, AllZip}
use Rattle.std.proofs.lemmas.List.{nil_from_length, append-nil, length_push, take_at}
use Rattle.std.proofs.lemmas.Slice.Zip.{AllZip-long}
use Rattle.std.specs.Option.{option_map_or}
use Rattle.rbbi_model.specs.Spelling.{Spells, Tree}
use Rattle.rbbi_model.specs.Rules.{Rule, LooksAhead, SpellsBoth, IsWordOf, IsFrontWordOf, leaf_count, IsLawfulTree, IsLawfulRule}
use Rattle.rbbi_model.specs.Chains.{IsRule}
use Rattle.rbbi_model.specs.LeafSets.{sets_of, all_sets, first_position, SpellsPositions, RuleSpellsPositions, Reads, ReadsLast}
use Rattle.rbbi_positions.specs.FollowPositions.{IsSpelled, IsFrontSpelled}
use Rattle.rbbi_positions.proofs.Nodes.{some_spelled}
use Rattle.rbbi_positions.proofs.WalkLaws.{exchange, exchange_front}
use Rattle.rbbi_dfa.proofs.Spellings.{StandsAt, zip_append, zip_parts, sets_many, stands_left, stands_right, rule_stands, spelled_to, spelled_from}
use Rattle.rbbi_dfa.specs.inner.PositionAutomata.{FirstOf, LastOf, FrontLastOf, FollowsIn}

-- lists by their last member

pub record EndsWith {X : Type 0} (xs : List X) : Type 0 where
  pub front : List X
  pub last : X
  pub whole : xs ≡ front ++ last ∷ []

pub ends_with : {X : Type 0} (xs : List X) → xs ≢ [] → EndsWith xs
ends_with [] some = absurd (some refl)
ends_with (x ∷ []) some = record { front = []; last = x; whole = refl }
ends_with (x ∷ y ∷ xs) some =
    let rest = ends_with (y ∷ xs) (λ none. omega (arith, ap length none)) in
    record { front = x ∷ rest.front; last = rest.last; whole = ap (λ l. x ∷ l) rest.whole }

get_at : {X : Type 0} (us : List X) (x : X) (vs : List X) → slice_get (us ++ x ∷ vs) (length us) ≡ Some x
get_at [] x vs = refl
get_at (u ∷ us) x vs = get_at us x vs

-- the list in parts, around the member at the place
pub record Around {X : Type 0} (xs : List X) (i : ℕ) (x : X) : Type 0 where
  pub before : List X
  pub after : List X
  pub whole : xs ≡ before ++ x ∷ after
  pub many : length before ≡ i

pub around : {X : Type 0} (xs : List X) (i : ℕ) (x : X) → slice_get xs i ≡ Some x → Around xs i x
around [] i x at = absurd (cc)
around (y ∷ xs) zero x at = record { before = []; after = xs; whole = ap (λ z. z ∷ xs) (ap (λ o. unwrap_or o x) at); many = refl }
around (y ∷ xs) (suc i) x at =
    let rest = around xs i x at in
    record { before = y ∷ rest.before; after = rest.after; whole = ap (λ l. y ∷ l) rest.whole; many = ap (λ n. suc n) rest.many }

-- the last of two lists that match
pub zip_push : {A B : Type 0} (R : A → B → Type 0) (xs : List A) (ys : List B) (x : A) (y : B) → AllZip R (xs ++ x ∷ []) (ys ++ y ∷ []) → AllZip R xs ys × R x y
zip_push R [] [] x y z = (tt, z.0)
zip_push R [] (b ∷ []) x y z = absurd z.1
zip_push R [] (b ∷ c ∷ ys) x y z = absurd z.1
zip_push R (a ∷ []) [] x y z = absurd z.1
zip_push R (a ∷ b ∷ xs) [] x y z = absurd z.1
zip_push R (a ∷ xs) (b ∷ ys) x y z = let rest = zip_push R xs ys x y z.1 in ((z.0, rest.0), rest.1)

pub same_rule : (rules : List Rule) (number : ℕ) (these those : Rule) → IsRule rules number these → IsRule rules number those → these ≡ those
same_rule rules number these those is is' = ap (λ o. unwrap_or o these) (sym is ∙ is')

pub lawful_rule : (rules : List Rule) (number : ℕ) (rule : Rule) → AllByRecursion IsLawfulRule rules → IsRule rules number rule → IsLawfulRule rule
lawful_rule [] number rule lawful is_rule = absurd (cc)
lawful_rule (other ∷ rules) zero rule lawful is_rule = subst IsLawfulRule (ap (λ o. unwrap_or o rule) is_rule) lawful.0
lawful_rule (other ∷ rules) (suc number) rule lawful is_rule = lawful_rule rules number rule lawful.1 is_rule

module _ (rules : List Rule) where
  -- a rule that begins to read a word, with its list of positions in parts
  pub record ReadsUpTo (number : ℕ) (v : List ℕ) (position : ℕ) : Type 0 where
    pub before : List ℕ
    pub after : List ℕ
    pub spelled : IsSpelled rules number (before ++ position ∷ after)
    pub reads : AllZip (Reads rules) (before ++ position ∷ []) v

  pub reads_up_to : (number p : ℕ) (rule : Rule) (v : List ℕ) → IsRule rules number rule → ReadsLast rules number rule v p → ReadsUpTo number v p
  reads_up_to number p rule v is_rule reads =
      let parts = around reads.positions (length v - 1) p reads.last in
      let end = ends_with v reads.some in
      let long : length (parts.before ++ p ∷ []) ≡ length v =
      omega (arith, length_push parts.before p, parts.many, ap length end.whole, length_push end.front end.last) in
      let front : take (length v) reads.positions ≡ parts.before ++ p ∷ [] =
      ap (λ l. take (length v) l) (parts.whole ∙ sym (append_assoc parts.before (p ∷ []) parts.after))
      ∙ take_at (parts.before ++ p ∷ []) parts.after (length v) long in
      record {
        before = parts.before;
        after = parts.after;
        spelled = record {
          rule = rule;
          is_rule = is_rule;
          spelled =
              subst (λ l. RuleSpellsPositions rule (first_position rules number) l) parts.whole reads.spelled;
        };
        reads = subst (λ l. AllZip (Reads rules) l v) front reads.reads;
      }

  pub reads_last : (number p : ℕ) (rule : Rule) (v : List ℕ) → IsRule rules number rule → ReadsUpTo number v p → ReadsLast rules number rule v p
  reads_last number p rule v is_rule reads =
      let long : length reads.before + 1 ≡ length v =
      sym (length_push reads.before p) ∙ sym (AllZip-long (Reads rules) (reads.before ++ p ∷ []) v reads.reads) in
      let whole : reads.before ++ p ∷ reads.after ≡ (reads.before ++ p ∷ []) ++ reads.after = sym (append_assoc reads.before (p ∷ []) reads.after) in
      let front : take (length v) (reads.before ++ p ∷ reads.after) ≡ reads.before ++ p ∷ [] =
      ap (λ l. take (length v) l) whole ∙ take_at (reads.before ++ p ∷ []) reads.after (length v) (length_push reads.before p ∙ long) in
      record {
        positions = reads.before ++ p ∷ reads.after;
        spelled = subst (λ r. RuleSpellsPositions r (first_position rules number) (reads.before ++ p ∷ reads.after))
            (same_rule rules number reads.spelled.rule rule reads.spelled.is_rule is_rule) reads.spelled.spelled;
        reads = subst (λ l. AllZip (Reads rules) l v) (sym front) reads.reads;
        some = λ none. omega (arith, long, ap length none);
        last = ap (λ n. slice_get (reads.before ++ p ∷ reads.after) n) (let e : length v - 1 ≡ length reads.before = omega (arith, long) in e)
            ∙ get_at reads.before p reads.after;
      }

module _ (rules : List Rule) (front : Tree) (first : ℕ) where
  -- what a front and its rest spell, as words and as positions
  abbrev SpellWord : Option Tree → List ℕ → Type 0
  SpellWord rest v = MatchOption rest (Spells front v) (λ rest. SpellsBoth front rest v)

  abbrev SpellTogether : Option Tree → List ℕ → Type 0
  SpellTogether rest positions = MatchOption rest (SpellsPositions front first positions) (λ rest. (u : List ℕ) × (w : List ℕ) ×
      SpellsPositions front first u × SpellsPositions rest (first + leaf_count front) w × (positions ≡ u ++ w))

  word_to : (rest : Option Tree) → StandsAt (all_sets rules) first (sets_of front ++ option_map_or sets_of rest []) → (v : List ℕ) → SpellWord rest v →
      (positions : List ℕ) × SpellTogether rest positions × AllZip (Reads rules) positions v
  word_to None stands v word = spelled_to (all_sets rules) front first (stands_left (all_sets rules) first (sets_of front) [] stands) v word
  word_to (Some rest) stands v (u, w, left, right, same) =
      let one = spelled_to (all_sets rules) front first (stands_left (all_sets rules) first (sets_of front) (sets_of rest) stands) u left in
      let two = spelled_to (all_sets rules) rest (first + leaf_count front)
      (stands_right (all_sets rules) first (leaf_count front) (sets_of front) (sets_of rest) (sets_many front) stands) w right in (
        one.0 ++ two.0,
        (one.0, two.0, one.1, two.1, refl),
        subst (λ l. AllZip (Reads rules) (one.0 ++ two.0) l) (sym same) (zip_append (Reads rules) one.0 two.0 u w one.2 two.2),
      )

  word_from : (rest : Option Tree) → StandsAt (all_sets rules) first (sets_of front ++ option_map_or sets_of rest []) → (positions v : List ℕ) →
      SpellTogether rest positions → AllZip (Reads rules) positions v → SpellWord rest v
  word_from None stands positions v spells z =
      spelled_from (all_sets rules) front first (stands_left (all_sets rules) first (sets_of front) [] stands) positions v spells z
  word_from (Some rest) stands positions v (u, w, left, right, same) z =
      let parts = zip_parts (Reads rules) u w v (subst (λ l. AllZip (Reads rules) l v) same z) in (
        parts.front,
        parts.back,
        spelled_from (all_sets rules) front first (stands_left (all_sets rules) first (sets_of front) (sets_of rest) stands) u parts.front left parts.first,
        spelled_from (all_sets rules) rest (first + leaf_count front)
            (stands_right (all_sets rules) first (leaf_count front) (sets_of front) (sets_of rest) (sets_many front) stands) w parts.back right parts.second,
        parts.whole,
      )

  -- a list of the front goes on to one of the rule
  front_goes_on : (rest : Option Tree) → IfSome rest IsLawfulTree → (positions : List ℕ) → SpellsPositions front first positions →
      (more : List ℕ) × SpellTogether rest (positions ++ more)
  front_goes_on None lawful positions spelled = ([], subst (λ l. SpellsPositions front first l) (sym (append-nil positions)) spelled)
  front_goes_on (Some rest) lawful positions spelled =
      let more = some_spelled rest (first + leaf_count front) lawful in
      (more.0, (positions, more.0, spelled, more.1, refl))

module _ (rules : List Rule) (lawful : AllByRecursion IsLawfulRule rules) where
  pub starts : (number p c : ℕ) (rule : Rule) → IsRule rules number rule → FirstOf rules number p → Reads rules p c → ReadsLast rules number rule (c ∷ []) p
  starts number p c rule is_rule first reads =
      reads_last rules number p rule (c ∷ []) is_rule (record { before = []; after = first.0; spelled = first.1; reads = (reads, tt) })

  pub extends : (number other q p c : ℕ) (rule : Rule) (v : List ℕ) → IsRule rules number rule → ReadsLast rules number rule v q → FollowsIn rules other q p →
      Reads rules p c → ReadsLast rules number rule (v ++ c ∷ []) p
  extends number other q p c rule v is_rule reads follows reads' =
      let up = reads_up_to rules number q rule v is_rule reads in
      let new = exchange rules number other q up.before up.after follows.0 (p ∷ follows.1) up.spelled follows.2 in
      reads_last rules number p rule (v ++ c ∷ []) is_rule (record {
        before = up.before ++ q ∷ [];
        after = follows.1;
        spelled = subst (λ l. IsSpelled rules number l) (sym (append_assoc up.before (q ∷ []) (p ∷ follows.1))) new.1;
        reads = zip_append (Reads rules) (up.before ++ q ∷ []) (p ∷ []) v (c ∷ []) up.reads (reads', tt);
      })

  none_before : (before : List ℕ) (p c : ℕ) → AllZip (Reads rules) (before ++ p ∷ []) (c ∷ []) → before ≡ []
  none_before [] p c z = refl
  none_before (b ∷ []) p c z = absurd z.1
  none_before (b ∷ d ∷ before) p c z = absurd z.1

  pub firsts : (number p c : ℕ) (rule : Rule) → IsRule rules number rule → ReadsLast rules number rule (c ∷ []) p → FirstOf rules number p
  firsts number p c rule is_rule reads =
      let up = reads_up_to rules number p rule (c ∷ []) is_rule reads in
      (up.after, subst (λ l. IsSpelled rules number (l ++ p ∷ up.after)) (none_before up.before p c up.reads) up.spelled)

  pub shrinks : (number p c : ℕ) (rule : Rule) (v : List ℕ) → IsRule rules number rule → v ≢ [] → ReadsLast rules number rule (v ++ c ∷ []) p →
      (q : ℕ) × ReadsLast rules number rule v q × FollowsIn rules number q p
  shrinks number p c rule v is_rule some reads =
      let up = reads_up_to rules number p rule (v ++ c ∷ []) is_rule reads in
      let parts = zip_push (Reads rules) up.before v p c up.reads in
      let long = AllZip-long (Reads rules) up.before v parts.0 in
      let many = ends_with v some in
      let last = ends_with up.before (λ none. some (nil_from_length v (long ∙ ap length none))) in
      let whole : up.before ++ p ∷ up.after ≡ last.front ++ last.last ∷ p ∷ up.after =
      ap (λ l. l ++ p ∷ up.after) last.whole ∙ append_assoc last.front (last.last ∷ []) (p ∷ up.after) in
      let spelled = subst (λ l. IsSpelled rules number l) whole up.spelled in (
        last.last,
        reads_last rules number last.last rule v is_rule (record {
          before = last.front;
          after = p ∷ up.after;
          spelled = spelled;
          reads =
              subst (λ l. AllZip (Reads rules) l v) last.whole parts.0;
        }),
        (last.front, up.after, spelled),
      )

  pub reads_code : (number p c : ℕ) (rule : Rule) (v : List ℕ) → IsRule rules number rule → ReadsLast rules number rule (v ++ c ∷ []) p → Reads rules p c
  reads_code number p c rule v is_rule reads =
      let up = reads_up_to rules number p rule (v ++ c ∷ []) is_rule reads in
      (zip_push (Reads rules) up.before v p c up.reads).1

  pub words : (number : ℕ) (rule : Rule) (v : List ℕ) → IsRule rules number rule → IsWordOf rule v → (p : ℕ) × ReadsLast rules number rule v p ×
      LastOf rules number p
  words number rule v is_rule word =
      let one = word_to rules rule.front (first_position rules number) rule.rest (rule_stands rules number rule is_rule) v word.1 in
      let long = AllZip-long (Reads rules) one.0 v one.2 in
      let last = ends_with one.0 (λ none. word.0 (nil_from_length v (long ∙ ap length none))) in
      let spelled : IsSpelled rules number (last.front ++ last.last ∷ []) =
      record { rule = rule; is_rule = is_rule; spelled = subst (λ l. RuleSpellsPositions rule (first_position rules number) l) last.whole one.1 } in (
        last.last,
        reads_last rules number last.last rule v is_rule (record {
          before = last.front;
          after = [];
          spelled = spelled;
          reads =
              subst (λ l. AllZip (Reads rules) l v) last.whole one.2;
        }),
        (last.front, spelled),
      )

  pub wholes : (number other p : ℕ) (rule : Rule) (v : List ℕ) → IsRule rules number rule → ReadsLast rules number rule v p → LastOf rules other p →
      (number ≡ other) × IsWordOf rule v
  wholes number other p rule v is_rule reads last =
      let up = reads_up_to rules number p rule v is_rule reads in
      let new = exchange rules number other p up.before up.after last.0 [] up.spelled last.1 in
      let spelled = subst (λ r. RuleSpellsPositions r (first_position rules number) (up.before ++ p ∷ []))
      (same_rule rules number new.1.rule rule new.1.is_rule is_rule) new.1.spelled in
      let stands = rule_stands rules number rule is_rule in
      (new.0, (reads.some, word_from rules rule.front (first_position rules number) rule.rest stands (up.before ++ p ∷ []) v spelled up.reads))

  pub front_words : (number : ℕ) (rule : Rule) (v : List ℕ) → IsRule rules number rule → IsFrontWordOf rule v → (p : ℕ) × ReadsLast rules number rule v p ×
      FrontLastOf rules number p
  front_words number rule v is_rule word =
      let first : ℕ = first_position rules number in
      let stands = stands_left (all_sets rules) first (sets_of rule.front) (option_map_or sets_of rule.rest []) (rule_stands rules number rule is_rule) in
      let one = spelled_to (all_sets rules) rule.front first stands v word.2 in
      let long = AllZip-long (Reads rules) one.0 v one.2 in
      let last = ends_with one.0 (λ none. word.1 (nil_from_length v (long ∙ ap length none))) in
      let spelled = subst (λ l. SpellsPositions rule.front first l) last.whole one.1 in
      let more = front_goes_on rules rule.front first rule.rest (lawful_rule rules number rule lawful is_rule).rest (last.front ++ last.last ∷ [])
      spelled in
      let whole : IsSpelled rules number (last.front ++ last.last ∷ more.0) =
      record {
        rule = rule;
        is_rule = is_rule;
        spelled =
            subst (λ l. RuleSpellsPositions rule first l) (append_assoc last.front (last.last ∷ []) more.0) more.1;
      } in (
        last.last,
        reads_last rules number last.last rule v is_rule (record {
          before = last.front;
          after = more.0;
          spelled = whole;
          reads =
              subst (λ l. AllZip (Reads rules) l v) last.whole one.2;
        }),
        record { rule = rule; is_rule = is_rule; looks_ahead = word.0; others = last.front; spelled = spelled },
      )

  pub front_wholes : (number other p : ℕ) (rule : Rule) (v : List ℕ) → IsRule rules number rule → ReadsLast rules number rule v p → FrontLastOf rules other p →
      (number ≡ other) × IsFrontWordOf rule v
  front_wholes number other p rule v is_rule reads last =
      let first : ℕ = first_position rules number in
      let up = reads_up_to rules number p rule v is_rule reads in
      let here : IsFrontSpelled rules other (last.others ++ p ∷ []) = record { rule = last.rule; is_rule = last.is_rule; spelled = last.spelled } in
      let new = exchange_front rules number other p up.before up.after last.others [] up.spelled here in
      let same : number ≡ other = new.0 in
      let front : IsFrontSpelled rules number (up.before ++ p ∷ []) = new.1 in
      let spelled = subst (λ r. SpellsPositions r.front first (up.before ++ p ∷ [])) (same_rule rules number front.rule rule front.is_rule is_rule)
      front.spelled in
      let looks = subst LooksAhead (same_rule rules number last.rule rule (subst (λ n. IsRule rules n last.rule) (sym same) last.is_rule) is_rule)
      last.looks_ahead in
      let stands = stands_left (all_sets rules) first (sets_of rule.front) (option_map_or sets_of rule.rest []) (rule_stands rules number rule is_rule) in
      (same, (looks, reads.some, spelled_from (all_sets rules) rule.front first stands (up.before ++ p ∷ []) v spelled up.reads))
