-- Every set is accepted: the machine's run over its tokens ends after it, with its tree.
use Rattle.std.proofs.Common.{◌≡◌, ℕ, Bool, true, false, List, [], ◌∷◌, ◌++◌, Option, Some, inl, inr, refl, ◌∙◌, ap}
use Rattle.rbbi_lex.specs.declared.token.Token.{Token}
use Rattle.rbbi_lex.specs.declared.token.TokenKind.TheVariants.{Hyphen, Char, SetClose}
use Rattle.rbbi_tree.specs.declared.syntax.Join.{Join}
use Rattle.rbbi_tree.specs.declared.syntax.Join.TheVariants.{Add, Both, Minus}
use Rattle.rbbi_tree.specs.declared.set_level.SetState.{SetState}
use Rattle.rbbi_tree.specs.declared.set_level.SetState.TheVariants as state
use Rattle.rbbi_tree.specs.Trees.{SetSyntax, PartsTree, PartTree, SetItemTree, set_of, no_parts, part, joined, set_character, set_range, set_name, set_property}
use Rattle.rbbi_tree.specs.Trees.{set_within}
use Rattle.rbbi_tree.specs.Grammar.{token, IsCaret, Spot, opening, behind, elsewhere, IsOpening, IsJoin, AreCharactersPart, hyphen_at, AreParts, IsOperand}
use Rattle.rbbi_tree.specs.inner.Sets.{SetLevelTree, OuterSetTree, SetsTree, settled, join_in, parts_back, outer_set}
use Rattle.rbbi_tree.specs.inner.Statements.{Progress, with_sets, set_ended, run}
use Rattle.rbbi_tree.proofs.Runs.{run-on}

-- within this set, in these
abbrev pub in_set : ℕ → Bool → List PartTree → SetState → List OuterSetTree → Progress → Progress
in_set place negated parts state outers p =
    with_sets (Some (record { innermost = record { place = place; negated = negated; parts = parts; state = state }; outers = outers })) p

-- what may have been read last where a part begins there
abbrev Fits : Spot → SetState → Type 0
Fits opening state.Opened = Unit {0}
Fits opening state.Begun = Unit {0}
Fits behind state.Operand = Unit {0}
Fits elsewhere state.Apart = Unit {0}
Fits elsewhere (state.Character c place) = Unit {0}
Fits spot last = ⊥

-- which sets are open makes no difference to the end of a set
ended-sets : (place : ℕ) (t : SetSyntax) (outers : List OuterSetTree) (sets : Option SetsTree) (p : Progress) →
    set_ended place t outers (with_sets sets p) ≡ set_ended place t outers p
ended-sets place t [] sets p = refl
ended-sets place t (o ∷ outers) sets p = refl

run_end : (spot : Spot) (last : SetState) (close place : ℕ) (negated : Bool) (parts : List PartTree) (outers : List OuterSetTree) (p : Progress) →
    Fits spot last →
    run (token SetClose close ∷ []) (in_set place negated parts last outers p) ≡ Some
    (set_ended place (set_of place negated (parts_back (settled last parts) no_parts)) outers p)
run_end opening state.Opened close place negated parts outers p fits = ap Some (ended-sets place (set_of place negated (parts_back parts no_parts)) outers _ p)
run_end opening state.Begun close place negated parts outers p fits = ap Some (ended-sets place (set_of place negated (parts_back parts no_parts)) outers _ p)
run_end behind state.Operand close place negated parts outers p fits = ap Some (ended-sets place (set_of place negated (parts_back parts no_parts)) outers _ p)
run_end elsewhere state.Apart close place negated parts outers p fits = ap Some (ended-sets place (set_of place negated (parts_back parts no_parts)) outers _ p)
run_end elsewhere (state.Character c at) close place negated parts outers p fits =
    ap Some (ended-sets place (set_of place negated (parts_back parts (part (joined at Add (set_character c)) no_parts))) outers _ p)
run_end spot last close place negated parts outers p fits = absurd fits

run_last_hyphen : (spot : Spot) (last : SetState) (hyphen close place : ℕ) (negated : Bool) (parts : List PartTree) (outers : List OuterSetTree)
    (p : Progress) → Fits spot last →
    run (token Hyphen hyphen ∷ token SetClose close ∷ []) (in_set place negated parts last outers p)
    ≡ Some (set_ended place (set_of place negated (parts_back (settled last parts) (part (hyphen_at hyphen) no_parts))) outers p)
run_last_hyphen opening state.Opened hyphen close place negated parts outers p fits =
    ap Some (ended-sets place (set_of place negated (parts_back parts (part (hyphen_at hyphen) no_parts))) outers _ p)
run_last_hyphen opening state.Begun hyphen close place negated parts outers p fits =
    ap Some (ended-sets place (set_of place negated (parts_back parts (part (hyphen_at hyphen) no_parts))) outers _ p)
run_last_hyphen behind state.Operand hyphen close place negated parts outers p fits =
    ap Some (ended-sets place (set_of place negated (parts_back parts (part (hyphen_at hyphen) no_parts))) outers _ p)
run_last_hyphen elsewhere state.Apart hyphen close place negated parts outers p fits =
    ap Some (ended-sets place (set_of place negated (parts_back parts (part (hyphen_at hyphen) no_parts))) outers _ p)
run_last_hyphen elsewhere (state.Character c at) hyphen close place negated parts outers p fits =
    ap Some (ended-sets place (set_of place negated (parts_back parts (part (joined at Add (set_character c)) (part (hyphen_at hyphen) no_parts)))) outers _ p)
run_last_hyphen spot last hyphen close place negated parts outers p fits = absurd fits

run_first_hyphen : (spot : Spot) (last : SetState) (hyphen place : ℕ) (negated : Bool) (parts : List PartTree) (rest : List Token) (outers : List OuterSetTree)
    (p : Progress) → IsOpening spot → Fits spot last →
    run (token Hyphen hyphen ∷ rest) (in_set place negated parts last outers p) ≡ run rest
    (in_set place negated (hyphen_at hyphen ∷ settled last parts) state.Apart outers p)
run_first_hyphen opening state.Opened hyphen place negated parts rest outers p is fits = refl
run_first_hyphen opening state.Begun hyphen place negated parts rest outers p is fits = refl
run_first_hyphen opening last hyphen place negated parts rest outers p is fits = absurd fits
run_first_hyphen behind last hyphen place negated parts rest outers p is fits = absurd is
run_first_hyphen elsewhere last hyphen place negated parts rest outers p is fits = absurd is

run_character : (spot : Spot) (last : SetState) (c : ℕ) (bare : Bool) (at place : ℕ) (negated : Bool) (parts : List PartTree) (rest : List Token)
    (outers : List OuterSetTree) (p : Progress) → Fits spot last →
    run (token (Char c bare) at ∷ rest) (in_set place negated parts last outers p) ≡ run rest
    (in_set place negated (settled last parts) (state.Character c at) outers p)
run_character opening state.Opened c bare at place negated parts rest outers p fits = refl
run_character opening state.Begun c bare at place negated parts rest outers p fits = refl
run_character behind state.Operand c bare at place negated parts rest outers p fits = refl
run_character elsewhere state.Apart c bare at place negated parts rest outers p fits = refl
run_character elsewhere (state.Character d on) c bare at place negated parts rest outers p fits = refl
run_character spot last c bare at place negated parts rest outers p fits = absurd fits

-- characters are read, and may be parts or wait to be
run_characters : (first : PartTree) (a rest : List Token) (spot : Spot) (last : SetState) (place : ℕ) (negated : Bool) (parts : List PartTree)
    (outers : List OuterSetTree) (p : Progress) →
    AreCharactersPart a first → Fits spot last →
    (last' : SetState) × (parts' : List PartTree) × Fits elsewhere last' × (settled last' parts' ≡ first ∷ settled last parts)
    × (run (a ++ rest) (in_set place negated parts last outers p) ≡ run rest (in_set place negated parts' last' outers p))
run_characters (joined at Add (set_character c)) a rest spot last place negated parts outers p (bare, h) fits =
    (state.Character c at, settled last parts, tt, refl, rw h (run_character spot last c bare at place negated parts rest outers p fits))
run_characters (joined at Add (set_range c d)) a rest spot last place negated parts outers p (bare, bare', hyphen, end, h) fits = (
  state.Apart,
  joined at Add (set_range c d) ∷ settled last parts,
  tt,
  refl,
  rw h (run_character spot last c bare at place negated parts (token Hyphen hyphen ∷ token (Char d bare') end ∷ rest) outers p fits),
)
run_characters first a rest spot last place negated parts outers p is fits = absurd is

join-fits : (spot : Spot) (last : SetState) → Fits spot last → join_in last ≡ Some Add
join-fits opening state.Opened fits = refl
join-fits opening state.Begun fits = refl
join-fits behind state.Operand fits = refl
join-fits elsewhere state.Apart fits = refl
join-fits elsewhere (state.Character c at) fits = refl
join-fits spot last fits = absurd fits

-- the sign of a join is read
run_join : (join : Join) (sign rest : List Token) (spot : Spot) (last : SetState) (place : ℕ) (negated : Bool) (parts : List PartTree)
    (outers : List OuterSetTree) (p : Progress) →
    IsJoin spot sign join → Fits spot last →
    (last' : SetState) × (parts' : List PartTree) × (join_in last' ≡ Some join) × (settled last' parts' ≡ settled last parts)
    × (run (sign ++ rest) (in_set place negated parts last outers p) ≡ run rest (in_set place negated parts' last' outers p))
run_join Add sign rest spot last place negated parts outers p h fits = (last, parts, join-fits spot last fits, refl, rw h refl)
run_join Both sign rest behind state.Operand place negated parts outers p (is, (at, h)) fits = (state.Both, parts, refl, refl, rw h refl)
run_join Minus sign rest behind state.Operand place negated parts outers p (is, (at, h)) fits = (state.Minus at, parts, refl, refl, rw h refl)
run_join join sign rest behind last place negated parts outers p h fits = absurd fits
run_join join sign rest spot last place negated parts outers p (is, h) fits = absurd is

-- what was read last after a set's opening
abbrev begun_state : Bool → SetState
begun_state true = state.Begun
begun_state false = state.Opened

begun-fits : (negated : Bool) → Fits opening (begun_state negated)
begun-fits true = tt
begun-fits false = tt

begun-settled : (negated : Bool) → settled (begun_state negated) [] ≡ []
begun-settled true = refl
begun-settled false = refl

run_caret : (negated : Bool) (caret rest : List Token) (place : ℕ) (outers : List OuterSetTree) (p : Progress) → IsCaret caret negated →
    run (caret ++ rest) (in_set place false [] state.Opened outers p) ≡ run rest (in_set place negated [] (begun_state negated) outers p)
run_caret true caret rest place outers p (at, h) = rw h refl
run_caret false caret rest place outers p h = rw h refl

mutual
  -- the parts of a set and its end are read
  run_parts : (all : PartsTree) (ts : List Token) (spot : Spot) (last : SetState) (place : ℕ) (negated : Bool) (parts : List PartTree)
      (outers : List OuterSetTree) (p : Progress) →
      AreParts spot ts all → Fits spot last →
      run ts (in_set place negated parts last outers p) ≡ Some (set_ended place (set_of place negated (parts_back (settled last parts) all)) outers p)
  run_parts no_parts ts spot last place negated parts outers p (close, h) fits = rw h (run_end spot last close place negated parts outers p fits)
  run_parts (part first no_parts) ts spot last place negated parts outers p (inl (hyphen, close, h, is)) fits =
      rw (h, is) (run_last_hyphen spot last hyphen close place negated parts outers p fits)
  run_parts (part first (part next more)) ts spot last place negated parts outers p (inl is) fits = absurd is
  run_parts (part first more) ts spot last place negated parts outers p (inr (inl (op, (hyphen, rest, h, is, others)))) fits =
      rw (h, is) (run_first_hyphen spot last hyphen place negated parts rest outers p op fits
      ∙ run_parts more rest elsewhere state.Apart place negated (hyphen_at hyphen ∷ settled last parts) outers p others tt)
  run_parts (part first more) ts spot last place negated parts outers p (inr (inr (inl (a, b, h, is, others)))) fits =
      let (last', parts', fits', same, ran) = run_characters first a b spot last place negated parts outers p is fits in
      rw h (ran ∙ run_parts more b elsewhere last' place negated parts' outers p others fits'
      ∙ ap (λ ps. Some (set_ended place (set_of place negated (parts_back ps more)) outers p)) same)
  run_parts (part (joined at join i) more) ts spot last place negated parts outers p (inr (inr (inr (a, b, h, (sign, c, h', sign_is, is), others)))) fits =
      let (last', parts', joins, same, ran) = run_join join sign c spot last place negated parts outers p sign_is fits in
      let read = run_operand i c at join last' place negated parts' outers p is joins in
      rw (h, h') (run-on (sign ++ c) b (in_set place negated parts last outers p) _ (ran ∙ read)
      ∙ run_parts more b behind state.Operand place negated (joined at join i ∷ settled last' parts') outers p others tt
      ∙ ap (λ ps. Some (set_ended place (set_of place negated (parts_back ps (part (joined at join i) more))) outers p)) same)

  -- an operand of a set is read
  run_operand : (i : SetItemTree) (ts : List Token) (at : ℕ) (join : Join) (last : SetState) (place : ℕ) (negated : Bool) (parts : List PartTree)
      (outers : List OuterSetTree) (p : Progress) →
      IsOperand at ts i → join_in last ≡ Some join →
      run ts (in_set place negated parts last outers p) ≡ Some (in_set place negated (joined at join i ∷ settled last parts) state.Operand outers p)
  run_operand (set_name word) ts at join last place negated parts outers p is joins = rw (is, joins) refl
  run_operand (set_property n word value) ts at join last place negated parts outers p is joins = rw (is, joins) refl
  run_operand (set_within (set_of on n inner)) ts at join last place negated parts outers p (caret, rest, h, here, caret_is, others) joins =
      let level : SetLevelTree = record { place = place; negated = negated; parts = parts; state = last } in
      rw (h, here, joins) (run_caret n caret rest at (outer_set level join ∷ outers) p caret_is
      ∙ run_parts inner rest opening (begun_state n) at n [] (outer_set level join ∷ outers) p others (begun-fits n)
      ∙ ap (λ ps. Some (set_ended at (set_of at n (parts_back ps inner)) (outer_set level join ∷ outers) p)) (begun-settled n))
  run_operand i ts at join last place negated parts outers p is joins = absurd is

-- a set is read after its bracket
pub run_set : (negated : Bool) (parts : PartsTree) (caret rest : List Token) (place : ℕ) (p : Progress) → IsCaret caret negated → AreParts opening rest parts →
    run (caret ++ rest) (in_set place false [] state.Opened [] p) ≡ Some (set_ended place (set_of place negated parts) [] p)
run_set negated parts caret rest place p caret_is others =
    run_caret negated caret rest place [] p caret_is ∙ run_parts parts rest opening (begun_state negated) place negated [] [] p others (begun-fits negated)
    ∙ ap (λ ps. Some (set_ended place (set_of place negated (parts_back ps parts)) [] p)) (begun-settled negated)
