-- What the machine accepts as a set is one: the tokens read so far, and what may follow, are a set.
use Rattle.std.proofs.Common.{◌≡◌, ℕ, Bool, false, List, [], ◌∷◌, ◌++◌, Option, Some, None, inl, inr, refl, ap, subst}
use Rattle.std.proofs.lemmas.List.{append_assoc}
use Rattle.rbbi_lex.specs.declared.token.Token.{Token}
use Rattle.rbbi_lex.specs.declared.token.TokenKind.{TokenKind}
use Rattle.rbbi_lex.specs.declared.token.TokenKind.TheVariants.{Caret, Hyphen, Amp, Char, SetOpen, SetClose, Name, Prop}
use Rattle.rbbi_tree.specs.declared.syntax.Join.{Join}
use Rattle.rbbi_tree.specs.declared.syntax.Join.TheVariants.{Add, Both, Minus}
use Rattle.rbbi_tree.specs.declared.set_level.SetState.{SetState}
use Rattle.rbbi_tree.specs.declared.set_level.SetState.TheVariants as state
use Rattle.rbbi_tree.specs.Trees.{SetSyntax, PartsTree, PartTree, SetItemTree, set_of, no_parts, part, joined, set_range, set_name, set_property, set_within}
use Rattle.rbbi_tree.specs.Grammar.{token, Spot, opening, behind, elsewhere, IsJoin, hyphen_at, AreParts, IsSet, IsOperand}
use Rattle.rbbi_tree.specs.inner.Sets.{SetLevelTree, OuterSetTree, settled, join_in, ended_parts, character_at, parts_back, new_set_level, outer_set}
use Rattle.rbbi_tree.specs.inner.Sets.{set_resumed, at_set_caret, at_set_hyphen, at_set_amp, at_set_character, at_set_operand, at_set_token}

-- the tokens are the rest of a set after this was read last, and add these parts; a character that is no part yet is among them
abbrev Follows : SetState → List Token → PartsTree → Type 0
Follows state.Opened us more = AreParts opening us more
Follows state.Begun us more = AreParts opening us more
Follows state.Apart us more = AreParts elsewhere us more
Follows (state.Character c place) us more = (bare : Bool) → AreParts elsewhere (token (Char c bare) place ∷ us) more
Follows (state.Ranging c place hyphen) us more = (bare : Bool) → AreParts elsewhere (token (Char c bare) place ∷ token Hyphen hyphen ∷ us) more
Follows state.Operand us more = AreParts behind us more
Follows state.Both us more = (place : ℕ) → AreParts behind (token Amp place ∷ us) more
Follows (state.Minus hyphen) us more = AreParts behind (token Hyphen hyphen ∷ us) more
Follows (state.Last hyphen) us more = AreParts elsewhere (token Hyphen hyphen ∷ us) more

-- right after the bracket nothing else was read
abbrev IsFresh : SetState → List Token → ℕ → Bool → List PartTree → Type 0
IsFresh state.Opened ts place negated parts = (ts ≡ token SetOpen place ∷ []) × (negated ≡ false) × (parts ≡ [])
IsFresh last ts place negated parts = Unit {0}

-- the tokens and all that may follow are a set
abbrev Leads : List Token → ℕ → Bool → List PartTree → SetState → Type 0
Leads ts place negated parts last =
    (us : List Token) (more : PartsTree) → Follows last us more → IsSet place (ts ++ us) (set_of place negated (parts_back parts more))

-- the tokens are the set so far
abbrev pub IsSetRead : List Token → SetLevelTree → Type 0
IsSetRead ts s = IsFresh s.state ts s.place s.negated s.parts × Leads ts s.place s.negated s.parts s.state

-- the tokens, an operand and all that may follow are a set
abbrev pub IsOuterRead : List Token → OuterSetTree → Type 0
IsOuterRead ts o =
    (a : List Token) (at : ℕ) (i : SetItemTree) (us : List Token) (more : PartsTree) → IsOperand at a i → AreParts behind us more →
    IsSet o.place (ts ++ (a ++ us)) (set_of o.place o.negated (parts_back o.parts (part (joined at o.join i) more)))

-- what is the rest after any part is the rest after each
weaken-join : (spot : Spot) (sign : List Token) (join : Join) → IsJoin elsewhere sign join → IsJoin spot sign join
weaken-join spot sign Add h = h
weaken-join spot sign Both (is, h) = absurd is
weaken-join spot sign Minus (is, h) = absurd is

weaken : (spot : Spot) (more : PartsTree) (us : List Token) → AreParts elsewhere us more → AreParts spot us more
weaken spot no_parts us h = h
weaken spot (part first more) us (inl h) = inl h
weaken spot (part first more) us (inr (inl (is, h))) = absurd is
weaken spot (part first more) us (inr (inr (inl h))) = inr (inr (inl h))
weaken spot (part (joined at join i) more) us (inr (inr (inr (a, b, h, (sign, c, h', sign_is, is), others)))) =
    inr (inr (inr (a, b, h, (sign, c, h', weaken-join spot sign join sign_is, is), others)))

-- a lone character before the rest
lone : (c : ℕ) (bare : Bool) (place : ℕ) (us : List Token) (more : PartsTree) → AreParts elsewhere us more →
    AreParts elsewhere (token (Char c bare) place ∷ us) (part (character_at c place) more)
lone c bare place us more h = inr (inr (inl (token (Char c bare) place ∷ [], us, refl, (bare, refl), h)))

-- an operand before the rest
operand_first : (spot : Spot) (at : ℕ) (i : SetItemTree) (a us : List Token) (more : PartsTree) → IsOperand at a i → AreParts behind us more →
    AreParts spot (a ++ us) (part (joined at Add i) more)
operand_first spot at i a us more is h = inr (inr (inr (a, us, refl, ([], a, refl, refl, is), h)))

-- what the parts come to, however they are split
abbrev Before : SetState → List Token → List PartTree → PartsTree → Type 0
Before last us parts all = (m : PartsTree) × Follows last us m × (parts_back parts m ≡ all)

-- more tokens are read
leads_on : (ts us : List Token) (place : ℕ) (negated : Bool) (parts parts' : List PartTree) (last last' : SetState) →
    Leads ts place negated parts last →
    ((vs : List Token) (more : PartsTree) → Follows last' vs more → Before last (us ++ vs) parts (parts_back parts' more)) →
    Leads (ts ++ us) place negated parts' last'
leads_on ts us place negated parts parts' last last' leads back vs more h =
    let (m, follows, same) = back vs more h in
    rw (append_assoc ts us vs) (subst (λ all. IsSet place (ts ++ (us ++ vs)) (set_of place negated all)) same (leads (us ++ vs) m follows))

-- an operand is read where one may stand
before_operand : (last : SetState) (join : Join) (at : ℕ) (i : SetItemTree) (a us : List Token) (parts : List PartTree) (more : PartsTree) →
    join_in last ≡ Some join → IsOperand at a i → AreParts behind us more →
    Before last (a ++ us) parts (parts_back (settled last parts) (part (joined at join i) more))
before_operand state.Opened Add at i a us parts more joins is h = (part (joined at Add i) more, operand_first opening at i a us more is h, refl)
before_operand state.Begun Add at i a us parts more joins is h = (part (joined at Add i) more, operand_first opening at i a us more is h, refl)
before_operand state.Apart Add at i a us parts more joins is h = (part (joined at Add i) more, operand_first elsewhere at i a us more is h, refl)
before_operand state.Operand Add at i a us parts more joins is h = (part (joined at Add i) more, operand_first behind at i a us more is h, refl)
before_operand (state.Character c place) Add at i a us parts more joins is h = (
  part (character_at c place) (part (joined at Add i) more),
  λ bare. lone c bare place (a ++ us) (part (joined at Add i) more) (operand_first elsewhere at i a us more is h),
  refl,
)
before_operand state.Both Both at i a us parts more joins is h = (
  part (joined at Both i) more,
  λ place. inr (inr (inr (token Amp place ∷ a, us, refl, (token Amp place ∷ [], a, refl, (tt, (place, refl)), is), h))),
  refl,
)
before_operand (state.Minus hyphen) Minus at i a us parts more joins is h = (
  part (joined at Minus i) more,
  inr (inr (inr (token Hyphen hyphen ∷ a, us, refl, (token Hyphen hyphen ∷ [], a, refl, (tt, (hyphen, refl)), is), h))),
  refl,
)
before_operand last join at i a us parts more joins is h = absurd (cc)

-- a set is read to its end
pub ends_set : (last : SetState) (close place : ℕ) (negated : Bool) (parts all : List PartTree) (ts : List Token) → Leads ts place negated parts last →
    ended_parts last parts ≡ Some all →
    IsSet place (ts ++ token SetClose close ∷ []) (set_of place negated (parts_back all no_parts))
ends_set last close place negated parts all ts leads ends =
    let (m, follows, same) = go last ends in
    subst (λ all. IsSet place (ts ++ token SetClose close ∷ []) (set_of place negated all)) same (leads (token SetClose close ∷ []) m follows)
  where
    one : (all : List PartTree) → Some parts ≡ Some all → parts_back parts no_parts ≡ parts_back all no_parts
    one all h = let e : parts ≡ all = cc in ap (λ ps. parts_back ps no_parts) e

    go : (last : SetState) → ended_parts last parts ≡ Some all → Before last (token SetClose close ∷ []) parts (parts_back all no_parts)
    go (state.Character c at) h = (
      part (character_at c at) no_parts,
      λ bare. lone c bare at (token SetClose close ∷ []) no_parts (close, refl),
      let e : character_at c at ∷ parts ≡ all = cc in ap (λ ps. parts_back ps no_parts) e,
    )
    go (state.Ranging c at hyphen) h = (
      part (character_at c at) (part (hyphen_at hyphen) no_parts),
      λ bare. lone c bare at (token Hyphen hyphen ∷ token SetClose close ∷ []) (part (hyphen_at hyphen) no_parts) (inl (hyphen, close, refl, refl)),
      let e : hyphen_at hyphen ∷ character_at c at ∷ parts ≡ all = cc in ap (λ ps. parts_back ps no_parts) e,
    )
    go (state.Minus hyphen) h = (
      part (hyphen_at hyphen) no_parts,
      inl (hyphen, close, refl, refl),
      let e : hyphen_at hyphen ∷ parts ≡ all = cc in ap (λ ps. parts_back ps no_parts) e,
    )
    go (state.Last hyphen) h = (
      part (hyphen_at hyphen) no_parts,
      inl (hyphen, close, refl, refl),
      let e : hyphen_at hyphen ∷ parts ≡ all = cc in ap (λ ps. parts_back ps no_parts) e,
    )
    go state.Both h = absurd (cc)
    go last h = (no_parts, (close, refl), one all h)

-- a set begins
pub opens_set : (place : ℕ) → IsSetRead (token SetOpen place ∷ []) (new_set_level place)
opens_set place = ((refl, refl, refl), λ us more h. ([], us, refl, refl, refl, h))

-- a set begins in another one
pub opens_inner : (ts : List Token) (s : SetLevelTree) (join : Join) → IsSetRead ts s → join_in s.state ≡ Some join → IsOuterRead ts (outer_set s join)
opens_inner ts s join (with_head_alone, leads) joins a at i us more is h =
    let (m, follows, same) = before_operand s.state join at i a us s.parts more joins is h in
    subst (λ all. IsSet s.place (ts ++ (a ++ us)) (set_of s.place s.negated all)) same (leads (a ++ us) m follows)

-- a set ends in another one
pub resumes : (ts us : List Token) (at : ℕ) (t : SetSyntax) (o : OuterSetTree) → IsOuterRead ts o → IsSet at us t → IsSetRead (ts ++ us) (set_resumed at t o)
resumes ts us at t o outer is = (tt, λ vs more h. rw (append_assoc ts us vs) (outer us at (set_within t) vs more is h))

-- an operand of one token is read
pub reads_operand : (ts a : List Token) (at : ℕ) (i : SetItemTree) (s : SetLevelTree) (join : Join) → IsSetRead ts s → join_in s.state ≡ Some join →
    IsOperand at a i →
    IsSetRead (ts ++ a) (record { place = s.place; negated = s.negated; parts = joined at join i ∷ settled s.state s.parts; state = state.Operand })
reads_operand ts a at i s join (with_head_alone, leads) joins is = (
  tt,
  leads_on ts a s.place s.negated s.parts (joined at join i ∷ settled s.state s.parts) s.state state.Operand leads
      (λ vs more h. before_operand s.state join at i a vs s.parts more joins is h),
)

abbrev made : ℕ → Bool → List PartTree → SetState → SetLevelTree
made place negated parts last = record { place = place; negated = negated; parts = parts; state = last }

-- the tokens are the set so far, where there is one
abbrev pub IsStillSet : List Token → Option SetLevelTree → Type 0
IsStillSet ts None = Unit {0}
IsStillSet ts (Some s) = IsSetRead ts s

-- a character is read
reads_character : (last : SetState) (c : ℕ) (bare : Bool) (at place : ℕ) (negated : Bool) (parts : List PartTree) (ts : List Token) →
    IsSetRead ts (made place negated parts last) →
    IsStillSet (ts ++ token (Char c bare) at ∷ []) (at_set_character c at last (made place negated parts last))
reads_character (state.Character d on) c bare at place negated parts ts (with_head_alone, leads) = (
  tt,
  leads_on ts (token (Char c bare) at ∷ []) place negated parts (character_at d on ∷ parts) (state.Character d on) (state.Character c at) leads
      (λ vs more h. (part (character_at d on) more, λ bare'. lone d bare' on (token (Char c bare) at ∷ vs) more (h bare), refl)),
)
reads_character (state.Ranging d on hyphen) c bare at place negated parts ts (with_head_alone, leads) = (
  tt,
  leads_on ts (token (Char c bare) at ∷ []) place negated parts (joined on Add (set_range d c) ∷ parts) (state.Ranging d on hyphen) state.Apart leads
      (λ vs more h. (
        part (joined on Add (set_range d c)) more,
        λ bare'. inr (inr (inl (token (Char d bare') on ∷ token Hyphen hyphen ∷ token (Char c bare) at ∷ [], vs, refl, (bare', bare, hyphen, at, refl), h))),
        refl,
      )),
)
reads_character state.Both c bare at place negated parts ts read = tt
reads_character (state.Minus hyphen) c bare at place negated parts ts read = tt
reads_character (state.Last hyphen) c bare at place negated parts ts read = tt
reads_character last c bare at place negated parts ts (with_head_alone, leads) = (
  tt,
  leads_on ts (token (Char c bare) at ∷ []) place negated parts parts last (state.Character c at) leads
      (λ vs more h. (more, weaken _ more (token (Char c bare) at ∷ vs) (h bare), refl)),
)

-- a hyphen that stands for itself right after the opening
leading : (hyphen : ℕ) (us : List Token) (more : PartsTree) → AreParts elsewhere us more →
    AreParts opening (token Hyphen hyphen ∷ us) (part (hyphen_at hyphen) more)
leading hyphen us more h = inr (inl (tt, (hyphen, us, refl, refl, h)))

-- a hyphen is read
reads_hyphen : (last : SetState) (at place : ℕ) (negated : Bool) (parts : List PartTree) (ts : List Token) → IsSetRead ts (made place negated parts last) →
    IsStillSet (ts ++ token Hyphen at ∷ []) (at_set_hyphen at last (made place negated parts last))
reads_hyphen state.Opened at place negated parts ts (with_head_alone, leads) = (
  tt,
  leads_on ts (token Hyphen at ∷ []) place negated parts (hyphen_at at ∷ parts) state.Opened state.Apart leads
      (λ vs more h. (part (hyphen_at at) more, leading at vs more h, refl)),
)
reads_hyphen state.Begun at place negated parts ts (with_head_alone, leads) = (
  tt,
  leads_on ts (token Hyphen at ∷ []) place negated parts (hyphen_at at ∷ parts) state.Begun state.Apart leads
      (λ vs more h. (part (hyphen_at at) more, leading at vs more h, refl)),
)
reads_hyphen state.Apart at place negated parts ts (with_head_alone, leads) =
    (tt, leads_on ts (token Hyphen at ∷ []) place negated parts parts state.Apart (state.Last at) leads (λ vs more h. (more, h, refl)))
reads_hyphen (state.Character d on) at place negated parts ts (with_head_alone, leads) =
    (tt, leads_on ts (token Hyphen at ∷ []) place negated parts parts (state.Character d on) (state.Ranging d on at) leads (λ vs more h. (more, h, refl)))
reads_hyphen state.Operand at place negated parts ts (with_head_alone, leads) =
    (tt, leads_on ts (token Hyphen at ∷ []) place negated parts parts state.Operand (state.Minus at) leads (λ vs more h. (more, h, refl)))
reads_hyphen last at place negated parts ts read = tt

-- an ampersand is read
reads_amp : (last : SetState) (at place : ℕ) (negated : Bool) (parts : List PartTree) (ts : List Token) → IsSetRead ts (made place negated parts last) →
    IsStillSet (ts ++ token Amp at ∷ []) (at_set_amp last (made place negated parts last))
reads_amp state.Operand at place negated parts ts (with_head_alone, leads) =
    (tt, leads_on ts (token Amp at ∷ []) place negated parts parts state.Operand state.Both leads (λ vs more h. (more, h at, refl)))
reads_amp last at place negated parts ts read = tt

-- a caret is read
reads_caret : (last : SetState) (at place : ℕ) (negated : Bool) (parts : List PartTree) (ts : List Token) → IsSetRead ts (made place negated parts last) →
    IsStillSet (ts ++ token Caret at ∷ []) (at_set_caret last (made place negated parts last))
reads_caret state.Opened at place negated parts ts ((begins, positive, none), leads) =
    rw (begins, none) (tt, λ us more h. (token Caret at ∷ [], us, refl, refl, (at, refl), h))
reads_caret last at place negated parts ts read = tt

-- an operand of one token is read, where one may stand
reads_one : (at : ℕ) (i : SetItemTree) (ts a : List Token) (s : SetLevelTree) → IsSetRead ts s → IsOperand at a i →
    IsStillSet (ts ++ a) (at_set_operand at i (join_in s.state) s)
reads_one at i ts a s read is = go (join_in s.state) refl
  where
    go : (o : Option Join) → join_in s.state ≡ o → IsStillSet (ts ++ a) (at_set_operand at i o s)
    go None joins = tt
    go (Some join) joins = reads_operand ts a at i s join read joins is

-- a token that neither begins nor ends a set is read
pub reads_token : (kind : TokenKind) (at : ℕ) (ts : List Token) (s : SetLevelTree) → IsSetRead ts s →
    IsStillSet (ts ++ token kind at ∷ []) (at_set_token kind at s)
reads_token Caret at ts s read = reads_caret s.state at s.place s.negated s.parts ts read
reads_token Hyphen at ts s read = reads_hyphen s.state at s.place s.negated s.parts ts read
reads_token Amp at ts s read = reads_amp s.state at s.place s.negated s.parts ts read
reads_token (Char c bare) at ts s read = reads_character s.state c bare at s.place s.negated s.parts ts read
reads_token (Name word) at ts s read = reads_one at (set_name word) ts (token (Name word) at ∷ []) s read refl
reads_token (Prop negated word value) at ts s read = reads_one at (set_property negated word value) ts (token (Prop negated word value) at ∷ []) s read refl
reads_token kind at ts s read = tt
