-- How many brackets are open after some of the tokens.
use Rattle.std.proofs.Common.{◌≡◌, ℕ, ◌+◌, ◌<◌, ◌≤◌, List, [], ◌∷◌, ◌++◌, length, take, slice_get, Some, refl, sym, inl, inr, arith, below_more}
use Rattle.std.proofs.lemmas.List.{take_more}
use Rattle.std.proofs.lemmas.Bool.{cases_order}
use Rattle.std.proofs.lemmas.Option.{get_or_from_slice_get, slice_get_within}
use Rattle.rbbi_lex.specs.declared.token.Token.{Token}
use Rattle.rbbi_lex.specs.declared.token.TokenKind.{TokenKind}
use Rattle.rbbi_lex.specs.declared.token.TokenKind.TheVariants.{ParenOpen}
use Rattle.rbbi_tree.specs.Brackets.{open_after, open_from, IsShallowBefore, IsDeepAt, IsShallow}

open_from-append : (a b : List Token) (d : ℕ) → open_from d (a ++ b) ≡ open_from (open_from d a) b
open_from-append [] b d = refl
open_from-append (t ∷ a) b d = open_from-append a b (open_after t.kind d)

-- one token more
pub counted_more : (ts : List Token) (i d : ℕ) (t : Token) → slice_get ts i ≡ Some t → d ≡ open_from 0 (take i ts) →
    open_after t.kind d ≡ open_from 0 (take (i + 1) ts)
counted_more ts i d t at counted =
    rw (take_more ts i t (slice_get_within ts i t at), get_or_from_slice_get ts i t t at, counted) (sym (open_from-append (take i ts) (t ∷ []) 0))

-- a token opens at most one bracket
pub opens_one : (kind : TokenKind) (d : ℕ) → open_after kind d ≤ d + 1
opens_one ParenOpen d = omega arith
opens_one kind d = omega arith

-- one token more that is shallow
pub shallow_more : (ts : List Token) (i : ℕ) → IsShallowBefore ts i → open_from 0 (take (i + 1) ts) ≤ 64 → IsShallowBefore ts (i + 1)
shallow_more ts i shallow here = below_more (λ j. open_from 0 (take (j + 1) ts) ≤ 64) i shallow here

-- before the first deep token none is deep
pub none_deep : (ts : List Token) (i j : ℕ) → IsShallowBefore ts i → j < i → IsDeepAt ts j → ⊥
none_deep ts i j shallow below (within, deep, before) = let few : open_from 0 (take (j + 1) ts) ≤ 64 = shallow j below in omega arith

pub all_shallow : (ts : List Token) (i : ℕ) → length ts ≤ i → IsShallowBefore ts i → IsShallow ts
all_shallow ts i all shallow k (within, deep, before) = none_deep ts i k shallow (omega arith) (within, deep, before)

-- at most one token is the first deep one
pub deep_is_one : (ts : List Token) (k l : ℕ) → IsDeepAt ts k → IsDeepAt ts l → k ≡ l
deep_is_one ts k l is_k is_l =
    elim (cases_order k l) [
      | inl same ↦ same
      | inr apart ↦ elim apart [
        | inl lt ↦ absurd (none_deep ts l k is_l.2 lt is_k)
        | inr gt ↦ absurd (none_deep ts k l is_k.2 gt is_l)
      ]
    ]
