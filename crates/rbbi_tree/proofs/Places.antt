-- Where the machine is stuck, no file goes on; and every file so far can be finished.
use Rattle.std.proofs.Common.{◌≡◌, ℕ, zero, suc, ◌+◌, List, [], ◌∷◌, ◌++◌, length, take, slice_get, Option, Some, None, option_and_then, refl, sym, ◌∙◌, ap}
use Rattle.std.proofs.Common.{subst, inl, inr, ◌≤◌, arith}
use Rattle.std.proofs.lemmas.List.{append_assoc, take_all, take_more}
use Rattle.std.proofs.lemmas.Bool.{cases_order}
use Rattle.std.proofs.lemmas.Option.{get_or_from_slice_get, slice_get_within, slice_get_past}
use Rattle.rbbi_lex.specs.declared.token.Token.{Token}
use Rattle.rbbi_tree.specs.Grammar.{IsFile}
use Rattle.rbbi_tree.specs.inner.Statements.{HeadTree, between, Progress, after, advance, run}
use Rattle.rbbi_tree.specs.Brackets.{IsShallowBefore, open_from}
use Rattle.rbbi_tree.specs.Refusals.{BeginsFile, IsSyntaxAt, place_or_end, IsRefusalOf}
use Rattle.rbbi_tree.specs.inner.SetStates.{IsStuckAt}
use Rattle.rbbi_tree.specs.declared.error.TreeErr.{TreeErr}
use Rattle.rbbi_tree.specs.declared.error.TreeErr.TheVariants.{Syntax, TooDeep, Memory}
use Rattle.rbbi_tree.proofs.Runs.{run-append, run-on}
use Rattle.rbbi_tree.proofs.Complete.{run_file}
use Rattle.rbbi_tree.proofs.Sound.{run_is_file, run_is_reading}
use Rattle.rbbi_tree.proofs.Finish.{finish}
use Rattle.rbbi_tree.proofs.Depth.{none_deep}

-- what the machine reads begins a file
begins_file : (ts : List Token) (p : Progress) → run ts (after []) ≡ Some p → BeginsFile ts
begins_file ts p h =
    let (more, (q, ran, none)) = finish p.sets p.head p.statements p.groups p.level (λ sets open_ones. run_is_reading ts p sets h open_ones) in
    (more, q.statements, run_is_file (ts ++ more) q (run-on ts more (after []) p h ∙ ran) none)

-- where the machine is stuck, no file begins so
begins_none : (ts : List Token) → run ts (after []) ≡ None → ¬ BeginsFile ts
begins_none ts h (more, statements, file) =
    let stuck : run (ts ++ more) (after []) ≡ None = run-append ts more (after []) ∙ ap (option_and_then (run more)) h in
    let fine : run (ts ++ more) (after []) ≡ Some (after statements) = run_file statements (ts ++ more) [] file in
    cc

stuck_after : (ts : List Token) (i : ℕ) (t : Token) (p : Progress) → slice_get ts i ≡ Some t → run (take i ts) (after []) ≡ Some p → advance t p ≡ None →
    run (take (i + 1) ts) (after []) ≡ None
stuck_after ts i t p at h stuck =
    rw (take_more ts i t (slice_get_within ts i t at), get_or_from_slice_get ts i t t at)
    (run-on (take i ts) (t ∷ []) (after []) p h ∙ ap (option_and_then (run [])) stuck)

-- a refusal where the machine is stuck is right
pub refused_stuck : (ts : List Token) (end i : ℕ) (t : Token) (p : Progress) (e : TreeErr) → slice_get ts i ≡ Some t → run (take i ts) (after []) ≡ Some p →
    IsShallowBefore ts i →
    IsStuckAt t.place (advance t p) e → IsRefusalOf ts end e
refused_stuck ts end i t p (Syntax place) at h shallow (stuck, here) = (
  i,
  inl (slice_get_within ts i t at, begins_file (take i ts) p h, begins_none (take (i + 1) ts) (stuck_after ts i t p at h stuck)),
  here ∙ ap (λ o. place_or_end o end) (sym at),
  λ j below. none_deep ts i j shallow below,
)
refused_stuck ts end i t p (TooDeep place) at h shallow stuck = absurd stuck
refused_stuck ts end i t p Memory at h shallow stuck = tt

-- the machine's run over one token more
pub run_more : (ts : List Token) (i : ℕ) (t : Token) (p q : Progress) → slice_get ts i ≡ Some t → run (take i ts) (after []) ≡ Some p → advance t p ≡ Some q →
    run (take (i + 1) ts) (after []) ≡ Some q
run_more ts i t p q at h step =
    rw (take_more ts i t (slice_get_within ts i t at), get_or_from_slice_get ts i t t at)
    (run-on (take i ts) (t ∷ []) (after []) p h ∙ ap (option_and_then (run [])) step)

-- a refusal at the first bracket that makes 65 open ones is right
pub refused_deep : (ts : List Token) (end i : ℕ) (t : Token) (q : Progress) → slice_get ts i ≡ Some t → run (take (i + 1) ts) (after []) ≡ Some q →
    IsShallowBefore ts i →
    open_from 0 (take (i + 1) ts) ≡ 65 → IsRefusalOf ts end (TooDeep t.place)
refused_deep ts end i t q at h shallow deep =
    (i, (slice_get_within ts i t at, deep, shallow), ap (λ o. place_or_end o end) (sym at), begins_file (take (i + 1) ts) q h)

abbrev head_in : Option Progress → Option HeadTree
head_in None = None
head_in (Some p) = Some p.head

-- a refusal at the end is right where a run ends within a statement
pub refused_within : (ts : List Token) (end : ℕ) (p : Progress) → run ts (after []) ≡ Some p → ¬ (p.head ≡ between) → IsShallowBefore ts (length ts) →
    IsRefusalOf ts end (Syntax end)
refused_within ts end p h within shallow = (
  length ts,
  inr (refl, begins_file ts p h, λ statements file. within (let e : Some p.head ≡ Some between = ap head_in (sym h ∙ run_file statements ts [] file) in cc)),
  ap (λ o. place_or_end o end) (sym (slice_get_past ts (length ts) (omega arith))),
  λ j below. none_deep ts (length ts) j shallow below,
)

-- the run over all tokens
pub run_whole : (ts : List Token) (i : ℕ) (p : Progress) → length ts ≤ i → run (take i ts) (after []) ≡ Some p → run ts (after []) ≡ Some p
run_whole ts i p all h = subst (λ us. run us (after []) ≡ Some p) (take_all i ts all) h

-- a shorter part begins a longer one
parts : (i j : ℕ) (ts : List Token) → i ≤ j → (rest : List Token) × (take j ts ≡ take i ts ++ rest)
parts zero j ts le = (take j ts, refl)
parts (suc i) zero ts le = absurd (omega arith)
parts (suc i) (suc j) [] le = ([], refl)
parts (suc i) (suc j) (t ∷ ts) le =
    let (rest, is) = parts i j ts (omega arith) in
    (rest, ap (λ us. t ∷ us) is)

-- what begins a file does so up to each of its tokens
pub begins_part : (ts : List Token) (i j : ℕ) → i ≤ j → BeginsFile (take j ts) → BeginsFile (take i ts)
begins_part ts i j le (more, statements, file) =
    let (rest, is) = parts i j ts le in
    (rest ++ more, statements, subst (λ us. IsFile us statements) (ap (λ us. us ++ more) is ∙ append_assoc (take i ts) rest more) file)

-- a list of tokens has its fault of syntax at one place at most
pub fault_is_one : (ts : List Token) (k l : ℕ) → IsSyntaxAt ts k → IsSyntaxAt ts l → k ≡ l
fault_is_one ts k l (inl (k_in, k_begins, k_stuck)) (inl (l_in, l_begins, l_stuck)) =
    elim (cases_order k l) [
      | inl same ↦ same
      | inr apart ↦ elim apart [
        | inl lt ↦ absurd (k_stuck (begins_part ts (k + 1) l (omega arith) l_begins))
        | inr gt ↦ absurd (l_stuck (begins_part ts (l + 1) k (omega arith) k_begins))
      ]
    ]
fault_is_one ts k l (inl (k_in, k_begins, k_stuck)) (inr (l_at, begins, none)) =
    absurd (k_stuck (begins_part ts (k + 1) l (omega arith) (subst BeginsFile (sym (take_all l ts (omega arith))) begins)))
fault_is_one ts k l (inr (k_at, begins, none)) (inl (l_in, l_begins, l_stuck)) =
    absurd (l_stuck (begins_part ts (l + 1) k (omega arith) (subst BeginsFile (sym (take_all k ts (omega arith))) begins)))
fault_is_one ts k l (inr (k_at, begins, none)) (inr (l_at, begins', none')) = k_at ∙ sym l_at
