-- A list of tokens is a file, or has one fault.
use Rattle.std.proofs.Common.{◌≡◌, ℕ, zero, suc, ◌+◌, ◌<◌, ◌≤◌, List, [], length, take, slice_get, Option, Some, None, ◌⊎◌, inl, inr, refl}
use Rattle.std.proofs.Common.{sym, ◌∙◌, ap, subst, arith}
use Rattle.std.proofs.lemmas.Bool.{cases_lt}
use Rattle.std.proofs.lemmas.List.{append-nil, take_all}
use Rattle.std.proofs.lemmas.Option.{slice_get_cases}
use Rattle.rbbi_lex.specs.declared.token.Token.{Token}
use Rattle.rbbi_tree.specs.Trees.{StatementTree}
use Rattle.rbbi_tree.specs.Grammar.{IsFile}
use Rattle.rbbi_tree.specs.inner.Statements.{HeadTree, between, Progress, after, advance, run}
use Rattle.rbbi_tree.specs.Brackets.{IsDeepAt, IsShallow, IsShallowBefore, open_from}
use Rattle.rbbi_tree.specs.Refusals.{BeginsFile, IsSyntaxAt, place_or_end, IsFaultOf}
use Rattle.rbbi_tree.specs.declared.error.TreeErr.{TreeErr}
use Rattle.rbbi_tree.specs.declared.error.TreeErr.TheVariants.{Syntax, TooDeep, Memory}
use Rattle.rbbi_tree.proofs.Sound.{run_is_file}
use Rattle.rbbi_tree.proofs.Depth.{counted_more, opens_one, shallow_more, all_shallow, deep_is_one}
use Rattle.rbbi_tree.proofs.Places.{refused_stuck, refused_deep, refused_within, run_more, run_whole, begins_part, fault_is_one}

-- the machine reads so many of the tokens, and no bracket among them is too deep
abbrev IsRead : List Token → ℕ → Type 0
IsRead ts i = (p : Progress) × (run (take i ts) (after []) ≡ Some p) × IsShallowBefore ts i × (open_from 0 (take i ts) ≤ 64)

abbrev HasFault : List Token → ℕ → Type 0
HasFault ts end = (e : TreeErr) × IsFaultOf ts end e

read_token : (ts : List Token) (end i : ℕ) (t : Token) (p : Progress) (after_t : Option Progress) → slice_get ts i ≡ Some t →
    run (take i ts) (after []) ≡ Some p →
    IsShallowBefore ts i → open_from 0 (take i ts) ≤ 64 → advance t p ≡ after_t → IsRead ts (i + 1) ⊎ HasFault ts end
read_token ts end i t p None at ran shallow few stuck = inr (Syntax t.place, (refused_stuck ts end i t p (Syntax t.place) at ran shallow (stuck, refl), refl))
read_token ts end i t p (Some q) at ran shallow few step =
    let ran_on = run_more ts i t p q at ran step in
    let counted = counted_more ts i (open_from 0 (take i ts)) t at refl in
    let one = opens_one t.kind (open_from 0 (take i ts)) in
    elim (cases_lt 64 (open_from 0 (take (i + 1) ts))) [
      | inl deep ↦ inr (TooDeep t.place, (refused_deep ts end i t q at ran_on shallow (omega arith), refl))
      | inr fine ↦ inl (q, ran_on, shallow_more ts i shallow (omega arith), omega arith)
    ]

read_next : (ts : List Token) (end i : ℕ) → i < length ts → IsRead ts i → IsRead ts (i + 1) ⊎ HasFault ts end
read_next ts end i within (p, ran, shallow, few) =
    elim (slice_get_cases ts i).1 [
      | inl found ↦ read_token ts end i found.0 p (advance found.0 p) found.2 ran shallow few refl
      | inr past ↦ absurd (omega (arith, past.0))
    ]

read_up_to : (ts : List Token) (end i : ℕ) → i ≤ length ts → IsRead ts i ⊎ HasFault ts end
read_up_to ts end zero within = inl (after [], refl, (λ j below. absurd (omega arith)), omega arith)
read_up_to ts end (suc i) within =
    elim (read_up_to ts end i (omega arith)) [
      | inl read ↦ subst (λ n. IsRead ts n ⊎ HasFault ts end) (omega arith) (read_next ts end i (omega arith) read)
      | inr fault ↦ inr fault
    ]

abbrev IsFine : List Token → Type 0
IsFine ts = (statements : List StatementTree) × IsFile ts statements × IsShallow ts

at_end : (ts : List Token) (end : ℕ) (head : HeadTree) (p : Progress) → run ts (after []) ≡ Some p → IsShallowBefore ts (length ts) → p.head ≡ head →
    IsFine ts ⊎ HasFault ts end
at_end ts end between p ran shallow h = inl (p.statements, run_is_file ts p ran h, all_shallow ts (length ts) (omega arith) shallow)
at_end ts end head p ran shallow h = inr (Syntax end, (refused_within ts end p ran (λ e. cc) shallow, refl))

pub file_or_fault : (ts : List Token) (end : ℕ) → IsFine ts ⊎ HasFault ts end
file_or_fault ts end =
    elim (read_up_to ts end (length ts) (omega arith)) [
      | inl read ↦ at_end ts end read.0.head read.0 (run_whole ts (length ts) read.0 (omega arith) read.1) read.2 refl
      | inr fault ↦ inr fault
    ]

-- a fault of syntax is none of a file
no_syntax : (ts : List Token) (k : ℕ) (statements : List StatementTree) → IsFile ts statements → IsSyntaxAt ts k → ⊥
no_syntax ts k statements file (inl (within, begins, stuck)) =
    let whole : BeginsFile (take (length ts) ts) =
    ([], statements, subst (λ us. IsFile us statements) (sym (append-nil _ ∙ take_all (length ts) ts (omega arith))) file) in
    stuck (begins_part ts (k + 1) (length ts) (omega arith) whole)
no_syntax ts k statements file (inr (at, begins, none)) = none statements file

pub file_excludes_fault : (ts : List Token) (end : ℕ) (statements : List StatementTree) (e : TreeErr) → IsFile ts statements → IsShallow ts →
    IsFaultOf ts end e → ⊥
file_excludes_fault ts end statements (Syntax place) file shallow ((k, syntax_at, place_is, others), placed) = no_syntax ts k statements file syntax_at
file_excludes_fault ts end statements (TooDeep place) file shallow ((k, deep, place_is, others), placed) = shallow k deep
file_excludes_fault ts end statements Memory file shallow (refused, placed) = cc

-- tokens whose front up to a deep one begins a file have no fault of syntax up to it
after_deep : (ts : List Token) (k j : ℕ) → IsSyntaxAt ts k → IsDeepAt ts j → BeginsFile (take (j + 1) ts) → ((i : ℕ) → i < k → ¬ IsDeepAt ts i) → ⊥
after_deep ts k j (inl (within, begins, stuck)) deep read none =
    elim (cases_lt j k) [
      | inl before ↦ none j before deep
      | inr past ↦ stuck (begins_part ts (k + 1) (j + 1) (omega arith) read)
    ]
after_deep ts k j (inr (at, begins, no_file)) deep read none = none j (omega (arith, deep.0)) deep

pub fault_is_one_of : (ts : List Token) (end : ℕ) (e f : TreeErr) → IsFaultOf ts end e → IsFaultOf ts end f → e ≡ f
fault_is_one_of ts end (Syntax e) (Syntax f) ((k, k_at, e_is, k_none), placed) ((l, l_at, f_is, l_none), placed') =
    ap Syntax (e_is ∙ ap (λ n. place_or_end (slice_get ts n) end) (fault_is_one ts k l k_at l_at) ∙ sym f_is)
fault_is_one_of ts end (Syntax e) (TooDeep f) ((k, k_at, e_is, k_none), placed) ((l, l_at, f_is, l_read), placed') =
    absurd (after_deep ts k l k_at l_at l_read k_none)
fault_is_one_of ts end (TooDeep e) (Syntax f) ((k, k_at, e_is, k_read), placed) ((l, l_at, f_is, l_none), placed') =
    absurd (after_deep ts l k l_at k_at k_read l_none)
fault_is_one_of ts end (TooDeep e) (TooDeep f) ((k, k_at, e_is, k_read), placed) ((l, l_at, f_is, l_read), placed') =
    ap TooDeep (e_is ∙ ap (λ n. place_or_end (slice_get ts n) end) (deep_is_one ts k l k_at l_at) ∙ sym f_is)
fault_is_one_of ts end Memory f (refused, placed) other = cc
fault_is_one_of ts end (Syntax e) Memory other (refused, placed) = cc
fault_is_one_of ts end (TooDeep e) Memory other (refused, placed) = cc
