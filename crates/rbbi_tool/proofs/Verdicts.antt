-- Tests judged one after another.
use Rattle.std.proofs.Common.{◌≡◌, ◌<◌, ◌≤◌, ◌+◌, ℕ, zero, suc, List, [], ◌∷◌, ◌++◌, length, drop, get_or, cond, refl, sym, ap, ◌∙◌, subst, append_assoc, arith}
use Rattle.std.specs.Prelude.{not, count_by, if◌then◌else◌, ◌==◌, Some, None, slice_get, Result, Ok, Err, IfOk}
use Rattle.std.proofs.lemmas.List.Sums.{sum_by-cons}
use Rattle.std.proofs.lemmas.List.{drop_more, drop_all, append-nil}
use Rattle.rbbi_model.specs.Words.{IsText}
use Rattle.rbbi_model.specs.Tables.{Table}
use Rattle.rbbi_model.specs.Searches.{table_boundaries}
use Rattle.rbbi_conform.specs.Tests.{Test}
use Rattle.rbbi_conform.specs.declared.verdict.Verdict.{Verdict}
use Rattle.rbbi_conform.specs.declared.verdict.Verdict.TheVariants.{Same, Differs}
use Rattle.rbbi_conform.specs.Verdicts.{IsVerdict}
use Rattle.rbbi_tool.specs.Basis.{Basis}
use Rattle.rbbi_model.specs.Lines.{verdicts_line}
use Rattle.rbbi_command.specs.Refusals.{Outcome}
use Rattle.rbbi_tool.specs.Command.Conform.{AreVerdictsBy, is_passed, test_lines, differing_lines, failed_count, told_verdicts}
use Rattle.rbbi_tool.specs.inner.Judging.{AreVerdictsIn, TellsVerdicts, TellsTests}
use Rattle.rbbi_tool.proofs.Bases.{GivesThem, boundaries_given}

-- What verdicts on the tests that are left come to behind those so far.
pub record AreJudgedTo (table : Table) (tests : List Test) (lines : List ℕ) (passed failed i : ℕ) : Type 0 where
  pub inside : i ≤ length tests
  pub counted : passed + failed ≡ i
  pub rest : (verdicts : List Verdict) → AreVerdictsIn table (drop i tests) verdicts
      → TellsVerdicts table tests (lines ++ differing_lines (drop i tests) verdicts) (passed + count_by is_passed verdicts) (failed + failed_count verdicts)

pub judged_none : (table : Table) (tests : List Test) (lines : List ℕ) → lines ≡ [] → AreJudgedTo table tests lines 0 0 0
judged_none table tests lines none = record {
  inside = omega arith;
  counted = refl;
  rest = λ verdicts are. record {
    verdicts = verdicts;
    are = are;
    lines_are = ap (λ l. l ++ differing_lines tests verdicts) none;
    passed_is = omega arith;
    failed_is = omega arith;
  };
}

-- the counts of a verdict and more
one_passed : (verdict : Verdict) (verdicts : List Verdict)
    → count_by is_passed (verdict ∷ verdicts) ≡ (if is_passed verdict then 1 else 0) + count_by is_passed verdicts
one_passed verdict verdicts = sum_by-cons (λ v. cond (is_passed v) 1 0) verdict verdicts

one_failed : (verdict : Verdict) (verdicts : List Verdict)
    → failed_count (verdict ∷ verdicts) ≡ (if is_passed verdict then 0 else 1) + failed_count verdicts
one_failed Same verdicts = sum_by-cons (λ v. cond (not (is_passed v)) 1 0) Same verdicts
one_failed (Differs place) verdicts = sum_by-cons (λ v. cond (not (is_passed v)) 1 0) (Differs place) verdicts

one_counted : (verdict : Verdict) → (if is_passed verdict then 1 else 0) + (if is_passed verdict then 0 else 1) ≡ 1
one_counted Same = refl
one_counted (Differs place) = refl

pub judged_more : (table : Table) (tests : List Test) (lines lines' : List ℕ) (passed failed passed' failed' i : ℕ) (test : Test) (verdict : Verdict)
    → AreJudgedTo table tests lines passed failed i → i < length tests → slice_get tests i ≡ Some test → IsText test.text
    → IsVerdict (table_boundaries table test.text) test verdict
    → lines' ≡ lines ++ test_lines test verdict → passed' ≡ passed + (if is_passed verdict then 1 else 0)
    → failed' ≡ failed + (if is_passed verdict then 0 else 1) → AreJudgedTo table tests lines' passed' failed' (i + 1)
judged_more table tests lines lines' passed failed passed' failed' i test verdict so_far inside at text is lines_are passed_is failed_is = record {
  inside = omega arith;
  counted = omega (arith, so_far.counted, one_counted verdict);
  rest = λ verdicts are.
      let left : drop i tests ≡ test ∷ drop (i + 1) tests = drop_more tests i test inside ∙ ap (λ t. t ∷ drop (i + 1) tests) (got tests i test inside at) in
      let before = so_far.rest (verdict ∷ verdicts) (subst (λ ts. AreVerdictsIn table ts (verdict ∷ verdicts)) (sym left) (text, is, are)) in
      record {
        verdicts = before.verdicts;
        are = before.are;
        lines_are =
            ap (λ l. l ++ differing_lines (drop (i + 1) tests) verdicts) lines_are
            ∙ append_assoc lines (test_lines test verdict) (differing_lines (drop (i + 1) tests) verdicts)
            ∙ ap (λ ts. lines ++ differing_lines ts (verdict ∷ verdicts)) (sym left) ∙ before.lines_are;
        passed_is = omega (arith, one_passed verdict verdicts, before.passed_is, passed_is);
        failed_is = omega (arith, one_failed verdict verdicts, before.failed_is, failed_is);
      };
}
  where
    got : (ts : List Test) (k : ℕ) (t : Test) → k < length ts → slice_get ts k ≡ Some t → get_or ts k t ≡ t
    got [] k t inside at = absurd (omega arith)
    got (u ∷ ts) zero t inside at = cc
    got (u ∷ ts) (suc k) t inside at = got ts k t (omega arith) at

pub all_judged : (table : Table) (tests : List Test) (lines : List ℕ) (passed failed i : ℕ) → AreJudgedTo table tests lines passed failed i → length tests ≤ i
    → TellsVerdicts table tests lines passed failed
all_judged table tests lines passed failed i so_far whole =
    let none : drop i tests ≡ [] = drop_all i tests whole in
    let told = so_far.rest [] (subst (λ ts. AreVerdictsIn table ts []) (sym none) tt) in
    record {
      verdicts = told.verdicts;
      are = told.are;
      lines_are = sym (append-nil lines) ∙ ap (λ ts. lines ++ differing_lines ts []) (sym none) ∙ told.lines_are;
      passed_is = omega (arith, told.passed_is);
      failed_is = omega (arith, told.failed_is);
    }

-- verdicts by a table are those by what it gives
pub verdicts_given : (basis : Basis) (table : Table) (tests : List Test) (verdicts : List Verdict) → GivesThem table basis → AreVerdictsIn table tests verdicts
    → AreVerdictsBy basis tests verdicts
verdicts_given basis table [] [] given are = tt
verdicts_given basis table [] (v ∷ verdicts) given are = absurd are
verdicts_given basis table (t ∷ tests) [] given are = absurd are
verdicts_given basis table (t ∷ tests) (v ∷ verdicts) given are =
    ((table_boundaries table t.text, boundaries_given basis table t.text given are.0, are.1), verdicts_given basis table tests verdicts given are.2)

-- an output with the lines and the counts reports the verdicts
pub tells_tests : {E : Type 0} (table : Table) (tests : List Test) (lines : List ℕ) (passed failed : ℕ) → TellsVerdicts table tests lines passed failed
    → (result : Result Outcome E) → IfOk result (λ output. output.status ≡ (if failed == 0 then 0 else 1))
    → IfOk result (λ output. output.bytes ≡ lines ++ verdicts_line passed failed) → IfOk result (λ output. output.file ≡ None)
    → IfOk result (TellsTests table tests)
tells_tests table tests lines passed failed told (Ok output) status bytes file =
    let is : output ≡ told_verdicts tests told.verdicts = λ i. record {
      status = (status ∙ ap (λ n. if n == 0 then 0 else 1) told.failed_is) i;
      bytes = (bytes ∙ (λ j. told.lines_are j ++ verdicts_line (told.passed_is j) (told.failed_is j))) i;
      file = file i;
    } in
    (told.verdicts, told.are, is)
tells_tests table tests lines passed failed told (Err e) status bytes file = tt
