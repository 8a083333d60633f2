-- What a judge knows between two searches.
use Rattle.std.proofs.Common.{◌≡◌, ◌≢◌, ℕ, zero, suc, ◌+◌, ◌-◌, ◌<◌, ◌≤◌, inl, inr, true, false, cond, eqb, List, [], ◌∷◌, length, refl, ap, sym}
use Rattle.std.proofs.Common.{subst, ◌∙◌, arith}
use Rattle.std.specs.Prelude.{is_some, Some, ◌==◌}
use Rattle.std.proofs.lemmas.Bool.{lt-ltb, le-ltb, eq-eqb, cases_lt}
use Rattle.std.proofs.lemmas.Bool.Decides.{nat_tests}
use Rattle.rbbi_model.specs.Boundaries.{Boundary}
use Rattle.rbbi_model.specs.Tables.{Table}
use Rattle.rbbi_model.specs.Searches.{found, next_boundary, follow_by, table_boundaries}
use Rattle.rbbi_model.specs.Answers.{first_place, is_place_of}
use Rattle.rbbi_model.proofs.Found.{found_lies}
use Rattle.rbbi_conform.specs.Tests.{Test}
use Rattle.rbbi_conform.specs.Verdicts.{Agrees, IsFirstDifference}
use Rattle.rbbi_conform.specs.inner.Verdicts.{AreRight, IsFirstWrong}

differ : (m n : ℕ) → m ≢ n → eqb m n ≡ false
differ m n h = grind (arith, nat_tests)

-- the first boundary is the place, or it isn't
first_is : (b : Boundary) (rest : List Boundary) (i : ℕ) → b.at ≡ i → is_place_of (b ∷ rest) i ≡ true
first_is b rest i e = ap (λ t. is_some (cond t (Some b.at) (first_place (λ at. at == i) rest))) (eq-eqb b.at i e)

first_not : (b : Boundary) (rest : List Boundary) (i : ℕ) → b.at ≢ i → is_place_of (b ∷ rest) i ≡ is_place_of rest i
first_not b rest i e = ap (λ t. is_some (cond t (Some b.at) (first_place (λ at. at == i) rest))) (differ b.at i e)

-- the boundaries that follow one, at most so many
abbrev pub rest_of : Table → List ℕ → ℕ → Boundary → List Boundary
rest_of table x most here = follow_by (next_boundary table x) (length x) most here

follows : (table : Table) (x : List ℕ) (most : ℕ) (here : Boundary) → here.at < length x → rest_of table x (suc most) here ≡ next_boundary table x here.at ∷
    rest_of table x most (next_boundary table x here.at)
follows table x most here l =
    ap (λ t. cond t (next_boundary table x here.at ∷ rest_of table x most (next_boundary table x here.at)) []) (lt-ltb here.at (length x) l)

follows_none : (table : Table) (x : List ℕ) (most : ℕ) (here : Boundary) → length x ≤ here.at → rest_of table x (suc most) here ≡ []
follows_none table x most here l =
    ap (λ t. cond t (next_boundary table x here.at ∷ rest_of table x most (next_boundary table x here.at)) []) (le-ltb here.at (length x) l)

-- none of them lies at that one or before it
none_up_to : (table : Table) (x : List ℕ) (most : ℕ) (here : Boundary) (i : ℕ) → i ≤ here.at → is_place_of (rest_of table x most here) i ≡ false
none_up_to table x zero here i l = refl
none_up_to table x (suc most) here i l =
    elim (cases_lt here.at (length x)) [
      | inl below ↦
          let past = (found_lies table x here.at below).0 in
          ap (λ bs. is_place_of bs i) (follows table x most here below)
          ∙ first_not (next_boundary table x here.at) (rest_of table x most (next_boundary table x here.at)) i (λ e. omega arith)
          ∙ none_up_to table x most (next_boundary table x here.at) i (omega arith)
      | inr end ↦ ap (λ bs. is_place_of bs i) (follows_none table x most here end)
    ]

-- All places up to this boundary agree, and those past it are boundaries where the searches from it find them.
pub record IsJudged (table : Table) (test : Test) (here : Boundary) (most : ℕ) : Type 0 where
  pub within : here.at ≤ length test.text
  pub enough : length test.text ≤ here.at + most
  pub rest_is : (i : ℕ) → here.at < i → is_place_of (table_boundaries table test.text) i ≡ is_place_of (rest_of table test.text most here) i
  pub agreed : (i : ℕ) → 1 ≤ i → i ≤ here.at → Agrees (table_boundaries table test.text) test i

-- the judge has come to this place
pub record IsJudgedTo (table : Table) (test : Test) (last : ℕ) : Type 0 where
  pub here : Boundary
  pub most : ℕ
  pub at : here.at ≡ last
  pub judged : IsJudged table test here most

pub IsJudged-start : (table : Table) (test : Test) → IsJudgedTo table test 0
IsJudged-start table test = record {
  here = record { at = 0; statuses = 0 ∷ [] };
  most = length test.text;
  at = refl;
  judged =
      record {
        within = omega arith;
        enough = omega arith;
        rest_is = λ i l. first_not (record { at = 0; statuses = 0 ∷ [] }) (rest_of table test.text (length test.text) (record { at = 0; statuses = 0 ∷ [] }))
            i (λ e. omega arith);
        agreed = λ i l m. absurd (omega arith);
      };
}

-- which places up to the next boundary are boundaries
next_alone : (table : Table) (test : Test) (here : Boundary) (most : ℕ) → IsJudged table test here most → here.at < length test.text →
    (i : ℕ) → here.at < i → i ≤ (next_boundary table test.text here.at).at →
    is_place_of (table_boundaries table test.text) i ≡ (i == (next_boundary table test.text here.at).at)
next_alone table test here zero h l i above below = absurd (let e = h.enough in omega arith)
next_alone table test here (suc most) h l i above below =
    let next = next_boundary table test.text here.at in
    let whole = h.rest_is i above ∙ ap (λ bs. is_place_of bs i) (follows table test.text most here l) in
    elim (cases_lt i next.at) [
      | inl before ↦
          whole ∙ first_not next (rest_of table test.text most next) i (λ e. omega arith) ∙ none_up_to table test.text most next i below
          ∙ sym (differ i next.at (λ e. omega arith))
      | inr from ↦ whole ∙ first_is next (rest_of table test.text most next) i (omega arith) ∙ sym (eq-eqb i next.at (omega arith))
    ]

agrees_on : (table : Table) (test : Test) (here : Boundary) (most place : ℕ) → IsJudged table test here most → here.at < length test.text →
    AreRight test here.at (next_boundary table test.text here.at).at place → place ≤ (next_boundary table test.text here.at).at →
    (i : ℕ) → 1 ≤ i → i ≤ place → Agrees (table_boundaries table test.text) test i
agrees_on table test here most place h l right up_to i first last =
    elim (cases_lt here.at i) [
      | inl above ↦ right i above last ∙ sym (next_alone table test here most h l i above (omega arith))
      | inr before ↦ h.agreed i first before
    ]

-- the marks up to the next boundary are right
pub IsJudged-more : (table : Table) (test : Test) (last : ℕ) → IsJudgedTo table test last → last < length test.text →
    AreRight test last (found table test.text last).at (found table test.text last).at →
    IsJudgedTo table test (found table test.text last).at
IsJudged-more table test last h l right =
    subst (λ p. IsJudgedTo table test (found table test.text p).at) h.at
    (more h.here h.most h.judged (subst (λ p. p < length test.text) (sym h.at) l)
    (subst (λ p. AreRight test p (found table test.text p).at (found table test.text p).at) (sym h.at) right))
  where
    more : (here : Boundary) (most : ℕ) → IsJudged table test here most → here.at < length test.text →
        AreRight test here.at (found table test.text here.at).at (found table test.text here.at).at → IsJudgedTo table test (found table test.text here.at).at
    more here zero j short right = absurd (let e = j.enough in omega arith)
    more here (suc most) j short right =
        let next = next_boundary table test.text here.at in
        let lies = found_lies table test.text here.at short in record {
          here = next;
          most = most;
          at = refl;
          judged =
              record {
                within = lies.1;
                enough = let e = j.enough in let past = lies.0 in omega arith;
                rest_is = λ i above.
                    j.rest_is i (let past = lies.0 in omega arith)
                    ∙ ap (λ bs. is_place_of bs i) (follows table test.text most here short)
                    ∙ first_not next (rest_of table test.text most next) i (λ e. omega arith);
                agreed = agrees_on table test here (suc most) next.at j short right (omega arith);
              };
        }

-- a mark is wrong
pub IsJudged-wrong : (table : Table) (test : Test) (last place : ℕ) → IsJudgedTo table test last → last < length test.text →
    IsFirstWrong test last (found table test.text last).at place → IsFirstDifference (table_boundaries table test.text) test place
IsJudged-wrong table test last place h l wrong =
    first h.here h.most h.judged (subst (λ p. p < length test.text) (sym h.at) l)
    (subst (λ p. IsFirstWrong test p (found table test.text p).at place) (sym h.at) wrong)
  where
    first : (here : Boundary) (most : ℕ) → IsJudged table test here most → here.at < length test.text →
        IsFirstWrong test here.at (found table test.text here.at).at place → IsFirstDifference (table_boundaries table test.text) test place
    first here most j short w =
        let past = w.past in
        let up_to = w.up_to in
        let lies = (found_lies table test.text here.at short).1 in record {
          past_start = omega arith;
          within = omega arith;
          differs = λ agrees. w.wrong (agrees ∙ next_alone table test here most j short place w.past w.up_to);
          least = λ i one below. agrees_on table test here most (place - 1) j short w.right (omega arith) i one (omega arith);
        }
