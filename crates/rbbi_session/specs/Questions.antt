-- What a question asks of the kept runs, what it leaves of them, and where they show its answer.
use Rattle.std.specs.Prelude.{◌≡◌, ℕ, zero, suc, ◌-◌, List, length, if◌then◌else◌, ◌==◌, nat_lt}
use Rattle.rbbi_model.specs.Tables.{Table}
use Rattle.rbbi_model.specs.Answers.{Question, First, Last, Next, Previous, Following, Preceding, IsBoundary, Current, Status, Statuses, Breaks}
use Rattle.rbbi_model.specs.Runs.{Entry, Run, ShowsAfter, ShowsBefore}
use Rattle.rbbi_cache.specs.Kept.{SomeRun, IsFirstAfter, IsLastBefore, Keeps, KeepsBack}
use Rattle.rbbi_cache.specs.Shown.{IsShownAfter}

-- what is asked of the kept runs: nothing, the first boundary past a place, or the last one before it
pub data Sent : Type 0 where
  Nothing : Sent
  Past : (place : ℕ) → Sent
  Back : (place : ℕ) → Sent

-- for the text's end, the first boundary past its last character
abbrev pub sent_for_end : List ℕ → Sent
sent_for_end x = if length x == 0 then Nothing else Past (length x - 1)

abbrev pub sent_by : List ℕ → ℕ → Question → Sent
sent_by x cursor First = Nothing
sent_by x cursor Last = sent_for_end x
sent_by x cursor Next = if nat_lt cursor (length x) then Past cursor else Nothing
sent_by x cursor Previous = if cursor == 0 then Nothing else Back cursor
sent_by x cursor (Following place) = if nat_lt place (length x) then Past place else sent_for_end x
sent_by x cursor (Preceding zero) = Nothing
sent_by x cursor (Preceding (suc before)) = Back (suc before)
sent_by x cursor (IsBoundary zero) = Nothing
sent_by x cursor (IsBoundary (suc before)) = if nat_lt before (length x) then Past before else sent_for_end x
sent_by x cursor Current = Nothing
sent_by x cursor Status = Nothing
sent_by x cursor Statuses = Nothing
sent_by x cursor Breaks = Nothing

-- some kept run shows the answer
abbrev pub IsShown : List ℕ → List Run → Sent → Type 0
IsShown x runs Nothing = Unit {0}
IsShown x runs (Past i) = (a : ℕ) × SomeRun (λ run. ShowsAfter run i a) runs
IsShown x runs (Back o) = (a : ℕ) × SomeRun (λ run. ShowsBefore x run o a) runs

-- what is left of the kept runs
abbrev pub LeavesRuns : Table → List ℕ → Sent → List Run → List Run → Type 0
LeavesRuns table x Nothing former now = now ≡ former
LeavesRuns table x (Past i) former now =
    (entry : Entry) × IsFirstAfter table x i entry × Keeps table x (λ run. IsShownAfter run i entry) former now
LeavesRuns table x (Back o) former now = (entry : Entry) × IsLastBefore table x o entry × KeepsBack table x o entry former now
