-- What is asked of a session through a handle, and what is reported of its reply.
use Rattle.std.specs.Prelude.{ℕ}
use Rattle.rbbi_model.specs.Answers.{Question, Reply, Place, Done, Yes, No, Largest, AllOf, Listed, Edited, Outside, Inside, TooLong, Characters}
use Rattle.rbbi_model.specs.Answers as question
use Rattle.rbbi_c.specs.declared.asking.Ask.{Ask}
use Rattle.rbbi_c.specs.declared.asking.Ask.TheVariants as ask
use Rattle.rbbi_c.specs.declared.asking.Told.{Told}
use Rattle.rbbi_c.specs.declared.asking.Told.TheVariants as told

-- the question that is asked
abbrev pub question_of : Ask → Question
question_of ask.First = question.First
question_of ask.Last = question.Last
question_of ask.Next = question.Next
question_of ask.Previous = question.Previous
question_of (ask.Following o) = question.Following o
question_of (ask.Preceding o) = question.Preceding o
question_of (ask.IsBoundary o) = question.IsBoundary o
question_of ask.Current = question.Current
question_of ask.Status = question.Status

-- What is reported of a reply to these questions: a place or a status by its number, yes by 1 and no by 0.
abbrev pub told_of : Reply → Told
told_of (Place place) = told.Number place
told_of Done = told.Done
told_of Yes = told.Number 1
told_of No = told.Number 0
told_of (Largest status) = told.Number status
told_of (AllOf statuses) = told.Done
told_of (Listed boundaries) = told.Done
told_of (Edited length) = told.Number length
told_of Outside = told.Done
told_of Inside = told.Done
told_of TooLong = told.Done
told_of (Characters text) = told.Done

-- the code of what is reported
abbrev pub code_of : Told → ℕ
code_of (told.Number n) = 0
code_of told.Done = 1

-- what stands where the number goes, where so much stood there
abbrev pub number_of : ℕ → Told → ℕ
number_of before (told.Number n) = n
number_of before told.Done = before
