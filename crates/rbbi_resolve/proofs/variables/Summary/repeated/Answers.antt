use Rattle.rbbi_resolve.proofs.variables.Summary.repeated.Goals as goal

pub returns-in-Plus : goal.returns-in-Plus
returns-in-Plus c = λ a h e sums. rw c.in-Plus.is (c.higher.ensures a h e sums)

pub returns-in-Star : goal.returns-in-Star
returns-in-Star c = λ a h e sums. rw c.in-Star.is (c.optional.ensures a h e sums)

pub returns-in-Quest : goal.returns-in-Quest
returns-in-Quest c = λ a h e sums. rw c.in-Quest.is (c.optional-in-Quest.ensures a h e sums)
