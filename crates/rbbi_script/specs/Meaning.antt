-- The command of the definitions that a command of a script is.
use Rattle.rbbi_model.specs.Scripts.{Ask, ShowText}
use Rattle.rbbi_model.specs.Scripts as model
use Rattle.rbbi_model.specs.Answers as question
use Rattle.rbbi_script.specs.declared.command.Command.{Command}
use Rattle.rbbi_script.specs.declared.command.Command.TheVariants.{First, Last, Next, Previous, Current, Status, Statuses, Following, Preceding, Is, Replace}
use Rattle.rbbi_script.specs.declared.command.Command.TheVariants.{Breaks, Text}

-- what a command means
abbrev pub meaning : Command → model.Command
meaning First = Ask question.First
meaning Last = Ask question.Last
meaning Next = Ask question.Next
meaning Previous = Ask question.Previous
meaning Current = Ask question.Current
meaning Status = Ask question.Status
meaning Statuses = Ask question.Statuses
meaning (Following place) = Ask (question.Following place)
meaning (Preceding place) = Ask (question.Preceding place)
meaning (Is place) = Ask (question.IsBoundary place)
meaning (Replace at removed inserted) = model.Replace at removed inserted
meaning Breaks = Ask question.Breaks
meaning Text = ShowText
