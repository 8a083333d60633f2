use Rattle.rbbi_model.proofs.Replies.{table_replies_are}
use Rattle.rbbi_model.proofs.answers.table_replies_are_those_of_the_rules.Goals as goal

pub returns : goal.returns
returns c = table_replies_are
