use Rattle.rbbi_model.proofs.Replies.{same_replies}
use Rattle.rbbi_model.proofs.answers.replies_are_unique.Goals as goal

pub returns : goal.returns
returns c = same_replies
