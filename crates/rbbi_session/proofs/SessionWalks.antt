-- A session by characters answers as one of any kind.
use Rattle.std.proofs.Common.{ℕ}
use Rattle.rbbi_model.specs.Answers.{Question, Reply}
use Rattle.rbbi_session.specs.Sessions.{Session, Answers}
use Rattle.rbbi_session.specs.Asking.{Asks}
use Rattle.rbbi_session.specs.Walks.{IsAnswered}
use Rattle.rbbi_session.specs.UnitWalks.{session_view}

pub answered : {old new : Session} {question : Question} {reply : Reply} {before after : ℕ} → Answers old question reply new →
    Asks old question new before after → IsAnswered session_view old question reply new before after
answered answers asks = record {
  replied = answers.replied;
  asked = record {
    same = answers.moved.table_is;
    state_is = answers.moved.state_is;
    paid = record { more = asks.more; cost = asks.cost };
    asks = asks;
  };
}
