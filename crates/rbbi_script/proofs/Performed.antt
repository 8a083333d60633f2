-- Commands that were performed, by the reply that was said and by where the session has gone.
use Rattle.std.proofs.Common.{◌≡◌, ℕ, List, ◌++◌, Result, Ok, Err, sym, ap, ◌∙◌, inl}
use Rattle.rbbi_model.specs.Answers.{Reply}
use Rattle.rbbi_model.specs.Scripts.{Command}
use Rattle.rbbi_model.specs.Lines.{reply_lines}
use Rattle.rbbi_session.specs.Walks.{View, turn_of}
use Rattle.rbbi_text.specs.Appending.{Appends}
use Rattle.rbbi_script.specs.Performing.{Performs}

-- the reply was said, and the session is as after the command
pub says_turn : {A Setting T E : Type 0} (view : View A Setting) (old new : A) (command : Command) (reply : Reply) (before after : List ℕ) (r : Result T E) →
    view.setting new ≡ view.setting old → reply ≡ (turn_of view old command).reply → view.state new ≡ (turn_of view old command).state →
    Appends before (reply_lines reply) r after → Performs view old command before r new after
says_turn view old new command reply before after (Ok done) same replied state appends =
    record { same = same; appended = appends ∙ ap (λ p. before ++ reply_lines p) replied; state_is = state }
says_turn view old new command reply before after (Err error) same replied state appends = record {
  same = same;
  appended = record { front = appends.front; back = appends.back; parts = ap reply_lines (sym replied) ∙ appends.parts; appended = appends.appended };
  state_is = inl state;
}
