-- What a call answers and leaves that puts lines into a sink while they are made.
use Rattle.std.specs.Prelude.{ℕ, List, Option, None, Result, OnOk, OnErr, IsErrOf}
use Rattle.rbbi_model.specs.Lines.{all_reply_lines}
use Rattle.rbbi_model.specs.Scripts.{Command, opened}
use Rattle.rbbi_text.specs.Steps.{RisesUpTo}
use Rattle.rbbi_io.specs.Counts.{Rose, GoesOn}
use Rattle.rbbi_io.specs.Sinks.{Takes, TakesFront}
use Rattle.rbbi_io.specs.declared.error.WriteErr.{WriteErr}
use Rattle.rbbi_io.specs.declared.error.WriteErr.TheVariants.{Failed}
use Rattle.rbbi_session.specs.Walks.{Kind, costs_in}
use Rattle.rbbi_script.specs.Performing.{replies_in}

-- The sink took all of the bytes or, after a refusal, a prefix of them. A put failed only where the count of faults rose. At most so much
-- was read.
pub record Puts {T : Type 0} (bytes : List ℕ) (cost : ℕ) (result : Result T WriteErr) (taken taken' : Option (List ℕ)) (count count' before after : ℕ)
    : Type 0 where
  pub ok : OnOk result (Takes taken taken' bytes)
  pub err : OnErr result (TakesFront taken taken' bytes)
  pub faults : GoesOn count count'
  pub failed : IsErrOf result Failed → Rose count count'
  pub steps : RisesUpTo cost before after

-- the bytes are the lines of the replies to commands over a text, by a session of this kind
abbrev pub PutsReplies : {T : Type 0} → Kind → List ℕ → List Command → Result T WriteErr → Option (List ℕ) → Option (List ℕ) → ℕ → ℕ → ℕ → ℕ → Type 0
PutsReplies kind x commands result taken taken' count count' before after =
    Puts (all_reply_lines (replies_in kind (opened x) commands)) (costs_in kind (opened x) None commands) result taken taken' count count' before after
