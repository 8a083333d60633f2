-- Boundaries that were counted one by one.
use Rattle.std.proofs.Common.{◌≡◌, ℕ, ◌+◌, ◌-◌, ◌<◌, ◌≤◌, [], ◌∷◌, Option, Some, None, length, sym, ap, ◌∙◌, length-append, arith}
use Rattle.rbbi_model.specs.Answers.{First, Next, Place}
use Rattle.rbbi_session.specs.Sessions.{Session, place_reply, Answers}
use Rattle.rbbi_session.proofs.Stepping.{HasCome, HasGoneOn, left_of, come_start, gone_on}

-- no more were counted than there are characters before the place
abbrev pub AreFew : ℕ → Option ℕ → Type 0
AreFew count None = Unit {0}
AreFew count (Some at) = count ≤ at

-- the first boundaries were counted, and the session stands at the next one, if there is one
pub record AreCounted (old now : Session) (place : Option ℕ) (count : ℕ) : Type 0 where
  pub come : HasCome old now place
  pub counted : count ≡ length come.front
  pub few : AreFew count place

-- none is counted at the start
pub counted_start : (old now : Session) (r : ℕ) → Answers old First (Place r) now → AreCounted old now (Some r) 0
counted_start old now r answers =
    let begun = come_start old now r answers in record { come = begun.come; counted = ap length (sym begun.none); few = omega arith }

-- one boundary more was counted, and the session has gone to the next
pub record IsFurther (old new : Session) (at : ℕ) (place : Option ℕ) (count : ℕ) : Type 0 where
  pub counted : AreCounted old new place count
  pub less : left_of (length old.state.text) place < length old.state.text + 1 - at

few_next : (len at count : ℕ) (place : Option ℕ) → left_of len place < len + 1 - at → count ≤ at → AreFew (count + 1) place
few_next len at count None less few = tt
few_next len at count (Some p) less few = omega arith

pub counted_further : (old now : Session) (at count : ℕ) → AreCounted old now (Some at) count → (place : Option ℕ) (new : Session) →
    Answers now Next (place_reply place) new → IsFurther old new at place (count + 1)
counted_further old now at count are place new answers =
    let gone : HasGoneOn old now new at place are.come.front = gone_on old now new at are.come place answers in
    record {
      counted = record {
        come = gone.come;
        counted = ap (λ n. n + 1) are.counted ∙ sym (length-append are.come.front (gone.from.here ∷ [])) ∙ sym (ap length gone.more);
        few = few_next (length old.state.text) at count place gone.less are.few;
      };
      less = gone.less;
    }
