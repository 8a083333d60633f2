-- What questions read, by what they ask of the kept runs.
use Rattle.std.proofs.Common.{◌≡◌, ℕ, zero, suc, ◌-◌, ◌<◌, ◌≤◌, ltb, eqb, List, length, sym, ◌∙◌, subst, arith}
use Rattle.std.proofs.lemmas.Bool.{cond-true, cond-false, lt-ltb, ne_eqb}
use Rattle.rbbi_model.specs.Answers.{Previous, Following, IsBoundary}
use Rattle.rbbi_model.specs.Tables.{Table}
use Rattle.rbbi_model.specs.Runs.{Run}
use Rattle.rbbi_model.specs.Costs.{forward_cost, back_cost, last_cost, preceding_cost}
use Rattle.rbbi_session.specs.Sessions.{Session}
use Rattle.rbbi_session.specs.Questions.{Sent, Nothing, Past, Back, sent_for_end}
use Rattle.rbbi_session.specs.Asking.{IsAsked, Asks}

-- the session that stands at a place of a text, with these runs
abbrev pub standing : Table → List ℕ → ℕ → List Run → Session
standing table x at runs = record { table = table; state = record { text = x; cursor = at }; runs = runs }

asked_as : (old new : Session) (before after : ℕ) (sent sent' : Sent) (most most' : ℕ) → sent ≡ sent' → most ≡ most' →
    IsAsked old sent most new before after → IsAsked old sent' most' new before after
asked_as old new before after sent sent' most most' same equal asked =
    subst (λ s. IsAsked old s most' new before after) same (subst (λ m. IsAsked old sent m new before after) equal asked)

module _ (old new : Session) (before after : ℕ) where
  pub asks_previous : 0 < old.state.cursor → old.state.cursor ≤ length old.state.text →
      IsAsked old (Back old.state.cursor) (preceding_cost old.table old.state.text old.state.cursor) new before after → Asks old Previous new before after
  asks_previous some within asked =
      let c : ℕ = old.state.cursor in
      let fails = ne_eqb c 0 (λ none. omega (arith, some, none)) in
      asked_as old new before after (Back c) _ (preceding_cost old.table old.state.text c) _ (sym (cond-false (eqb c 0) Nothing (Back c) fails))
      (back_is c some within ∙ sym (cond-false (eqb c 0) 0 (back_cost old.table old.state.text c) fails)) asked
    where
      back_is : (o : ℕ) → 0 < o → o ≤ length old.state.text → preceding_cost old.table old.state.text o ≡ back_cost old.table old.state.text o
      back_is zero some within = absurd (omega arith)
      back_is (suc p) some within =
          cond-true (ltb p (length old.state.text)) (back_cost old.table old.state.text (suc p)) (last_cost old.table old.state.text)
          (lt-ltb p (length old.state.text) (omega arith))

  pub asks_following : (o : ℕ) → o < length old.state.text → IsAsked old (Past o) (forward_cost old.table old.state.text o) new before after →
      Asks old (Following o) new before after
  asks_following o within asked =
      let n : ℕ = length old.state.text in
      let cost : ℕ = forward_cost old.table old.state.text o in
      let holds = lt-ltb o n within in
      asked_as old new before after (Past o) _ cost _ (sym (cond-true (ltb o n) (Past o) (sent_for_end old.state.text) holds))
      (sym (cond-true (ltb o n) cost (last_cost old.table old.state.text) holds)) asked

  pub asks_whether : (o : ℕ) → 0 < o → o ≤ length old.state.text →
      IsAsked old (Past (o - 1)) (forward_cost old.table old.state.text (o - 1)) new before after → Asks old (IsBoundary o) new before after
  asks_whether zero some within asked = absurd (omega arith)
  asks_whether (suc p) some within asked =
      let one : suc p - 1 ≡ p = omega arith in
      asks_following p (omega arith) (subst (λ i. IsAsked old (Past i) (forward_cost old.table old.state.text i) new before after) one asked)
