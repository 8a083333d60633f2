-- Answers of a session through a filter, by what it found and where it has gone.
use Rattle.std.proofs.Common.{◌≡◌, ℕ, ◌≤◌, length, sym, refl, ap, ◌∙◌, subst}
use Rattle.rbbi_model.specs.Cover.{IsPlaceOf}
use Rattle.rbbi_model.specs.Answers.{Question, Answer, answer}
use Rattle.rbbi_text.specs.Steps.{RisesUpTo}
use Rattle.rbbi_session.specs.Walks.{IsAnswered}
use Rattle.rbbi_session.proofs.Answering.{place_within, none_behind}
use Rattle.rbbi_filter.specs.FilterCosts.{question_through}
use Rattle.rbbi_filter.specs.FilterSessions.{FilterSession, boundaries_of, MovesTo, filter_view}
use Rattle.rbbi_filter.proofs.Covering.{covers}

-- a boundary lies within the text
pub within_text : (session : FilterSession) (p : ℕ) → IsPlaceOf (boundaries_of session) p → p ≤ length session.state.text
within_text session p here =
    place_within (boundaries_of session) p (length session.state.text) (none_behind (length session.state.text) (boundaries_of session) (covers session)) here

-- the session stays where it was
pub stays : (session : FilterSession) → MovesTo session session.state.cursor session
stays session = record { filter_is = refl; table_is = refl; state_is = refl }

-- A question was answered so, and the session has gone where the answer says.
pub answered : {old seen : FilterSession} → old ≡ seen → (question : Question) (a : Answer) → answer (boundaries_of old) old.state.cursor question ≡ a →
    (new : FilterSession) (before after : ℕ) → MovesTo old a.cursor new →
    RisesUpTo (question_through old.filter old.table old.state.text old.state.cursor question) before after →
    IsAnswered filter_view seen question a.reply new before after
answered {old = old} view question a is new before after moves paid =
    subst (λ s. IsAnswered filter_view s question a.reply new before after) view
    (record {
      replied = sym (ap (λ b. b.reply) is);
      asked = record {
        same = λ i. record { filter = moves.filter_is i; table = moves.table_is i };
        state_is = moves.state_is ∙ ap (λ b. record { text = old.state.text; cursor = b.cursor }) (sym is);
        paid = paid;
        asks = tt;
      };
    })
