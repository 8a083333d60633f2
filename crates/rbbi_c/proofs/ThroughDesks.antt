-- What a question to a session through a filter answers, by that of the session of the filter's kind.
use Rattle.std.proofs.Common.{◌≡◌, ℕ, sym, ap, ◌∙◌, subst}
use Rattle.rbbi_session.specs.Walks.{IsAsked, reply_to}
use Rattle.rbbi_filter.specs.UnitFilters.{UnitFilterSession, unit_filter_view}
use Rattle.rbbi_c.specs.declared.asking.Ask.{Ask}
use Rattle.rbbi_c.specs.declared.asking.Told.{Told}
use Rattle.rbbi_c.specs.Asking.{question_of, told_of}

module _ (asked : Ask) {inside was self : UnitFilterSession} (is : inside ≡ was) (view : inside ≡ self) where
  pub through_told : {told result : Told} → told ≡ result → result ≡ told_of (reply_to unit_filter_view was (question_of asked)) →
      told ≡ told_of (reply_to unit_filter_view self (question_of asked))
  through_told same answered =
      same ∙ answered ∙ ap (λ (s : UnitFilterSession). told_of (reply_to unit_filter_view s (question_of asked))) (sym is ∙ view)

  pub through_asked : {now new : UnitFilterSession} {before after end : ℕ} → now ≡ new → after ≡ end →
      IsAsked unit_filter_view was (question_of asked) new before end → IsAsked unit_filter_view self (question_of asked) now before after
  through_asked {new = new} {before = before} {after = after} {end = end} same read goes =
      subst (λ (n : UnitFilterSession). IsAsked unit_filter_view self (question_of asked) n before after) (sym same)
      (subst (λ (n : ℕ). IsAsked unit_filter_view self (question_of asked) new before n) (sym read)
      (subst (λ (s : UnitFilterSession). IsAsked unit_filter_view s (question_of asked) new before end) (sym is ∙ view) goes))
