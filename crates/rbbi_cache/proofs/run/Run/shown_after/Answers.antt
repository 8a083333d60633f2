use Rattle.std.proofs.Common.{◌≡◌, ℕ, ◌+◌, ◌<◌, List, length, get_or, sym, ap, ◌∙◌, subst, inl, inr, ⊎_elim, arith}
use Rattle.std.proofs.lemmas.Bool.{cases_lt, false≢true}
use Rattle.rbbi_model.specs.Runs.{low}
use Rattle.rbbi_model.specs.Runs.{Entry, Run}
use Rattle.rbbi_cache.specs.inner.Shown.{AreUpTo}
use Rattle.rbbi_cache.specs.Shown.{IsShownAfter}
use Rattle.rbbi_cache.proofs.Showing.{none_past, none_shown, none_before_anchor, shown_next}
use Rattle.rbbi_cache.proofs.run.Run.shown_after.Goals as goal

-- the entry read from the list of the run's entries
shown_at : (run : Run) (i k : ℕ) (entries : List Entry) (e : Entry) → entries ≡ run.entries → e ≡ get_or entries k e →
    IsShownAfter run i (get_or run.entries k e) → IsShownAfter run i e
shown_at run i k entries e same is shown = subst (IsShownAfter run i) (sym (is ∙ ap (λ l. get_or l k e) same)) shown

pub returns-then-i-anchor : goal.returns-then-i-anchor
returns-then-i-anchor c =
    none_before_anchor c.args.self.now c.requires.behind (record { at = 0; status = 0; reach = 0 }) c.args.i
    (omega (arith, c.if-i-anchor.true, c.anchor-anchor.ensures))

pub returns-then-k-entries : goal.returns-then-k-entries
returns-then-k-entries c =
    none_past c.args.self.now c.args.i c.count_up_to-k.result (record { at = 0; status = 0; reach = 0 })
    (subst (λ l. AreUpTo l c.args.i c.count_up_to-k.result) c.entries-entries.ensures c.count_up_to-k.ensures)
    (c.if-k-entries.true ∙ ap length c.entries-entries.ensures)

pub returns-then-k-gt0 : goal.returns-then-k-gt0
returns-then-k-gt0 c =
    let within = c.count_up_to-k.ensures.within in
    let short : c.count_up_to-k.result < length c.args.self.now.entries = omega (arith, ap length c.entries-entries.ensures) in
    shown_at c.args.self.now c.args.i c.count_up_to-k.result c.entries-entries.result.now c.index-entries-k.result c.entries-entries.ensures
    c.index-entries-k.is
    (shown_next c.args.self.now c.args.i c.count_up_to-k.result c.index-entries-k.result
    (subst (λ l. AreUpTo l c.args.i c.count_up_to-k.result) c.entries-entries.ensures c.count_up_to-k.ensures) short (inl c.if-k-gt0.true))

pub returns-then-leads_to : goal.returns-then-leads_to
returns-then-leads_to c =
    let within = c.count_up_to-k.ensures.within in
    let zero : c.count_up_to-k.result ≡ 0 = omega arith in
    let short : 0 < length c.args.self.now.entries = omega (arith, ap length c.entries-entries.ensures) in
    shown_at c.args.self.now c.args.i 0 c.entries-entries.result.now c.index-entries-0.result c.entries-entries.ensures c.index-entries-0.is
    (shown_next c.args.self.now c.args.i 0 c.index-entries-0.result
    (subst (λ n. AreUpTo c.args.self.now.entries c.args.i n) zero
    (subst (λ l. AreUpTo l c.args.i c.count_up_to-k.result) c.entries-entries.ensures c.count_up_to-k.ensures)) short
    (inr (c.leads_to.ensures.0 c.if-leads_to.true)))

pub returns : goal.returns
returns c =
    let zero : c.count_up_to-k.result ≡ 0 = omega arith in
    none_shown c.args.self.now c.args.i c.count_up_to-k.result (record { at = 0; status = 0; reach = 0 })
    (subst (λ l. AreUpTo l c.args.i c.count_up_to-k.result) c.entries-entries.ensures c.count_up_to-k.ensures) zero
    (λ leads. ⊎_elim (λ far. far) (λ near. absurd (false≢true (sym c.if-leads_to.false ∙ c.leads_to.ensures.1 (leads, near))))
    (cases_lt (c.args.i + 1) (low c.args.self.now.anchor)))
