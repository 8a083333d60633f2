use Rattle.std.proofs.Common.{◌≡◌, ℕ, ◌-◌, ◌<◌, ◌≤◌, List, length, get_or, sym, ap, ◌∙◌, subst, inl, inr, arith}
use Rattle.std.specs.List.{AllByRecursion}
use Rattle.rbbi_model.specs.Runs.{Entry, Run}
use Rattle.rbbi_cache.specs.inner.Shown.{AreUpTo}
use Rattle.rbbi_cache.specs.Shown.{IsShownBefore}
use Rattle.rbbi_cache.proofs.Showing.{none_before, none_up_to_anchor, none_last, shown_last}
use Rattle.rbbi_cache.proofs.run.Run.shown_before.Goals as goal

-- the entry read from the list of the run's entries
shown_at : (x : List ℕ) (run : Run) (i k : ℕ) (entries : List Entry) (e : Entry) → entries ≡ run.entries → e ≡ get_or entries k e →
    IsShownBefore x run i (get_or run.entries k e) → IsShownBefore x run i e
shown_at x run i k entries e same is shown = subst (IsShownBefore x run i) (sym (is ∙ ap (λ l. get_or l k e) same)) shown

pub returns-then-i-anchor : goal.returns-then-i-anchor
returns-then-i-anchor c x same =
    none_up_to_anchor c.args.self.now c.requires.behind (record { at = 0; status = 0; reach = 0 }) x c.args.i c.requires.some
    (omega (arith, c.if-i-anchor.true, c.anchor-anchor.ensures))

pub returns-then-k-eq0 : goal.returns-then-k-eq0
returns-then-k-eq0 c x same =
    none_before x c.args.self.now c.args.i c.count_up_to-k.result (record { at = 0; status = 0; reach = 0 }) c.requires.some
    (subst (λ l. AreUpTo l (c.args.i - 1) c.count_up_to-k.result) c.entries-entries.ensures c.count_up_to-k.ensures) c.if-k-eq0.true

pub returns-then-k-entries : goal.returns-then-k-entries
returns-then-k-entries c x same =
    let few : 0 < c.count_up_to-k.result = omega arith in
    shown_at x c.args.self.now c.args.i (c.count_up_to-k.result - 1) c.entries-entries.result.now c.index-entries-k.result c.entries-entries.ensures
    c.index-entries-k.is
    (shown_last x c.args.self.now c.args.i c.count_up_to-k.result c.index-entries-k.result c.requires.some
    (subst (λ l. AreUpTo l (c.args.i - 1) c.count_up_to-k.result) c.entries-entries.ensures c.count_up_to-k.ensures) few
    (inl (omega (arith, ap length c.entries-entries.ensures))))

pub returns-then-entry-len : goal.returns-then-entry-len
returns-then-entry-len c x same =
    let few : 0 < c.count_up_to-k.result = omega arith in
    let is : c.index-entries-k.result ≡ get_or c.args.self.now.entries (c.count_up_to-k.result - 1) c.index-entries-k.result =
    c.index-entries-k.is ∙ ap (λ l. get_or l (c.count_up_to-k.result - 1) c.index-entries-k.result) c.entries-entries.ensures in
    let at : (get_or c.args.self.now.entries (c.count_up_to-k.result - 1) c.index-entries-k.result).at ≡ length x =
    ap (λ e. e.at) (sym is) ∙ sym (ap (λ e. e.at) c.entry.view_is) ∙ c.if-entry-len.true ∙ same in
    shown_at x c.args.self.now c.args.i (c.count_up_to-k.result - 1) c.entries-entries.result.now c.index-entries-k.result c.entries-entries.ensures
    c.index-entries-k.is
    (shown_last x c.args.self.now c.args.i c.count_up_to-k.result c.index-entries-k.result c.requires.some
    (subst (λ l. AreUpTo l (c.args.i - 1) c.count_up_to-k.result) c.entries-entries.ensures c.count_up_to-k.ensures) few (inr at))

pub returns : goal.returns
returns c x same =
    let few : 0 < c.count_up_to-k.result = omega arith in
    let within = c.count_up_to-k.ensures.within in
    let is : c.index-entries-k.result ≡ get_or c.args.self.now.entries (c.count_up_to-k.result - 1) c.index-entries-k.result =
    c.index-entries-k.is ∙ ap (λ l. get_or l (c.count_up_to-k.result - 1) c.index-entries-k.result) c.entries-entries.ensures in
    none_last x c.args.self.now c.args.i c.count_up_to-k.result c.index-entries-k.result c.requires.some
    (subst (λ l. AreUpTo l (c.args.i - 1) c.count_up_to-k.result) c.entries-entries.ensures c.count_up_to-k.ensures) few
    (omega (arith, ap length c.entries-entries.ensures))
    (λ end. c.if-entry-len.false (ap (λ e. e.at) c.entry.view_is ∙ ap (λ e. e.at) is ∙ end ∙ sym same))
    c.requires.rising
    (subst (λ n. AllByRecursion (λ e. e.at ≤ n) c.args.self.now.entries) same c.requires.within)
