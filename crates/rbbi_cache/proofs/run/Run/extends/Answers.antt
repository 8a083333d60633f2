use Rattle.std.proofs.Common.{◌≡◌, List, sym, refl, ◌∙◌, subst, arith}
use Rattle.std.proofs.lemmas.Bool.{false≢true}
use Rattle.rbbi_model.specs.Runs.{Entry}
use Rattle.rbbi_cache.specs.Kept.{AreAmong}
use Rattle.rbbi_cache.proofs.run.Run.extends.Goals as goal

-- the same of equal lists
same_among : (entries others entries' others' : List Entry) → entries ≡ entries' → others ≡ others' → AreAmong entries others → AreAmong entries' others'
same_among entries others entries' others' same same' each = subst (λ l. AreAmong l others') same (subst (λ l. AreAmong entries l) same' each)

pub returns-then-not-are_among : goal.returns-then-not-are_among
returns-then-not-are_among c = (
  λ so. absurd (false≢true so),
  λ is. absurd (false≢true (sym c.if-not-are_among.true ∙ c.are_among.ensures.1 (same_among c.args.former.now.entries c.args.self.now.entries
      c.entries.result.now c.entries-2.result.now (sym c.entries.ensures) (sym c.entries-2.ensures) is.entries))),
)

pub returns-then-not-leads : goal.returns-then-not-leads
returns-then-not-leads c = (
  λ so. record {
    anchor = omega arith;
    entries = same_among c.entries.result.now c.entries-2.result.now c.args.former.now.entries c.args.self.now.entries c.entries.ensures c.entries-2.ensures
        (c.are_among.ensures.0 c.if-not-are_among.false);
    leads = λ leads. absurd (false≢true (sym c.if-not-leads.true ∙ c.leads.ensures ∙ leads));
  },
  λ is. refl,
)

pub returns : goal.returns
returns c = (
  λ so. record {
    anchor = omega arith;
    entries = same_among c.entries.result.now c.entries-2.result.now c.args.former.now.entries c.args.self.now.entries c.entries.ensures c.entries-2.ensures
        (c.are_among.ensures.0 c.if-not-are_among.false);
    leads = λ leads. sym c.leads-2.ensures ∙ so;
  },
  λ is. c.leads-2.ensures ∙ is.leads (sym c.leads.ensures ∙ c.if-not-leads.false),
)
