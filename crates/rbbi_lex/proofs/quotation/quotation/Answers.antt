use Rattle.std.proofs.Common.{◌≡◌, ℕ, ◌+◌, inl, inr, true, false, List, [], ◌∷◌, ◌++◌, refl, sym, ap, subst, ◌∙◌, arith, append_assoc, append-nil}
use Rattle.std.proofs.lemmas.Bool.{cases_Bool}
use Rattle.std.proofs.lemmas.Str.{chars-nil}
use Rattle.std.specs.Prelude.{chars, string_bytes}
use Rattle.rbbi_lex.specs.Points.{is_at}
use Rattle.rbbi_lex.specs.Quotations.{QuotesUpTo}
use Rattle.rbbi_lex.proofs.PointLemmas.{IsQuoted-forward, IsQuoted-within, QuotesUpTo-rest}
use Rattle.rbbi_lex.proofs.Decisions.{no_close}
use Rattle.rbbi_lex.proofs.quotation.quotation.Goals as goal

pub loop-next-init : goal.loop-next-init
loop-next-init c =
    let empty : chars (string_bytes c.new-word.result) ≡ [] = ap chars c.new-word.ensures.bytes ∙ chars-nil in
    record {
      whole = λ word end q. subst (λ (v : List ℕ). QuotesUpTo c.args.text.now (c.args.at + 1) (v ++ word) end) (sym empty) q;
      rest = λ word end q. (word, q);
    }

pub loop-next-smaller : goal.loop-next-smaller
loop-next-smaller c =
    let next = c.in-Some.next in
    let forward = IsQuoted-forward c.args.text.now c.loop-next.close next.end next.character c.in-Some.ensures in
    let within = IsQuoted-within c.args.text.now c.loop-next.close next.end next.character c.in-Some.ensures in
    omega arith

pub loop-next-preserved : goal.loop-next-preserved
loop-next-preserved c =
    let x = c.args.text.now in
    let next = c.in-Some.next in
    let old = chars (string_bytes c.loop-next.word) in
    let new = chars (string_bytes c.push_character.new.string) in
    record {
      whole = λ word end q.
          let joined : old ++ (next.character ∷ word) ≡ new ++ word =
          sym (ap (λ (v : List ℕ). v ++ word) c.in_ok-push_character.ensures ∙ append_assoc old (next.character ∷ []) word) in
          subst (λ (v : List ℕ). QuotesUpTo x (c.args.at + 1) v end) joined
          (c.loop-next.invariant.whole (next.character ∷ word) end (next.end, c.in-Some.ensures, q));
      rest = λ word end q.
          let left = c.loop-next.invariant.rest word end q in
          QuotesUpTo-rest x c.loop-next.close next.end next.character left.0 end c.in-Some.ensures left.1;
    }

pub returns-then-not-stands_at : goal.returns-then-not-stands_at
returns-then-not-stands_at c = λ j kind p.
    let left = c.loop-next.invariant.rest p.1.0 p.1.1 p.1.2 in
    no_close c.args.text.now c.loop-next.close (sym c.stands_at-2.ensures.value ∙ c.if-not-stands_at.true) c.in_default.ensures left.0 p.1.1 left.1

pub returns : goal.returns
returns c =
    let x = c.args.text.now in
    let close = c.loop-next.close in
    let old = chars (string_bytes c.loop-next.word) in
    let quote : is_at x close 39 ≡ true = sym c.stands_at-2.ensures.value ∙ c.if-not-stands_at.false in
    let last : is_at x (close + 1) 39 ≡ false =
    elim (cases_Bool (is_at x (close + 1) 39)) [
      | inl pair ↦ absurd (c.in_default.ensures (close + 2) 39 (inl (quote, pair, refl, refl)))
      | inr single ↦ single
    ] in
    let whole = c.loop-next.invariant.whole [] close (refl, quote, last) in
    let word : c.in_ok-new.field-0 ≡ old = c.in_ok-new.ensures ∙ ap chars c.as_str.ensures.value in
    let spelled = subst (λ (v : List ℕ). QuotesUpTo x (c.args.at + 1) v close) (append-nil old ∙ sym word) whole in
    (sym c.stands_at.ensures.value ∙ c.if-stands_at.false, (c.in_ok-new.field-0, close, spelled, refl, refl))
