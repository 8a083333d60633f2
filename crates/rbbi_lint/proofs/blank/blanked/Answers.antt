use Rattle.std.proofs.Common.{◌≡◌, ℕ, ◌+◌, ◌<◌, ◌≤◌, ◌⊎◌, List, [], ◌∷◌, ◌++◌, length, chars, refl, arith, ap, sym, ◌∙◌, subst}
use Rattle.std.specs.Prelude.{encode_utf8_all, string_bytes}
use Rattle.std.proofs.lemmas.List.{length_push, map-id}
use Rattle.std.proofs.lemmas.Iterator.{YieldsList-from_chars}
use Rattle.std.proofs.lemmas.Iterator.Consumers.{YieldsList-end}
use Rattle.std.proofs.lemmas.Str.{chars-nil, encodes-chars, IsUtf8-string_bytes}
use Rattle.rbbi_lint.specs.Blanks.{IsBlanked}
use Rattle.rbbi_lint.proofs.Blanking.{blanked_nil, blanked_push, no_longer_push}
use Rattle.rbbi_lint.proofs.blank.blanked.Goals as goal

pub loop-c-init : goal.loop-c-init
loop-c-init c =
    let none : chars (string_bytes c.new-made.result) ≡ [] = ap chars c.new-made.ensures.bytes ∙ chars-nil in
    record {
      text = subst (λ (y : List ℕ). IsBlanked c.args.from c.args.to [] y) (sym none) (blanked_nil c.args.from c.args.to);
      place = refl;
      no_longer = subst (λ (y : List ℕ). length (encode_utf8_all y) ≤ length (encode_utf8_all [])) (sym none) (omega arith);
    }

pub loop-c-preserved : goal.loop-c-preserved
loop-c-preserved c =
    let old = c.loop-c.invariant in
    let x : List ℕ = c.loop-c.yielded in
    let y : List ℕ = chars (string_bytes c.loop-c.made) in
    let pushed : chars (string_bytes c.push_character.new.string) ≡ y ++ c.kept.result ∷ [] = c.in_ok-push_character.ensures in
    let more = x ++ c.in-Some.c ∷ [] in
    record {
      text = subst (λ (made : List ℕ). IsBlanked c.args.from c.args.to more made) (sym pushed)
          (blanked_push c.args.from c.args.to x y c.in-Some.c c.kept.result old.text
          (λ low high. c.kept.ensures.inside (subst (λ n. c.args.from ≤ n) (sym old.place) low) (subst (λ n. n < c.args.to) (sym old.place) high))
          (λ side. c.kept.ensures.outside (subst (λ n. (n < c.args.from) ⊎ (c.args.to ≤ n)) (sym old.place) side)));
      place = ap (λ n. n + 1) old.place ∙ sym (length_push x c.in-Some.c);
      no_longer = subst (λ (made : List ℕ). length (encode_utf8_all made) ≤ length (encode_utf8_all more)) (sym pushed)
          (no_longer_push x y c.in-Some.c c.kept.result old.no_longer c.kept.ensures.no_longer);
    }

-- the characters so far are all
whole : (c : goal.In-None) → c.loop-c.yielded ≡ chars c.args.text.now
whole c =
    let end = YieldsList-end (YieldsList-from_chars c.args.text.now c.utf8.text cc) c.loop-c.yielded _ c.loop-c.yielded_by _ _ c.in-None.is
    c.next.ensures.steps in
    sym (map-id c.loop-c.yielded) ∙ end.0

pub returns-clause-text : goal.returns-clause-text
returns-clause-text c =
    subst (λ (x : List ℕ). IsBlanked c.args.from c.args.to x (chars (string_bytes c.loop-c.made))) (whole c) c.loop-c.invariant.text

pub returns-clause-no_longer : goal.returns-clause-no_longer
returns-clause-no_longer c =
    let made = c.loop-c.made in
    let short : length (encode_utf8_all (chars (string_bytes made))) ≤ length (encode_utf8_all (chars c.args.text.now)) =
    subst (λ (x : List ℕ). length (encode_utf8_all (chars (string_bytes made))) ≤ length (encode_utf8_all x)) (whole c) c.loop-c.invariant.no_longer in
    let this = ap length (encodes-chars (string_bytes made) (IsUtf8-string_bytes made)) in
    let all = ap length (encodes-chars c.args.text.now c.utf8.text) in
    omega (arith, short, this, all)
