use Rattle.std.proofs.Common.{◌≡◌, ℕ, ◌<◌, true, [], ◌∷◌, ◌++◌, encode_utf8, ap, sym, ◌∙◌, arith}
use Rattle.std.proofs.lemmas.Bool.Decides.{nat_tests}
use Rattle.std.proofs.lemmas.Str.{encode_ascii}
use Rattle.rbbi_segment.specs.Escapes.{is_plain, shown}
use Rattle.rbbi_segment.specs.declared.escapes.Within.{Within}
use Rattle.rbbi_segment.specs.declared.escapes.Within.TheVariants.{Nothing, Quotes, Json, Bare}
use Rattle.rbbi_segment.proofs.escapes.append_character.Goals as goal

-- printable ASCII is itself, but for quotes and backslashes
shown_plain : (within : Within) (c : ℕ) → is_plain c ≡ true → encode_utf8 c ≡ c ∷ [] → shown within c ≡ c ∷ []
shown_plain Nothing c plain one = grind (arith, nat_tests)
shown_plain Quotes c plain one = grind (arith, nat_tests)
shown_plain Json c plain one = grind (arith, nat_tests)
shown_plain Bare c plain one = one

plain_below : (c : ℕ) → is_plain c ≡ true → c < 128
plain_below c plain = grind (arith, nat_tests)

pub returns-then-is_plain : goal.returns-then-is_plain
returns-then-is_plain c =
    let plain : is_plain c.args.c ≡ true = sym c.is_plain.ensures ∙ c.if-is_plain.true in
    c.in_ok-push.ensures.items
    ∙ ap (λ l. c.args.out.now.items ++ l) (sym (shown_plain c.args.within c.args.c plain (encode_ascii c.args.c (plain_below c.args.c plain))))
