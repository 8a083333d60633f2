use Rattle.std.proofs.Common.{◌≡◌, ◌++◌, length, take, drop, sym, ap, ◌∙◌, subst, arith, append_assoc, chars}
use Rattle.std.specs.Str.{IsAscii}
use Rattle.std.proofs.lemmas.List.{take-append-drop, length-drop}
use Rattle.std.proofs.lemmas.Str.{chars-append, chars-IsAscii, IsUtf8-from_ascii, IsCharBoundary-from_take}
use Rattle.rbbi_text.proofs.plain.push_front.Goals as goal

pub range_from-requires : goal.range_from-requires
range_from-requires c =
    let text = c.args.text.now in
    let ascii : IsAscii (take 64 c.as_bytes-bytes.result.now) = c.is_ascii.ensures c.if-is_ascii.true in
    let front : IsAscii (take 64 text) = subst (λ bs. IsAscii (take 64 bs)) c.as_bytes-bytes.ensures.value ascii in
    λ _. IsCharBoundary-from_take text 64 c.utf8.text (omega (arith, c.as_bytes-bytes.ensures.len)) (IsUtf8-from_ascii (take 64 text) front)

pub returns-then-is_ascii : goal.returns-then-is_ascii
returns-then-is_ascii c =
    let text = c.args.text.now in
    let old = c.args.items.now.items in
    let ascii : IsAscii (take 64 c.as_bytes-bytes.result.now) = c.is_ascii.ensures c.if-is_ascii.true in
    let front : IsAscii (take 64 text) = subst (λ bs. IsAscii (take 64 bs)) c.as_bytes-bytes.ensures.value ascii in
    let pushed : c.push_ascii.new.items.items ≡ old ++ take 64 text = c.in_ok-push_ascii.ensures ∙ ap (λ bs. old ++ take 64 bs) c.as_bytes-bytes.ensures.value in
    let parts : chars text ≡ take 64 text ++ chars (drop 64 text) =
    ap chars (sym (take-append-drop 64 text)) ∙ chars-append (take 64 text) (drop 64 text) (IsUtf8-from_ascii (take 64 text) front)
    ∙ ap (λ xs. xs ++ chars (drop 64 text)) (chars-IsAscii (take 64 text) front) in (
      ap (λ bs. c.push_ascii.new.items.items ++ chars bs) c.range_from.ensures.value ∙ ap (λ xs. xs ++ chars (drop 64 text)) pushed
          ∙ append_assoc old (take 64 text) (chars (drop 64 text)) ∙ ap (λ xs. old ++ xs) (sym parts),
      omega (arith, ap length c.range_from.ensures.value, length-drop 64 text, c.as_bytes-bytes.ensures.len),
    )
