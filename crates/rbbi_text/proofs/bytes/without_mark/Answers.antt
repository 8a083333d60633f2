use Rattle.std.proofs.Common.{◌≡◌, ◌≤◌, ℕ, ◌+◌, cond, Option, Some, None, List, ◌++◌, length, drop, MatchOption, Bor, sym, refl, ap, ◌∙◌, arith}
use Rattle.std.specs.Prelude.{unwrap_or, encode_utf8, nat_eq}
use Rattle.std.specs.List.{starts_with}
use Rattle.std.specs.Str.Pattern.{FindsCharPrefix}
use Rattle.std.proofs.lemmas.Bool.{false_from_ne_true}
use Rattle.std.proofs.lemmas.Bool.Decides.{Decides-eqb}
use Rattle.std.proofs.lemmas.Slice.Eq.{starts_is}
use Rattle.rbbi_text.specs.Bytes.{byte_order_mark, without_mark}
use Rattle.rbbi_text.proofs.bytes.without_mark.Goals as goal

abbrev Stripped : List ℕ → Option (Bor (List ℕ)) → Type 0
Stripped bs found =
    MatchOption found (FindsCharPrefix 0xFEFF bs None) (λ x. (n : ℕ) × FindsCharPrefix 0xFEFF bs (Some n) × (x.now ≡ drop n bs) ×
    (length x.now + n ≡ length bs))

stripped : (bs : List ℕ) (found : Option (Bor (List ℕ))) (whole : Bor (List ℕ)) → whole.now ≡ bs → Stripped bs found →
    (unwrap_or found whole).now ≡ without_mark bs
unfolding lib.Utf8.encode
stripped bs None whole same none =
    let starts = starts_is Decides-eqb bs byte_order_mark (starts_with nat_eq bs byte_order_mark) refl in
    let unmarked = false_from_ne_true (starts_with nat_eq bs byte_order_mark) (λ marked. none (drop (length byte_order_mark) bs) (starts.0 marked)) in
    same ∙ sym (ap (λ b. cond b (drop (length byte_order_mark) bs) bs) unmarked)
stripped bs (Some x) whole same (n, found, rest, whole_length) =
    let starts = starts_is Decides-eqb bs byte_order_mark (starts_with nat_eq bs byte_order_mark) refl in
    let marked = starts.1 x.now (found.split ∙ ap (λ w. encode_utf8 0xFEFF ++ w) (sym rest)) in
    rest ∙ ap (λ k. drop k bs) found.ends ∙ sym (ap (λ b. cond b (drop (length byte_order_mark) bs) bs) marked)

pub returns-clause-text : goal.returns-clause-text
returns-clause-text c = ap (λ r. r.now) c.unwrap_or.ensures ∙ stripped c.args.text.now c.strip_prefix.result c.args.text refl c.strip_prefix.ensures.cases

no_longer : (bs : List ℕ) (found : Option (Bor (List ℕ))) (whole : Bor (List ℕ)) → whole.now ≡ bs → Stripped bs found →
    length (unwrap_or found whole).now ≤ length bs
no_longer bs None whole same none = let long = ap length same in omega arith
no_longer bs (Some x) whole same some = let long = some.3 in omega arith

pub returns-clause-no_longer : goal.returns-clause-no_longer
returns-clause-no_longer c =
    let short = no_longer c.args.text.now c.strip_prefix.result c.args.text refl c.strip_prefix.ensures.cases in
    let same = ap (λ r. length r.now) c.unwrap_or.ensures in
    omega arith
