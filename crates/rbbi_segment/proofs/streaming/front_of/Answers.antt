use Rattle.std.proofs.Common.{◌≡◌, Option, ℕ, Some, None, length, drop, sym, subst, ap, ◌∙◌}
use Rattle.std.specs.Str.{IsErrorLen, IsValidUpTo}
use Rattle.std.specs.Str.Lossy.{utf8_error_len}
use Rattle.rbbi_segment.proofs.Spelled.{front_whole, front_open, front_ended, front_faulty}
use Rattle.rbbi_segment.proofs.streaming.front_of.Goals as goal

pub returns-in-Ok : goal.returns-in-Ok
returns-in-Ok c = front_whole c.args.is_lossy c.args.is_last c.args.bytes.now c.in-Ok.text.now c.in-Ok.ensures.cases.0 c.in-Ok.ensures.cases.1

pub returns-in-None : goal.returns-in-None
returns-in-None c =
    front_open c.args.is_lossy c.args.is_last c.args.bytes.now c.front_up_to.result.text.now c.valid_up_to-end.result c.front_up_to.result.replaced
    (subst (IsValidUpTo c.args.bytes.now) (sym c.valid_up_to-end.ensures) c.in-Err.ensures.cases.1) c.front_up_to.ensures.text
    c.front_up_to.ensures.replaced c.if-not-is_last.true

pub returns-in-None-2 : goal.returns-in-None-2
returns-in-None-2 c =
    let bytes = c.args.bytes.now in
    let end : ℕ = c.valid_up_to-end.result in
    front_ended c.args.is_lossy c.args.is_last bytes c.front_up_to-in-None-2.result.text.now end c.front_up_to-in-None-2.result.replaced
    (subst (IsValidUpTo bytes) (sym c.valid_up_to-end.ensures) c.in-Err.ensures.cases.1) c.front_up_to-in-None-2.ensures.text
    c.if-is_lossy.true (cc (c.if-not-is_last.false))
    (ap (λ n. utf8_error_len (drop n bytes)) c.valid_up_to-end.ensures ∙ sym c.in-Err.ensures.fault ∙ sym c.error_len.ensures ∙ c.in-None-2.is)
    c.front_up_to-in-None-2.ensures.replaced

pub returns-in-Some : goal.returns-in-Some
returns-in-Some c =
    let bytes = c.args.bytes.now in
    let end : ℕ = c.valid_up_to-end.result in
    let found : c.in-Err.fault.error_len ≡ Some c.front_up_to-in-Some.result.replaced =
    sym c.error_len.ensures ∙ c.in-Some.is ∙ ap Some (sym c.front_up_to-in-Some.ensures.replaced) in
    front_faulty c.args.is_lossy c.args.is_last bytes c.front_up_to-in-Some.result.text.now end c.front_up_to-in-Some.result.replaced
    (subst (IsValidUpTo bytes) (sym c.valid_up_to-end.ensures) c.in-Err.ensures.cases.1) c.front_up_to-in-Some.ensures.text
    c.if-is_lossy-2.true
    (ap (λ n. utf8_error_len (drop n bytes)) c.valid_up_to-end.ensures ∙ sym c.in-Err.ensures.fault ∙ found)
    (subst (λ n. IsErrorLen bytes n (Some c.front_up_to-in-Some.result.replaced)) (sym c.valid_up_to-end.ensures)
    (subst (IsErrorLen bytes c.in-Err.fault.valid_up_to) found c.in-Err.ensures.error_len))
