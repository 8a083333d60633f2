use Rattle.std.proofs.Common.{◌≡◌, ◌-◌, ◌++◌, get_or, take, drop, length, ap, ◌∙◌, length-drop, arith, rules}
use Rattle.std.proofs.lemmas.List.{take_all}
use Rattle.rbbi_text.specs.Cuts.{starts_from}
use Rattle.rbbi_text.proofs.CutLemmas.{starts_made}
use Rattle.rbbi_text.proofs.pieces.starts_with.Goals as goal

pub returns : goal.returns
returns c =
    let before : c.extend_from_slice.new.self.items ≡ take c.args.first c.args.starts.now = search rules in
    let behind : c.extend_from_slice-2.new.self.items ≡ c.push_starts.new.starts.items ++ drop c.args.past c.args.starts.now =
    c.in_ok-extend_from_slice-2.ensures.items
    ∙ ap (λ l. c.push_starts.new.starts.items ++ l)
    (take_all (length c.args.starts.now - c.args.past) (drop c.args.past c.args.starts.now) (omega (arith, length-drop c.args.past c.args.starts.now))) in
    starts_made c.args.starts.now c.extend_from_slice.new.self.items c.push_starts.new.starts.items c.extend_from_slice-2.new.self.items
    c.shift.new.starts.items (starts_from (get_or c.args.starts.now c.args.first 0) c.args.new.now) c.args.first c.args.past c.len-behind.result
    c.args.removed c.args.added before c.in_ok-_end.ensures.starts behind (omega arith) c.shift.ensures
