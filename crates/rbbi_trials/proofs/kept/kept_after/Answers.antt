use Rattle.std.proofs.Common.{[], length, ap, arith}
use Rattle.std.specs.Str.{chars}
use Rattle.std.proofs.lemmas.Str.{chars-nil}
use Rattle.rbbi_trials.proofs.kept.kept_after.Goals as goal

pub edited-requires : goal.edited-requires
edited-requires g c =
    let replaced = c.in_ok-replace.ensures in
    record {
      text = c.args.text;
      edited = record { within = replaced.0; characters = chars []; many = ap length chars-nil; spliced = replaced.2 };
      small = omega (arith, c.text.invariant.1, ap length c.text.view_is);
      are_true = c.ask_past.ensures.are_true;
    }
