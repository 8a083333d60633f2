use Rattle.std.proofs.Common.{ℕ, ◌<◌, List, Option, Some, None, MatchOption, Bor}
use Rattle.std.proofs.lemmas.Str.Pattern.{IsSplitOnceResult, split_parts}
use Rattle.rbbi_script.specs.inner.Readings.{HasNone, IsFirstCut}
use Rattle.rbbi_script.proofs.pieces.cut_at.Goals as goal

first_cut : (at : ℕ) (text : List ℕ) (found : Option (Bor (List ℕ) × Bor (List ℕ))) → IsSplitOnceResult at text found → at < 128 →
    MatchOption found (HasNone at text) (λ cut. IsFirstCut at text cut.0.now cut.1.now)
first_cut at text None h low = split_parts at text None h low
first_cut at text (Some cut) h low =
    let parts = split_parts at text (Some cut) h low in record { parts = parts.0; first = parts.1 }

pub returns : goal.returns
returns c = first_cut c.args.at c.args.text.now c.split_once.result c.split_once.ensures.cases c.requires
