use Rattle.std.proofs.Common.{◌≡◌, ℕ, ◌-◌, List, [], get_or, ap, sym, ◌∙◌}
use Rattle.std.proofs.lemmas.List.{get_or_read}
use Rattle.rbbi_text.proofs.CutLemmas.{character_at}
use Rattle.rbbi_text.proofs.places.character.Goals as goal

pub returns : goal.returns
returns c =
    let k : ℕ = c.locate-piece.result in
    let place : ℕ = c.args.place - get_or c.args.starts.now k 0 in
    let same : c.index-pieces-piece.result ≡ get_or c.args.pieces.now k [] =
    get_or_read c.args.pieces.now k c.index-pieces-piece.result c.locate-piece.ensures.within c.index-pieces-piece.is [] in
    c.get.ensures ∙ ap (λ (l : List ℕ). get_or l place 0) same
    ∙ sym (character_at c.args.pieces.now c.args.starts.now k c.args.place c.requires.cut c.locate-piece.ensures c.requires.inside)
