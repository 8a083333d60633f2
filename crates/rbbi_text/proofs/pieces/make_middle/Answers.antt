use Rattle.std.proofs.Common.{◌≡◌, ℕ, ◌+◌, ◌<◌, List, [], ◌++◌, length, get_or, drop, ◌∙◌, ap, chars, arith}
use Rattle.std.proofs.lemmas.List.{get_or_read}
use Rattle.rbbi_text.proofs.CutLemmas.{middle_one, middle_two}
use Rattle.rbbi_text.proofs.pieces.make_middle.Goals as goal

gathered_are : (front w back piece q characters : List ℕ) (left : ℕ) → characters ≡ front ++ (w ++ back) → back ≡ drop left piece → piece ≡ q →
    characters ≡ front ++ (w ++ drop left q)
gathered_are front w back piece q characters left are rest same = cc

pub returns-then-is_enough : goal.returns-then-is_enough
returns-then-is_enough c =
    let last : ℕ = c.locate-last.result in
    let piece : c.index-pieces-last.result ≡ get_or c.args.pieces.now last [] =
    get_or_read c.args.pieces.now last c.index-pieces-last.result c.locate-last.ensures.within c.index-pieces-last.is [] in
    middle_one c.args.pieces.now c.args.starts.now c.args.front.now (chars c.args.insert.now) c.args.end last c.in_ok-characters.characters.items
    c.requires.cut c.locate-last.ensures c.requires.inside (gathered_are _ _ _ _ _ _ _ c.in_ok-characters.ensures c.behind-back.ensures piece)
    (λ more. omega (arith, c.if-is_enough.ensures more, c.len.ensures, c.in_ok-characters.characters.ok.0))

pub returns : goal.returns
returns c =
    let ps : List (List ℕ) = c.args.pieces.now in
    let last : ℕ = c.locate-last.result in
    let piece : c.index-pieces-last.result ≡ get_or ps last [] =
    get_or_read ps last c.index-pieces-last.result c.locate-last.ensures.within c.index-pieces-last.is [] in
    let more : last + 1 < length ps = c.if-is_enough.ensures in
    let next : c.index-pieces-last-2.result ≡ get_or ps (last + 1) [] =
    get_or_read ps (last + 1) c.index-pieces-last-2.result more c.index-pieces-last-2.is [] in
    let both : c.extend_from_slice.new.self.items ≡ c.in_ok-characters.characters.items ++ get_or ps (last + 1) [] =
    c.in_ok-extend_from_slice.ensures.items ∙ ap (λ (l : List ℕ). c.in_ok-characters.characters.items ++ l) (c.as_slice.ensures ∙ next) in
    middle_two ps c.args.starts.now c.args.front.now (chars c.args.insert.now) c.args.end last c.in_ok-characters.characters.items
    c.extend_from_slice.new.self.items c.requires.cut c.locate-last.ensures c.requires.inside
    (gathered_are _ _ _ _ _ _ _ c.in_ok-characters.ensures c.behind-back.ensures piece) more both
