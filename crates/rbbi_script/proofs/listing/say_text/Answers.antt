use Rattle.std.proofs.Common.{ℕ, suc, List, [], ◌∷◌, ◌++◌, take, drop, get_or, refl, ap, ◌∙◌, subst, append_assoc, arith}
use Rattle.std.specs.List.{flat_map}
use Rattle.std.proofs.lemmas.List.{take_all}
use Rattle.std.proofs.lemmas.Result.{err_from_is_err_and}
use Rattle.rbbi_model.specs.Lines.{escaped}
use Rattle.rbbi_text.specs.Appending.{AppendsFront}
use Rattle.rbbi_text.proofs.Appended.{front_first, front_later, appends_then, flat_parts}
use Rattle.rbbi_script.proofs.listing.say_text.Goals as goal

pub returns-in_err-say_character-clause-replies : goal.returns-in_err-say_character-clause-replies
returns-in_err-say_character-clause-replies g c =
    let told = err_from_is_err_and c.from_residual.result c.from_residual.ensures.1 in
    let x : List ℕ = g.T.Chars.characters c.args.text.now in
    let i : ℕ = c.loop-i.i in
    let first : List ℕ = flat_map escaped (take i x) in
    let rest : List ℕ = flat_map escaped (drop (suc i) x) in
    let here : List ℕ = escaped (get_or x i 0) in
    rw told.1
    (front_later c.args.reply.now.items first (here ++ (rest ++ 10 ∷ [])) _ c.loop-i.reply.items _ c.loop-i.invariant.said
    (ap (λ l. l ++ 10 ∷ []) (flat_parts escaped x i 0 (omega (arith, c.loop-i-test.true, c.len-i-end.ensures.exact)))
    ∙ append_assoc first (here ++ rest) (10 ∷ [])
    ∙ ap (λ l. first ++ l) (append_assoc here rest (10 ∷ [])))
    (front_first c.loop-i.reply.items here (rest ++ 10 ∷ []) _ _ refl
    (subst (λ ch. AppendsFront c.loop-i.reply.items (escaped ch) c.say_character.new.reply.items) c.char_at.ensures.character c.in_err-say_character.ensures)))

pub returns-clause-replies : goal.returns-clause-replies
returns-clause-replies g c =
    let x : List ℕ = g.T.Chars.characters c.args.text.now in
    appends_then c.args.reply.now.items (flat_map escaped x) (10 ∷ []) _ c.loop-i.reply.items _ c.append.result
    (c.loop-i.invariant.said ∙ ap (λ l. c.args.reply.now.items ++ flat_map escaped l)
    (take_all c.loop-i.i x (omega (arith, c.loop-i-test.false, c.len-i-end.ensures.exact))))
    refl c.append.ensures
