-- Texts after an edit.
use Rattle.std.proofs.Common.{◌≡◌, ℕ, ◌+◌, ◌-◌, ◌≤◌, List, ◌++◌, length, take, drop, arith, length-append, length-take, length-drop}
use Rattle.rbbi_model.specs.Words.{IsText}
use Rattle.rbbi_model.specs.Scripts.{splice}
use Rattle.rbbi_model.proofs.Texts.{text_take, text_drop, text_append}

-- the length of an edited list
pub length-splice : (x w : List ℕ) (at remove : ℕ) → at + remove ≤ length x → length (splice x at remove w) ≡ length x - remove + length w
length-splice x w at remove within =
    omega (arith, length-append (take at x ++ w) (drop (at + remove) x), length-append (take at x) w, length-take at x, length-drop (at + remove) x)

-- an edited text is a text
pub text-splice : (x w : List ℕ) (at remove : ℕ) → IsText x → IsText w → IsText (splice x at remove w)
text-splice x w at remove text text' =
    text_append (take at x ++ w) (drop (at + remove) x) (text_append (take at x) w (text_take at x text) text') (text_drop (at + remove) x text)
