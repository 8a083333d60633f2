-- Fronts of lines that were appended.
use Rattle.std.proofs.Common.{◌≡◌, ℕ, suc, ◌<◌, length, take, drop, get_or, List, ◌∷◌, ◌++◌, Result, Ok, Err, ap, sym, ◌∙◌, append_assoc, drop-cons}
use Rattle.std.specs.List.{flat_map}
use Rattle.std.proofs.lemmas.List.{take-append-drop}
use Rattle.std.proofs.lemmas.Grind.{flat_map-append}
use Rattle.rbbi_text.specs.Appending.{AppendsFront, Appends}

-- the first of several parts was not appended whole
pub front_first : (old first second line new : List ℕ) → line ≡ first ++ second → AppendsFront old first new → AppendsFront old line new
front_first old first second line new e h = record {
  front = h.front;
  back = h.back ++ second;
  parts = e ∙ ap (λ x. x ++ second) h.parts ∙ append_assoc h.front h.back second;
  appended = h.appended;
}

-- a later part was not appended whole
pub front_later : (old first second line middle new : List ℕ) → middle ≡ old ++ first → line ≡ first ++ second → AppendsFront middle second new →
    AppendsFront old line new
front_later old first second line middle new m e h = record {
  front = first ++ h.front;
  back = h.back;
  parts = e ∙ ap (λ x. first ++ x) h.parts ∙ sym (append_assoc first h.front h.back);
  appended = h.appended ∙ ap (λ x. x ++ h.front) m ∙ append_assoc old first h.front;
}

-- a second call after one that appended all
pub appends_then : {T E : Type 0} (old first second line middle new : List ℕ) (r : Result T E) → middle ≡ old ++ first → line ≡ first ++ second →
    Appends middle second r new → Appends old line r new
appends_then old first second line middle new (Ok done) m e h = h ∙ ap (λ x. x ++ second) m ∙ append_assoc old first second ∙ ap (λ x. old ++ x) (sym e)
appends_then old first second line middle new (Err error) m e h = front_later old first second line middle new m e h

-- what is written of the numbers before one, of the one, and of those after it
pub flat_parts : (f : ℕ → List ℕ) (ns : List ℕ) (i d : ℕ) → i < length ns → flat_map f ns ≡ flat_map f (take i ns) ++
    (f (get_or ns i d) ++ flat_map f (drop (suc i) ns))
flat_parts f ns i d l =
    ap (flat_map f) (sym (take-append-drop i ns) ∙ ap (λ x. take i ns ++ x) (drop-cons ns i d l))
    ∙ flat_map-append f (take i ns) (get_or ns i d ∷ drop (suc i) ns)
