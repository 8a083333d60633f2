-- Files in a list, each with its name.
use Rattle.std.proofs.Common.{◌≡◌, ◌≢◌, ℕ, zero, suc, Bool, true, false, cond, List, [], ◌∷◌, ◌++◌, get_or, set, Some, None, Option, refl, sym, ap, ◌∙◌, arith}
use Rattle.std.specs.Prelude.{bytes_eq, unwrap_or}
use Rattle.std.proofs.lemmas.Slice.Eq.{bytes_eq-Decides}
use Rattle.std.proofs.lemmas.List.{get_or_read}
use Rattle.rbbi_io.specs.Memory.{file_of, with_file, held_by}
use Rattle.rbbi_io.specs.inner.Memory.{IsIndexOf, IsAbsent}

false_unless : (b : Bool) → ¬ (b ≡ true) → b ≡ false
false_unless true differs = absurd (differs refl)
false_unless false _ = refl

pub same_name : (xs ys : List ℕ) → xs ≡ ys → bytes_eq xs ys ≡ true
same_name xs ys e = (bytes_eq-Decides xs ys).1 e

pub other_name : (xs ys : List ℕ) → xs ≢ ys → bytes_eq xs ys ≡ false
other_name xs ys ne = false_unless (bytes_eq xs ys) (λ e. ne ((bytes_eq-Decides xs ys).0 e))

-- behind the first file, which has another name, the place is one less
IsIndexOf-tail : (file : List ℕ × List ℕ) (files : List (List ℕ × List ℕ)) (name : List ℕ) (place : ℕ) → IsIndexOf (file ∷ files) name (suc place) →
    IsIndexOf files name place
IsIndexOf-tail file files name place h = record {
  within = omega (arith, h.within);
  named = h.named;
  first = λ k l. h.first (suc k) (omega arith);
}

-- behind the first file the name is absent too
IsAbsent-tail : (file : List ℕ × List ℕ) (files : List (List ℕ × List ℕ)) (name : List ℕ) → IsAbsent (file ∷ files) name → IsAbsent files name
IsAbsent-tail file files name h = λ k l. h (suc k) (omega arith)

-- what is found at the place of a name
pub file_of-place : (files : List (List ℕ × List ℕ)) (name : List ℕ) (place : ℕ) → IsIndexOf files name place →
    file_of files name ≡ Some (get_or files place ([], [])).1
file_of-place [] name place h = absurd (omega (arith, h.within))
file_of-place (file ∷ files) name zero h =
    ap (λ b. cond b (Some file.1) (file_of files name)) (same_name file.0 name h.named)
file_of-place (file ∷ files) name (suc place) h =
    ap (λ b. cond b (Some file.1) (file_of files name)) (other_name file.0 name (h.first 0 (omega arith)))
    ∙ file_of-place files name place (IsIndexOf-tail file files name place h)

-- nothing is found of a name that is absent
pub file_of-absent : (files : List (List ℕ × List ℕ)) (name : List ℕ) → IsAbsent files name → file_of files name ≡ None
file_of-absent [] name h = refl
file_of-absent (file ∷ files) name h =
    ap (λ b. cond b (Some file.1) (file_of files name)) (other_name file.0 name (h 0 (omega arith)))
    ∙ file_of-absent files name (IsAbsent-tail file files name h)

-- a file takes the place of one of its name
pub with_file-place : (files : List (List ℕ × List ℕ)) (name bytes : List ℕ) (place : ℕ) → IsIndexOf files name place →
    with_file files name bytes ≡ set files place ((get_or files place ([], [])).0, bytes)
with_file-place [] name bytes place h = absurd (omega (arith, h.within))
with_file-place (file ∷ files) name bytes zero h =
    ap (λ b. cond b ((file.0, bytes) ∷ files) (file ∷ with_file files name bytes)) (same_name file.0 name h.named)
with_file-place (file ∷ files) name bytes (suc place) h =
    ap (λ b. cond b ((file.0, bytes) ∷ files) (file ∷ with_file files name bytes)) (other_name file.0 name (h.first 0 (omega arith)))
    ∙ ap (λ rest. file ∷ rest) (with_file-place files name bytes place (IsIndexOf-tail file files name place h))

-- the same, as it is written: the file at the place is read, and its bytes are changed
pub set-place : (files : List (List ℕ × List ℕ)) (name bytes : List ℕ) (place : ℕ) (file changed : List ℕ × List ℕ) → IsIndexOf files name place →
    file ≡ get_or files place file → changed ≡ (file.0, bytes) → set files place changed ≡ with_file files name bytes
set-place files name bytes place file changed at read change =
    ap (λ f. set files place f) (change ∙ ap (λ f. (f.0, bytes)) (get_or_read files place file at.within read ([], [])))
    ∙ sym (with_file-place files name bytes place at)

-- a file of a new name stands at the end
pub with_file-absent : (files : List (List ℕ × List ℕ)) (name bytes : List ℕ) → IsAbsent files name → with_file files name bytes ≡ files ++ (name, bytes) ∷ []
with_file-absent [] name bytes h = refl
with_file-absent (file ∷ files) name bytes h =
    ap (λ b. cond b ((file.0, bytes) ∷ files) (file ∷ with_file files name bytes)) (other_name file.0 name (h 0 (omega arith)))
    ∙ ap (λ rest. file ∷ rest) (with_file-absent files name bytes (IsAbsent-tail file files name h))

-- what is found of a name, where a file was perhaps put in the place of the first one
found_after : (first : List ℕ × List ℕ) (files put : List (List ℕ × List ℕ)) (bytes other : List ℕ) (b : Bool) →
    file_of (cond b ((first.0, bytes) ∷ files) (first ∷ put)) other
    ≡ cond b (cond (bytes_eq first.0 other) (Some bytes) (file_of files other)) (cond (bytes_eq first.0 other) (Some first.1) (file_of put other))
found_after first files put bytes other true = refl
found_after first files put bytes other false = refl

-- a choice that is made twice
chosen_twice : (b : Bool) (x y z w : Option (List ℕ)) → w ≡ x → cond b (cond b x y) (cond b z w) ≡ x
chosen_twice true x y z w e = refl
chosen_twice false x y z w e = e

-- two choices of which not both are made
chosen_once : (b d : Bool) (x y z w : Option (List ℕ)) → (b ≡ true → d ≡ false) → w ≡ y → cond b (cond d x y) (cond d z w) ≡ cond d z y
chosen_once true true x y z w apart e = let clash : true ≡ false = apart refl in cc
chosen_once true false x y z w apart e = refl
chosen_once false true x y z w apart e = refl
chosen_once false false x y z w apart e = e

-- the name holds the bytes that were put there
pub file_of-with_file : (files : List (List ℕ × List ℕ)) (name bytes : List ℕ) → file_of (with_file files name bytes) name ≡ Some bytes
file_of-with_file [] name bytes = ap (λ b. cond b (Some bytes) None) (same_name name name refl)
file_of-with_file (file ∷ files) name bytes =
    found_after file files (with_file files name bytes) bytes name (bytes_eq file.0 name)
    ∙ chosen_twice (bytes_eq file.0 name) (Some bytes) (file_of files name) (Some file.1) (file_of (with_file files name bytes) name)
    (file_of-with_file files name bytes)

-- every other name holds what it held
pub file_of-with_other : (files : List (List ℕ × List ℕ)) (name bytes other : List ℕ) → other ≢ name →
    file_of (with_file files name bytes) other ≡ file_of files other
file_of-with_other [] name bytes other ne = ap (λ b. cond b (Some bytes) None) (other_name name other (λ e. ne (sym e)))
file_of-with_other (file ∷ files) name bytes other ne =
    found_after file files (with_file files name bytes) bytes other (bytes_eq file.0 name)
    ∙ chosen_once (bytes_eq file.0 name) (bytes_eq file.0 other) (Some bytes) (file_of files other) (Some file.1) (file_of (with_file files name bytes) other)
    (λ e. other_name file.0 other (λ d. ne (sym d ∙ (bytes_eq-Decides file.0 name).0 e)))
    (file_of-with_other files name bytes other ne)

-- the name holds the bytes that were written
pub held_by-with_file : (files : List (List ℕ × List ℕ)) (name bytes : List ℕ) → held_by (with_file files name bytes) name ≡ bytes
held_by-with_file files name bytes = ap (λ o. unwrap_or o []) (file_of-with_file files name bytes)

-- every other name holds what it held
pub held_by-with_other : (files : List (List ℕ × List ℕ)) (name bytes other : List ℕ) → other ≢ name →
    held_by (with_file files name bytes) other ≡ held_by files other
held_by-with_other files name bytes other ne = ap (λ o. unwrap_or o []) (file_of-with_other files name bytes other ne)
