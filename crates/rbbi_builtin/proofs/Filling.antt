-- Files that are added for properties that are built in.
use Rattle.std.proofs.Common.{◌≡◌, ℕ, ◌<◌, ◌+◌, Bool, true, false, ◌||◌, List, [], ◌∷◌, ◌++◌, Some, bytes_eq, get_or, refl, sym, ap, subst, ◌∙◌}
use Rattle.std.proofs.Common.{append_assoc, arith, Result, Ok, Err, OnOk, inl, inr}
use Rattle.std.specs.Result.{OnErr}
use Rattle.std.specs.List.{All}
use Rattle.std.proofs.lemmas.Bool.{cases_lt}
use Rattle.std.proofs.lemmas.List.{append-nil}
use Rattle.std.proofs.lemmas.Option.{get_or_from_slice_get}
use Rattle.std.specs.List.{slice_get}
use Rattle.std.proofs.lemmas.List.Elements.{All-nil, All-cons, All-append}
use Rattle.std.proofs.lemmas.List.Folds.{list_any-append}
use Rattle.std.proofs.lemmas.Slice.Eq.{bytes_eq-Decides}
use Rattle.ucd_table.specs.Steps.{IsRunsOf}
use Rattle.rbbi_lex.specs.declared.token.Token.{Token}
use Rattle.rbbi_lex.specs.declared.token.TokenKind.{TokenKind}
use Rattle.rbbi_lex.specs.declared.error.LexErr.{LexErr}
use Rattle.rbbi_lex.specs.declared.error.LexErr.TheVariants.{BadChar, BadEscape, OpenQuote, OpenProperty, BadTag, BadName, Memory}
use Rattle.rbbi_lex.specs.Errors.{TellsFault, place_of}
use Rattle.rbbi_lex.specs.Lexing.{AreTokens}
use Rattle.rbbi_lex.proofs.LexingLemmas.{tokens_unique, not_both}
use Rattle.rbbi_lex.specs.declared.token.TokenKind.TheVariants.{Prop}
use Rattle.rbbi_props.specs.LooseForms.{loose}
use Rattle.rbbi_props.specs.Rows.{Row, File}
use Rattle.rbbi_props.specs.RunRows.{has_file, is_named, AddsRowsOf}
use Rattle.rbbi_builtin.specs.declared.property.Property.{Property}
use Rattle.rbbi_builtin.specs.Properties.{property_named, wants_file, number_of, values_of}
use Rattle.rbbi_builtin.specs.Filling.{AddsBuiltIn, IsBuiltIn, IsFilled, IsFilledFor}

pub has_file-append : (files more : List File) (name : List ℕ) → has_file (files ++ more) name ≡ (has_file files name || has_file more name)
has_file-append files more name = list_any-append (λ (file : File). bytes_eq file.name name) files more

no_left : (a b : Bool) → (a || b) ≡ false → a ≡ false
no_left a b h = grind arith

yes_left : (a b : Bool) → a ≡ true → (a || b) ≡ true
yes_left a b h = grind arith

yes_right : (a b : Bool) → b ≡ true → (a || b) ≡ true
yes_right a b h = grind arith

-- what follows from a fact on success
pub on_ok : {T E : Type 0} (r : Result T E) (P Q : Type 0) → (P → Q) → OnOk r P → OnOk r Q
on_ok (Ok x) P Q f h = f h
on_ok (Err e) P Q f h = tt

-- what follows from the fact on success and from that on a refusal
pub either_way : {T E : Type 0} (r : Result T E) (P Q R : Type 0) → OnOk r P → OnErr r Q → (P → R) → (Q → R) → R
either_way (Ok x) P Q R h k f g = f h
either_way (Err e) P Q R h k f g = g k

-- none are added
pub AddsBuiltIn-none : (files : List File) → AddsBuiltIn files files
AddsBuiltIn-none files = record { added = []; whole = sym (append-nil files); built_in = All-nil (IsBuiltIn files) }

-- a file that is added after these files could be added after the first of them
IsBuiltIn-before : (old added : List File) (file : File) → IsBuiltIn (old ++ added) file → IsBuiltIn old file
IsBuiltIn-before old added file h = record {
  property = h.property;
  name = h.name;
  named = h.named;
  wanted = h.wanted;
  under = h.under;
  first = no_left _ _ (sym (has_file-append old added (loose h.name)) ∙ h.first);
  values = h.values;
}

pub AddsBuiltIn-then : (old mid new : List File) → AddsBuiltIn old mid → AddsBuiltIn mid new → AddsBuiltIn old new
AddsBuiltIn-then old mid new first second =
    let behind = subst (λ files. All (IsBuiltIn files) second.added) first.whole second.built_in in
    record {
      added = first.added ++ second.added;
      whole = second.whole ∙ ap (λ files. files ++ second.added) first.whole ∙ append_assoc old first.added second.added;
      built_in =
          All-append (IsBuiltIn old) first.added second.added first.built_in
          (λ k d l. IsBuiltIn-before old first.added (get_or second.added k d) (behind k d l));
    }

-- what has a file keeps it
pub has_file-more : (old new : List File) (name : List ℕ) → AddsBuiltIn old new → has_file old name ≡ true → has_file new name ≡ true
has_file-more old new name adds h =
    ap (λ files. has_file files name) adds.whole ∙ has_file-append old adds.added name ∙ yes_left _ _ h

pub IsFilledFor-more : (old new : List File) (kind : TokenKind) → AddsBuiltIn old new → IsFilledFor old kind → IsFilledFor new kind
IsFilledFor-more old new (Prop negated name (Some value)) adds h = λ p named wanted. has_file-more old new _ adds (h p named wanted)
IsFilledFor-more old new _ adds h = tt

-- a file that is added last has its own name
pub has_file-last : (files new : List File) (rows : List Row) (name : List ℕ) → new ≡ files ++ record { name = name; rows = rows } ∷ [] →
    has_file new name ≡ true
has_file-last files new rows name is =
    ap (λ fs. has_file fs name) is ∙ has_file-append files (record { name = name; rows = rows } ∷ []) name
    ∙ yes_right (has_file files name) _ (yes_left _ false ((bytes_eq-Decides name name).1 refl))

-- the file of a property's runs is added under its name
module _ (p : Property) (name : List ℕ) (runs : List ℕ) (values : List (List ℕ)) (old new : List File) (adds : AddsRowsOf runs values name old new) where
  pub AddsBuiltIn-one : IsRunsOf runs (number_of p) → values ≡ values_of p → property_named name ≡ Some p → wants_file p ≡ true →
      has_file old (loose name) ≡ false → AddsBuiltIn old new
  AddsBuiltIn-one are same named wanted first = record {
    added = record { name = loose name; rows = adds.rows } ∷ [];
    whole = adds.added;
    built_in =
        All-cons (IsBuiltIn old) (record { name = loose name; rows = adds.rows }) [] (record {
          property = p;
          name = name;
          named = named;
          wanted = wanted;
          under = refl;
          first = first;
          values = λ c value le.
              adds.exact c value le ∙ ap (λ k. is_named values k value) (are.values c le) ∙ ap (λ vs. is_named vs (number_of p c) value) same;
        }) (All-nil (IsBuiltIn old));
  }

-- with one more token answered
pub filled-more : (tokens : List Token) (i : ℕ) (old new : List File) (token : Token) → AddsBuiltIn old new →
    ((k : ℕ) (d : Token) → k < i → IsFilledFor old (get_or tokens k d).kind) → slice_get tokens i ≡ Some token → IsFilledFor new token.kind →
    (k : ℕ) (d : Token) → k < i + 1 → IsFilledFor new (get_or tokens k d).kind
filled-more tokens i old new token adds before here now k d l =
    elim (cases_lt k i) [
      | inl below ↦ IsFilledFor-more old new (get_or tokens k d).kind adds (before k d below)
      | inr last ↦
          let same : i ≡ k = omega arith in
          subst (λ j. IsFilledFor new (get_or tokens j d).kind) same
          (subst (λ (t : Token). IsFilledFor new t.kind) (sym (get_or_from_slice_get tokens i token d here)) now)
    ]

-- a text with a fault has no tokens
pub no_tokens : (x : List ℕ) (e : LexErr) (at : ℕ) → TellsFault x e → place_of e ≡ Some at → (tokens : List Token) → AreTokens x tokens → ⊥
no_tokens x (BadChar place) at tells is tokens are = not_both x tokens _ place are tells
no_tokens x (BadEscape place) at tells is tokens are = not_both x tokens _ place are tells
no_tokens x (OpenQuote place) at tells is tokens are = not_both x tokens _ place are tells
no_tokens x (OpenProperty place) at tells is tokens are = not_both x tokens _ place are tells
no_tokens x (BadTag place) at tells is tokens are = not_both x tokens _ place are tells
no_tokens x (BadName place) at tells is tokens are = not_both x tokens _ place are tells
no_tokens x Memory at tells is tokens are = cc

-- where tokens can't be, nothing is to be added
pub IsFilled-faulty : (x : List ℕ) (files : List File) → ((tokens : List Token) → AreTokens x tokens → ⊥) → IsFilled x files files
IsFilled-faulty x files none = record { adds = AddsBuiltIn-none files; asked = λ tokens are. absurd (none tokens are) }

-- the files are filled for the text if they are for its tokens
pub IsFilled-by : (x : List ℕ) (tokens : List Token) (old new : List File) → AreTokens x tokens → AddsBuiltIn old new →
    All (λ (token : Token). IsFilledFor new token.kind) tokens → IsFilled x old new
IsFilled-by x tokens old new are adds filled = record {
  adds = adds;
  asked = λ others same. subst (λ ts. All (λ (token : Token). IsFilledFor new token.kind) ts) (tokens_unique x tokens others are same) filled;
}
