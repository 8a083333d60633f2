-- Loops that count expressions and note their faults, one turn at a time.
use Rattle.std.proofs.Common.{◌≡◌, ℕ, ◌+◌, ◌<◌, ◌≤◌, max, Bool, true, false, ◌&&◌, ◌||◌, List, [], ◌∷◌, map, length, drop, get_or, nat_lt, if◌then◌else◌}
use Rattle.std.proofs.Common.{Option, sym, refl, ap, ◌∙◌, subst, arith, rules}
use Rattle.std.proofs.Math.Nat.{max-zero, le-max_left, le-max_right, max-le}
use Rattle.std.proofs.Math.Bool.{or_assoc, or-false, and-true}
use Rattle.std.proofs.lemmas.List.{length-map}
use Rattle.std.proofs.lemmas.List.{drop_more, drop_all}
use Rattle.rbbi_tree.specs.Trees.{ExprTree, SeqTree, ItemTree, no_alternatives, alternative, no_items, item, expr_of, seq_of}
use Rattle.rbbi_tree.specs.Values.{expr_tree, seq_tree, item_tree, expr_tree_out, seq_tree_out}
use Rattle.rbbi_tree.specs.declared.syntax.Expr.{Expr}
use Rattle.rbbi_tree.specs.declared.syntax.Seq.{Seq}
use Rattle.rbbi_tree.specs.declared.syntax.Item.{Item}
use Rattle.rbbi_tree.specs.declared.syntax.Quant.{Quant}
use Rattle.rbbi_tree.specs.declared.syntax.Quant.TheVariants as quant
use Rattle.rbbi_tree.specs.declared.syntax.Atom.TheViews.{out-Expr, out-Seq}
use Rattle.rbbi_resolve.specs.declared.fault.Fault.{Fault}
use Rattle.rbbi_resolve.specs.declared.variables.Summary.{Summary}
use Rattle.rbbi_resolve.specs.Meanings.{Meaning, leaves_in, spells_empty}
use Rattle.rbbi_resolve.specs.Contexts.{Context}
use Rattle.rbbi_resolve.specs.Expressions.{meaning_of_expr, meaning_of_seq, meaning_of_item, height_of_expr, highest_of_expr, height_of_seq, highest_of_seq}
use Rattle.rbbi_resolve.specs.Expressions.{height_of_item, repeated}
use Rattle.rbbi_resolve.specs.Parts.{Part, parts_of_expr, parts_of_seq, parts_of_item}
use Rattle.rbbi_resolve.specs.inner.Faults.{noted_parts}
use Rattle.rbbi_resolve.specs.inner.Summaries.{Sums, Summarizes, empty_of_quant}
use Rattle.rbbi_resolve.proofs.Noting.{noted_parts_of_append}

-- the tree of an expression or a sequence by its items
pub expr_by_items : (e : Expr) (items : List Seq) → items ≡ (out-Expr e).items.items → expr_tree e ≡ expr_of (map seq_tree items)
expr_by_items e items is = expr_tree_out e ∙ ap (λ ps. expr_of (map seq_tree ps)) (sym is)

pub seq_by_items : (s : Seq) (items : List Item) → items ≡ (out-Seq s).items.items → seq_tree s ≡ seq_of (map item_tree items)
seq_by_items s items is = seq_tree_out s ∙ ap (λ ps. seq_of (map item_tree ps)) (sym is)

expr_leaves : (context : Context) (first : SeqTree) (more : ExprTree) → leaves_in (meaning_of_expr context (alternative first more)) ≡ leaves_in
    (meaning_of_seq context first) + leaves_in (meaning_of_expr context more)
expr_leaves context first no_alternatives = omega arith
expr_leaves context first (alternative second more) = refl

expr_empty : (context : Context) (first : SeqTree) (more : ExprTree) →
    spells_empty (meaning_of_expr context (alternative first more)) ≡ (spells_empty (meaning_of_seq context first) || spells_empty
    (meaning_of_expr context more))
expr_empty context first no_alternatives = sym (or-false (spells_empty (meaning_of_seq context first)))
expr_empty context first (alternative second more) = refl

seq_leaves : (context : Context) (first : ItemTree) (more : SeqTree) → leaves_in (meaning_of_seq context (item first more)) ≡ leaves_in
    (meaning_of_item context first) + leaves_in (meaning_of_seq context more)
seq_leaves context first no_items = omega arith
seq_leaves context first (item second more) = refl

seq_empty : (context : Context) (first : ItemTree) (more : SeqTree) →
    spells_empty (meaning_of_seq context (item first more)) ≡ (spells_empty (meaning_of_item context first) && spells_empty (meaning_of_seq context more))
seq_empty context first no_items = sym (and-true (spells_empty (meaning_of_item context first)))
seq_empty context first (item second more) = refl

expr_height : (context : Context) (ss : List SeqTree) → height_of_expr context (expr_of ss) ≡ highest_of_expr context (expr_of ss) +
    (if nat_lt 1 (length ss) then 1 else 0)
expr_height context [] = refl
expr_height context (s ∷ []) = let e = max-zero (height_of_seq context s) in omega arith
expr_height context (s ∷ t ∷ ss) = let e : nat_lt 1 (length (s ∷ t ∷ ss)) ≡ true = search rules in rw e refl

seq_height : (context : Context) (is : List ItemTree) → height_of_seq context (seq_of is) ≡ highest_of_seq context (seq_of is) +
    (if nat_lt 1 (length is) then 1 else 0)
seq_height context [] = refl
seq_height context (i ∷ []) = let e = max-zero (height_of_item context i) in omega arith
seq_height context (i ∷ j ∷ is) = let e : nat_lt 1 (length (i ∷ j ∷ is)) ≡ true = search rules in rw e refl

-- the counts so far, with those of what is left, are those of the whole; and the faults left are noted last
pub record IsCounting (context : Context) (before : Option Fault) (join : Bool → Bool → Bool) (parts : List Part) (leaves height : ℕ)
    (empty : Bool) (summary : Summary) (least : Option Fault) (parts_left : List Part) (leaves_left height_left : ℕ)
    (empty_left : Bool) : Type 0 where
  pub leaf_number : ℕ
  pub height_number : ℕ
  pub empty_so_far : Bool
  pub sums : Sums summary leaf_number height_number empty_so_far
  pub all_leaves : leaf_number + leaves_left ≡ leaves
  pub all_heights : max height_number height_left ≡ height
  pub all_empty : join empty_so_far empty_left ≡ empty
  pub noted : noted_parts context least parts_left ≡ noted_parts context before parts

max-join : (a b c : ℕ) → max (max a b) c ≡ max a (max b c)
max-join a b c =
    let l1 = le-max_left a b in
    let l2 = le-max_right a b in
    let l3 = le-max_left (max a b) c in
    let l4 = le-max_right (max a b) c in
    let r1 = le-max_left b c in
    let r2 = le-max_right b c in
    let r3 = le-max_left a (max b c) in
    let r4 = le-max_right a (max b c) in
    let below : max (max a b) c ≤ max a (max b c) = max-le (max-le (omega arith) (omega arith)) (omega arith) in
    let above : max a (max b c) ≤ max (max a b) c = max-le (omega arith) (max-le (omega arith) (omega arith)) in
    omega arith

and-join : (a b c : Bool) → ((a && b) && c) ≡ (a && (b && c))
and-join true b c = refl
and-join false b c = refl

-- the loop over the sequences of an expression
abbrev pub CountingExpr : Context → Option Fault → ExprTree → Summary → Option Fault → ExprTree → Type 0
CountingExpr context before whole summary least left =
    IsCounting context before ◌||◌ (parts_of_expr whole) (leaves_in (meaning_of_expr context whole)) (highest_of_expr context whole)
    (spells_empty (meaning_of_expr context whole)) summary least (parts_of_expr left) (leaves_in (meaning_of_expr context left))
    (highest_of_expr context left) (spells_empty (meaning_of_expr context left))

-- the loop over the items of a sequence
abbrev pub CountingSeq : Context → Option Fault → SeqTree → Summary → Option Fault → SeqTree → Type 0
CountingSeq context before whole summary least left =
    IsCounting context before ◌&&◌ (parts_of_seq whole) (leaves_in (meaning_of_seq context whole)) (highest_of_seq context whole)
    (spells_empty (meaning_of_seq context whole)) summary least (parts_of_seq left) (leaves_in (meaning_of_seq context left))
    (highest_of_seq context left) (spells_empty (meaning_of_seq context left))

-- what counting a part does
pub record CountsPart (context : Context) (parts : List Part) (meaning : Meaning) (height : ℕ) (part : Summary) (least least' : Option Fault) : Type 0 where
  pub noted : least' ≡ noted_parts context least parts
  pub counts : Summarizes part meaning height

pub exprs_left : (items : List Seq) (i : ℕ) (p : Seq) → i < length items → p ≡ get_or items i p → expr_of (map seq_tree (drop i items)) ≡ alternative
    (seq_tree p) (expr_of (map seq_tree (drop (i + 1) items)))
exprs_left items i p inside is = ap (λ ps. expr_of (map seq_tree ps)) (drop_more items i p inside ∙ ap (λ q. q ∷ drop (i + 1) items) (sym is))

pub seqs_left : (items : List Item) (i : ℕ) (p : Item) → i < length items → p ≡ get_or items i p → seq_of (map item_tree (drop i items)) ≡ item (item_tree p)
    (seq_of (map item_tree (drop (i + 1) items)))
seqs_left items i p inside is = ap (λ ps. seq_of (map item_tree ps)) (drop_more items i p inside ∙ ap (λ q. q ∷ drop (i + 1) items) (sym is))

pub expr_turn : (c : Context) (before : Option Fault) (whole : ExprTree) (summary part summary' : Summary) (least least' : Option Fault) (items : List Seq)
    (i : ℕ)
    (p : Seq) → i < length items → p ≡ get_or items i p → CountingExpr c before whole summary least (expr_of (map seq_tree (drop i items))) →
    CountsPart c (parts_of_seq (seq_tree p)) (meaning_of_seq c (seq_tree p)) (height_of_seq c (seq_tree p)) part least least' →
    ((a b h k : ℕ) (e f : Bool) → Sums summary a h e → Sums part b k f → Sums summary' (a + b) (max h k) (e || f)) →
    CountingExpr c before whole summary' least' (expr_of (map seq_tree (drop (i + 1) items)))
expr_turn c before whole summary part summary' least least' items i p inside is counting step joins =
    let s = seq_tree p in
    let rest = expr_of (map seq_tree (drop (i + 1) items)) in
    let here : CountingExpr c before whole summary least (alternative s rest) =
    subst (CountingExpr c before whole summary least) (exprs_left items i p inside is) counting in
    record {
      leaf_number = here.leaf_number + leaves_in (meaning_of_seq c s);
      height_number = max here.height_number (height_of_seq c s);
      empty_so_far = here.empty_so_far || spells_empty (meaning_of_seq c s);
      sums = joins _ _ _ _ _ _ here.sums step.counts;
      all_leaves = let e = expr_leaves c s rest in let f = here.all_leaves in omega arith;
      all_heights = max-join here.height_number (height_of_seq c s) (highest_of_expr c rest) ∙ here.all_heights;
      all_empty = or_assoc here.empty_so_far (spells_empty (meaning_of_seq c s)) (spells_empty (meaning_of_expr c rest))
          ∙ ap (λ b. here.empty_so_far || b) (sym (expr_empty c s rest)) ∙ here.all_empty;
      noted = ap (λ l. noted_parts c l (parts_of_expr rest)) step.noted ∙ sym (noted_parts_of_append c least (parts_of_seq s) (parts_of_expr rest))
          ∙ here.noted;
    }

pub seq_turn : (c : Context) (before : Option Fault) (whole : SeqTree) (summary part summary' : Summary) (least least' : Option Fault) (items : List Item)
    (i : ℕ)
    (p : Item) → i < length items → p ≡ get_or items i p → CountingSeq c before whole summary least (seq_of (map item_tree (drop i items))) →
    CountsPart c (parts_of_item (item_tree p)) (meaning_of_item c (item_tree p)) (height_of_item c (item_tree p)) part least least' →
    ((a b h k : ℕ) (e f : Bool) → Sums summary a h e → Sums part b k f → Sums summary' (a + b) (max h k) (e && f)) →
    CountingSeq c before whole summary' least' (seq_of (map item_tree (drop (i + 1) items)))
seq_turn c before whole summary part summary' least least' items i p inside is counting step joins =
    let s = item_tree p in
    let rest = seq_of (map item_tree (drop (i + 1) items)) in
    let here : CountingSeq c before whole summary least (item s rest) =
    subst (CountingSeq c before whole summary least) (seqs_left items i p inside is) counting in
    record {
      leaf_number = here.leaf_number + leaves_in (meaning_of_item c s);
      height_number = max here.height_number (height_of_item c s);
      empty_so_far = here.empty_so_far && spells_empty (meaning_of_item c s);
      sums = joins _ _ _ _ _ _ here.sums step.counts;
      all_leaves = let e = seq_leaves c s rest in let f = here.all_leaves in omega arith;
      all_heights = max-join here.height_number (height_of_item c s) (highest_of_seq c rest) ∙ here.all_heights;
      all_empty = and-join here.empty_so_far (spells_empty (meaning_of_item c s)) (spells_empty (meaning_of_seq c rest))
          ∙ ap (λ b. here.empty_so_far && b) (sym (seq_empty c s rest)) ∙ here.all_empty;
      noted = ap (λ l. noted_parts c l (parts_of_seq rest)) step.noted ∙ sym (noted_parts_of_append c least (parts_of_item s) (parts_of_seq rest))
          ∙ here.noted;
    }

module _ (context : Context) (before : Option Fault) (summary raised : Summary) (least : Option Fault) where
  pub expr_gives : (e : Expr) (items : List Seq) (i : ℕ) → items ≡ (out-Expr e).items.items → length items ≤ i →
      CountingExpr context before (expr_of (map seq_tree items)) summary least (expr_of (map seq_tree (drop i items))) →
      ((a h : ℕ) (b : Bool) → Sums summary a h b → Sums raised a (h + (if nat_lt 1 (length items) then 1 else 0)) b) →
      Summarizes raised (meaning_of_expr context (expr_tree e)) (height_of_expr context (expr_tree e)) ×
      (least ≡ noted_parts context before (parts_of_expr (expr_tree e)))
  expr_gives e items i is done counting raises =
      let whole = expr_of (map seq_tree items) in
      let end : CountingExpr context before whole summary least no_alternatives =
      subst (λ ps. CountingExpr context before whole summary least (expr_of (map seq_tree ps))) (drop_all i items done) counting in
      let tree : expr_tree e ≡ whole = expr_by_items e _ is in
      let leaves : end.leaf_number ≡ leaves_in (meaning_of_expr context whole) = let f = end.all_leaves in omega arith in
      let heights : end.height_number ≡ highest_of_expr context whole = sym (max-zero end.height_number) ∙ end.all_heights in
      let empty : end.empty_so_far ≡ spells_empty (meaning_of_expr context whole) = sym (or-false end.empty_so_far) ∙ end.all_empty in
      let same_len : length (map seq_tree items) ≡ length items = simp length-map in
      let height : height_of_expr context whole ≡ end.height_number + (if nat_lt 1 (length items) then 1 else 0) =
      expr_height context (map seq_tree items) ∙ ap (λ n. highest_of_expr context whole + (if nat_lt 1 n then 1 else 0)) same_len
      ∙ ap (λ n. n + (if nat_lt 1 (length items) then 1 else 0)) (sym heights) in
      let sums = raises end.leaf_number end.height_number end.empty_so_far end.sums in
      rw tree (rw (sym leaves, sym empty, height) sums, end.noted)

  pub seq_gives : (e : Seq) (items : List Item) (i : ℕ) → items ≡ (out-Seq e).items.items → length items ≤ i →
      CountingSeq context before (seq_of (map item_tree items)) summary least (seq_of (map item_tree (drop i items))) →
      ((a h : ℕ) (b : Bool) → Sums summary a h b → Sums raised a (h + (if nat_lt 1 (length items) then 1 else 0)) b) →
      Summarizes raised (meaning_of_seq context (seq_tree e)) (height_of_seq context (seq_tree e)) ×
      (least ≡ noted_parts context before (parts_of_seq (seq_tree e)))
  seq_gives e items i is done counting raises =
      let whole = seq_of (map item_tree items) in
      let end : CountingSeq context before whole summary least no_items =
      subst (λ ps. CountingSeq context before whole summary least (seq_of (map item_tree ps))) (drop_all i items done) counting in
      let tree : seq_tree e ≡ whole = seq_by_items e _ is in
      let leaves : end.leaf_number ≡ leaves_in (meaning_of_seq context whole) = let f = end.all_leaves in omega arith in
      let heights : end.height_number ≡ highest_of_seq context whole = sym (max-zero end.height_number) ∙ end.all_heights in
      let empty : end.empty_so_far ≡ spells_empty (meaning_of_seq context whole) = sym (and-true end.empty_so_far) ∙ end.all_empty in
      let same_len : length (map item_tree items) ≡ length items = simp length-map in
      let height : height_of_seq context whole ≡ end.height_number + (if nat_lt 1 (length items) then 1 else 0) =
      seq_height context (map item_tree items) ∙ ap (λ n. highest_of_seq context whole + (if nat_lt 1 n then 1 else 0)) same_len
      ∙ ap (λ n. n + (if nat_lt 1 (length items) then 1 else 0)) (sym heights) in
      let sums = raises end.leaf_number end.height_number end.empty_so_far end.sums in
      rw tree (rw (sym leaves, sym empty, height) sums, end.noted)

-- an atom as often as it stands
pub repeated_sums : (quant : Quant) (meaning : Meaning) (height : ℕ) (summary : Summary) → Sums summary (leaves_in meaning) height
    (empty_of_quant quant (spells_empty meaning)) → Summarizes summary (repeated quant meaning) height
repeated_sums quant.Once meaning height summary sums = sums
repeated_sums quant.Star meaning height summary sums = sums
repeated_sums quant.Plus meaning height summary sums = sums
repeated_sums quant.Quest meaning height summary sums = sums
