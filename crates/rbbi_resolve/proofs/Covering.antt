-- Parts of covered expressions are covered, and sets that are made of those that stand for all of a class respect it.
use Rattle.std.proofs.Common.{◌≡◌, ℕ, zero, suc, ◌+◌, ◌<◌, ◌≤◌, ◌↔◌, ◌⊎◌, inl, inr, List, [], ◌∷◌, ◌++◌, map, length, drop, get_or}
use Rattle.std.proofs.Common.{subst, arith, Bool, true, false, Option, Some, None, IfSome, option_map, ⊎_elim}
use Rattle.std.specs.List.{Contains, AllByRecursion}
use Rattle.rbbi_model.proofs.Lists.{all_append, all_left, all_right}
use Rattle.rbbi_model.specs.Ranges.{Range, InRange, Has}
use Rattle.rbbi_model.specs.SetTrees as model
use Rattle.rbbi_resolve.proofs.PropertySets.{members_are_code_points}
use Rattle.rbbi_props.specs.Rows.{File}
use Rattle.rbbi_tree.specs.Trees.{AtomTree, placed, SetSyntax, PartsTree, PartTree, SetItemTree, set_of, no_parts, part}
use Rattle.rbbi_tree.specs.Trees.{set_character, set_range, set_name, set_property, set_within}
use Rattle.rbbi_tree.specs.Trees.{expr_of, seq_of, joined}
use Rattle.rbbi_tree.specs.Values.{expr_tree, seq_tree, item_tree, atom_tree, item_tree_out}
use Rattle.rbbi_tree.specs.declared.syntax.Quant.TheVariants.{Once}
use Rattle.rbbi_tree.specs.declared.syntax.Join.{Join}
use Rattle.rbbi_tree.specs.declared.syntax.Join.TheVariants.{Add, Both, Minus}
use Rattle.rbbi_tree.specs.declared.syntax.Expr.{Expr}
use Rattle.rbbi_tree.specs.declared.syntax.Seq.{Seq}
use Rattle.rbbi_tree.specs.declared.syntax.Item.{Item}
use Rattle.rbbi_tree.specs.declared.syntax.Atom.TheViews.{out-Expr, out-Seq, out-Item}
use Rattle.rbbi_resolve.specs.SetValues.{HasProperty, joined_to, signed}
use Rattle.rbbi_resolve.specs.inner.SetValues.{IsValue}
use Rattle.rbbi_resolve.specs.Parts.{Part, Outside, Within, parts_of_expr, parts_of_seq, parts_of_item, parts_in_atom, parts_of_set, parts_of_parts}
use Rattle.rbbi_resolve.specs.Parts.{parts_of_part, parts_in_item}
use Rattle.rbbi_resolve.specs.inner.Covered.{Respects, IsCovered, AreCovered, AreRespected}
use Rattle.rbbi_resolve.specs.inner.LiteralRuns.{FollowsRun}
use Rattle.rbbi_resolve.proofs.Counting.{expr_by_items, seq_by_items, exprs_left, seqs_left}

module _ (files : List File) (stand : ℕ → ℕ) where
  -- of two lists of parts
  pub covered_left : (a b : List Part) → AreCovered files stand (a ++ b) → AreCovered files stand a
  covered_left a b are = record { each = all_left (IsCovered files stand) a b are.each }

  pub covered_right : (a b : List Part) → AreCovered files stand (a ++ b) → AreCovered files stand b
  covered_right a b are = record { each = all_right (IsCovered files stand) a b are.each }

  pub covered_append : (a b : List Part) → AreCovered files stand a → AreCovered files stand b → AreCovered files stand (a ++ b)
  covered_append a b are also = record { each = all_append (IsCovered files stand) a b are.each also.each }

  -- what is left of covered sequences, items and parts is covered
  pub seqs_covered : (i : ℕ) (items : List Seq) → AreCovered files stand (parts_of_expr (expr_of (map seq_tree items))) →
      AreCovered files stand (parts_of_expr (expr_of (map seq_tree (drop i items))))
  seqs_covered zero items are = are
  seqs_covered (suc i) [] are = are
  seqs_covered (suc i) (s ∷ items) are =
      seqs_covered i items (covered_right (parts_of_seq (seq_tree s)) (parts_of_expr (expr_of (map seq_tree items))) are)

  pub items_covered : (i : ℕ) (items : List Item) → AreCovered files stand (parts_of_seq (seq_of (map item_tree items))) →
      AreCovered files stand (parts_of_seq (seq_of (map item_tree (drop i items))))
  items_covered zero items are = are
  items_covered (suc i) [] are = are
  items_covered (suc i) (s ∷ items) are =
      items_covered i items (covered_right (parts_of_item (item_tree s)) (parts_of_seq (seq_of (map item_tree items))) are)

  -- the atom of a covered item
  pub covered_atom : (i : Item) → AreCovered files stand (parts_of_item (item_tree i)) →
      AreCovered files stand (parts_of_item (placed (out-Item i).place (atom_tree (out-Item i).atom) Once))
  covered_atom i are = subst (λ x. AreCovered files stand (parts_of_item x)) (item_tree_out i) are

  -- what stands for an atom alone
  pub covered_alone : (place : ℕ) (a : AtomTree) → AreCovered files stand (parts_of_item (placed place a Once)) → IsCovered files stand (Outside place a)
  covered_alone place a are = (covered_right (parts_in_atom a) (Outside place a ∷ []) are).each.0

  -- a sequence of a covered expression
  pub covered_seq : (e : Expr) (items : List Seq) (i : ℕ) (p : Seq) → AreCovered files stand (parts_of_expr (expr_tree e)) →
      items ≡ (out-Expr e).items.items → p ≡ get_or items i p → i < length items → AreCovered files stand (parts_of_seq (seq_tree p))
  covered_seq e items i p are of is inside =
      let whole = subst (λ x. AreCovered files stand (parts_of_expr x)) (expr_by_items e items of) are in
      covered_left (parts_of_seq (seq_tree p)) (parts_of_expr (expr_of (map seq_tree (drop (i + 1) items))))
      (subst (λ x. AreCovered files stand (parts_of_expr x)) (exprs_left items i p inside is) (seqs_covered i items whole))

  -- an item of a covered sequence
  pub covered_item : (s : Seq) (items : List Item) (i : ℕ) (p : Item) → AreCovered files stand (parts_of_seq (seq_tree s)) →
      items ≡ (out-Seq s).items.items → p ≡ get_or items i p → i < length items → AreCovered files stand (parts_of_item (item_tree p))
  covered_item s items i p are of is inside =
      let whole = subst (λ x. AreCovered files stand (parts_of_seq x)) (seq_by_items s items of) are in
      covered_left (parts_of_item (item_tree p)) (parts_of_seq (seq_of (map item_tree (drop (i + 1) items))))
      (subst (λ x. AreCovered files stand (parts_of_seq x)) (seqs_left items i p inside is) (items_covered i items whole))

-- sets that are respected where more are
pub fewer_respected : (stand : ℕ → ℕ) (bases bases' : List (List Range)) → ((base : List Range) → Contains bases base → Contains bases' base) →
    AreRespected stand bases' → AreRespected stand bases
fewer_respected stand bases bases' keeps are = record { low = are.low; each = λ base has. are.each base (keeps base has) }

module _ (files : List File) (stand : ℕ → ℕ) where
  -- the parts within a set ask for nothing
  mutual
    pub set_covered : (s : SetSyntax) → AllByRecursion (IsCovered files stand) (parts_of_set s)
    set_covered (set_of place negated parts) = parts_covered parts

    parts_covered : (parts : PartsTree) → AllByRecursion (IsCovered files stand) (parts_of_parts parts)
    parts_covered no_parts = tt
    parts_covered (part first more) = all_append (IsCovered files stand) (parts_of_part first) (parts_of_parts more) (part_covered first) (parts_covered more)

    part_covered : (p : PartTree) → AllByRecursion (IsCovered files stand) (parts_of_part p)
    part_covered (joined place join member) =
        all_append (IsCovered files stand) (parts_in_item member) (Within place member ∷ []) (item_covered member) (tt, tt)

    item_covered : (member : SetItemTree) → AllByRecursion (IsCovered files stand) (parts_in_item member)
    item_covered (set_character c) = tt
    item_covered (set_range first last) = tt
    item_covered (set_name word) = tt
    item_covered (set_property negated word value) = tt
    item_covered (set_within inner) = set_covered inner

  -- nothing, and what isn't in a set
  pub nothing_respects : Respects files stand model.Nothing
  nothing_respects = record { low = λ c h. absurd h; same = λ c l. (λ h. h, λ h. h) }

  -- the others
  pub signed_respects : ((c : ℕ) → c ≤ 0x10FFFF → stand c ≤ 0x10FFFF) → (negated : Bool) (value : Option model.SetTree) →
      IfSome value (Respects files stand) → IfSome (option_map (signed negated) value) (Respects files stand)
  signed_respects low negated None is = tt
  signed_respects low false (Some tree) is = is
  signed_respects low true (Some tree) is =
      record {
        low = λ c h. h.0;
        same = λ c l. (
          λ h. (low c l, λ there. h.1 ((is.same c l).1 there)),
          λ h. (l, λ there. h.1 ((is.same c l).0 there)),
        );
      }

  -- what is joined
  pub joined_respects : (join : Join) (left item : Option model.SetTree) → IfSome left (Respects files stand) → IfSome item (Respects files stand) →
      IfSome (joined_to join item left) (Respects files stand)
  joined_respects join left None l i = tt
  joined_respects join None (Some item) l i = tt
  joined_respects Add (Some left) (Some item) l i =
      record {
        low = λ c h. ⊎_elim (l.low c) (i.low c) h;
        same = λ c w. (
          λ h. ⊎_elim (λ a. inl ((l.same c w).0 a)) (λ b. inr ((i.same c w).0 b)) h,
          λ h. ⊎_elim (λ a. inl ((l.same c w).1 a)) (λ b. inr ((i.same c w).1 b)) h,
        );
      }
  joined_respects Both (Some left) (Some item) l i =
      record {
        low = λ c h. l.low c h.0;
        same = λ c w. (λ h. ((l.same c w).0 h.0, (i.same c w).0 h.1), λ h. ((l.same c w).1 h.0, (i.same c w).1 h.1));
      }
  joined_respects Minus (Some left) (Some item) l i =
      record {
        low = λ c h. l.low c h.0;
        same = λ c w. (
          λ h. ((l.same c w).0 h.0, λ n. h.1 ((i.same c w).1 n)),
          λ h. ((l.same c w).1 h.0, λ n. h.1 ((i.same c w).0 n)),
        );
      }

  -- a tree with the members of a set that is respected
  pub members_respect : (tree : model.SetTree) (ranges base : List Range) (bases : List (List Range)) → AreRespected stand bases → Contains bases base →
      ((c : ℕ) → Has base c ↔ Has ranges c) → ((c : ℕ) → Has ranges c → c ≤ 0x10FFFF) →
      ((c : ℕ) → model.InSet (HasProperty files) tree c ↔ Has ranges c) → Respects files stand tree
  members_respect tree ranges base bases are has same low members =
      record {
        low = λ c h. low c ((members c).0 h);
        same = λ c w. (
          λ h. (members (stand c)).1 ((same (stand c)).0 ((are.each base has c w).0 ((same c).1 ((members c).0 h)))),
          λ h. (members c).1 ((same c).0 ((are.each base has c w).1 ((same (stand c)).1 ((members (stand c)).0 h)))),
        );
      }

  -- the value of a property that was collected
  pub based_respects : (bases : List (List Range)) (v : Option model.SetTree) (ranges : Option (List Range)) → AreRespected stand bases →
      IsValue files v ranges → IfSome ranges (Contains bases) → IfSome v (Respects files stand)
  based_respects bases None ranges are is own = tt
  based_respects bases (Some tree) None are is own = absurd is
  based_respects bases (Some tree) (Some ranges) are is own =
      members_respect tree ranges ranges bases are own (λ c. (λ h. h, λ h. h)) (members_are_code_points 0 ranges is.rising)
      (λ c. ((is.members c).1, (is.members c).0))

  -- a value that follows no run, and one that follows a run which is respected
  pub follows_none : (value : Option model.SetTree) → IfSome value (Respects files stand) → IfSome value (FollowsRun files stand [])
  follows_none None is = tt
  follows_none (Some tree) is =
      record {
        low = is.low;
        held = λ c h. absurd h;
        onward = λ c w h. inr ((is.same c w).0 h);
        back = λ c w h. inr ((is.same c w).1 h);
      }

  pub run_respects : (run base : List Range) (bases : List (List Range)) → AreRespected stand bases → Contains bases base →
      ((c : ℕ) → Has base c ↔ Has run c) → (value : Option model.SetTree) → IfSome value (FollowsRun files stand run) →
      IfSome value (Respects files stand)
  run_respects run base bases are has same None is = tt
  run_respects run base bases are has same (Some tree) is =
      record {
        low = is.low;
        same = λ c w. (
          λ h. ⊎_elim (λ r. is.held (stand c) ((same (stand c)).0 ((are.each base has c w).0 ((same c).1 r)))) (λ there. there) (is.onward c w h),
          λ h. ⊎_elim (λ r. is.held c ((same c).0 ((are.each base has c w).1 ((same (stand c)).1 r)))) (λ there. there) (is.back c w h),
        );
      }

  -- a literal makes the run longer
  has_pushed : (run : List Range) (range : Range) (c : ℕ) → Has run c → Has (run ++ range ∷ []) c
  has_pushed [] range c h = absurd h
  has_pushed (first ∷ run) range c h = ⊎_elim inl (λ more. inr (has_pushed run range c more)) h

  has_last : (run : List Range) (range : Range) (c : ℕ) → InRange range c → Has (run ++ range ∷ []) c
  has_last [] range c h = inl h
  has_last (first ∷ run) range c h = inr (has_last run range c h)

  pushed_has : (run : List Range) (range : Range) (c : ℕ) → Has (run ++ range ∷ []) c → Has run c ⊎ InRange range c
  pushed_has [] range c h = ⊎_elim inr (λ none. absurd none) h
  pushed_has (first ∷ run) range c h =
      ⊎_elim (λ own. inl (inl own)) (λ more. ⊎_elim (λ old. inl (inr old)) inr (pushed_has run range c more)) h

  pub literal_follows : (run : List Range) (range : Range) (tree : model.SetTree) → range.high ≤ 0x10FFFF →
      ((c : ℕ) → model.InSet (HasProperty files) tree c ↔ InRange range c) →
      (left : Option model.SetTree) → IfSome left (FollowsRun files stand run) →
      IfSome (joined_to Add (Some tree) left) (FollowsRun files stand (run ++ range ∷ []))
  literal_follows run range tree below members None is = tt
  literal_follows run range tree below members (Some left) is =
      record {
        low = λ c h. ⊎_elim (is.low c) (λ own. omega (arith, below, ((members c).0 own).1)) h;
        held = λ c h. ⊎_elim (λ old. inl (is.held c old)) (λ own. inr ((members c).1 own)) (pushed_has run range c h);
        onward = λ c w h. ⊎_elim (λ old. ⊎_elim (λ r. inl (has_pushed run range c r)) (λ there. inr (inl there)) (is.onward c w old))
            (λ own. inl (has_last run range c ((members c).0 own))) h;
        back = λ c w h. ⊎_elim (λ old. ⊎_elim (λ r. inl (has_pushed run range (stand c) r)) (λ there. inr (inl there)) (is.back c w old))
            (λ own. inl (has_last run range (stand c) ((members (stand c)).0 own))) h;
      }
