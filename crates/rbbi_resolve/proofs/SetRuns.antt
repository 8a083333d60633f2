-- A loop over the parts of a set, of which the sets are collected that it is made of.
use Rattle.std.proofs.Common.{◌≡◌, ℕ, ◌+◌, ◌<◌, ◌≤◌, List, [], ◌∷◌, ◌++◌, map, length, drop, get_or, refl, sym, ap, subst}
use Rattle.std.proofs.Common.{Option, Some, None, IfSome, if◌then◌else◌, ◌↔◌, inl, inr, ⊎_elim, arith}
use Rattle.std.proofs.lemmas.Bool.{cases_lt, le-leb, lt-leb}
use Rattle.std.specs.List.{Contains, All, AllByRecursion}
use Rattle.std.proofs.lemmas.List.{drop_all}
use Rattle.std.proofs.lemmas.List.Elements.{All-push}
use Rattle.rbbi_model.specs.Ranges.{Range}
use Rattle.rbbi_model.specs.SetTrees as model
use Rattle.rbbi_sets.specs.Rising.{IsRange}
use Rattle.rbbi_props.specs.Rows.{File}
use Rattle.rbbi_tree.specs.Trees.{PartsTree, SetItemTree, part, no_parts, parts_of, joined, set_character, set_range}
use Rattle.rbbi_tree.specs.declared.syntax.Join.{Join}
use Rattle.rbbi_tree.specs.declared.syntax.Join.TheVariants.{Add}
use Rattle.rbbi_tree.specs.Values.{set_tree, part_tree}
use Rattle.rbbi_tree.specs.declared.syntax.SetExpr.{SetExpr}
use Rattle.rbbi_tree.specs.declared.syntax.SetPart.{SetPart}
use Rattle.rbbi_tree.specs.declared.syntax.SetItem.TheViews.{out-SetExpr}
use Rattle.rbbi_resolve.specs.declared.collection.Collection.{Collection}
use Rattle.rbbi_resolve.specs.SetValues.{HasProperty, joined_to, value_of_set, value_of_part, value_of_item, value_of_range}
use Rattle.rbbi_resolve.specs.inner.Covered.{Respects, NamesRespect, AreRespected, HasSame, HasSingle, IsCollection, CollectsSet, CollectsPart}
use Rattle.rbbi_resolve.specs.inner.LiteralRuns.{IsLiteral, FollowsRun, IsRunning}
use Rattle.rbbi_resolve.proofs.PropertySets.{members_are_code_points}
use Rattle.rbbi_resolve.proofs.SetLoops.{parts_in, parts_left, set_is}
use Rattle.rbbi_resolve.proofs.Covering.{nothing_respects, signed_respects, joined_respects, members_respect, follows_none, run_respects}
use Rattle.rbbi_resolve.proofs.Covering.{literal_follows, fewer_respected}

-- the parts before those that are left were collected, but for the last run of characters and ranges
pub record IsCollectingSet (files : List File) (start between : Collection) (whole left : PartsTree) (run : List Range) : Type 0 where
  pub keeps : (base : List Range) → Contains start.bases.items base → Contains between.bases.items base
  pub kept : IsCollection files between
  pub ranges : All IsRange run
  pub running : IsRunning files between.bases.items whole left run

pub set_starts : (files : List File) (start : Collection) (whole : PartsTree) (run : List Range) → run ≡ [] → All IsRange run → IsCollection files start →
    IsCollectingSet files start start whole whole run
set_starts files start whole run none ranges kept =
    record {
      keeps = λ base has. has;
      kept = kept;
      ranges = ranges;
      running = record {
        each = λ stand are named respect. (
          Some model.Nothing,
          refl,
          subst (λ r. FollowsRun files stand r model.Nothing) (sym none)
              (follows_none files stand (Some model.Nothing) (nothing_respects files stand)),
        );
      };
    }

module _ (files : List File) (start between : Collection) (whole : PartsTree) (items : List SetPart) (i : ℕ) (p : SetPart) (run : List Range)
    (inside : i < length items) (is : p ≡ get_or items i p)
    (collecting : IsCollectingSet files start between whole (parts_of (map part_tree (drop i items))) run) where
  here : IsRunning files between.bases.items whole (part (part_tree p) (parts_of (map part_tree (drop (i + 1) items)))) run
  here = subst (λ left. IsRunning files between.bases.items whole left run) (parts_left items i p inside is) collecting.running

  -- a turn with a character or a range that is added
  pub literal_turn : (range : Range) (run' : List Range) → run' ≡ run ++ range ∷ [] → IsRange range → IsLiteral range (part_tree p) →
      IsCollectingSet files start between whole (parts_of (map part_tree (drop (i + 1) items))) run'
  literal_turn range run' longer valid literal =
      record {
        keeps = collecting.keeps;
        kept = collecting.kept;
        ranges = subst (All IsRange) (sym longer) (All-push IsRange run range collecting.ranges valid);
        running = record {
          each = λ stand are named respect.
              let was = here.each stand are named respect in
              let value = value_of_part files named was.0 (part_tree p) in (
                value,
                was.1,
                subst (λ r. IfSome value (FollowsRun files stand r)) (sym longer)
                    (subst (λ v. IfSome v (FollowsRun files stand (run ++ range ∷ []))) (sym (literal.value_is files named was.0))
                    (literal_follows files stand run range literal.tree valid.1 (literal.members files) was.0 was.2)),
              );
        };
      }

  -- a turn with any other part, before which the set of the run is collected
  pub other_turn : (with_run after : Collection) (run' : List Range) →
      ((base : List Range) → Contains between.bases.items base → Contains with_run.bases.items base) → HasSame with_run.bases.items run →
      run' ≡ [] → All IsRange run' → CollectsPart files with_run after (part_tree p) →
      IsCollectingSet files start after whole (parts_of (map part_tree (drop (i + 1) items))) run'
  other_turn with_run after run' keeps own none ranges step =
      record {
        keeps = λ base has. step.keeps base (keeps base (collecting.keeps base has));
        kept = step.kept;
        ranges = ranges;
        running = record {
          each = λ stand are named respect.
              let with = fewer_respected stand with_run.bases.items after.bases.items step.keeps are in
              let was = here.each stand (fewer_respected stand between.bases.items with_run.bases.items keeps with) named respect in
              let value = value_of_part files named was.0 (part_tree p) in (
                value,
                was.1,
                subst (λ r. IfSome value (FollowsRun files stand r)) (sym none)
                    (follows_none files stand value (step.covers stand are named respect was.0
                    (run_respects files stand run own.base with_run.bases.items with own.own own.same was.0 was.2))),
              );
        };
      }

-- the end of the loop, behind which the set of the last run is collected
pub set_ends : (files : List File) (start between after : Collection) (s : SetExpr) (items : List SetPart) (i : ℕ) (run : List Range) →
    items ≡ parts_in s → length items ≤ i →
    IsCollectingSet files start between (parts_of (map part_tree items)) (parts_of (map part_tree (drop i items))) run →
    ((base : List Range) → Contains between.bases.items base → Contains after.bases.items base) → HasSame after.bases.items run →
    (IsCollection files between → IsCollection files after) → CollectsSet files start after (set_tree s)
set_ends files start between after s items i run of all collecting keeps own kept =
    let done = subst (λ xs. IsRunning files between.bases.items (parts_of (map part_tree items)) (parts_of (map part_tree xs)) run) (drop_all i items all)
    collecting.running in
    let whole = subst (λ xs. IsRunning files between.bases.items (parts_of (map part_tree xs)) no_parts run) of done in
    record {
      keeps = λ base has. keeps base (collecting.keeps base has);
      covers = λ stand are named respect.
          let was = whole.each stand (fewer_respected stand between.bases.items after.bases.items keeps are) named respect in
          let value = run_respects files stand run own.base after.bases.items are own.own own.same was.0 was.2 in
          subst (λ t. IfSome (value_of_set files named t) (Respects files stand)) (sym (set_is s))
          (signed_respects files stand are.low (out-SetExpr s).negated _ (subst (λ v. IfSome v (Respects files stand)) (sym was.1) value));
      kept = kept collecting.kept;
    }

-- a part whose item's value respects what was collected
pub item_collected : (files : List File) (before after : Collection) (place : ℕ) (join : Join) (item : SetItemTree) →
    ((base : List Range) → Contains before.bases.items base → Contains after.bases.items base) → IsCollection files after →
    ((stand : ℕ → ℕ) → AreRespected stand after.bases.items → (named : List ℕ → Option model.SetTree) → NamesRespect files stand named →
    IfSome (value_of_item files named item) (Respects files stand)) → CollectsPart files before after (joined place join item)
item_collected files before after place join item keeps kept respects =
    record {
      keeps = keeps;
      covers = λ stand are named respect left l. joined_respects files stand join left (value_of_item files named item) l (respects stand are named respect);
      kept = kept;
    }

-- the value of a range that was collected
spanned : (files : List File) (stand : ℕ → ℕ) (tree : model.SetTree) (first last : ℕ) (bases : List (List Range)) → AreRespected stand bases →
    HasSame bases (record { low = first; high = last } ∷ []) → ((c : ℕ) → model.InSet (HasProperty files) tree c ↔ ((first ≤ c) × (c ≤ last))) →
    Respects files stand tree
spanned files stand tree first last bases are own members =
    members_respect files stand tree (record { low = first; high = last } ∷ []) own.base bases are own.own own.same
    (λ c h. members_are_code_points 0 own.base own.rising c ((own.same c).1 h))
    (λ c. (λ h. inl ((members c).0 h), λ h. ⊎_elim (λ own. (members c).1 own) (λ none. absurd none) h))

pub character_respects : (files : List File) (stand : ℕ → ℕ) (ch : ℕ) (bases : List (List Range)) → AreRespected stand bases →
    (ch ≤ ch → HasSame bases (record { low = ch; high = ch } ∷ [])) → Respects files stand (model.Character ch)
character_respects files stand ch bases are own =
    spanned files stand (model.Character ch) ch ch bases are (own (omega arith)) (λ c. (λ is. (omega arith, omega arith), λ both. omega arith))

pub word_respects : (files : List File) (stand : ℕ → ℕ) (bases : List (List Range)) → AreRespected stand bases → (word : List ℕ) →
    AllByRecursion (HasSingle bases) word → AllByRecursion (λ c. Respects files stand (model.Character c)) word
word_respects files stand bases are [] own = tt
word_respects files stand bases are (c ∷ word) own =
    (character_respects files stand c bases are (λ order. own.0), word_respects files stand bases are word own.1)

pub range_respects : (files : List File) (stand : ℕ → ℕ) (first last : ℕ) (bases : List (List Range)) → AreRespected stand bases →
    (first ≤ last → HasSame bases (record { low = first; high = last } ∷ [])) → IfSome (value_of_range first last) (Respects files stand)
range_respects files stand first last bases are own =
    elim (cases_lt last first) [
      | inl less ↦ subst (λ b. IfSome (if b then Some (model.Span (record { low = first; high = last })) else None) (Respects files stand))
          (sym (lt-leb first last less)) tt
      | inr order ↦ subst (λ b. IfSome (if b then Some (model.Span (record { low = first; high = last })) else None) (Respects files stand))
          (sym (le-leb first last order))
          (spanned files stand (model.Span (record { low = first; high = last })) first last bases are (own order) (λ c. (λ h. h, λ h. h)))
    ]

-- a character or a range that is added
pub literal_character : (place ch : ℕ) (range : Option Range) → IfSome range (λ r. IsRange r × (r.low ≡ ch) × (r.high ≡ ch)) →
    IfSome range (λ r. IsLiteral r (joined place Add (set_character ch)))
literal_character place ch None is = tt
literal_character place ch (Some r) is =
    record {
      tree = model.Character ch;
      value_is = λ files named left. refl;
      members = λ files c. (λ h. (omega arith, omega arith), λ both. omega arith);
    }

pub literal_range : (place first last : ℕ) (range : Option Range) → IfSome range (λ r. IsRange r × (r.low ≡ first) × (r.high ≡ last)) →
    IfSome range (λ r. IsLiteral r (joined place Add (set_range first last)))
literal_range place first last None is = tt
literal_range place first last (Some r) is =
    let order : first ≤ last = omega arith in
    record {
      tree = model.Span (record { low = first; high = last });
      value_is = λ files named left. ap (λ b. joined_to Add (if b then Some (model.Span (record { low = first; high = last })) else None) left)
          (le-leb first last order);
      members = λ files c. (λ h. (omega (arith, h.0), omega (arith, h.1)), λ both. (omega (arith, both.0), omega (arith, both.1)));
    }
