-- The monitor of the rules on extended grapheme clusters.
use Rattle.std.proofs.Common.{◌≡◌, ℕ, Bool, true, false, not, ◌&&◌, ◌||◌, eqb, List, [], ◌∷◌, Option, Some, None, map, get_or, sym, refl, ap, ap₂, ◌∙◌}
use Rattle.std.specs.Prelude.{unwrap_or}
use Rattle.std.specs.Bool.{beq}
use Rattle.std.proofs.lemmas.Bool.{and_parts, eqb-true, false≢true}
use Rattle.ucd_table.proofs.Stepped.{Stepped, zip_stepped}
use Rattle.ucd_table.proofs.Facts.{same_from_beq}
use Rattle.ucd_breaks.specs.GraphemeClusterBreak.{grapheme_cluster_break, grapheme_cluster_break_number}
use Rattle.ucd_breaks.specs.declared.GraphemeClusterBreak.{GraphemeClusterBreak}
use Rattle.ucd_breaks.specs.declared.GraphemeClusterBreak.TheVariants.{Other}
use Rattle.ucd_breaks.proofs.GraphemeClusterBreakLemmas.{grapheme_cluster_break_stepped, grapheme_cluster_break_number_injective}
use Rattle.ucd_derived.specs.IndicConjunctBreak.{indic_conjunct_break, indic_conjunct_break_number}
use Rattle.ucd_derived.specs.declared.IndicConjunctBreak.{IndicConjunctBreak}
use Rattle.ucd_derived.specs.declared.IndicConjunctBreak.TheVariants as InCb
use Rattle.ucd_derived.proofs.IndicConjunctBreakLemmas.{indic_conjunct_break_stepped, indic_conjunct_break_number_injective}
use Rattle.ucd_emoji.specs.Binary.{is_extended_pictographic}
use Rattle.ucd_emoji.proofs.BinaryLemmas.{is_extended_pictographic_stepped}
use Rattle.unicode_segmentation.specs.Grapheme.{break_by_pair, ends_in_linker, is_consonant, is_extend, is_zwj, is_regional, ends_in_pictograph}
use Rattle.unicode_segmentation.specs.Grapheme.{ends_in_half_flag, is_grapheme_break}
use Rattle.rbbi_model.specs.Words.{IsCharacter, IsText}
use Rattle.rbbi_annexes.specs.Statuses.{grapheme_status}
use Rattle.rbbi_annexes.proofs.Ends.{graphemes_at_ends}
use Rattle.rbbi_annexes.proofs.Monitors.{Monitor, seen, Tells}

-- what the rules read of a character
pub record Class : Type 0 where
  pub value : GraphemeClusterBreak
  pub conjunct : IndicConjunctBreak
  pub pictograph : Bool

abbrev pub class_of : ℕ → Class
class_of c = record { value = grapheme_cluster_break c; conjunct = indic_conjunct_break c; pictograph = is_extended_pictographic c }

abbrev pub other_class : Class
other_class = record { value = Other; conjunct = InCb.None; pictograph = false }

abbrev pub class_stepped : Stepped class_of
class_stepped =
    zip_stepped (λ (p : GraphemeClusterBreak × IndicConjunctBreak) b. record { value = p.0; conjunct = p.1; pictograph = b })
    (λ c. (grapheme_cluster_break c, indic_conjunct_break c)) is_extended_pictographic
    (zip_stepped (λ v j. (v, j)) grapheme_cluster_break indic_conjunct_break grapheme_cluster_break_stepped indic_conjunct_break_stepped)
    is_extended_pictographic_stepped

unfoldable pub same_class : Class → Class → Bool
same_class a b =
    eqb (grapheme_cluster_break_number a.value) (grapheme_cluster_break_number b.value)
    && (eqb (indic_conjunct_break_number a.conjunct) (indic_conjunct_break_number b.conjunct) && beq a.pictograph b.pictograph)

pub same_class-true : (a b : Class) → same_class a b ≡ true → a ≡ b
unfolding same_class
same_class-true a b is =
    let values : Bool = eqb (grapheme_cluster_break_number a.value) (grapheme_cluster_break_number b.value) in
    let conjuncts : Bool = eqb (indic_conjunct_break_number a.conjunct) (indic_conjunct_break_number b.conjunct) in
    let parts = and_parts values (conjuncts && beq a.pictograph b.pictograph) is in
    let rest = and_parts conjuncts (beq a.pictograph b.pictograph) parts.1 in
    λ i. record {
      value = grapheme_cluster_break_number_injective a.value b.value (eqb-true (grapheme_cluster_break_number a.value)
          (grapheme_cluster_break_number b.value) parts.0) i;
      conjunct = indic_conjunct_break_number_injective a.conjunct b.conjunct (eqb-true (indic_conjunct_break_number a.conjunct)
          (indic_conjunct_break_number b.conjunct) rest.0) i;
      pictograph = same_from_beq a.pictograph b.pictograph rest.1 i;
    }

-- What the rules read of the characters before a place: the value of the last one, and whether they end in Linker Extend*, in
-- Extended_Pictographic Extend*, in the same with ZWJ after it, and in half a flag.
pub record Before : Type 0 where
  pub last : Option GraphemeClusterBreak
  pub linker : Bool
  pub pictograph : Bool
  pub joiner : Bool
  pub half_flag : Bool

unfoldable pub same_last : Option GraphemeClusterBreak → Option GraphemeClusterBreak → Bool
same_last None None = true
same_last (Some a) (Some b) = eqb (grapheme_cluster_break_number a) (grapheme_cluster_break_number b)
same_last _ _ = false

same_last-true : (a b : Option GraphemeClusterBreak) → same_last a b ≡ true → a ≡ b
unfolding same_last
same_last-true None None is = refl
same_last-true (Some a) (Some b) is =
    ap Some (grapheme_cluster_break_number_injective a b (eqb-true (grapheme_cluster_break_number a) (grapheme_cluster_break_number b) is))
same_last-true None (Some b) is = absurd (false≢true is)
same_last-true (Some a) None is = absurd (false≢true is)

unfoldable pub same_before : Before → Before → Bool
same_before a b =
    same_last a.last b.last && (beq a.linker b.linker && (beq a.pictograph b.pictograph && (beq a.joiner b.joiner && beq a.half_flag b.half_flag)))

pub same_before-true : (a b : Before) → same_before a b ≡ true → a ≡ b
unfolding same_before
same_before-true a b is =
    let lasts = and_parts (same_last a.last b.last) (beq a.linker b.linker && (beq a.pictograph b.pictograph &&
    (beq a.joiner b.joiner && beq a.half_flag b.half_flag))) is in
    let linkers = and_parts (beq a.linker b.linker) (beq a.pictograph b.pictograph && (beq a.joiner b.joiner && beq a.half_flag b.half_flag)) lasts.1 in
    let pictographs = and_parts (beq a.pictograph b.pictograph) (beq a.joiner b.joiner && beq a.half_flag b.half_flag) linkers.1 in
    let rest = and_parts (beq a.joiner b.joiner) (beq a.half_flag b.half_flag) pictographs.1 in
    λ i. record {
      last = same_last-true a.last b.last lasts.0 i;
      linker = same_from_beq a.linker b.linker linkers.0 i;
      pictograph = same_from_beq a.pictograph b.pictograph pictographs.0 i;
      joiner = same_from_beq a.joiner b.joiner rest.0 i;
      half_flag = same_from_beq a.half_flag b.half_flag rest.1 i;
    }

unfoldable pub links : IndicConjunctBreak → Bool → Bool
links InCb.Linker linker = true
links InCb.Extend linker = linker
links _ linker = false

unfoldable pub after_class : Before → Class → Before
after_class m class =
    record {
      last = Some class.value;
      linker = links class.conjunct m.linker;
      pictograph = class.pictograph || (is_extend class.value && m.pictograph);
      joiner = is_zwj class.value && m.pictograph;
      half_flag = is_regional class.value && not m.half_flag;
    }

unfoldable pub breaks_by : Option GraphemeClusterBreak → Before → Class → Bool
breaks_by None m class = true
breaks_by (Some last) m class =
    unwrap_or (break_by_pair true last class.value)
    (not ((m.linker && is_consonant class.conjunct) || (m.joiner && class.pictograph) || (m.half_flag && is_regional class.value)))

-- the monitor, for the classes of the categories
abbrev pub grapheme_monitor : List Class → Monitor Before
grapheme_monitor classes =
    record {
      start = record { last = None; linker = false; pictograph = false; joiner = false; half_flag = false };
      next = λ m k. after_class m (get_or classes k other_class);
      nothing = 0;
      ahead = λ k p. 0;
      breaks = λ m k p. breaks_by m.last m (get_or classes k other_class);
      label = λ t k. 0;
      status = λ t. 0;
    }

abbrev pub state_of : List ℕ → Before
state_of [] = record { last = None; linker = false; pictograph = false; joiner = false; half_flag = false }
state_of (c ∷ before) =
    record {
      last = Some (grapheme_cluster_break c);
      linker = ends_in_linker (map indic_conjunct_break (c ∷ before));
      pictograph = ends_in_pictograph (c ∷ before);
      joiner = is_zwj (grapheme_cluster_break c) && ends_in_pictograph before;
      half_flag = ends_in_half_flag (c ∷ before);
    }

links_is : (v : IndicConjunctBreak) (vs : List IndicConjunctBreak) → links v (ends_in_linker vs) ≡ ends_in_linker (v ∷ vs)
unfolding links ends_in_linker
links_is InCb.Linker vs = refl
links_is InCb.Extend vs = refl
links_is InCb.Consonant vs = refl
links_is InCb.None vs = refl

module _ (classes : List Class) (category : ℕ → ℕ) (fits : (c : ℕ) → IsCharacter c → get_or classes (category c) other_class ≡ class_of c) where
  with_linker : {linker : Bool} (c : ℕ) (before : List ℕ) → linker ≡ ends_in_linker (map indic_conjunct_break (c ∷ before)) →
      record {
        last = Some (grapheme_cluster_break c);
        linker = linker;
        pictograph = ends_in_pictograph (c ∷ before);
        joiner = is_zwj (grapheme_cluster_break c) && ends_in_pictograph before;
        half_flag = ends_in_half_flag (c ∷ before);
      } ≡ state_of (c ∷ before)
  with_linker c before is i =
      record {
        last = Some (grapheme_cluster_break c);
        linker = is i;
        pictograph = ends_in_pictograph (c ∷ before);
        joiner = is_zwj (grapheme_cluster_break c) && ends_in_pictograph before;
        half_flag = ends_in_half_flag (c ∷ before);
      }

  after_is : (c : ℕ) (before : List ℕ) → after_class (state_of before) (class_of c) ≡ state_of (c ∷ before)
  unfolding after_class ends_in_linker ends_in_pictograph ends_in_half_flag
  after_is c [] = with_linker c [] (links_is (indic_conjunct_break c) [])
  after_is c (d ∷ before) = with_linker c (d ∷ before) (links_is (indic_conjunct_break c) (map indic_conjunct_break (d ∷ before)))

  seen_state : (before : List ℕ) → IsText before → seen (grapheme_monitor classes) category before ≡ state_of before
  seen_state [] are = refl
  seen_state (c ∷ before) are = ap₂ after_class (seen_state before are.1) (fits c are.0) ∙ after_is c before

  breaks_is : (before : List ℕ) (c : ℕ) (behind : List ℕ) →
      is_grapheme_break true before (c ∷ behind) ≡ breaks_by (state_of before).last (state_of before) (class_of c)
  unfolding is_grapheme_break breaks_by
  breaks_is [] c behind = refl
  breaks_is (last ∷ before) c behind = refl

  pub grapheme_tells : Tells (grapheme_monitor classes) category (is_grapheme_break true) grapheme_status
  grapheme_tells =
      record {
        ends = graphemes_at_ends;
        inside = λ before c behind before_are is behind_are.
            breaks_is before c behind ∙ sym (ap₂ (λ m class. breaks_by m.last m class) (seen_state before before_are) (fits c is));
        status_is = λ cluster are. refl;
      }

-- `unfolding grapheme_tests` lets `refl` compute them for the table of graphemes
unfoldable pub grapheme_tests : Unit {0}
unfolding same_class same_last same_before links after_class breaks_by
grapheme_tests = tt
