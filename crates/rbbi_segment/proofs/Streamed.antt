-- A text that is read by windows: what was read, what the window holds of it, and what was handed over, whatever follows.
use Rattle.std.proofs.Common.{◌≡◌, ℕ, ◌+◌, ◌≤◌, List, [], ◌++◌, length, drop, Option, Some, None, IfSome, refl, sym, ap, ◌∙◌, subst, inl, inr, ⊎_elim}
use Rattle.std.proofs.Common.{arith, append_assoc, append-nil, length-append, length-drop}
use Rattle.std.specs.Prelude.{Bool, false, IsTrue}
use Rattle.std.proofs.lemmas.Bool.{false≢true}
use Rattle.std.specs.Io.KnownBytes.{Consumes, IsAtEnd}
use Rattle.std.proofs.lemmas.List.{drop-append-le, drop-drop, drop_all}
use Rattle.std.proofs.KnownBytes.{Consumes-nil, Consumes-trans, Consumes-all}
use Rattle.rbbi_model.specs.declared.unit.Unit.{Unit as TextUnit}
use Rattle.rbbi_model.specs.Units.{offset_of}
use Rattle.rbbi_model.specs.Words.{IsText, IsCharacter}
use Rattle.rbbi_model.specs.Tables.{Table}
use Rattle.rbbi_model.proofs.Lists.{all_append}
use Rattle.rbbi_filter.specs.declared.filter.Filter.{Filter}
use Rattle.rbbi_segment.specs.Closed.{EndLines, IsLine}
use Rattle.rbbi_segment.specs.Contents.{IsTextGiven, text_in}
use Rattle.rbbi_segment.specs.Segments.{segments, AreTaken, TakesAll}
use Rattle.rbbi_segment.specs.Spelled.{IsSpelled, Reads}
use Rattle.rbbi_segment.specs.Windows.{IsWindow, HandsOn, AreHandedTo, LiesIn, Stands, IsShifted}
use Rattle.rbbi_segment.specs.declared.segments.Progress.{Progress}
use Rattle.rbbi_segment.specs.declared.segments.Segment.{Segment}
use Rattle.rbbi_segment.proofs.Spelled.{text_nil}
use Rattle.rbbi_segment.proofs.Handed.{handed_start, handed_paused, all_handed}

-- what was read spells characters, up to the bytes that wait
pub reads_by : (is_lossy : Bool) (remaining left : Option (List ℕ)) (waiting bytes both waits window longer : List ℕ) (end : ℕ) (is_last : Bool)
    → Consumes remaining left bytes → both ≡ waiting ++ bytes → IsSpelled is_lossy is_last both end window longer → waits ≡ drop end both
    → (IsTrue is_last → IsAtEnd left × (end ≡ length both)) → Reads is_lossy remaining left waiting waits window longer is_last
reads_by is_lossy remaining left waiting bytes both waits window longer end is_last consumed both_is spells waits_is ended = record {
  bytes = bytes;
  characters = spells.characters;
  consumed = consumed;
  spelled = λ others last.
      ap (λ l. text_in is_lossy (l ++ others)) (sym both_is) ∙ spells.spelled others last
      ∙ ap (λ l. spells.characters ++ text_in is_lossy (l ++ others)) (sym waits_is);
  text = spells.text;
  grown = spells.grown;
  ended = λ last. let all = (ended last).1 in ((ended last).0, waits_is ∙ drop_all end both (omega (arith, all)));
}

-- the progress lies in the window that grew, and in the one that characters were let go from
pub lies_grown : (is_lossy : Bool) (remaining left : Option (List ℕ)) (waiting waits window longer : List ℕ) (is_last : Bool) (progress : Progress)
    → Reads is_lossy remaining left waiting waits window longer is_last → LiesIn window progress → LiesIn longer progress
lies_grown is_lossy remaining left waiting waits window longer is_last progress more lies =
    let ordered = lies.ordered in
    let within = lies.within in
    record { ordered = ordered; within = omega (arith, within, ap length more.grown, length-append window more.characters) }

pub lies_shifted : (window shorter : List ℕ) (progress later : Progress) → LiesIn window progress → IsShifted window shorter progress later
    → LiesIn shorter later
lies_shifted window shorter progress later lies shifted =
    let ordered = lies.ordered in
    let within = lies.within in
    let start = shifted.start in
    let at = shifted.at in
    record {
      ordered = omega (arith, ordered, start, at);
      within = omega (arith, within, at, ap length shifted.rest, length-drop shifted.gone window);
    }

module _ {V : Type 0} (takes : V → Option (List ℕ) → List ℕ → Segment → V → Option (List ℕ) → Type 0)
    (pauses : V → Option (List ℕ) → V → Option (List ℕ) → Type 0) (unit : TextUnit) (f : Option Filter) (table : Table)
    (is_lossy : Bool) (held : Option (List ℕ)) (first : V) (before : Option (List ℕ)) where
  -- What was read spells these characters, up to the bytes that wait, the window holds the last ones, and segments were handed over. With
  -- `is_last` the text ends there.
  pub record IsStreamed (left : Option (List ℕ)) (waiting window : List ℕ) (progress : Progress) (receiver : V) (now : Option (List ℕ)) (is_last : Bool) :
      Type 0 where
    pub bytes : List ℕ
    pub y : List ℕ
    pub base : ℕ
    pub consumed : Consumes held left bytes
    pub spelled : (others : List ℕ) → (IsTrue is_last → others ≡ []) → text_in is_lossy (bytes ++ others) ≡ y ++ text_in is_lossy (waiting ++ others)
    pub text : IsText y
    pub within : base ≤ length y
    pub last : drop base y ≡ window
    pub stands : (others : List ℕ) → Stands takes pauses unit f table (y ++ others) base first before progress receiver now

  pub streamed_start : (waiting window : List ℕ) → waiting ≡ [] → window ≡ []
      → IsStreamed held waiting window (record { start = 0; at = 0; place = 0; offset = 0 }) first before false
  streamed_start waiting window none empty = record {
    bytes = [];
    y = [];
    base = 0;
    consumed = Consumes-nil held;
    spelled = λ others _. ap (λ l. text_in is_lossy (l ++ others)) (sym none);
    text = tt;
    within = omega arith;
    last = sym empty;
    stands = λ others. record { place = refl; offset = refl; behind = inl refl; handed = handed_start takes pauses unit f table others first before };
  }

  -- more was read
  pub streamed_more : (left : Option (List ℕ)) (waiting window : List ℕ) (progress : Progress) (receiver : V) (now : Option (List ℕ))
      → IsStreamed left waiting window progress receiver now false → (less : Option (List ℕ)) (waits longer : List ℕ) (is_last : Bool)
      → Reads is_lossy left less waiting waits window longer is_last → IsStreamed less waits longer progress receiver now is_last
  streamed_more left waiting window progress receiver now so_far less waits longer is_last more = record {
    bytes = so_far.bytes ++ more.bytes;
    y = so_far.y ++ more.characters;
    base = so_far.base;
    consumed = Consumes-trans held left less so_far.bytes more.bytes so_far.consumed more.consumed;
    spelled = λ others last.
        ap (text_in is_lossy) (append_assoc so_far.bytes more.bytes others)
        ∙ so_far.spelled (more.bytes ++ others) (λ never. absurd (false≢true never))
        ∙ ap (λ l. so_far.y ++ text_in is_lossy l) (sym (append_assoc waiting more.bytes others))
        ∙ ap (λ l. so_far.y ++ l) (more.spelled others last)
        ∙ sym (append_assoc so_far.y more.characters (text_in is_lossy (waits ++ others)));
    text = all_append IsCharacter so_far.y more.characters so_far.text more.text;
    within = let within = so_far.within in omega (arith, within, length-append so_far.y more.characters);
    last = drop-append-le so_far.base so_far.y more.characters so_far.within ∙ ap (λ l. l ++ more.characters) so_far.last ∙ sym more.grown;
    stands = λ others.
        subst (λ x. Stands takes pauses unit f table x so_far.base first before progress receiver now)
        (sym (append_assoc so_far.y more.characters others)) (so_far.stands (more.characters ++ others));
  }

  module _ (left : Option (List ℕ)) (waiting window : List ℕ) (progress : Progress) (receiver : V) (now : Option (List ℕ)) (is_last : Bool)
      (so_far : IsStreamed left waiting window progress receiver now is_last) where
    is_window : (others : List ℕ) → IsWindow so_far.base window others (so_far.y ++ others)
    is_window others = record {
      within = let within = so_far.within in omega (arith, within, length-append so_far.y others);
      behind = drop-append-le so_far.base so_far.y others so_far.within ∙ ap (λ l. l ++ others) so_far.last;
    }

    -- segments were handed over that don't depend on what follows
    pub streamed_on : (later : Progress) (next : V) (then : Option (List ℕ)) (is_whole : Bool) → (IsTrue is_whole → EndLines f table × IsLine window)
        → HandsOn takes pauses unit f table window is_whole progress receiver now later next then → IsStreamed left waiting window later next then is_last
    streamed_on later next then is_whole line on = record {
      bytes = so_far.bytes;
      y = so_far.y;
      base = so_far.base;
      consumed = so_far.consumed;
      spelled = so_far.spelled;
      text = so_far.text;
      within = so_far.within;
      last = so_far.last;
      stands = λ others. on so_far.base others (so_far.y ++ others) first before (is_window others) (λ is. inr (line is)) (so_far.stands others);
    }

    -- a pause
    pub streamed_paused : (next : V) (then : Option (List ℕ)) → pauses receiver now next then → IsStreamed left waiting window progress next then is_last
    streamed_paused next then paused = record {
      bytes = so_far.bytes;
      y = so_far.y;
      base = so_far.base;
      consumed = so_far.consumed;
      spelled = so_far.spelled;
      text = so_far.text;
      within = so_far.within;
      last = so_far.last;
      stands = λ others. let stands = so_far.stands others in record {
        place = stands.place;
        offset = stands.offset;
        behind = stands.behind;
        handed = handed_paused takes pauses unit f table (so_far.y ++ others) first before receiver next now then progress.place (so_far.base + progress.at)
            stands.handed paused;
      };
    }

    -- characters at the window's start were let go
    pub streamed_shifted : (shorter : List ℕ) (later : Progress) → LiesIn window progress → IsShifted window shorter progress later
        → IsStreamed left waiting shorter later receiver now is_last
    streamed_shifted shorter later lies shifted = record {
      bytes = so_far.bytes;
      y = so_far.y;
      base = so_far.base + shifted.gone;
      consumed = so_far.consumed;
      spelled = so_far.spelled;
      text = so_far.text;
      within =
          let within = so_far.within in
          omega (arith, within, lies.within, shifted.at, ap length so_far.last, length-drop so_far.base so_far.y);
      last = sym (drop-drop shifted.gone so_far.base so_far.y) ∙ ap (drop shifted.gone) so_far.last ∙ sym shifted.rest;
      stands = λ others.
          let stands = so_far.stands others in
          let at : so_far.base + progress.at ≡ so_far.base + shifted.gone + later.at = omega (arith, shifted.at) in
          record {
            place = omega (arith, shifted.place, stands.place, shifted.start);
            offset = shifted.offset ∙ stands.offset ∙ ap (offset_of unit (so_far.y ++ others)) (sym shifted.place);
            behind = ⊎_elim
                (λ none. ⊎_elim (λ first. inl (omega (arith, none, first))) (λ far. inr (omega (arith, none, far, shifted.at))) stands.behind)
                (λ far. inr far)
                shifted.behind;
            handed = subst (λ n. AreHandedTo takes pauses unit f table (so_far.y ++ others) first before receiver now n (so_far.base + shifted.gone + later.at))
                (sym shifted.place)
                (subst (AreHandedTo takes pauses unit f table (so_far.y ++ others) first before receiver now progress.place) at stands.handed);
          };
    }

    -- all segments were taken where the text ends with the window
    pub streamed_last : (ends : V → Option (List ℕ) → Option (List ℕ) → Type 0) (later : Progress) (next : V) (then after : Option (List ℕ)) (is_whole : Bool)
        → waiting ≡ [] → IsAtEnd left → length window ≤ later.at
        → HandsOn takes pauses unit f table window is_whole progress receiver now later next then → ends next then after
        → (x : List ℕ) × IsTextGiven is_lossy held x left × IsText x × TakesAll takes pauses ends x (segments unit f table x) first before after
    streamed_last ends later next then after is_whole none end all on ended =
        let x : List ℕ = so_far.y ++ [] in
        let whole : x ≡ text_in is_lossy so_far.bytes =
        ap (λ l. so_far.y ++ l) (sym (ap (text_in is_lossy) (ap (λ l. l ++ []) none) ∙ text_nil is_lossy))
        ∙ sym (so_far.spelled [] (λ _. refl)) ∙ ap (text_in is_lossy) (append-nil so_far.bytes) in
        let stands = on so_far.base [] x first before (is_window []) (λ _. inl refl) (so_far.stands []) in
        let size : length x ≤ so_far.base + later.at =
        let within = so_far.within in
        omega (arith, all, within, ap length so_far.last, length-drop so_far.base so_far.y, ap length (append-nil so_far.y)) in (
          x,
          (so_far.bytes, so_far.consumed, end, whole),
          subst IsText (sym (append-nil so_far.y)) so_far.text,
          record {
            last = next;
            between = then;
            taken = all_handed takes pauses unit f table x first before next then later.place (so_far.base + later.at) stands.handed size;
            ended = ended;
          },
        )
