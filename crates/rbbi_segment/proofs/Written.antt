-- The lines of segments that were taken one after the other.
use Rattle.std.proofs.Common.{◌≡◌, ℕ, List, [], ◌∷◌, ◌++◌, Option, refl, sym, ap, ◌∙◌, subst, append-nil}
use Rattle.std.specs.Prelude.{slice_range}
use Rattle.std.proofs.lemmas.List.{flat_map_more}
use Rattle.rbbi_io.specs.Sinks.{Takes, IsBuffered}
use Rattle.rbbi_io.proofs.Puts.{Takes-both}
use Rattle.rbbi_segment.specs.declared.quoted.Quoted.{Quoted}
use Rattle.rbbi_segment.specs.declared.segments.Segment.{Segment}
use Rattle.rbbi_segment.specs.Segments.{AreTaken, NoneTaken, OneMore, Paused, TakesAll}
use Rattle.rbbi_segment.specs.Lines.{TakesLine, PutsWaiting, line_if_wanted, line_of, lines}
use Rattle.rbbi_segment.proofs.Buffered.{waits, more_is_made, more_is_put}

-- the style stays, and the lines of what was taken went out or wait
pub record AreWritten (x : List ℕ) (first : Quoted) (before : Option (List ℕ)) (all : List Segment) (last : Quoted) (now : Option (List ℕ)) : Type 0 where
  pub same : last.style ≡ first.style
  pub put : IsBuffered before now (first.made.items ++ lines first.style x all) last.made.items

none_written : (x : List ℕ) (first : Quoted) (before : Option (List ℕ)) → AreWritten x first before [] first before
none_written x first before = record { same = refl; put = waits before _ _ (sym (append-nil first.made.items)) }

more_written : (x : List ℕ) (first : Quoted) (before between now : Option (List ℕ)) (taken : List Segment) (segment : Segment) (receiver next : Quoted)
    → AreWritten x first before taken receiver between → TakesLine receiver between (slice_range x segment.start segment.end) segment next now
    → AreWritten x first before (taken ++ segment ∷ []) next now
more_written x first before between now taken segment receiver next so_far takes = record {
  same = takes.same ∙ so_far.same;
  put = subst (λ m. IsBuffered before now m next.made.items)
      (ap (λ style. (first.made.items ++ lines first.style x taken) ++ line_of style x segment) so_far.same
      ∙ flat_map_more (line_of first.style x) first.made.items taken segment)
      (more_is_made before between now _ _ _ _ so_far.put takes.put);
}

paused : (x : List ℕ) (first : Quoted) (before between now : Option (List ℕ)) (taken : List Segment) (receiver next : Quoted)
    → AreWritten x first before taken receiver between → PutsWaiting receiver between next now → AreWritten x first before taken next now
paused x first before between now taken receiver next so_far puts = record {
  same = puts.same ∙ so_far.same;
  put = more_is_put before between now _ _ _ so_far.put puts.put;
}

pub all_written : (x : List ℕ) (first : Quoted) (before : Option (List ℕ)) (all : List Segment) (last : Quoted) (now : Option (List ℕ))
    → AreTaken TakesLine PutsWaiting x first before all last now → AreWritten x first before all last now
all_written x first before _ _ _ NoneTaken = none_written x first before
all_written x first before _ _ _ (OneMore taken segment receiver next between now so_far takes) =
    more_written x first before between now taken segment receiver next (all_written x first before taken receiver between so_far) takes
all_written x first before _ _ _ (Paused taken receiver next between now so_far puts) =
    paused x first before between now taken receiver next (all_written x first before taken receiver between so_far) puts

-- with nothing made before, the lines of all segments went out
pub all_put : (x : List ℕ) (first : Quoted) (before now : Option (List ℕ)) (all : List Segment) → first.made.items ≡ []
    → TakesAll TakesLine PutsWaiting (λ last before now. Takes before now last.made.items) x all first before now → Takes before now (lines first.style x all)
all_put x first before now all none takes =
    let written : AreWritten x first before all takes.last takes.between = all_written x first before all takes.last takes.between takes.taken in
    subst (Takes before now) (sym written.put.parts ∙ ap (λ m. m ++ lines first.style x all) none)
    (Takes-both before takes.between now written.put.flushed takes.last.made.items written.put.taken takes.ended)
