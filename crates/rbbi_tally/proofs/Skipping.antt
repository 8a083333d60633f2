-- What is read at a spot while old segments are skipped.
use Rattle.std.proofs.Common.{◌≡◌, ◌+◌, ◌<◌, ◌++◌, ℕ, [], ◌∷◌, List, length, drop, get_or, subst}
use Rattle.rbbi_tally.specs.declared.kept.Kept.{Kept}
use Rattle.rbbi_tally.specs.declared.piece.Piece.{Piece}
use Rattle.rbbi_tally.specs.declared.spot.Spot.{Spot}
use Rattle.rbbi_tally.specs.inner.Segments.{Segment}
use Rattle.rbbi_tally.specs.inner.Pieces.{segment_of, segments_in, contents, segments_from, IsSpot}
use Rattle.rbbi_tally.specs.inner.Counting.{AreCounted}
use Rattle.rbbi_tally.specs.inner.Searching.{ArePassed}
use Rattle.rbbi_tally.proofs.PieceLists.{segment_read, spot_item}
use Rattle.rbbi_tally.proofs.Counted.{counted_on}

-- the segment at the spot and those behind it are counted
pub record IsReadAt (ps : List Piece) (spot : Spot) (p : Piece) (k : Kept) (counts : List ℕ) : Type 0 where
  pub rest : List Segment
  pub is : segments_from ps spot ≡ segment_of p.start k ∷ rest
  pub counted : AreCounted (segment_of p.start k ∷ rest) counts

pub read_at : (ps : List Piece) (spot : Spot) (p : Piece) (k : Kept) (place : ℕ) (from : Spot) (before counts : List ℕ) → IsSpot ps spot →
    spot.piece < length ps → p ≡ get_or ps spot.piece p → k ≡ get_or p.items.items spot.item k → AreCounted (segments_from ps from) before →
    ArePassed place (segments_from ps from) (segments_from ps spot) before counts → IsReadAt ps spot p k counts
read_at ps spot p k place from before counts at short is read counted passed =
    let e = segment_read ps spot p k short is (spot_item ps spot p at short is) read in
    record {
      rest = drop (spot.item + 1) (segments_in p) ++ contents (drop (spot.piece + 1) ps);
      is = e;
      counted =
          subst (λ l. AreCounted l counts) e
          (counted_on passed.gone (segments_from ps spot) [] before counts (subst (λ l. AreCounted l before) passed.parted counted) passed.counted);
    }
