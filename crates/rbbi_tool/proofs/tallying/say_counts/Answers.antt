use Rattle.std.proofs.Common.{◌≡◌, ℕ, List, [], ◌∷◌, ◌++◌, refl, sym, ap, ◌∙◌, append_assoc}
use Rattle.std.specs.Prelude.{decimal, codes}
use Rattle.std.specs.List.{flat_map}
use Rattle.std.proofs.lemmas.Result.{err_from_is_err_and}
use Rattle.rbbi_model.specs.Boundaries.{Boundary}
use Rattle.rbbi_tally.specs.Counts.{segment_count}
use Rattle.rbbi_tally.specs.Tallies.{boundaries_of}
use Rattle.rbbi_tool.specs.Command.Tally.{count_line}
use Rattle.rbbi_tool.specs.inner.Tallying.{counts_of, lines_of}
use Rattle.rbbi_tool.proofs.CountLists.{counts_are, same_counts}
use Rattle.rbbi_tool.proofs.Saying.{IsSaid, said_none, said_more, said_front, said_rest}
use Rattle.rbbi_tool.proofs.tallying.say_counts.Goals as goal

-- nothing was said, then the word, then the number of segments
said_first : (boundaries : List Boundary) (old : List ℕ) → IsSaid old (lines_of boundaries)
    (codes "segments " ++ (decimal (segment_count boundaries) ++ (10 ∷ flat_map count_line (counts_of boundaries)))) old
said_first boundaries old =
    said_none old (lines_of boundaries) _
    (ap (λ l. codes "segments " ++ l) (append_assoc (decimal (segment_count boundaries)) (10 ∷ []) (flat_map count_line (counts_of boundaries))))

said_number : (boundaries : List Boundary) (segments : ℕ) (old a b : List ℕ) → segments ≡ segment_count boundaries → a ≡ old ++ codes "segments " →
    b ≡ a ++ decimal segments → IsSaid old (lines_of boundaries) (10 ∷ flat_map count_line (counts_of boundaries)) b
said_number boundaries segments old a b number is more =
    said_more old (lines_of boundaries) _ a
    (said_more old (lines_of boundaries) _ old (said_first boundaries old) (codes "segments ") _ a refl is)
    (decimal (segment_count boundaries)) _ b refl (more ∙ ap (λ n. a ++ decimal n) number)

pub returns-in_err-append : goal.returns-in_err-append
returns-in_err-append c =
    let told = err_from_is_err_and c.from_residual.result c.from_residual.ensures.1 in
    rw told.1 (said_front _ _ _ _ (said_first (boundaries_of c.args.tally.now) c.args.made.now.items) (codes "segments ") _ _ refl c.in_err-append.ensures)

pub returns-in_err-append-2 : goal.returns-in_err-append-2
returns-in_err-append-2 c =
    let told = err_from_is_err_and c.from_residual-in_err-append-2.result c.from_residual-in_err-append-2.ensures.1 in
    rw told.1
    (said_front _ _ _ _
    (said_number (boundaries_of c.args.tally.now) c.segments.result c.args.made.now.items c.append.new.out.items c.append_number.new.out.items
    c.segments.ensures c.in_ok-append.ensures c.in_ok-append_number.ensures) (10 ∷ []) _ _ refl c.in_err-append-2.ensures)

pub returns : goal.returns
returns c =
    let boundaries = boundaries_of c.args.tally.now in
    let counts = same_counts boundaries (counts_of boundaries) c.in_ok-counts.counts.items (counts_are boundaries) c.in_ok-counts.ensures in
    said_rest _ _ _ _
    (said_more _ _ _ _
    (said_number boundaries c.segments.result c.args.made.now.items c.append.new.out.items c.append_number.new.out.items
    c.segments.ensures c.in_ok-append.ensures c.in_ok-append_number.ensures) (10 ∷ []) (flat_map count_line c.deref.result.now) c.append-2.new.out.items
    (ap (λ l. 10 ∷ flat_map count_line l) (counts ∙ sym c.deref.ensures.value)) c.in_ok-append-2.ensures) _ _ c.say_each.ensures
