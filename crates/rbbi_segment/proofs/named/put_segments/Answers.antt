use Rattle.std.proofs.Common.{sym, subst}
use Rattle.rbbi_segment.proofs.Carried.{PutsIn}
use Rattle.rbbi_segment.proofs.Handed.{on_ok}
use Rattle.rbbi_segment.proofs.named.put_segments.Goals as goal

pub returns-in-Each : goal.returns-in-Each
returns-in-Each g c =
    subst (PutsIn c.put_lines.result c.args.origin.is_lossy (g.R.Read.remaining c.args.reader.now) (g.R.Read.remaining c.put_lines.new.reader)
    c.args.request.now.wanted c.args.colors c.args.request.now.unit c.args.means.now.filter c.args.means.now.table (g.K.Sink.taken c.args.out.now) (g.K.Sink.taken c.put_lines.new.out)) (sym c.in-Each.is) c.put_lines.ensures

-- of the other formats nothing is said but that the text is one
pub returns-in-Marked : goal.returns-in-Marked
returns-in-Marked g c =
    subst (PutsIn c.hand_over.result c.args.origin.is_lossy (g.R.Read.remaining c.args.reader.now) (g.R.Read.remaining c.hand_over.new.reader)
    c.args.request.now.wanted c.args.colors c.args.request.now.unit c.args.means.now.filter c.args.means.now.table (g.K.Sink.taken c.args.out.now) (g.K.Sink.taken c.hand_over.new.out)) (sym c.in-Marked.is)
    (on_ok c.hand_over.result (λ all. (all.0, all.1, all.2, tt)) c.hand_over.ensures)

pub returns-in-Lines : goal.returns-in-Lines
returns-in-Lines g c =
    subst (PutsIn c.hand_over-in-Lines.result c.args.origin.is_lossy (g.R.Read.remaining c.args.reader.now) (g.R.Read.remaining c.hand_over-in-Lines.new.reader)
    c.args.request.now.wanted c.args.colors c.args.request.now.unit c.args.means.now.filter c.args.means.now.table (g.K.Sink.taken c.args.out.now) (g.K.Sink.taken c.hand_over-in-Lines.new.out)) (sym c.in-Lines.is)
    (on_ok c.hand_over-in-Lines.result (λ all. (all.0, all.1, all.2, tt)) c.hand_over-in-Lines.ensures)

pub returns-in-Count : goal.returns-in-Count
returns-in-Count g c =
    subst (PutsIn c.hand_over-in-Count.result c.args.origin.is_lossy (g.R.Read.remaining c.args.reader.now) (g.R.Read.remaining c.hand_over-in-Count.new.reader)
    c.args.request.now.wanted c.args.colors c.args.request.now.unit c.args.means.now.filter c.args.means.now.table (g.K.Sink.taken c.args.out.now) (g.K.Sink.taken c.hand_over-in-Count.new.out)) (sym c.in-Count.is)
    (on_ok c.hand_over-in-Count.result (λ all. (all.0, all.1, all.2, tt)) c.hand_over-in-Count.ensures)
