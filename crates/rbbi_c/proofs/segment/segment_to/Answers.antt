use Rattle.rbbi_c.proofs.Segments.{ends_at}
use Rattle.rbbi_c.proofs.segment.segment_to.Goals as goal

pub returns-clause-ends : goal.returns-clause-ends
returns-clause-ends g c =
    ends_at c.args.session.now.table c.args.unit c.args.session.now.state.text c.args.end c.find_before-begin.result c.offset_or_start.result
    c.requires.bound c.requires.some c.find_before-begin.ensures.found c.offset_or_start.ensures
