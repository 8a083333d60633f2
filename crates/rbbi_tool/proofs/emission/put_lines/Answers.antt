use Rattle.std.proofs.Common.{sym, ap}
use Rattle.rbbi_tool.specs.inner.Prepared.{bytes_of, cost_of}
use Rattle.rbbi_tool.proofs.Emitting.{puts_as}
use Rattle.rbbi_tool.proofs.emission.put_lines.Goals as goal

pub returns-in-Boundaries : goal.returns-in-Boundaries
returns-in-Boundaries g c = puts_as (ap bytes_of (sym c.in-Boundaries.is)) (ap cost_of (sym c.in-Boundaries.is)) c.put_boundary_lines.ensures

pub returns-in-Replies : goal.returns-in-Replies
returns-in-Replies g c = puts_as (ap bytes_of (sym c.in-Replies.is)) (ap cost_of (sym c.in-Replies.is)) c.put_reply_lines.ensures

pub returns-in-Counts : goal.returns-in-Counts
returns-in-Counts g c = puts_as (ap bytes_of (sym c.in-Counts.is)) (ap cost_of (sym c.in-Counts.is)) c.put_count_lines.ensures
