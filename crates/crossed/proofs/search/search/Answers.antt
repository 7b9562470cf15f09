-- `crossed::search::search` meets its contract: edges before the place are tried, and later ones before the other passed. Assumes nothing.
use mathlib.Core.Path.{sym, ◌∙◌}
use Rattle.crossed.specs.Searching.{between_leap, search_nowhere, search_pair}
use Rattle.crossed.proofs.search.search.Goals as goal

pub returns-then-count-i : goal.returns-then-count-i
returns-then-count-i c = search_nowhere c.edges.invariant.0 c.if-count-i.true

pub returns-then-meeting : goal.returns-then-meeting
returns-then-meeting c =
    search_pair c.edges.invariant.0 (between_leap c.loop-j.invariant c.in-Some.ensures.0 c.in-Some.ensures.1.1)
    c.in-Some.ensures.1.0 (sym c.meeting.ensures ∙ c.if-meeting.true)
