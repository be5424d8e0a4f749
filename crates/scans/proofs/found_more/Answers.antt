-- `scans::found_more` meets its contract.
use Rattle.scans.proofs.found_more.Goals as goal

pub returns : goal.returns
returns c = rw (c.alike.ensures, c.both.ensures, c.both-2.ensures)
