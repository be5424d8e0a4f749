-- `transform::zigzag_order` meets its contract: the table is T.81's figure. Assumes nothing.
use Rattle.transform.proofs.Tables.{figure_is}
use Rattle.transform.proofs.zigzag_order.Goals as goal

pub returns : goal.returns
returns c = figure_is
