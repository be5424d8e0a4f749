-- `boxes::try_box` meets its contract: nothing is written before all is judged.
use Rattle.answers.proofs.Laws.{tried_refused}
use Rattle.boxes.proofs.Handing.{number_room, put_tried, order_room, order_tried, ready_yes, ready_not}
use mathlib.Core.Path.{refl}
use Rattle.boxes.proofs.try_box.Goals as goal

pub put_in_order-requires : goal.put_in_order-requires
put_in_order-requires c = order_room (ready_yes _ _ _ c.judged.ensures c.in-Ok.is) c.if-ordered.true

pub returns-then-ordered : goal.returns-then-ordered
returns-then-ordered c = order_tried (ready_yes _ _ _ c.judged.ensures c.in-Ok.is) c.if-ordered.true _ _ c.put_in_order.ensures

pub put_by_number-requires : goal.put_by_number-requires
put_by_number-requires c = number_room (ready_yes _ _ _ c.judged.ensures c.in-Ok.is)

pub returns-in-Err : goal.returns-in-Err
returns-in-Err c = tried_refused refl (ready_not _ _ _ c.judged.ensures c.in-Err.is)

pub returns-else-ordered : goal.returns-else-ordered
returns-else-ordered c = put_tried (ready_yes _ _ _ c.judged.ensures c.in-Ok.is) _ _ c.put_by_number.ensures
