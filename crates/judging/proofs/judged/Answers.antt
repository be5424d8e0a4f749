-- `judging::judged` meets its contract: the walk behind the last packet ends as the whole walk.
use Prim.Native.Nat.{ℕ}
use Rattle.answers.specs.Verdict.{Verdict}
use Rattle.scans.specs.Code.{mine_of}
use Rattle.judging.specs.Code.{ReadyIs}
use Rattle.judging.proofs.Answers.{file_refused, file_none, file_some}
use Rattle.packets.proofs.Meeting.{met, gone}
use mathlib.Core.Path.{sym, subst, ◌∙◌}
use Rattle.judging.proofs.judged.Goals as goal

pub checked-requires : goal.checked-requires
checked-requires c = c.scan_all-c.ensures.scanned

pub returns-in-Err : goal.returns-in-Err
returns-in-Err c = file_refused _ _ _ _ (sym c.walk_all.ensures ∙ c.in-Err.is)

pub returns-in-Ok : goal.returns-in-Ok
returns-in-Ok c = rw c.not.ensures (file_none _ _ _ _ (sym c.walk_all.ensures ∙ c.in-Ok.is) (gone _ _ _ _ c.next_from.ensures c.in-None.is))

pub returns-in-Err-walk_on : goal.returns-in-Err-walk_on
returns-in-Err-walk_on c = file_refused _ _ _ _ (sym c.scan_all-c.ensures.end_value ∙ sym c.walk_on.ensures ∙ c.in-Err-walk_on.is)

pub returns-in-Ok-walk_on : goal.returns-in-Ok-walk_on
returns-in-Ok-walk_on c = let m = met _ _ _ _ c.next_from.ensures c.in-Some.is in
    let well = sym c.scan_all-c.ensures.end_value ∙ sym c.walk_on.ensures ∙ c.in-Ok-walk_on.is in
    subst (λ (v : Verdict ℕ). ReadyIs (mine_of c.args.sought.file.now c.args.sought.kind c.args.sought.instance) c.args.room v c.checked.result) (sym (file_some _ _ _ _ well m)) c.checked.ensures
