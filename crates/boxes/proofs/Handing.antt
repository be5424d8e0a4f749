-- What is handed out where the box is whole. Assumes nothing.
use Prim.Native.Nat.{ℕ, ◌≤◌}
use mathlib.Core.Path.{◌≡◌, ap, sym, subst, ◌∙◌}
use mathlib.Core.List.{List}
use mathlib.Core.Bool.{Bool, true}
use native.Mathlib.Omega.{arith}
use lib.ListN.{length}
use Rattle.answers.specs.Verdict.{Verdict, refused, Tried}
use Rattle.answers.proofs.Laws.{tried_given}
use Rattle.answers.specs.declared.Refusal.{Refusal}
use Rattle.std.specs.Prelude.{Result, Ok, Err}
use Rattle.box_rules.specs.Packets.{Packet}
use Rattle.box_rules.specs.Box.{joined}
use Rattle.box_rules.specs.Order.{payloads}
use Rattle.copies.specs.Code.{Numbered, put_at}
use Rattle.judging.specs.Code.{Whole, ReadyIs}
use Rattle.judging.specs.declared.Ready.{Ready}
use Rattle.scans.proofs.InOrder.{order_joined}
use Rattle.copies.proofs.Puts.{put_front}

module _ {ps : List Packet} {room : ℕ} {v : Verdict ℕ} {n sum : ℕ} {ordered : Bool} (w : Whole ps room v n sum ordered) where
  bytes_room : length (joined ps) ≤ room
  bytes_room = omega (arith, w.size, w.fits)

  pub number_room : Numbered ps n room
  number_room = record { many = w.many; once = w.once; fits = bytes_room }

  pub put_tried : (d after : List ℕ) → after ≡ put_at d 0 (joined ps) → Tried 0 v d after (Ok sum)
  put_tried d after e = tried_given (ap Ok (sym w.size)) w.says (e ∙ put_front d (joined ps))

  ordered_bytes : ordered ≡ true → joined ps ≡ payloads ps
  ordered_bytes e = order_joined ps (sym w.order ∙ e)

  pub order_room : ordered ≡ true → length (payloads ps) ≤ room
  order_room e = omega (arith, ap length (ordered_bytes e), bytes_room)

  pub order_tried : ordered ≡ true → (d after : List ℕ) → after ≡ put_at d 0 (payloads ps) → Tried 0 v d after (Ok sum)
  order_tried o d after e = put_tried d after (e ∙ ap (put_at d 0) (sym (ordered_bytes o)))

pub ready_yes : (ps : List Packet) (room : ℕ) (v : Verdict ℕ) {r : Result Ready Refusal} {b : Ready} → ReadyIs ps room v r → r ≡ Ok b → Whole ps room v b.n b.total b.ordered
ready_yes ps room v h e = subst (ReadyIs ps room v) e h

pub ready_not : (ps : List Packet) (room : ℕ) (v : Verdict ℕ) {r : Result Ready Refusal} {f : Refusal} → ReadyIs ps room v r → r ≡ Err f → v ≡ refused f
ready_not ps room v h e = subst (ReadyIs ps room v) e h
