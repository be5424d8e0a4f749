-- The blocks of a plane one after another. Assumes nothing.
use mathlib.Core.Path.{◌≡◌, refl}
use mathlib.Core.Bool.{true}
use mathlib.Core.List.{List, [], ◌∷◌, ◌++◌}
use Rattle.std.specs.Prelude.{Option, None}
use Prim.Native.Nat.{ℕ, ◌+◌, ◌-◌, ◌*◌, ◌^◌, ◌≤◌, ◌<◌}
use native.Mathlib.Omega.{arith}
use lib.IntN.{ℤ}
use lib.ListN.{length, take, drop, length-take, length-drop}
use lib.Seq.{take-length}
use Rattle.bit_putter.proofs.Putting.{new_sound}
use Rattle.bit_rules.specs.Table.{Table, good_table}
use Rattle.plane_rules.specs.Task.{Task}
use Rattle.plane_rules.specs.AcWrite.{Kind, write_block, write_blocks, tokens}
use Rattle.ac_tasks.specs.Code.{open_of}
use Rattle.ac_plan.specs.Code.{kinds_from, kind_blocks}
use Rattle.ac_plan.proofs.Looking.{blocks_cons, blocks_end, blocks_start}
use Rattle.ac_pen.specs.Code.{Told}
use Rattle.ac_pen.proofs.Tokens.{Telling, telling_start, telling_turn, telling_end}
use Rattle.ac_writer.specs.Code.{new_pen, Moves}
use Rattle.ac_writer.specs.declared.State.{State}
use Rattle.ac_writer.proofs.Lengths.{plane_length}

-- ---- the block with number n, and what follows it, as the code cuts them out

module _ (values : List ℤ) (n : ℕ) where
  pub part_is : take (63 * n + 63 - 63 * n) (drop (63 * n) values) ≡ take 63 (drop (63 * n) values)
  part_is = let e : 63 * n + 63 - 63 * n ≡ 63 = omega arith in rw e

  pub part_short : length (take (63 * n + 63 - 63 * n) (drop (63 * n) values)) ≤ 63
  part_short = omega (arith, length-take (63 * n + 63 - 63 * n) (drop (63 * n) values))

  pub rest_is : take (length values - (63 * n + 63)) (drop (63 * n + 63) values) ≡ drop (63 * (n + 1)) values
  rest_is =
      let e : 63 * (n + 1) ≡ 63 * n + 63 = omega arith in
      rw (e, ← length-drop (63 * n + 63) values) (take-length (drop (63 * n + 63) values))

  pub rest_long : (blocks : ℕ) → length values ≡ 63 * blocks → n < blocks
      → length (take (length values - (63 * n + 63)) (drop (63 * n + 63) values)) ≡ 63 * (blocks - (n + 1))
  rest_long blocks h l = rw rest_is (omega (arith, length-drop (63 * (n + 1)) values))

-- ---- one block after another

-- behind n blocks, what is still to tell comes to what the plane comes to
pub record Running (T : Table) (before memory : List ℕ) (q : State) (blocks : ℕ) (values : List ℤ) (n : ℕ) : Type 0 where
  pub telling : Telling T before memory new_pen q.pen (write_blocks (open_of q.task) (kind_blocks (blocks - n) (drop (63 * n) values))) (tokens blocks values)

all_tokens : (blocks : ℕ) (values : List ℤ) → write_blocks None (kind_blocks blocks values) ≡ tokens blocks values
unfolding tokens kind_blocks
all_tokens blocks values = refl

plane_cons : (o : Option Task) (all : List (List Kind)) (b : List Kind) (later : List (List Kind)) → all ≡ b ∷ later
    → write_blocks o all ≡ (write_block o b later).0 ++ write_blocks (write_block o b later).1 later
unfolding write_blocks
plane_cons o all b later e = rw e

plane_none : (o : Option Task) (all : List (List Kind)) → all ≡ [] → write_blocks o all ≡ []
unfolding write_blocks
plane_none o all e = rw e

module _ {T : Table} {before : List ℕ} (blocks : ℕ) (values : List ℤ) where
  pub run_start : Running T before before (record { pen = new_pen; task = None }) blocks values 0
  run_start = record { telling = rw (blocks_start blocks values, all_tokens blocks values) (telling_start new_sound) }

  module _ {memory : List ℕ} {q : State} {n : ℕ} (w : Running T before memory q blocks values n) where
    pub run_near : good_table T ≡ true → blocks ≤ 1024 → q.pen.putter.at < 2 ^ 59
    run_near g h = omega (arith, w.telling.going.near, plane_length T g blocks values)

    pub run_turn : {after : List ℕ} {r : State} (part rest : List ℤ) → n < blocks → part ≡ take 63 (drop (63 * n) values) → rest ≡ drop (63 * (n + 1)) values
        → Moves T memory after q r (write_block (open_of q.task) (kinds_from part 0) (kind_blocks (blocks - (n + 1)) rest)) → Running T before after r blocks values (n + 1)
    run_turn {after} {r} part rest h e f m =
        let later = kind_blocks (blocks - (n + 1)) rest in
        let k : kind_blocks (blocks - n) (drop (63 * n) values) ≡ kinds_from part 0 ∷ later = rw f (blocks_cons blocks values n h e) in
        record { telling = rw (m.task, ← f) (telling_turn (write_block (open_of q.task) (kinds_from part 0) later).0 _ (rw (plane_cons (open_of q.task) _ (kinds_from part 0) later k) at w.telling) m.told) }

    pub run_end : blocks ≤ n → Told T before memory new_pen q.pen (tokens blocks values)
    run_end h = telling_end (rw (plane_none (open_of q.task) _ (blocks_end blocks values n h)) at w.telling)
