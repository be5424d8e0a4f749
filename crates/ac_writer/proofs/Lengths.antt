-- How many bits a position, a block and a plane take at most. Assumes nothing.
use mathlib.Core.Path.{◌≡◌, ap}
use mathlib.Core.Bool.{true}
use mathlib.Core.List.{List, [], ◌∷◌, ◌++◌, map}
use Rattle.std.specs.Prelude.{Option, Some, None}
use Prim.Native.Nat.{ℕ, zero, suc, ◌*◌, ◌≤◌}
use native.Mathlib.Omega.{arith}
use lib.IntN.{ℤ}
use lib.ListN.{length, take, drop, length-append, length-map, length-take}
use Rattle.bit_rules.specs.Table.{Table, good_table}
use Rattle.plane_rules.specs.Task.{Task}
use Rattle.plane_rules.specs.AcRead.{cut}
use Rattle.plane_rules.specs.AcWrite.{Kind, keep, still, fresh, kind_of, choose, tell, mark, after, write_block, write_blocks, tokens, spelled}
use Rattle.ac_pen.proofs.Tokens.{spelled_append}
use Rattle.ac_pen.proofs.Lengths.{emit_length}

module _ (T : Table) (g : good_table T ≡ true) where
  pub tell_length : (o : Option Task) (t : Task) → length (spelled T (tell o t)) ≤ 30
  unfolding spelled
  tell_length None t = emit_length T g t
  tell_length (Some u) t = omega arith

  mark_length : (x : Kind) → length (spelled T (mark x)) ≤ 1
  unfolding spelled
  mark_length (keep b) = omega arith
  mark_length still = omega arith
  mark_length (fresh b) = omega arith

  pub block_length : (o : Option Task) (kinds : List Kind) (later : List (List Kind)) → length (spelled T (write_block o kinds later).0) ≤ 31 * length kinds
  unfolding write_block spelled
  block_length o [] later = omega arith
  block_length o (x ∷ kinds) later =
      let t = choose o (x ∷ kinds) later in
      let r = write_block (after t x) kinds later in
      omega (
        arith,
        tell_length o t,
        mark_length x,
        block_length (after t x) kinds later,
        ap length (spelled_append T (tell o t) (mark x ++ r.0)),
        ap length (spelled_append T (mark x) r.0),
        length-append (spelled T (tell o t)) (spelled T (mark x ++ r.0)),
        length-append (spelled T (mark x)) (spelled T r.0),
      )

  blocks_length : (n : ℕ) (values : List ℤ) (o : Option Task) → length (spelled T (write_blocks o (map (map kind_of) (cut n values)))) ≤ 1953 * n
  unfolding write_blocks cut spelled
  blocks_length zero values o = omega arith
  blocks_length (suc n) values o =
      let b = map kind_of (take 63 values) in
      let bs = map (map kind_of) (cut n (drop 63 values)) in
      let r = write_block o b bs in
      omega (
        arith,
        block_length o b bs,
        length-map (take 63 values) kind_of,
        length-take 63 values,
        blocks_length n (drop 63 values) r.1,
        ap length (spelled_append T r.0 (write_blocks r.1 bs)),
        length-append (spelled T r.0) (spelled T (write_blocks r.1 bs)),
      )

  pub plane_length : (n : ℕ) (values : List ℤ) → length (spelled T (tokens n values)) ≤ 1953 * n
  unfolding tokens
  plane_length n values = blocks_length n values None
