-- The quick look: where the bytes of a whole packet with no fill stand, the step is that packet. Assumes nothing.
use Prim.Native.Nat.{ℕ, ◌+◌, ◌-◌, ◌≤◌}
use mathlib.Core.Path.{◌≡◌, ap, sym, ◌∙◌}
use mathlib.Core.List.{List}
use mathlib.Core.Bool.{true}
use native.Mathlib.Omega.{arith}
use lib.ListN.{length, drop}
use borrow.Author.Tests.{le-ltb, ne_eqb}
use Rattle.box_rules.specs.declared.Step.TheVariants.{Meet}
use Rattle.box_rules.specs.Walk.{be16, be32, head_at, ones, barred, tagged, packet_at, whole_at}
use Rattle.box_rules.specs.Packets.{is_mine}
use Rattle.packets.specs.Code.{Tagged, Packed, MineHere}
use Rattle.box_rules.proofs.Runs.{ones_on, ones_off}
use Rattle.box_rules.proofs.Walking.{segment_at, ending_meet}
use Rattle.packets.proofs.Meeting.{mine_met}

module _ (file : List ℕ) (at len : ℕ) (t : Tagged file at) (least : 18 ≤ len) (inside : at + 2 + len ≤ length file)
    (size : be16 file (at + 2) ≡ len) (stated : 8 ≤ be32 file (at + 12)) where
  run : at + ones (drop at file) ≡ at + 1
  run = ones_on file at (omega arith) t.first
      ∙ sym (ones_off file (at + 1) (omega arith) (λ e. let f = sym t.marker ∙ e in omega arith))

  size_there : be16 file (at + 1 + 1) ≡ len
  size_there = ap (be16 file) (omega arith) ∙ size

  is_tagged : tagged file (at + 1) len ≡ true
  unfolding tagged
  is_tagged =
      let e : at + 1 + 3 ≡ at + 4 = omega arith in let f : at + 1 + 4 ≡ at + 5 = omega arith in
      rw (le-ltb len 4 (omega arith), e, f, t.four, t.five)

  is_packet : packet_at file at (at + 1) len ≡ Meet (head_at file (at + 1)) (at + 20) (len - 18) (at + 2 + len)
  unfolding packet_at head_at
  is_packet =
      let e : at + 1 + 11 ≡ at + 12 = omega arith in let f : at + 1 + 19 ≡ at + 20 = omega arith in let g : at + 1 + 1 + len ≡ at + 2 + len = omega arith in
      rw (le-ltb len 18 least, e, f, g, ne_eqb (be32 file (at + 12)) 1 (λ z. omega arith), le-ltb (be32 file (at + 12)) 8 stated)

  pub here : Packed file at len
  unfolding whole_at barred
  here = record {
    step = segment_at file at (at + 1) len run (omega arith) (λ e. let f = sym t.marker ∙ e in omega arith) (rw t.marker) size_there (omega arith) (omega arith)
        ∙ rw (t.marker, is_tagged) is_packet;
    least = least;
    inside = inside;
  }

-- and where its head is the asked one, it is the next of its type and instance
pub mine_packed : (file : List ℕ) (kind instance at len : ℕ) → Packed file at len → is_mine kind instance (head_at file (at + 1)) ≡ true → MineHere file kind instance at len
mine_packed file kind instance at len p w = record {
  list = mine_met file kind instance at p.step w;
  after = omega arith;
  reach = omega (arith, p.least);
  inside = p.inside;
  same = ending_meet file at p.step;
}
