-- The loop over the blocks of a plane: what is left to read, behind the values read so far, is the whole. Assumes nothing.
use Rattle.ac_tasks.specs.declared.Job.{Job}
use mathlib.Core.Path.{◌≡◌, refl, sym, ap, ◌∙◌}
use mathlib.Core.List.{List, ◌∷◌, append-nil}
use mathlib.Core.Logic.{◌⊎◌, inl, inr}
use Rattle.std.specs.Prelude.{Option, None, Ok, Err}
use Prim.Native.Nat.{ℕ, zero, suc, ◌+◌, ◌-◌, ◌*◌, ◌≤◌, ◌<◌}
use native.Mathlib.Numerals.{add-one}
use native.Mathlib.Omega.{arith}
use lib.IntN.{ℤ, pos, nat_abs}
use lib.ListN.{length, get_or, take, drop, length-take, get_or-eq_default}
use lib.Seq.{drop-drop, get_or-take, get_or-drop}
use borrow.Rule.Slice.PartMut.{put_mid, drop_put}
use Rattle.laws.proofs.Integers.{split}
use Rattle.laws.proofs.Parts.{drop_later, take_put_end}
use Rattle.answers.specs.Verdict.{refusal_at}
use Rattle.bit_rules.specs.Source.{got, stopped, stop}
use Rattle.bits.specs.Code.{bits_in}
use Rattle.bits.specs.declared.BitReader.{BitReader}
use Rattle.bit_rules.specs.Table.{Table}
use Rattle.plane_rules.specs.Plane.{Plane, onto}
use Rattle.plane_rules.specs.AcRead.{ac_block, ac_blocks, cut}
use Rattle.planes.specs.Code.{plane_of, Ran, Small}
use Rattle.planes.proofs.Onto.{onto_none, onto_onto}
use Rattle.ac_tasks.specs.Code.{open_of}

cut_length : (n : ℕ) (values : List ℤ) → length (cut n values) ≡ n
unfolding cut
cut_length zero values = refl
cut_length (suc n) values = ap suc (cut_length n (drop 63 values))

-- behind so many blocks
pub record Behind (T : Table) (blocks : ℕ) (values before now : List ℤ) (whole : Plane) (task : Option Job) (r : BitReader) (block : ℕ) : Type 0 where
  pub rest : drop (63 * block) now ≡ drop (63 * block) before
  pub same : onto (take (63 * block) now) (ac_blocks T block (open_of task) (cut (blocks - block) (drop (63 * block) values)) (bits_in r)) ≡ whole

pub behind_none : {T : Table} {blocks : ℕ} {values before : List ℤ} {r : BitReader} → Behind T blocks values before before (ac_blocks T 0 None (cut blocks values) (bits_in r)) None r 0
behind_none {blocks} = let z : blocks - 0 ≡ blocks = omega arith in record { rest = refl; same = rw z (onto_none _) }

module _ {T : Table} {blocks : ℕ} {values before now : List ℤ} {whole : Plane} {task : Option Job} {r : BitReader} {block : ℕ} (a : Behind T blocks values before now whole task r block) where
  abbrev at : ℕ
  at = 63 * block

  pub behind_all : block ≡ blocks → Ran (63 * blocks) whole before now r (Ok tt)
  unfolding plane_of ac_blocks cut onto
  behind_all e =
      let z : blocks - block ≡ 0 = omega arith in
      rw (sym e) (record { same = rw (sym (append-nil (take at now))) (rw z at a.same); kept = a.rest })

  module _ (h : block < blocks) where
    -- the next block, and those behind it
    later : List (List ℤ)
    later = cut (blocks - (block + 1)) (drop (at + 63) values)

    next : cut (blocks - block) (drop at values) ≡ take (at + 63 - at) (drop at values) ∷ later
    unfolding cut later
    next =
        let e : blocks - block ≡ suc (blocks - (block + 1)) = omega arith in
        let k : at + 63 - at ≡ 63 = omega arith in
        rw (e, drop-drop 63 at values, k)

    left : suc (length later) ≡ blocks - block
    unfolding later
    left = omega (arith, cut_length (blocks - (block + 1)) (drop (at + 63) values))

    module _ (room : 63 * blocks ≤ length now) (part : List ℤ) (long : length part ≡ at + 63 - at) where
      fits : at + 63 ≤ length now
      fits = omega arith

      behind_part : drop (at + 63) (put_mid at (at + 63 - at) now part) ≡ drop (at + 63) before
      behind_part = drop_put at (at + 63) now part (omega arith) fits long ∙ drop_later at (at + 63) (omega arith) now before a.rest

      pub behind_stopped : {number offset : ℕ} {q : BitReader} → stopped (stop number offset) ≡ ac_block T (blocks - block) (open_of task) (take (at + 63 - at) (drop at values)) (bits_in r)
          → Ran (63 * blocks) whole before (put_mid at (at + 63 - at) now part) q (Err (refusal_at number block offset))
      unfolding plane_of ac_blocks onto
      behind_stopped e = record {
        same = rw (next, left, ← e) at a.same;
        kept = drop_later (at + 63) (63 * blocks) (omega arith) (put_mid at (at + 63 - at) now part) before behind_part;
      }

      pub behind_one : {after : Option Job} {q : BitReader} → got (part, open_of after) (bits_in q) ≡ ac_block T (blocks - block) (open_of task) (take (at + 63 - at) (drop at values)) (bits_in r)
          → Behind T blocks values before (put_mid at (at + 63 - at) now part) whole after q (block + 1)
      unfolding ac_blocks later
      behind_one {after} {q} e =
          let k : 63 * (block + 1) ≡ at + 63 = omega arith in
          record {
            rest = rw k behind_part;
            same =
                rw (k, take_put_end at (at + 63) now part (omega arith) fits long, add-one block)
                (sym (onto_onto (take at now) part (ac_blocks T (suc block) (open_of after) (cut (blocks - suc block) (drop (at + 63) values)) (bits_in q))) ∙ (rw (next, left, ← e, add-one block) at a.same));
          }

-- ---- what a part is worth

pub small_part : (a k : ℕ) (values : List ℤ) → Small values → Small (take k (drop a values))
small_part a k values s j = go (split j k)
  where
    go : (j < k) ⊎ (k ≤ j) → nat_abs (get_or (take k (drop a values)) j (pos 0)) ≤ 32768
    go (inl l) = rw (get_or-take k (drop a values) j (pos 0) l, get_or-drop a values j (pos 0)) (s (a + j))
    go (inr l) = rw (get_or-eq_default (take k (drop a values)) (pos 0) {n = j} (omega (arith, length-take k (drop a values)))) (omega arith)
