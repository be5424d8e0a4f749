-- What each public call promises, with its parameters counted off by their places, and what follows for one input of the whiteboard's: a promise that says nothing gives neither. Assumes nothing.
use mathlib.Core.Path.{◌≡◌, ap, ◌∙◌}
use mathlib.Core.List.{List, [], ◌∷◌, ◌++◌}
use Prim.Native.Nat.{ℕ}
use lib.IntN.{pos}
use lib.ListN.{length, replicate}
use contract.Lifetimes.{Lfts}
use borrow.Fn.World.{ArgsD, ResD}
use borrow.Fn.Kinds.{ended_of}
use denote.Triple.Clauses.{AtExit}
use Rattle.laws.specs.Index.{every, tab, join_to}
use Rattle.laws.specs.First.{first_fail, or_here}
use Rattle.answers.specs.declared.Answer.{Answer}
use Rattle.answers.specs.Verdict.{Verdict, refused, refusal_at, answer_of, outcome_of, leaves, Meets}
use Rattle.levels.specs.Level.{in_level, is_dc, inside, first_outside}
use Rattle.box_rules.specs.Walk.{steps_in, steps_from, begins, walk, ending}
use Rattle.box_rules.specs.Packets.{packets_in, packets}
use Rattle.box_rules.specs.Box.{box_bytes}
use Rattle.box_rules.specs.Text.{line, lines, header, answer, listing, dec_in, dec, list_packets}
use Rattle.bit_rules.specs.Source.{after_ff, next_byte, take_from, take_bit}
use Rattle.bit_rules.specs.Table.{table, code_count, kraft, holds, distinct, good_table}
use Rattle.plane_rules.specs.Plane.{closed}
use Rattle.plane_rules.specs.Dc.{dc_blocks, read_dc, written_dc, write_dc}
use Rattle.plane_rules.specs.AcRead.{read_ac}
use Rattle.plane_rules.specs.AcWrite.{written_ac, write_ac}
use Rattle.transform_rules.specs.Samples.{block_samples}
use Rattle.transform_rules.specs.Picture.{picture}
use Rattle.transform_rules.specs.Call.{is_quantiser, first_bad_quantiser, inverse_transform}
use Rattle.preview_rules.specs.Owed.{owed_block}
use Rattle.preview_rules.specs.Call.{preview_owes}
use Rattle.merge_rules.specs.Curves.{entries}
use Rattle.merge_rules.specs.Settings.{in_ranges, plain, srgb_allowed, residual_count, lengths_right, entry_right}
use Rattle.merge_rules.specs.Picture.{merge, merge_tests}
use Rattle.merge_rules.specs.Call.{colour_of, curve_of, matrix_of, residual_of, known, matrix_count, weights_of, setting_of, setting_number, merge_call}
use Rattle.reader_c.specs.contracts.xt_box_bytes as box-call
use Rattle.reader_c.proofs.xt_box_bytes.Kinds as box-kinds
use Rattle.reader_c.proofs.xt_box_bytes.Reads as box-reads
use Rattle.reader_c.specs.contracts.xt_list_packets as list-call
use Rattle.reader_c.proofs.xt_list_packets.Kinds as list-kinds
use Rattle.reader_c.proofs.xt_list_packets.Reads as list-reads
use Rattle.reader_c.specs.contracts.xt_read_dc_plane as readdc-call
use Rattle.reader_c.proofs.xt_read_dc_plane.Kinds as readdc-kinds
use Rattle.reader_c.proofs.xt_read_dc_plane.Reads as readdc-reads
use Rattle.reader_c.specs.contracts.xt_write_dc_plane as writedc-call
use Rattle.reader_c.proofs.xt_write_dc_plane.Kinds as writedc-kinds
use Rattle.reader_c.proofs.xt_write_dc_plane.Reads as writedc-reads
use Rattle.reader_c.specs.contracts.xt_inverse_transform as transform-call
use Rattle.reader_c.proofs.xt_inverse_transform.Kinds as transform-kinds
use Rattle.reader_c.proofs.xt_inverse_transform.Reads as transform-reads
use Rattle.reader_c.specs.contracts.xt_preview_owes as preview-call
use Rattle.reader_c.proofs.xt_preview_owes.Kinds as preview-kinds
use Rattle.reader_c.proofs.xt_preview_owes.Reads as preview-reads
use Rattle.reader_c.specs.contracts.xt_read_ac_plane as readac-call
use Rattle.reader_c.proofs.xt_read_ac_plane.Kinds as readac-kinds
use Rattle.reader_c.proofs.xt_read_ac_plane.Reads as readac-reads
use Rattle.reader_c.specs.contracts.xt_write_ac_plane as writeac-call
use Rattle.reader_c.proofs.xt_write_ac_plane.Kinds as writeac-kinds
use Rattle.reader_c.proofs.xt_write_ac_plane.Reads as writeac-reads
use Rattle.reader_c.specs.contracts.xt_merge as merge-call
use Rattle.reader_c.proofs.xt_merge.Kinds as merge-kinds
use Rattle.reader_c.proofs.xt_merge.Reads as merge-reads

-- a refusal: the number, the place, the second place, and zeros throughout
pub record Refuses {A : Type 0} (zero : A) (number place second : ℕ) (before after : List A) (r p q : ℕ) : Type 0 where
  pub numbered : r ≡ number
  pub placed : p ≡ place
  pub seconded : q ≡ second
  pub cleared : after ≡ replicate (length before) zero

refuses : {A : Type 0} {zero : A} {number place second : ℕ} {before after : List A} {r p q : ℕ} {verdict : Verdict A} → Meets zero verdict before after (record { number = r; place = p; second = q })
    → verdict ≡ refused (refusal_at number place second) → Refuses zero number place second before after r p q
refuses {zero = zero} {before = before} m e =
    let told = m.answered ∙ ap (λ v. answer_of (outcome_of v)) e in
    record {
      numbered = ap (λ (x : Answer). x.number) told;
      placed = ap (λ (x : Answer). x.place) told;
      seconded = ap (λ (x : Answer). x.second) told;
      cleared = m.held ∙ ap (λ v. leaves zero v before) e;
    }

-- table T: three codes of two bits, 00, 01, F0
pub counts_of_t : List ℕ
counts_of_t = 0 ∷ 3 ∷ replicate 14 0

pub codes_of_t : List ℕ
codes_of_t = 0x00 ∷ 0x01 ∷ 0xF0 ∷ []

-- xt_box_bytes
module _ (κs : Lfts 4) (a : ArgsD box-call.signature κs) (r : ResD box-call.signature κs) (s : AtExit (ended_of 4 box-kinds.ps box-kinds.r) κs) (promise : box-reads.Learnt κs a r s) where
  pub box_meets : Meets 0 (box_bytes a.0.now a.1.0 a.1.1.0 (length a.1.1.1.0.now))
      a.1.1.1.0.now s.1.1.1.0.now (record { number = r; place = s.1.1.1.1.0.now; second = s.1.1.1.1.1.0.now })
  box_meets = promise

  -- an empty file does not begin FF D8: 1, place 0
  pub box_refuses : (a.0.now ≡ [])
      → Refuses 0 1 0 0 a.1.1.1.0.now s.1.1.1.0.now r s.1.1.1.1.0.now s.1.1.1.1.1.0.now
  unfolding box_bytes steps_in steps_from begins walk ending
  box_refuses e0 = refuses box_meets (rw (e0))

-- xt_list_packets
module _ (κs : Lfts 4) (a : ArgsD list-call.signature κs) (r : ResD list-call.signature κs) (s : AtExit (ended_of 4 list-kinds.ps list-kinds.r) κs) (promise : list-reads.Learnt κs a r s) where
  pub list_meets : Meets 0 (list_packets a.0.now (length a.1.0.now))
      a.1.0.now s.1.0.now (record { number = r; place = s.1.1.0.now; second = s.1.1.1.0.now })
  list_meets = promise

  -- the listing of an empty file has 38 bytes: 9 where there is no room
  pub list_refuses : (a.0.now ≡ [])
      → (a.1.0.now ≡ [])
      → Refuses 0 9 38 0 a.1.0.now s.1.0.now r s.1.1.0.now s.1.1.1.0.now
  unfolding list_packets listing line lines header answer dec_in dec packets_in packets steps_in steps_from begins walk ending
  list_refuses e0 e1 = refuses list_meets (rw (e0, e1))

-- xt_read_dc_plane
module _ (κs : Lfts 5) (a : ArgsD readdc-call.signature κs) (r : ResD readdc-call.signature κs) (s : AtExit (ended_of 5 readdc-kinds.ps readdc-kinds.r) κs) (promise : readdc-reads.Learnt κs a r s) where
  pub read_dc_meets : Meets (pos 0) (read_dc a.0 a.1.0 a.1.1.1.0.now a.1.1.0.now (length a.1.1.1.1.0.now))
      a.1.1.1.1.0.now s.1.1.1.1.0.now (record { number = r; place = s.1.1.1.1.1.0.now; second = s.1.1.1.1.1.1.0.now })
  read_dc_meets = promise

  -- one block and no room: 9, place 1
  pub read_dc_refuses : (a.0 ≡ 4)
      → (a.1.0 ≡ 1)
      → (a.1.1.1.0.now ≡ pos 0 ∷ [])
      → (a.1.1.1.1.0.now ≡ [])
      → Refuses (pos 0) 9 1 0 a.1.1.1.1.0.now s.1.1.1.1.0.now r s.1.1.1.1.1.0.now s.1.1.1.1.1.1.0.now
  unfolding read_dc every first_fail or_here in_level is_dc inside first_outside
  read_dc_refuses e0 e1 e2 e3 = refuses read_dc_meets (rw (e0, e1, e2, e3))

  -- one block and FF alone: 12, block 0, and byte 1 is missing
  pub read_dc_stops : (a.0 ≡ 1)
      → (a.1.0 ≡ 1)
      → (a.1.1.0.now ≡ 255 ∷ [])
      → (a.1.1.1.0.now ≡ pos 0 ∷ [])
      → (a.1.1.1.1.0.now ≡ pos 7 ∷ [])
      → Refuses (pos 0) 12 0 1 a.1.1.1.1.0.now s.1.1.1.1.0.now r s.1.1.1.1.1.0.now s.1.1.1.1.1.1.0.now
  unfolding read_dc every first_fail or_here in_level is_dc inside first_outside after_ff next_byte take_from take_bit closed dc_blocks
  read_dc_stops e0 e1 e2 e3 e4 = refuses read_dc_meets (rw (e0, e1, e2, e3, e4))

-- xt_write_dc_plane
module _ (κs : Lfts 4) (a : ArgsD writedc-call.signature κs) (r : ResD writedc-call.signature κs) (s : AtExit (ended_of 4 writedc-kinds.ps writedc-kinds.r) κs) (promise : writedc-reads.Learnt κs a r s) where
  pub write_dc_meets : Meets 0 (write_dc a.0 a.1.0 a.1.1.0.now (length a.1.1.1.0.now))
      a.1.1.1.0.now s.1.1.1.0.now (record { number = r; place = s.1.1.1.1.0.now; second = s.1.1.1.1.1.0.now })
  write_dc_meets = promise

  -- the second of two blocks is outside level 1: 11, place 1
  pub write_dc_refuses : (a.0 ≡ 1)
      → (a.1.0 ≡ 2)
      → (a.1.1.0.now ≡ pos 0 ∷ pos 4096 ∷ [])
      → Refuses 0 11 1 0 a.1.1.1.0.now s.1.1.1.0.now r s.1.1.1.1.0.now s.1.1.1.1.1.0.now
  unfolding written_dc every first_fail or_here in_level is_dc inside first_outside
  write_dc_refuses e0 e1 e2 = refuses write_dc_meets (rw (e0, e1, e2))

  -- a block at level 4, whatever its values and the room: 28, place 0
  pub write_dc_retired : (a.0 ≡ 4) → (a.1.0 ≡ 1) → Refuses 0 28 0 0 a.1.1.1.0.now s.1.1.1.0.now r s.1.1.1.1.0.now s.1.1.1.1.1.0.now
  unfolding written_dc every
  write_dc_retired e0 e1 = refuses write_dc_meets (rw (e0, e1))

-- xt_inverse_transform
module _ (κs : Lfts 5) (a : ArgsD transform-call.signature κs) (r : ResD transform-call.signature κs) (s : AtExit (ended_of 5 transform-kinds.ps transform-kinds.r) κs) (promise : transform-reads.Learnt κs a r s) where
  pub transform_meets : Meets (pos 0) (inverse_transform a.0 a.1.0 a.1.1.0.now a.1.1.1.0.now (length a.1.1.1.1.0.now))
      a.1.1.1.1.0.now s.1.1.1.1.0.now (record { number = r; place = s.1.1.1.1.1.0.now; second = s.1.1.1.1.1.1.0.now })
  transform_meets = promise

  -- a block of zeros at R 4 and no room: 9, place 64
  pub transform_refuses : (a.0 ≡ 4)
      → (a.1.0 ≡ 1)
      → (a.1.1.0.now ≡ replicate 64 (pos 0))
      → (a.1.1.1.0.now ≡ replicate 64 255)
      → (a.1.1.1.1.0.now ≡ [])
      → Refuses (pos 0) 9 64 0 a.1.1.1.1.0.now s.1.1.1.1.0.now r s.1.1.1.1.1.0.now s.1.1.1.1.1.1.0.now
  unfolding inverse_transform first_bad_quantiser is_quantiser picture block_samples tab join_to every first_fail or_here in_level is_dc inside first_outside
  transform_refuses e0 e1 e2 e3 e4 = refuses transform_meets (rw (e0, e1, e2, e3, e4))

-- xt_preview_owes
module _ (κs : Lfts 4) (a : ArgsD preview-call.signature κs) (r : ResD preview-call.signature κs) (s : AtExit (ended_of 4 preview-kinds.ps preview-kinds.r) κs) (promise : preview-reads.Learnt κs a r s) where
  pub preview_meets : Meets 0 (preview_owes a.0 a.1.0.now (length a.1.1.0.now))
      a.1.1.0.now s.1.1.0.now (record { number = r; place = s.1.1.1.0.now; second = s.1.1.1.1.0.now })
  preview_meets = promise

  -- four planes left, quantisers 255 and no room: 9, place 64
  pub preview_refuses : (a.0 ≡ 4)
      → (a.1.0.now ≡ replicate 64 255)
      → (a.1.1.0.now ≡ [])
      → Refuses 0 9 64 0 a.1.1.0.now s.1.1.0.now r s.1.1.1.0.now s.1.1.1.1.0.now
  unfolding preview_owes first_bad_quantiser is_quantiser owed_block tab every first_fail or_here
  preview_refuses e0 e1 e2 = refuses preview_meets (rw (e0, e1, e2))

-- xt_read_ac_plane
module _ (κs : Lfts 7) (a : ArgsD readac-call.signature κs) (r : ResD readac-call.signature κs) (s : AtExit (ended_of 7 readac-kinds.ps readac-kinds.r) κs) (promise : readac-reads.Learnt κs a r s) where
  pub read_ac_meets : Meets (pos 0) (read_ac a.0 a.1.0 (table a.1.1.0.now a.1.1.1.0.now) a.1.1.1.1.1.0.now a.1.1.1.1.0.now (length a.1.1.1.1.1.1.0.now))
      a.1.1.1.1.1.1.0.now s.1.1.1.1.1.1.0.now (record { number = r; place = s.1.1.1.1.1.1.1.0.now; second = s.1.1.1.1.1.1.1.1.0.now })
  read_ac_meets = promise

  -- one block by table T and no room: 9, place 63
  pub read_ac_refuses : (a.0 ≡ 4)
      → (a.1.0 ≡ 1)
      → (a.1.1.0.now ≡ counts_of_t)
      → (a.1.1.1.0.now ≡ codes_of_t)
      → (a.1.1.1.1.1.0.now ≡ replicate 63 (pos 0))
      → (a.1.1.1.1.1.1.0.now ≡ [])
      → Refuses (pos 0) 9 63 0 a.1.1.1.1.1.1.0.now s.1.1.1.1.1.1.0.now r s.1.1.1.1.1.1.1.0.now s.1.1.1.1.1.1.1.1.0.now
  unfolding counts_of_t codes_of_t read_ac code_count kraft holds distinct good_table every first_fail or_here in_level is_dc inside first_outside
  read_ac_refuses e0 e1 e2 e3 e4 e5 = refuses read_ac_meets (rw (e0, e1, e2, e3, e4, e5))

-- xt_write_ac_plane
module _ (κs : Lfts 6) (a : ArgsD writeac-call.signature κs) (r : ResD writeac-call.signature κs) (s : AtExit (ended_of 6 writeac-kinds.ps writeac-kinds.r) κs) (promise : writeac-reads.Learnt κs a r s) where
  pub write_ac_meets : Meets 0 (write_ac a.0 a.1.0 (table a.1.1.0.now a.1.1.1.0.now) a.1.1.1.1.0.now (length a.1.1.1.1.1.0.now))
      a.1.1.1.1.1.0.now s.1.1.1.1.1.0.now (record { number = r; place = s.1.1.1.1.1.1.0.now; second = s.1.1.1.1.1.1.1.0.now })
  write_ac_meets = promise

  -- the last value of a block is outside level 1: 11, place 62
  pub write_ac_refuses : (a.0 ≡ 1)
      → (a.1.0 ≡ 1)
      → (a.1.1.0.now ≡ counts_of_t)
      → (a.1.1.1.0.now ≡ codes_of_t)
      → (a.1.1.1.1.0.now ≡ replicate 62 (pos 0) ++ (pos 4096 ∷ []))
      → Refuses 0 11 62 0 a.1.1.1.1.1.0.now s.1.1.1.1.1.0.now r s.1.1.1.1.1.1.0.now s.1.1.1.1.1.1.1.0.now
  unfolding counts_of_t codes_of_t written_ac code_count kraft holds distinct good_table every first_fail or_here in_level is_dc inside first_outside
  write_ac_refuses e0 e1 e2 e3 e4 = refuses write_ac_meets (rw (e0, e1, e2, e3, e4))

  -- a block at level 4, whatever its table, values and room: 28, place 0
  pub write_ac_retired : (a.0 ≡ 4)
      → (a.1.0 ≡ 1)
      → Refuses 0 28 0 0 a.1.1.1.1.1.0.now s.1.1.1.1.1.0.now r s.1.1.1.1.1.1.0.now s.1.1.1.1.1.1.1.0.now
  unfolding written_ac every
  write_ac_retired e0 e1 = refuses write_ac_meets (rw (e0, e1))

-- xt_merge
module _ (κs : Lfts 7) (a : ArgsD merge-call.signature κs) (r : ResD merge-call.signature κs) (s : AtExit (ended_of 7 merge-kinds.ps merge-kinds.r) κs) (promise : merge-reads.Learnt κs a r s) where
  pub merge_meets : Meets 0 (merge_call (known a.1.1.1.1.1.0 a.1.1.1.1.1.1.0 a.1.1.1.1.1.1.1.0 a.1.1.1.1.1.1.1.1.0 a.1.1.1.1.1.1.1.1.1.0) (setting_of a.0 a.1.0 a.1.1.0 a.1.1.1.0 a.1.1.1.1.1.0 a.1.1.1.1.1.1.0 a.1.1.1.1.1.1.1.0 a.1.1.1.1.1.1.1.1.1.1.1.1.1.0.now a.1.1.1.1.1.1.1.1.0 a.1.1.1.1.1.1.1.1.1.0) a.1.1.1.1.0 a.1.1.1.1.1.1.1.1.1.1.0.now a.1.1.1.1.1.1.1.1.1.1.1.0.now a.1.1.1.1.1.1.1.1.1.1.1.1.0.now a.1.1.1.1.1.1.1.1.1.1.1.1.1.0.now (length a.1.1.1.1.1.1.1.1.1.1.1.1.1.1.0.now))
      a.1.1.1.1.1.1.1.1.1.1.1.1.1.1.0.now s.1.1.1.1.1.1.1.1.1.1.1.1.1.1.0.now (record { number = r; place = s.1.1.1.1.1.1.1.1.1.1.1.1.1.1.1.0.now; second = s.1.1.1.1.1.1.1.1.1.1.1.1.1.1.1.1.0.now })
  merge_meets = promise

  -- no pixels, and entry 3 of the table too large at Rb 1: 11, place 3
  pub merge_refuses : (a.0 ≡ 1)
      → (a.1.0 ≡ 0)
      → (a.1.1.0 ≡ 4)
      → (a.1.1.1.0 ≡ 3)
      → (a.1.1.1.1.0 ≡ 0)
      → (a.1.1.1.1.1.0 ≡ 1)
      → (a.1.1.1.1.1.1.0 ≡ 1)
      → (a.1.1.1.1.1.1.1.0 ≡ 0)
      → (a.1.1.1.1.1.1.1.1.0 ≡ 0)
      → (a.1.1.1.1.1.1.1.1.1.0 ≡ 0)
      → (a.1.1.1.1.1.1.1.1.1.1.0.now ≡ [])
      → (a.1.1.1.1.1.1.1.1.1.1.1.0.now ≡ [])
      → (a.1.1.1.1.1.1.1.1.1.1.1.1.0.now ≡ 0 ∷ 0 ∷ 0 ∷ replicate 253 512)
      → (a.1.1.1.1.1.1.1.1.1.1.1.1.1.0.now ≡ [])
      → Refuses 0 11 3 0 a.1.1.1.1.1.1.1.1.1.1.1.1.1.1.0.now s.1.1.1.1.1.1.1.1.1.1.1.1.1.1.0.now r s.1.1.1.1.1.1.1.1.1.1.1.1.1.1.1.0.now s.1.1.1.1.1.1.1.1.1.1.1.1.1.1.1.1.0.now
  unfolding merge_call setting_number known matrix_count setting_of colour_of curve_of matrix_of residual_of weights_of merge merge_tests every first_fail or_here in_ranges plain srgb_allowed residual_count lengths_right entry_right entries
  merge_refuses e0 e1 e2 e3 e4 e5 e6 e7 e8 e9 e10 e11 e12 e13 = refuses merge_meets (rw (e0, e1, e2, e3, e4, e5, e6, e7, e8, e9, e10, e11, e12, e13))
