-- A table that holds every code that any plane needs: 32 codes of 6 bits. Assumes nothing.
use mathlib.Core.Path.{◌≡◌, refl, ◌∙◌}
use mathlib.Core.Bool.{Bool, true, false, cond}
use mathlib.Core.List.{List, [], ◌∷◌, ◌++◌, map, append_assoc}
use Rattle.std.specs.Prelude.{Option, Some, None}
use Prim.Native.Nat.{ℕ, suc, ◌+◌, ◌-◌, ◌*◌, ◌^◌, ◌<◌}
use native.Mathlib.Omega.{arith}
use lib.Dec.{T, ltb}
use lib.IntN.{ℤ}
use lib.ListN.{replicate}
use borrow.Author.Tests.{ltb-true}
use Rattle.laws.specs.Index.{every}
use Rattle.laws.specs.First.{first_fail, or_here}
use Rattle.laws.proofs.Lists.{each}
use Rattle.bit_rules.specs.Digits.{digits}
use Rattle.bit_rules.specs.Table.{Table, table, code_count, kraft, holds, distinct, good_table}
use Rattle.bit_rules.specs.Write.{place_of}
use Rattle.plane_rules.specs.Task.{Task, walk, ended}
use Rattle.plane_rules.specs.AcWrite.{Kind, keep, still, fresh, ahead, quiet, planned, plan, Token, code, raw, class, emit, choose, tell, mark, after, write_block, write_blocks, tokens, or_else, lacking}
use Rattle.trips.proofs.AcTokens.{order_most}

abbrev pub every_code : Table
every_code =
    table (0 ∷ 0 ∷ 0 ∷ 0 ∷ 0 ∷ 32 ∷ replicate 10 0)
    (0x00 ∷ 0x10 ∷ 0x20 ∷ 0x30 ∷ 0x40 ∷ 0x50 ∷ 0x60 ∷ 0x70 ∷ 0x80 ∷ 0x90 ∷ 0xa0 ∷ 0xb0 ∷ 0xc0 ∷ 0xd0 ∷ 0xe0 ∷ 0xf0
    ∷ 0x01 ∷ 0x11 ∷ 0x21 ∷ 0x31 ∷ 0x41 ∷ 0x51 ∷ 0x61 ∷ 0x71 ∷ 0x81 ∷ 0x91 ∷ 0xa1 ∷ 0xb1 ∷ 0xc1 ∷ 0xd1 ∷ 0xe1 ∷ 0xf1 ∷ [])

pub every_good : good_table every_code ≡ true
unfolding good_table every code_count kraft distinct holds
every_good = refl

-- ---- the codes that it holds

there : Option ℕ → Bool
there (Some k) = true
there None = false

held : ℕ → Bool
held v = there (place_of v every_code.values)

held_new : (n : ℕ) → n < 16 → T (held (16 * n + 1))
unfolding held there place_of first_fail or_here
held_new n h = each 16 (λ (m : ℕ). held (16 * m + 1)) tt n h

held_rest : (n : ℕ) → n < 16 → T (held (16 * n))
unfolding held there place_of first_fail or_here
held_rest n h = each 16 (λ (m : ℕ). held (16 * m)) tt n h

missing_code : (v : ℕ) (rest : List Token) → T (held v) → lacking every_code (code v ∷ rest) ≡ lacking every_code rest
unfolding lacking held there
missing_code v rest h = go (place_of v every_code.values) h
  where
    go : (f : Option ℕ) → T (there f) → or_else v f (lacking every_code rest) ≡ lacking every_code rest
    go None h = absurd h
    go (Some k) h = refl

missing_raw : (bits : List Bool) (rest : List Token) → lacking every_code (map raw bits ++ rest) ≡ lacking every_code rest
unfolding lacking
missing_raw [] rest = refl
missing_raw (b ∷ bits) rest = missing_raw bits rest

-- ---- the tasks that a writer tells

abbrev Low : Task → Type 0
Low (walk n sign) = n < 16
Low (ended n) = Unit {0}

plan_low : (kinds : List Kind) (later : List (List Kind)) → Low (plan kinds later)
unfolding plan
plan_low kinds later = go (ahead kinds)
  where
    near : (p : ℕ × Bool) (b : Bool) → ltb p.0 16 ≡ b → Low (cond b (walk p.0 (Some p.1)) (walk 15 None))
    near p true q = ltb-true p.0 16 q
    near p false q = omega arith

    go : (o : Option (ℕ × Bool)) → Low (planned o (quiet later))
    go None = tt
    go (Some p) = near p (ltb p.0 16) refl

emit_held : (t : Task) (rest : List Token) → Low t → lacking every_code (emit t ++ rest) ≡ lacking every_code rest
unfolding emit lacking
emit_held (walk n None) rest h = missing_code (16 * n) rest (held_rest n h)
emit_held (walk n (Some b)) rest h = missing_code (16 * n + 1) (raw b ∷ rest) (held_new n h)
emit_held (ended n) rest h =
    let r : ℕ = class (suc n) in
    missing_code (16 * r) (map raw (digits r (suc n - 2 ^ r)) ++ rest) (held_rest r (omega (arith, order_most 14 (suc n)))) ∙ missing_raw (digits r (suc n - 2 ^ r)) rest

mark_held : (x : Kind) (rest : List Token) → lacking every_code (mark x ++ rest) ≡ lacking every_code rest
unfolding lacking
mark_held (keep b) rest = refl
mark_held still rest = refl
mark_held (fresh b) rest = refl

tell_held : (o : Option Task) (kinds : List Kind) (later : List (List Kind)) (rest : List Token) → lacking every_code (tell o (choose o kinds later) ++ rest) ≡ lacking every_code rest
tell_held None kinds later rest = emit_held (plan kinds later) rest (plan_low kinds later)
tell_held (Some t) kinds later rest = refl

block_held : (o : Option Task) (kinds : List Kind) (later : List (List Kind)) (rest : List Token) → lacking every_code ((write_block o kinds later).0 ++ rest) ≡ lacking every_code rest
unfolding write_block
block_held o [] later rest = refl
block_held o (x ∷ kinds) later rest =
    let t : Task = choose o (x ∷ kinds) later in
    let r : List Token = (write_block (after t x) kinds later).0 in
    simp append_assoc (tell_held o (x ∷ kinds) later (mark x ++ (r ++ rest)) ∙ mark_held x (r ++ rest) ∙ block_held (after t x) kinds later rest)

blocks_held : (o : Option Task) (bs : List (List Kind)) → lacking every_code (write_blocks o bs) ≡ None
unfolding write_blocks lacking
blocks_held o [] = refl
blocks_held o (b ∷ bs) = block_held o b bs (write_blocks (write_block o b bs).1 bs) ∙ blocks_held (write_block o b bs).1 bs

-- no plane needs a code that it lacks
pub every_held : (n : ℕ) (values : List ℤ) → lacking every_code (tokens n values) ≡ None
unfolding tokens
every_held n values = blocks_held None _
