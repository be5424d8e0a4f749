-- What the code's reader stands for, worked out by hand and computed. Assumes nothing.
use mathlib.Core.Path.{◌≡◌, refl}
use Prim.Native.Nat.{ℕ}
use mathlib.Core.List.{List, [], ◌∷◌, ◌++◌}
use mathlib.Core.Bool.{Bool, true, false}
use Rattle.std.specs.Prelude.{Ok, Err}
use Rattle.bit_rules.specs.Source.{Out, source, got, stopped, stop}
use Rattle.std.specs.Borrow.{Bor}
use Rattle.bits.specs.declared.BitReader.{BitReader}
use Rattle.bits.specs.Code.{highs, bits_in, opened_at, read_as, read_by}
use Rattle.bit_rules.proofs.BitCases.{ones, zeros}

-- a reader of these data
abbrev reader : Bor (List ℕ) → ℕ → ℕ → ℕ → ℕ → BitReader
reader bytes last at left byte = record { «data» = bytes; last = last; at = at; left = left; byte = byte }

-- a reader's byte has its unread bits on top: two of 40 are 0, 1; none; all eight; the offset is the reader's own
pub readers : (d e f : Bor (List ℕ)) → d.now ≡ 0x11 ∷ 0x22 ∷ 0x33 ∷ [] → e.now ≡ 0x11 ∷ [] → f.now ≡ [] →
    (bits_in (reader d 0 1 2 0x40) ∷ bits_in (reader e 0 1 0 0x40) ∷ bits_in (reader f 2 4 8 0x43) ∷ [])
    ≡ (source (false ∷ true ∷ []) (0x22 ∷ 0x33 ∷ []) 1 0 ∷ source [] [] 1 0 ∷ source (false ∷ true ∷ zeros 4 ++ ones 2) [] 4 2 ∷ [])
unfolding highs bits_in
readers d e f p q s = rw (p, q, s)

-- a bit with the data left behind it; a stop with its number and its offset, whatever was read
pub answers : (d e : Bor (List ℕ)) → d.now ≡ 7 ∷ 8 ∷ [] → (read_by (reader d 0 1 1 0x80) (Ok false) ≡ got false (source (true ∷ []) (8 ∷ []) 1 0))
    × (◌≡◌ {A = Out Bool} (read_by (reader e 1 5 2 0) (Err (record { number = 13; offset = 3 }))) (stopped (stop 13 3)))
unfolding read_as highs bits_in
answers d e p = (rw p, refl)

-- a byte that was opened: the data stay, and of C1 the seven bits behind the highest are unread
pub opening : (d : Bor (List ℕ)) → opened_at (reader d 0 0 0 0) 1 7 0xC1 3 ≡ reader d 3 1 7 0x82
opening d = refl
