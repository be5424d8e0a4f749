-- Which byte: what the law says, used. Assumes nothing.
use mathlib.Core.Path.{◌≡◌, refl, ap, ◌∙◌}
use mathlib.Core.Logic.{inl, inr}
use mathlib.Core.List.{List, [], ◌∷◌}
use Prim.Native.Nat.{ℕ, ◌+◌, ◌-◌, ◌<◌}
use native.Mathlib.Omega.{arith}
use lib.IntN.{ℤ}
use lib.ListN.{length, get_or, take}
use Rattle.answers.specs.Verdict.{Verdict}
use Rattle.demands.specs.Byte.{size, Refuses, WhichByte, Either, ByteShown, TellsWhichByte}
use Rattle.demands.proofs.Byte.{dc_which, ac_which}

-- ---- the law used

module _ {reads : List ℕ → Verdict ℤ} (w : WhichByte reads) where
  either_below : (bytes : List ℕ) (p q : ℕ) → Either reads bytes 13 17 p q → q < length bytes
  either_below bytes p q (inl e) = w.below bytes 13 p q (omega arith) (omega arith) e
  either_below bytes p q (inr e) = w.below bytes 17 p q (omega arith) (omega arith) e

  either_carries : (bytes : List ℕ) (p q : ℕ) → Either reads bytes 13 17 p (q + 1) → get_or bytes (q + 1 - 1) 0 ≡ 255 → ⊥
  either_carries bytes p q (inl e) = w.carries bytes 13 p (q + 1) (omega arith) (omega arith) e (omega arith)
  either_carries bytes p q (inr e) = w.carries bytes 17 p (q + 1) (omega arith) (omega arith) e (omega arith)

  either_asked : (bytes : List ℕ) (p q : ℕ) → Either reads bytes 13 17 p q → (r : ℕ) × Refuses reads (take q bytes) 12 r q
  either_asked bytes p q (inl e) = w.asked bytes 13 p q (omega arith) (omega arith) e
  either_asked bytes p q (inr e) = w.asked bytes 17 p q (omega arith) (omega arith) e

  shown : ByteShown reads
  shown = record {
    missing = λ byte p q e. w.missing (byte ∷ []) p q e;
    below = either_below;
    marker = λ bytes p q e. let m = w.marker bytes p q e in (m.0, m.2);
    carries = λ bytes p q h e. let z : q + 1 - 1 ≡ q = omega arith in either_carries bytes p q h (ap (λ (n : ℕ). get_or bytes n 0) z ∙ e);
    asked = either_asked;
    last = λ bytes p q e. w.last bytes (255 ∷ 255 ∷ []) 13 p q (omega arith) (omega arith) e;
    lastly = λ bytes p q e. w.last bytes (255 ∷ 255 ∷ []) 17 p q (omega arith) (omega arith) e;
  }

-- FF has its 00 with it, any other byte stands alone
pub sizes : (size 255 ≡ 2) × (size 254 ≡ 1) × (size 0 ≡ 1)
sizes = (refl, refl, refl)

pub tells_which_byte : TellsWhichByte
tells_which_byte = record {
  dc = dc_which;
  ac = λ plane blocks codes values room. ac_which plane blocks values room codes;
  dc_shown = λ plane blocks values room. shown (dc_which plane blocks values room);
  ac_shown = λ plane blocks codes values room. shown (ac_which plane blocks values room codes);
}
