-- T7: the kernel K(x,u) from nine cosines.
use Rattle.std.specs.Prelude.{cond, List, [], ◌∷◌, ℕ, zero, suc, ◌+◌, ◌-◌, ◌*◌, ◌/◌, ◌%◌, leb, ℤ, pos, neg_ℤ, get_or}
use Rattle.laws.specs.Index.{tab}

-- T7: "these values of cos(m pi/16), m = 0 to 8"
unfoldable pub nine_cosines : List ℕ
nine_cosines = 8192 ∷ 8035 ∷ 7568 ∷ 6811 ∷ 5793 ∷ 4551 ∷ 3135 ∷ 1598 ∷ 0 ∷ []

-- T7: m = 0 to 16, by cos(pi - a) = -cos(a)
unfoldable pub half_turn : ℕ → ℤ
half_turn m = cond (leb m 8) (pos (get_or nine_cosines m 0)) (neg_ℤ (pos (get_or nine_cosines (16 - m) 0)))

-- T7: m = 0 to 32, by cos(2 pi - a) = cos(a)
unfoldable pub full_turn : ℕ → ℤ
full_turn m = cond (leb m 16) (half_turn m) (half_turn (32 - m))

-- T7: "Let K(x,0) = 5793 and, for u from 1 to 7, K(x,u) be cos((2x+1)u pi/16) taken by symmetry"
unfoldable pub kernel : ℕ → ℕ → ℤ
kernel x zero = pos 5793
kernel x (suc u) = full_turn ((2 * x + 1) * suc u % 32)

-- T7: all of it, K(x,u) at 8x + u
unfoldable pub kernel_table : List ℤ
kernel_table = tab 64 (λ k. kernel (k / 8) (k % 8))
