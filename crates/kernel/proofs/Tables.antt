-- The source's table is the kernel of the definitions, entry by entry, and so none is beyond 8192. Assumes nothing.
use mathlib.Core.Path.{◌≡◌, refl, ap, subst, ◌∙◌}
use mathlib.Core.List.{List, [], ◌∷◌}
use Prim.Native.Nat.{ℕ, ◌+◌, ◌*◌, ◌/◌, ◌%◌, ◌<◌, ◌≤◌}
use native.Mathlib.Omega.{arith}
use lib.Dec.{leb, leb→le}
use lib.ListN.{length, get_or}
use lib.IntN.{ℤ, pos, negsuc, nat_abs}
use lib.Arith.{digits_div, digits_mod}
use Rattle.laws.specs.Index.{tab}
use Rattle.laws.proofs.Lists.{length_tab, get_or_tab, each}
use Rattle.transform_rules.specs.Cosines.{nine_cosines, half_turn, full_turn, kernel, kernel_table}

-- K(x,u) at 8x + u
abbrev pub kernels : List ℤ
kernels =
    pos 5793 ∷ pos 8035 ∷ pos 7568 ∷ pos 6811 ∷ pos 5793 ∷ pos 4551 ∷ pos 3135 ∷ pos 1598
    ∷ pos 5793 ∷ pos 6811 ∷ pos 3135 ∷ negsuc 1597 ∷ negsuc 5792 ∷ negsuc 8034 ∷ negsuc 7567 ∷ negsuc 4550
    ∷ pos 5793 ∷ pos 4551 ∷ negsuc 3134 ∷ negsuc 8034 ∷ negsuc 5792 ∷ pos 1598 ∷ pos 7568 ∷ pos 6811
    ∷ pos 5793 ∷ pos 1598 ∷ negsuc 7567 ∷ negsuc 4550 ∷ pos 5793 ∷ pos 6811 ∷ negsuc 3134 ∷ negsuc 8034
    ∷ pos 5793 ∷ negsuc 1597 ∷ negsuc 7567 ∷ pos 4551 ∷ pos 5793 ∷ negsuc 6810 ∷ negsuc 3134 ∷ pos 8035
    ∷ pos 5793 ∷ negsuc 4550 ∷ negsuc 3134 ∷ pos 8035 ∷ negsuc 5792 ∷ negsuc 1597 ∷ pos 7568 ∷ negsuc 6810
    ∷ pos 5793 ∷ negsuc 6810 ∷ pos 3135 ∷ pos 1598 ∷ negsuc 5792 ∷ pos 8035 ∷ negsuc 7567 ∷ pos 4551
    ∷ pos 5793 ∷ negsuc 8034 ∷ pos 7568 ∷ negsuc 6810 ∷ pos 5793 ∷ negsuc 4550 ∷ pos 3135 ∷ negsuc 1597 ∷ []

pub kernels_are : kernels ≡ kernel_table
unfolding kernel_table tab kernel full_turn half_turn nine_cosines
kernels_are = refl

pub table_long : length kernel_table ≡ 64
unfolding kernel_table
table_long = length_tab 64 _

module _ (x u : ℕ) (hx : x < 8) (hu : u < 8) where
  pub kernel_at : get_or kernel_table (x * 8 + u) (pos 0) ≡ kernel x u
  unfolding kernel_table
  kernel_at =
      get_or_tab 64 (λ k. kernel (k / 8) (k % 8)) (pos 0) (x * 8 + u) (omega arith)
      ∙ rw (digits_div x hu, digits_mod x hu)

  pub kernel_small : nat_abs (kernel x u) ≤ 8192
  kernel_small =
      subst (λ (z : ℤ). nat_abs z ≤ 8192) (ap (λ (l : List ℤ). get_or l (x * 8 + u) (pos 0)) kernels_are ∙ kernel_at)
      (leb→le _ 8192 (each 64 (λ k. leb (nat_abs (get_or kernels k (pos 0))) 8192) tt (x * 8 + u) (omega arith)))
