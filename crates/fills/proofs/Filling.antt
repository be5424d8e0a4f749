-- The loops over pixels: behind p pixels, p places of each plane are the result's. Assumes nothing.
use mathlib.Core.Path.{◌≡◌, sym, ap}
use mathlib.Core.List.{List, ◌++◌}
use Prim.Native.Nat.{ℕ, ◌+◌, ◌<◌, ◌≤◌}
use native.Mathlib.Omega.{arith}
use lib.IntN.{ℤ}
use lib.ListN.{length, set, drop}
use Rattle.laws.proofs.Spread.{Spread, spread_start, spread_at, spread_turn, spread_end}
use Rattle.merge_rules.specs.declared.Setting.{Setting}
use Rattle.merge_rules.specs.Pixels.{single, triple, component}
use Rattle.merge_rules.specs.Settings.{samples}
use Rattle.merge_rules.specs.Picture.{merged_at, planes, merged_picture}

module _ (s : Setting) (n : ℕ) (base residual : List ℤ) (table : List ℕ) where
  -- the sample of component k of pixel p
  pub sample : ℕ → ℕ → ℕ
  sample k p = component k (merged_at s n base residual table p)

  module _ (d : List ℕ) where
    pub record Filling (e : List ℕ) (p : ℕ) : Type 0 where
      pub within : p ≤ n
      pub spread : Spread 0 s.components n sample d e p 0

    pub filling_start : Filling d 0
    filling_start = record { within = omega arith; spread = spread_start 0 s.components n sample d }

    module _ {e : List ℕ} {p : ℕ} (f : Filling e p) (room : samples s n ≤ length d) where
      pub filling_long : length e ≡ length d
      filling_long = f.spread.long

      pub filling_one : s.components ≡ 1 → p < n → (v : ℕ) → single v ≡ merged_at s n base residual table p → Filling (set e p v) (p + 1)
      unfolding sample component
      filling_one one h v g =
          record {
            within = omega arith;
            spread = spread_turn 0 s.components n sample d (spread_at 0 s.components n sample d f.spread h (omega arith) room p v (omega arith) (sym (ap (component 0) g))) (omega arith);
          }

      pub filling_three : s.components ≡ 3 → p < n → (a b c : ℕ) → triple a b c ≡ merged_at s n base residual table p
          → Filling (set (set (set e p a) (n + p) b) (n + n + p) c) (p + 1)
      unfolding sample component
      filling_three three h a b c g =
          let x = spread_at 0 s.components n sample d f.spread h (omega arith) room p a (omega arith) (sym (ap (component 0) g)) in
          let y = spread_at 0 s.components n sample d x h (omega arith) room (n + p) b (omega arith) (sym (ap (component 1) g)) in
          let z = spread_at 0 s.components n sample d y h (omega arith) room (n + n + p) c (omega arith) (sym (ap (component 2) g)) in
          record { within = omega arith; spread = spread_turn 0 s.components n sample d z (omega arith) }

      pub filling_end : n ≤ p → e ≡ merged_picture s n base residual table ++ drop (samples s n) d
      unfolding merged_picture planes sample
      filling_end h = spread_end 0 s.components n sample d f.spread h room
