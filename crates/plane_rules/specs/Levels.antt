-- The values of a lower level, and planes read one after another, for D3.
use Rattle.std.specs.Prelude.{List, map, ℕ, zero, suc, ◌-◌, ◌/◌, ◌^◌, ℤ, pos, negsuc, neg_ℤ, Option, Some, None}
use Rattle.answers.specs.Verdict.{Verdict, given, refused}

-- D3: divided by 2^m, downward (for DC): negsuc n is -(n+1)
unfoldable pub downward : ℕ → ℤ → ℤ
downward m (pos n) = pos (n / 2 ^ m)
downward m (negsuc n) = negsuc (n / 2 ^ m)

-- D3: divided by 2^m, toward zero (for AC)
unfoldable pub toward_zero : ℕ → ℤ → ℤ
toward_zero m (pos n) = pos (n / 2 ^ m)
toward_zero m (negsuc n) = neg_ℤ (pos (suc n / 2 ^ m))

-- D3: after the first j planes each value is the full one divided by 2^(k-j)
abbrev pub at_level : (ℕ → ℤ → ℤ) → ℕ → List ℤ → ℕ → List ℤ
at_level divide k full j = map (divide (k - j)) full

-- D3: what was handed out, if anything was
abbrev pub accepted : {A : Type 0} → Verdict A → Option (List A)
accepted (given ys) = Some ys
accepted (refused r) = None

-- D3: go on with what was accepted
abbrev pub if_some : {A : Type 0} → (A → Option A) → Option A → Option A
if_some next None = None
if_some next (Some a) = next a

-- D3: the planes 1 to j one after another, each read over what the one before it gave
unfoldable pub climb : {A : Type 0} → (ℕ → A → Option A) → ℕ → A → Option A
climb plane zero base = Some base
climb plane (suc j) base = if_some (plane (suc j)) (climb plane j base)
