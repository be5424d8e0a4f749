-- Steps 1 to 3 over a single number, and steps 1 and 2 over three. Assumes nothing.
use mathlib.Core.Path.{◌≡◌, refl}
use mathlib.Core.List.{List}
use Prim.Native.Nat.{ℕ}
use lib.IntN.{ℤ}
use Rattle.merge_rules.specs.Near.{clip, top}
use Rattle.merge_rules.specs.Curves.{curved}
use Rattle.merge_rules.specs.declared.Setting.{Setting}
use Rattle.merge_rules.specs.declared.Colour.{Colour}
use Rattle.merge_rules.specs.declared.Colour.TheVariants.{Identity, Transform}
use Rattle.merge_rules.specs.declared.Matrix.{Matrix}
use Rattle.merge_rules.specs.declared.Matrix.TheVariants.{None, On}
use Rattle.merge_rules.specs.Pixels.{Pixel, single, triple, each}
use Rattle.merge_rules.specs.Steps.{transform, recolour, first_centre, step_one, step_two, matrixed, step_three, basis}

-- ---- over a single number

pub recolour_single : (how : Colour) (centre y : ℤ) → recolour how centre (single y) ≡ single y
unfolding recolour transform
recolour_single Identity centre y = refl
recolour_single Transform centre y = refl

matrixed_single : (m : Matrix) (ws : List ℤ) (a : ℤ) → matrixed m ws (single a) ≡ single a
unfolding matrixed
matrixed_single None ws a = refl
matrixed_single On ws a = refl

pub basis_single : (s : Setting) (table : List ℕ) (y : ℤ) → basis s table (single y) ≡ single (curved s.curve s.rb s.rh table (clip y (top s.rh)))
unfolding basis step_one step_two step_three each
basis_single s table y = rw (recolour_single s.base_transform (first_centre s.rh) y) (matrixed_single s.matrix s.weights _)

-- ---- steps 1 and 2 over three numbers

pub two_steps : (s : Setting) (table : List ℕ) (p : Pixel ℤ) (a b c : ℤ) → triple a b c ≡ recolour s.base_transform (first_centre s.rh) p
    → triple (curved s.curve s.rb s.rh table (clip a (top s.rh))) (curved s.curve s.rb s.rh table (clip b (top s.rh))) (curved s.curve s.rb s.rh table (clip c (top s.rh)))
    ≡ step_two s table (step_one s p)
unfolding step_one step_two each
two_steps s table p a b c e = rw (← e)
