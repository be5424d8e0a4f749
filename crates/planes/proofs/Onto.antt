-- Values put in front of those of a plane: none, and twice. Assumes nothing.
use mathlib.Core.Path.{◌≡◌, refl, sym, ap}
use mathlib.Core.List.{List, [], ◌++◌, append_assoc}
use lib.IntN.{ℤ}
use Rattle.plane_rules.specs.Plane.{Plane, read, refusing, onto}

pub onto_none : (p : Plane) → onto [] p ≡ p
unfolding onto
onto_none (read vs s) = refl
onto_none (refusing r) = refl

pub onto_onto : (vs ws : List ℤ) (p : Plane) → onto vs (onto ws p) ≡ onto (vs ++ ws) p
unfolding onto
onto_onto vs ws (read us s) = ap (λ (l : List ℤ). read l s) (sym (append_assoc vs ws us))
onto_onto vs ws (refusing r) = refl
