-- The loop that puts the bits of DC values. Assumes nothing.
use mathlib.Core.Path.{◌≡◌}
use mathlib.Core.Bool.{Bool}
use mathlib.Core.List.{List, [], ◌∷◌, map}
use Prim.Native.Nat.{ℕ, ◌+◌, ◌≤◌, ◌<◌}
use native.Mathlib.Numerals.{add-one}
use lib.IntN.{ℤ, pos}
use lib.ListN.{length, get_or, drop, drop_of_length-le}
use lib.Seq.{drop-cons}
use Rattle.bit_putter.specs.Code.{Puts}
use Rattle.bit_putter.specs.declared.Putter.{Putter}
use Rattle.bit_putter.proofs.Putting.{Going, going_turn, going_end}
use Rattle.plane_rules.specs.Dc.{dc_bit}

module _ {before memory : List ℕ} {p q : Putter} (values : List ℤ) (i : ℕ) {all : List Bool} (g : Going before memory p q (map dc_bit (drop i values)) all) where
  pub bits_turn : {after : List ℕ} {r : Putter} {b : Bool} → i < length values → b ≡ dc_bit (get_or values i (pos 0)) → Puts memory after q r (b ∷ [])
      → Going before after p r (map dc_bit (drop (i + 1) values)) all
  bits_turn h e f =
      let next : drop i values ≡ get_or values i (pos 0) ∷ drop (i + 1) values = rw (add-one i) (drop-cons values i (pos 0) h) in
      going_turn (dc_bit (get_or values i (pos 0)) ∷ []) (map dc_bit (drop (i + 1) values)) (rw next at g) (rw e at f)

  pub bits_end : length values ≤ i → Puts before memory p q all
  bits_end h = going_end (rw (drop_of_length-le values h) at g)
