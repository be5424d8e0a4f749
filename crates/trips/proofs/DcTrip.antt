-- What the rules write of a DC plane, the DC reader reads: one plane, and then k planes on a base. Assumes nothing.
use mathlib.Core.Path.{◌≡◌, refl, sym, ap, ◌∙◌}
use mathlib.Core.Bool.{Bool, true, false, not}
use mathlib.Core.List.{List, [], ◌∷◌, map}
use Rattle.std.specs.Prelude.{Some, None}
use Prim.Native.Nat.{ℕ, suc, ◌+◌, ◌-◌, ◌*◌, ◌/◌, ◌%◌, ◌≤◌, ◌<◌}
use native.Mathlib.Omega.{arith}
use lib.Dec.{eqb, ltb}
use lib.IntN.{ℤ, pos, negsuc}
use lib.ListN.{length, length-map}
use borrow.Author.Tests.{lt-ltb, le-leb, eqb-true, eq-eqb}
use Rattle.laws.specs.Index.{every}
use Rattle.answers.specs.Verdict.{given}
use Rattle.answers.proofs.Given.{need_given, unless_given, fitting_given_same, fits}
use Rattle.levels.specs.Level.{in_level, is_dc, first_outside}
use Rattle.levels.specs.declared.Part.TheVariants.{Dc}
use Rattle.bit_rules.specs.Digits.{bin, odd}
use Rattle.bit_rules.specs.Source.{Source, start}
use Rattle.bit_rules.specs.Gives.{Gives}
use Rattle.trips.proofs.Trip.{bytes_say, padding_left}
use Rattle.bit_rules.proofs.Digits.{bin_odd}
use Rattle.trips.proofs.CodeTrip.{halve}
use Rattle.plane_rules.specs.Plane.{readable, Writer, writable, read, onto, closed}
use Rattle.plane_rules.specs.Dc.{new_dc, dc_blocks, read_dc, dc_half, dc_bit, dc_bytes, written_dc}
use Rattle.plane_rules.specs.Levels.{downward, at_level, accepted, climb}
use Rattle.plane_rules.proofs.Ranges.{ranged, in_range}
use Rattle.plane_rules.proofs.Halves.{bit_up, bit_down}
use Rattle.trips.proofs.Closing.{closed_well}
use Rattle.plane_rules.proofs.Levels.{half_in, Halving, halves_inside, level_full, level_half, level_inside, climbed}

-- ---- one value

bin_not : (n : ℕ) → bin (not (odd n)) ≡ 1 - n % 2
bin_not n = go (odd n) (bin_odd n)
  where
    go : (b : Bool) → bin b ≡ n % 2 → bin (not b) ≡ 1 - n % 2
    go true e = omega arith
    go false e = omega arith

twice : (q : ℕ) (b : Bool) → new_dc (negsuc q) b ≡ negsuc (2 * q + 1 - bin b)
unfolding new_dc
twice q b =
    let e : 2 * suc q ≡ suc (2 * q + 1) = omega arith in
    let h : bin b ≤ 1 = small b in
    let l : ltb (bin b) (suc (2 * q + 1)) ≡ true = lt-ltb (bin b) (suc (2 * q + 1)) (omega arith) in
    let d : suc (2 * q + 1) - suc (bin b) ≡ 2 * q + 1 - bin b = omega arith in
    rw (e, l, d)
  where
    small : (c : Bool) → bin c ≤ 1
    small true = omega arith
    small false = omega arith

-- twice the half and the bit are the value
new_back : (x : ℤ) → new_dc (dc_half x) (dc_bit x) ≡ x
unfolding new_dc dc_half
new_back (pos n) = rw (bit_up n) (ap pos (omega (arith, bin_odd n)))
new_back (negsuc n) = rw (bit_down n) (twice (n / 2) (not (odd n)) ∙ ap negsuc (omega (arith, bin_not n)))

pub dc_halving : Halving Dc dc_half downward
unfolding dc_half downward in_level is_dc
dc_halving = record { whole = whole; again = again; lower = lower }
  where
    whole : (x : ℤ) → downward 0 x ≡ x
    whole (pos n) = ap pos (omega arith)
    whole (negsuc n) = ap negsuc (omega arith)

    again : (m : ℕ) (x : ℤ) → dc_half (downward m x) ≡ downward (suc m) x
    again m (pos n) = ap pos (sym (halve n m))
    again m (negsuc n) = ap negsuc (sym (halve n m))

    lower : (level i : ℕ) (x : ℤ) → in_level (is_dc Dc i) (suc level) x ≡ true → in_level (is_dc Dc i) level (dc_half x) ≡ true
    lower level i (pos n) e = half_in level n e
    lower level i (negsuc n) e = half_in level n e

-- ---- one plane

blocks_back : (values : List ℤ) (block : ℕ) (s u : Source) → Gives s (map dc_bit values) u → dc_blocks block (map dc_half values) s ≡ read values u
unfolding dc_blocks onto
blocks_back [] block s u g = rw g
blocks_back (x ∷ values) block s u g = rw (g.1, blocks_back values (suc block) g.0 u g.2, new_back x)

-- the bytes that the rules give for a plane, read over the halves, give the values
pub dc_trip : (plane blocks : ℕ) (values : List ℤ) (space : ℕ) → every (readable plane blocks) ≡ true → length values ≡ blocks → first_outside Dc plane values ≡ None → blocks ≤ space
    → read_dc plane blocks (map dc_half values) (dc_bytes values) space ≡ given values
unfolding read_dc
dc_trip plane blocks values space ranges count inside h =
    let s : Source = start (dc_bytes values) in
    let says = (bytes_say (map dc_bit values)).from s (refl, refl) in
    let u : Source = says.1 in
    let b : closed (dc_blocks 0 (map dc_half values) s) ≡ given values = closed_well values u _ (padding_left u says.0 says.4) (blocks_back values 0 s u says.3) in
    let l : eqb (length (map dc_half values)) blocks ≡ true = eq-eqb (length (map dc_half values)) blocks (length-map values dc_half ∙ count) in
    let below = halves_inside dc_halving plane values (ranged plane blocks ranges).low inside in
    rw (ranges, l, below, le-leb blocks space h) b

-- so whatever a writer accepts, the reader reads back from the halves
pub dc_accepted : (writer : Writer) (plane blocks : ℕ) (values : List ℤ) (room space : ℕ) (bytes : List ℕ) → written_dc writer plane blocks values room ≡ given bytes → blocks ≤ space
    → read_dc plane blocks (map dc_half values) bytes space ≡ given values
unfolding written_dc
dc_accepted writer plane blocks values room space bytes w h =
    let w20 = need_given (every (readable plane blocks)) 20 0 _ bytes w in
    let w28 = need_given (writable writer plane) 28 0 _ bytes w20.1 in
    let w21 = need_given (eqb (length values) blocks) 21 0 _ bytes w28.1 in
    let w11 = unless_given 11 (first_outside Dc plane values) _ bytes w21.1 in
    let same : dc_bytes values ≡ bytes = fitting_given_same room (dc_bytes values) bytes w11.1 in
    rw same at (dc_trip plane blocks values space w20.0 (eqb-true (length values) blocks w21.0) w11.0 h)

-- ---- the DC half of demand 3: k planes on the full values divided by 2^k

module _ (k blocks : ℕ) (few : k ≤ 4) (many : blocks ≤ 1024) (full : List ℤ) (count : length full ≡ blocks) (range : first_outside Dc k full ≡ None) where
  abbrev pub dc_plane : ℕ → List ℕ
  dc_plane j = dc_bytes (at_level downward k full j)

  -- each plane is accepted by a writer of its level
  pub dc_written_lem : (writer : Writer) (j room : ℕ) → writable writer (suc j) ≡ true → j < k → length (dc_plane (suc j)) ≤ room
      → written_dc writer (suc j) blocks (at_level downward k full (suc j)) room ≡ given (dc_plane (suc j))
  unfolding written_dc
  dc_written_lem writer j room w l fit =
      let values : List ℤ = at_level downward k full (suc j) in
      let c : eqb (length values) blocks ≡ true = eq-eqb (length values) blocks (length-map full (downward (k - suc j)) ∙ count) in
      rw (in_range (suc j) blocks (omega arith) (omega arith) many, w, c, level_inside dc_halving k full range (suc j) l) (fits room (dc_plane (suc j)) fit)

  -- and by the reader, over the values of the level below
  pub dc_read_lem : (j space : ℕ) → j < k → blocks ≤ space
      → read_dc (suc j) blocks (at_level downward k full j) (dc_plane (suc j)) space ≡ given (at_level downward k full (suc j))
  dc_read_lem j space l h =
      let values : List ℤ = at_level downward k full (suc j) in
      rw (level_half dc_halving k full j l)
      at (dc_trip (suc j) blocks values space (in_range (suc j) blocks (omega arith) (omega arith) many) (length-map full (downward (k - suc j)) ∙ count) (level_inside dc_halving k full range (suc j) l) h)

  -- after the first j planes each value is the full one divided by 2^(k-j), downward
  pub dc_climbed : (space : ℕ) → blocks ≤ space → (j : ℕ) → j ≤ k
      → climb (λ i values. accepted (read_dc i blocks values (dc_plane i) space)) j (at_level downward k full 0) ≡ Some (at_level downward k full j)
  dc_climbed space h =
      climbed (λ i values. accepted (read_dc i blocks values (dc_plane i) space)) (at_level downward k full) k
      (λ j l. rw (dc_read_lem j space l h))

  -- after all k it is the full value
  pub dc_full : at_level downward k full k ≡ full
  dc_full = level_full dc_halving k full
