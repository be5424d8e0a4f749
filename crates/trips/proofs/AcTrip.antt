-- What the rules write of an AC plane, the AC reader reads: one plane, and then k planes on a base. Assumes nothing.
use mathlib.Core.Path.{◌≡◌, refl, sym, ap, ◌∙◌}
use mathlib.Core.Bool.{true}
use mathlib.Core.List.{List, [], ◌∷◌, map}
use Rattle.std.specs.Prelude.{None}
use Prim.Native.Nat.{ℕ, zero, suc, ◌-◌, ◌*◌, ◌/◌, ◌^◌, ◌≤◌, ◌<◌}
use native.Mathlib.Omega.{arith}
use lib.Dec.{eqb}
use lib.IntN.{ℤ, pos, negsuc, neg_ℤ}
use lib.ListN.{length, take, drop, length-map, length-drop, take-append-drop}
use borrow.Author.Tests.{le-leb, eqb-true, eq-eqb}
use Rattle.laws.specs.Index.{every}
use Rattle.laws.proofs.Integers.{abs_neg}
use Rattle.answers.specs.Verdict.{given}
use Rattle.answers.proofs.Given.{need_given, unless_given, fitting_given_same, fits}
use Rattle.levels.specs.Level.{in_level, is_dc, first_outside}
use Rattle.levels.specs.declared.Part.TheVariants.{Ac}
use Rattle.bit_rules.specs.Source.{Source, start}
use Rattle.trips.proofs.Trip.{bytes_say, padding_left}
use Rattle.bit_rules.specs.Table.{Table, good_table}
use Rattle.trips.proofs.CodeTrip.{halve}
use Rattle.plane_rules.specs.Plane.{readable, Writer, writable, read, closed}
use Rattle.plane_rules.specs.AcRead.{cut, ac_blocks, read_ac}
use Rattle.plane_rules.specs.AcWrite.{ac_half, Token, tokens, lacking, spelled, ac_bytes, written_ac}
use Rattle.plane_rules.specs.Levels.{toward_zero, at_level}
use Rattle.plane_rules.proofs.Ranges.{ranged, in_range}
use Rattle.trips.proofs.Closing.{closed_well}
use Rattle.plane_rules.proofs.Levels.{half_in, Halving, halves_inside, level_full, level_half, level_inside}
use Rattle.trips.proofs.AcTokens.{spelled_gives, joined, blocks_back}

-- ---- one plane

map_take : {A B : Type 0} (f : A → B) (i : ℕ) (l : List A) → take i (map f l) ≡ map f (take i l)
map_take f zero l = refl
map_take f (suc i) [] = refl
map_take f (suc i) (x ∷ l) = ap (λ r. f x ∷ r) (map_take f i l)

map_drop : {A B : Type 0} (f : A → B) (i : ℕ) (l : List A) → drop i (map f l) ≡ map f (drop i l)
map_drop f zero l = refl
map_drop f (suc i) [] = refl
map_drop f (suc i) (x ∷ l) = map_drop f i l

cut_map : (f : ℤ → ℤ) (n : ℕ) (values : List ℤ) → cut n (map f values) ≡ map (map f) (cut n values)
unfolding cut
cut_map f zero values = refl
cut_map f (suc n) values = rw (map_take f 63 values, map_drop f 63 values, cut_map f n (drop 63 values))

length_cut : (n : ℕ) (values : List ℤ) → length (cut n values) ≡ n
unfolding cut
length_cut zero values = refl
length_cut (suc n) values = ap suc (length_cut n (drop 63 values))

empty_list : (values : List ℤ) → length values ≡ 0 → values ≡ []
empty_list [] e = refl
empty_list (x ∷ values) e = absurd (omega arith)

joined_cut : (n : ℕ) (values : List ℤ) → length values ≡ 63 * n → joined (cut n values) ≡ values
unfolding cut joined
joined_cut zero values e = sym (empty_list values (omega arith))
joined_cut (suc n) values e = rw (joined_cut n (drop 63 values) (omega (arith, length-drop 63 values))) (take-append-drop 63 values)

pub ac_halving : Halving Ac ac_half toward_zero
unfolding ac_half toward_zero in_level is_dc
ac_halving = record { whole = whole; again = again; lower = lower }
  where
    whole : (x : ℤ) → toward_zero 0 x ≡ x
    whole (pos n) = ap pos (omega arith)
    whole (negsuc n) = let e : suc n / 1 ≡ suc n = omega arith in rw e

    half_neg : (q : ℕ) → ac_half (neg_ℤ (pos q)) ≡ neg_ℤ (pos (q / 2))
    half_neg zero = refl
    half_neg (suc q) = refl

    again : (m : ℕ) (x : ℤ) → ac_half (toward_zero m x) ≡ toward_zero (suc m) x
    again m (pos n) = ap pos (sym (halve n m))
    again m (negsuc n) = half_neg (suc n / 2 ^ m) ∙ ap (λ (q : ℕ). neg_ℤ (pos q)) (sym (halve (suc n) m))

    lower : (level i : ℕ) (x : ℤ) → in_level (is_dc Ac i) (suc level) x ≡ true → in_level (is_dc Ac i) level (ac_half x) ≡ true
    lower level i (pos n) e = half_in level n e
    lower level i (negsuc n) e = rw (abs_neg (pos (suc n / 2))) (half_in level (suc n) e)

-- the bytes that the rules give for a plane, with a table that lacks no code of it, read over the halves, give the values
pub ac_trip : (plane blocks : ℕ) (T : Table) (values : List ℤ) (space : ℕ) → every (readable plane blocks) ≡ true → length values ≡ 63 * blocks → good_table T ≡ true → first_outside Ac plane values ≡ None
    → lacking T (tokens blocks values) ≡ None → 63 * blocks ≤ space → read_ac plane blocks T (map ac_half values) (ac_bytes blocks T values) space ≡ given values
unfolding read_ac tokens
ac_trip plane blocks T values space ranges count good inside codes h =
    let p = ranged plane blocks ranges in
    let ws : List Token = tokens blocks values in
    let s : Source = start (ac_bytes blocks T values) in
    let says = (bytes_say (spelled T ws)).from s (refl, refl) in
    let u : Source = says.1 in
    let b : ac_blocks T 0 None (map (map ac_half) (cut blocks values)) s ≡ read (joined (cut blocks values)) u =
    blocks_back T 0 (cut blocks values) None s u tt (omega (arith, length_cut blocks values, p.few)) (spelled_gives T good ws s u codes says.3) in
    let c : closed (ac_blocks T 0 None (cut blocks (map ac_half values)) s) ≡ given values =
    rw (cut_map ac_half blocks values) (closed_well values u _ (padding_left u says.0 says.4) (b ∙ ap (λ (l : List ℤ). read l u) (joined_cut blocks values count))) in
    let l : eqb (length (map ac_half values)) (63 * blocks) ≡ true = eq-eqb (length (map ac_half values)) (63 * blocks) (length-map values ac_half ∙ count) in
    rw (ranges, l, good, halves_inside ac_halving plane values p.low inside, le-leb (63 * blocks) space h) c

-- so whatever a writer accepts, the reader reads back from the halves
pub ac_accepted : (writer : Writer) (plane blocks : ℕ) (T : Table) (values : List ℤ) (room space : ℕ) (bytes : List ℕ) → written_ac writer plane blocks T values room ≡ given bytes → 63 * blocks ≤ space
    → read_ac plane blocks T (map ac_half values) bytes space ≡ given values
unfolding written_ac
ac_accepted writer plane blocks T values room space bytes w h =
    let w20 = need_given (every (readable plane blocks)) 20 0 _ bytes w in
    let w28 = need_given (writable writer plane) 28 0 _ bytes w20.1 in
    let w21 = need_given (eqb (length values) (63 * blocks)) 21 0 _ bytes w28.1 in
    let w10 = need_given (good_table T) 10 0 _ bytes w21.1 in
    let w11 = unless_given 11 (first_outside Ac plane values) _ bytes w10.1 in
    let w19 = unless_given 19 (lacking T (tokens blocks values)) _ bytes w11.1 in
    let same : ac_bytes blocks T values ≡ bytes = fitting_given_same room (ac_bytes blocks T values) bytes w19.1 in
    rw same at (ac_trip plane blocks T values space w20.0 (eqb-true (length values) (63 * blocks) w21.0) w10.0 w11.0 w19.0 h)

-- ---- the AC half of demand 3: k planes on the full values divided by 2^k

module _ (k blocks : ℕ) (few : k ≤ 4) (many : blocks ≤ 1024) (full : List ℤ) (count : length full ≡ 63 * blocks) (range : first_outside Ac k full ≡ None) where
  -- each plane is accepted by a writer of its level, with a table that holds every code needed
  module _ (T : Table) (j : ℕ) (l : j < k) (table : good_table T ≡ true) (codes : lacking T (tokens blocks (at_level toward_zero k full (suc j))) ≡ None) where
    pub ac_written_lem : (writer : Writer) (room : ℕ) → writable writer (suc j) ≡ true → length (ac_bytes blocks T (at_level toward_zero k full (suc j))) ≤ room
        → written_ac writer (suc j) blocks T (at_level toward_zero k full (suc j)) room ≡ given (ac_bytes blocks T (at_level toward_zero k full (suc j)))
    unfolding written_ac
    ac_written_lem writer room w fit =
        let values : List ℤ = at_level toward_zero k full (suc j) in
        let c : eqb (length values) (63 * blocks) ≡ true = eq-eqb (length values) (63 * blocks) (length-map full (toward_zero (k - suc j)) ∙ count) in
        rw (in_range (suc j) blocks (omega arith) (omega arith) many, w, c, table, level_inside ac_halving k full range (suc j) l, codes) (fits room (ac_bytes blocks T values) fit)

    -- and by the reader, over the values of the level below
    pub ac_read_lem : (space : ℕ) → 63 * blocks ≤ space
        → read_ac (suc j) blocks T (at_level toward_zero k full j) (ac_bytes blocks T (at_level toward_zero k full (suc j))) space ≡ given (at_level toward_zero k full (suc j))
    ac_read_lem space h =
        let values : List ℤ = at_level toward_zero k full (suc j) in
        rw (level_half ac_halving k full j l)
        at (ac_trip (suc j) blocks T values space (in_range (suc j) blocks (omega arith) (omega arith) many) (length-map full (toward_zero (k - suc j)) ∙ count) table (level_inside ac_halving k full range (suc j) l) codes h)

  -- after all k it is the full value
  pub ac_full : at_level toward_zero k full k ≡ full
  ac_full = level_full ac_halving k full
