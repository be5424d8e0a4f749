-- What the samples of a preview owe: a value, a block's sum, a sample; that each preview is handed out; the short form and the reached bound. Assumes nothing.
use mathlib.Core.Path.{◌≡◌, refl, sym, ap, ap₂, subst, ◌∙◌}
use mathlib.Core.Bool.{true}
use mathlib.Core.List.{List, ◌∷◌, ◌++◌, map}
use Prim.Native.Nat.{ℕ, zero, suc, ◌+◌, ◌-◌, ◌*◌, ◌/◌, ◌%◌, ◌^◌, ◌≤◌, ◌<◌}
use native.Mathlib.Nat.{le_trans, div-add-mod, mod-lt, zero-div, mul-le-mul_left, mul-le-mul_right, pow-suc}
use native.Mathlib.Omega.{arith}
use borrow.Author.Tests.{eq-eqb, ne_eqb, le-leb}
use lib.Arith.{digits_div, digits_mod}
use lib.Dec.{leb, eqb, leb→le}
use lib.IntN.{ℤ, pos, negsuc, nat_abs, ◌+ℤ◌, ◌*ℤ◌}
use lib.ListN.{length, get_or, get_or-map, get_or-append}
use lib.Pow.{pow_pos, pow-add}
use lib.Seq.{get_or-append-add, ext_get_or}
use lib.Signed.{shr_z}
use Rattle.laws.specs.Index.{sum_to, total_to, tab, join_to, every}
use Rattle.laws.specs.Apart.{apart, apart_rounded}
use Rattle.std.specs.Prelude.{None}
use Rattle.laws.proofs.Apart.{apart_pos, apart_neg, apart_term, apart_sum, sum_apart, rounds_half, rounded_alike, rounded_rises}
use Rattle.laws.proofs.First.{all_pass}
use Rattle.laws.proofs.Lists.{length_tab, get_or_tab, tab_ext, join_length, join_ext, join_front, each}
use Rattle.laws.proofs.Spread.{get_or_join}
use Rattle.laws.proofs.Totals.{total_le}
use Rattle.levels.specs.Level.{in_level, is_dc, inside, first_outside}
use Rattle.levels.specs.declared.Part.TheVariants.{Dc, Ac, Whole}
use Rattle.levels.proofs.Ranges.{all_inside}
use Rattle.plane_rules.specs.Levels.{downward, toward_zero}
use Rattle.transform_rules.specs.Cosines.{nine_cosines, half_turn, full_turn, kernel}
use Rattle.transform_rules.specs.Zigzag.{first_row, last_row, places_before, zigzag}
use Rattle.transform_rules.specs.Picture.{picture}
use Rattle.transform_rules.proofs.Lengths.{picture_length, zigzag_below}
use Rattle.preview_rules.specs.Owed.{weight, owed}
use Rattle.demands.specs.Two.{sample_at}
use Rattle.demands.specs.Three.{Both, Within, level_of}
use Rattle.demands.specs.Preview.{whole, LaidOut, Previewed, Sound, SamplesOwe, PreviewsAreGiven, OwedByLargest, OwedFalls, OwedIsReached}
use Rattle.demands.proofs.Three.{demand_three, can_be_met}
use Rattle.demands.proofs.Values.{samples_are}

-- ---- a value

module _ (m : ℕ) where
  abbrev d : ℕ
  d = 2 ^ m

  down_near : (z : ℤ) → apart d z (downward m z) ≤ d - 1
  unfolding downward
  down_near (pos n) = apart_pos d (d - 1) n (n / d) (omega (arith, div-add-mod n d, mod-lt n (pow_pos m))) (omega (arith, div-add-mod n d))
  down_near (negsuc n) = apart_neg d (d - 1) (suc n) (suc (n / d)) (omega (arith, div-add-mod n d, mod-lt n (pow_pos m))) (omega (arith, div-add-mod n d))

  zero_near : (z : ℤ) → apart d z (toward_zero m z) ≤ d - 1
  unfolding toward_zero downward
  zero_near (pos n) = down_near (pos n)
  zero_near (negsuc n) =
      apart_neg d (d - 1) (suc n) (suc n / d) (omega (arith, div-add-mod (suc n) d, mod-lt (suc n) (pow_pos m))) (omega (arith, div-add-mod (suc n) d))

  down_none : downward m (pos 0) ≡ pos 0
  unfolding downward
  down_none = ap pos (zero-div (2 ^ m))

  toward_none : toward_zero m (pos 0) ≡ pos 0
  unfolding toward_zero
  toward_none = ap pos (zero-div (2 ^ m))

-- ---- the values of a block

mapped : (f : ℤ → ℤ) → f (pos 0) ≡ pos 0 → (l : List ℤ) (i : ℕ) → get_or (map f l) i (pos 0) ≡ f (get_or l i (pos 0))
mapped f e l i = ap (λ (z : ℤ). get_or (map f l) i z) (sym e) ∙ get_or-map f l i (pos 0)

module _ (n : ℕ) (values : Both ℤ) where
  of_block : ℕ → List ℤ
  of_block block = get_or values.dc block (pos 0) ∷ tab 63 (λ i. get_or values.ac (block * 63 + i) (pos 0))

  block_long : (block : ℕ) → length (of_block block) ≡ 64
  unfolding of_block
  block_long block = ap suc (length_tab 63 (λ i. get_or values.ac (block * 63 + i) (pos 0)))

  whole_dc : (block : ℕ) → block < n → get_or (whole n values) (block * 64 + 0) (pos 0) ≡ get_or values.dc block (pos 0)
  unfolding whole of_block
  whole_dc block h = get_or_join (pos 0) 64 n of_block block_long block 0 h (omega arith)

  whole_ac : (block i : ℕ) → block < n → i < 63 → get_or (whole n values) (block * 64 + suc i) (pos 0) ≡ get_or values.ac (block * 63 + i) (pos 0)
  unfolding whole of_block
  whole_ac block i h l = get_or_join (pos 0) 64 n of_block block_long block (suc i) h (omega arith) ∙ get_or_tab 63 (λ i. get_or values.ac (block * 63 + i) (pos 0)) (pos 0) i l

-- a table of 63 that reads a list of 63 is that list
table_of : (l rest : List ℤ) → length l ≡ 63 → tab 63 (λ i. get_or (l ++ rest) (0 * 63 + i) (pos 0)) ≡ l
table_of l rest e =
    ext_get_or (pos 0) _ _ (length_tab 63 _ ∙ sym e)
    (λ i h. get_or_tab 63 (λ i. get_or (l ++ rest) (0 * 63 + i) (pos 0)) (pos 0) i (omega (arith, length_tab 63 (λ i. get_or (l ++ rest) (0 * 63 + i) (pos 0))))
    ∙ get_or-append l rest (pos 0) (0 * 63 + i) (omega (arith, length_tab 63 (λ i. get_or (l ++ rest) (0 * 63 + i) (pos 0))))
    ∙ ap (λ (k : ℕ). get_or l k (pos 0)) (omega arith))

behind : (l rest : List ℤ) (b i : ℕ) → length l ≡ 63 → get_or (l ++ rest) (suc b * 63 + i) (pos 0) ≡ get_or rest (b * 63 + i) (pos 0)
behind l rest b i e =
    let k : suc b * 63 + i ≡ length l + (b * 63 + i) = omega arith in
    ap (λ (j : ℕ). get_or (l ++ rest) j (pos 0)) k ∙ get_or-append-add l rest (b * 63 + i) (pos 0)

pub laid_out_lem : LaidOut
unfolding whole join_to
laid_out_lem = record {
  none = λ values. refl;
  next = λ n dc dcs block acs long.
      join_front n _
      ∙ ap₂ (λ (first rest : List ℤ). (dc ∷ first) ++ rest) (table_of block acs long)
      (join_ext n _ _ (λ b h. ap (λ (l : List ℤ). get_or dcs b (pos 0) ∷ l) (tab_ext 63 _ _ (λ i l. behind block acs b i long))));
}

module _ (k j n : ℕ) (full : Both ℤ) (block : ℕ) (h : block < n) where
  -- D3's division lacks at most 2^(k-j) - 1
  value_near : (p : ℕ) → p < 64
      → apart (2 ^ (k - j)) (get_or (whole n full) (block * 64 + p) (pos 0)) (get_or (whole n (level_of k full j)) (block * 64 + p) (pos 0)) ≤ 2 ^ (k - j) - 1
  unfolding level_of
  value_near zero l =
      rw (whole_dc n full block h, whole_dc n (level_of k full j) block h, mapped (downward (k - j)) (down_none (k - j)) full.dc block)
      (down_near (k - j) (get_or full.dc block (pos 0)))
  value_near (suc i) l =
      rw (whole_ac n full block i h (omega arith), whole_ac n (level_of k full j) block i h (omega arith), mapped (toward_zero (k - j)) (toward_none (k - j)) full.ac (block * 63 + i))
      (zero_near (k - j) (get_or full.ac (block * 63 + i) (pos 0)))

-- ---- a sample

-- the centre of the full picture is 2^m times the preview's
centres : (m j : ℕ) → apart (2 ^ m) (pos (2 ^ (7 + (m + j)))) (pos (2 ^ (7 + j))) ≤ 0
centres m j =
    let s : 7 + (m + j) ≡ m + (7 + j) = omega arith in
    let e : 2 ^ (7 + (m + j)) ≡ 2 ^ m * 2 ^ (7 + j) = ap (λ i. 2 ^ i) s ∙ pow-add 2 m (7 + j) in
    apart_pos (2 ^ m) 0 (2 ^ (7 + (m + j))) (2 ^ (7 + j)) (omega arith) (omega arith)

module _ (k j n : ℕ) (full : Both ℤ) (quantisers : List ℕ) (block y x : ℕ) (below : j ≤ k) (h : block < n) where
  -- the sum of a sample
  sum_of : List ℤ → ℤ
  sum_of values = sum_to 8 (λ v. sum_to 8 (λ u. kernel x u *ℤ kernel y v *ℤ (get_or values (block * 64 + zigzag v u) (pos 0) *ℤ pos (get_or quantisers (zigzag v u) 0))))

  sums_near : apart (2 ^ (k - j)) (sum_of (whole n full)) (sum_of (whole n (level_of k full j))) ≤ (2 ^ (k - j) - 1) * weight quantisers y x
  unfolding sum_of weight
  sums_near =
      let d = 2 ^ (k - j) in
      sum_apart d (d - 1) 8 _ _ _
      (λ v hv. sum_apart d (d - 1) 8 _ _ _
      (λ u hu. apart_term d (d - 1) (kernel x u *ℤ kernel y v) (get_or (whole n full) (block * 64 + zigzag v u) (pos 0)) (get_or (whole n (level_of k full j)) (block * 64 + zigzag v u) (pos 0)) (get_or quantisers (zigzag v u) 0) (value_near k j n full block h (zigzag v u) (zigzag_below v u hv hu))))

  sample_near : apart (2 ^ (k - j)) (sample_at k (whole n full) quantisers block y x) (sample_at j (whole n (level_of k full j)) quantisers block y x) ≤ owed (k - j) quantisers y x
  unfolding sum_of owed
  sample_near =
      let d = 2 ^ (k - j) in
      let a = sum_of (whole n full) in
      let b = sum_of (whole n (level_of k full j)) in
      let e : k - j + j ≡ k = omega arith in
      let c : apart d (pos (2 ^ (7 + k))) (pos (2 ^ (7 + j))) ≤ 0 = rw e at (centres (k - j) j) in
      omega (arith, apart_sum d (shr_z (a +ℤ pos (2 ^ 27)) (2 ^ 28)) (shr_z (b +ℤ pos (2 ^ 27)) (2 ^ 28)) (pos (2 ^ (7 + k))) (pos (2 ^ (7 + j))), c, rounded_alike d ((d - 1) * weight quantisers y x) (2 ^ 28) a b _ _ (pow_pos (k - j)) (omega arith) (rounds_half a (2 ^ 27) (omega arith)) (rounds_half b (2 ^ 27) (omega arith)) sums_near)

pub samples_owe : SamplesOwe
samples_owe k j n values quantisers preview full both block y x h hy hx =
    rw (
      samples_are k n (whole n values) quantisers both.full_room full both.finished block y x h hy hx,
      samples_are j n (whole n (level_of k values j)) quantisers both.room preview both.shown block y x h hy hx,
    )
    (sample_near k j n values quantisers block y x both.fewer h)

-- ---- every preview is handed out

module _ (level n : ℕ) (values : Both ℤ) (few : level ≤ 4) (a : Within level n values) where
  whole_long : length (whole n values) ≡ n * 64
  unfolding whole of_block
  whole_long = join_length 64 n (of_block n values) (block_long n values)

  one_inside : (block p : ℕ) → block < n → p < 64 → in_level (eqb p 0) level (get_or (whole n values) (block * 64 + p) (pos 0)) ≡ true
  unfolding is_dc
  one_inside block zero h l = rw (whole_dc n values block h) (all_inside Dc level values.dc few a.dc_range block (omega (arith, a.dc_count)))
  one_inside block (suc i) h l =
      rw (ne_eqb (suc i) 0 (λ e. omega arith), whole_ac n values block i h (omega arith)) (all_inside Ac level values.ac few a.ac_range (block * 63 + i) (omega (arith, a.ac_count)))

  whole_inside : first_outside Whole level (whole n values) ≡ None
  unfolding first_outside inside is_dc
  whole_inside =
      all_pass (length (whole n values)) (inside Whole level (whole n values))
      (λ i h.
      let e : i / 64 * 64 + i % 64 ≡ i = omega arith in
      subst (λ (s : ℕ). in_level (eqb (i % 64) 0) level (get_or (whole n values) s (pos 0)) ≡ true) e
      (one_inside (i / 64) (i % 64) (omega (arith, whole_long)) (omega arith)))

pub previews_are_given : PreviewsAreGiven
unfolding every
previews_are_given k j n full quantisers room few below a fits =
    let values = whole n (level_of k full j) in
    let b : Within j n (level_of k full j) = (demand_three k n full (λ i. (can_be_met n (level_of k full i)).0) few a.within (λ i _ _. (can_be_met n (level_of k full i)).1)).within j below in
    let few' : j ≤ 4 = omega arith in
    record {
      counts = rw (le-leb j 4 few', le-leb n 1024 a.within.few);
      lengths = rw (eq-eqb (length values) (n * 64) (whole_long j n (level_of k full j) few' b), eq-eqb (length quantisers) 64 a.long);
      quantised = a.quantised;
      ranged = whole_inside j n (level_of k full j) few' b;
      samples = refl;
      fits = omega (arith, picture_length j n values quantisers);
    }

-- a preview and the full picture
pub both_given : (k j n : ℕ) (values : Both ℤ) (quantisers : List ℕ) → k ≤ 4 → j ≤ k → Sound k n values quantisers
    → Previewed k j n values quantisers (picture j n (whole n (level_of k values j)) quantisers) (picture k n (whole n values) quantisers)
both_given k j n values quantisers few below a =
    let same : level_of k values k ≡ values = (demand_three k n values (λ i. (can_be_met n (level_of k values i)).0) few a.within (λ i _ _. (can_be_met n (level_of k values i)).1)).whole in
    record {
      fewer = below;
      room = n * 64;
      shown = previews_are_given k j n values quantisers (n * 64) few below a (omega arith);
      full_room = n * 64;
      finished = rw same at (previews_are_given k k n values quantisers (n * 64) few (omega arith) a (omega arith));
    }

-- ---- by the largest quantiser, and plane by plane

plain : ℕ → ℕ → ℕ
plain y x = total_to 8 (λ v. total_to 8 (λ u. nat_abs (kernel x u *ℤ kernel y v)))

-- |K(x,0)| + .. + |K(x,7)| is 43284 for each x; its square is 6.98 times 2^28
plain_small : (y x : ℕ) → y < 8 → x < 8 → plain y x ≤ 7 * 2 ^ 28
unfolding plain total_to kernel full_turn half_turn nine_cosines
plain_small y x hy hx =
    rw (digits_div y hx, digits_mod y hx) at (leb→le (plain ((y * 8 + x) / 8) ((y * 8 + x) % 8)) (7 * 2 ^ 28) (each 64 (λ p. leb (plain (p / 8) (p % 8)) (7 * 2 ^ 28)) tt (y * 8 + x) (omega arith)))

weight_small : (largest : ℕ) (quantisers : List ℕ) → ((i : ℕ) → get_or quantisers i 0 ≤ largest) → (y x : ℕ) → weight quantisers y x ≤ largest * plain y x
unfolding weight plain
weight_small largest quantisers h y x =
    total_le largest 8 _ _
    (λ v hv. total_le largest 8 _ _
    (λ u hu. let t = nat_abs (kernel x u *ℤ kernel y v) in omega (arith, mul-le-mul_left t (h (zigzag v u)))))

pub owed_by_largest : OwedByLargest
unfolding owed apart_rounded
owed_by_largest left largest quantisers h y x hy hx =
    let e = 2 ^ left - 1 in
    let w : weight quantisers y x ≤ largest * (7 * 2 ^ 28) = le_trans (weight_small largest quantisers h y x) (mul-le-mul_left largest (plain_small y x hy hx)) in
    omega (arith, mul-le-mul_left e w, pow_pos left)

pub owed_falls : OwedFalls
unfolding owed
owed_falls left quantisers y x =
    let h : 2 ^ left ≤ 2 ^ suc left = omega (arith, pow-suc 2 left) in
    let l : 2 ^ left - 1 ≤ 2 ^ suc left - 1 = omega arith in
    rounded_rises _ _ _ _ (2 ^ 28) (omega arith) h (mul-le-mul_right (weight quantisers y x) l)

-- ---- no smaller number will do

pub owed_is_reached : OwedIsReached
unfolding owed apart_rounded weight whole level_of downward toward_zero join_to tab sum_to total_to zigzag places_before first_row last_row kernel full_turn half_turn nine_cosines
owed_is_reached = (refl, refl)
