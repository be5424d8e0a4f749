-- What merged results owe: a colour, the clip and the straight curve, the residual, their sum; then a pixel through all steps. Assumes nothing.
use mathlib.Core.Path.{◌≡◌, refl, sym, ap, ap₂, subst, ◌∙◌}
use mathlib.Core.Logic.{◌⊎◌, inl, inr, ⊎_elim}
use mathlib.Core.Bool.{true, not}
use mathlib.Core.List.{List, [], ◌∷◌}
use Prim.Native.Nat.{ℕ, zero, suc, ◌+◌, ◌-◌, ◌*◌, ◌^◌, min, ◌≤◌, ◌<◌}
use native.Mathlib.Nat.{mul-zero, mul-le-mul_left, mul-le-mul_right}
use native.Mathlib.Omega.{arith}
use lib.IntN.{ℤ, pos, negsuc, neg_ℤ, nat_abs, ◌+ℤ◌, ◌-ℤ◌, ◌*ℤ◌}
use lib.ListN.{get_or}
use lib.Pow.{pow_pos, pow-add, pow_mono}
use Rattle.laws.specs.Index.{sum_to, total_to, tab, join_to, every}
use Rattle.laws.specs.Apart.{apart, apart_rounded}
use Rattle.laws.specs.First.{or_here, first_fail}
use Rattle.laws.proofs.Apart.{apart_of, apart_most, apart_least, apart_pos, apart_neg, apart_times, apart_sum, rounds_twice, rounded_apart, rounded_alike, rounded_rises, rounded_none}
use Rattle.laws.proofs.Floors.{times}
use Rattle.laws.proofs.Integers.{split, pos_up, pos_dn, negsuc_up, negsuc_dn}
use Rattle.laws.proofs.Lists.{every_first, every_rest}
use Rattle.plane_rules.specs.Levels.{downward, toward_zero}
use Rattle.transform_rules.specs.Cosines.{nine_cosines, half_turn, full_turn, kernel}
use Rattle.transform_rules.specs.Zigzag.{first_row, last_row, places_before, zigzag}
use Rattle.preview_rules.specs.Owed.{weight, owed}
use Rattle.merge_rules.specs.Near.{nearest, clip, row, top}
use Rattle.merge_rules.specs.Curves.{straight, curved, entries}
use Rattle.merge_rules.specs.Pixels as pixels
use Rattle.merge_rules.specs.Pixels.{Pixel, single, triple, component}
use Rattle.merge_rules.specs.declared.Setting.{Setting}
use Rattle.merge_rules.specs.declared.Curve.TheVariants.{Straight}
use Rattle.merge_rules.specs.declared.Colour.{Colour}
use Rattle.merge_rules.specs.declared.Colour.TheVariants.{Identity, Transform}
use Rattle.merge_rules.specs.declared.Matrix.TheVariants.{None}
use Rattle.merge_rules.specs.declared.Residual.{Residual}
use Rattle.merge_rules.specs.declared.Residual.TheVariants.{Absent, Present}
use Rattle.merge_rules.specs.Steps.{tinted, tints, transform, recolour, first_centre, step_one, step_two, matrixed, step_three, scaled, step_four, added, alone, with_residual, step_five, basis, merged}
use Rattle.merge_rules.specs.Settings.{is_transform, is_on, in_ranges, plain, srgb_allowed, residual_count, lengths_right, entry_right}
use Rattle.merge_rules.specs.Picture.{pixel_at, merged_at, planes, merged_picture, merge_tests, merge}
use Rattle.merge_rules.proofs.Components.{one_or_three_lem}
use Rattle.demands.specs.Three.{level_of}
use Rattle.demands.specs.Cases.{result_of}
use Rattle.demands.specs.Preview.{whole, owed_tint, owed_colour, owed_result, owed_base, owed_scaled, owed_residual, with_planes, MergedBoth, Owes, ResultsOwe, BaseOwes, ResultsFall, ResultsAreReached, ReachedFromBlocks}
use Rattle.demands.proofs.Values.{results_are}

-- ---- powers of two

powers : (i k j : ℕ) → j ≤ k → 2 ^ (i + k) ≡ 2 ^ (k - j) * 2 ^ (i + j)
powers i k j h = let s : i + k ≡ k - j + (i + j) = omega arith in ap (λ n. 2 ^ n) s ∙ pow-add 2 (k - j) (i + j)

tops : (k j : ℕ) → j ≤ k → top k ≡ 2 ^ (k - j) * top j + (2 ^ (k - j) - 1)
tops k j h =
    let d = 2 ^ (k - j) in
    let f : 2 ^ (8 + j) ≡ top j + 1 = omega (arith, pow_pos (8 + j)) in
    omega (arith, powers 8 k j h, ap (λ i. d * i) f, pow_pos (k - j))

top_some : (r : ℕ) → 0 < top r
top_some r = omega (arith, pow-add 2 8 r, pow_pos r)

-- ---- a colour

-- a centre that is d times the other goes out
less_centre : (d e c c' : ℕ) (a b : ℤ) → c ≡ d * c' → apart d a b ≤ e → apart d (a -ℤ pos c) (b -ℤ pos c') ≤ e
less_centre d e c c' a b same near = omega (arith, apart_sum d a b (neg_ℤ (pos c)) (neg_ℤ (pos c')), apart_neg d 0 c c' (omega arith) (omega arith))

row_near : (d : ℕ) (k l m a b c a' b' c' : ℤ) (e f g : ℕ) → apart d a a' ≤ e → apart d b b' ≤ f → apart d c c' ≤ g
    → apart d (row k l m a b c) (row k l m a' b' c') ≤ nat_abs k * e + nat_abs l * f + nat_abs m * g
unfolding row
row_near d k l m a b c a' b' c' e f g h i j =
    omega (
      arith,
      apart_sum d (k *ℤ a +ℤ l *ℤ b) (k *ℤ a' +ℤ l *ℤ b') (m *ℤ c) (m *ℤ c'),
      apart_sum d (k *ℤ a) (k *ℤ a') (l *ℤ b) (l *ℤ b'),
      apart_times d e k a a' h,
      apart_times d f l b b' i,
      apart_times d g m c c' j,
    )

module _ (left c c' : ℕ) (same : c ≡ 2 ^ left * c') (y cb cr y' cb' cr' : ℤ) (e : Pixel ℕ)
    (hy : apart (2 ^ left) y y' ≤ component 0 e) (hb : apart (2 ^ left) cb cb' ≤ component 1 e) (hr : apart (2 ^ left) cr cr' ≤ component 2 e) where
  tint_near : (l m : ℤ) → apart (2 ^ left) (tinted l m y (cb -ℤ pos c) (cr -ℤ pos c)) (tinted l m y' (cb' -ℤ pos c') (cr' -ℤ pos c')) ≤ owed_tint left (nat_abs l) (nat_abs m) e
  unfolding tinted nearest owed_tint
  tint_near l m =
      let d = 2 ^ left in
      rounded_alike d _ 1000000 (row (pos 1000000) l m y (cb -ℤ pos c) (cr -ℤ pos c)) (row (pos 1000000) l m y' (cb' -ℤ pos c') (cr' -ℤ pos c')) _ _ (pow_pos left) (omega arith)
      (rounds_twice _ 1000000 (omega arith)) (rounds_twice _ 1000000 (omega arith))
      (row_near d (pos 1000000) l m y (cb -ℤ pos c) (cr -ℤ pos c) y' (cb' -ℤ pos c') (cr' -ℤ pos c') (component 0 e) (component 1 e) (component 2 e) hy (less_centre d _ c c' cb cb' same hb) (less_centre d _ c c' cr cr' same hr))

  coloured_near : (colour : Colour) (k : ℕ) → k < 3
      → apart (2 ^ left) (component k (recolour colour (pos c) (triple y cb cr))) (component k (recolour colour (pos c') (triple y' cb' cr'))) ≤ component k (owed_colour colour left e)
  unfolding component recolour transform tints owed_colour
  coloured_near Identity zero h = hy
  coloured_near Identity (suc zero) h = hb
  coloured_near Identity (suc (suc zero)) h = hr
  coloured_near Identity (suc (suc (suc k))) h = absurd (omega arith)
  coloured_near Transform zero h = tint_near (pos 0) (pos 1402000)
  coloured_near Transform (suc zero) h = tint_near (neg_ℤ (pos 344136)) (neg_ℤ (pos 714136))
  coloured_near Transform (suc (suc zero)) h = tint_near (pos 1772000) (pos 0)
  coloured_near Transform (suc (suc (suc k))) h = absurd (omega arith)

-- ---- clipped samples: n is the largest of the full picture, t of the preview

module _ (d t n e : ℕ) (some : 0 < d) (largest : n ≡ d * t + (d - 1)) where
  -- x of the full picture, x' of the preview
  over : (x x' : ℕ) → x ≤ n → (t ≤ x') ⊎ (x ≤ d * x' + e) → x * t ≤ x' * n + (e + (d - 1)) * t
  over x x' h o =
      ⊎_elim (λ (l : t ≤ x'). omega (arith, mul-le-mul_right t h, mul-le-mul_right n l))
      (λ (l : x ≤ d * x' + e). omega (arith, mul-le-mul_right t l, ap (λ i. x' * i) largest)) o

  under : (x x' : ℕ) → x' ≤ t → d * x' ≤ x + e → x' * n ≤ x * t + (e + (d - 1)) * t
  under x x' h l = omega (arith, ap (λ i. x' * i) largest, mul-le-mul_right t l, mul-le-mul_right (d - 1) h)

  clipped_over : (a b : ℤ) → apart d a b ≤ e → clip a n * t ≤ clip b t * n + (e + (d - 1)) * t
  unfolding clip
  clipped_over (negsuc p) b h = omega arith
  clipped_over (pos p) (pos q) h =
      let l : p ≤ d * q + e = omega (arith, apart_most d e (pos p) (pos q) h, pos_up p, pos_dn p, ap (λ i. d * i) (pos_up q), ap (λ i. d * i) (pos_dn q)) in
      over (min p n) (min q t) (omega arith)
      (⊎_elim (λ (s : q < t). let e' : min q t ≡ q = omega arith in inr (omega (arith, ap (λ i. d * i) e'))) (λ (s : t ≤ q). inl (omega arith)) (split q t))
  clipped_over (pos p) (negsuc q) h =
      over (min p n) 0 (omega arith)
      (inr (omega (arith, apart_most d e (pos p) (negsuc q) h, pos_up p, pos_dn p, ap (λ i. d * i) (negsuc_up q), ap (λ i. d * i) (negsuc_dn q))))

  clipped_under : (a b : ℤ) → apart d a b ≤ e → clip b t * n ≤ clip a n * t + (e + (d - 1)) * t
  unfolding clip
  clipped_under a (negsuc q) h = omega arith
  clipped_under (pos p) (pos q) h =
      let l : d * q ≤ p + e = omega (arith, apart_least d e (pos p) (pos q) h, pos_up p, pos_dn p, ap (λ i. d * i) (pos_up q), ap (λ i. d * i) (pos_dn q)) in
      let f : min q t ≤ q = omega arith in
      let g : min q t ≤ t = omega arith in
      under (min p n) (min q t) g (omega (arith, mul-le-mul_left d f, mul-le-mul_left d g))
  clipped_under (negsuc p) (pos q) h =
      let l : d * q ≤ e = omega (arith, apart_least d e (negsuc p) (pos q) h, negsuc_up p, negsuc_dn p, ap (λ i. d * i) (pos_up q), ap (λ i. d * i) (pos_dn q)) in
      let f : min q t ≤ q = omega arith in
      under 0 (min q t) (omega arith) (omega (arith, mul-le-mul_left d f))

-- natural numbers over n and over t, rounded
ratio_near : (n t e x x' : ℕ) → 0 < n → 0 < t → t * x ≤ n * x' + t * e → n * x' ≤ t * x + t * e → apart 1 (nearest (pos x) n) (nearest (pos x') t) ≤ apart_rounded 1 e n
unfolding nearest
ratio_near n t e x x' some some' h l =
    let u = ap (λ i. t * i) (pos_up x) in
    let v = ap (λ i. t * i) (pos_dn x) in
    let w = ap (λ i. 1 * n * i) (pos_up x') in
    let z = ap (λ i. 1 * n * i) (pos_dn x') in
    rounded_apart 1 e n t (pos x) (pos x') _ _ (omega arith) some some' (rounds_twice (pos x) n some) (rounds_twice (pos x') t some') (omega arith) (omega arith)

straight_near : (rb k j e : ℕ) → j ≤ k → (a b : ℤ) → apart (2 ^ (k - j)) a b ≤ e → apart 1 (straight rb k (clip a (top k))) (straight rb j (clip b (top j))) ≤ owed_result rb k (k - j) e
unfolding straight owed_result
straight_near rb k j e h a b near =
    let d = 2 ^ (k - j) in
    let over' = mul-le-mul_left (top rb) (clipped_over d (top j) (top k) e (pow_pos (k - j)) (tops k j h) a b near) in
    let under' = mul-le-mul_left (top rb) (clipped_under d (top j) (top k) e (pow_pos (k - j)) (tops k j h) a b near) in
    ratio_near (top k) (top j) (top rb * (e + (d - 1))) (clip a (top k) * top rb) (clip b (top j) * top rb) (top_some k) (top_some j) (omega arith) (omega arith)

-- ---- a residual

-- b times two numbers over j d and over j, rounded
scaled_by : (b d j e : ℕ) (r s : ℤ) → 0 < d → 0 < j → apart d r s ≤ e → apart 1 (nearest (pos b *ℤ r) (d * j)) (nearest (pos b *ℤ s) j) ≤ apart_rounded 1 (b * e) (d * j)
unfolding nearest
scaled_by b d j e r s some some-j near =
    let some-m : 0 < d * j = omega (arith, mul-le-mul_left d some-j) in
    let f = ap (λ i. j * i) (times b r) in
    let g = ap (λ i. d * j * i) (times b s) in
    let h = mul-le-mul_left (j * b) (apart_most d e r s near) in
    let l = mul-le-mul_left (j * b) (apart_least d e r s near) in
    rounded_apart 1 (b * e) (d * j) j (pos b *ℤ r) (pos b *ℤ s) _ _ (omega arith) some-m some-j (rounds_twice _ (d * j) some-m) (rounds_twice _ j some-j) (omega arith) (omega arith)

scaled_near : (rb k j e : ℕ) → j ≤ k → (r s : ℤ) → apart (2 ^ (k - j)) r s ≤ e → apart 1 (scaled rb k r) (scaled rb j s) ≤ owed_scaled rb k e
unfolding scaled owed_scaled
scaled_near rb k j e h r s near =
    let m : k ≡ k - j + j = omega arith in
    let p : 2 ^ k ≡ 2 ^ (k - j) * 2 ^ j = ap (λ n. 2 ^ n) m ∙ pow-add 2 (k - j) j in
    rw p (scaled_by (2 ^ rb) (2 ^ (k - j)) (2 ^ j) e r s (pow_pos (k - j)) (pow_pos j) near)

-- ---- the sum of both

clip_near : (t e : ℕ) (a b : ℤ) → apart 1 a b ≤ e → apart 1 (pos (clip a t)) (pos (clip b t)) ≤ e
unfolding clip
clip_near t e (pos p) (pos q) h =
    let f = apart_most 1 e (pos p) (pos q) h in
    let g = apart_least 1 e (pos p) (pos q) h in
    apart_pos 1 e (min p t) (min q t) (omega (arith, pos_up p, pos_dn p, pos_up q, pos_dn q)) (omega (arith, pos_up p, pos_dn p, pos_up q, pos_dn q))
clip_near t e (pos p) (negsuc q) h =
    let f = apart_most 1 e (pos p) (negsuc q) h in
    apart_pos 1 e (min p t) 0 (omega (arith, pos_up p, pos_dn p, negsuc_up q, negsuc_dn q)) (omega arith)
clip_near t e (negsuc p) (pos q) h =
    let g = apart_least 1 e (negsuc p) (pos q) h in
    apart_pos 1 e 0 (min q t) (omega arith) (omega (arith, pos_up q, pos_dn q, negsuc_up p, negsuc_dn p))
clip_near t e (negsuc p) (negsuc q) h = apart_pos 1 e 0 0 (omega arith) (omega arith)

-- what step 5 makes of a number of the base and one of the residual
ended : Residual → ℕ → ℤ → ℤ → ℕ
ended Absent rb b r = alone rb b
ended Present rb b r = added rb b r

-- the residual's part, where there is one
besides : Residual → ℕ → ℕ
besides Absent n = 0
besides Present n = n

ended_near : (residual : Residual) (rb e f : ℕ) (b b' r r' : ℤ) → apart 1 b b' ≤ e → apart 1 r r' ≤ f → apart 1 (pos (ended residual rb b r)) (pos (ended residual rb b' r')) ≤ e + besides residual f
unfolding ended besides alone added
ended_near Absent rb e f b b' r r' h l = omega (arith, clip_near (top rb) e b b' h)
ended_near Present rb e f b b' r r' h l =
    clip_near (top rb) (e + f) _ _
    (less_centre 1 (e + f) (2 ^ (7 + rb)) (2 ^ (7 + rb)) (b +ℤ r) (b' +ℤ r') (omega arith) (omega (arith, apart_sum 1 b b' r r')))

-- ---- a pixel through all steps

-- what the steps make of a number of the base after its transform
shown_by : ℕ → ℕ → ℤ → ℤ
shown_by rb rh v = straight rb rh (clip v (top rh))

-- three numbers keep their places in a transform
three_of_lem : (colour : Colour) (c y cb cr : ℤ)
    → recolour colour c (triple y cb cr) ≡ triple (component 0 (recolour colour c (triple y cb cr))) (component 1 (recolour colour c (triple y cb cr))) (component 2 (recolour colour c (triple y cb cr)))
unfolding component recolour transform tints
three_of_lem Identity c y cb cr = refl
three_of_lem Transform c y cb cr = refl

ended_three : (residual : Residual) (rb : ℕ) (u v w f g h : ℤ) (k : ℕ) → k < 3
    → component k (with_residual residual rb (triple u v w) (triple f g h)) ≡ ended residual rb (component k (triple u v w)) (component k (triple f g h))
unfolding component with_residual pixels.each pixels.both ended
ended_three Absent rb u v w f g h zero l = refl
ended_three Absent rb u v w f g h (suc zero) l = refl
ended_three Absent rb u v w f g h (suc (suc k)) l = refl
ended_three Present rb u v w f g h zero l = refl
ended_three Present rb u v w f g h (suc zero) l = refl
ended_three Present rb u v w f g h (suc (suc k)) l = refl

ended_one : (residual : Residual) (rb : ℕ) (u f : ℤ) → component 0 (with_residual residual rb (single u) (single f)) ≡ ended residual rb u f
unfolding component with_residual pixels.each pixels.both ended
ended_one Absent rb u f = refl
ended_one Present rb u f = refl

each_three : (f : ℤ → ℤ) (u v w : ℤ) (k : ℕ) → component k (triple (f u) (f v) (f w)) ≡ f (component k (triple u v w))
unfolding component
each_three f u v w zero = refl
each_three f u v w (suc zero) = refl
each_three f u v w (suc (suc k)) = refl

module _ (s : Setting) (line : s.curve ≡ Straight) (unmixed : s.matrix ≡ None) where
  -- steps 2, 3 and 5 number by number, from the base and the residual after their transforms
  abbrev NumberByNumber : Pixel ℤ → Pixel ℤ → ℕ → Type 0
  NumberByNumber p q k =
      component k (step_five s (step_three s (step_two s [] (pixels.each (λ v. clip v (top s.rh)) p))) q) ≡ ended s.residual s.rb (shown_by s.rb s.rh (component k p)) (component k q)

  by_three : (u v w f g h : ℤ) (k : ℕ) → k < 3 → NumberByNumber (triple u v w) (triple f g h) k
  unfolding step_two step_three step_five matrixed curved pixels.each shown_by
  by_three u v w f g h k l =
      rw (line, unmixed)
      (ended_three s.residual s.rb _ _ _ f g h k l
      ∙ ap (λ (z : ℤ). ended s.residual s.rb z (component k (triple f g h))) (each_three (shown_by s.rb s.rh) u v w k))

  by_parts : (p q : Pixel ℤ) → p ≡ triple (component 0 p) (component 1 p) (component 2 p) → q ≡ triple (component 0 q) (component 1 q) (component 2 q) → (k : ℕ) → k < 3 → NumberByNumber p q k
  by_parts p q e f k l =
      subst (λ (x : Pixel ℤ). NumberByNumber x q k) (sym e)
      (subst (λ (x : Pixel ℤ). NumberByNumber (triple (component 0 p) (component 1 p) (component 2 p)) x k) (sym f)
      (by_three (component 0 p) (component 1 p) (component 2 p) (component 0 q) (component 1 q) (component 2 q) k l))

  -- the base after its transform, and the residual after step 4
  abbrev basis_of : Pixel ℤ → Pixel ℤ
  basis_of p = recolour s.base_transform (pos (2 ^ (7 + s.rh))) p

  abbrev residual_of_lem : Pixel ℤ → Pixel ℤ
  residual_of_lem p = recolour s.residual_transform (pos (2 ^ (7 + s.rb))) p

  merged_three : (y cb cr f g h : ℤ) (k : ℕ) → k < 3
      → component k (merged s [] (triple y cb cr) (triple f g h))
      ≡ ended s.residual s.rb (shown_by s.rb s.rh (component k (basis_of (triple y cb cr))))
      (component k (residual_of_lem (triple (scaled s.rb s.rr f) (scaled s.rb s.rr g) (scaled s.rb s.rr h))))
  unfolding merged basis step_one step_four first_centre pixels.each
  merged_three y cb cr f g h k l =
      by_parts (basis_of (triple y cb cr)) (residual_of_lem (triple (scaled s.rb s.rr f) (scaled s.rb s.rr g) (scaled s.rb s.rr h)))
      (three_of_lem s.base_transform (pos (2 ^ (7 + s.rh))) y cb cr) (three_of_lem s.residual_transform (pos (2 ^ (7 + s.rb))) _ _ _) k l

  merged_one : (y f : ℤ) → s.base_transform ≡ Identity → s.residual_transform ≡ Identity
      → component 0 (merged s [] (single y) (single f)) ≡ ended s.residual s.rb (shown_by s.rb s.rh y) (scaled s.rb s.rr f)
  unfolding merged basis step_one step_two step_three step_four step_five matrixed curved pixels.each first_centre recolour shown_by
  merged_one y f b r = rw (line, unmixed, b, r) (ended_one s.residual s.rb _ _)

-- ---- the picture

-- "one or three components"
pub counted : (s : Setting) (pixels : ℕ) → in_ranges s pixels ≡ true → (s.components ≡ 1) ⊎ (s.components ≡ 3)
unfolding in_ranges
counted s pixels e = one_or_three_lem s.components (every_first _ _ (every_rest _ _ (every_rest _ _ (every_rest _ _ (every_rest _ _ e)))))

-- "One component with a transform or matrix is 20"
identity_of : (t : Colour) → not (is_transform t) ≡ true → t ≡ Identity
identity_of Identity e = refl
identity_of Transform e = let z : ◌≡◌ {A = ℕ} 0 1 = cc in let y : ⊥ = omega arith in absurd y

no_transforms : (s : Setting) → s.components ≡ 1 → plain s ≡ true → (s.base_transform ≡ Identity) × (s.residual_transform ≡ Identity)
unfolding plain
no_transforms s one e =
    let h : every (not (is_transform s.base_transform) ∷ not (is_transform s.residual_transform) ∷ not (is_on s.matrix) ∷ []) ≡ true = rw one at e in
    (identity_of _ (every_first _ _ h), identity_of _ (every_first _ _ (every_rest _ _ h)))

one_lent : (s : Setting) (count : ℕ) (xs : List ℤ) (p : ℕ) → s.components ≡ 1 → pixel_at s.components count xs p ≡ single (get_or xs (0 * count + p) (pos 0))
unfolding pixel_at
one_lent s count xs p e = let a : p ≡ 0 * count + p = omega arith in rw e (ap (λ i. single (get_or xs i (pos 0))) a)

three_lent : (s : Setting) (count : ℕ) (xs : List ℤ) (p : ℕ) → s.components ≡ 3
    → pixel_at s.components count xs p ≡ triple (get_or xs (0 * count + p) (pos 0)) (get_or xs (1 * count + p) (pos 0)) (get_or xs (2 * count + p) (pos 0))
unfolding pixel_at
three_lent s count xs p e =
    let x : ℕ → ℤ = λ i. get_or xs i (pos 0) in
    let a : x p ≡ x (0 * count + p) = ap x (omega arith) in
    let b : x (count + p) ≡ x (1 * count + p) = ap x (omega arith) in
    let c : x (count + count + p) ≡ x (2 * count + p) = ap x (omega arith) in
    rw (e, a, b, c)

-- the residual's part of the bound
residual_part : (s : Setting) (residual : Residual) (r : Pixel ℕ) (c : ℕ)
    → owed_residual s residual r c ≡ besides residual (component c (owed_colour s.residual_transform 0 (pixels.each (owed_scaled s.rb s.rr) r)))
unfolding owed_residual besides
residual_part s Absent r c = refl
residual_part s Present r c = refl

each_component : (f : ℕ → ℕ) (p : Pixel ℕ) (c : ℕ) → component c (pixels.each f p) ≡ f (component c p)
unfolding component pixels.each
each_component f (single a) c = refl
each_component f (triple a b d) zero = refl
each_component f (triple a b d) (suc zero) = refl
each_component f (triple a b d) (suc (suc c)) = refl

module _ (s : Setting) (rh rr count : ℕ) (base base' residual residual' : List ℤ) (finished shown : List ℕ) (both : MergedBoth s rh rr count base base' residual residual' finished shown)
    (p : ℕ) (there : p < count) (e r : Pixel ℕ) (owes : Owes s (s.rh - rh) count base base' p e) (owes' : Owes s (s.rr - rr) count residual residual' p r) where
  -- the setting of the preview
  abbrev few : Setting
  few = with_planes rh rr s

  -- component c of pixel p, lent so far
  abbrev lent : List ℤ → ℕ → ℤ
  lent xs c = get_or xs (c * count + p) (pos 0)

  -- what was handed out is what the steps make of pixel p
  finished_is : (c : ℕ) → c < s.components → get_or finished (c * count + p) 0 ≡ component c (merged s [] (pixel_at s.components count base p) (pixel_at s.components count residual p))
  finished_is c h = results_are s count base residual [] both.room finished both.full c p h there

  shown_is : (c : ℕ) → c < s.components → get_or shown (c * count + p) 0 ≡ component c (merged few [] (pixel_at s.components count base' p) (pixel_at s.components count residual' p))
  shown_is c h = results_are few count base' residual' [] both.preview_room shown both.preview c p h there

  -- the residual of component c after its scaling
  scaled_owes : (c : ℕ) → c < s.components
      → apart 1 (scaled s.rb s.rr (lent residual c)) (scaled s.rb rr (lent residual' c)) ≤ component c (pixels.each (owed_scaled s.rb s.rr) r)
  scaled_owes c h = rw (each_component (owed_scaled s.rb s.rr) r c) (scaled_near s.rb s.rr rr (component c r) both.fewer_too (lent residual c) (lent residual' c) (owes' c h))

  -- what both sides come to, once the base owes e' and the residual f after their transforms
  ended_owes : (v v' q q' : ℤ) (e' f : ℕ) → apart (2 ^ (s.rh - rh)) v v' ≤ e' → apart 1 q q' ≤ f
      → apart 1 (pos (ended s.residual s.rb (shown_by s.rb s.rh v) q)) (pos (ended s.residual s.rb (shown_by s.rb rh v') q')) ≤ owed_result s.rb s.rh (s.rh - rh) e' + besides s.residual f
  unfolding shown_by
  ended_owes v v' q q' e' f h l = ended_near s.residual s.rb _ f _ _ q q' (straight_near s.rb s.rh rh e' both.fewer v v' h) l

  one_owes : s.components ≡ 1 → apart 1 (pos (get_or finished (0 * count + p) 0)) (pos (get_or shown (0 * count + p) 0)) ≤ owed_base s rh e 0 + owed_residual s s.residual r 0
  unfolding owed_base owed_colour
  one_owes one =
      let t = no_transforms s one both.full.one in
      let h : 0 < s.components = omega arith in
      let f : get_or finished (0 * count + p) 0 ≡ ended s.residual s.rb (shown_by s.rb s.rh (lent base 0)) (scaled s.rb s.rr (lent residual 0)) =
      finished_is 0 h ∙ ap₂ (λ (x y : Pixel ℤ). component 0 (merged s [] x y)) (one_lent s count base p one) (one_lent s count residual p one) ∙ merged_one s both.straight both.unmixed _ _ t.0 t.1 in
      let g : get_or shown (0 * count + p) 0 ≡ ended s.residual s.rb (shown_by s.rb rh (lent base' 0)) (scaled s.rb rr (lent residual' 0)) =
      shown_is 0 h ∙ ap₂ (λ (x y : Pixel ℤ). component 0 (merged few [] x y)) (one_lent s count base' p one) (one_lent s count residual' p one) ∙ merged_one few both.straight both.unmixed _ _ t.0 t.1 in
      rw (f, g, residual_part s s.residual r 0, t.0, t.1) (ended_owes (lent base 0) (lent base' 0) _ _ (component 0 e) _ (owes 0 h) (scaled_owes 0 h))

  three_owes : s.components ≡ 3 → (c : ℕ) → c < 3 → apart 1 (pos (get_or finished (c * count + p) 0)) (pos (get_or shown (c * count + p) 0)) ≤ owed_base s rh e c + owed_residual s s.residual r c
  unfolding owed_base
  three_owes three c l =
      let h : (i : ℕ) → i < 3 → i < s.components = λ i m. subst (λ (n : ℕ). i < n) (sym three) m in
      let h0 = h 0 (omega arith) in
      let h1 = h 1 (omega arith) in
      let h2 = h 2 (omega arith) in
      let alike : 2 ^ (7 + s.rb) ≡ 2 ^ 0 * 2 ^ (7 + s.rb) = omega arith in
      let f = finished_is c (h c l) ∙ ap₂ (λ (x y : Pixel ℤ). component c (merged s [] x y)) (three_lent s count base p three) (three_lent s count residual p three) ∙ merged_three s both.straight both.unmixed _ _ _ _ _ _ c l in
      let g = shown_is c (h c l) ∙ ap₂ (λ (x y : Pixel ℤ). component c (merged few [] x y)) (three_lent s count base' p three) (three_lent s count residual' p three) ∙ merged_three few both.straight both.unmixed _ _ _ _ _ _ c l in
      rw (f, g, residual_part s s.residual r c)
      (ended_owes _ _ _ _ _ _
      (coloured_near (s.rh - rh) (2 ^ (7 + s.rh)) (2 ^ (7 + rh)) (powers 7 s.rh rh both.fewer) _ _ _ _ _ _ e (owes 0 h0) (owes 1 h1) (owes 2 h2) s.base_transform c l)
      (coloured_near 0 (2 ^ (7 + s.rb)) (2 ^ (7 + s.rb)) alike _ _ _ _ _ _ (pixels.each (owed_scaled s.rb s.rr) r) (scaled_owes 0 h0) (scaled_owes 1 h1) (scaled_owes 2 h2) s.residual_transform c l))

pub results_owe : ResultsOwe
results_owe s rh rr count base base' residual residual' finished shown both p there e r owes owes' c h =
    ⊎_elim
    (λ (one : s.components ≡ 1). let z : c ≡ 0 = omega arith in rw z (one_owes s rh rr count base base' residual residual' finished shown both p there e r owes owes' one))
    (λ (three : s.components ≡ 3). three_owes s rh rr count base base' residual residual' finished shown both p there e r owes owes' three c (omega arith))
    (counted s count both.full.ranges)

-- ---- without a residual, or with the same in both

-- nothing is owed by what owes nothing
none_coloured : (colour : Colour) (c : ℕ) → component c (owed_colour colour 0 (single 0)) ≡ 0
unfolding component owed_colour owed_tint apart_rounded
none_coloured Identity c = refl
none_coloured Transform zero = refl
none_coloured Transform (suc zero) = refl
none_coloured Transform (suc (suc c)) = refl

none_scaled : (rb rr : ℕ) → owed_scaled rb rr 0 ≡ 0
unfolding owed_scaled
none_scaled rb rr = ap (λ n. apart_rounded 1 n (2 ^ rr)) (mul-zero (2 ^ rb)) ∙ rounded_none (2 ^ rr) (pow_pos rr)

no_part : (s : Setting) (residual : Residual) (c : ℕ) → owed_residual s residual (single 0) c ≡ 0
unfolding owed_residual pixels.each
no_part s Absent c = refl
no_part s Present c = ap (λ n. component c (owed_colour s.residual_transform 0 (single n))) (none_scaled s.rb s.rr) ∙ none_coloured s.residual_transform c

alike_owes : (r k : ℕ) (z : ℤ) → apart (2 ^ (r - r)) z z ≤ component k (single 0)
unfolding component
alike_owes r k z = let e : r - r ≡ 0 = omega arith in rw e (apart_of 1 0 z z (omega arith) (omega arith))

pub base_owes : BaseOwes
base_owes s rh count base base' residual finished shown both p there e owes c h =
    let none : Owes s (s.rr - s.rr) count residual residual p (single 0) = λ k l. alike_owes s.rr k (get_or residual (k * count + p) (pos 0)) in
    omega (arith, results_owe s rh s.rr count base base' residual residual finished shown both p there e (single 0) owes none c h, no_part s s.residual c)

-- ---- plane by plane

module _ (left m : ℕ) (fewer : left ≤ m) (e less : Pixel ℕ) (smaller : (c : ℕ) → component c less ≤ component c e) where
  tint_falls : (b r : ℕ) → owed_tint left b r less ≤ owed_tint m b r e
  unfolding owed_tint
  tint_falls b r =
      rounded_rises (2 ^ left) (2 ^ m) _ _ 1000000 (omega arith) (pow_mono {i = left} {j = m} fewer)
      (omega (arith, smaller 0, mul-le-mul_left b (smaller 1), mul-le-mul_left r (smaller 2)))

  colour_falls : (colour : Colour) (c : ℕ) → component c (owed_colour colour left less) ≤ component c (owed_colour colour m e)
  unfolding component owed_colour
  colour_falls Identity c = smaller c
  colour_falls Transform zero = tint_falls 0 1402000
  colour_falls Transform (suc zero) = tint_falls 344136 714136
  colour_falls Transform (suc (suc c)) = tint_falls 1772000 0

pub base_falls : (s : Setting) (rh rh' : ℕ) (e less : Pixel ℕ) → rh ≤ rh' → ((c : ℕ) → component c less ≤ component c e) → (c : ℕ) → owed_base s rh' less c ≤ owed_base s rh e c
unfolding owed_base owed_result
base_falls s rh rh' e less more smaller c =
    let left : s.rh - rh' ≤ s.rh - rh = omega arith in
    let h = colour_falls (s.rh - rh') (s.rh - rh) left e less smaller s.base_transform c in
    rounded_rises 1 1 _ _ (top s.rh) (top_some s.rh) (omega arith) (mul-le-mul_left (top s.rb) (omega (arith, pow_mono {i = s.rh - rh'} {j = s.rh - rh} left)))

scaled_falls : (rb rr : ℕ) (r less : Pixel ℕ) → ((c : ℕ) → component c less ≤ component c r) → (c : ℕ) → component c (pixels.each (owed_scaled rb rr) less) ≤ component c (pixels.each (owed_scaled rb rr) r)
unfolding owed_scaled
scaled_falls rb rr r less smaller c =
    rw (each_component (owed_scaled rb rr) less c, each_component (owed_scaled rb rr) r c) (rounded_rises 1 1 _ _ (2 ^ rr) (pow_pos rr) (omega arith) (mul-le-mul_left (2 ^ rb) (smaller c)))

residual_falls : (s : Setting) (residual : Residual) (r less : Pixel ℕ) → ((c : ℕ) → component c less ≤ component c r) → (c : ℕ) → owed_residual s residual less c ≤ owed_residual s residual r c
unfolding owed_residual
residual_falls s Absent r less smaller c = omega arith
residual_falls s Present r less smaller c = colour_falls 0 0 (omega arith) _ _ (scaled_falls s.rb s.rr r less smaller) s.residual_transform c

pub results_fall_lem : ResultsFall
results_fall_lem s rh e e' r r' smaller smaller' c = omega (arith, base_falls s rh (suc rh) e e' (omega arith) smaller c, residual_falls s s.residual r r' smaller' c)

-- ---- no smaller numbers will do

pub results_are_reached : ResultsAreReached
unfolding owed_base owed_result owed_colour owed_tint owed_scaled owed_residual apart_rounded result_of merge merge_tests in_ranges plain srgb_allowed lengths_right residual_count entries entry_right every first_fail or_here tab join_to
    merged_picture planes merged_at pixel_at merged step_five with_residual alone added step_four scaled basis step_three matrixed step_two curved straight nearest step_one recolour transform tints tinted row
    first_centre pixels.each pixels.both component clip
results_are_reached = (refl, refl, refl, refl, refl)

pub reached_from_blocks : ReachedFromBlocks
unfolding owed weight total_to zigzag places_before first_row last_row kernel full_turn half_turn nine_cosines whole level_of downward toward_zero sum_to owed_base owed_result owed_colour apart_rounded tab join_to
    merged step_five with_residual alone step_four scaled basis step_three matrixed step_two curved straight nearest step_one recolour first_centre pixels.each component clip
reached_from_blocks = (refl, refl)
