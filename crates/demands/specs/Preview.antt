-- D9 and D10: what a preview owes to the full picture, in the samples that people look at and in the merged results.
--
-- After j of k planes a preview has the values of level j (D3), and is transformed at R = j. Times 2^(k-j), each of its samples is at most `owed` (V2) away from the full picture's at the same place.
-- With quantisers 1 that is 8, 23, 53, 113 for one to four planes left, of 4096 where k is 4; there are blocks that owe just that much.
use Rattle.std.specs.Prelude.{◌≡◌, true, List, [], ◌∷◌, ◌++◌, map, ℕ, suc, ◌+◌, ◌-◌, ◌*◌, ◌/◌, ◌^◌, ◌≤◌, ◌<◌, ℤ, pos, negsuc, ◌-ℤ◌, ◌*ℤ◌, length, get_or, replicate, None}
use Rattle.laws.specs.Index.{tab, join_to}
use Rattle.laws.specs.Apart.{apart, apart_rounded}
use Rattle.answers.specs.Verdict.{given}
use Rattle.transform_rules.specs.Picture.{picture}
use Rattle.transform_rules.specs.Call.{first_bad_quantiser}
use Rattle.preview_rules.specs.Owed.{owed}
use Rattle.merge_rules.specs.Near.{top}
use Rattle.merge_rules.specs.Pixels.{Pixel, single, triple, each, component}
use Rattle.merge_rules.specs.declared.Curve.TheVariants.{Straight}
use Rattle.merge_rules.specs.declared.Setting.{Setting}
use Rattle.merge_rules.specs.declared.Colour.{Colour}
use Rattle.merge_rules.specs.declared.Colour.TheVariants.{Identity, Transform}
use Rattle.merge_rules.specs.declared.Matrix.TheVariants.{None}
use Rattle.merge_rules.specs.declared.Residual.{Residual}
use Rattle.merge_rules.specs.declared.Residual.TheVariants.{Absent, Present}
use Rattle.merge_rules.specs.Settings.{in_ranges, plain, residual_count, samples}
use Rattle.merge_rules.specs.Picture.{merged_picture}
use Rattle.merge_rules.specs.Steps as steps
use Rattle.demands.specs.Two.{Sampled, Merged, sample_at}
use Rattle.demands.specs.Three.{Both, Within, level_of}
use Rattle.demands.specs.Cases.{Hold, Case, merged, naturals, ◌gives◌}

-- ---- samples

-- L2: the values of planes as the transform takes them, 64 a block: its DC, then its 63 AC values
unfoldable pub whole : ℕ → Both ℤ → List ℤ
whole n values = join_to n (λ block. get_or values.dc block (pos 0) ∷ tab 63 (λ i. get_or values.ac (block * 63 + i) (pos 0)))

-- L2: the same from the front, without an index: a DC value, the next 63 AC values, then whatever the rest of both lists gives
pub record LaidOut : Type 0 where
  pub none : (values : Both ℤ) → whole 0 values ≡ []
  pub next : (n : ℕ) (dc : ℤ) (dcs block acs : List ℤ) → length block ≡ 63
      → whole (suc n) (record { dc = dc ∷ dcs; ac = block ++ acs }) ≡ (dc ∷ block) ++ whole n (record { dc = dcs; ac = acs })

-- D9: a preview after j of k planes and the full picture, both handed out by the transform
pub record Previewed (k j n : ℕ) (values : Both ℤ) (quantisers : List ℕ) (preview full : List ℤ) : Type 0 where
  pub fewer : j ≤ k
  pub room : ℕ
  pub shown : Sampled j n (whole n (level_of k values j)) quantisers room preview
  pub full_room : ℕ
  pub finished : Sampled k n (whole n values) quantisers full_room full

-- D9: any blocks within the ranges, and quantisers that the transform takes
pub record Sound (k n : ℕ) (values : Both ℤ) (quantisers : List ℕ) : Type 0 where
  pub within : Within k n values
  pub long : length quantisers ≡ 64
  pub quantised : first_bad_quantiser quantisers ≡ None

-- D9: the law of the samples
abbrev pub SamplesOwe : Type 0
SamplesOwe =
    (k j n : ℕ) (values : Both ℤ) (quantisers : List ℕ) (preview full : List ℤ) → Previewed k j n values quantisers preview full
    → (block y x : ℕ) → block < n → y < 8 → x < 8
    → apart (2 ^ (k - j)) (get_or full (block * 64 + (y * 8 + x)) (pos 0)) (get_or preview (block * 64 + (y * 8 + x)) (pos 0)) ≤ owed (k - j) quantisers y x

-- D9: and each preview is handed out, of any blocks within the ranges, given room and good quantisers; the full picture is j = k
abbrev pub PreviewsAreGiven : Type 0
PreviewsAreGiven =
    (k j n : ℕ) (values : Both ℤ) (quantisers : List ℕ) (room : ℕ) → k ≤ 4 → j ≤ k → Sound k n values quantisers → n * 64 ≤ room
    → Sampled j n (whole n (level_of k values j)) quantisers room (picture j n (whole n (level_of k values j)) quantisers)

-- D9: in short, by the largest quantiser
abbrev pub OwedByLargest : Type 0
OwedByLargest =
    (left largest : ℕ) (quantisers : List ℕ) → ((i : ℕ) → get_or quantisers i 0 ≤ largest)
    → (y x : ℕ) → y < 8 → x < 8 → owed left quantisers y x ≤ 7 * largest * (2 ^ left - 1) + 2 ^ left / 2

-- D9: these three together: of any blocks within the ranges every sample of every preview is so near
abbrev pub PicturesAreNear : Type 0
PicturesAreNear =
    (k j n : ℕ) (values : Both ℤ) (quantisers : List ℕ) (largest : ℕ) → k ≤ 4 → j ≤ k → Sound k n values quantisers
    → ((i : ℕ) → get_or quantisers i 0 ≤ largest) → (p : ℕ) → p < n * 64
    → apart (2 ^ (k - j)) (get_or (picture k n (whole n values) quantisers) p (pos 0)) (get_or (picture j n (whole n (level_of k values j)) quantisers) p (pos 0))
    ≤ 7 * largest * (2 ^ (k - j) - 1) + 2 ^ (k - j) / 2

-- D9: a preview with one plane more never owes more
abbrev pub OwedFalls : Type 0
OwedFalls = (left : ℕ) (quantisers : List ℕ) (y x : ℕ) → owed left quantisers y x ≤ owed (suc left) quantisers y x

-- ---- merged results, by the straight curve and without a matrix: preview and full picture have one scale there, 0 to 2^(8+Rb)-1

-- D10: Y owes what it owes whole, a colour difference what it owes times its weight in millionths (M9); rounded
unfoldable pub owed_tint : ℕ → ℕ → ℕ → Pixel ℕ → ℕ
owed_tint left ofCb ofCr e = apart_rounded (2 ^ left) (1000000 * component 0 e + ofCb * component 1 e + ofCr * component 2 e) 1000000

-- D10: red, green and blue, or what was owed before
unfoldable pub owed_colour : Colour → ℕ → Pixel ℕ → Pixel ℕ
owed_colour Identity left e = e
owed_colour Transform left e = triple (owed_tint left 0 1402000 e) (owed_tint left 344136 714136 e) (owed_tint left 1772000 0 e)

-- D10: brought from 0 .. 2^(8+k)-1 to 0 .. 2^(8+Rb)-1, and rounded; the preview's white, times 2^left, falls short of the full picture's by 2^left - 1
unfoldable pub owed_result : ℕ → ℕ → ℕ → ℕ → ℕ
owed_result rb k left e = apart_rounded 1 (top rb * (e + (2 ^ left - 1))) (top k)

-- D10: of the base, in component c
unfoldable pub owed_base : Setting → ℕ → Pixel ℕ → ℕ → ℕ
owed_base s rh e c = owed_result s.rb s.rh (s.rh - rh) (component c (owed_colour s.base_transform (s.rh - rh) e))

-- D10: a residual that owes e, times 2^(Rb-Rr) (M16), and rounded
unfoldable pub owed_scaled : ℕ → ℕ → ℕ → ℕ
owed_scaled rb rr e = apart_rounded 1 (2 ^ rb * e) (2 ^ rr)

-- D10: of the residual, in component c; scaled before its transform, so that none is left there
unfoldable pub owed_residual : Setting → Residual → Pixel ℕ → ℕ → ℕ
owed_residual s Absent r c = 0
owed_residual s Present r c = component c (owed_colour s.residual_transform 0 (each (owed_scaled s.rb s.rr) r))

-- D10: the preview's setting: the full picture's, with fewer planes of the base, of the residual, or of both
abbrev pub with_planes : ℕ → ℕ → Setting → Setting
with_planes rh rr s =
    record {
      rb = s.rb;
      rh = rh;
      rr = rr;
      components = s.components;
      base_transform = s.base_transform;
      curve = s.curve;
      matrix = s.matrix;
      weights = s.weights;
      residual = s.residual;
      residual_transform = s.residual_transform;
    }

-- D10: a picture merged in full, and merged from samples that had fewer planes
pub record MergedBoth (s : Setting) (rh rr pixels : ℕ) (base base' residual residual' : List ℤ) (finished shown : List ℕ) : Type 0 where
  pub straight : s.curve ≡ Straight
  pub unmixed : s.matrix ≡ None
  pub fewer : rh ≤ s.rh
  pub fewer_too : rr ≤ s.rr
  pub room : ℕ
  pub full : Merged s pixels base residual [] room finished
  pub preview_room : ℕ
  pub preview : Merged (with_planes rh rr s) pixels base' residual' [] preview_room shown

-- D10: what the samples of pixel p owe, with so many planes left
abbrev pub Owes : Setting → ℕ → ℕ → List ℤ → List ℤ → ℕ → Pixel ℕ → Type 0
Owes s left pixels full preview p e =
    (c : ℕ) → c < s.components → apart (2 ^ left) (get_or full (c * pixels + p) (pos 0)) (get_or preview (c * pixels + p) (pos 0)) ≤ component c e

-- D10: where base and residual owe e and r, the result owes this
abbrev pub ResultsOwe : Type 0
ResultsOwe =
    (s : Setting) (rh rr pixels : ℕ) (base base' residual residual' : List ℤ) (finished shown : List ℕ) → MergedBoth s rh rr pixels base base' residual residual' finished shown
    → (p : ℕ) → p < pixels → (e r : Pixel ℕ) → Owes s (s.rh - rh) pixels base base' p e → Owes s (s.rr - rr) pixels residual residual' p r
    → (c : ℕ) → c < s.components
    → apart 1 (pos (get_or finished (c * pixels + p) 0)) (pos (get_or shown (c * pixels + p) 0)) ≤ owed_base s rh e c + owed_residual s s.residual r c

-- D10: and less where there is no residual, or the same in both
abbrev pub BaseOwes : Type 0
BaseOwes =
    (s : Setting) (rh pixels : ℕ) (base base' residual : List ℤ) (finished shown : List ℕ) → MergedBoth s rh s.rr pixels base base' residual residual finished shown
    → (p : ℕ) → p < pixels → (e : Pixel ℕ) → Owes s (s.rh - rh) pixels base base' p e
    → (c : ℕ) → c < s.components → apart 1 (pos (get_or finished (c * pixels + p) 0)) (pos (get_or shown (c * pixels + p) 0)) ≤ owed_base s rh e c

-- D10: and where the full picture is merged, each preview is, from as many samples, whatever they are
abbrev pub ResultsAreGiven : Type 0
ResultsAreGiven =
    (s : Setting) (rh rr pixels : ℕ) (base base' residual residual' : List ℤ) (room : ℕ) (finished : List ℕ) → s.curve ≡ Straight → rh ≤ s.rh → rr ≤ s.rr
    → Merged s pixels base residual [] room finished → length base' ≡ length base → length residual' ≡ length residual
    → Merged (with_planes rh rr s) pixels base' residual' [] room (merged_picture (with_planes rh rr s) pixels base' residual' [])

-- D10: the base of a picture at level j: component after component as the transform hands it out, with blocks and quantisers of its own
abbrev pub base_at : ℕ → ℕ → ℕ → (ℕ → Both ℤ) → (ℕ → List ℕ) → List ℤ
base_at components j n values quantisers = join_to components (λ c. picture j n (whole n (values c)) (quantisers c))

-- D10: what the components owe at one place of their blocks
abbrev pub owed_at : ℕ → (ℕ → List ℕ) → ℕ → ℕ → Pixel ℕ
owed_at left quantisers y x = triple (owed left (quantisers 0) y x) (owed left (quantisers 1) y x) (owed left (quantisers 2) y x)

-- D10: quantisers 1, 2 and 3: 104.69, 209.38 and 314.07 for four planes left, and 8 and a half each for the roundings
abbrev pub OwedByOwnQuantisers : Type 0
OwedByOwnQuantisers = map (λ c. component c (owed_at 4 (λ i. replicate 64 (suc i)) 0 0)) (0 ∷ 1 ∷ 2 ∷ []) ≡ 113 ∷ 217 ∷ 322 ∷ []

-- D9, D10: all of it together, in grey or in colour: of any blocks within the ranges every result of every preview is so near
abbrev pub ResultsAreNear : Type 0
ResultsAreNear =
    (s : Setting) (j n : ℕ) (values : ℕ → Both ℤ) (quantisers : ℕ → List ℕ) (residual : List ℤ) → s.curve ≡ Straight → s.matrix ≡ None
    → in_ranges s (n * 64) ≡ true → plain s ≡ true → length residual ≡ residual_count s.residual (samples s (n * 64)) → j ≤ s.rh
    → ((c : ℕ) → c < s.components → Sound s.rh n (values c) (quantisers c))
    → (block y x c : ℕ) → block < n → y < 8 → x < 8 → c < s.components
    → apart 1
    (pos (get_or (merged_picture s (n * 64) (base_at s.components s.rh n values quantisers) residual []) (c * (n * 64) + (block * 64 + (y * 8 + x))) 0))
    (pos (get_or (merged_picture (with_planes j s.rr s) (n * 64) (base_at s.components j n (λ i. level_of s.rh (values i) j) quantisers) residual [])
    (c * (n * 64) + (block * 64 + (y * 8 + x))) 0))
    ≤ owed_base s j (owed_at (s.rh - j) quantisers y x) c

-- D10: with one plane more of the base, and where no sample of base and residual owes more than before, a result never owes more
abbrev pub ResultsFall : Type 0
ResultsFall =
    (s : Setting) (rh : ℕ) (e e' r r' : Pixel ℕ) → ((c : ℕ) → component c e' ≤ component c e) → ((c : ℕ) → component c r' ≤ component c r)
    → (c : ℕ) → owed_base s (suc rh) e' c + owed_residual s s.residual r' c ≤ owed_base s rh e c + owed_residual s s.residual r c

-- ---- no smaller numbers will do

-- D9: one block, its 63 AC values alike
abbrev pub alike : ℤ → ℤ → Both ℤ
alike dc ac = record { dc = dc ∷ []; ac = replicate 63 ac }

-- D9: how far the full picture of four planes is from the preview after j of them, at row 0 and column 0
abbrev pub gap : List ℕ → ℕ → Both ℤ → ℤ
gap quantisers j full = sample_at 4 (whole 1 full) quantisers 0 0 0 -ℤ pos (2 ^ (4 - j)) *ℤ sample_at j (whole 1 (level_of 4 full j)) quantisers 0 0 0

-- D9: after 3, 2, 1 and 0 planes, with quantisers 1
abbrev pub OwedIsReached : Type 0
OwedIsReached =
    (gap (replicate 64 1) 3 (alike (pos 7) (pos 1)) ∷ gap (replicate 64 1) 2 (alike (pos 23) (pos 7)) ∷ gap (replicate 64 1) 1 (alike (pos 47) (pos 15))
    ∷ gap (replicate 64 1) 0 (alike (pos 863) (pos 799)) ∷ [] ≡ map pos (8 ∷ 23 ∷ 53 ∷ 113 ∷ []))
    × (map (λ left. owed left (replicate 64 1) 0 0) (1 ∷ 2 ∷ 3 ∷ 4 ∷ []) ≡ 8 ∷ 23 ∷ 53 ∷ 113 ∷ [])

-- D10: at Rb 4, four planes of the base and of the residual, both transforms alike
abbrev pub in_full : ℕ → Colour → Residual → Setting
in_full components colour residual =
    record {
      rb = 4;
      rh = 4;
      rr = 4;
      components = components;
      base_transform = colour;
      curve = Straight;
      matrix = None;
      weights = replicate 9 (pos 0);
      residual = residual;
      residual_transform = colour;
    }

-- D10: merged in full and from the base's preview without a plane; each sample of the base owes at most 113, that is, all that blocks with quantisers 1 can owe
abbrev pub reaches : List Case
reaches =
    -- a grey pixel: 255, the preview's white, for 3967: 128
    (merged (in_full 1 Identity Absent) 1 (pos 3967 ∷ []) [] [] 1 gives naturals (given (3967 ∷ [])))
    ∷ (merged (with_planes 0 4 (in_full 1 Identity Absent)) 1 (pos 255 ∷ []) [] [] 1 gives naturals (given (4095 ∷ [])))
    -- with the residual 2041 in both
    ∷ (merged (in_full 1 Identity Present) 1 (pos 3967 ∷ []) (pos 2041 ∷ []) [] 1 gives naturals (given (3960 ∷ [])))
    ∷ (merged (with_planes 0 4 (in_full 1 Identity Present)) 1 (pos 255 ∷ []) (pos 2041 ∷ []) [] 1 gives naturals (given (4088 ∷ [])))
    -- with a residual that owes 113 itself, 1935 and without its planes 128: 128 and 113
    ∷ (merged (in_full 1 Identity Present) 1 (pos 3967 ∷ []) (pos 1935 ∷ []) [] 1 gives naturals (given (3854 ∷ [])))
    ∷ (merged (with_planes 0 0 (in_full 1 Identity Present)) 1 (pos 255 ∷ []) (pos 128 ∷ []) [] 1 gives naturals (given (4095 ∷ [])))
    -- three components that owe 113, 53 and 23: 128, 68, 38
    ∷ (merged (in_full 3 Identity Absent) 1 (pos 3967 ∷ pos 4027 ∷ pos 4057 ∷ []) [] [] 3 gives naturals (given (3967 ∷ 4027 ∷ 4057 ∷ [])))
    ∷ (merged (with_planes 0 4 (in_full 3 Identity Absent)) 1 (pos 255 ∷ pos 255 ∷ pos 255 ∷ []) [] [] 3 gives naturals (given (4095 ∷ 4095 ∷ 4095 ∷ [])))
    -- three pixels by the transform: red of the first owes 294, green of the second 256, blue of the third 336
    ∷ (merged (in_full 3 Transform Absent) 3 (pos 2815 ∷ pos 3967 ∷ pos 3903 ∷ pos 2048 ∷ pos 1985 ∷ pos 1967 ∷ pos 2751 ∷ pos 2257 ∷ pos 2048 ∷ []) [] [] 9
    gives naturals (given (3801 ∷ 4095 ∷ 3903 ∷ 2313 ∷ 3839 ∷ 3931 ∷ 2815 ∷ 3855 ∷ 3759 ∷ [])))
    ∷ (merged (with_planes 0 4 (in_full 3 Transform Absent)) 3 (pos 183 ∷ pos 255 ∷ pos 251 ∷ pos 128 ∷ pos 117 ∷ pos 130 ∷ pos 179 ∷ pos 134 ∷ pos 128 ∷ []) [] [] 9
    gives naturals (given (4095 ∷ 4095 ∷ 4031 ∷ 2361 ∷ 4095 ∷ 4015 ∷ 2939 ∷ 3790 ∷ 4095 ∷ [])))
    -- red again, with a residual by its transform that owes 113 three times: 294 and 272
    ∷ (merged (in_full 3 Transform Present) 1 (pos 2815 ∷ pos 2048 ∷ pos 2751 ∷ []) (pos 1487 ∷ pos 1327 ∷ pos 1327 ∷ []) [] 3 gives naturals (given (2229 ∷ 2515 ∷ 976 ∷ [])))
    ∷ (merged (with_planes 0 0 (in_full 3 Transform Present)) 1 (pos 183 ∷ pos 128 ∷ pos 179 ∷ []) (pos 100 ∷ pos 90 ∷ pos 90 ∷ []) [] 3 gives naturals (given (2795 ∷ 2556 ∷ 1414 ∷ [])))
    ∷ []

-- D10: what the law allows there, line by line
abbrev pub ResultsAreReached : Type 0
ResultsAreReached =
    Hold reaches
    × (owed_base (in_full 1 Identity Absent) 0 (single 113) 0 ∷ owed_residual (in_full 1 Identity Present) Present (single 113) 0 ∷ [] ≡ 128 ∷ 113 ∷ [])
    × (map (owed_base (in_full 3 Identity Absent) 0 (triple 113 53 23)) (0 ∷ 1 ∷ 2 ∷ []) ≡ 128 ∷ 68 ∷ 38 ∷ [])
    × (map (owed_base (in_full 3 Transform Absent) 0 (single 113)) (0 ∷ 1 ∷ 2 ∷ []) ≡ 294 ∷ 256 ∷ 336 ∷ [])
    × (owed_residual (in_full 3 Transform Present) Present (single 113) 0 ≡ 272)

-- D10: from blocks to results, at Rb 4 and without a residual: the result of a sample, and how far the full picture's is from the preview's
abbrev pub result_of_sample : ℕ → ℤ → ℤ
result_of_sample rh sample = pos (component 0 (steps.merged (with_planes rh 4 (in_full 1 Identity Absent)) [] (single sample) (single (pos 0))))

abbrev pub result_gap : ℕ → Both ℤ → ℕ
result_gap j full = apart 1 (result_of_sample 4 (sample_at 4 (whole 1 full) (replicate 64 1) 0 0 0)) (result_of_sample j (sample_at j (whole 1 (level_of 4 full j)) (replicate 64 1) 0 0 0))

-- D10: after 3, 2, 1 and 0 planes, with quantisers 1: 9, 26, 59 and 126 of the 9, 26, 60 and 128 that are allowed. DC is divided downward, and so lacks nothing on this side
abbrev pub ReachedFromBlocks : Type 0
ReachedFromBlocks =
    (result_gap 3 (alike (pos 16358) (negsuc 0)) ∷ result_gap 2 (alike (pos 16992) (negsuc 14)) ∷ result_gap 1 (alike (pos 16288) (negsuc 6)) ∷ result_gap 0 (alike (pos 16192) (negsuc 14)) ∷ []
    ≡ 9 ∷ 26 ∷ 59 ∷ 126 ∷ [])
    × (map (λ j. owed_base (in_full 1 Identity Absent) j (single (owed (4 - j) (replicate 64 1) 0 0)) 0) (3 ∷ 2 ∷ 1 ∷ 0 ∷ []) ≡ 9 ∷ 26 ∷ 60 ∷ 128 ∷ [])

-- ---- by these laws, at Rb 4 and with quantisers 1

-- D10: the results of a picture whose base is at level j
abbrev pub results_at : ℕ → ℕ → Colour → Residual → ℕ → (ℕ → Both ℤ) → List ℤ → List ℕ
results_at j components colour residual n values rest =
    merged_picture (with_planes j 4 (in_full components colour residual)) (n * 64) (base_at components j n values (λ c. replicate 64 1)) rest []

-- D10: with none of four planes read no component of a pixel is further off than 336 of 4095, in grey or in colour, whatever the picture
abbrev pub ResultsShown : Type 0
ResultsShown =
    (components n : ℕ) (colour : Colour) (residual : Residual) (values : ℕ → Both ℤ) (rest : List ℤ) → in_ranges (in_full components colour residual) (n * 64) ≡ true
    → plain (in_full components colour residual) ≡ true → length rest ≡ residual_count residual (components * (n * 64)) → ((c : ℕ) → c < components → Within 4 n (values c))
    → (p c : ℕ) → p < n * 64 → c < components
    → apart 1 (pos (get_or (results_at 4 components colour residual n values rest) (c * (n * 64) + p) 0))
    (pos (get_or (results_at 0 components colour residual n (λ i. level_of 4 (values i) 0) rest) (c * (n * 64) + p) 0))
    ≤ 336

-- D9, D10: all of these
pub record PreviewLaws : Type 0 where
  pub laid_out : LaidOut
  pub samples : SamplesOwe
  pub handed : PreviewsAreGiven
  pub largest : OwedByLargest
  pub near : PicturesAreNear
  pub falls : OwedFalls
  pub reached : OwedIsReached
  pub results : ResultsOwe
  pub base : BaseOwes
  pub results_handed : ResultsAreGiven
  pub own_quantisers : OwedByOwnQuantisers
  pub results_near : ResultsAreNear
  pub results_fall : ResultsFall
  pub results_reached : ResultsAreReached
  pub from_blocks : ReachedFromBlocks
  pub results_shown : ResultsShown
