-- M4 to M7: the merge of a picture by index, and what the call comes to.
use Rattle.std.specs.Prelude.{cond, List, ℕ, ◌+◌, eqb, ℤ, pos, length, get_or}
use Rattle.laws.specs.Index.{tab, join_to}
use Rattle.laws.specs.First.{first_fail}
use Rattle.answers.specs.Verdict.{Verdict, need, unless, fitting}
use Rattle.merge_rules.specs.Near.{top}
use Rattle.merge_rules.specs.declared.Setting.{Setting}
use Rattle.merge_rules.specs.Pixels.{Pixel, single, triple, component}
use Rattle.merge_rules.specs.Steps.{merged}
use Rattle.merge_rules.specs.Settings.{in_ranges, plain, srgb_allowed, lengths_right, entry_right}

-- ---- the picture

-- M4: pixel p of a lent picture: "component planes follow one another"
unfoldable pub pixel_at : ℕ → ℕ → List ℤ → ℕ → Pixel ℤ
pixel_at components pixels xs p =
    cond (eqb components 1) (single (get_or xs p (pos 0)))
    (triple (get_or xs p (pos 0)) (get_or xs (pixels + p) (pos 0)) (get_or xs (pixels + pixels + p) (pos 0)))

-- M4: pixel p of the result
unfoldable pub merged_at : Setting → ℕ → List ℤ → List ℤ → List ℕ → ℕ → Pixel ℕ
merged_at s pixels base residual table p = merged s table (pixel_at s.components pixels base p) (pixel_at s.components pixels residual p)

-- M4: the layout of the result: "the result is one 16-bit slice. In each, component planes follow one another"
unfoldable pub planes : ℕ → ℕ → (ℕ → Pixel ℕ) → List ℕ
planes components pixels pixel = join_to components (λ k. tab pixels (λ p. component k (pixel p)))

-- M4, M6: every pixel of the result, laid out so
unfoldable pub merged_picture : Setting → ℕ → List ℤ → List ℤ → List ℕ → List ℕ
merged_picture s pixels base residual table = planes s.components pixels (merged_at s pixels base residual table)

-- ---- the call: "Merge: 20, 21, 11, 9"

-- N10, M6: its tests, in the order of these lines, in front of a result, however that is laid out
unfoldable pub merge_tests : Setting → ℕ → List ℤ → List ℤ → List ℕ → ℕ → List ℕ → Verdict ℕ
merge_tests s pixels base residual table room result =
    need (in_ranges s pixels) 20 0
    (need (plain s) 20 0
    (need (srgb_allowed s) 20 0
    (need (lengths_right s pixels base residual table) 21 0
    (unless 11 (first_fail (length table) (entry_right (top s.rb) table))
    (fitting room result)))))

-- N10: the call, its result being the picture in component planes
unfoldable pub merge : Setting → ℕ → List ℤ → List ℤ → List ℕ → ℕ → Verdict ℕ
merge s pixels base residual table room = merge_tests s pixels base residual table room (merged_picture s pixels base residual table)
