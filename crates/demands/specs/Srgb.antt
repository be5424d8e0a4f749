-- M14, the sRGB table by its rule: "The sRGB table has 256 entries t." The merge takes the table; this says that it is the rule's.
use Rattle.std.specs.Prelude.{◌≡◌, ℕ, ◌<◌, T, length, get_or}
use Rattle.merge_rules.specs.Srgb.{srgb, srgb_rule}

-- M14: each entry follows the rule, and no other number does
pub record TableByRule : Type 0 where
  pub long : length srgb ≡ 256
  pub follows : (c : ℕ) → c < 256 → T (srgb_rule c (get_or srgb c 0))
  pub only : (c t : ℕ) → c < 256 → T (srgb_rule c t) → t ≡ get_or srgb c 0
