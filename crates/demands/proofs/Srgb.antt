-- The sRGB table is the one that its rule gives. Assumes nothing.
use Rattle.merge_laws.proofs.SrgbRule.{srgb_long, srgb_rule_lem, srgb_one}
use Rattle.demands.specs.Srgb.{TableByRule}

pub table_by_rule : TableByRule
table_by_rule = record { long = srgb_long; follows = srgb_rule_lem; only = λ c t h r. srgb_one c t _ r (srgb_rule_lem c h) }
