-- `merge::try_merge` meets its contract: the tests' own promise, and the picture behind them. Assumes nothing.
use Rattle.merge_rules.specs.Picture.{merge}
use Rattle.merge_laws.proofs.Order.{picture_long}
use Rattle.merge.proofs.Testing.{tried_tests, tried_result}
use Rattle.merge.proofs.try_merge.Goals as goal

pub returns-in-Err : goal.returns-in-Err
unfolding merge
returns-in-Err c = tried_tests c.tested-o.ensures _ (picture_long _ _ _ _ _) c.in-Err.is

pub fill-requires : goal.fill-requires
fill-requires c = record { passed = c.tested-o.ensures.passed _ c.in_default.is; pixels_in_bounds = c.tested-o.ensures.fits _ c.in_default.is }

pub returns : goal.returns
unfolding merge
returns c = tried_result c.tested-o.ensures _ (picture_long _ _ _ _ _) c.in_default.is c.fill.ensures
