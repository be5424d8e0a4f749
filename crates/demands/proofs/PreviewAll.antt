-- What a preview owes: all the laws. Assumes nothing.
use Rattle.demands.specs.Preview.{PreviewLaws}
use Rattle.demands.proofs.Preview.{laid_out_lem, samples_owe, previews_are_given, owed_by_largest, owed_falls, owed_is_reached}
use Rattle.demands.proofs.PreviewPictures.{pictures_are_near}
use Rattle.demands.proofs.PreviewResults.{results_owe, base_owes, results_fall_lem, results_are_reached, reached_from_blocks}
use Rattle.demands.proofs.PreviewLaws.{results_are_given, owed_by_own_quantisers}
use Rattle.demands.proofs.PreviewNear.{results_are_near}
use Rattle.demands.proofs.PreviewShown.{results_shown_lem}

-- ---- all of them

pub preview_laws : PreviewLaws
preview_laws = record {
  laid_out = laid_out_lem;
  samples = samples_owe;
  handed = previews_are_given;
  largest = owed_by_largest;
  near = pictures_are_near;
  falls = owed_falls;
  reached = owed_is_reached;
  results = results_owe;
  base = base_owes;
  results_handed = results_are_given;
  own_quantisers = owed_by_own_quantisers;
  results_near = results_are_near;
  results_fall = results_fall_lem;
  results_reached = results_are_reached;
  from_blocks = reached_from_blocks;
  results_shown = results_shown_lem;
}
