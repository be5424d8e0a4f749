-- Level 4: what follows, of our calls. Assumes nothing.
use Rattle.demands.specs.Retired.{FourShown}
use Rattle.demands.proofs.Retired.{level_four}
use Rattle.demands.proofs.RetiredShown.{shown}

pub four_shown : FourShown
four_shown = shown level_four
