-- `listing_text::glyph` meets its contract.
use borrow.Author.Tests.{lt-ltb, le-ltb}
use Rattle.box_rules.specs.Text.{glyph}
use Rattle.listing_text.proofs.glyph.Goals as goal

pub returns-then-d-lt10 : goal.returns-then-d-lt10
unfolding glyph
returns-then-d-lt10 c = simp (lt-ltb _ _ c.if-d-lt10.true)

pub returns-else-d-lt10 : goal.returns-else-d-lt10
unfolding glyph
returns-else-d-lt10 c = simp (le-ltb _ _ c.if-d-lt10.false)
