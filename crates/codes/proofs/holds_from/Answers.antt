-- `codes::holds_from` meets its contract: from the index on, a value is among the elements where one of them equals it. Assumes nothing.
use mathlib.Core.Path.{◌≡◌, refl, sym, ◌∙◌}
use mathlib.Core.List.{List, [], ◌∷◌}
use mathlib.Core.Bool.{Bool, true, false, cond, ◌||◌}
use Prim.Native.Nat.{ℕ}
use lib.Dec.{eqb}
use lib.ListN.{length-drop}
use lib.Seq.{take-length}
use borrow.Author.Tests.{le-ltb}
use Rattle.std.specs.List.{list_any}
use Rattle.bit_rules.specs.Table.{holds}
use Rattle.bit_rules.proofs.Tables.{holds_end}
use Rattle.codes.proofs.holds_from.Goals as goal

one_more : (t more : Bool) → t || more ≡ cond t true more
one_more true more = refl
one_more false more = refl

one_equals : (v : ℕ) (xs : List ℕ) → list_any (λ x. eqb x v) xs ≡ holds v xs
unfolding holds
one_equals v [] = refl
one_equals v (x ∷ xs) = let e = one_equals v xs in rw e (one_more (eqb x v) (holds v xs))

pub returns-then-from-values : goal.returns-then-from-values
returns-then-from-values c = c.contains.ensures.value ∙ rw (← (length-drop c.args.from c.args.values.now), take-length) (one_equals _ _)

pub returns-else-from-values : goal.returns-else-from-values
returns-else-from-values c = le-ltb _ _ c.if-from-values.false ∙ sym (holds_end _ _ _ c.if-from-values.false)
