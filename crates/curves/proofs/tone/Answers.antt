-- `curves::tone` meets its contract: the straight curve is no negative number and fits 16 bits. Assumes nothing.
use mathlib.Core.Path.{◌≡◌, sym, subst, ◌∙◌}
use native.Mathlib.Omega.{arith}
use lib.Dec.{T}
use lib.IntN.{ℤ}
use lib.Signed.{non_neg}
use mir.Syntax.{w64}
use mir.Val.{to_z, of_z}
use Rattle.laws.proofs.Integers.{back}
use Rattle.merge_rules.specs.Curves.{straight}
use Rattle.curves.proofs.Laws.{straight_positive, straight_small}
use Rattle.curves.proofs.tone.Goals as goal

pub overflow_cast-result : goal.overflow_cast-result
overflow_cast-result c = let read : to_z w64 (of_z w64 c.straight.result) ≡ straight c.args.rb c.args.rh c.args.x = back w64 c.straight.result c.straight.type_inv ∙ c.straight.ensures.0 in
    rw (read) (
      subst (λ (z : ℤ). T (non_neg z)) (sym (straight_positive c.args.rb c.args.rh c.args.x)) tt,
      record { fits = omega (arith, straight_small c.args.rb c.args.rh c.args.x c.requires.0 c.requires.1.0 c.requires.1.1) },
    )

pub returns : goal.returns
returns c = let read : to_z w64 (of_z w64 c.straight.result) ≡ straight c.args.rb c.args.rh c.args.x = back w64 c.straight.result c.straight.type_inv ∙ c.straight.ensures.0 in
    rw (read) (sym (straight_positive c.args.rb c.args.rh c.args.x))
