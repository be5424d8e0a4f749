-- What `next_from` ensures, once its answer is known. Assumes nothing.
use Prim.Native.Nat.{ℕ}
use mathlib.Core.Path.{◌≡◌, subst}
use mathlib.Core.List.{List, [], ◌∷◌}
use mathlib.Core.Bool.{true, false}
use Rattle.answers.specs.declared.Refusal.{Refusal}
use Rattle.box_rules.specs.declared.Head.{Head}
use Rattle.box_rules.specs.declared.Step.TheVariants.{End, Skip, Meet, Broken}
use Rattle.packets.specs.declared.Mine.{Mine}
use Rattle.std.specs.Prelude.{Option, Some, None}
use Rattle.box_rules.specs.Walk.{step_at}
use Rattle.box_rules.specs.Packets.{packet, is_mine, mine, mine_from}
use Rattle.packets.specs.Code.{Met, NextIs}
use Rattle.box_rules.proofs.Walking.{packets_broken, packets_end, packets_meet, packets_skip}

module _ (file : List ℕ) (kind instance at : ℕ) where
  pub mine_end : step_at file at ≡ End → mine_from file kind instance at ≡ []
  unfolding mine_from mine
  mine_end e = rw (packets_end file at e)

  pub mine_broken : {r : Refusal} → step_at file at ≡ Broken r → mine_from file kind instance at ≡ []
  unfolding mine_from mine
  mine_broken e = rw (packets_broken file at e)

  pub mine_skip : {n : ℕ} → step_at file at ≡ Skip n → mine_from file kind instance at ≡ mine_from file kind instance n
  unfolding mine_from
  mine_skip e = rw (packets_skip file at e)

  pub mine_other : {head : Head} {start len n : ℕ} → step_at file at ≡ Meet head start len n → is_mine kind instance head ≡ false
      → mine_from file kind instance at ≡ mine_from file kind instance n
  unfolding mine_from mine
  mine_other e w = rw (packets_meet file at e, w)

  pub mine_met : {head : Head} {start len n : ℕ} → step_at file at ≡ Meet head start len n → is_mine kind instance head ≡ true
      → mine_from file kind instance at ≡ packet file head start len ∷ mine_from file kind instance n
  unfolding mine_from mine
  mine_met e w = rw (packets_meet file at e, w)

  -- what `next_from` ensures, once its answer is known
  pub met : {r : Option Mine} {m : Mine} → NextIs file kind instance at r → r ≡ Some m → Met file kind instance at m.head m.start m.len m.next
  met n e = subst (NextIs file kind instance at) e n

  pub gone : {r : Option Mine} → NextIs file kind instance at r → r ≡ None → mine_from file kind instance at ≡ []
  gone n e = subst (NextIs file kind instance at) e n
