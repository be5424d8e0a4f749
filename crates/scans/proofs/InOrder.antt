-- Numbers that read 1 to n, or rise, in file order. Assumes nothing.
use Prim.Native.Nat.{ℕ, suc, ◌≤◌, ◌<◌}
use mathlib.Core.Path.{◌≡◌, refl, ap, ap₂, ◌∙◌}
use mathlib.Core.List.{List, [], ◌∷◌}
use mathlib.Core.Bool.{true, cond}
use native.Mathlib.Omega.{arith}
use lib.ListN.{length}
use lib.Dec.{eqb, leb}
use borrow.Author.Tests.{eqb-true, leb-true}
use Rattle.std.specs.Prelude.{None}
use Rattle.laws.proofs.Choices.{by_test, cond_left, cond_right}
use Rattle.box_rules.specs.Packets.{Packet}
use Rattle.box_rules.specs.Numbers.{numbers, count, first_twice, first_missing}
use Rattle.box_laws.proofs.Smallest.{twice_none}
use Rattle.box_rules.specs.Box.{joined}
use Rattle.box_rules.specs.Order.{counting, payloads}
use Rattle.scans.specs.Code.{in_order, rises}
use Rattle.box_laws.proofs.Reordering.{numbers_length}
use Rattle.box_laws.proofs.Order.{low, reads_joined, reads_missing, reads_twice}

order_reads : (ns : List ℕ) (q : ℕ) → in_order q ns ≡ true → ns ≡ counting q (length ns)
unfolding in_order counting
order_reads [] q h = refl
order_reads (x ∷ r) q h =
    ap₂ (λ (y : ℕ) (l : List ℕ). y ∷ l) (eqb-true x q (cond_left (eqb x q) (in_order (suc q) r) h))
    (order_reads r (suc q) (cond_right (eqb x q) (in_order (suc q) r) h))

module _ (ps : List Packet) (h : in_order 1 (numbers ps) ≡ true) where
  in_order_lem : numbers ps ≡ counting 1 (length ps)
  in_order_lem = order_reads (numbers ps) 1 h ∙ ap (counting 1) (numbers_length ps)

  pub order_twice : first_twice (numbers ps) ≡ None
  order_twice = reads_twice ps in_order_lem

  pub order_missing : first_missing (numbers ps) ≡ None
  order_missing = reads_missing ps in_order_lem

  pub order_joined : joined ps ≡ payloads ps
  order_joined = reads_joined ps in_order_lem

-- numbers that rise: none stands twice
rises_from : (ns : List ℕ) (a : ℕ) → rises a ns ≡ true → (q : ℕ) → (count q ns ≤ 1) × (q < a → count q ns ≡ 0)
unfolding rises count
rises_from [] a h q = (omega arith, λ l. refl)
rises_from (x ∷ r) a h q =
    let low : a ≤ x = leb-true a x (cond_left (leb a x) (rises (suc x) r) h) in
    step (rises_from r (suc x) (cond_right (leb a x) (rises (suc x) r) h) q) low
  where
    step : (count q r ≤ 1) × (q < suc x → count q r ≡ 0) → a ≤ x → (cond (eqb x q) (suc (count q r)) (count q r) ≤ 1) × (q < a → cond (eqb x q) (suc (count q r)) (count q r) ≡ 0)
    step i low = by_test (λ (k : ℕ). (k ≤ 1) × (q < a → k ≡ 0)) (eqb x q)
        (λ e. let z = eqb-true x q e in let n = i.1 (omega arith) in (omega arith, λ l. absurd (omega arith)))
        (λ e. (i.0, λ l. i.1 (omega arith)))

pub rises_twice : (ns : List ℕ) → rises 0 ns ≡ true → first_twice ns ≡ None
rises_twice ns h = twice_none ns (λ q. (rises_from ns 0 h q).0)
