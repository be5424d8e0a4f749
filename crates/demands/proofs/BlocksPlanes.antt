-- What a plane's rows say of it, DC and AC. Assumes nothing.
use mathlib.Core.Path.{◌≡◌, refl, ap, ◌∙◌}
use mathlib.Core.Bool.{Bool, false}
use mathlib.Core.List.{List, [], ◌∷◌}
use Rattle.std.specs.Prelude.{Option, None}
use Prim.Native.Nat.{ℕ, suc}
use lib.IntN.{ℤ}
use lib.ListN.{length}
use Rattle.answers.specs.Verdict.{refusal_at}
use Rattle.answers.specs.declared.Refusal.{Refusal}
use Rattle.bit_rules.specs.Source.{Source, Out, got, stopped, take_bit, only_padding}
use Rattle.bit_rules.specs.Reader.{and_then, done}
use Rattle.bit_rules.specs.Table.{Table}
use Rattle.plane_rules.specs.Plane.{onto, in_block}
use Rattle.plane_rules.specs.Dc.{new_dc, dc_blocks}
use Rattle.plane_rules.specs.Task.{Task}
use Rattle.plane_rules.specs.AcRead.{ac_block, ac_blocks}
use Rattle.plane_rules.proofs.DcBlocks.{dc_first}
use Rattle.demands.specs.Blocks.{StopsAt, LeftOver, one_dc, one_ac}
use Rattle.demands.proofs.Blocks.{End, over, halted, end_of, end_onto, went, stops_at, at_stops, left_over, over_left}

-- ---- DC and AC planes

dc_nil : (k : ℕ) (u : Unit {0}) (s : Source) → end_of (dc_blocks k [] s) ≡ over s
unfolding dc_blocks
dc_nil k u s = refl

dc_cons : (k : ℕ) (u : Unit {0}) (c : ℤ) (values : List ℤ) (s : Source) → end_of (dc_blocks k (c ∷ values) s) ≡ went k (λ v t. end_of (dc_blocks (suc k) values t)) (one_dc u c values s)
dc_cons k u c values s = ap end_of (dc_first k c values s) ∙ go (take_bit s)
  where
    go : (o : Out Bool) → end_of (in_block k (λ b t. onto (new_dc c b ∷ []) (dc_blocks (suc k) values t)) o) ≡ went k (λ v t. end_of (dc_blocks (suc k) values t)) (and_then (λ (b : Bool). done (tt {0})) o)
    go (got b t) = end_onto (new_dc c b ∷ []) (dc_blocks (suc k) values t)
    go (stopped x) = refl

module _ (codes : Table) where
  ac_nil : (k : ℕ) (o : Option Task) (s : Source) → end_of (ac_blocks codes k o [] s) ≡ over s
  unfolding ac_blocks
  ac_nil k o s = refl

  ac_cons : (k : ℕ) (o : Option Task) (b : List ℤ) (bs : List (List ℤ)) (s : Source)
      → end_of (ac_blocks codes k o (b ∷ bs) s) ≡ went k (λ p t. end_of (ac_blocks codes (suc k) p bs t)) (one_ac codes o b bs s)
  unfolding ac_blocks
  ac_cons k o b bs s = go (ac_block codes (suc (length bs)) o b s)
    where
      go : (x : Out (List ℤ × Option Task))
          → end_of (in_block k (λ r t. onto r.0 (ac_blocks codes (suc k) r.1 bs t)) x) ≡ went k (λ p t. end_of (ac_blocks codes (suc k) p bs t)) (and_then (λ (r : List ℤ × Option Task). done r.1) x)
      go (got r t) = end_onto r.0 (ac_blocks codes (suc k) r.1 bs t)
      go (stopped x) = refl

-- ---- what a plane's rows say of it

module _ (values : List ℤ) (s₀ : Source) where
  abbrev dc_end : ℕ → Unit {0} → List ℤ → Source → End
  dc_end k u vs s = end_of (dc_blocks k vs s)

  pub dc_stops_lem : (r : Refusal) → end_of (dc_blocks 0 values s₀) ≡ halted r → StopsAt one_dc tt values s₀ r.number r.place r.second
  dc_stops_lem = stops_at one_dc dc_end dc_nil dc_cons tt values s₀

  pub stops_dc : (n p q : ℕ) → StopsAt one_dc tt values s₀ n p q → end_of (dc_blocks 0 values s₀) ≡ halted (refusal_at n p q)
  stops_dc = at_stops one_dc dc_end dc_nil dc_cons tt values s₀

  pub dc_left : (s : Source) → end_of (dc_blocks 0 values s₀) ≡ over s → only_padding s ≡ false → LeftOver one_dc tt values s₀ s.seen
  dc_left = left_over one_dc dc_end dc_nil dc_cons tt values s₀

  pub left_dc : (p : ℕ) (h : LeftOver one_dc tt values s₀ p) → end_of (dc_blocks 0 values s₀) ≡ over h.source
  left_dc = over_left one_dc dc_end dc_nil dc_cons tt values s₀

module _ (codes : Table) (bs : List (List ℤ)) (s₀ : Source) where
  abbrev ac_end : ℕ → Option Task → List (List ℤ) → Source → End
  ac_end k o later s = end_of (ac_blocks codes k o later s)

  pub ac_stops_lem : (r : Refusal) → end_of (ac_blocks codes 0 None bs s₀) ≡ halted r → StopsAt (one_ac codes) None bs s₀ r.number r.place r.second
  ac_stops_lem = stops_at (one_ac codes) ac_end (ac_nil codes) (ac_cons codes) None bs s₀

  pub stops_ac : (n p q : ℕ) → StopsAt (one_ac codes) None bs s₀ n p q → end_of (ac_blocks codes 0 None bs s₀) ≡ halted (refusal_at n p q)
  stops_ac = at_stops (one_ac codes) ac_end (ac_nil codes) (ac_cons codes) None bs s₀

  pub ac_left : (s : Source) → end_of (ac_blocks codes 0 None bs s₀) ≡ over s → only_padding s ≡ false → LeftOver (one_ac codes) None bs s₀ s.seen
  ac_left = left_over (one_ac codes) ac_end (ac_nil codes) (ac_cons codes) None bs s₀

  pub left_ac : (p : ℕ) (h : LeftOver (one_ac codes) None bs s₀ p) → end_of (ac_blocks codes 0 None bs s₀) ≡ over h.source
  left_ac = over_left (one_ac codes) ac_end (ac_nil codes) (ac_cons codes) None bs s₀
