-- What taking a bit comes to, by what was pending and coming; the laws of readers cite this and not how a source is made. Assumes nothing.
use mathlib.Core.Path.{◌≡◌, refl, ap, ◌∙◌}
use mathlib.Core.Logic.{◌⊎◌, inl, inr}
use mathlib.Core.Bool.{Bool, false}
use mathlib.Core.List.{List, [], ◌∷◌}
use Prim.Native.Nat.{ℕ, zero, suc, ◌+◌}
use native.Mathlib.Omega.{arith}
use lib.Dec.{eqb}
use lib.ListN.{length}
use borrow.Author.Tests.{eqb-true}
use Rattle.laws.proofs.Choices.{by_test}
use Rattle.bit_rules.specs.Digits.{digits}
use Rattle.bit_rules.specs.Source.{Source, Stop, Out, got, stopped, opened, after_ff, next_byte, take_from, take_bit}

-- the first of the bits in hand
pub record InHand (s : Source) (b : Bool) (t : Source) : Type 0 where
  pub pending : s.pending ≡ b ∷ t.pending
  pub coming : s.coming ≡ t.coming
  pub seen : t.seen ≡ s.seen
  pub last : t.last ≡ s.last

-- the first of a byte that is not FF
pub record OfByte (s : Source) (b : Bool) (t : Source) : Type 0 where
  pub byte : ℕ
  pub plain : eqb byte 255 ≡ false
  pub pending : s.pending ≡ []
  pub coming : s.coming ≡ byte ∷ t.coming
  pub bits : digits 8 byte ≡ b ∷ t.pending
  pub seen : t.seen ≡ s.seen + 1
  pub last : t.last ≡ s.seen

-- the first of FF, its 00 read with it
pub record OfFF (s : Source) (b : Bool) (t : Source) : Type 0 where
  pub pending : s.pending ≡ []
  pub coming : s.coming ≡ 255 ∷ 0 ∷ t.coming
  pub bits : digits 8 255 ≡ b ∷ t.pending
  pub seen : t.seen ≡ s.seen + 2
  pub last : t.last ≡ s.seen

-- 12: no byte is left, or FF alone; its offset is the end of the data
pub record Ended (s : Source) (x : Stop) : Type 0 where
  pub number : x.number ≡ 12
  pub pending : s.pending ≡ []
  pub offset : x.offset ≡ s.seen + length s.coming

-- 13: FF and another byte than 00; its offset is that of the FF
pub record Bare (s : Source) (x : Stop) : Type 0 where
  pub byte : ℕ
  pub rest : List ℕ
  pub number : x.number ≡ 13
  pub pending : s.pending ≡ []
  pub coming : s.coming ≡ 255 ∷ suc byte ∷ rest
  pub offset : s.seen ≡ x.offset

abbrev pub Took : Source → Out Bool → Type 0
Took s (got b t) = InHand s b t ⊎ (OfByte s b t ⊎ OfFF s b t)
Took s (stopped x) = Ended s x ⊎ Bare s x

pub took : (s : Source) → Took s (take_bit s)
unfolding digits take_bit take_from next_byte after_ff opened
took s = from s.pending refl
  where
    after_ff_lem : (d : List ℕ) → s.pending ≡ [] → s.coming ≡ 255 ∷ d → Took s (after_ff d s.seen)
    after_ff_lem [] e f = inl (record { number = refl; pending = e; offset = rw f })
    after_ff_lem (zero ∷ d) e f = inr (inr (record { pending = e; coming = f; bits = refl; seen = refl; last = refl }))
    after_ff_lem (suc v ∷ d) e f = inr (record { byte = v; rest = d; number = refl; pending = e; coming = f; offset = refl })

    next : (d : List ℕ) → s.pending ≡ [] → s.coming ≡ d → Took s (next_byte d s.seen)
    next [] e f = inl (record { number = refl; pending = e; offset = let z : s.seen ≡ s.seen + 0 = omega arith in z ∙ rw f })
    next (byte ∷ d) e f =
        by_test (Took s) (eqb byte 255) (λ q. after_ff_lem d e (f ∙ ap (λ (v : ℕ). v ∷ d) (eqb-true byte 255 q)))
        (λ q. inr (inl (record { byte = byte; plain = q; pending = e; coming = f; bits = refl; seen = refl; last = refl })))

    from : (p : List Bool) → s.pending ≡ p → Took s (take_from p s.coming s.seen s.last)
    from [] e = next s.coming e refl
    from (b ∷ p) e = inl (record { pending = e; coming = refl; seen = refl; last = refl })
