-- Reading blocks one after another stops exactly where `StopsAt` says, or leaves what `LeftOver` speaks of. Assumes nothing.
use mathlib.Core.Path.{◌≡◌, refl, sym, ap, ◌∙◌}
use mathlib.Core.Bool.{false}
use mathlib.Core.List.{List, [], ◌∷◌}
use Prim.Native.Nat.{ℕ, suc}
use native.Mathlib.Omega.{arith}
use lib.IntN.{ℤ}
use Rattle.answers.specs.Verdict.{refusal_at}
use Rattle.answers.specs.declared.Refusal.{Refusal}
use Rattle.bit_rules.specs.Source.{Source, Out, got, stopped, only_padding}
use Rattle.plane_rules.specs.Plane.{Plane, read, refusing, onto}
use Rattle.demands.specs.Blocks.{Behind, begun, further, StopsAt, LeftOver}

-- how the blocks of a plane ended: with these data left, or with a refusal
pub data End : Type 0 where
  over : Source → End
  halted : Refusal → End

abbrev pub end_of : Plane → End
end_of (read values s) = over s
end_of (refusing r) = halted r

pub over_halted : {s : Source} {r : Refusal} → over s ≡ halted r → ⊥
over_halted e = let z : ◌≡◌ {A = ℕ} 0 1 = cc in omega arith

pub over_one : {s t : Source} → over s ≡ over t → s ≡ t
over_one e = cc

pub halted_one : {r : Refusal} {n p q : ℕ} → halted r ≡ halted (refusal_at n p q) → (n ≡ r.number) × (p ≡ r.place) × (q ≡ r.second)
halted_one {r} {n} {p} {q} e = let same : r ≡ refusal_at n p q = cc in rw same (refl, refl, refl)

pub end_onto : (values : List ℤ) (p : Plane) → end_of (onto values p) ≡ end_of p
unfolding onto
end_onto values (read more s) = refl
end_onto values (refusing r) = refl

-- one block, and how it goes on
abbrev pub went : {A : Type 0} → ℕ → (A → Source → End) → Out A → End
went k f (got o t) = f o t
went k f (stopped x) = halted (refusal_at x.number k x.offset)

module _ {A B : Type 0} (one : A → B → List B → Source → Out A) (end : ℕ → A → List B → Source → End)
    (nil : (k : ℕ) (o : A) (s : Source) → end k o [] s ≡ over s)
    (cons : (k : ℕ) (o : A) (b : B) (bs : List B) (s : Source) → end k o (b ∷ bs) s ≡ went k (λ o' t. end (suc k) o' bs t) (one o b bs s))
    (o₀ : A) (bs₀ : List B) (s₀ : Source) where
  alike : {p : ℕ} {o : A} {bs : List B} {s : Source} → Behind one o₀ bs₀ s₀ p o bs s → end p o bs s ≡ end 0 o₀ bs₀ s₀
  alike begun = refl
  alike (further {p} {o} {o'} {b} {bs} {s} {t} h e) = sym (cons p o b bs s ∙ ap (went p (λ o' t. end (suc p) o' bs t)) e) ∙ alike h

  stopped_at : (bs : List B) (p : ℕ) (o : A) (s : Source) → Behind one o₀ bs₀ s₀ p o bs s → (r : Refusal) → end p o bs s ≡ halted r → StopsAt one o₀ bs₀ s₀ r.number r.place r.second
  stopped_at [] p o s h r e = absurd (over_halted (sym (nil p o s) ∙ e))
  stopped_at (b ∷ bs) p o s h r e = go (λ o' t. stopped_at bs (suc p) o' t) (one o b bs s) refl
    where
      go : ((o' : A) (t : Source) → Behind one o₀ bs₀ s₀ (suc p) o' bs t → (r : Refusal) → end (suc p) o' bs t ≡ halted r → StopsAt one o₀ bs₀ s₀ r.number r.place r.second)
          → (x : Out A) → one o b bs s ≡ x → StopsAt one o₀ bs₀ s₀ r.number r.place r.second
      go on (got o' t) q = on o' t (further h q) r (sym (cons p o b bs s ∙ ap (went p (λ o' t. end (suc p) o' bs t)) q) ∙ e)
      go on (stopped x) q =
          let w : halted (refusal_at x.number p x.offset) ≡ halted r = sym (cons p o b bs s ∙ ap (went p (λ o' t. end (suc p) o' bs t)) q) ∙ e in
          let same : refusal_at x.number p x.offset ≡ r = cc in
          rw (← same) (record { opened = o; block = b; later = bs; source = s; behind = h; stops = q })

  record Whole (s : Source) : Type 0 where
    count : ℕ
    opened : A
    behind : Behind one o₀ bs₀ s₀ count opened [] s

  all_read : (bs : List B) (p : ℕ) (o : A) (s : Source) → Behind one o₀ bs₀ s₀ p o bs s → (t : Source) → end p o bs s ≡ over t → Whole t
  all_read [] p o s h t e = let w : over s ≡ over t = sym (nil p o s) ∙ e in let same : s ≡ t = cc in rw (← same) (record { count = p; opened = o; behind = h })
  all_read (b ∷ bs) p o s h t e = go (λ o' u. all_read bs (suc p) o' u) (one o b bs s) refl
    where
      go : ((o' : A) (u : Source) → Behind one o₀ bs₀ s₀ (suc p) o' bs u → (t : Source) → end (suc p) o' bs u ≡ over t → Whole t) → (x : Out A) → one o b bs s ≡ x → Whole t
      go on (got o' u) q = on o' u (further h q) t (sym (cons p o b bs s ∙ ap (went p (λ o' t. end (suc p) o' bs t)) q) ∙ e)
      go on (stopped x) q = absurd (over_halted (sym e ∙ (cons p o b bs s ∙ ap (went p (λ o' t. end (suc p) o' bs t)) q)))

  -- both ways

  pub stops_at : (r : Refusal) → end 0 o₀ bs₀ s₀ ≡ halted r → StopsAt one o₀ bs₀ s₀ r.number r.place r.second
  stops_at r e = stopped_at bs₀ 0 o₀ s₀ begun r e

  pub at_stops : (n p q : ℕ) → StopsAt one o₀ bs₀ s₀ n p q → end 0 o₀ bs₀ s₀ ≡ halted (refusal_at n p q)
  at_stops n p q h =
      sym (alike h.behind) ∙ (cons p h.opened h.block h.later h.source ∙ ap (went p (λ o' t. end (suc p) o' h.later t)) h.stops)

  pub left_over : (s : Source) → end 0 o₀ bs₀ s₀ ≡ over s → only_padding s ≡ false → LeftOver one o₀ bs₀ s₀ s.seen
  left_over s e more = let w = all_read bs₀ 0 o₀ s₀ begun s e in record { count = w.count; opened = w.opened; source = s; behind = w.behind; more = more; place = refl }

  pub over_left : (p : ℕ) (h : LeftOver one o₀ bs₀ s₀ p) → end 0 o₀ bs₀ s₀ ≡ over h.source
  over_left p h = sym (alike h.behind) ∙ nil h.count h.opened h.source
