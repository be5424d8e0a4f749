-- The round trip of AC blocks: what is written as tokens is read as the values, position by position. Assumes nothing.
use mathlib.Core.Path.{◌≡◌, refl, sym, ap, subst}
use mathlib.Core.Bool.{Bool, true, false, cond}
use mathlib.Core.List.{List, [], ◌∷◌, ◌++◌, map}
use Rattle.std.specs.Prelude.{Option, Some, None}
use Rattle.std.proofs.lemmas.Option.{none-some, same_Some}
use Prim.Native.Nat.{ℕ, zero, suc, ◌+◌, ◌-◌, ◌*◌, ◌/◌, ◌%◌, ◌^◌, ◌≤◌, ◌<◌}
use native.Mathlib.Nat.{pow-suc, div-eq_of_lt}
use native.Mathlib.Omega.{arith}
use lib.Dec.{ltb}
use lib.IntN.{ℤ, pos, negsuc, neg_ℤ}
use lib.ListN.{length, length-map}
use borrow.Author.Tests.{ltb-true, ltb-false, lt-ltb, le-leb}
use Rattle.bit_rules.specs.Digits.{bin, odd, digits}
use Rattle.bit_rules.specs.Source.{Source, got, take_bit}
use Rattle.bit_rules.specs.Gives.{Gives}
use Rattle.trips.proofs.Trip.{gives_split}
use Rattle.bit_rules.specs.Table.{Table, good_table}
use Rattle.bit_rules.specs.Read.{take_code}
use Rattle.bit_rules.specs.Write.{place_of, word}
use Rattle.bit_rules.proofs.Digits.{bin_odd}
use Rattle.trips.proofs.CodeTrip.{halve, code_trip}
use Rattle.plane_rules.specs.Plane.{read, onto}
use Rattle.plane_rules.specs.Task.{Task, walk, ended, unit, at_zero}
use Rattle.bit_rules.specs.Number.{take_number}
use Rattle.plane_rules.specs.AcRead.{end_run, meaning, task_at, position, block_end, ac_block, ac_blocks}
use Rattle.plane_rules.proofs.Halves.{kind_zero, kind_one, kind_minus_one, kind_up, kind_down}
use Rattle.plane_rules.specs.AcWrite.{ac_half, Kind, keep, still, fresh, kind_of, one_more, ahead, unless_new, quiet, planned, plan, Token, code, raw, order, class, emit, mark, after, write_block, write_blocks, or_else, lacking, spelled}

-- ---- tokens

-- from s on these tokens are read, and u is left
abbrev pub GivesTokens : Table → Source → List Token → Source → Type 0
GivesTokens T s [] u = s ≡ u
GivesTokens T s (code v ∷ rest) u = (t : Source) × (take_code T s ≡ got v t) × GivesTokens T t rest u
GivesTokens T s (raw b ∷ rest) u = (t : Source) × (take_bit s ≡ got b t) × GivesTokens T t rest u

tokens_split : (T : Table) (s : Source) (a b : List Token) (u : Source) → GivesTokens T s (a ++ b) u → (t : Source) × GivesTokens T s a t × GivesTokens T t b u
tokens_split T s [] b u h = (s, refl, h)
tokens_split T s (code v ∷ a) b u h = let r = tokens_split T h.0 a b u h.2 in (r.0, (h.0, h.1, r.1), r.2)
tokens_split T s (raw v ∷ a) b u h = let r = tokens_split T h.0 a b u h.2 in (r.0, (h.0, h.1, r.1), r.2)

-- bits that spell tokens, none of which the table lacks, give them
module _ (T : Table) (good : good_table T ≡ true) where
  pub spelled_gives : (ws : List Token) (s u : Source) → lacking T ws ≡ None → Gives s (spelled T ws) u → GivesTokens T s ws u
  unfolding spelled lacking
  spelled_gives [] s u m g = g
  spelled_gives (raw b ∷ ws) s u m g = (g.0, g.1, spelled_gives ws g.0 u m g.2)
  spelled_gives (code v ∷ ws) s u m g = go (place_of v T.values) refl m (λ t n h. spelled_gives ws t u n h)
    where
      go : (f : Option ℕ) → place_of v T.values ≡ f → or_else v f (lacking T ws) ≡ None → ((t : Source) → lacking T ws ≡ None → Gives t (spelled T ws) u → GivesTokens T t ws u)
          → GivesTokens T s (code v ∷ ws) u
      go None e m ih = let z : ◌≡◌ {A = ℕ} 0 1 = cc in absurd (omega arith)
      go (Some k) e m ih =
          let r = gives_split s (word T v) (spelled T ws) u g in
          (r.0, code_trip T v k s r.0 good e r.1, ih r.0 m r.2)

-- ---- one position

-- what stands at a position agrees with the task
abbrev Agrees : Task → Kind → Type 0
Agrees t (keep b) = Unit {0}
Agrees t still = at_zero t ≡ pos 0
Agrees t (fresh b) = at_zero t ≡ unit b

half_two : (n : ℕ) → suc (suc n) / 2 ≡ suc (n / 2)
half_two n = omega arith

kept_pos : (t : Task) (n : ℕ) (s u : Source) → take_bit s ≡ got (odd n) u → position t (pos (suc (suc n) / 2)) s ≡ got (pos (suc (suc n)), Some t) u
unfolding position
kept_pos t n s u e =
    let q : 2 * suc (n / 2) + bin (odd n) ≡ suc (suc n) = omega (arith, bin_odd n) in
    rw (half_two n, e, q)

kept_neg : (t : Task) (n : ℕ) (s u : Source) → take_bit s ≡ got (odd n) u → position t (neg_ℤ (pos (suc (suc n) / 2))) s ≡ got (negsuc (suc n), Some t) u
unfolding position
kept_neg t n s u e =
    let q : 2 * (n / 2) + 1 + bin (odd n) ≡ suc n = omega (arith, bin_odd n) in
    rw (half_two n, e, q)

position_back : (T : Table) (t : Task) (x : ℤ) (s u : Source) → Agrees t (kind_of x) → GivesTokens T s (mark (kind_of x)) u → position t (ac_half x) s ≡ got (x, after t (kind_of x)) u
unfolding position ac_half
position_back T t (pos zero) s u a h = rw (kind_zero, rw kind_zero at a, rw kind_zero at h)
position_back T t (pos (suc zero)) s u a h = rw (kind_one, rw kind_one at a, rw kind_one at h)
position_back T t (pos (suc (suc n))) s u a h = let m = rw (kind_up n) at h in rw (kind_up n) (kept_pos t n s u (rw m.2 at m.1))
position_back T t (negsuc zero) s u a h = rw (kind_minus_one, rw kind_minus_one at a, rw kind_minus_one at h)
position_back T t (negsuc (suc n)) s u a h = let m = rw (kind_down n) at h in rw (kind_down n) (kept_neg t n s u (rw m.2 at m.1))

-- ---- the rest of a block

abbrev Fits : (Option Task → Type 0) → Option Task → List Kind → Type 0
Fits End o [] = End o
Fits End None (x ∷ kinds) = Unit {0}
Fits End (Some t) (x ∷ kinds) = Agrees t x × Fits End (after t x) kinds

-- what the end of a block asks of the later ones
abbrev MayEnd : List (List Kind) → Option Task → Type 0
MayEnd later None = Unit {0}
MayEnd later (Some (ended n)) = n ≤ quiet later
MayEnd later (Some (walk n sign)) = ⊥

fits_none : (kinds : List Kind) (later : List (List Kind)) → Fits (MayEnd later) None kinds
fits_none [] later = tt
fits_none (x ∷ kinds) later = tt

never : {p : ℕ × Bool} → ◌≡◌ {A = Option (ℕ × Bool)} None (Some p) → ⊥
never {p} e = none-some p e

same : {p q : ℕ × Bool} → ◌≡◌ {A = Option (ℕ × Bool)} (Some p) (Some q) → p ≡ q
same {p} {q} e = same_Some p q e

more_none : (o : Option (ℕ × Bool)) → one_more o ≡ None → o ≡ None
unfolding one_more
more_none None e = refl
more_none (Some p) e = absurd (never (sym e))

more_some : (o : Option (ℕ × Bool)) (p : ℕ × Bool) → one_more o ≡ Some p → (q : ℕ × Bool) × (o ≡ Some q) × (p ≡ (suc q.0, q.1))
unfolding one_more
more_some None p e = absurd (never e)
more_some (Some q) p e = (q, refl, sym (same e))

-- an end run, where no new value is ahead
calm : (kinds : List Kind) (later : List (List Kind)) (n : ℕ) → ahead kinds ≡ None → n ≤ quiet later → Fits (MayEnd later) (Some (ended n)) kinds
unfolding ahead
calm [] later n e h = h
calm (keep b ∷ kinds) later n e h = (tt, calm kinds later n e h)
calm (still ∷ kinds) later n e h = (refl, calm kinds later n (more_none (ahead kinds) e) h)
calm (fresh b ∷ kinds) later n e h = absurd (never (sym e))

-- a walk to the next new value
abbrev To : (Option Task → Type 0) → List Kind → ℕ × Bool → Type 0
To End kinds p = Fits End (Some (walk p.0 (Some p.1))) kinds

aim : (kinds : List Kind) (later : List (List Kind)) (p : ℕ × Bool) → ahead kinds ≡ Some p → To (MayEnd later) kinds p
unfolding ahead
aim [] later p e = absurd (never e)
aim (keep b ∷ kinds) later p e = (tt, aim kinds later p e)
aim (still ∷ kinds) later p e =
    let r = more_some (ahead kinds) p e in
    subst (λ q. To (MayEnd later) (still ∷ kinds) q) (sym r.2) (refl, aim kinds later r.0 r.1)
aim (fresh b ∷ kinds) later p e = subst (λ q. To (MayEnd later) (fresh b ∷ kinds) q) (same e) (refl, fits_none kinds later)

-- a walk over zeros that are all before the next new value
long : (kinds : List Kind) (later : List (List Kind)) (p : ℕ × Bool) (n : ℕ) → ahead kinds ≡ Some p → n < p.0 → Fits (MayEnd later) (Some (walk n None)) kinds
unfolding ahead
long [] later p n e h = absurd (never e)
long (keep b ∷ kinds) later p n e h = (tt, long kinds later p n e h)
long (still ∷ kinds) later p zero e h = (refl, fits_none kinds later)
long (still ∷ kinds) later p (suc n) e h =
    let r = more_some (ahead kinds) p e in
    (refl, long kinds later r.0 n r.1 (omega (arith, ap (λ (q : ℕ × Bool). q.0) r.2)))
long (fresh b ∷ kinds) later p n e h = absurd (omega (arith, ap (λ (q : ℕ × Bool). q.0) (same e)))

plan_fits : (kinds : List Kind) (later : List (List Kind)) → Fits (MayEnd later) (Some (plan kinds later)) kinds
unfolding plan
plan_fits kinds later = go (ahead kinds) refl
  where
    near : (p : ℕ × Bool) → ahead kinds ≡ Some p → (b : Bool) → ltb p.0 16 ≡ b → Fits (MayEnd later) (Some (cond b (walk p.0 (Some p.1)) (walk 15 None))) kinds
    near p e true q = aim kinds later p e
    near p e false q = long kinds later p 15 e (ltb-false p.0 16 q)

    go : (o : Option (ℕ × Bool)) → ahead kinds ≡ o → Fits (MayEnd later) (Some (planned o (quiet later))) kinds
    go None e = calm kinds later (quiet later) e (omega arith)
    go (Some p) e = near p e (ltb p.0 16) refl

-- ---- a code and what follows it

number_back : (T : Table) (n v N : ℕ) (s u : Source) → v ≡ N / 2 ^ n → GivesTokens T s (map raw (digits n N)) u → take_number n v s ≡ got N u
unfolding digits take_number
number_back T zero v N s u e h = let q : v ≡ N = omega arith in rw (h, q)
number_back T (suc n) v N s u e h =
    let q : 2 * v + bin (odd (N / 2 ^ n)) ≡ N / 2 ^ n = omega (arith, bin_odd (N / 2 ^ n), halve N n) in
    rw (h.1, q) (number_back T n (N / 2 ^ n) N h.0 u refl h.2)

pub order_most : (most n : ℕ) → order most n ≤ most
unfolding order
order_most zero n = omega arith
order_most (suc most) n = go (ltb n 2) (order_most most (n / 2))
  where
    go : (b : Bool) → order most (n / 2) ≤ most → cond b 0 (suc (order most (n / 2))) ≤ suc most
    go true h = omega arith
    go false h = omega arith

order_power : (most n : ℕ) → 1 ≤ n → n < 2 ^ suc most → (2 ^ order most n ≤ n) × (n < 2 ^ suc (order most n))
unfolding order
order_power zero n h k = (h, k)
order_power (suc most) n h k = go (ltb n 2) refl (λ g. order_power most (n / 2) g (omega (arith, pow-suc 2 (suc most))))
  where
    go : (b : Bool) → ltb n 2 ≡ b → (1 ≤ n / 2 → (2 ^ order most (n / 2) ≤ n / 2) × (n / 2 < 2 ^ suc (order most (n / 2))))
        → (2 ^ cond b 0 (suc (order most (n / 2))) ≤ n) × (n < 2 ^ suc (cond b 0 (suc (order most (n / 2)))))
    go true e ih = (h, ltb-true n 2 e)
    go false e ih =
        let r = ih (omega (arith, ltb-false n 2 e)) in
        (omega (arith, pow-suc 2 (order most (n / 2))), omega (arith, pow-suc 2 (suc (order most (n / 2)))))

-- a task that a code can tell, with so many blocks left
abbrev Tellable : ℕ → Task → Type 0
Tellable left (walk n None) = n ≡ 15
Tellable left (walk n (Some b)) = n < 16
Tellable left (ended n) = (n < left) × (left < 2 ^ 15)

run_back : (T : Table) (left n : ℕ) (s u : Source) → Tellable left (ended n) → GivesTokens T s (map raw (digits (class (suc n)) (suc n - 2 ^ class (suc n)))) u
    → end_run left (class (suc n)) s ≡ got (ended n) u
unfolding end_run
run_back T left n s u g h =
    let r : ℕ = class (suc n) in
    let e : ℕ = suc n - 2 ^ r in
    let b = order_power 14 (suc n) (omega arith) (omega arith) in
    let z : e / 2 ^ r ≡ 0 = div-eq_of_lt (omega (arith, pow-suc 2 r)) in
    let v : 2 ^ r + e ≡ suc n = omega arith in
    rw (number_back T r 0 e s u (sym z) h, v, le-leb (suc n) left g.0) (ap (λ (k : ℕ). got (ended k) u) (omega arith))

task_back : (T : Table) (left : ℕ) (t : Task) (s u : Source) → Tellable left t → GivesTokens T s (emit t) u → task_at T left None s ≡ got t u
unfolding task_at meaning emit
task_back T left (walk n None) s u g h =
    let d : 16 * n / 16 ≡ 15 = omega arith in
    let m : 16 * n % 16 ≡ 0 = omega arith in
    rw (h.1, d, m, g, h.2)
task_back T left (walk n (Some b)) s u g h =
    let d : (16 * n + 1) / 16 ≡ n = omega arith in
    let m : (16 * n + 1) % 16 ≡ 1 = omega arith in
    rw (h.1, d, m, h.2.1, h.2.2)
task_back T left (ended n) s u g h =
    let r : ℕ = class (suc n) in
    let d : 16 * r / 16 ≡ r = omega arith in
    let m : 16 * r % 16 ≡ 0 = omega arith in
    let l : ltb r 15 ≡ true = lt-ltb r 15 (omega (arith, order_most 14 (suc n))) in
    rw (h.1, d, m, l) (run_back T left n h.0 u g h.2)

quiet_most : (later : List (List Kind)) → quiet later ≤ length later
unfolding quiet
quiet_most [] = omega arith
quiet_most (b ∷ bs) = go (ahead b) (quiet_most bs)
  where
    go : (o : Option (ℕ × Bool)) → quiet bs ≤ length bs → unless_new o (quiet bs) ≤ suc (length bs)
    go None h = omega arith
    go (Some p) h = omega arith

plan_tellable : (kinds : List Kind) (later : List (List Kind)) (left : ℕ) → quiet later < left → left < 2 ^ 15 → Tellable left (plan kinds later)
unfolding plan
plan_tellable kinds later left h k = go (ahead kinds)
  where
    near : (p : ℕ × Bool) (b : Bool) → ltb p.0 16 ≡ b → Tellable left (cond b (walk p.0 (Some p.1)) (walk 15 None))
    near p true q = ltb-true p.0 16 q
    near p false q = refl

    go : (o : Option (ℕ × Bool)) → Tellable left (planned o (quiet later))
    go None = (h, k)
    go (Some p) = near p (ltb p.0 16) refl

-- ---- a block

module _ (T : Table) (left : ℕ) (later : List (List Kind)) (fit : quiet later < left) (few : left < 2 ^ 15) where
  block_back : (values : List ℤ) (o : Option Task) (s u : Source) → Fits (MayEnd later) o (map kind_of values) → GivesTokens T s (write_block o (map kind_of values) later).0 u
      → ac_block T left o (map ac_half values) s ≡ got (values, (write_block o (map kind_of values) later).1) u
  unfolding ac_block block_end task_at write_block
  block_back [] None s u f h = rw h
  block_back [] (Some (walk n sign)) s u f h = absurd f
  block_back [] (Some (ended n)) s u f h = rw h
  block_back (x ∷ values) (Some t) s u f h =
      let a = tokens_split T s (mark (kind_of x)) (write_block (after t (kind_of x)) (map kind_of values) later).0 u h in
      rw (position_back T t x s a.0 f.0 a.1, block_back values (after t (kind_of x)) a.0 u f.1 a.2)
  block_back (x ∷ values) None s u f h =
      let t : Task = plan (kind_of x ∷ map kind_of values) later in
      let g = plan_fits (kind_of x ∷ map kind_of values) later in
      let e = tokens_split T s (emit t) (mark (kind_of x) ++ (write_block (after t (kind_of x)) (map kind_of values) later).0) u h in
      let a = tokens_split T e.0 (mark (kind_of x)) (write_block (after t (kind_of x)) (map kind_of values) later).0 u e.2 in
      rw (task_back T left t s e.0 (plan_tellable (kind_of x ∷ map kind_of values) later left fit few) e.1, position_back T t x e.0 a.0 g.0 a.1, block_back values (after t (kind_of x)) a.0 u g.1 a.2)

-- ---- blocks

-- what the beginning of a block asks of it and the later ones
abbrev pub MayBegin : List (List Kind) → Option Task → Type 0
MayBegin later None = Unit {0}
MayBegin later (Some (ended n)) = n < quiet later
MayBegin later (Some (walk n sign)) = ⊥

block_begins : (kinds : List Kind) (later : List (List Kind)) (o : Option Task) → Fits (MayEnd later) o kinds → MayBegin later (write_block o kinds later).1
unfolding write_block
block_begins [] later None f = tt
block_begins [] later (Some (walk n sign)) f = absurd f
block_begins [] later (Some (ended zero)) f = tt
block_begins [] later (Some (ended (suc n))) f = f
block_begins (x ∷ kinds) later (Some t) f = block_begins kinds later (after t x) f.1
block_begins (x ∷ kinds) later None f = block_begins kinds later (after (plan (x ∷ kinds) later) x) (plan_fits (x ∷ kinds) later).1

enter : (b : List Kind) (bs : List (List Kind)) (o : Option Task) → MayBegin (b ∷ bs) o → Fits (MayEnd bs) o b
unfolding quiet
enter b bs None h = fits_none b bs
enter b bs (Some (walk n sign)) h = absurd h
enter b bs (Some (ended n)) h = go (ahead b) refl h
  where
    go : (o : Option (ℕ × Bool)) → ahead b ≡ o → n < unless_new o (quiet bs) → Fits (MayEnd bs) (Some (ended n)) b
    go None e k = calm b bs n e (omega arith)
    go (Some p) e k = absurd (omega arith)

unfoldable pub joined : List (List ℤ) → List ℤ
joined [] = []
joined (b ∷ bs) = b ++ joined bs

abbrev pub kinds : List (List ℤ) → List (List Kind)
kinds bs = map (map kind_of) bs

pub blocks_back : (T : Table) (block : ℕ) (bs : List (List ℤ)) (o : Option Task) (s u : Source) → MayBegin (kinds bs) o → length bs < 2 ^ 15 → GivesTokens T s (write_blocks o (kinds bs)) u
    → ac_blocks T block o (map (map ac_half) bs) s ≡ read (joined bs) u
unfolding ac_blocks write_blocks onto joined
blocks_back T block [] o s u n l h = rw h
blocks_back T block (b ∷ bs) o s u n l h =
    let K : List (List Kind) = kinds bs in
    let w = write_block o (map kind_of b) K in
    let f = enter (map kind_of b) K o n in
    let a = tokens_split T s w.0 (write_blocks w.1 K) u h in
    let q : quiet K < suc (length bs) = omega (arith, quiet_most K, length-map bs (map kind_of)) in
    let ih = blocks_back T (suc block) bs w.1 a.0 u (block_begins (map kind_of b) K o f) (omega arith) a.2 in
    let e : length (map (map ac_half) bs) ≡ length bs = length-map bs (map ac_half) in
    rw (e, block_back T (suc (length bs)) K q l b o s a.0 f a.1, ih)
