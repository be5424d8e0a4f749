-- Which byte was asked for last: a reader run twice, over data that are the same up to an offset. Assumes nothing.
use mathlib.Core.Path.{◌≡◌, refl, sym, ap, subst, ◌∙◌}
use mathlib.Core.Logic.{◌⊎◌, inl, inr}
use mathlib.Core.Bool.{Bool, true, false, cond, not}
use mathlib.Core.List.{List, [], ◌∷◌, ◌++◌}
use Prim.Native.Nat.{ℕ, zero, suc, ◌+◌, ◌-◌, ◌≤◌, ◌<◌}
use native.Mathlib.Omega.{arith}
use lib.Dec.{eqb}
use lib.ListN.{length, get_or, drop, length-drop}
use lib.Seq.{get_or-drop, drop-drop}
use borrow.Author.Tests.{eqb-true, eqb-false}
use Rattle.laws.proofs.Choices.{by_test, true_false}
use Rattle.bit_rules.specs.Digits.{digits}
use Rattle.bit_rules.specs.Source.{Source, Stop, source, Out, got, stopped, stop, opened, after_ff, next_byte, take_from, take_bit}
use Rattle.bit_rules.specs.Reader.{Reader, and_then, ◌>>=◌, done, fail}

-- bytes that do not end with FF
abbrev pub tidy : List ℕ → Bool
tidy [] = true
tidy (b ∷ []) = not (eqb b 255)
tidy (b ∷ c ∷ d) = tidy (c ∷ d)

tidy_on : (b : ℕ) (c : List ℕ) → tidy (b ∷ c) ≡ true → tidy c ≡ true
tidy_on b [] h = refl
tidy_on b (c ∷ d) h = h

-- where two data part: what they share does not end with FF; or the same byte, not 00, stands behind it in both; or nothing is said
pub data Seam (C : Type 0) (common rest rest' : List ℕ) : Type 0 where
  even : tidy common ≡ true → Seam C common rest rest'
  marked : {v : ℕ} {d d' : List ℕ} → rest ≡ suc v ∷ d → rest' ≡ suc v ∷ d' → Seam C common rest rest'
  unsaid : (C → ⊥) → Seam C common rest rest'

seam_on : {C : Type 0} {rest rest' : List ℕ} (b : ℕ) (c : List ℕ) → Seam C (b ∷ c) rest rest' → Seam C c rest rest'
seam_on b c (even h) = even (tidy_on b c h)
seam_on b c (marked e e') = marked e e'
seam_on b c (unsaid n) = unsaid n

-- k: where both data part. C: something is said of that place. E: the second data end there
module _ (bytes : List ℕ) (k : ℕ) (C E : Type 0) where
  -- no FF stands in front of this byte
  abbrev pub Apart : ℕ → Type 0
  Apart n = 0 < n → get_or bytes (n - 1) 0 ≡ 255 → ⊥

  -- an FF that gave a bit has its 00 behind it
  abbrev pub Paired : ℕ → Type 0
  Paired n = get_or bytes n 0 ≡ 255 → (n + 1 < length bytes) × (get_or bytes (n + 1) 0 ≡ 0)

  -- what holds where bits are asked for: `common` is still to be read of what both share
  pub record Facts (pending : List Bool) (common rest rest' : List ℕ) (seen last : ℕ) : Type 0 where
    pub upto : seen + length common ≡ k
    pub seam : Seam C common rest rest'
    pub ends : E → rest' ≡ []
    pub held : (pending ≡ []) ⊎ (last < seen)
    pub whole : common ++ rest ≡ drop seen bytes
    pub behind : Apart seen
    pub before : Apart last
    pub pair : last < seen → Paired last

  pub record Alike (s u : Source) : Type 0 where
    pub pending : List Bool
    pub common : List ℕ
    pub rest : List ℕ
    pub rest' : List ℕ
    pub seen : ℕ
    pub last : ℕ
    pub here : s ≡ source pending (common ++ rest) seen last
    pub there : u ≡ source pending (common ++ rest') seen last
    pub facts : Facts pending common rest rest' seen last

  -- behind what both share
  abbrev pub Beyond : Source → Type 0
  Beyond s = (k ≤ s.last) × (k ≤ s.seen)

  abbrev pub Past : {A : Type 0} → Out A → Type 0
  Past (got a t) = Beyond t
  Past (stopped x) = k ≤ x.offset

  -- a stop within what both share
  pub record Within (x : Stop) : Type 0 where
    pub below : x.offset < k
    pub later : x.number ≡ 12 → ⊥
    pub apart : Apart x.offset
    pub marker : x.number ≡ 13 → (get_or bytes x.offset 0 ≡ 255) × (x.offset + 1 < length bytes) × (get_or bytes (x.offset + 1) 0 ≡ 0 → ⊥)
    pub pair : 13 < x.number → Paired x.offset

  abbrev pub Same : {A : Type 0} → Out A → Out A → Type 0
  Same (got a t) (got b u) = (a ≡ b) × Alike t u × (t.last < t.seen)
  Same (got a t) (stopped y) = ⊥
  Same (stopped x) (got b u) = ⊥
  Same (stopped x) (stopped y) = (x ≡ y) × Within x

  -- both come to the same; or the first asked for a byte behind, and the second, if its data end there, for the one that is missing
  abbrev pub Outs : {A : Type 0} → Out A → Out A → Type 0
  Outs o o' = Same o o' ⊎ ((C → Past o) × (E → o' ≡ stopped (stop 12 k)))

  -- ---- one bit

  past_next : (d : List ℕ) (seen : ℕ) → k ≤ seen → Past (next_byte d seen)
  unfolding next_byte after_ff opened
  past_next [] seen h = h
  past_next (b ∷ d) seen h = by_test Past (eqb b 255) (λ e. after d) (λ e. (h, omega arith))
    where
      after : (d : List ℕ) → Past (after_ff d seen)
      after [] = omega arith
      after (zero ∷ d) = (h, omega arith)
      after (suc v ∷ d) = h

  -- the byte at hand, and what stands behind it
  here_is : (b seen : ℕ) (l : List ℕ) → b ∷ l ≡ drop seen bytes → (get_or bytes seen 0 ≡ b) × (l ≡ drop (seen + 1) bytes)
  here_is b seen l e =
      let z : seen + 0 ≡ seen = omega arith in
      (ap (λ (n : ℕ). get_or bytes n 0) (sym z) ∙ (sym (get_or-drop seen bytes 0 0) ∙ ap (λ (x : List ℕ). get_or x 0 0) (sym e)), ap (drop 1) e ∙ drop-drop 1 seen bytes)

  more : (seen b : ℕ) (l : List ℕ) → b ∷ l ≡ drop seen bytes → seen < length bytes
  more seen b l e = let d = length-drop seen bytes in let n = ap length e in omega arith

  taken : {b : Bool} {p : List Bool} {last seen : ℕ} → (b ∷ p ≡ []) ⊎ (last < seen) → last < seen
  taken (inl e) = let z : ◌≡◌ {A = ℕ} 1 0 = cc in absurd (omega arith)
  taken (inr h) = h

  opened_both : (seen b size : ℕ) (c r r' : List ℕ) (last : ℕ) → Facts (digits 7 b) c r r' (seen + size) seen → 0 < size → Outs (opened seen b (c ++ r) (seen + size)) (opened seen b (c ++ r') (seen + size))
  unfolding opened
  opened_both seen b size c r r' last f h = inl (refl, record { pending = digits 7 b; common = c; rest = r; rest' = r'; seen = seen + size; last = seen; here = refl; there = refl; facts = f }, omega arith)

  module _ (b : ℕ) (c r r' : List ℕ) (seen last : ℕ) (f : Facts [] (b ∷ c) r r' seen last) where
    plain_both : eqb b 255 ≡ false → Outs (opened seen b (c ++ r) (seen + 1)) (opened seen b (c ++ r') (seen + 1))
    plain_both e =
        let w = here_is b seen (c ++ r) f.whole in
        opened_both seen b 1 c r r' last
        (record {
          upto = omega (arith, f.upto);
          seam = seam_on b c f.seam;
          ends = f.ends;
          held = inr (omega arith);
          whole = w.1;
          behind = λ l q. let z : seen + 1 - 1 ≡ seen = omega arith in eqb-false b 255 e (sym w.0 ∙ (ap (λ (n : ℕ). get_or bytes n 0) (sym z) ∙ q));
          before = f.behind;
          pair = λ t q. absurd (eqb-false b 255 e (sym w.0 ∙ q));
        }) (omega arith)

  -- an FF with another byte than 00 behind it, in both
  bare_both : (v : ℕ) (d d' : List ℕ) (seen : ℕ) → 255 ∷ suc v ∷ d ≡ drop seen bytes → seen < k → Apart seen → Same (after_ff (suc v ∷ d) seen) (after_ff (suc v ∷ d') seen)
  unfolding after_ff
  bare_both v d d' seen e l a =
      let w = here_is 255 seen (suc v ∷ d) e in
      let n = here_is (suc v) (seen + 1) d w.1 in (
        refl,
        record {
          below = l;
          later = λ q. omega arith;
          apart = a;
          marker = λ q. (w.0, more (seen + 1) (suc v) d w.1, λ z. let y : suc v ≡ 0 = sym n.0 ∙ z in omega arith);
          pair = λ q. absurd (omega arith);
        },
      )

  ff_ends : (seen : ℕ) → seen + 1 ≡ k → after_ff [] seen ≡ stopped (stop 12 k)
  unfolding after_ff
  ff_ends seen z = rw z

  -- an FF that ends what both share
  last_both : (r r' : List ℕ) (seen last : ℕ) → Facts [] (255 ∷ []) r r' seen last → Seam C (255 ∷ []) r r' → Outs (after_ff r seen) (after_ff r' seen)
  last_both r r' seen last f (even h) = absurd (true_false (sym h))
  last_both r r' seen last f (marked {v} {d} {d'} e e') =
      let w : 255 ∷ suc v ∷ d ≡ drop seen bytes = ap (λ (l : List ℕ). 255 ∷ l) (sym e) ∙ f.whole in
      rw (e, e') (inl (bare_both v d d' seen w (omega (arith, f.upto)) f.behind))
  last_both r r' seen last f (unsaid n) = inr (λ t. absurd (n t), λ e. ended (f.ends e) f.upto)
    where
      ended : r' ≡ [] → seen + 1 ≡ k → after_ff r' seen ≡ stopped (stop 12 k)
      ended e z = rw e (ff_ends seen z)

  after_both : (c r r' : List ℕ) (seen last : ℕ) → Facts [] (255 ∷ c) r r' seen last → Outs (after_ff (c ++ r) seen) (after_ff (c ++ r') seen)
  unfolding after_ff
  after_both [] r r' seen last f = last_both r r' seen last f f.seam
  after_both (zero ∷ d) r r' seen last f =
      let w = here_is 255 seen (0 ∷ (d ++ r)) f.whole in
      let v = here_is 0 (seen + 1) (d ++ r) w.1 in
      let two : seen + 1 + 1 ≡ seen + 2 = omega arith in
      opened_both seen 255 2 d r r' last
      (record {
        upto = omega (arith, f.upto);
        seam = seam_on 0 d (seam_on 255 (0 ∷ d) f.seam);
        ends = f.ends;
        held = inr (omega arith);
        whole = v.1 ∙ ap (λ (n : ℕ). drop n bytes) two;
        behind = λ l q. let y : seen + 2 - 1 ≡ seen + 1 = omega arith in let z : ◌≡◌ {A = ℕ} 0 255 = sym v.0 ∙ (ap (λ (n : ℕ). get_or bytes n 0) (sym y) ∙ q) in omega arith;
        before = f.behind;
        pair = λ t q. (more (seen + 1) 0 (d ++ r) w.1, v.0);
      }) (omega arith)
  after_both (suc v ∷ d) r r' seen last f = inl (bare_both v (d ++ r) (d ++ r') seen f.whole (omega (arith, f.upto)) f.behind)

  from_both : (p : List Bool) (c r r' : List ℕ) (seen last : ℕ) → Facts p c r r' seen last → Outs (take_from p (c ++ r) seen last) (take_from p (c ++ r') seen last)
  unfolding take_from next_byte
  from_both (b ∷ p) c r r' seen last f =
      let t = taken f.held in
      inl (
        refl,
        record {
          pending = p;
          common = c;
          rest = r;
          rest' = r';
          seen = seen;
          last = last;
          here = refl;
          there = refl;
          facts = record { upto = f.upto; seam = f.seam; ends = f.ends; held = inr t; whole = f.whole; behind = f.behind; before = f.before; pair = f.pair };
        },
        t,
      )
  from_both [] [] r r' seen last f =
      let z : seen ≡ k = omega (arith, f.upto) in
      inr (λ t. past_next r seen (omega arith), λ e. rw (f.ends e, z))
  from_both [] (b ∷ c) r r' seen last f = go (eqb b 255) refl
    where
      go : (t : Bool) → eqb b 255 ≡ t → Outs (cond t (after_ff (c ++ r) seen) (opened seen b (c ++ r) (seen + 1))) (cond t (after_ff (c ++ r') seen) (opened seen b (c ++ r') (seen + 1)))
      go true e = after_both c r r' seen last (subst (λ (v : ℕ). Facts [] (v ∷ c) r r' seen last) (eqb-true b 255 e) f)
      go false e = plain_both b c r r' seen last f e

  -- ---- readers, built as they are defined

  -- behind a bit
  pub record Law {A : Type 0} (m : Reader A) : Type 0 where
    pub both : (s u : Source) → Alike s u → s.last < s.seen → Outs (m s) (m u)
    pub past : (s : Source) → Beyond s → Past (m s)

  -- and where none was taken yet
  pub record First {A : Type 0} (m : Reader A) : Type 0 where
    pub both : (s u : Source) → Alike s u → Outs (m s) (m u)
    pub past : (s : Source) → Beyond s → Past (m s)

  pub also : {A : Type 0} {m : Reader A} → First m → Law m
  also f = record { both = λ s u h t. f.both s u h; past = f.past }

  pub bit_law : First take_bit
  unfolding take_bit take_from
  bit_law = record {
    both = λ s u h. rw (h.here, h.there) (from_both h.pending h.common h.rest h.rest' h.seen h.last h.facts);
    past = λ s b. go s b s.pending;
  }
    where
      go : (s : Source) → Beyond s → (p : List Bool) → Past (take_from p s.coming s.seen s.last)
      go s b [] = past_next s.coming s.seen b.1
      go s b (x ∷ p) = b

  pub done_law : {A : Type 0} (a : A) → Law (done a)
  done_law a = record { both = λ s u h t. inl (refl, h, t); past = λ s b. b }

  pub fail_law : {A : Type 0} (n : ℕ) → 13 < n → Law (fail {A = A} n)
  fail_law {A} n l = record { both = go; past = λ s b. b.0 }
    where
      go : (s u : Source) → Alike s u → s.last < s.seen → Outs {A = A} (stopped (stop n s.last)) (stopped (stop n u.last))
      go s u h t =
          let f = h.facts in
          let seen : s.seen ≡ h.seen = ap (λ (x : Source). x.seen) h.here in
          let last : s.last ≡ h.last = ap (λ (x : Source). x.last) h.here in
          let last' : u.last ≡ h.last = ap (λ (x : Source). x.last) h.there in
          inl (
            ap (stop n) (last ∙ sym last'),
            record { below = omega (arith, f.upto); later = λ e. omega arith; apart = subst Apart (sym last) f.before; marker = λ e. absurd (omega arith); pair = λ g. subst Paired (sym last) (f.pair (omega arith)) },
          )

  past_on : {A B : Type 0} (f : A → Reader B) → ((a : A) → Law (f a)) → (o : Out A) → Past o → Past (and_then f o)
  past_on f l (got a t) h = (l a).past t h
  past_on f l (stopped x) h = h

  bound : {A B : Type 0} (f : A → Reader B) → ((a : A) → Law (f a)) → (o o' : Out A) → Outs o o' → Outs (and_then f o) (and_then f o')
  bound f l (got a t) (got b u) (inl h) = subst (λ c. Outs (f a t) (f c u)) h.0 ((l a).both t u h.1 h.2)
  bound f l (got a t) (stopped y) (inl h) = absurd h
  bound f l (stopped x) (got b u) (inl h) = absurd h
  bound f l (stopped x) (stopped y) (inl h) = inl h
  bound f l o o' (inr h) = inr (λ t. past_on f l o (h.0 t), λ e. ap (and_then f) (h.1 e))

  pub then_first : {A B : Type 0} {m : Reader A} {f : A → Reader B} → First m → ((a : A) → Law (f a)) → First (m >>= f)
  then_first {m = m} {f = f} g l = record { both = λ s u h. bound f l (m s) (m u) (g.both s u h); past = λ s b. past_on f l (m s) (g.past s b) }

  pub then_law : {A B : Type 0} {m : Reader A} {f : A → Reader B} → Law m → ((a : A) → Law (f a)) → Law (m >>= f)
  then_law {m = m} {f = f} g l = record { both = λ s u h t. bound f l (m s) (m u) (g.both s u h t); past = λ s b. past_on f l (m s) (g.past s b) }

  pub if_law : {A : Type 0} (t : Bool) {m n : Reader A} → Law m → Law n → Law (cond t m n)
  if_law true g h = g
  if_law false g h = h
