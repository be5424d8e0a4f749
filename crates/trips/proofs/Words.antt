-- What a reading says of the words: the converse of `code_trip`, and the same of "no code". Assumes nothing.
use mathlib.Core.Path.{◌≡◌, refl, sym, ap, subst, ◌∙◌}
use mathlib.Core.Logic.{inl, inr}
use mathlib.Core.Bool.{Bool, true, false, cond}
use mathlib.Core.List.{List, [], ◌∷◌, ◌++◌}
use Prim.Native.Nat.{ℕ, zero, suc, ◌+◌, ◌-◌, ◌*◌, ◌/◌, ◌^◌, ◌≤◌, ◌<◌}
use native.Mathlib.Omega.{arith}
use lib.Dec.{ltb}
use lib.ListN.{length, get_or, drop}
use lib.Seq.{get_or-drop}
use borrow.Author.Tests.{ltb-true, ltb-false, lt-ltb, le-ltb}
use Rattle.bit_rules.specs.Digits.{bin, digits}
use Rattle.bit_rules.specs.Source.{Source, Stop, Out, got, stopped, stop, take_bit}
use Rattle.bit_rules.specs.Reader.{and_then, done}
use Rattle.bit_rules.specs.Gives.{Gives}
use Rattle.bit_rules.proofs.Took.{Took, took}
use Rattle.trips.proofs.Trip.{gives_split, odd_bin}
use Rattle.bit_rules.proofs.Digits.{digits_length, bin_small}
use Rattle.bit_rules.specs.Table.{Table, code_count, good_table}
use Rattle.bit_rules.specs.Read.{code_from, take_code}
use Rattle.bit_rules.specs.Write.{code_at, word}
use Rattle.bit_rules.specs.Words.{Has, NoWord, ReadByWords}
use Rattle.bit_rules.proofs.Tables.{good}
use Rattle.trips.proofs.CodeTrip.{Coded, halve, code_trip}
use Rattle.bit_rules.proofs.Places.{place_at}

-- a value is no stop
no_stop : {A : Type 0} {a : A} {t : Source} {x : Stop} → ◌≡◌ {A = Out A} (got a t) (stopped x) → ⊥
no_stop e = let z : ◌≡◌ {A = ℕ} 0 1 = cc in omega arith

-- ---- the k-th code

coded_count : (ns : List ℕ) (g k m N : ℕ) → Coded ns g k m N → k < code_count ns
unfolding code_count
coded_count [] g k m N h = absurd h
coded_count (n ∷ ns) g k zero N h = omega arith
coded_count (n ∷ ns) g k (suc m) N h = omega (arith, coded_count ns (2 * g + n) (k - n) m N h.1)

coded_short : (ns : List ℕ) (g k m N : ℕ) → Coded ns g k m N → m < length ns
coded_short [] g k m N h = absurd h
coded_short (n ∷ ns) g k zero N h = omega arith
coded_short (n ∷ ns) g k (suc m) N h = omega (arith, coded_short ns (2 * g + n) (k - n) m N h.1)

coded_at : (ns : List ℕ) (g size k m N : ℕ) → Coded ns g k m N → code_at ns (2 * g) size k ≡ digits (size + m) N
unfolding code_at
coded_at [] g size k m N h = absurd h
coded_at (n ∷ ns) g size k zero N h = let z : size + 0 ≡ size = omega arith in rw (lt-ltb k n h.0, z, h.1)
coded_at (n ∷ ns) g size k (suc m) N h =
    let z : size + suc m ≡ suc size + m = omega arith in
    rw (le-ltb k n h.0, z) (coded_at ns (2 * g + n) (suc size) (k - n) m N h.1)

-- ---- a code that was read

-- it is the k-th code, behind which u is left, and the value is the k-th
record Matched (ns vs : List ℕ) (g over : ℕ) (s u : Source) (v : ℕ) : Type 0 where
  place : ℕ
  longer : ℕ
  number : ℕ
  coded : Coded ns g place longer number
  above : over + g ≡ number / 2 ^ suc longer
  taken : Gives s (digits (suc longer) number) u
  value : v ≡ get_or vs place 0

module _ {n : ℕ} {ns : List ℕ} (vs : List ℕ) (g over : ℕ) {s t : Source} {b : Bool} (e : take_bit s ≡ got b t) where
  -- of the first length
  matched_here : 2 * over + bin b < n → Matched (n ∷ ns) vs g over s t (get_or vs (2 * over + bin b) 0)
  unfolding digits
  matched_here h = record {
    place = 2 * over + bin b;
    longer = 0;
    number = 2 * g + (2 * over + bin b);
    coded = (h, refl);
    above = omega (arith, bin_small b);
    taken = let q : (2 * g + (2 * over + bin b)) / 1 ≡ 2 * (g + over) + bin b = omega arith in rw (q, odd_bin (g + over) b) (t, e, refl);
    value = refl;
  }

  -- of a later one
  matched_on : {u : Source} {v : ℕ} → n ≤ 2 * over + bin b → Matched ns (drop n vs) (2 * g + n) (2 * over + bin b - n) t u v → Matched (n ∷ ns) vs g over s u v
  unfolding digits
  matched_on {u} {v} h f =
      let N : ℕ = f.number in
      let q : N / 2 ^ suc f.longer ≡ 2 * (over + g) + bin b = omega (arith, f.above) in
      let z : n + f.place - n ≡ f.place = omega arith in
      record {
        place = n + f.place;
        longer = suc f.longer;
        number = N;
        coded = (omega arith, rw z f.coded);
        above = omega (arith, halve N (suc f.longer), bin_small b);
        taken = rw (q, odd_bin (over + g) b) (t, e, f.taken);
        value = f.value ∙ get_or-drop n vs f.place 0;
      }

-- what a step of the reading does with the next bit
abbrev stepped : List ℕ → List ℕ → ℕ → ℕ → Bool → Source → Out ℕ
stepped ns vs n over b = cond (ltb (2 * over + bin b) n) (done (get_or vs (2 * over + bin b) 0)) (code_from ns (drop n vs) (2 * over + bin b - n))

matched : (ns vs : List ℕ) (g over : ℕ) (s u : Source) (v : ℕ) → code_from ns vs over s ≡ got v u → Matched ns vs g over s u v
unfolding code_from
matched [] vs g over s u v e = absurd (no_stop (sym e))
matched (n ∷ ns) vs g over s u v e = first (take_bit s) refl e (λ b t f. matched ns (drop n vs) (2 * g + n) (2 * over + bin b - n) t u v f)
  where
    second : (b : Bool) (t : Source) → take_bit s ≡ got b t → (c : Bool) → ltb (2 * over + bin b) n ≡ c
        → cond c (done (get_or vs (2 * over + bin b) 0)) (code_from ns (drop n vs) (2 * over + bin b - n)) t ≡ got v u
        → (code_from ns (drop n vs) (2 * over + bin b - n) t ≡ got v u → Matched ns (drop n vs) (2 * g + n) (2 * over + bin b - n) t u v) → Matched (n ∷ ns) vs g over s u v
    second b t p true l q ih =
        let same : t ≡ u = cc in
        let value : get_or vs (2 * over + bin b) 0 ≡ v = cc in
        rw (← value, ← same) (matched_here vs g over p (ltb-true (2 * over + bin b) n l))
    second b t p false l q ih = matched_on vs g over p (ltb-false (2 * over + bin b) n l) (ih q)

    first : (r : Out Bool) → take_bit s ≡ r → and_then (stepped ns vs n over) r ≡ got v u
        → ((b : Bool) (t : Source) → code_from ns (drop n vs) (2 * over + bin b - n) t ≡ got v u → Matched ns (drop n vs) (2 * g + n) (2 * over + bin b - n) t u v) → Matched (n ∷ ns) vs g over s u v
    first (got b t) p q ih = second b t p (ltb (2 * over + bin b) n) refl q (ih b t)
    first (stopped x) p q ih = absurd (no_stop (sym q))

read_word : (T : Table) → good_table T ≡ true → (v : ℕ) (s u : Source) → take_code T s ≡ got v u → Has T v × Gives s (word T v) u × (length (word T v) ≤ 16)
unfolding take_code word
read_word T g v s u e =
    let t = good T g in
    let f = matched T.counts T.values 0 0 s u v e in
    let k : ℕ = f.place in
    let there : k < length T.values = omega (arith, t.all, coded_count T.counts 0 k f.longer f.number f.coded) in
    let place = place_at T.values k v t.apart there f.value in
    let code : code_at T.counts 0 1 k ≡ digits (suc f.longer) f.number =
    let z : 1 + f.longer ≡ suc f.longer = omega arith in coded_at T.counts 0 1 k f.longer f.number f.coded ∙ ap (λ (n : ℕ). digits n f.number) z in
    rw (place, code)
    ((k, refl), f.taken, omega (arith, digits_length (suc f.longer) f.number, coded_short T.counts 0 k f.longer f.number f.coded, t.sixteen))

-- ---- no code

-- a stop is one
told : {A : Type 0} (y x : Stop) → ◌≡◌ {A = Out A} (stopped y) (stopped x) → y ≡ x
told y x e = cc

bit_stops : (s : Source) (x : Stop) → take_bit s ≡ stopped x → x.number ≡ 14 → ⊥
bit_stops s x e n = go (subst (Took s) e (took s))
  where
    go : Took s (stopped x) → ⊥
    go (inl h) = omega (arith, h.number)
    go (inr h) = omega (arith, h.number)

-- all lengths were passed: so many bits were taken
module _ (x : Stop) (fourteen : x.number ≡ 14) where
  none_taken : (ns vs : List ℕ) (over : ℕ) (s : Source) → code_from ns vs over s ≡ stopped x
      → (bits : List Bool) × (t : Source) × (length bits ≡ length ns) × Gives s bits t × (x.offset ≡ t.last)
  unfolding code_from
  none_taken [] vs over s e = ([], s, refl, refl, sym (ap (λ (y : Stop). y.offset) (told (stop 14 s.last) x e)))
  none_taken (n ∷ ns) vs over s e = first (take_bit s) refl e (λ b t f. none_taken ns (drop n vs) (2 * over + bin b - n) t f)
    where
      second : (b : Bool) (t : Source) → take_bit s ≡ got b t → (c : Bool)
          → cond c (done (get_or vs (2 * over + bin b) 0)) (code_from ns (drop n vs) (2 * over + bin b - n)) t ≡ stopped x
          → (code_from ns (drop n vs) (2 * over + bin b - n) t ≡ stopped x → (bits : List Bool) × (u : Source) × (length bits ≡ length ns) × Gives t bits u × (x.offset ≡ u.last))
          → (bits : List Bool) × (u : Source) × (length bits ≡ length (n ∷ ns)) × Gives s bits u × (x.offset ≡ u.last)
      second b t p true q ih = absurd (no_stop q)
      second b t p false q ih = let r = ih q in (b ∷ r.0, r.1, ap suc r.2, (t, p, r.3), r.4)

      first : (r : Out Bool) → take_bit s ≡ r → and_then (stepped ns vs n over) r ≡ stopped x
          → ((b : Bool) (t : Source) → code_from ns (drop n vs) (2 * over + bin b - n) t ≡ stopped x → (bits : List Bool) × (u : Source) × (length bits ≡ length ns) × Gives t bits u × (x.offset ≡ u.last))
          → (bits : List Bool) × (u : Source) × (length bits ≡ length (n ∷ ns)) × Gives s bits u × (x.offset ≡ u.last)
      first (got b t) p q ih = second b t p (ltb (2 * over + bin b) n) q (ih b t)
      first (stopped y) p q ih = let k : y ≡ x = cc in absurd (bit_stops s x (p ∙ ap (λ (z : Stop). stopped z) k) fourteen)

-- where there are bits for all lengths, nothing else stops the reading
stops_none : (ns vs : List ℕ) (over : ℕ) (s t : Source) (bits : List Bool) (x : Stop) → length bits ≡ length ns → Gives s bits t → code_from ns vs over s ≡ stopped x → stop 14 t.last ≡ x
unfolding code_from
stops_none [] vs over s t [] x l g e = ap (λ (u : Source). stop 14 u.last) (sym g) ∙ told (stop 14 s.last) x e
stops_none [] vs over s t (b ∷ bits) x l g e = absurd (omega arith)
stops_none (n ∷ ns) vs over s t [] x l g e = absurd (omega arith)
stops_none (n ∷ ns) vs over s t (b ∷ bits) x l g e =
    second (ltb (2 * over + bin b) n) (rw g.1 at e) (λ f. stops_none ns (drop n vs) (2 * over + bin b - n) g.0 t bits x (omega arith) g.2 f)
  where
    second : (c : Bool) → cond c (done (get_or vs (2 * over + bin b) 0)) (code_from ns (drop n vs) (2 * over + bin b - n)) g.0 ≡ stopped x
        → (code_from ns (drop n vs) (2 * over + bin b - n) g.0 ≡ stopped x → stop 14 t.last ≡ x) → stop 14 t.last ≡ x
    second true q ih = absurd (no_stop q)
    second false q ih = ih q

-- of two runs of bits from one source the shorter begins the longer
begins : (s : Source) (a b : List Bool) (t u : Source) → Gives s a t → Gives s b u → length a ≤ length b → (rest : List Bool) × (b ≡ a ++ rest)
begins s [] b t u f g h = (b, refl)
begins s (x ∷ a) [] t u f g h = absurd (omega arith)
begins s (x ∷ a) (y ∷ b) t u f g h =
    let same : f.0 ≡ g.0 = cc in
    let bit : y ≡ x = cc in
    let r = begins f.0 a b t u f.2 (rw same g.2) (omega arith) in
    (r.0, rw bit (ap (◌∷◌ x) r.1))

-- ---- the law

module _ (T : Table) (g : good_table T ≡ true) where
  none_read : (s : Source) (x : Stop) → take_code T s ≡ stopped x → x.number ≡ 14
      → (bits : List Bool) × (t : Source) × (length bits ≡ 16) × Gives s bits t × NoWord T bits × (x.offset ≡ t.last)
  unfolding take_code
  none_read s x e n =
      let r = none_taken x n T.counts T.values 0 s e in (
        r.0,
        r.1,
        r.2 ∙ (good T g).sixteen,
        r.3,
        λ v rest h q.
            let p = gives_split s (word T v) rest r.1 (rw q at r.3) in
            no_stop (sym (code_trip T v h.0 s p.0 g h.1 p.1) ∙ e),
        r.4,
      )

  none_reads : (s t : Source) (bits : List Bool) → length bits ≡ 16 → Gives s bits t → NoWord T bits → take_code T s ≡ stopped (stop 14 t.last)
  unfolding take_code
  none_reads s t bits l f w = go (take_code T s) refl
    where
      go : (r : Out ℕ) → take_code T s ≡ r → take_code T s ≡ stopped (stop 14 t.last)
      go (got v u) e =
          let r = read_word T g v s u e in
          let b = begins s (word T v) bits u t r.1 f (omega (arith, r.2)) in
          absurd (w v b.0 r.0 b.1)
      go (stopped x) e = e ∙ ap (λ (y : Stop). stopped y) (sym (stops_none T.counts T.values 0 s t bits x (l ∙ sym (good T g).sixteen) f e))

  pub by_words : ReadByWords T
  by_words = record {
    read = λ v s t e. let r = read_word T g v s t e in (r.0, r.1);
    reads = λ v s t h. code_trip T v h.0.0 s t g h.0.1 h.1;
    missed = none_read;
    misses = none_reads;
  }
