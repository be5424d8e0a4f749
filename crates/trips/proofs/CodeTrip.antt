-- A code that was put is read back as its value, from the sum's bound; the code's loop finds the code that Annex C assigns. Assumes nothing.
use mathlib.Core.Path.{◌≡◌, refl, sym, ap, subst, ◌∙◌}
use mathlib.Core.List.{List, [], ◌∷◌, ◌++◌, append-nil}
use mathlib.Core.Bool.{Bool, true, false, cond, not}
use Prim.Native.Nat.{ℕ, zero, suc, ◌+◌, ◌-◌, ◌*◌, ◌/◌, ◌^◌, ◌≤◌, ◌<◌}
use native.Mathlib.Omega.{arith}
use native.Mathlib.Nat.{pow-suc, div-div-eq-div-mul, mul_assoc, mul_comm, add-mul, le_of_mul-le-mul_right}
use lib.Pow.{pow_pos}
use lib.Dec.{eqb, ltb}
use lib.ListN.{length, get_or, drop}
use lib.Seq.{get_or-drop}
use borrow.Author.Tests.{ltb-true, ltb-false, lt-ltb, le-ltb, eqb-true, not-false}
use Rattle.std.specs.Prelude.{Some}
use Rattle.laws.proofs.First.{first_at}
use Rattle.bit_rules.specs.Digits.{bin, odd, digits}
use Rattle.bit_rules.specs.Source.{Source, source, got}
use Rattle.bit_rules.specs.Gives.{Gives}
use Rattle.trips.proofs.Trip.{in_hand, gives_split}
use Rattle.bit_rules.proofs.Digits.{bin_odd}
use Rattle.bit_rules.specs.Table.{Table, code_count, kraft, good_table}
use Rattle.bit_rules.specs.Read.{code_from, take_code}
use Rattle.bit_rules.specs.Write.{place_of, code_at, word}
use Rattle.bit_rules.proofs.Tables.{good}

pub halve : (N m : ℕ) → N / 2 ^ suc m ≡ N / 2 ^ m / 2
halve N m = rw (pow-suc 2 m) (sym (div-div-eq-div-mul N (2 ^ m) 2))

-- ---- the code of the k-th value is the number N, m bits longer than the first count's; the first length's codes begin at 2g

abbrev pub Coded : List ℕ → ℕ → ℕ → ℕ → ℕ → Type 0
Coded [] g k m N = ⊥
Coded (n ∷ ns) g k zero N = (k < n) × (N ≡ 2 * g + k)
Coded (n ∷ ns) g k (suc m) N = (n ≤ k) × Coded ns (2 * g + n) (k - n) m N

coded_low : (ns : List ℕ) (g k m N : ℕ) → Coded ns g k m N → 2 * g ≤ N / 2 ^ m
coded_low [] g k m N h = absurd h
coded_low (n ∷ ns) g k zero N h = omega arith
coded_low (n ∷ ns) g k (suc m) N h = omega (arith, halve N m, coded_low ns (2 * g + n) (k - n) m N h.1)

-- no length has more codes than there are numbers of that length
abbrev Room : List ℕ → ℕ → ℕ → Type 0
Room [] g top = Unit {0}
Room (n ∷ ns) g top = (2 * g + n ≤ 2 * top) × Room ns (2 * g + n) (2 * top)

coded_high : (ns : List ℕ) (g top k m N : ℕ) → Room ns g top → Coded ns g k m N → N / 2 ^ m < 2 * top
coded_high [] g top k m N r h = absurd h
coded_high (n ∷ ns) g top k zero N r h = omega arith
coded_high (n ∷ ns) g top k (suc m) N r h = omega (arith, halve N m, coded_high ns (2 * g + n) (2 * top) (k - n) m N r.1 h.1)

code_read : (ns vs : List ℕ) (g over k m N : ℕ) (s u : Source) → Coded ns g k m N → over + g ≡ N / 2 ^ suc m → Gives s (digits (suc m) N) u
    → code_from ns vs over s ≡ got (get_or vs k 0) u
unfolding digits code_from
code_read [] vs g over k m N s u h e f = absurd h
code_read (n ∷ ns) vs g over k zero N s u h e f =
    let q : 2 * over + bin (odd (N / 1)) ≡ k = omega (arith, bin_odd (N / 1)) in
    rw (f.1, q, lt-ltb k n h.0, f.2)
code_read (n ∷ ns) vs g over k (suc m) N s u h e f =
    let x : ℕ = N / 2 ^ suc m in
    let v : ℕ = 2 * over + bin (odd x) in
    let q : v + 2 * g ≡ x = omega (arith, bin_odd x, halve N (suc m)) in
    let l : n ≤ v = omega (arith, halve N m, coded_low ns (2 * g + n) (k - n) m N h.1) in
    let d : n + (k - n) ≡ k = omega (arith, h.0) in
    let w : v - n + (2 * g + n) ≡ x = omega arith in
    rw (f.1, le-ltb v n l, code_read ns (drop n vs) (2 * g + n) (v - n) (k - n) m N f.0 u h.1 w f.2, get_or-drop n vs (k - n) 0, d)

-- ---- room, from the sum over the lengths

double : (g P : ℕ) → g * (P * 2) ≡ 2 * g * P
double g P = simp (mul_comm P 2, ← (mul_assoc g 2 P), mul_comm g 2)

room : (ns : List ℕ) (g top : ℕ) → g * 2 ^ length ns + kraft ns ≤ top * 2 ^ length ns → Room ns g top
unfolding kraft
room [] g top h = tt
room (n ∷ ns) g top h =
    let P : ℕ = 2 ^ length ns in
    let h' : g * (P * 2) + (n * P + kraft ns) ≤ top * (P * 2) = rw (pow-suc 2 (length ns)) at h in
    let k : (2 * g + n) * P + kraft ns ≤ 2 * top * P = omega (arith, double g P, double top P, add-mul (2 * g) n P) in
    (le_of_mul-le-mul_right {k = P} (omega arith) (pow_pos (length ns)), room ns (2 * g + n) (2 * top) k)

-- ---- each value has a code

located : (ns : List ℕ) (g size k : ℕ) → k < code_count ns → (m : ℕ) × (N : ℕ) × Coded ns g k m N × (code_at ns (2 * g) size k ≡ digits (size + m) N)
unfolding code_count code_at
located [] g size k h = absurd (omega arith)
located (n ∷ ns) g size k h = go (ltb k n) refl (λ l. located ns (2 * g + n) (suc size) (k - n) l)
  where
    go : (b : Bool) → ltb k n ≡ b
        → (k - n < code_count ns → (m : ℕ) × (N : ℕ) × Coded ns (2 * g + n) (k - n) m N × (code_at ns (2 * (2 * g + n)) (suc size) (k - n) ≡ digits (suc size + m) N))
        → (m : ℕ) × (N : ℕ) × Coded (n ∷ ns) g k m N × (cond b (digits size (2 * g + k)) (code_at ns (2 * (2 * g + n)) (suc size) (k - n)) ≡ digits (size + m) N)
    go true e ih =
        let z : size + 0 ≡ size = omega arith in
        (0, 2 * g + k, (ltb-true k n e, refl), rw z)
    go false e ih =
        let l : n ≤ k = ltb-false k n e in
        let r = ih (omega arith) in
        let z : suc size + r.0 ≡ size + suc r.0 = omega arith in
        (suc r.0, r.1, (l, r.2), r.3 ∙ ap (λ (x : ℕ). digits x r.1) z)

-- where a value stands
pub placed : (v : ℕ) (vs : List ℕ) (k : ℕ) → place_of v vs ≡ Some k → (k < length vs) × (get_or vs k 0 ≡ v)
unfolding place_of
placed v vs k e =
    let r = first_at (length vs) (λ i. not (eqb (get_or vs i 0) v)) e in
    (r.0, eqb-true (get_or vs k 0) v (not-false (eqb (get_or vs k 0) v) r.1))

-- a code that was put is read back as its value
pub code_trip : (T : Table) (v k : ℕ) (s u : Source) → good_table T ≡ true → place_of v T.values ≡ Some k → Gives s (word T v) u → take_code T s ≡ got v u
unfolding take_code word
code_trip T v k s u g e f =
    let t = good T g in
    let w = placed v T.values k e in
    let a = located T.counts 0 1 k (omega (arith, t.all, w.0)) in
    let z : 1 + a.0 ≡ suc a.0 = omega arith in
    let r : Room T.counts 0 1 = room T.counts 0 1 (subst (λ (n : ℕ). 0 * 2 ^ n + kraft T.counts ≤ 1 * 2 ^ n) (sym t.sixteen) (omega (arith, t.room))) in
    let c : 0 + 0 ≡ a.1 / 2 ^ suc a.0 = omega (arith, halve a.1 a.0, coded_high T.counts 0 1 k a.0 a.1 r a.2) in
    let f' : Gives s (code_at T.counts 0 1 k) u = rw e at f in
    code_read T.counts T.values 0 0 k a.0 a.1 s u a.2 c (rw (a.3, z) at f') ∙ ap (λ (x : ℕ). got x u) w.1

-- K4: no code begins another
pub prefix_free : (T : Table) (v w k j : ℕ) (rest : List Bool) → good_table T ≡ true → place_of v T.values ≡ Some k → place_of w T.values ≡ Some j
    → word T w ≡ word T v ++ rest → v ≡ w
prefix_free T v w k j rest g p q e =
    let s : Source = source (word T w) [] 0 0 in
    let r = in_hand (word T w) [] [] s (sym (append-nil (word T w)), refl) in
    let u : Source = r.0 in
    let all : Gives s (word T w) u = r.1 in
    let parts = gives_split s (word T v) rest u (subst (λ (bits : List Bool). Gives s bits u) e all) in
    let one : take_code T s ≡ got v parts.0 = code_trip T v k s parts.0 g p parts.1 in
    let two : take_code T s ≡ got w u = code_trip T w j s u g q all in
    cc
