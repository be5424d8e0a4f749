-- Past the end stand zeros, so a position that is cut at the end says the same. Assumes nothing.
use mathlib.Core.Path.{◌≡◌, refl, sym, ◌∙◌}
use mathlib.Core.List.{List, []}
use Prim.Native.Nat.{ℕ, ◌+◌, ◌*◌, ◌≤◌, ◌<◌}
use native.Mathlib.Omega.{arith}
use borrow.Author.Tests.{leb-true, leb-false, le-leb, lt-leb}
use lib.ListN.{length, get_or, take, drop, get_or-eq_default}
use lib.Dec.{leb}
use Rattle.laws.proofs.Choices.{by_test}
use Rattle.test_rules.specs.Fields.{past, pair_at, number_at, part, lent}

pub on_inside : (end at n : ℕ) → at + n ≤ end → past end at n ≡ at + n
unfolding past
on_inside end at n h = rw (le-leb (at + n) end h)

pub on_end : (end at n : ℕ) → end < at + n → past end at n ≡ end
unfolding past
on_end end at n h = rw (lt-leb (at + n) end h)

-- a position that is cut at the end reads the same, where all behind the end reads alike
on_alike : {A : Type 0} (f : ℕ → A) (z : A) (end at n : ℕ) → ((p : ℕ) → end ≤ p → f p ≡ z) → f (past end at n) ≡ f (at + n)
unfolding past
on_alike f z end at n behind =
    by_test (λ p. f p ≡ f (at + n)) (leb (at + n) end) (λ e. refl)
    λ e.
    let h = leb-false (at + n) end e in
    behind end (omega arith) ∙ sym (behind (at + n) (omega arith))

pub on_byte : (bytes : List ℕ) (at n : ℕ) → get_or bytes (past (length bytes) at n) 0 ≡ get_or bytes (at + n) 0
on_byte bytes at n = on_alike (λ p. get_or bytes p 0) 0 (length bytes) at n (λ p h. get_or-eq_default bytes 0 h)

pub pair_behind : (bytes : List ℕ) (p : ℕ) → length bytes ≤ p → pair_at bytes p ≡ 0
unfolding pair_at
pair_behind bytes p h = rw (get_or-eq_default bytes 0 {n = p} h, get_or-eq_default bytes 0 {n = p + 1} (omega arith))

pub on_pair : (bytes : List ℕ) (at n : ℕ) → pair_at bytes (past (length bytes) at n) ≡ pair_at bytes (at + n)
on_pair bytes at n = on_alike (pair_at bytes) 0 (length bytes) at n (pair_behind bytes)

pub number_behind : (bytes : List ℕ) (p : ℕ) → length bytes ≤ p → number_at bytes p ≡ 0
unfolding number_at
number_behind bytes p h = rw (pair_behind bytes p h, pair_behind bytes (p + 2) (omega arith))

-- what is read from a position that was cut, k further on
pub on_later : {A : Type 0} (f : ℕ → A) (z : A) (end at n k : ℕ) → ((p : ℕ) → end ≤ p → f p ≡ z) → f (past end at n + k) ≡ f (at + n + k)
on_later f z end at n k behind = on_alike (λ p. f (p + k)) z end at n (λ p h. behind (p + k) (omega arith))

-- there are so many bytes, or not
pub part_some : (bytes : List ℕ) (at n : ℕ) → at + n ≤ length bytes → part bytes at n ≡ take n (drop at bytes)
unfolding part
part_some bytes at n h = rw (le-leb (at + n) (length bytes) h)

pub part_none : (bytes : List ℕ) (at n : ℕ) → length bytes < at + n → part bytes at n ≡ []
unfolding part
part_none bytes at n h = rw (lt-leb (at + n) (length bytes) h)

part_behind : (bytes : List ℕ) (n p : ℕ) → length bytes ≤ p → part bytes p n ≡ []
unfolding part
part_behind bytes n p h =
    by_test (λ l. l ≡ []) (leb (p + n) (length bytes)) (λ e.
    let f = leb-true (p + n) (length bytes) e in
    let z : n ≡ 0 = omega arith in
    rw z)
    (λ e. refl)

pub on_part : (bytes : List ℕ) (at k n : ℕ) → part bytes (past (length bytes) at k) n ≡ part bytes (at + k) n
on_part bytes at k n = on_alike (λ p. part bytes p n) [] (length bytes) at k (part_behind bytes n)

-- a number is two numbers of half its size
pub pair_is : (bytes : List ℕ) (at : ℕ) {p low high : ℕ} → p ≡ past (length bytes) at 1 → low ≡ get_or bytes at 0 → high ≡ get_or bytes p 0 → low + 256 * high ≡ pair_at bytes at
unfolding pair_at
pair_is bytes at e f g = rw (f, g, e, on_byte bytes at 1)

pub number_is : (bytes : List ℕ) (at : ℕ) {p low high : ℕ} → p ≡ past (length bytes) at 2 → low ≡ pair_at bytes at → high ≡ pair_at bytes p → low + 65536 * high ≡ number_at bytes at
unfolding number_at
number_is bytes at e f g = rw (f, g, e, on_pair bytes at 2)

pub lent_is : (bytes : List ℕ) (at : ℕ) {n p : ℕ} {l : List ℕ} → n ≡ number_at bytes at → p ≡ past (length bytes) at 4 → l ≡ part bytes p n → l ≡ lent bytes at
unfolding lent
lent_is bytes at e f g = rw (g, f, e, on_part bytes at 4)
