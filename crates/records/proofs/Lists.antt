-- A loop that reads a list, number by number: f is what stands at a position, g what stands at an index. Assumes nothing.
use mathlib.Core.Path.{◌≡◌, sym, ap, ◌∙◌}
use mathlib.Core.List.{List}
use Prim.Native.Nat.{ℕ, suc, ◌+◌, ◌*◌, ◌<◌}
use native.Mathlib.Nat.{zero-add, add-zero, mul-zero, mul-suc}
use native.Mathlib.Omega.{arith}
use lib.ListN.{length, set}
use Rattle.laws.specs.Index.{tab}
use Rattle.laws.proofs.Fill.{front, front_start, front_turn, front_end}

pub record Reading {A : Type 0} (f g : ℕ → A) (size : ℕ) (list₀ list : List A) (next i : ℕ) : Type 0 where
  pub later : (k : ℕ) → g (i + k) ≡ f (next + size * k)
  pub written : list ≡ front list₀ g i

module _ {A : Type 0} {f g : ℕ → A} {size : ℕ} {list₀ : List A} where
  pub reading_start : {at : ℕ} → ((k : ℕ) → g k ≡ f (at + size * k)) → Reading f g size list₀ list₀ at 0
  reading_start h = record { later = λ k. rw (zero-add k) (h k); written = sym (front_start list₀ g) }

  -- the element that is read here
  here : {list : List A} {next i : ℕ} → Reading f g size list₀ list next i → g i ≡ f next
  here {list} {next} {i} r = rw (add-zero, mul-zero, add-zero) at (r.later 0)

  pub reading_turn : {list : List A} {next after i : ℕ} {v : A} → Reading f g size list₀ list next i → i < length list₀ → v ≡ f next → ((k : ℕ) → f (after + size * k) ≡ f (next + size + size * k)) → Reading f g size list₀ (set list i v) after (i + 1)
  reading_turn {list} {next} {after} {i} {v} r h e on = record { later = more; written = rw (r.written, e, ← here r) (front_turn list₀ g i h) } where
    more : (k : ℕ) → g (i + 1 + k) ≡ f (after + size * k)
    more k =
        let p : i + 1 + k ≡ i + suc k = omega arith in
        let q : next + size * suc k ≡ next + size + size * k = omega (arith, mul-suc size k) in
        ap g p ∙ r.later (suc k) ∙ ap f q ∙ sym (on k)

  pub reading_end : {list : List A} {next i : ℕ} → Reading f g size list₀ list next i → i ≡ length list₀ → list ≡ tab (length list₀) g
  reading_end {list} {next} {i} r e = r.written ∙ front_end list₀ g i (sym e) ∙ ap (λ n. tab n g) e
