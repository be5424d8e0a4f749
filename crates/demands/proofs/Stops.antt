-- With which numbers the readers of planes stop, in which block, and how many values and bytes they read. Assumes nothing.
use mathlib.Core.Path.{◌≡◌, refl, sym, ap, subst, ◌∙◌}
use mathlib.Core.Logic.{inl, inr}
use mathlib.Core.Bool.{Bool, true, false}
use mathlib.Core.List.{List, [], ◌∷◌}
use Rattle.std.specs.Prelude.{Option, Some, None}
use Prim.Native.Nat.{ℕ, zero, suc, ◌+◌, ◌-◌, ◌*◌, ◌/◌, ◌%◌, ◌^◌, ◌≤◌, ◌<◌}
use native.Mathlib.Omega.{arith}
use lib.Dec.{T, ltb, leb}
use lib.IntN.{ℤ, pos, negsuc}
use lib.ListN.{length, take, drop, length-append, length-drop}
use lib.Seq.{length-take-le}
use Rattle.laws.proofs.Choices.{by_test, true_false}
use Rattle.answers.specs.Verdict.{given, refusal_at, refusal, need}
use Rattle.answers.specs.declared.Refusal.{Refusal}
use Rattle.bit_rules.specs.Digits.{bin}
use Rattle.bit_rules.specs.Source.{Source, Out, got, stopped, take_bit, only_padding}
use Rattle.bit_rules.specs.Reader.{Reader, and_then}
use Rattle.bit_rules.specs.Table.{Table}
use Rattle.bit_rules.specs.Read.{code_from, take_code}
use Rattle.bit_rules.proofs.Took.{Took, took}
use Rattle.plane_rules.specs.Plane.{Plane, read, refusing, onto, in_block, closed}
use Rattle.plane_rules.specs.Dc.{new_dc, dc_blocks}
use Rattle.plane_rules.specs.Task.{Task, walk, ended}
use Rattle.bit_rules.specs.Number.{take_number}
use Rattle.plane_rules.specs.AcRead.{end_run, meaning, task_at, position, block_end, ac_block, cut, ac_blocks}
use Rattle.plane_rules.proofs.DcBlocks.{dc_first}
use Rattle.demands.specs.One.{stands, row, rows, ◌then◌}
use Rattle.demands.specs.Blocks.{StopsAt, LeftOver}
use Rattle.demands.proofs.Rows.{Judged, gives, passed, told, told_last}
use Rattle.demands.proofs.Blocks.{over, halted, end_of, over_halted, over_one, halted_one}

abbrev Any : {A : Type 0} → A → Type 0
Any a = Unit {0}

-- how many values blocks have in all
pub sizes : List (List ℤ) → ℕ
sizes [] = 0
sizes (b ∷ bs) = length b + sizes bs

-- ---- readers: P of the number if one stops; else Q of the value, and no byte is lost

module _ (P : ℕ → Type 0) (all : ℕ) where
  abbrev Kept : Source → Type 0
  Kept s = s.seen + length s.coming ≡ all

  abbrev Stops : {A : Type 0} → (A → Type 0) → Out A → Type 0
  Stops Q (got a s) = Q a × Kept s
  Stops Q (stopped x) = P x.number

  onward : {A B : Type 0} (Q : A → Type 0) (R : B → Type 0) (f : A → Reader B) (o : Out A) → Stops Q o → ((a : A) → Q a → (s : Source) → Kept s → Stops R (f a s)) → Stops R (and_then f o)
  onward Q R f (got a s) h g = g a h.0 s h.1
  onward Q R f (stopped x) h g = h

  module _ (p12 : P 12) (p13 : P 13) where
    bit : (s : Source) → Kept s → Stops Any (take_bit s)
    bit s k = go (take_bit s) (took s)
      where
        go : (o : Out Bool) → Took s o → Stops Any o
        go (got b t) (inl h) = let d = ap length h.coming in (tt, omega (arith, h.seen))
        go (got b t) (inr (inl h)) = let d = ap length h.coming in (tt, omega (arith, h.seen))
        go (got b t) (inr (inr h)) = let d = ap length h.coming in (tt, omega (arith, h.seen))
        go (stopped x) (inl h) = rw h.number p12
        go (stopped x) (inr h) = rw h.number p13

    module _ (p14 : P 14) (p15 : P 15) (p16 : P 16) (p17 : P 17) where
      code_from_lem : (counts values : List ℕ) (so_far : ℕ) (s : Source) → Kept s → Stops Any (code_from counts values so_far s)
      unfolding code_from
      code_from_lem [] values so_far s k = p14
      code_from_lem (n ∷ counts) values so_far s k =
          onward Any Any _ (take_bit s) (bit s k) λ b h t l.
          by_test (λ (m : Reader ℕ). Stops Any (m t)) (ltb (2 * so_far + bin b) n) (λ e. (tt, l)) (λ e. code_from_lem counts (drop n values) (2 * so_far + bin b - n) t l)

      number_from : (n v : ℕ) (s : Source) → Kept s → Stops Any (take_number n v s)
      unfolding take_number
      number_from zero v s k = (tt, k)
      number_from (suc n) v s k = onward Any Any _ (take_bit s) (bit s k) λ b h t l. number_from n (2 * v + bin b) t l

      run_end : (left r : ℕ) (s : Source) → Kept s → Stops Any (end_run left r s)
      unfolding end_run
      run_end left r s k =
          onward Any Any _ (take_number r 0 s) (number_from r 0 s k) λ e h t l.
          by_test (λ (m : Reader Task). Stops Any (m t)) (leb (2 ^ r + e) left) (λ q. (tt, l)) (λ q. p17)

      meant : (left r s : ℕ) (t : Source) → Kept t → Stops Any (meaning left r s t)
      unfolding meaning
      meant left r zero t k = by_test (λ (m : Reader Task). Stops Any (m t)) (ltb r 15) (λ q. run_end left r t k) (λ q. (tt, k))
      meant left r (suc zero) t k = onward Any Any _ (take_bit t) (bit t k) λ b h u l. (tt, l)
      meant left r (suc (suc s)) t k = p15

      task_at_lem : (codes : Table) (left : ℕ) (o : Option Task) (s : Source) → Kept s → Stops Any (task_at codes left o s)
      unfolding task_at take_code
      task_at_lem codes left (Some t) s k = (tt, k)
      task_at_lem codes left None s k =
          onward Any Any _ (code_from codes.counts codes.values 0 s) (code_from_lem codes.counts codes.values 0 s k) λ v h t l. meant left (v / 16) (v % 16) t l

      at_position : (t : Task) (c : ℤ) (s : Source) → Kept s → Stops Any (position t c s)
      unfolding position
      at_position t (pos zero) s k = (tt, k)
      at_position t (pos (suc n)) s k = onward Any Any _ (take_bit s) (bit s k) λ b h u l. (tt, l)
      at_position t (negsuc n) s k = onward Any Any _ (take_bit s) (bit s k) λ b h u l. (tt, l)

      abbrev Long : ℕ → List ℤ × Option Task → Type 0
      Long n r = length r.0 ≡ n

      at_end : (o : Option Task) (s : Source) → Kept s → Stops (Long 0) (block_end o s)
      unfolding block_end
      at_end None s k = (refl, k)
      at_end (Some (ended n)) s k = (refl, k)
      at_end (Some (walk n sign)) s k = p16

      one_block : (codes : Table) (left : ℕ) (o : Option Task) (values : List ℤ) (s : Source) → Kept s → Stops (Long (length values)) (ac_block codes left o values s)
      unfolding ac_block
      one_block codes left o [] s k = at_end o s k
      one_block codes left o (c ∷ values) s k =
          onward Any (Long (suc (length values))) _ (task_at codes left o s) (task_at_lem codes left o s k) λ t h u l.
          onward Any (Long (suc (length values))) _ (position t c u) (at_position t c u l) λ x i v m.
          onward (Long (length values)) (Long (suc (length values))) _ (ac_block codes left x.1 values v) (one_block codes left x.1 values v m) λ r j w n. (ap suc j, n)

  -- ---- blocks one after another: n values, or P of the number and a block below `upto`

  abbrev pub Blocks : ℕ → ℕ → Plane → Type 0
  Blocks upto n (read values s) = (length values ≡ n) × Kept s
  Blocks upto n (refusing r) = P r.number × (r.place < upto)

  in_front_lem : (upto n m : ℕ) (values : List ℤ) (p : Plane) → length values + n ≡ m → Blocks upto n p → Blocks upto m (onto values p)
  unfolding onto
  in_front_lem upto n m values (read more s) e h = (length-append values more ∙ omega (arith, h.0), h.1)
  in_front_lem upto n m values (refusing r) e h = h

  in_block_lem : {A : Type 0} (Q : A → Type 0) (upto n block : ℕ) (next : A → Source → Plane) (o : Out A) → block < upto → Stops Q o
      → ((a : A) → Q a → (s : Source) → Kept s → Blocks upto n (next a s)) → Blocks upto n (in_block block next o)
  in_block_lem Q upto n block next (got a s) l h g = g a h.0 s h.1
  in_block_lem Q upto n block next (stopped x) l h g = (h, l)

  pub dc_blocks_lem : P 12 → P 13 → (upto block : ℕ) (values : List ℤ) (s : Source) → block + length values ≡ upto → Kept s → Blocks upto (length values) (dc_blocks block values s)
  unfolding dc_blocks
  dc_blocks_lem p12 p13 upto block [] s e k = (refl, k)
  dc_blocks_lem p12 p13 upto block (c ∷ values) s e k =
      subst (Blocks upto (suc (length values))) (sym (dc_first block c values s))
      (in_block_lem Any upto (suc (length values)) block _ (take_bit s) (omega arith) (bit p12 p13 s k) λ b h t l.
      in_front_lem upto (length values) (suc (length values)) (new_dc c b ∷ []) (dc_blocks (suc block) values t) (omega arith) (dc_blocks_lem p12 p13 upto (suc block) values t (omega arith) l))

  module _ (p12 : P 12) (p13 : P 13) (p14 : P 14) (p15 : P 15) (p16 : P 16) (p17 : P 17) where
    pub ac_blocks_lem : (codes : Table) (upto block : ℕ) (o : Option Task) (bs : List (List ℤ)) (s : Source) → block + length bs ≡ upto → Kept s → Blocks upto (sizes bs) (ac_blocks codes block o bs s)
    unfolding ac_blocks sizes
    ac_blocks_lem codes upto block o [] s e k = (refl, k)
    ac_blocks_lem codes upto block o (b ∷ bs) s e k =
        in_block_lem (λ (r : List ℤ × Option Task). length r.0 ≡ length b) upto (length b + sizes bs) block _ (ac_block codes (suc (length bs)) o b s) (omega arith)
        (one_block p12 p13 p14 p15 p16 p17 codes (suc (length bs)) o b s k) λ r h t l.
        in_front_lem upto (sizes bs) (length b + sizes bs) r.0 (ac_blocks codes (suc block) r.1 bs t) (omega (arith, h)) (ac_blocks_lem codes upto (suc block) r.1 bs t (omega arith) l)

-- ---- the plane closed: the blocks' rows, then 18

module _ {A B : Type 0} (one : A → B → List B → Source → Out A) (o₀ : A) (bs₀ : List B) (s₀ : Source) (room : ℕ) (numbers : List ℕ) (all upto n : ℕ) where
  padded : (values : List ℤ) (s : Source) → length values ≤ room → (only_padding s ≡ false → LeftOver one o₀ bs₀ s₀ s.seen) → ((q : ℕ) (h : LeftOver one o₀ bs₀ s₀ q) → s ≡ h.source)
      → (b : Bool) → only_padding s ≡ b → Judged (row 18 (LeftOver one o₀ bs₀ s₀)) room (need b 18 s.seen (given values))
  padded values s l f g true t = record { kept = gives l; only = λ m q o h. absurd (true_false (sym t ∙ (ap only_padding (g q h.1) ∙ h.1.more))) }
  padded values s l f g false t = told_last (refusal 18 s.seen) (refl, f t, refl) (λ m q o h. (h.0, h.1.place ∙ ap (λ (u : Source). u.seen) (sym (g q h.1)), h.2))

  pub closed_judged : (p : Plane) → n ≤ room → Blocks (λ (m : ℕ). T (stands m numbers)) all upto n p
      → ((r : Refusal) → end_of p ≡ halted r → StopsAt one o₀ bs₀ s₀ r.number r.place r.second)
      → ((m q o : ℕ) → StopsAt one o₀ bs₀ s₀ m q o → end_of p ≡ halted (refusal_at m q o))
      → ((s : Source) → end_of p ≡ over s → only_padding s ≡ false → LeftOver one o₀ bs₀ s₀ s.seen)
      → ((q : ℕ) (h : LeftOver one o₀ bs₀ s₀ q) → end_of p ≡ over h.source) → Judged (rows numbers (StopsAt one o₀ bs₀ s₀) then row 18 (LeftOver one o₀ bs₀ s₀)) room (closed p)
  unfolding closed
  closed_judged (read values s) l h f g f' g' =
      passed (λ m q o k. over_halted (g m q o k.1))
      (padded values s (omega (arith, h.0)) (f' s refl) (λ q k. over_one (g' q k)) (only_padding s) refl)
  closed_judged (refusing r) l h f g f' g' = told r (h.0, f r refl) (λ m q o k. halted_one (g m q o k.1))

-- ---- blocks of 63 values

pub cut_sizes : (n : ℕ) (values : List ℤ) → length values ≡ 63 * n → sizes (cut n values) ≡ 63 * n
unfolding cut sizes
cut_sizes zero values e = refl
cut_sizes (suc n) values e =
    let d : length (drop 63 values) ≡ length values - 63 = length-drop 63 values in
    let t : length (take 63 values) ≡ 63 = length-take-le 63 values (omega arith) in
    let i : sizes (cut n (drop 63 values)) ≡ 63 * n = cut_sizes n (drop 63 values) (omega arith) in
    omega arith

pub cut_length : (n : ℕ) (values : List ℤ) → length (cut n values) ≡ n
unfolding cut
cut_length zero values = refl
cut_length (suc n) values = ap suc (cut_length n (drop 63 values))
