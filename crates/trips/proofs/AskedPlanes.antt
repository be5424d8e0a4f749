-- The readers of planes run twice over data that are the same up to an offset: each law is built as its reader is defined. Assumes nothing.
use mathlib.Core.Path.{◌≡◌, ap}
use mathlib.Core.Logic.{◌⊎◌, inl, inr}
use mathlib.Core.Bool.{Bool}
use mathlib.Core.List.{List, [], ◌∷◌}
use Rattle.std.specs.Prelude.{Option, Some, None}
use Prim.Native.Nat.{ℕ, zero, suc, ◌+◌, ◌-◌, ◌*◌, ◌/◌, ◌%◌, ◌^◌, ◌≤◌, ◌<◌}
use native.Mathlib.Omega.{arith}
use lib.Dec.{ltb, leb}
use lib.IntN.{ℤ, pos, negsuc}
use lib.ListN.{length, drop}
use Rattle.answers.specs.Verdict.{refusal_at}
use Rattle.bit_rules.specs.Digits.{bin}
use Rattle.bit_rules.specs.Source.{Source, Stop, Out, got, stopped, stop, take_bit}
use Rattle.bit_rules.specs.Reader.{Reader}
use Rattle.bit_rules.specs.Number.{take_number}
use Rattle.bit_rules.specs.Table.{Table}
use Rattle.bit_rules.specs.Read.{code_from, take_code}
use Rattle.plane_rules.specs.Plane.{Plane, read, refusing, onto, in_block, blocks_from}
use Rattle.plane_rules.specs.Task.{Task, walk, ended}
use Rattle.plane_rules.specs.Dc.{dc_block}
use Rattle.plane_rules.specs.AcRead.{end_run, meaning, task_at, position, block_end, ac_block}
use Rattle.trips.proofs.Asked.{Alike, Beyond, Past, Within, Outs, Law, First, also, bit_law, done_law, fail_law, then_first, then_law, if_law}

module _ (bytes : List ℕ) (k : ℕ) (C E : Type 0) where
  -- ---- codes and numbers

  abbrev L : {A : Type 0} → Reader A → Type 0
  L m = Law bytes k C E m

  abbrev F : {A : Type 0} → Reader A → Type 0
  F m = First bytes k C E m

  bit_first : F take_bit
  bit_first = bit_law bytes k C E

  give : {A : Type 0} (a : A) → L (λ s. got a s)
  give a = done_law bytes k C E a

  code_step : (n : ℕ) (counts values : List ℕ) (over : ℕ) → ((b : Bool) → L (code_from counts (drop n values) (2 * over + bin b - n))) → F (code_from (n ∷ counts) values over)
  unfolding code_from
  code_step n counts values over rest = then_first bytes k C E bit_first λ b. if_law bytes k C E (ltb (2 * over + bin b) n) (give _) (rest b)

  code_law : (counts values : List ℕ) (over : ℕ) → L (code_from counts values over)
  unfolding code_from
  code_law [] values over = fail_law bytes k C E 14 (omega arith)
  code_law (n ∷ counts) values over = also bytes k C E (code_step n counts values over λ b. code_law counts (drop n values) (2 * over + bin b - n))

  code_first : (counts values : List ℕ) (over : ℕ) → 0 < length counts → F (code_from counts values over)
  code_first [] values over h = absurd (omega arith)
  code_first (n ∷ counts) values over h = code_step n counts values over λ b. code_law counts (drop n values) (2 * over + bin b - n)

  number_law : (n v : ℕ) → L (take_number n v)
  unfolding take_number
  number_law zero v = give v
  number_law (suc n) v = also bytes k C E (then_first bytes k C E bit_first λ b. number_law n (2 * v + bin b))

  -- ---- tasks

  run_law : (left r : ℕ) → L (end_run left r)
  unfolding end_run
  run_law left r = then_law bytes k C E (number_law r 0) λ e. if_law bytes k C E (leb (2 ^ r + e) left) (give _) (fail_law bytes k C E 17 (omega arith))

  meaning_law : (left r s : ℕ) → L (meaning left r s)
  unfolding meaning
  meaning_law left r zero = if_law bytes k C E (ltb r 15) (run_law left r) (give _)
  meaning_law left r (suc zero) = also bytes k C E (then_first bytes k C E bit_first λ b. give _)
  meaning_law left r (suc (suc s)) = fail_law bytes k C E 15 (omega arith)

  task_first : (T : Table) (left : ℕ) → 0 < length T.counts → F (task_at T left None)
  unfolding task_at take_code
  task_first T left h = then_first bytes k C E (code_first T.counts T.values 0 h) λ v. meaning_law left (v / 16) (v % 16)

  task_law : (T : Table) (left : ℕ) → 0 < length T.counts → (o : Option Task) → L (task_at T left o)
  unfolding task_at
  task_law T left h (Some t) = give t
  task_law T left h None = also bytes k C E (task_first T left h)

  position_law : (t : Task) (c : ℤ) → L (position t c)
  unfolding position
  position_law t (pos zero) = give _
  position_law t (pos (suc n)) = also bytes k C E (then_first bytes k C E bit_first λ b. give _)
  position_law t (negsuc n) = also bytes k C E (then_first bytes k C E bit_first λ b. give _)

  -- ---- a block

  end_law : (o : Option Task) → L (block_end o)
  unfolding block_end
  end_law None = give _
  end_law (Some (ended n)) = give _
  end_law (Some (walk n sign)) = fail_law bytes k C E 16 (omega arith)

  module _ (T : Table) (left : ℕ) (h : 0 < length T.counts) where
    pub block_law : (o : Option Task) (values : List ℤ) → L (ac_block T left o values)
    unfolding ac_block
    block_law o [] = end_law o
    block_law o (c ∷ values) =
        then_law bytes k C E (task_law T left h o) λ t. then_law bytes k C E (position_law t c) λ x. then_law bytes k C E (block_law x.1 values) λ r. give _

    pub block_first : (c : ℤ) (values : List ℤ) → F (ac_block T left None (c ∷ values))
    unfolding ac_block
    block_first c values =
        then_first bytes k C E (task_first T left h) λ t. then_law bytes k C E (position_law t c) λ x. then_law bytes k C E (block_law x.1 values) λ r. give _

  pub dc_block_lem : (u : Unit {0}) (c : ℤ) (later : List ℤ) → F (dc_block u c later)
  dc_block_lem u c later = then_first bytes k C E bit_first λ b. give _

  -- ---- blocks one after another

  abbrev pub PastPlane : Plane → Type 0
  PastPlane (read values s) = Unit {0}
  PastPlane (refusing r) = k ≤ r.second

  -- a refusal within what both share
  abbrev pub SamePlane : Plane → Plane → Type 0
  SamePlane (read values s) p = Unit {0}
  SamePlane (refusing r) (read values u) = ⊥
  SamePlane (refusing r) (refusing r') = (r ≡ r') × Within bytes k C E (stop r.number r.second)

  abbrev pub EndsPlane : Plane → Type 0
  EndsPlane p = (block : ℕ) × (p ≡ refusing (refusal_at 12 block k))

  abbrev pub Planes : Plane → Plane → Type 0
  Planes p p' = SamePlane p p' ⊎ ((C → PastPlane p) × (E → EndsPlane p'))

  onto_past : (values : List ℤ) (p : Plane) → PastPlane p → PastPlane (onto values p)
  unfolding onto
  onto_past values (read more s) h = tt
  onto_past values (refusing r) h = h

  onto_ends : (values : List ℤ) (p : Plane) → EndsPlane p → EndsPlane (onto values p)
  unfolding onto
  onto_ends values p h = (h.0, rw h.1)

  onto_both : (values : List ℤ) (p p' : Plane) → Planes p p' → Planes (onto values p) (onto values p')
  unfolding onto
  onto_both values (read more s) p' (inl h) = inl tt
  onto_both values (refusing r) (read more u) (inl h) = absurd h
  onto_both values (refusing r) (refusing r') (inl h) = inl h
  onto_both values p p' (inr h) = inr (λ t. onto_past values p (h.0 t), λ e. onto_ends values p' (h.1 e))

  module _ {A B : Type 0} (one : A → B → List B → Reader (List ℤ × A)) (laws : (o : A) (b : B) (later : List B) → L (one o b later)) where
    past_in : (block : ℕ) (next : List ℤ × A → Source → Plane) (o : Out (List ℤ × A)) → Past bytes k C E o → ((a : List ℤ × A) (s : Source) → Beyond bytes k C E s → PastPlane (next a s)) → PastPlane (in_block block next o)
    past_in block next (got a s) h g = g a s h
    past_in block next (stopped x) h g = h

    past_blocks : (block : ℕ) (o : A) (bs : List B) (s : Source) → Beyond bytes k C E s → PastPlane (blocks_from one block o bs s)
    past_blocks block o [] s h = tt
    past_blocks block o (b ∷ bs) s h =
        past_in block _ (one o b bs s) ((laws o b bs).past s h) λ a t l. onto_past a.0 (blocks_from one (suc block) a.1 bs t) (past_blocks (suc block) a.1 bs t l)

    both_in : (block : ℕ) (next : List ℤ × A → Source → Plane) (o o' : Out (List ℤ × A)) → Outs bytes k C E o o' → ((a : List ℤ × A) (s : Source) → Beyond bytes k C E s → PastPlane (next a s))
        → ((a : List ℤ × A) (s u : Source) → Alike bytes k C E s u → s.last < s.seen → Planes (next a s) (next a u)) → Planes (in_block block next o) (in_block block next o')
    both_in block next (got a s) (got b u) (inl h) past g = rw (← h.0) (g a s u h.1 h.2)
    both_in block next (got a s) (stopped y) (inl h) past g = absurd h
    both_in block next (stopped x) (got b u) (inl h) past g = absurd h
    both_in block next (stopped x) (stopped y) (inl h) past g = inl (ap (λ (z : Stop). refusal_at z.number block z.offset) h.0, h.1)
    both_in block next o o' (inr h) past g = inr (λ t. past_in block next o (h.0 t) past, λ e. (block, ap (in_block block next) (h.1 e)))

    -- one block, and what is known of those behind it
    more_blocks : (block : ℕ) (o : A) (b : B) (bs : List B) (s u : Source) → Outs bytes k C E (one o b bs s) (one o b bs u)
        → ((a : List ℤ × A) (v w : Source) → Alike bytes k C E v w → v.last < v.seen → Planes (blocks_from one (suc block) a.1 bs v) (blocks_from one (suc block) a.1 bs w))
        → Planes (blocks_from one block o (b ∷ bs) s) (blocks_from one block o (b ∷ bs) u)
    more_blocks block o b bs s u h on =
        both_in block _ (one o b bs s) (one o b bs u) h
        (λ a v l. onto_past a.0 (blocks_from one (suc block) a.1 bs v) (past_blocks (suc block) a.1 bs v l))
        λ a v w l m. onto_both a.0 _ _ (on a v w l m)

    both_blocks : (block : ℕ) (o : A) (bs : List B) (s u : Source) → Alike bytes k C E s u → s.last < s.seen → Planes (blocks_from one block o bs s) (blocks_from one block o bs u)
    both_blocks block o [] s u h t = inl tt
    both_blocks block o (b ∷ bs) s u h t = more_blocks block o b bs s u ((laws o b bs).both s u h t) λ a v w l m. both_blocks (suc block) a.1 bs v w l m

    -- the first block asks for a bit before anything else
    pub first_blocks : (block : ℕ) (o : A) (b : B) (bs : List B) (s u : Source) → F (one o b bs) → Alike bytes k C E s u
        → Planes (blocks_from one block o (b ∷ bs) s) (blocks_from one block o (b ∷ bs) u)
    first_blocks block o b bs s u f h = more_blocks block o b bs s u (f.both s u h) λ a v w l m. both_blocks (suc block) a.1 bs v w l m
