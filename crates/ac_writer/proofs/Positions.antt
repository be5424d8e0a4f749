-- A position's task and tokens, and the positions of a block one after another. Assumes nothing.
use mathlib.Core.Path.{◌≡◌, refl, sym, ap, ◌∙◌}
use mathlib.Core.Bool.{Bool, true}
use mathlib.Core.List.{List, [], ◌∷◌, ◌++◌, map}
use Rattle.std.specs.Prelude.{Option, Some, None}
use Prim.Native.Nat.{ℕ, zero, suc, ◌+◌, ◌-◌, ◌^◌, ◌≤◌, ◌<◌}
use native.Mathlib.Omega.{arith}
use lib.IntN.{ℤ, pos}
use lib.ListN.{length, get_or, length-map, length-append}
use Rattle.bit_putter.specs.Code.{Sound, Puts}
use Rattle.bit_putter.specs.declared.Putter.{Putter}
use Rattle.bit_putter.proofs.Putting.{puts_then}
use Rattle.bit_rules.specs.Table.{Table, good_table}
use Rattle.plane_rules.specs.Task.{Task, walk, pass, over}
use Rattle.plane_rules.specs.AcWrite.{Kind, keep, still, fresh, Token, raw, kind_of, plan, emit, choose, tell, write_block}
use Rattle.ac_tasks.specs.Code.{task_of, open_of}
use Rattle.ac_tasks.specs.declared.Job.{Job}
use Rattle.ac_plan.specs.Code.{kinds_from, kind_is, Planned}
use Rattle.ac_plan.specs.declared.Change.{Change}
use Rattle.ac_plan.specs.declared.Change.TheVariants.{Kept, Still, Fresh}
use Rattle.ac_plan.proofs.Looking.{kinds_cons, kinds_end}
use Rattle.ac_pen.specs.Code.{PenReady, Told}
use Rattle.ac_pen.specs.declared.Pen.{Pen}
use Rattle.ac_pen.proofs.Tokens.{told_none, told_bits, Telling, telling_start, telling_turn, telling_end}
use Rattle.ac_writer.specs.Code.{Begins, Carries, Works, Moves}
use Rattle.ac_writer.specs.declared.State.{State}
use Rattle.ac_writer.specs.declared.Begun.{Begun}
use Rattle.ac_writer.specs.declared.Moved.{Moved}
use Rattle.ac_writer.proofs.Lengths.{tell_length, block_length}

-- ---- a position

module _ {T : Table} {before : List ℕ} {s : State} (kinds : List Kind) (later : List (List Kind)) where
  -- a task is open
  pub begins_open : {job : Job} → s.task ≡ Some job → Sound s.pen.putter → Begins T before before s (record { pen = s.pen; job = job }) kinds later
  begins_open e h = record { job = rw e; told = rw e (told_none h) }

  -- a code is needed
  pub begins_need : {after : List ℕ} {job : Job} {p : Pen} → s.task ≡ None → Planned job (plan kinds later) → Told T before after s.pen p (emit (task_of job))
      → Begins T before after s (record { pen = p; job = job }) kinds later
  begins_need e h f = record { job = rw e h.same; told = rw e (rw h.same at f) }

  pub begins_near : {after : List ℕ} {b : Begun} → Begins T before after s b kinds later → good_table T ≡ true → PenReady s.pen
      → Sound b.pen.putter × (b.pen.putter.at < 2 ^ 61)
  begins_near b g h =
      (b.told.put.sound, omega (arith, b.told.put.near, tell_length T g (open_of s.task) (choose (open_of s.task) kinds later), h.near))

-- ---- the positions of a block

-- what a task comes to at a position
open_kept : (t : Task) (b : Bool) (all kinds : List Kind) (later : List (List Kind)) → all ≡ keep b ∷ kinds
    → write_block (Some t) all later ≡ (raw b ∷ (write_block (Some t) kinds later).0, (write_block (Some t) kinds later).1)
unfolding write_block
open_kept t b all kinds later e = rw e

open_still : (t : Task) (all kinds : List Kind) (later : List (List Kind)) → all ≡ still ∷ kinds → write_block (Some t) all later ≡ write_block (pass t) kinds later
unfolding write_block
open_still t all kinds later e = rw e

open_fresh : (t : Task) (b : Bool) (all kinds : List Kind) (later : List (List Kind)) → all ≡ fresh b ∷ kinds → write_block (Some t) all later ≡ write_block (pass t) kinds later
unfolding write_block
open_fresh t b all kinds later e = rw e

-- a code is told first, where none is open
open_told : (o : Option Task) (x : Kind) (all kinds : List Kind) (later : List (List Kind)) → all ≡ x ∷ kinds
    → write_block o all later ≡ (tell o (choose o all later) ++ (write_block (Some (choose o all later)) all later).0, (write_block (Some (choose o all later)) all later).1)
unfolding write_block
open_told o x all kinds later e = rw e

block_none : (o : Option Task) (kinds : List Kind) (later : List (List Kind)) → kinds ≡ [] → write_block o kinds later ≡ ([], over o)
unfolding write_block
block_none o kinds later e = rw e

-- ---- corrections from a position on

raw_append : (a b : List Bool) (more : List Token) → map raw (a ++ b) ++ more ≡ map raw a ++ (map raw b ++ more)
raw_append [] b more = refl
raw_append (x ∷ a) b more = ap (◌∷◌ (raw x)) (raw_append a b more)

module _ {before after : List ℕ} {p r : Putter} {block : List ℤ} {o : Option Task} {i j : ℕ} where
  pub carries_near : {o' : Option Task} → Carries before after p r block o o' i j → j ≤ length block → length block ≤ 63 → p.at < 2 ^ 61 → Sound r × (r.at < 2 ^ 62)
  carries_near k h l n = (k.put.sound, omega (arith, k.put.near, k.few))

  -- behind the block, whatever walk is open comes to nothing
  pub carries_past : {n : ℕ} {sign : Option Bool} → Carries before after p r block o (Some (walk n sign)) i j → length block ≤ j → Carries before after p r block o None i j
  carries_past {n} {sign} k h = record {
    bits = k.bits;
    put = k.put;
    few = k.few;
    same = λ later.
        rw (block_none None (kinds_from block j) later (kinds_end block j h))
        (rw (block_none (Some (walk n sign)) (kinds_from block j) later (kinds_end block j h)) at (k.same later));
  }

  module _ {t : Task} (k : Carries before after p r block o (Some t) i j) (h : j < length block) {change : Change} (e : kind_is change ≡ kind_of (get_or block j (pos 0))) where
    here : {d : Change} → change ≡ d → kinds_from block j ≡ kind_is d ∷ kinds_from block (j + 1)
    here q = kinds_cons block j h ∙ ap (λ (x : Kind). x ∷ kinds_from block (j + 1)) (sym e ∙ ap kind_is q)

    pub carries_kept : {last : List ℕ} {q : Putter} {b : Bool} → change ≡ Kept b → Puts after last r q (b ∷ []) → Carries before last p q block o (Some t) i (j + 1)
    unfolding kind_is
    carries_kept {last} {q} {b} c f = record {
      bits = k.bits ++ (b ∷ []);
      put = puts_then k.put f;
      few = omega (arith, k.few, length-append k.bits (b ∷ []));
      same = λ later.
          k.same later
          ∙ ap (λ (x : List Token × Option Task). (map raw k.bits ++ x.0, x.1)) (open_kept t b (kinds_from block j) (kinds_from block (j + 1)) later (here c))
          ∙ ap (λ (l : List Token). (l, (write_block (Some t) (kinds_from block (j + 1)) later).1)) (sym (raw_append k.bits (b ∷ []) (write_block (Some t) (kinds_from block (j + 1)) later).0));
    }

    carries_still : change ≡ Still → Carries before after p r block o (pass t) i (j + 1)
    unfolding kind_is
    carries_still c = record {
      bits = k.bits;
      put = k.put;
      few = omega (arith, k.few);
      same = λ later. k.same later ∙ ap (λ (x : List Token × Option Task). (map raw k.bits ++ x.0, x.1)) (open_still t (kinds_from block j) (kinds_from block (j + 1)) later (here c));
    }

    carries_fresh : {b : Bool} → change ≡ Fresh b → Carries before after p r block o (pass t) i (j + 1)
    unfolding kind_is
    carries_fresh {b} c = record {
      bits = k.bits;
      put = k.put;
      few = omega (arith, k.few);
      same = λ later. k.same later ∙ ap (λ (x : List Token × Option Task). (map raw k.bits ++ x.0, x.1)) (open_fresh t b (kinds_from block j) (kinds_from block (j + 1)) later (here c));
    }

    -- a zero that stays, or a new value
    pub carries_other : ((b : Bool) → change ≡ Kept b → ⊥) → Carries before after p r block o (pass t) i (j + 1)
    carries_other n = go change refl
      where
        go : (d : Change) → change ≡ d → Carries before after p r block o (pass t) i (j + 1)
        go (Kept b) c = absurd (n b c)
        go Still c = carries_still c
        go (Fresh b) c = carries_fresh c

-- the walk's count, one less or done
pub walked : {before after : List ℕ} {p r : Putter} {block : List ℤ} {o : Option Task} {i j : ℕ} (n : ℕ) (sign : Option Bool)
    → Carries before after p r block o (pass (walk n sign)) i j → (n ≡ 0 → ⊥) → Carries before after p r block o (Some (walk (n - 1) sign)) i j
walked zero sign k h = absurd (h refl)
walked (suc n) sign k h = let q : suc n - 1 ≡ n = omega arith in rw q k

pub landed : {before after : List ℕ} {p r : Putter} {block : List ℤ} {o : Option Task} {i j : ℕ} (n : ℕ) (sign : Option Bool)
    → Carries before after p r block o (pass (walk n sign)) i j → n ≡ 0 → Carries before after p r block o None i j
landed zero sign k h = k
landed (suc n) sign k h = absurd (omega arith)

-- behind i positions, what is still to tell comes to what the block comes to
pub record Walking (T : Table) (before memory : List ℕ) (s q : State) (block : List ℤ) (i : ℕ) (later : List (List Kind)) : Type 0 where
  pub telling : Telling T before memory s.pen q.pen (write_block (open_of q.task) (kinds_from block i) later).0 (write_block (open_of s.task) (kinds_from block 0) later).0
  pub task : (write_block (open_of q.task) (kinds_from block i) later).1 ≡ (write_block (open_of s.task) (kinds_from block 0) later).1

kinds_length : (block : List ℤ) → length (kinds_from block 0) ≡ length block
unfolding kinds_from
kinds_length block = length-map block kind_of

module _ {T : Table} {before : List ℕ} {s : State} (block : List ℤ) (later : List (List Kind)) where
  pub walk_start : Sound s.pen.putter → Walking T before before s s block 0 later
  walk_start h = record { telling = telling_start h; task = refl }

  module _ {memory : List ℕ} {q : State} {i : ℕ} (w : Walking T before memory s q block i later) where
    pub walk_ready : good_table T ≡ true → length block ≤ 63 → s.pen.putter.at < 2 ^ 59 → PenReady q.pen
    walk_ready g h l = record {
      sound = w.telling.going.sound;
      near = omega (arith, w.telling.going.near, block_length T g (open_of s.task) (kinds_from block 0) later, kinds_length block);
    }

    -- a task is begun at position i, and carried out to position j
    pub walk_turn : {middle after : List ℕ} {b : Begun} {m : Moved} → i < length block → Begins T memory middle q b (kinds_from block i) later
        → Works middle after b.pen (task_of b.job) i block m → Walking T before after s (record { pen = m.pen; task = m.task }) block m.at later
    walk_turn {middle} {after} {b} {m} h g k =
        let o = open_of q.task in
        let t = choose o (kinds_from block i) later in
        let bits = k.carried.bits in
        let e : write_block o (kinds_from block i) later ≡ (tell o t ++ (map raw bits ++ (write_block (open_of m.task) (kinds_from block m.at) later).0), (write_block (open_of m.task) (kinds_from block m.at) later).1) =
        open_told o _ (kinds_from block i) (kinds_from block (i + 1)) later (kinds_cons block i h)
        ∙ ap (λ (x : List Token × Option Task). (tell o t ++ x.0, x.1)) (rw g.job at (k.carried.same later))
        in
        record {
          telling =
              telling_turn (map raw bits) _ (telling_turn (tell o t) _ (rw (ap (λ (x : List Token × Option Task). x.0) e) at w.telling) g.told)
              (told_bits bits k.carried.put k.lack);
          task = sym (ap (λ (x : List Token × Option Task). x.1) e) ∙ w.task;
        }

    pub walk_end : {j : (Option Job)} → length block ≤ i → open_of j ≡ over (open_of q.task)
        → Moves T before memory s (record { pen = q.pen; task = j }) (write_block (open_of s.task) (kinds_from block 0) later)
    walk_end h e =
        let n = block_none (open_of q.task) (kinds_from block i) later (kinds_end block i h) in
        record {
          told = telling_end (rw (ap (λ (x : List Token × Option Task). x.0) n) at w.telling);
          task = e ∙ sym (ap (λ (x : List Token × Option Task). x.1) n) ∙ w.task;
        }
