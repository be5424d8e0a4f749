-- Laws of a step and of the walk: each step goes forward, and the walk is its first step and the walk from there. Assumes nothing.
use Prim.Native.Nat.{ℕ, zero, suc, ◌+◌, ◌-◌, ◌≤◌, ◌<◌}
use mathlib.Core.Path.{◌≡◌, refl, ap, sym, subst, ◌∙◌}
use mathlib.Core.Logic.{⊎_elim}
use mathlib.Core.List.{List, [], ◌∷◌}
use mathlib.Core.Bool.{Bool, true, false}
use native.Mathlib.Omega.{arith}
use lib.ListN.{length, get_or, take, drop, length-drop}
use lib.Seq.{length-take-le}
use lib.Dec.{eqb, ltb, leb}
use borrow.Author.Tests.{ne_eqb, le-leb, lt-leb, le-ltb, ltb-false, leb-false}
use Rattle.laws.proofs.Choices.{either, by_test}
use Rattle.answers.specs.Verdict.{refusal}
use Rattle.answers.specs.declared.Refusal.{Refusal}
use Rattle.std.specs.Prelude.{Ok, Err}
use Rattle.box_rules.specs.declared.Head.{Head}
use Rattle.box_rules.specs.declared.Step.{Step}
use Rattle.box_rules.specs.declared.Step.TheVariants.{End, Skip, Meet, Broken}
use Rattle.box_rules.specs.Walk.{be16, be32, head_at, long_head_at, held_at, ones, barred, tagged, packet_at, whole_at, sized_at, marked_at, step_at, onward, steps_in, steps_from, begins, walk_from, walk, ending}
use Rattle.box_rules.specs.Packets.{packet, packets_in, packets, mine, mine_from}
use Rattle.box_rules.proofs.Runs.{ones_end}

-- a step goes forward, and stays in the file
abbrev pub Forward : List ℕ → ℕ → Step → Type 0
Forward file at End = Unit
Forward file at (Broken r) = Unit
Forward file at (Skip next) = (at < next) × (next ≤ length file)
Forward file at (Meet head start len next) = (at < start) × (start + len ≡ next) × (next ≤ length file)

forward_held : (file : List ℕ) (at : ℕ) (head : Head) (start len next : ℕ) → Forward file at (Meet head start len next) → Forward file at (held_at at head start len next)
forward_held file at head start len next h = by_test (Forward file at) (ltb head.stated head.heading) (λ t. tt) (λ t. h)

forward_packet : (file : List ℕ) (at m len : ℕ) → at < m → m + 1 + len ≤ length file → Forward file at (packet_at file at m len)
unfolding packet_at
forward_packet file at m len h e =
    by_test (Forward file at) (ltb len 18) (λ t. tt) λ t.
    by_test (Forward file at) (eqb (be32 file (m + 11)) 1)
    (λ u. by_test (Forward file at) (ltb len 26) (λ v. tt) λ v. forward_held file at (long_head_at file m) _ _ _ (omega (arith, ltb-false len 26 v)))
    (λ u. forward_held file at (head_at file m) _ _ _ (omega (arith, ltb-false len 18 t)))

forward_whole : (file : List ℕ) (at m len : ℕ) → at < m → m + 1 + len ≤ length file → Forward file at (whole_at file at m len)
unfolding whole_at
forward_whole file at m len h e =
    by_test (Forward file at) (eqb (get_or file m 0) 235)
    (λ t. by_test (Forward file at) (tagged file m len) (λ u. forward_packet file at m len h e) (λ u. omega arith))
    (λ t. omega arith)

forward_sized : (file : List ℕ) (at m : ℕ) → at < m → Forward file at (sized_at file at m)
unfolding sized_at
forward_sized file at m h =
    by_test (Forward file at) (ltb (length file) (m + 3)) (λ t. tt) λ t.
    by_test (Forward file at) (ltb (be16 file (m + 1)) 2) (λ u. tt) λ u.
    by_test (Forward file at) (ltb (length file) (m + 1 + be16 file (m + 1))) (λ v. tt) λ v.
    forward_whole file at m (be16 file (m + 1)) h (ltb-false _ _ v)

forward : (file : List ℕ) (at : ℕ) → Forward file at (step_at file at)
unfolding step_at marked_at
forward file at =
    let m : ℕ = at + ones (drop at file) in
    by_test (Forward file at) (leb m at) (λ t. tt) λ t.
    by_test (Forward file at) (leb (length file) m) (λ u. tt) λ u.
    by_test (Forward file at) (eqb (get_or file m 0) 218) (λ v. tt) λ v.
    by_test (Forward file at) (barred (get_or file m 0)) (λ w. tt) λ w.
    forward_sized file at m (leb-false _ _ t)

-- where the marker and the length of a whole segment stand, the step is what the segment holds
pub segment_at : (file : List ℕ) (at m len : ℕ) → at + ones (drop at file) ≡ m → at < m → (get_or file m 0 ≡ 218 → ⊥) → barred (get_or file m 0) ≡ false
    → be16 file (m + 1) ≡ len → 2 ≤ len → m + 1 + len ≤ length file → step_at file at ≡ whole_at file at m len
unfolding step_at marked_at sized_at
segment_at file at m len run past sos free size least inside =
    rw (
      run,
      lt-leb m at past,
      lt-leb (length file) m (omega arith),
      ne_eqb (get_or file m 0) 218 sos,
      free,
      le-ltb (length file) (m + 3) (omega arith),
      size,
      le-ltb len 2 least,
      le-ltb (length file) (m + 1 + len) inside,
    )

-- past the end there is no segment
step_past : (file : List ℕ) (at : ℕ) → length file ≤ at → step_at file at ≡ Broken (refusal 2 at)
unfolding step_at marked_at
step_past file at h =
    let e : at ≡ at + ones (drop at file) = ones_end file at h in
    simp (le-leb (at + ones (drop at file)) at (omega arith))

-- any number of steps that is enough gives the same walk
same_onward : (file : List ℕ) (at : ℕ) (f g : ℕ → List Step) → ((n : ℕ) → at < n → f n ≡ g n) → (step : Step) → Forward file at step → onward step f ≡ onward step g
same_onward file at f g h End w = refl
same_onward file at f g h (Broken r) w = refl
same_onward file at f g h (Skip next) w = h next w.0
same_onward file at f g h (Meet head start len next) w = h next (omega arith)

enough : (file : List ℕ) (k j at : ℕ) → length file ≤ at + k → length file ≤ at + j → steps_in k file at ≡ steps_in j file at
unfolding steps_in
enough file zero zero at a b = refl
enough file zero (suc j) at a b = rw (step_past file at (omega arith))
enough file (suc k) zero at a b = rw (step_past file at (omega arith))
enough file (suc k) (suc j) at a b =
    ap (λ (r : List Step). step_at file at ∷ r)
    (same_onward file at (steps_in k file) (steps_in j file) (λ n h. enough file k j n (omega arith) (omega arith)) (step_at file at) (forward file at))

-- the walk is its first step, and the walk from there
pub unroll : (file : List ℕ) (at : ℕ) → steps_from file at ≡ step_at file at ∷ onward (step_at file at) (steps_from file)
unfolding steps_from steps_in
unroll file at =
    enough file (length file - at) (suc (length file)) at (omega arith) (omega arith)
    ∙ ap (λ (r : List Step). step_at file at ∷ r)
    (same_onward file at (steps_in (length file) file) (steps_from file) (λ n h. enough file (length file) (length file - n) n (omega arith) (omega arith)) (step_at file at) (forward file at))

-- ---- by what stands at a position: where the next step is

module _ (file : List ℕ) (at : ℕ) where
  pub forward_skip : {n : ℕ} → step_at file at ≡ Skip n → (at < n) × (n ≤ length file)
  forward_skip e = subst (Forward file at) e (forward file at)

  pub forward_meet : {head : Head} {start len n : ℕ} → step_at file at ≡ Meet head start len n → (at < start) × (start + len ≡ n) × (n ≤ length file)
  forward_meet e = subst (Forward file at) e (forward file at)

  -- ---- how the walk ends

  pub ending_end : step_at file at ≡ End → ending (steps_from file at) ≡ Ok 0
  unfolding ending
  ending_end e = ap ending (unroll file at) ∙ rw e

  pub ending_broken : {r : Refusal} → step_at file at ≡ Broken r → ending (steps_from file at) ≡ Err r
  unfolding ending
  ending_broken e = ap ending (unroll file at) ∙ rw e

  pub ending_skip : {n : ℕ} → step_at file at ≡ Skip n → ending (steps_from file at) ≡ ending (steps_from file n)
  unfolding ending
  ending_skip e = ap ending (unroll file at) ∙ rw e

  pub ending_meet : {head : Head} {start len n : ℕ} → step_at file at ≡ Meet head start len n → ending (steps_from file at) ≡ ending (steps_from file n)
  unfolding ending
  ending_meet e = ap ending (unroll file at) ∙ rw e

  -- ---- the packets from there on

  pub packets_end : step_at file at ≡ End → packets_in file (steps_from file at) ≡ []
  unfolding packets_in
  packets_end e = ap (packets_in file) (unroll file at) ∙ rw e

  pub packets_broken : {r : Refusal} → step_at file at ≡ Broken r → packets_in file (steps_from file at) ≡ []
  unfolding packets_in
  packets_broken e = ap (packets_in file) (unroll file at) ∙ rw e

  pub packets_skip : {n : ℕ} → step_at file at ≡ Skip n → packets_in file (steps_from file at) ≡ packets_in file (steps_from file n)
  unfolding packets_in
  packets_skip e = ap (packets_in file) (unroll file at) ∙ rw e

  pub packets_meet : {head : Head} {start len n : ℕ} → step_at file at ≡ Meet head start len n
      → packets_in file (steps_from file at) ≡ packet file head start len ∷ packets_in file (steps_from file n)
  unfolding packets_in
  packets_meet e = ap (packets_in file) (unroll file at) ∙ rw e

-- ---- the whole file

module _ (file : List ℕ) (from : ℕ) where
  pub on_begun : begins file ≡ true → walk_from file from ≡ steps_from file from
  on_begun h = rw h

  pub on_not : begins file ≡ false → ending (walk_from file from) ≡ Err (refusal 1 0)
  unfolding ending
  on_not h = rw h

module _ (file : List ℕ) where
  pub walk_begun : begins file ≡ true → walk file ≡ steps_from file 2
  unfolding walk
  walk_begun = on_begun file 2

  pub walk_not : begins file ≡ false → ending (walk file) ≡ Err (refusal 1 0)
  unfolding walk
  walk_not = on_not file 2

  -- a walk on ends as the whole one, where all went well until there
  pub walk_on : (from : ℕ) → ending (steps_from file 2) ≡ ending (steps_from file from) → ending (walk_from file from) ≡ ending (walk file)
  walk_on from e =
      ⊎_elim (λ b. ap ending (on_begun file from b) ∙ sym e ∙ sym (ap ending (walk_begun b))) (λ b. on_not file from b ∙ sym (walk_not b)) (either (begins file))

-- a walk that ends well gives the place 0
pub ended : (steps : List Step) (n : ℕ) → ending steps ≡ Ok n → n ≡ 0
unfolding ending
ended [] n e = cc
ended (End ∷ r) n e = cc
ended (Broken f ∷ r) n e = let z : ◌≡◌ {A = ℕ} 0 1 = cc in let y : ⊥ = omega arith in absurd y
ended (Skip next ∷ r) n e = ended r n e
ended (Meet head start len next ∷ r) n e = ended r n e

-- of a walk that ends well, the packets are those from position 2 on
pub packets_all : (file : List ℕ) (count : ℕ) → ending (walk file) ≡ Ok count → packets file ≡ packets_in file (steps_from file 2)
unfolding packets
packets_all file count h = go (begins file) refl
  where
    go : (b : Bool) → begins file ≡ b → packets_in file (walk file) ≡ packets_in file (steps_from file 2)
    go true e = ap (packets_in file) (walk_begun file e)
    go false e = let f = sym (walk_not file e) ∙ h in let z : ◌≡◌ {A = ℕ} 0 1 = cc in let y : ⊥ = omega arith in absurd y

pub mine_all : (file : List ℕ) (kind instance count : ℕ) → ending (walk file) ≡ Ok count → mine kind instance (packets file) ≡ mine_from file kind instance 2
unfolding mine_from
mine_all file kind instance count h = ap (mine kind instance) (packets_all file count h)

-- a payload that ends in the file has its length
pub part_length : (file : List ℕ) (start len : ℕ) → start + len ≤ length file → length (take len (drop start file)) ≡ len
part_length file start len h = length-take-le len (drop start file) (simp length-drop (omega arith))
