-- Laws of `put_at`: bytes written at a position of a list.
use Prim.Native.Nat.{ℕ, ◌+◌, ◌≤◌, ◌<◌}
use mathlib.Core.Path.{◌≡◌, refl, ap, ap₂, sym, ◌∙◌}
use mathlib.Core.List.{List, [], ◌∷◌, ◌++◌, append_assoc}
use native.Mathlib.Omega.{arith}
use native.Mathlib.Nat.{zero-add}
use native.Mathlib.Numerals.{add-one}
use lib.ListN.{length, take, drop, set, get_or, length-drop, length-append}
use lib.Seq.{length-take-le, take_at, drop-append-add, drop-drop, get_or-drop, paste, paste-zero, paste-suc}
use Rattle.box_rules.specs.declared.Head.{Head}
use Rattle.box_rules.specs.Packets.{Packet, mine_from}
use Rattle.packets.specs.Code.{Met}
use Rattle.box_rules.specs.Order.{payloads}
use Rattle.copies.specs.Code.{put_at}
use Rattle.box_rules.proofs.Walking.{part_length}

pub put_nil : (d : List ℕ) (at : ℕ) → put_at d at [] ≡ d
unfolding put_at
put_nil d at = sym (paste-zero d at [])

head_length : (d a : List ℕ) (at : ℕ) → at + length a ≤ length d → length (take at d ++ a) ≡ at + length a
head_length d a at h = length-append (take at d) a ∙ ap (λ (k : ℕ). k + length a) (length-take-le at d (omega arith))

pub put_length : (d a : List ℕ) (at : ℕ) → at + length a ≤ length d → length (put_at d at a) ≡ length d
unfolding put_at
put_length d a at h =
    length-append (take at d ++ a) (drop (at + length a) d)
    ∙ omega (arith, head_length d a at h, length-drop (at + length a) d)

pub put_put : (d a b : List ℕ) (at : ℕ) → at + length a ≤ length d → put_at (put_at d at a) (at + length a) b ≡ put_at d at (a ++ b)
unfolding put_at
put_put d a b at h =
    let front : List ℕ = take at d ++ a in
    let rest : List ℕ = drop (at + length a) d in
    let z : length front ≡ at + length a = head_length d a at h in
    let t : take (at + length a) (front ++ rest) ≡ front = take_at front rest (at + length a) z in
    let u : drop (at + length a + length b) (front ++ rest) ≡ drop (at + length a + length b) d =
    ap (λ (k : ℕ). drop (k + length b) (front ++ rest)) (sym z) ∙ drop-append-add front rest (length b) ∙ drop-drop (length b) (at + length a) d in
    let v : at + length a + length b ≡ at + length (a ++ b) = omega (arith, length-append a b) in
    ap₂ (λ (x y : List ℕ). x ++ b ++ y) t (u ∙ ap (λ (k : ℕ). drop k d) v)
    ∙ ap (λ (x : List ℕ). x ++ drop (at + length (a ++ b)) d) (append_assoc (take at d) a b)

pub put_front : (d b : List ℕ) → put_at d 0 b ≡ b ++ drop (length b) d
unfolding put_at
put_front d b = ap (λ (k : ℕ). b ++ drop k d) (zero-add (length b))

pub paste_put : (d s : List ℕ) (at n : ℕ) → n ≤ length s → paste d at s n ≡ put_at d at (take n s)
unfolding put_at
paste_put d s at n h = ap (λ (k : ℕ). take at d ++ take n s ++ drop (at + k) d) (sym (length-take-le n s h))

-- ---- a turn of the loop that copies

pub copy_turn : (d₀ d s : List ℕ) (to start i : ℕ) → d ≡ paste d₀ to (drop start s) i → to + i < length d₀ → start + i < length s
    → set d (to + i) (get_or s (start + i) 0) ≡ paste d₀ to (drop start s) (i + 1)
copy_turn d₀ d s to start i e h g =
    ap (λ (x : List ℕ). set x (to + i) (get_or s (start + i) 0)) e
    ∙ ap (λ (v : ℕ). set (paste d₀ to (drop start s) i) (to + i) v) (sym (get_or-drop start s i 0))
    ∙ paste-suc d₀ to (drop start s) i 0 h (simp length-drop (omega arith))
    ∙ ap (λ (k : ℕ). paste d₀ to (drop start s) k) (sym (add-one i))

-- ---- writing a text piece by piece: what is left to write at `end` of d is the whole at `to` of d₀

pub record Writing (d : List ℕ) (end : ℕ) (rest d₀ : List ℕ) (to : ℕ) (all : List ℕ) : Type 0 where
  pub text : put_at d end rest ≡ put_at d₀ to all
  pub place : end + length rest ≡ to + length all
  pub room : to + length all ≤ length d₀
  pub size : length d ≡ length d₀

pub write_start : (d : List ℕ) (to : ℕ) (all : List ℕ) → to + length all ≤ length d → Writing d to all d to all
write_start d to all h = record { text = refl; place = refl; room = h; size = refl }

pub write_room : {d rest d₀ all : List ℕ} {end to : ℕ} → Writing d end rest d₀ to all → (a b : List ℕ) → rest ≡ a ++ b → end + length a ≤ length d
write_room {d} {rest} {d₀} {all} {end} {to} w a b e =
    let p = w.place in let r = w.room in let s = w.size in
    omega (arith, ap length e, length-append a b)

pub write_more : {d rest d₀ all : List ℕ} {end to : ℕ} → Writing d end rest d₀ to all → (a b : List ℕ) {d' : List ℕ} {k : ℕ} → rest ≡ a ++ b → d' ≡ put_at d end a → length a ≡ k
    → Writing d' (end + k) b d₀ to all
write_more {d} {rest} {d₀} {all} {end} {to} w a b {d'} {k} e f g =
    let h : end + length a ≤ length d = write_room w a b e in
    record {
      text = ap₂ (λ (x : List ℕ) (j : ℕ). put_at x (end + j) b) f (sym g) ∙ put_put d a b end h ∙ ap (put_at d end) (sym e) ∙ w.text;
      place = let p = w.place in omega (arith, ap length e, length-append a b);
      room = w.room;
      size = ap length f ∙ put_length d a end h ∙ w.size;
    }

pub write_done : {d rest d₀ all : List ℕ} {end to : ℕ} → Writing d end rest d₀ to all → rest ≡ [] → (d ≡ put_at d₀ to all) × (end ≡ to + length all)
write_done {d} {rest} {d₀} {all} {end} {to} w e =
    (sym (put_nil d end) ∙ ap (put_at d end) (sym e) ∙ w.text, let p = w.place in omega (arith, ap length e))

-- ---- the texts of a list of packets

pub payloads_here : {ps r : List Packet} {p : Packet} → ps ≡ p ∷ r → payloads ps ≡ p.payload ++ payloads r
unfolding payloads
payloads_here e = ap payloads e

pub payloads_none : {ps : List Packet} → ps ≡ [] → payloads ps ≡ []
unfolding payloads
payloads_none e = ap payloads e

-- ---- a turn of each pass that writes: there is room for the piece, and once it is written the rest is left

pub payload_turn : {file : List ℕ} {kind instance at : ℕ} {head : Head} {start len next : ℕ} {d d₀ all : List ℕ} {end to : ℕ} → Writing d end (payloads (mine_from file kind instance at)) d₀ to all
    → Met file kind instance at head start len next
    → (end + len ≤ length d) × ((d' : List ℕ) → d' ≡ put_at d end (take len (drop start file)) → Writing d' (end + len) (payloads (mine_from file kind instance next)) d₀ to all)
payload_turn {file} {kind} {instance} {at} {head} {start} {len} {next} {d} {d₀} {all} {end} {to} w m =
    let a : List ℕ = take len (drop start file) in
    let z : length a ≡ len = part_length file start len (omega arith) in
    let e : payloads (mine_from file kind instance at) ≡ a ++ payloads (mine_from file kind instance next) = payloads_here m.list in
    (omega (arith, write_room w a (payloads (mine_from file kind instance next)) e), λ d' f. write_more w a (payloads (mine_from file kind instance next)) e f z)
