-- The laws of putting several bits at once: what is in hand and what follows make one number, and its whole bytes go first. Assumes nothing.
use mathlib.Core.Path.{◌≡◌, refl, sym, ap, ap₂, ◌∙◌}
use mathlib.Core.List.{List, [], ◌∷◌, ◌++◌, append_assoc}
use mathlib.Core.Bool.{Bool}
use Prim.Native.Nat.{ℕ, zero, suc, ◌+◌, ◌-◌, ◌*◌, ◌/◌, ◌%◌, ◌^◌, ◌≤◌, ◌<◌}
use native.Mathlib.Nat.{pow-suc, mod-lt, mod-eq_of_lt, add-mul, mul-add-div_right}
use native.Mathlib.Omega.{arith}
use lib.Bits.{bit_and, bit_or, and_mask, or_shifted}
use lib.Dec.{eqb}
use lib.ListN.{length}
use lib.Pow.{pow_pos, high, split, shr-shr, mod-pow-add, shl_exact}
use lib.Seq.{sets}
use Rattle.bit_rules.specs.Digits.{bin, odd, digits}
use Rattle.bit_rules.specs.Pack.{stuffed, packed}
use Rattle.bit_putter.specs.Code.{Sound, finishing, Puts}
use Rattle.bit_putter.specs.declared.Putter.{Putter}
use Rattle.bit_putter.proofs.Putting.{laid, byte_laid, stuffed_short}
use Rattle.bit_rules.proofs.Digits.{bin_odd, digits_length}

-- ---- the code's shifts and masks

pub one_moved : (n : ℕ) → n ≤ 16 → 1 * 2 ^ n % 2 ^ 32 ≡ 2 ^ n
one_moved n h = let e : 1 * 2 ^ n ≡ 2 ^ n = omega arith in shl_exact {a = 1} 1 n 32 (omega arith) (omega arith) ∙ e

pub masked : (v n : ℕ) → n ≤ 16 → bit_and v (1 * 2 ^ n % 2 ^ 32 - 1) ≡ v % 2 ^ n
masked v n h = rw (one_moved n h) (and_mask v n)

pub both : (held size v : ℕ) → held < 128 → size ≤ 16 → bit_or (held * 2 ^ size % 2 ^ 32) (v % 2 ^ size) ≡ held * 2 ^ size + v % 2 ^ size
both held size v h l = rw (shl_exact {a = held} 7 size 32 h (omega arith)) (or_shifted held size (v % 2 ^ size) (mod-lt v (pow_pos size)))

-- ---- digits

-- the high digits, then the low ones
digits_split : (j k v : ℕ) → digits (j + k) v ≡ digits j (v / 2 ^ k) ++ digits k v
unfolding digits
digits_split zero k v = let e : 0 + k ≡ k = omega arith in rw e
digits_split (suc j) k v =
    let e : suc j + k ≡ suc (j + k) = omega arith in
    let c : k + j ≡ j + k = omega arith in
    rw (e, shr-shr v k j, c) (ap (◌∷◌ (odd (v / 2 ^ (j + k)))) (digits_split j k v))

-- what lies above them does not change them
digits_low : (k h v : ℕ) → digits k (h * 2 ^ k + v) ≡ digits k v
unfolding digits
digits_low zero h v = refl
digits_low (suc k) h v =
    let e : h * 2 ^ suc k ≡ 2 * h * 2 ^ k = rw (pow-suc 2 k) (omega arith) in
    let q : (2 * h * 2 ^ k + v) / 2 ^ k ≡ 2 * h + v / 2 ^ k = mul-add-div_right (pow_pos k) (2 * h) v in
    let r : (2 * h + v / 2 ^ k) % 2 ≡ v / 2 ^ k % 2 = omega arith in
    rw (e, q) (ap₂ (λ (x : ℕ) (l : List Bool). eqb x 1 ∷ l) r (digits_low k (2 * h) v))

-- two numbers' digits are one number's
digits_join : (j k h v : ℕ) → digits j h ++ digits k v ≡ digits (j + k) (h * 2 ^ k + v % 2 ^ k)
digits_join j k h v =
    let e : digits k v ≡ digits k (v % 2 ^ k) = ap (digits k) (sym (split v k)) ∙ digits_low k (v / 2 ^ k) (v % 2 ^ k) in
    let q : (h * 2 ^ k + v % 2 ^ k) / 2 ^ k ≡ h = high h k (mod-lt v (pow_pos k)) in
    rw (digits_split j k (h * 2 ^ k + v % 2 ^ k), q, digits_low k h (v % 2 ^ k), e)

-- ---- bytes

-- one more digit of v below h
next_digit : (h v k : ℕ) → (2 * h + bin (odd (v / 2 ^ k))) * 2 ^ k + v % 2 ^ k ≡ h * 2 ^ suc k + v % 2 ^ suc k
next_digit h v k =
    let b : ℕ = bin (odd (v / 2 ^ k)) in
    let e : b ≡ v / 2 ^ k % 2 = bin_odd (v / 2 ^ k) in
    let m : v % 2 ^ (1 + k) ≡ v / 2 ^ k % 2 ^ 1 * 2 ^ k + v % 2 ^ k = mod-pow-add v 1 k in
    let s : 1 + k ≡ suc k = omega arith in
    let m' : v % 2 ^ suc k ≡ b * 2 ^ k + v % 2 ^ k = rw (← s, e) m in
    rw (m', pow-suc 2 k, add-mul (2 * h) b (2 ^ k)) (omega arith)

-- digits that leave room are held
packed_held : (k h room v : ℕ) (more : List Bool) → k ≤ room → packed h room (digits k v ++ more) ≡ packed (h * 2 ^ k + v % 2 ^ k) (room - k) more
unfolding digits packed
packed_held zero h room v more l =
    let e : h * 2 ^ 0 + v % 2 ^ 0 ≡ h = omega arith in
    let z : room - 0 ≡ room = omega arith in
    rw (e, z)
packed_held (suc k) h zero v more l = absurd (omega arith)
packed_held (suc k) h (suc room) v more l =
    let z : suc room - suc k ≡ room - k = omega arith in
    packed_held k (2 * h + bin (odd (v / 2 ^ k))) room v more (omega arith) ∙ rw (next_digit h v k, z)

-- digits that fill a byte are put
packed_full : (room h v : ℕ) (more : List Bool) → packed h room (digits (suc room) v ++ more) ≡ stuffed (h * 2 ^ suc room + v % 2 ^ suc room) (packed 0 7 more)
unfolding digits packed
packed_full zero h v more = let e : 2 * h + bin (odd (v / 1)) ≡ h * 2 + v % 2 = omega (arith, bin_odd (v / 1)) in rw e
packed_full (suc room) h v more = packed_full room (2 * h + bin (odd (v / 2 ^ suc room))) v more ∙ rw (next_digit h v (suc room))

-- with nothing in hand
first_byte : (k v : ℕ) (more : List Bool) → packed 0 7 (digits (8 + k) v ++ more) ≡ stuffed (v / 2 ^ k % 2 ^ 8) (packed 0 7 (digits k v ++ more))
first_byte k v more =
    let z : 0 * 2 ^ 8 + v / 2 ^ k % 2 ^ 8 ≡ v / 2 ^ k % 2 ^ 8 = omega arith in
    rw (digits_split 8 k v, append_assoc (digits 8 (v / 2 ^ k)) (digits k v) more) (packed_full 7 0 (v / 2 ^ k) (digits k v ++ more) ∙ rw z)

few_bits : (k v : ℕ) (more : List Bool) → k ≤ 7 → packed 0 7 (digits k v ++ more) ≡ packed (v % 2 ^ k) (7 - k) more
few_bits k v more h = let z : 0 * 2 ^ k + v % 2 ^ k ≡ v % 2 ^ k = omega arith in packed_held k 0 7 v more h ∙ rw z

-- ---- a loop that puts bytes: nothing else is in hand, and the low digits of v still to put come to what all of them come to

abbrev empty : ℕ → Putter
empty at = record { at = at; held = 0; room = 7 }

pub record Gathered (before memory : List ℕ) (from at whole count v : ℕ) : Type 0 where
  pub same : (more : List Bool) → finishing memory (empty at) (digits count v ++ more) ≡ finishing before (empty from) (digits whole v ++ more)
  pub near : at + 2 * (count / 8) ≤ from + 2 * (whole / 8)

pub gather_start : {before : List ℕ} {at count v : ℕ} → Gathered before before at at count count v
gather_start = record { same = λ more. refl; near = omega arith }

module _ {before memory : List ℕ} {from at whole count v : ℕ} (g : Gathered before memory from at whole count v) where
  -- a byte
  pub gather_turn : {byte next : ℕ} {after : List ℕ} → 8 ≤ count → byte ≡ v / 2 ^ (count - 8) % 2 ^ 8 → after ≡ sets memory at (stuffed byte [])
      → next ≡ at + length (stuffed byte []) → Gathered before after from next whole (count - 8) v
  unfolding finishing
  gather_turn {byte} {next} {after} h e m n =
      record { same = λ more. turned more ∙ g.same more; near = rw n (omega (arith, g.near, stuffed_short byte)) }
    where
      turned : (more : List Bool) → finishing after (empty next) (digits (count - 8) v ++ more) ≡ finishing memory (empty at) (digits count v ++ more)
      turned more =
          let c : 8 + (count - 8) ≡ count = omega arith in
          let f = rw (c, ← e) at (first_byte (count - 8) v more) in
          byte_laid memory at byte (packed 0 7 (digits (count - 8) v ++ more)) m n ∙ ap (laid memory at) (sym f)

  -- what is left is in hand: where v was what p holds and the digits of a number, these were put
  pub gather_end : {p : Putter} (size number : ℕ) {held room : ℕ} → Sound p → v ≡ p.held * 2 ^ size + number % 2 ^ size → from ≡ p.at → whole ≡ 7 - p.room + size
      → count < 8 → held ≡ v % 2 ^ count → room ≡ 7 - count → Puts before memory p (record { at = at; held = held; room = room }) (digits size number)
  unfolding finishing
  gather_end {p} size number {held} {room} s e f w h d r = record {
    same = λ more. rw (d, r) (ap (laid memory at) (sym (few_bits count v more (omega arith)))) ∙ g.same more ∙ rw f (ap (laid before p.at) (began more));
    sound = record { room = omega arith; held = let k : 7 - room ≡ count = omega arith in rw (k, d) (mod-lt v (pow_pos count)) };
    near = omega (arith, g.near, digits_length size number);
  }
    where
      began : (more : List Bool) → packed 0 7 (digits whole v ++ more) ≡ packed p.held p.room (digits size number ++ more)
      began more =
          let k : ℕ = 7 - p.room in
          let q : 7 - k ≡ p.room = omega (arith, s.room) in
          rw (w, e, ← (digits_join k size p.held number), append_assoc (digits k p.held) (digits size number) more)
          (few_bits k p.held (digits size number ++ more) (omega arith) ∙ rw (mod-eq_of_lt s.held, q))
