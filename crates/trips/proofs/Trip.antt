-- What the putter wrote, the taker gives back, then fewer than eight ones, then the end. Assumes nothing.
use mathlib.Core.Path.{◌≡◌, refl, sym, ap, ap₂, ◌∙◌, subst}
use mathlib.Core.Logic.{inl, inr}
use mathlib.Core.List.{List, [], ◌∷◌, ◌++◌, append-nil}
use mathlib.Core.Bool.{Bool, true, false}
use Prim.Native.Nat.{ℕ, zero, suc, ◌+◌, ◌*◌, ◌/◌, ◌%◌, ◌^◌}
use native.Mathlib.Omega.{arith}
use native.Mathlib.Nat.{pow-succ', div-div-eq-div-mul}
use lib.Dec.{eqb}
use lib.ListN.{length, replicate}
use lib.Seq.{append_snoc}
use borrow.Author.Tests.{eqb-true, ne_eqb, eq-eqb}
use Rattle.laws.specs.Index.{every}
use Rattle.bit_rules.specs.Digits.{bin, odd, digits}
use Rattle.bit_rules.specs.Source.{Source, source, got, take_bit, take_from, next_byte, after_ff, opened, only_padding}
use Rattle.bit_rules.specs.Pack.{stuffed, padded, packed, bytes_of}
use Rattle.bit_rules.specs.Gives.{Gives, Unread, Says}
use Rattle.bit_rules.proofs.Took.{Took, took}

pub gives_then : (s : Source) (a b : List Bool) (t u : Source) → Gives s a t → Gives t b u → Gives s (a ++ b) u
gives_then s [] b t u f g = rw f g
gives_then s (x ∷ a) b t u f g = (f.0, f.1, gives_then f.0 a b t u f.2 g)

pub gives_split : (s : Source) (a b : List Bool) (u : Source) → Gives s (a ++ b) u → (t : Source) × Gives s a t × Gives t b u
gives_split s [] b u g = (s, refl, g)
gives_split s (x ∷ a) b u g = let r = gives_split g.0 a b u g.2 in (r.0, (g.0, g.1, r.1), r.2)

-- ---- digits

pub odd_bin : (c : ℕ) (b : Bool) → odd (2 * c + bin b) ≡ b
odd_bin c true = eq-eqb ((2 * c + 1) % 2) 1 (omega arith)
odd_bin c false = ne_eqb ((2 * c + 0) % 2) 1 (omega arith)

drop_bit : (c q : ℕ) (b : Bool) → (2 * c + bin b) / 2 ^ suc q ≡ c / 2 ^ q
drop_bit c q true = let e : (2 * c + 1) / 2 ≡ c = omega arith in rw (pow-succ' 2 q, ← (div-div-eq-div-mul (2 * c + 1) 2 (2 ^ q)), e)
drop_bit c q false = let e : (2 * c + 0) / 2 ≡ c = omega arith in rw (pow-succ' 2 q, ← (div-div-eq-div-mul (2 * c + 0) 2 (2 ^ q)), e)

digits_snoc : (q c : ℕ) (b : Bool) → digits (suc q) (2 * c + bin b) ≡ digits q c ++ (b ∷ [])
unfolding digits
digits_snoc zero c b = let e : (2 * c + bin b) / 1 ≡ 2 * c + bin b = omega arith in rw (e, odd_bin c b)
digits_snoc (suc q) c b = ap₂ (λ (x : ℕ) (l : List Bool). odd x ∷ l) (drop_bit c q b) (digits_snoc q c b)

digits_none : (v : ℕ) → digits 0 v ≡ []
unfolding digits
digits_none v = refl

padded_digits : (c m q : ℕ) → digits (suc (q + m)) (padded c m) ≡ digits q c ++ replicate (suc m) true
unfolding padded
padded_digits c zero q =
    let e : q + 0 ≡ q = omega arith in
    rw e (digits_snoc q c true)
padded_digits c (suc m) q =
    let e : q + suc m ≡ suc q + m = omega arith in
    rw (e, padded_digits (2 * c + 1) m (suc q), digits_snoc q c true) (append_snoc (digits q c) true (replicate (suc m) true))

-- ---- one bit: what is pending and coming behind it

-- of those in hand
bit_in_hand : (s : Source) (b : Bool) (rest : List Bool) (d : List ℕ) → Unread s (b ∷ rest) d → (t : Source) × (take_bit s ≡ got b t) × Unread t rest d
unfolding take_bit take_from
bit_in_hand s b rest d h = (source rest d s.seen s.last, rw (h.0, h.1), (refl, refl))

-- the first bit of a stuffed byte is that of its digits, all bytes of it counted, at the offset of the first
opened_stuffed : (v : ℕ) (d : List ℕ) (n : ℕ) → next_byte (stuffed v d) n ≡ take_from (digits 8 v) d (n + length (stuffed v [])) n
unfolding stuffed take_from next_byte after_ff opened digits
opened_stuffed v d n = go (eqb v 255) refl
  where
    go : (t : Bool) → eqb v 255 ≡ t → next_byte (stuffed v d) n ≡ take_from (digits 8 v) d (n + length (stuffed v [])) n
    go true q = rw (eqb-true v 255 q)
    go false q = rw (q, stuffed) (rw q)

-- of the byte that comes next
byte_opened : (s : Source) (v : ℕ) (b : Bool) (rest : List Bool) (d : List ℕ) → digits 8 v ≡ b ∷ rest → Unread s [] (stuffed v d) → (t : Source) × (take_bit s ≡ got b t) × Unread t rest d
unfolding take_bit take_from
byte_opened s v b rest d e h =
    let n : ℕ = s.seen + length (stuffed v []) in
    (source rest d n s.seen, rw (h.0, h.1) (opened_stuffed v d s.seen ∙ ap (λ (p : List Bool). take_from p d n s.seen) e), (refl, refl))

-- ---- a byte

pub in_hand : (a r : List Bool) (d : List ℕ) (s : Source) → Unread s (a ++ r) d → (u : Source) × Gives s a u × Unread u r d
in_hand [] r d s h = (s, refl, h)
in_hand (b ∷ a) r d s h =
    let t = bit_in_hand s b (a ++ r) d h in
    let u = in_hand a r d t.0 t.2 in
    (u.0, (t.0, t.1, u.1), u.2)

byte_gives : (v : ℕ) (b : Bool) (a r : List Bool) (d : List ℕ) (s : Source) → digits 8 v ≡ (b ∷ a) ++ r → Unread s [] (stuffed v d) → (u : Source) × Gives s (b ∷ a) u × Unread u r d
byte_gives v b a r d s e h =
    let t = byte_opened s v b (a ++ r) d e h in
    let u = in_hand a r d t.0 t.2 in
    (u.0, (t.0, t.1, u.1), u.2)

whole_byte : (v : ℕ) (d : List ℕ) (s : Source) → Unread s [] (stuffed v d) → (u : Source) × Gives s (digits 8 v) u × Unread u [] d
unfolding digits
whole_byte v d s h = byte_gives v (odd (v / 2 ^ 7)) (digits 7 v) [] d s (sym (append-nil (digits 8 v))) h

last_byte : (c m q : ℕ) (s : Source) → suc q + m ≡ 7 → Unread s [] (stuffed (padded c m) []) → (u : Source) × Gives s (digits (suc q) c) u × Unread u (replicate (suc m) true) []
unfolding digits
last_byte c m q s e h =
    byte_gives (padded c m) (odd (c / 2 ^ q)) (digits q c) (replicate (suc m) true) [] s
    (subst (λ (k : ℕ). digits (suc k) (padded c m) ≡ digits (suc q) c ++ replicate (suc m) true) e (padded_digits c m (suc q))) h

-- ---- all bytes: the bits already in the byte in hand, and then those that follow

-- a byte before bytes that say the rest
byte_says : (w : ℕ) (d : List ℕ) (bits : List Bool) → Says d bits → Says (stuffed w d) (digits 8 w ++ bits)
byte_says w d bits more = record {
  from = λ s h.
      let t = whole_byte w d s h in
      let u = more.from t.0 t.2 in
      (u.0, u.1, u.2, gives_then s (digits 8 w) bits t.0 u.1 t.1 u.3, u.4);
}

none_says : Says [] []
none_says = record { from = λ s h. (0, s, omega arith, refl, h) }

last_says : (c m q : ℕ) → suc q + m ≡ 7 → Says (stuffed (padded c m) []) (digits (suc q) c)
last_says c m q e = record {
  from = λ s h.
      let u = last_byte c m q s e h in
      (suc m, u.0, omega arith, u.1, u.2);
}

full_says : (b : Bool) (bits : List Bool) (c q : ℕ) → q ≡ 7 → Says (packed 0 7 bits) (digits 0 0 ++ bits) → Says (packed c 0 (b ∷ bits)) (digits q c ++ (b ∷ bits))
unfolding packed
full_says b bits c q e more =
    rw (e, ← (append_snoc (digits 7 c) b bits), ← (digits_snoc 7 c b)) (byte_says (2 * c + bin b) (packed 0 7 bits) bits (rw (digits_none 0) at more))

more_says : (b : Bool) (bits : List Bool) (c m q : ℕ) → Says (packed (2 * c + bin b) m bits) (digits (suc q) (2 * c + bin b) ++ bits) → Says (packed c (suc m) (b ∷ bits)) (digits q c ++ (b ∷ bits))
unfolding packed
more_says b bits c m q more = rw (← (append_snoc (digits q c) b bits), ← (digits_snoc q c b)) more

packed_says : (bits : List Bool) (c m q : ℕ) → q + m ≡ 7 → Says (packed c m bits) (digits q c ++ bits)
unfolding packed
packed_says [] c m zero e = let z : m ≡ 7 = omega arith in rw (z, digits_none c) none_says
packed_says [] c m (suc q) e =
    let z : eqb m 7 ≡ false = ne_eqb m 7 (omega arith) in
    rw (z, append-nil (digits (suc q) c)) (last_says c m q e)
packed_says (b ∷ bits) c zero q e = full_says b bits c q (omega arith) (packed_says bits 0 7 0 refl)
packed_says (b ∷ bits) c (suc m) q e = more_says b bits c m q (packed_says bits (2 * c + bin b) m (suc q) (omega arith))

pub bytes_say : (bits : List Bool) → Says (bytes_of bits) bits
bytes_say bits = rw (digits_none 0) at (packed_says bits 0 7 0 refl)

-- and nothing but padding is left then
every_ones : (n : ℕ) → every (replicate n true) ≡ true
unfolding every
every_ones zero = refl
every_ones (suc n) = every_ones n

pub padding_left : (u : Source) (pad : ℕ) → Unread u (replicate pad true) [] → only_padding u ≡ true
unfolding only_padding
padding_left u pad h = rw (h.0, h.1, every_ones pad)

-- ---- "bytes read": what was read and what is coming are always the whole

bit_counted : (s : Source) (b : Bool) (t : Source) → Took s (got b t) → t.seen + length t.coming ≡ s.seen + length s.coming
bit_counted s b t (inl h) = let d = ap length h.coming in omega (arith, h.seen)
bit_counted s b t (inr (inl h)) = let d = ap length h.coming in omega (arith, h.seen)
bit_counted s b t (inr (inr h)) = let d = ap length h.coming in omega (arith, h.seen)

pub counted : (s : Source) (bits : List Bool) (u : Source) → Gives s bits u → u.seen + length u.coming ≡ s.seen + length s.coming
counted s [] u g = rw g
counted s (b ∷ bits) u g = counted g.0 bits u g.2 ∙ bit_counted s b g.0 (subst (Took s) g.1 (took s))
