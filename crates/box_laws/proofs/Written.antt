-- The walk over a file that a writer laid out meets exactly its packets, among fill bytes and strangers, and ends well. Assumes nothing.
use Prim.Native.Nat.{ℕ, zero, suc, ◌+◌, ◌*◌, ◌-◌, ◌/◌, ◌%◌, ◌≤◌}
use mathlib.Core.Path.{◌≡◌, refl, ap, ap₂, sym, ◌∙◌}
use mathlib.Core.Logic.{⊎_elim}
use mathlib.Core.List.{List, [], ◌∷◌, ◌++◌, append_assoc}
use mathlib.Core.Bool.{Bool, true, false, cond}
use native.Mathlib.Omega.{arith}
use native.Mathlib.Nat.{div-add-mod'}
use lib.ListN.{length, get_or, take, drop, replicate, length-append, length-replicate}
use lib.Seq.{drop_at, take_at, drop-drop, drop-append-add, get_or-append-add}
use lib.Dec.{eqb, ltb}
use borrow.Author.Tests.{ne_eqb, lt-ltb, le-ltb, lt-leb, eqb-true}
use Rattle.laws.proofs.Choices.{either, by_test}
use Rattle.std.specs.Prelude.{Ok}
use Rattle.box_rules.specs.declared.Head.{Head}
use Rattle.box_rules.specs.declared.Step.{Step}
use Rattle.box_rules.specs.declared.Step.TheVariants.{End, Skip, Meet}
use Rattle.box_rules.specs.Walk.{be16, be32, be64, head_at, long_head_at, ones, barred, tagged, packet_at, whole_at, marked_at, step_at, steps_from, begins, walk, ending}
use Rattle.box_rules.specs.Packets.{Packet, packets_in, packets}
use Rattle.box_rules.specs.Layout.{Part, packed, other, two, four, eight, headed, segment, inner, bytes_of, all_bytes, laid_out, packets_of, Boxed, Plain, AllSound}
use Rattle.box_rules.proofs.Walking.{segment_at, packets_end, packets_skip, packets_meet, ending_end, ending_skip, ending_meet, walk_begun}

ones_run : (n x : ℕ) (s : List ℕ) → (x ≡ 255 → ⊥) → ones (replicate n 255 ++ (x ∷ s)) ≡ n
unfolding ones
ones_run zero x s h = rw (ne_eqb x 255 h)
ones_run (suc n) x s h = ap suc (ones_run n x s h)

-- ---- a run of FF behind the first bytes of a file, and a tail that begins with the marker

module _ (file front tail : List ℕ) (at fill x : ℕ) (e : file ≡ front ++ (replicate (suc fill) 255 ++ (x ∷ tail))) (f : length front ≡ at) (h : x ≡ 255 → ⊥) where
  run : at + ones (drop at file) ≡ at + suc fill
  run = ap (λ (s : List ℕ). at + ones (drop at s)) e ∙ ap (λ (s : List ℕ). at + ones s) (drop_at front _ at f) ∙ ap (λ (k : ℕ). at + k) (ones_run (suc fill) x tail h)

  before : List ℕ
  before = front ++ replicate (suc fill) 255

  before_length : length before ≡ at + suc fill
  unfolding before
  before_length = length-append front (replicate (suc fill) 255) ∙ omega (arith, length-replicate {A = ℕ} (suc fill) 255)

  there : (k : ℕ) → get_or file (at + suc fill + k) 0 ≡ get_or (x ∷ tail) k 0
  unfolding before
  there k =
      ap₂ (λ (s : List ℕ) (n : ℕ). get_or s (n + k) 0) (e ∙ sym (append_assoc front (replicate (suc fill) 255) (x ∷ tail))) (sym before_length)
      ∙ get_or-append-add before (x ∷ tail) k 0

  onward_from : (k : ℕ) → drop (at + suc fill + k) file ≡ drop k (x ∷ tail)
  unfolding before
  onward_from k =
      ap₂ (λ (s : List ℕ) (n : ℕ). drop (n + k) s) (e ∙ sym (append_assoc front (replicate (suc fill) 255) (x ∷ tail))) (sym before_length)
      ∙ drop-append-add before (x ∷ tail) k

  size : length file ≡ at + suc fill + length (x ∷ tail)
  unfolding before
  size = ap length (e ∙ sym (append_assoc front (replicate (suc fill) 255) (x ∷ tail))) ∙ length-append before (x ∷ tail) ∙ ap (λ (k : ℕ). k + length (x ∷ tail)) before_length

  mark : get_or file (at + suc fill) 0 ≡ x
  mark = ap (λ (k : ℕ). get_or file k 0) (omega arith) ∙ there 0

  pair : (k : ℕ) → be16 file (at + suc fill + k) ≡ get_or (x ∷ tail) k 0 * 256 + get_or (x ∷ tail) (k + 1) 0
  unfolding be16
  pair k =
      let z : at + suc fill + k + 1 ≡ at + suc fill + (k + 1) = omega arith in
      rw (z, there k, there (k + 1))

  quad : (k : ℕ) → be32 file (at + suc fill + k)
      ≡ (get_or (x ∷ tail) k 0 * 256 + get_or (x ∷ tail) (k + 1) 0) * 65536 + (get_or (x ∷ tail) (k + 2) 0 * 256 + get_or (x ∷ tail) (k + 2 + 1) 0)
  unfolding be32
  quad k =
      let z : at + suc fill + k + 2 ≡ at + suc fill + (k + 2) = omega arith in
      rw (z, pair k, pair (k + 2))

-- ---- a segment: what stands there is what it holds, and the next one begins behind it

module _ (file front contents rest : List ℕ) (at fill marker : ℕ) (e : file ≡ front ++ (segment fill marker contents ++ rest)) (f : length front ≡ at)
    (h : marker ≡ 255 → ⊥) where
  tail : List ℕ
  tail = (length contents + 2) / 256 ∷ (length contents + 2) % 256 ∷ (contents ++ rest)

  shape : file ≡ front ++ (replicate (suc fill) 255 ++ (marker ∷ tail))
  unfolding segment two tail
  shape = e ∙ ap (λ (s : List ℕ). front ++ s) (append_assoc (replicate (suc fill) 255) _ rest)

  within : at + suc fill + 1 + (length contents + 2) ≤ length file
  unfolding tail
  within = omega (arith, size file front tail at fill marker shape f h, length-append contents rest)

  holds : (marker ≡ 218 → ⊥) → barred marker ≡ false → step_at file at ≡ whole_at file at (at + suc fill) (length contents + 2)
  unfolding tail
  holds sos free =
      let there-is : get_or file (at + suc fill) 0 ≡ marker = mark file front tail at fill marker shape f h in
      segment_at file at (at + suc fill) (length contents + 2) (run file front tail at fill marker shape f h) (omega arith) (λ z. sos (sym there-is ∙ z)) (ap barred there-is ∙ free)
      (pair file front tail at fill marker shape f h 1 ∙ div-add-mod' (length contents + 2) 256) (omega arith) within

  behind_of : at + suc fill + 1 + (length contents + 2) ≡ length (front ++ segment fill marker contents)
  unfolding segment two
  behind_of = omega (
    arith,
    length-append front (segment fill marker contents),
    length-append (replicate (suc fill) 255) (marker ∷ two (length contents + 2) ++ contents),
    length-replicate {A = ℕ} (suc fill) 255,
  )

no_tag : (contents rest : List ℕ) → ((r : List ℕ) → contents ≡ 0x4A ∷ 0x50 ∷ r → ⊥)
    → cond (ltb (length contents + 2) 4) false (cond (eqb (get_or (contents ++ rest) 0 0) 74) (eqb (get_or (contents ++ rest) 1 0) 80) false) ≡ false
no_tag [] rest h = refl
no_tag (x ∷ []) rest h = refl
no_tag (x ∷ y ∷ r) rest h =
    rw (le-ltb (length (x ∷ y ∷ r) + 2) 4 (omega arith))
    (by_test (λ (b : Bool). b ≡ false) (eqb x 74)
    (λ t. ⊎_elim (λ u. absurd (h r (ap₂ (λ (a b : ℕ). a ∷ b ∷ r) (eqb-true x 74 t) (eqb-true y 80 u)))) (λ u. u) (either (eqb y 80)))
    (λ t. refl))

module _ (file front contents rest : List ℕ) (at fill marker : ℕ) (e : file ≡ front ++ (segment fill marker contents ++ rest)) (f : length front ≡ at)
    (p : Plain marker contents) where
  free : barred marker ≡ false
  unfolding barred
  free = rw (le-ltb marker 2 p.low) (⊎_elim (λ l. rw (lt-ltb marker 208 l)) (λ l. rw (le-ltb marker 208 (omega arith), lt-leb marker 217 (omega arith))) p.carries)

  not_fill : marker ≡ 255 → ⊥
  not_fill z = omega (arith, p.high)

  not_sos : marker ≡ 218 → ⊥
  not_sos z = ⊎_elim (λ l. omega arith) (λ l. omega arith) p.carries

  no_packet : marker ≡ 235 → tagged file (at + suc fill) (length contents + 2) ≡ false
  unfolding tagged tail
  no_packet z =
      let t = tail file front contents rest at fill marker e f not_fill in
      let s = shape file front contents rest at fill marker e f not_fill in
      rw (there file front t at fill marker s f not_fill 3, there file front t at fill marker s f not_fill 4) (no_tag contents rest (p.untagged z))

  other_step : step_at file at ≡ Skip (at + suc fill + 1 + (length contents + 2))
  unfolding whole_at
  other_step =
      holds file front contents rest at fill marker e f not_fill not_sos free
      ∙ rw (mark file front (tail file front contents rest at fill marker e f not_fill) at fill marker (shape file front contents rest at fill marker e f not_fill) f not_fill)
      (by_test (λ (s : Step). s ≡ Skip (at + suc fill + 1 + (length contents + 2))) (eqb marker 235) (λ t. rw (no_packet (eqb-true marker 235 t))) (λ t. refl))

-- ---- a packet: its head, its payload, and where the next segment begins

four_back : (n : ℕ) → (n / 65536 / 256 * 256 + n / 65536 % 256) * 65536 + (n % 65536 / 256 * 256 + n % 65536 % 256) ≡ n
four_back n = rw (div-add-mod' (n / 65536) 256, div-add-mod' (n % 65536) 256) (div-add-mod' n 65536)

same_head : (h : Head) (i n s g k : ℕ) → i ≡ h.instance → n ≡ h.number → s ≡ h.stated → g ≡ h.heading → k ≡ h.kind
    → ◌≡◌ {A = Head} (record { instance = i; number = n; stated = s; heading = g; kind = k }) h
same_head h i n s g k a b c d e = rw (a, b, c, d, e)

not_ff : ◌≡◌ {A = ℕ} 0xEB 255 → ⊥
not_ff z = omega arith

-- the packet p stands at a position, and the next segment begins behind it
record Stands (file : List ℕ) (at : ℕ) (p : Packet) (next : ℕ) : Type 0 where
  start : ℕ
  len : ℕ
  step : step_at file at ≡ Meet p.head start len next
  bytes : take len (drop start file) ≡ p.payload

-- whatever its LBox is, and whatever stands between its type and its payload
module _ (file front rest extra : List ℕ) (at fill lbox : ℕ) (p : Packet) (e : file ≡ front ++ (segment fill 0xEB (headed p.head lbox (extra ++ p.payload)) ++ rest))
    (f : length front ≡ at) where
  abbrev content : List ℕ
  content = headed p.head lbox (extra ++ p.payload)

  abbrev m : ℕ
  m = at + suc fill

  inside_tail : List ℕ
  inside_tail = tail file front content rest at fill 0xEB e f not_ff

  inside_shape : file ≡ front ++ (replicate (suc fill) 255 ++ (0xEB ∷ inside_tail))
  unfolding inside_tail
  inside_shape = shape file front content rest at fill 0xEB e f not_ff

  in_four : (k : ℕ) → be32 file (m + k)
      ≡ (get_or (0xEB ∷ inside_tail) k 0 * 256 + get_or (0xEB ∷ inside_tail) (k + 1) 0) * 65536 + (get_or (0xEB ∷ inside_tail) (k + 2) 0 * 256 + get_or (0xEB ∷ inside_tail) (k + 2 + 1) 0)
  in_four = quad file front inside_tail at fill 0xEB inside_shape f not_ff

  content_length : length content ≡ length extra + length p.payload + 16
  unfolding headed two four
  content_length = omega (arith, length-append extra p.payload)

  is_lbox : be32 file (m + 11) ≡ lbox
  unfolding inside_tail tail headed two four
  is_lbox = in_four 11 ∙ four_back lbox

  -- what a head states, by the length that it states
  is_head : (s g : ℕ) → s ≡ p.head.stated → g ≡ p.head.heading
      → ◌≡◌ {A = Head} (record { instance = be16 file (m + 5); number = be32 file (m + 7); stated = s; heading = g; kind = be32 file (m + 15) }) p.head
  unfolding inside_tail tail headed two four
  is_head s g is-stated is-heading =
      same_head p.head _ _ _ _ _ (pair file front inside_tail at fill 0xEB inside_shape f not_ff 5 ∙ div-add-mod' p.head.instance 256)
      (in_four 7 ∙ four_back p.head.number) is-stated is-heading (in_four 15 ∙ four_back p.head.kind)

  is_tagged : tagged file m (length content + 2) ≡ true
  unfolding tagged inside_tail tail headed two four
  is_tagged =
      rw (
        le-ltb (length content + 2) 4 (omega (arith, content_length)),
        there file front inside_tail at fill 0xEB inside_shape f not_ff 3,
        there file front inside_tail at fill 0xEB inside_shape f not_ff 4,
      )

  behind_type : drop (m + 19) file ≡ extra ++ (p.payload ++ rest)
  unfolding inside_tail tail headed two four
  behind_type = onward_from file front inside_tail at fill 0xEB inside_shape f not_ff 19 ∙ append_assoc extra p.payload rest

  is_payload : (x : ℕ) → length extra ≡ x → take (length content + 2 - (18 + x)) (drop (m + (19 + x)) file) ≡ p.payload
  is_payload x w =
      let z : m + (19 + x) ≡ m + 19 + x = omega arith in
      ap (take (length content + 2 - (18 + x)))
      (ap (λ (k : ℕ). drop k file) z ∙ sym (drop-drop x (m + 19) file) ∙ ap (drop x) behind_type ∙ drop_at extra (p.payload ++ rest) x w)
      ∙ take_at p.payload rest (length content + 2 - (18 + x)) (omega (arith, content_length))

  stands : (x : ℕ) → length extra ≡ x → packet_at file at m (length content + 2) ≡ Meet p.head (m + (19 + x)) (length content + 2 - (18 + x)) (m + 1 + (length content + 2))
      → Stands file at p (m + 1 + (length content + 2))
  unfolding whole_at barred
  stands x w is_packet = record {
    start = m + (19 + x);
    len = length content + 2 - (18 + x);
    step = holds file front content rest at fill 0xEB e f not_ff (λ z. omega arith) refl
        ∙ rw (mark file front inside_tail at fill 0xEB inside_shape f not_ff, is_tagged) is_packet;
    bytes = is_payload x w;
  }

long_length : (file front rest : List ℕ) (at fill : ℕ) (p : Packet) → file ≡ front ++ (segment fill 0xEB (headed p.head 1 (eight p.head.stated ++ p.payload)) ++ rest)
    → length front ≡ at → be64 file (at + suc fill + 19) ≡ p.head.stated
unfolding be64 inside_tail tail headed eight four two
long_length file front rest at fill p e f =
    let read = in_four file front rest (eight p.head.stated) at fill 1 p e f in
    let z : at + suc fill + 19 + 4 ≡ at + suc fill + 23 = omega arith in
    rw (z, read 19 ∙ four_back (p.head.stated / 4294967296), read 23 ∙ four_back (p.head.stated % 4294967296)) (div-add-mod' p.head.stated 4294967296)

module _ (file front rest : List ℕ) (at fill : ℕ) (p : Packet) (f : length front ≡ at) (least : p.head.heading ≤ p.head.stated) where
  -- LBox states the length
  short_stands : p.head.heading ≡ 8 → file ≡ front ++ (segment fill 0xEB (headed p.head p.head.stated p.payload) ++ rest)
      → Stands file at p (at + suc fill + 1 + (length (headed p.head p.head.stated p.payload) + 2))
  unfolding packet_at head_at
  short_stands form e =
      let lbox = is_lbox file front rest [] at fill p.head.stated p e f in
      let head = is_head file front rest [] at fill p.head.stated p e f _ 8 lbox (sym form) in
      stands file front rest [] at fill p.head.stated p e f 0 refl
      (rw (
        le-ltb (length (headed p.head p.head.stated p.payload) + 2) 18 (omega (arith, content_length file front rest [] at fill p.head.stated p e f)),
        head,
        lbox,
        ne_eqb p.head.stated 1 (λ z. omega arith),
        le-ltb p.head.stated 8 (omega arith),
      ))

  -- eight bytes behind the type do
  long_stands : p.head.heading ≡ 16 → file ≡ front ++ (segment fill 0xEB (headed p.head 1 (eight p.head.stated ++ p.payload)) ++ rest)
      → Stands file at p (at + suc fill + 1 + (length (headed p.head 1 (eight p.head.stated ++ p.payload)) + 2))
  unfolding packet_at head_at long_head_at eight four two
  long_stands form e =
      let extra : List ℕ = eight p.head.stated in
      let long = content_length file front rest extra at fill 1 p e f in
      let stated = long_length file front rest at fill p e f in
      let head = is_head file front rest extra at fill 1 p e f _ 16 stated (sym form) in
      stands file front rest extra at fill 1 p e f 8 refl
      (rw (
        le-ltb (length (headed p.head 1 (extra ++ p.payload)) + 2) 18 (omega arith),
        is_lbox file front rest extra at fill 1 p e f,
        le-ltb (length (headed p.head 1 (extra ++ p.payload)) + 2) 26 (omega arith),
        head,
        stated,
        le-ltb p.head.stated 16 (omega arith),
      ))

packed_stands : (file front rest : List ℕ) (at fill : ℕ) (p : Packet) → file ≡ front ++ (segment fill 0xEB (inner p) ++ rest) → length front ≡ at → Boxed p
    → Stands file at p (at + suc fill + 1 + (length (inner p) + 2))
unfolding inner
packed_stands file front rest at fill p e f b =
    ⊎_elim
    (λ s. let z : eqb p.head.heading 16 ≡ false = rw s in rw z (short_stands file front rest at fill p f b.least s (rw z at e)))
    (λ l. let z : eqb p.head.heading 16 ≡ true = rw l in rw z (long_stands file front rest at fill p f b.least l (rw z at e)))
    b.form

-- ---- the parts of a file one after another, and its end

module _ (fill : ℕ) (behind : List ℕ) where
  last : List ℕ
  last = replicate (suc fill) 0xFF ++ (0xDA ∷ behind)

  pub record Walked (file : List ℕ) (at : ℕ) (parts : List Part) : Type 0 where
    pub met : packets_in file (steps_from file at) ≡ packets_of parts
    pub well : ending (steps_from file at) ≡ Ok 0

  ends : (file front : List ℕ) (at : ℕ) → file ≡ front ++ last → length front ≡ at → step_at file at ≡ End
  unfolding last step_at marked_at
  ends file front at e f =
      let not_ff : (◌≡◌ {A = ℕ} 0xDA 255 → ⊥) = λ z. omega arith in
      rw (
        run file front behind at fill 0xDA e f not_ff,
        lt-leb (at + suc fill) at (omega arith),
        lt-leb (length file) (at + suc fill) (omega (arith, size file front behind at fill 0xDA e f not_ff)),
        mark file front behind at fill 0xDA e f not_ff,
      )

  walked : (parts : List Part) (file front : List ℕ) (at : ℕ) → file ≡ front ++ (all_bytes parts ++ last) → length front ≡ at → AllSound parts → Walked file at parts
  unfolding all_bytes bytes_of packets_of
  walked [] file front at e f s = let z = ends file front at e f in record { met = packets_end file at z; well = ending_end file at z }
  walked (other k marker contents ∷ r) file front at e f s =
      let g : file ≡ front ++ (segment k marker contents ++ (all_bytes r ++ last)) = e ∙ ap (λ (x : List ℕ). front ++ x) (append_assoc (segment k marker contents) (all_bytes r) last) in
      let z = other_step file front contents (all_bytes r ++ last) at k marker g f s.0 in
      let later = walked r file (front ++ segment k marker contents) _ (g ∙ sym (append_assoc front (segment k marker contents) (all_bytes r ++ last)))
      (sym (behind_of file front contents (all_bytes r ++ last) at k marker g f (not_fill file front contents (all_bytes r ++ last) at k marker g f s.0))) s.1 in
      record { met = packets_skip file at z ∙ later.met; well = ending_skip file at z ∙ later.well }
  walked (packed k p ∷ r) file front at e f s =
      let g : file ≡ front ++ (segment k 0xEB (inner p) ++ (all_bytes r ++ last)) = e ∙ ap (λ (x : List ℕ). front ++ x) (append_assoc (segment k 0xEB (inner p)) (all_bytes r) last) in
      let z = packed_stands file front (all_bytes r ++ last) at k p g f s.0 in
      let later = walked r file (front ++ segment k 0xEB (inner p)) _ (g ∙ sym (append_assoc front (segment k 0xEB (inner p)) (all_bytes r ++ last)))
      (sym (behind_of file front (inner p) (all_bytes r ++ last) at k 0xEB g f (λ z. omega arith))) s.1 in
      record {
        met = packets_meet file at z.step ∙ ap₂ (λ (b : List ℕ) (l : List Packet). record { head = p.head; payload = b } ∷ l) z.bytes later.met;
        well = ending_meet file at z.step ∙ later.well;
      }

starts : (r : List ℕ) → begins (0xFF ∷ 0xD8 ∷ r) ≡ true
unfolding begins
starts r = rw (le-ltb (length (0xFF ∷ 0xD8 ∷ r)) 2 (omega arith))

-- "The walk starts after FF D8", and meets what was written
pub laid_out_lem : (parts : List Part) (fill : ℕ) (behind : List ℕ) → AllSound parts
    → (packets (laid_out parts fill behind) ≡ packets_of parts) × (ending (walk (laid_out parts fill behind)) ≡ Ok 0)
unfolding packets laid_out last
laid_out_lem parts fill behind s =
    let file : List ℕ = laid_out parts fill behind in
    let w = walked fill behind parts file (0xFF ∷ 0xD8 ∷ []) 2 refl refl s in
    let b : walk file ≡ steps_from file 2 = walk_begun file (starts _) in
    (ap (packets_in file) b ∙ w.met, ap ending b ∙ w.well)
