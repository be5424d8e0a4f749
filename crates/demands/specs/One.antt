-- D1: each call ends on every input and checks its own input; a refusal gives its number, place and second place, and the lent destination then holds only zeros.
use Rattle.std.specs.Prelude.{◌≡◌, ◌⊎◌, Bool, true, false, cond, List, [], ◌∷◌, ◌++◌, ℕ, ◌+◌, ◌-◌, ◌*◌, ◌≤◌, ◌<◌, T, eqb, leb, ℤ, pos, length, get_or, drop, replicate, None}
use Rattle.box_rules.specs.Text.{listing, list_packets}
use Rattle.laws.specs.Index.{every}
use Rattle.answers.specs.Verdict.{refusal, Meets}
use Rattle.answers.specs.declared.Answer.{Answer}
use Rattle.levels.specs.Level.{inside}
use Rattle.levels.specs.declared.Part.TheVariants.{Dc, Ac, Whole}
use Rattle.bit_rules.specs.Source.{start}
use Rattle.bit_rules.specs.Table.{Table, good_table}
use Rattle.bit_rules.specs.Write.{place_of}
use Rattle.plane_rules.specs.Plane.{readable}
use Rattle.plane_rules.specs.Dc.{read_dc, dc_bytes, write_dc}
use Rattle.plane_rules.specs.AcRead.{cut, read_ac}
use Rattle.plane_rules.specs.AcWrite.{Token, code, tokens, lacking, ac_bytes, write_ac}
use Rattle.box_rules.specs.Walk.{step_at, begins}
use Rattle.box_rules.specs.declared.Head.{Head}
use Rattle.box_rules.specs.declared.Step.TheVariants.{Skip, Meet, Broken}
use Rattle.box_rules.specs.Packets.{Packet, packets, mine}
use Rattle.box_rules.specs.Numbers.{numbers, count}
use Rattle.box_rules.specs.Box.{agree, contents, total, box_bytes}
use Rattle.transform_rules.specs.Call.{is_quantiser, inverse_transform}
use Rattle.preview_rules.specs.Call.{preview_owes}
use Rattle.merge_rules.specs.Near.{top}
use Rattle.merge_rules.specs.declared.Setting.{Setting}
use Rattle.merge_rules.specs.Settings.{in_ranges, plain, srgb_allowed, samples, lengths_right, entry_right}
use Rattle.merge_rules.specs.Picture.{merge}
use Rattle.merge_rules.specs.Call.{matrix_count, merge_call}
use Rattle.demands.specs.Blocks.{StopsAt, LeftOver, one_dc, one_ac}

-- ---- the table of N4: which number with which place and second place, and when

-- N4, N17: which number is told with which place and second place
abbrev pub Rows : Type 1
Rows = ℕ → ℕ → ℕ → Type 0

-- N4, N17: a number, and what it means at a place; "All other answers carry 0 as second place."
abbrev pub row : ℕ → (ℕ → Type 0) → Rows
row number means = λ n p q. (n ≡ number) × means p × (q ≡ 0)

-- N4: a number stands in a list
abbrev pub stands : ℕ → List ℕ → Bool
stands n [] = false
stands n (x ∷ numbers) = cond (eqb n x) true (stands n numbers)

-- N4: numbers of one rank, met in the order in which the data are read
abbrev pub rows : List ℕ → Rows → Rows
rows numbers means = λ n p q. T (stands n numbers) × means n p q

-- N4: "A number is given exactly under its meaning and this order": a later row tells where no earlier one does
infixr 5 ◌then◌
abbrev pub ◌then◌ : Rows → Rows → Rows
◌then◌ first later = λ n p q. first n p q ⊎ (((m r s : ℕ) → first m r s → ⊥) × later n p q)

-- N4: place "0": a test fails
abbrev pub failing : Bool → ℕ → Type 0
failing test p = (p ≡ 0) × (test ≡ false)

-- N12: "length needed", and there is no room for it
abbrev pub needed : ℕ → ℕ → ℕ → Type 0
needed n room p = (p ≡ n) × (room < p)

-- L5: "first index": the test fails there, and nowhere before
pub record First (n : ℕ) (test : ℕ → Bool) (p : ℕ) : Type 0 where
  pub below : p < n
  pub fails : test p ≡ false
  pub before : (k : ℕ) → k < p → test k ≡ true

-- ---- an answer

-- D1, N17: "With 0 the place is the count of bytes or values written"; "everything past the written part keeps its contents"
pub record Succeeded {A : Type 0} (before after : List A) (answer : Answer) : Type 0 where
  pub well : answer.number ≡ 0
  pub second : answer.second ≡ 0
  pub written : answer.place ≤ length before
  pub long : length after ≡ length before
  pub past : drop answer.place after ≡ drop answer.place before

-- D1: a row of the table, told by a number that is not 0, and "the whole lent destination is zeros"
pub record Turned {A : Type 0} (zero : A) (table : Rows) (before after : List A) (answer : Answer) : Type 0 where
  pub line : table answer.number answer.place answer.second
  pub told : answer.number ≡ 0 → ⊥
  pub zeros : after ≡ replicate (length before) zero

-- N4, D1: what is answered, and that nothing else could be: whatever the rows tell is the answer
pub record Answered {A : Type 0} (zero : A) (table : Rows) (before after : List A) (answer : Answer) : Type 0 where
  pub outcome : Succeeded before after answer ⊎ Turned zero table before after answer
  pub only : (n p q : ℕ) → table n p q → (answer.number ≡ n) × (answer.place ≡ p) × (answer.second ≡ q)

-- ---- the rows of each call

-- W3: where the walk over a file comes by
pub data Reached (file : List ℕ) : ℕ → Type 0 where
  first : Reached file 2
  skipped : {at next : ℕ} → Reached file at → step_at file at ≡ Skip next → Reached file next
  met : {at start len next : ℕ} {head : Head} → Reached file at → step_at file at ≡ Meet head start len next → Reached file next

-- W6: 2 "where it was to begin", 3 "where its segment begins": the walk comes by, and the step there is broken
abbrev pub broken_at : List ℕ → Rows
broken_at file number p q = Reached file p × (step_at file p ≡ Broken (refusal number p)) × (q ≡ 0)

-- P7: 6 "the smallest such"
abbrev pub twice_at : List ℕ → ℕ → Type 0
twice_at ns p = (1 < count p ns) × ((j : ℕ) → j < p → count j ns ≤ 1)

-- P8: 7 "smallest missing of 1..n"
abbrev pub missing_at : List ℕ → ℕ → Type 0
missing_at ns p = (1 ≤ p) × (p < 1 + length ns) × (count p ns ≡ 0) × ((j : ℕ) → 1 ≤ j → j < p → 1 ≤ count j ns)

-- P5: 4 "no packet of this type and instance"
abbrev pub none_packet : List Packet → ℕ → Type 0
none_packet ps p = (p ≡ 0) × (ps ≡ [])

-- P6: 5 "packets disagree on LBox"
abbrev pub agreed : List Packet → Bool
agreed [] = true
agreed (p ∷ ps) = agree p.head (p ∷ ps)

-- P9: 8 "payload total is not LBox-8"
abbrev pub filled : List Packet → Bool
filled [] = true
filled (p ∷ ps) = eqb (total (p ∷ ps)) (contents p.head)

-- P9: 8, and its place is "the total"
abbrev pub not_filled : List Packet → ℕ → Type 0
not_filled ps p = (p ≡ total ps) × (filled ps ≡ false)

-- N5: "4 to 9 by number"
unfoldable pub packet_rows : List Packet → ℕ → Rows
packet_rows ps room =
    row 4 (none_packet ps)
    then row 5 (failing (agreed ps))
    then row 6 (twice_at (numbers ps))
    then row 7 (missing_at (numbers ps))
    then row 8 (not_filled ps)
    then row 9 (needed (total ps) room)

-- N5: "boxes, 1 to 3 over the whole walk (first met, 2 before 3 at one segment), then 4 to 9"
unfoldable pub box_rows : List ℕ → ℕ → ℕ → ℕ → Rows
box_rows file kind instance room =
    row 1 (failing (begins file)) then rows (2 ∷ 3 ∷ []) (broken_at file) then packet_rows (mine kind instance (packets file)) room

-- N7: "Plane reading: 20, 21, 10, 11, 9, then 12 to 18 as the bits are met"
unfoldable pub dc_read_rows : ℕ → ℕ → List ℤ → List ℕ → ℕ → Rows
dc_read_rows plane blocks values bytes room =
    row 20 (failing (every (readable plane blocks)))
    then row 21 (failing (eqb (length values) blocks))
    then row 11 (First (length values) (inside Dc (plane - 1) values))
    then row 9 (needed blocks room)
    then rows (12 ∷ 13 ∷ []) (StopsAt one_dc tt values (start bytes))
    then row 18 (LeftOver one_dc tt values (start bytes))

-- N7: the same for an AC plane, which has a table
unfoldable pub ac_read_rows : ℕ → ℕ → Table → List ℤ → List ℕ → ℕ → Rows
ac_read_rows plane blocks codes values bytes room =
    row 20 (failing (every (readable plane blocks)))
    then row 21 (failing (eqb (length values) (63 * blocks)))
    then row 10 (failing (good_table codes))
    then row 11 (First (length values) (inside Ac (plane - 1) values))
    then row 9 (needed (63 * blocks) room)
    then rows (12 ∷ 13 ∷ 14 ∷ 15 ∷ 16 ∷ 17 ∷ []) (StopsAt (one_ac codes) None (cut blocks values) (start bytes))
    then row 18 (LeftOver (one_ac codes) None (cut blocks values) (start bytes))

-- N6: a listing has its text whatever the file: a walk's refusal, and 20 for a file over 64 KiB, stand in the text
unfoldable pub list_rows : List ℕ → ℕ → Rows
list_rows file room = row 9 (needed (length (listing file)) room)

-- E11: 28, "level retired": place "0", for plane 4
abbrev pub retired : ℕ → ℕ → Type 0
retired plane p = (p ≡ 0) × (plane ≡ 4)

-- N8: "Plane writing: 20, 21, 10, 11, 19 (first needed in writing order), 9", and 28 "directly after 20"
unfoldable pub dc_write_rows : ℕ → ℕ → List ℤ → ℕ → Rows
dc_write_rows plane blocks values room =
    row 20 (failing (every (readable plane blocks)))
    then row 28 (retired plane)
    then row 21 (failing (eqb (length values) blocks))
    then row 11 (First (length values) (inside Dc plane values))
    then row 9 (needed (length (dc_bytes values)) room)

-- E9: 19 "the code's value": the table lacks it, and holds every code that is written before it
pub record FirstLacking (codes : Table) (ts : List Token) (v : ℕ) : Type 0 where
  pub earlier : List Token
  pub later : List Token
  pub written : ts ≡ earlier ++ (code v ∷ later)
  pub lacks : place_of v codes.values ≡ None
  pub held : lacking codes earlier ≡ None

-- N8: the same for an AC plane, which has a table
unfoldable pub ac_write_rows : ℕ → ℕ → Table → List ℤ → ℕ → Rows
ac_write_rows plane blocks codes values room =
    row 20 (failing (every (readable plane blocks)))
    then row 28 (retired plane)
    then row 21 (failing (eqb (length values) (63 * blocks)))
    then row 10 (failing (good_table codes))
    then row 11 (First (length values) (inside Ac plane values))
    then row 19 (FirstLacking codes (tokens blocks values))
    then row 9 (needed (length (ac_bytes blocks codes values)) room)

-- N4: 22, "quantiser entry not 1..255", at the "first index"
abbrev pub bad_quantiser : List ℕ → Rows
bad_quantiser quantisers = row 22 (First (length quantisers) (λ i. is_quantiser (get_or quantisers i 0)))

-- N9: "Transform: 20, 21, 22, 11, 9"
unfoldable pub transform_rows : ℕ → ℕ → List ℤ → List ℕ → ℕ → Rows
transform_rows refinement blocks values quantisers room =
    row 20 (failing (every (leb refinement 4 ∷ leb blocks 1024 ∷ [])))
    then row 21 (failing (every (eqb (length values) (blocks * 64) ∷ eqb (length quantisers) 64 ∷ [])))
    then bad_quantiser quantisers
    then row 11 (First (length values) (inside Whole refinement values))
    then row 9 (needed (blocks * 64) room)

-- N16: what a preview owes: 20, 21, 22, 9
unfoldable pub preview_rows : ℕ → List ℕ → ℕ → Rows
preview_rows left quantisers room =
    row 20 (failing (leb left 4))
    then row 21 (failing (eqb (length quantisers) 64))
    then bad_quantiser quantisers
    then row 9 (needed 64 room)

-- N10: "Merge: 20, 21, 11, 9"
unfoldable pub merge_rows : Setting → ℕ → List ℤ → List ℤ → List ℕ → ℕ → Rows
merge_rows s pixels base residual table room =
    row 20 (failing (in_ranges s pixels))
    then row 20 (failing (plain s))
    then row 20 (failing (srgb_allowed s))
    then row 21 (failing (lengths_right s pixels base residual table))
    then row 11 (First (length table) (entry_right (top s.rb) table))
    then row 9 (needed (samples s pixels) room)

-- C6: the merge for C and Rust, whose setting comes as numbers: an unknown one is 20; the matrix is lent too, "nine signed 16-bit numbers" or none
unfoldable pub merge_call_rows : Bool → Setting → ℕ → List ℤ → List ℤ → List ℕ → List ℤ → ℕ → Rows
merge_call_rows named s pixels base residual table matrix room =
    row 20 (failing named)
    then row 20 (failing (in_ranges s pixels))
    then row 20 (failing (plain s))
    then row 20 (failing (srgb_allowed s))
    then row 21 (failing (eqb (length matrix) (matrix_count s.matrix)))
    then row 21 (failing (lengths_right s pixels base residual table))
    then row 11 (First (length table) (entry_right (top s.rb) table))
    then row 9 (needed (samples s pixels) room)

-- ---- the demand: whatever is lent, a call that meets its promise has answered so

-- D1: each call, and its rows
pub record DemandOne : Type 0 where
  pub boxes : (file : List ℕ) (kind instance : ℕ) (before after : List ℕ) (answer : Answer)
      → Meets 0 (box_bytes file kind instance (length before)) before after answer
      → Answered 0 (box_rows file kind instance (length before)) before after answer
  pub listings : (file before after : List ℕ) (answer : Answer)
      → Meets 0 (list_packets file (length before)) before after answer
      → Answered 0 (list_rows file (length before)) before after answer
  pub dc_read : (plane blocks : ℕ) (values : List ℤ) (bytes : List ℕ) (before after : List ℤ) (answer : Answer)
      → Meets (pos 0) (read_dc plane blocks values bytes (length before)) before after answer
      → Answered (pos 0) (dc_read_rows plane blocks values bytes (length before)) before after answer
  pub ac_read : (plane blocks : ℕ) (codes : Table) (values : List ℤ) (bytes : List ℕ) (before after : List ℤ) (answer : Answer)
      → Meets (pos 0) (read_ac plane blocks codes values bytes (length before)) before after answer
      → Answered (pos 0) (ac_read_rows plane blocks codes values bytes (length before)) before after answer
  pub dc_write : (plane blocks : ℕ) (values : List ℤ) (before after : List ℕ) (answer : Answer)
      → Meets 0 (write_dc plane blocks values (length before)) before after answer
      → Answered 0 (dc_write_rows plane blocks values (length before)) before after answer
  pub ac_write : (plane blocks : ℕ) (codes : Table) (values : List ℤ) (before after : List ℕ) (answer : Answer)
      → Meets 0 (write_ac plane blocks codes values (length before)) before after answer
      → Answered 0 (ac_write_rows plane blocks codes values (length before)) before after answer
  pub transforms : (refinement blocks : ℕ) (values : List ℤ) (quantisers : List ℕ) (before after : List ℤ) (answer : Answer)
      → Meets (pos 0) (inverse_transform refinement blocks values quantisers (length before)) before after answer
      → Answered (pos 0) (transform_rows refinement blocks values quantisers (length before)) before after answer
  pub previews : (left : ℕ) (quantisers before after : List ℕ) (answer : Answer)
      → Meets 0 (preview_owes left quantisers (length before)) before after answer
      → Answered 0 (preview_rows left quantisers (length before)) before after answer
  pub merges : (s : Setting) (pixels : ℕ) (base residual : List ℤ) (table : List ℕ) (before after : List ℕ) (answer : Answer)
      → Meets 0 (merge s pixels base residual table (length before)) before after answer
      → Answered 0 (merge_rows s pixels base residual table (length before)) before after answer
  pub merge_calls : (named : Bool) (s : Setting) (pixels : ℕ) (base residual : List ℤ) (table : List ℕ) (matrix : List ℤ)
      (before after : List ℕ) (answer : Answer)
      → Meets 0 (merge_call named s pixels base residual table matrix (length before)) before after answer
      → Answered 0 (merge_call_rows named s pixels base residual table matrix (length before)) before after answer
