-- D2: box bytes, listings, refined coefficients, written planes, samples and merged results are those of the rules. A call hands out values exactly
-- where the rules have some, and then it has written these.
use Rattle.std.specs.Prelude.{◌≡◌, Bool, true, false, List, [], ◌∷◌, ◌++◌, ℕ, ◌+◌, ◌-◌, ◌*◌, ◌^◌, ◌≤◌, ◌<◌, leb, eqb, ℤ, pos, ◌+ℤ◌, ◌*ℤ◌, length, get_or, take, None}
use Rattle.std.specs.Int.Signed.{shr_z}
use Rattle.box_rules.specs.Text.{listing, list_packets}
use Rattle.laws.specs.Index.{sum_to, every}
use Rattle.laws.specs.First.{first_fail}
use Rattle.answers.specs.Verdict.{Meets}
use Rattle.answers.specs.declared.Answer.{Answer}
use Rattle.levels.specs.Level.{first_outside}
use Rattle.levels.specs.declared.Part.TheVariants.{Dc, Ac, Whole}
use Rattle.bit_rules.specs.Digits.{bin, digits}
use Rattle.bit_rules.specs.Source.{Source, start, only_padding}
use Rattle.bit_rules.specs.Table.{Table, good_table}
use Rattle.plane_rules.specs.Plane.{readable, read}
use Rattle.plane_rules.specs.Dc.{dc_blocks, read_dc, dc_bytes, write_dc}
use Rattle.plane_rules.specs.AcRead.{cut, ac_blocks, read_ac}
use Rattle.plane_rules.specs.AcWrite.{tokens, lacking, ac_bytes, write_ac}
use Rattle.plane_rules.specs.Levels.{toward_zero}
use Rattle.box_rules.specs.Box.{box_bytes}
use Rattle.box_rules.specs.Order.{HandedOut}
use Rattle.transform_rules.specs.Cosines.{kernel}
use Rattle.transform_rules.specs.Zigzag.{zigzag}
use Rattle.transform_rules.specs.Picture as blockwise
use Rattle.transform_rules.specs.Call.{first_bad_quantiser, inverse_transform}
use Rattle.preview_rules.specs.Owed.{owed, owed_block}
use Rattle.preview_rules.specs.Call.{preview_owes}
use Rattle.merge_rules.specs.Near.{top}
use Rattle.merge_rules.specs.declared.Setting.{Setting}
use Rattle.merge_rules.specs.Pixels.{component}
use Rattle.merge_rules.specs.Steps.{merged}
use Rattle.merge_rules.specs.Settings.{in_ranges, plain, srgb_allowed, lengths_right, entry_right}
use Rattle.merge_rules.specs.Picture.{pixel_at, merged_picture, merge}
use Rattle.merge_rules.specs.Call.{matrix_count, merge_call}

-- D2: a call handed these values out
abbrev pub Handed : {A : Type 0} → List A → List A → Answer → Type 0
Handed ys after answer = (answer.number ≡ 0) × (take answer.place after ≡ ys)

-- D2: what was written is right; and where the rules have values, these were written
pub record Exactly {A : Type 0} (Right : List A → Type 0) (after : List A) (answer : Answer) : Type 0 where
  pub sound : answer.number ≡ 0 → Right (take answer.place after)
  pub complete : (ys : List A) → Right ys → Handed ys after answer

-- ---- boxes: `HandedOut` is P11, "exactly if an ordering of all of them exists .."

-- ---- planes

-- D2: "Plane j takes level j-1 values to level j"; "After the last block the unread bits of the byte must be ones and no byte may follow"
pub record DcRefined (plane blocks : ℕ) (values : List ℤ) (bytes : List ℕ) (room : ℕ) (ys : List ℤ) : Type 0 where
  pub counts : every (readable plane blocks) ≡ true
  pub long : length values ≡ blocks
  pub ranged : first_outside Dc (plane - 1) values ≡ None
  pub fits : blocks ≤ room
  pub left : Source
  pub refined : dc_blocks 0 values (start bytes) ≡ read ys left
  pub padded : only_padding left ≡ true

-- D2: the same for an AC plane, which has a table
pub record AcRefined (plane blocks : ℕ) (codes : Table) (values : List ℤ) (bytes : List ℕ) (room : ℕ) (ys : List ℤ) : Type 0 where
  pub counts : every (readable plane blocks) ≡ true
  pub long : length values ≡ 63 * blocks
  pub good : good_table codes ≡ true
  pub ranged : first_outside Ac (plane - 1) values ≡ None
  pub fits : 63 * blocks ≤ room
  pub left : Source
  pub refined : ac_blocks codes 0 None (cut blocks values) (start bytes) ≡ read ys left
  pub padded : only_padding left ≡ true

-- D2: the listing's text, given room
pub record Listed (file : List ℕ) (room : ℕ) (ys : List ℕ) : Type 0 where
  pub text : ys ≡ listing file
  pub fits : length ys ≤ room

-- D2, E11: "The writer refuses level 4 from now on."
abbrev pub still_written : ℕ → Type 0
still_written plane = plane ≤ 3

-- D2: "The writer takes level j values, j 1 to 4", but for level 4
pub record DcCoded (plane blocks : ℕ) (values : List ℤ) (room : ℕ) (ys : List ℕ) : Type 0 where
  pub counts : every (readable plane blocks) ≡ true
  pub level : still_written plane
  pub long : length values ≡ blocks
  pub ranged : first_outside Dc plane values ≡ None
  pub bytes : ys ≡ dc_bytes values
  pub fits : length ys ≤ room

-- D2: the same for an AC plane, whose table holds every code needed
pub record AcCoded (plane blocks : ℕ) (codes : Table) (values : List ℤ) (room : ℕ) (ys : List ℕ) : Type 0 where
  pub counts : every (readable plane blocks) ≡ true
  pub level : still_written plane
  pub long : length values ≡ 63 * blocks
  pub good : good_table codes ≡ true
  pub ranged : first_outside Ac plane values ≡ None
  pub held : lacking codes (tokens blocks values) ≡ None
  pub bytes : ys ≡ ac_bytes blocks codes values
  pub fits : length ys ≤ room

-- ---- samples

-- D2: the samples of all blocks, where nothing is to be refused
pub record Sampled (refinement blocks : ℕ) (values : List ℤ) (quantisers : List ℕ) (room : ℕ) (ys : List ℤ) : Type 0 where
  pub counts : every (leb refinement 4 ∷ leb blocks 1024 ∷ []) ≡ true
  pub lengths : every (eqb (length values) (blocks * 64) ∷ eqb (length quantisers) 64 ∷ []) ≡ true
  pub quantised : first_bad_quantiser quantisers ≡ None
  pub ranged : first_outside Whole refinement values ≡ None
  pub samples : ys ≡ blockwise.picture refinement blocks values quantisers
  pub fits : length ys ≤ room

-- D2, V4: what a preview owes, where nothing is to be refused
pub record Owing (left : ℕ) (quantisers : List ℕ) (room : ℕ) (ys : List ℕ) : Type 0 where
  pub counts : leb left 4 ≡ true
  pub long : length quantisers ≡ 64
  pub quantised : first_bad_quantiser quantisers ≡ None
  pub numbers : ys ≡ owed_block left quantisers
  pub fits : length ys ≤ room

-- ---- merged results

-- D2: the merged picture, where nothing is to be refused
pub record Merged (s : Setting) (pixels : ℕ) (base residual : List ℤ) (table : List ℕ) (room : ℕ) (ys : List ℕ) : Type 0 where
  pub ranges : in_ranges s pixels ≡ true
  pub one : plain s ≡ true
  pub srgb : srgb_allowed s ≡ true
  pub lengths : lengths_right s pixels base residual table ≡ true
  pub entries : first_fail (length table) (entry_right (top s.rb) table) ≡ None
  pub results : ys ≡ merged_picture s pixels base residual table
  pub fits : length ys ≤ room

-- D2: the merge for C and Rust: the numbers of its setting name something, and the matrix is as long as the setting asks
pub record MergeCalled (named : Bool) (s : Setting) (pixels : ℕ) (base residual : List ℤ) (table : List ℕ) (matrix : List ℤ) (room : ℕ)
    (ys : List ℕ) : Type 0 where
  pub known : named ≡ true
  pub weights : length matrix ≡ matrix_count s.matrix
  pub merged : Merged s pixels base residual table room ys

-- ---- the demand: whatever is lent, a call that meets its promise

-- D2: each call, and what is right for it
pub record DemandTwo : Type 0 where
  pub boxes : (file : List ℕ) (kind instance : ℕ) (before after : List ℕ) (answer : Answer)
      → Meets 0 (box_bytes file kind instance (length before)) before after answer → Exactly (HandedOut file kind instance (length before)) after answer
  pub listings : (file before after : List ℕ) (answer : Answer)
      → Meets 0 (list_packets file (length before)) before after answer → Exactly (Listed file (length before)) after answer
  pub dc_read : (plane blocks : ℕ) (values : List ℤ) (bytes : List ℕ) (before after : List ℤ) (answer : Answer)
      → Meets (pos 0) (read_dc plane blocks values bytes (length before)) before after answer
      → Exactly (DcRefined plane blocks values bytes (length before)) after answer
  pub ac_read : (plane blocks : ℕ) (codes : Table) (values : List ℤ) (bytes : List ℕ) (before after : List ℤ) (answer : Answer)
      → Meets (pos 0) (read_ac plane blocks codes values bytes (length before)) before after answer
      → Exactly (AcRefined plane blocks codes values bytes (length before)) after answer
  pub dc_write : (plane blocks : ℕ) (values : List ℤ) (before after : List ℕ) (answer : Answer)
      → Meets 0 (write_dc plane blocks values (length before)) before after answer → Exactly (DcCoded plane blocks values (length before)) after answer
  pub ac_write : (plane blocks : ℕ) (codes : Table) (values : List ℤ) (before after : List ℕ) (answer : Answer)
      → Meets 0 (write_ac plane blocks codes values (length before)) before after answer
      → Exactly (AcCoded plane blocks codes values (length before)) after answer
  pub transforms : (refinement blocks : ℕ) (values : List ℤ) (quantisers : List ℕ) (before after : List ℤ) (answer : Answer)
      → Meets (pos 0) (inverse_transform refinement blocks values quantisers (length before)) before after answer
      → Exactly (Sampled refinement blocks values quantisers (length before)) after answer
  pub previews : (left : ℕ) (quantisers before after : List ℕ) (answer : Answer)
      → Meets 0 (preview_owes left quantisers (length before)) before after answer → Exactly (Owing left quantisers (length before)) after answer
  pub merges : (s : Setting) (pixels : ℕ) (base residual : List ℤ) (table : List ℕ) (before after : List ℕ) (answer : Answer)
      → Meets 0 (merge s pixels base residual table (length before)) before after answer
      → Exactly (Merged s pixels base residual table (length before)) after answer
  pub merge_calls : (named : Bool) (s : Setting) (pixels : ℕ) (base residual : List ℤ) (table : List ℕ) (matrix : List ℤ)
      (before after : List ℕ) (answer : Answer)
      → Meets 0 (merge_call named s pixels base residual table matrix (length before)) before after answer
      → Exactly (MergeCalled named s pixels base residual table matrix (length before)) after answer

-- ---- the same value by value

-- B2: the bytes that carry bits: "an FF data byte is followed by 00, which carries no bits"
unfoldable pub carrying : Bool → List ℕ → List ℕ
carrying behindFF [] = []
carrying true (byte ∷ bytes) = carrying false bytes
carrying false (byte ∷ bytes) = byte ∷ carrying (eqb byte 255) bytes

-- B2: "Bits are taken from the highest of each byte"
unfoldable pub all_bits : List ℕ → List Bool
all_bits [] = []
all_bits (byte ∷ bytes) = digits 8 byte ++ all_bits bytes

-- R4: "A DC plane is one bit per block: new DC = 2c + bit"
abbrev pub DcValuesAre : Type 0
DcValuesAre =
    (plane blocks : ℕ) (values : List ℤ) (bytes : List ℕ) (room : ℕ) (ys : List ℤ) → DcRefined plane blocks values bytes room ys
    → (b : ℕ) → b < blocks → get_or ys b (pos 0) ≡ pos 2 *ℤ get_or values b (pos 0) +ℤ pos (bin (get_or (all_bits (carrying false bytes)) b false))

-- R6: "A corrected value c becomes 2c, moved one away from zero if the bit is 1", and a zero stays or becomes +1 or -1:
-- that is, half of the new value, toward zero, is the old one
abbrev pub AcValuesAre : Type 0
AcValuesAre =
    (plane blocks : ℕ) (codes : Table) (values : List ℤ) (bytes : List ℕ) (room : ℕ) (ys : List ℤ) → AcRefined plane blocks codes values bytes room ys
    → (i : ℕ) → i < 63 * blocks → toward_zero 1 (get_or ys i (pos 0)) ≡ get_or values i (pos 0)

-- T8: "floor((sum of K(x,u) K(y,v) S + 2^27) / 2^28) + 2^(7+R)", S being "the value times its quantiser", both "in zigzag order"
abbrev pub sample_at : ℕ → List ℤ → List ℕ → ℕ → ℕ → ℕ → ℤ
sample_at refinement values quantisers block y x =
    shr_z (sum_to 8 (λ v. sum_to 8 (λ u. kernel x u *ℤ kernel y v *ℤ (get_or values (block * 64 + zigzag v u) (pos 0) *ℤ pos (get_or quantisers (zigzag v u) 0))))
    +ℤ pos (2 ^ 27)) (2 ^ 28)
    +ℤ pos (2 ^ (7 + refinement))

-- T8: "The sample at row y, column x"; "a block's samples stand row by row"
abbrev pub SamplesAre : Type 0
SamplesAre =
    (refinement blocks : ℕ) (values : List ℤ) (quantisers : List ℕ) (room : ℕ) (ys : List ℤ) → Sampled refinement blocks values quantisers room ys
    → (block y x : ℕ) → block < blocks → y < 8 → x < 8 → get_or ys (block * 64 + (y * 8 + x)) (pos 0) ≡ sample_at refinement values quantisers block y x

-- V3: what is owed at row y, column x
abbrev pub OwedAre : Type 0
OwedAre =
    (left : ℕ) (quantisers : List ℕ) (room : ℕ) (ys : List ℕ) → Owing left quantisers room ys
    → (y x : ℕ) → y < 8 → x < 8 → get_or ys (y * 8 + x) 0 ≡ owed left quantisers y x

-- M4: the five steps for each pixel; "component planes follow one another"
abbrev pub ResultsAre : Type 0
ResultsAre =
    (s : Setting) (pixels : ℕ) (base residual : List ℤ) (table : List ℕ) (room : ℕ) (ys : List ℕ) → Merged s pixels base residual table room ys
    → (k p : ℕ) → k < s.components → p < pixels
    → get_or ys (k * pixels + p) 0 ≡ component k (merged s table (pixel_at s.components pixels base p) (pixel_at s.components pixels residual p))
