-- Demand 1 holds. Assumes nothing.
use mathlib.Core.Path.{◌≡◌, refl, sym, ap, ◌∙◌}
use mathlib.Core.Logic.{⊎_elim}
use mathlib.Core.Bool.{Bool, true, false, cond}
use mathlib.Core.List.{List, [], ◌∷◌, ◌++◌}
use Rattle.std.specs.Prelude.{Option, Some, None}
use Prim.Native.Nat.{ℕ, ◌-◌, ◌*◌, ◌≤◌, ◌<◌}
use native.Mathlib.Omega.{arith}
use borrow.Author.Tests.{eqb-true, leb-true, leb-false, lt-leb}
use lib.Dec.{T, eqb, leb}
use lib.IntN.{ℤ, pos}
use lib.ListN.{length, get_or}
use Rattle.box_rules.specs.Text.{listing, list_packets}
use Rattle.laws.specs.Index.{every}
use Rattle.laws.specs.First.{first_fail}
use Rattle.laws.proofs.Choices.{at_one, at_nothing}
use Rattle.answers.specs.Verdict.{Verdict, need, unless, fitting}
use Rattle.levels.specs.Level.{inside, first_outside}
use Rattle.levels.specs.declared.Part.{Part}
use Rattle.levels.specs.declared.Part.TheVariants.{Dc, Ac, Whole}
use Rattle.bit_rules.specs.Source.{start}
use Rattle.bit_rules.specs.Table.{Table, good_table}
use Rattle.bit_rules.specs.Write.{place_of}
use Rattle.plane_rules.specs.Plane.{readable}
use Rattle.plane_rules.specs.Dc.{dc_blocks, read_dc, dc_bytes, written_dc, write_dc}
use Rattle.plane_rules.specs.AcRead.{cut, ac_blocks, read_ac}
use Rattle.plane_rules.specs.AcWrite.{Token, code, raw, tokens, or_else, lacking, ac_bytes, written_ac, write_ac}
use Rattle.transform_rules.specs.Picture.{picture}
use Rattle.transform_rules.specs.Call.{is_quantiser, first_bad_quantiser, inverse_transform}
use Rattle.transform_rules.proofs.Lengths.{picture_length}
use Rattle.preview_rules.specs.Owed.{owed_block}
use Rattle.preview_rules.specs.Call.{preview_owes}
use Rattle.preview_rules.proofs.Lengths.{block_long}
use Rattle.merge_rules.specs.Near.{top}
use Rattle.merge_rules.specs.declared.Setting.{Setting}
use Rattle.merge_rules.specs.Settings.{in_ranges, plain, srgb_allowed, samples, lengths_right, entry_right}
use Rattle.merge_rules.specs.Picture as merging
use Rattle.merge_rules.specs.Picture.{merge, merge_tests}
use Rattle.merge_laws.proofs.Order.{picture_long}
use Rattle.merge_rules.specs.Call.{matrix_count, setting_number, merge_call}
use Rattle.demands.specs.One.{Rows, row, rows, stands, ◌then◌, failing, needed, First, FirstLacking, box_rows, packet_rows, list_rows, dc_read_rows, ac_read_rows, dc_write_rows, ac_write_rows, bad_quantiser, transform_rows, preview_rows, merge_rows, merge_call_rows, DemandOne}
use Rattle.demands.specs.Blocks.{one_dc, one_ac}
use Rattle.demands.proofs.Rows.{Judged, need_judged, failing_judged, unless_judged, fitting_judged, first_index, index_first, NoZero, answered}
use Rattle.demands.proofs.BlocksPlanes.{dc_stops_lem, stops_dc, dc_left, left_dc, ac_stops_lem, stops_ac, ac_left, left_ac}
use Rattle.demands.proofs.Stops.{dc_blocks_lem, ac_blocks_lem, closed_judged, sizes, cut_sizes, cut_length}
use Rattle.demands.proofs.Walked.{box_judged}
use Rattle.demands.proofs.RetiredRow.{retired_judged}

-- "value out of range", "first index", both ways
outside_first : (part : Part) (level : ℕ) (values : List ℤ) (i : ℕ) → first_outside part level values ≡ Some i → First (length values) (inside part level values) i
unfolding first_outside
outside_first part level values i e = first_index (length values) (inside part level values) i e

first_outside_lem : (part : Part) (level : ℕ) (values : List ℤ) (i : ℕ) → First (length values) (inside part level values) i → first_outside part level values ≡ Some i
unfolding first_outside
first_outside_lem part level values i h = index_first (length values) (inside part level values) i h

-- 11
module _ {A : Type 0} {later : Rows} {room : ℕ} where
  outside_judged : (part : Part) (level : ℕ) (values : List ℤ) (next : Verdict A) → (first_outside part level values ≡ None → Judged later room next)
      → Judged (row 11 (First (length values) (inside part level values)) then later) room (unless 11 (first_outside part level values) next)
  outside_judged part level values next =
      unless_judged (First (length values) (inside part level values)) 11 (first_outside part level values) next (outside_first part level values) (first_outside_lem part level values)

  -- 22
  quantisers_judged : (quantisers : List ℕ) (next : Verdict A) → (first_bad_quantiser quantisers ≡ None → Judged later room next)
      → Judged (bad_quantiser quantisers then later) room (unless 22 (first_bad_quantiser quantisers) next)
  unfolding first_bad_quantiser
  quantisers_judged quantisers next =
      let good : ℕ → Bool = λ i. is_quantiser (get_or quantisers i 0) in
      unless_judged (First (length quantisers) good) 22 (first_bad_quantiser quantisers) next (first_index (length quantisers) good) (index_first (length quantisers) good)

  -- 9 where the length needed is known before anything is read
  room_judged : (n : ℕ) (next : Verdict A) → (leb n room ≡ true → Judged later room next) → Judged (row 9 (needed n room) then later) room (need (leb n room) 9 n next)
  room_judged n next = need_judged (needed n room) (leb n room) 9 n next (λ e. (refl, leb-false n room e)) (λ q h. (let e = h.0 in let l = h.1 in lt-leb n room (omega arith), h.0))

-- ---- reading planes

dc_stops : List ℕ
dc_stops = 12 ∷ 13 ∷ []

ac_stops : List ℕ
ac_stops = 12 ∷ 13 ∷ 14 ∷ 15 ∷ 16 ∷ 17 ∷ []

pub dc_read_judged : (plane blocks : ℕ) (values : List ℤ) (bytes : List ℕ) (room : ℕ) → Judged (dc_read_rows plane blocks values bytes room) room (read_dc plane blocks values bytes room)
unfolding read_dc dc_read_rows dc_stops
dc_read_judged plane blocks values bytes room =
    failing_judged (every (readable plane blocks)) 20 _ λ e.
    failing_judged (eqb (length values) blocks) 21 _ λ f.
    outside_judged Dc (plane - 1) values _ λ o.
    room_judged blocks _ λ g.
    let n : length values ≡ blocks = eqb-true (length values) blocks f in
    let l : blocks ≤ room = leb-true blocks room g in
    closed_judged one_dc tt values (start bytes) room dc_stops (length bytes) blocks (length values) (dc_blocks 0 values (start bytes)) (omega arith)
    (dc_blocks_lem (λ (m : ℕ). T (stands m dc_stops)) (length bytes) tt tt blocks 0 values (start bytes) (omega arith) (omega arith))
    (dc_stops_lem values (start bytes)) (stops_dc values (start bytes)) (dc_left values (start bytes)) (left_dc values (start bytes))

pub ac_read_judged : (plane blocks : ℕ) (codes : Table) (values : List ℤ) (bytes : List ℕ) (room : ℕ) → Judged (ac_read_rows plane blocks codes values bytes room) room (read_ac plane blocks codes values bytes room)
unfolding read_ac ac_read_rows ac_stops
ac_read_judged plane blocks codes values bytes room =
    failing_judged (every (readable plane blocks)) 20 _ λ e.
    failing_judged (eqb (length values) (63 * blocks)) 21 _ λ f.
    failing_judged (good_table codes) 10 _ λ t.
    outside_judged Ac (plane - 1) values _ λ o.
    room_judged (63 * blocks) _ λ g.
    let bs : List (List ℤ) = cut blocks values in
    let n : sizes (cut blocks values) ≡ 63 * blocks = cut_sizes blocks values (eqb-true (length values) (63 * blocks) f) in
    let m : length (cut blocks values) ≡ blocks = cut_length blocks values in
    let l : 63 * blocks ≤ room = leb-true (63 * blocks) room g in
    closed_judged (one_ac codes) None bs (start bytes) room ac_stops (length bytes) blocks (sizes (cut blocks values)) (ac_blocks codes 0 None (cut blocks values) (start bytes)) (omega arith)
    (ac_blocks_lem (λ (m : ℕ). T (stands m ac_stops)) (length bytes) tt tt tt tt tt tt codes blocks 0 None (cut blocks values) (start bytes) (omega arith) (omega arith))
    (ac_stops_lem codes bs (start bytes)) (stops_ac codes bs (start bytes)) (ac_left codes bs (start bytes)) (left_ac codes bs (start bytes))

-- ---- the listing

pub list_judged : (file : List ℕ) (room : ℕ) → Judged (list_rows file room) room (list_packets file room)
unfolding list_packets list_rows
list_judged file room = fitting_judged room (length (listing file)) (listing file) refl

-- ---- writing planes

pub dc_write_judged : (plane blocks : ℕ) (values : List ℤ) (room : ℕ) → Judged (dc_write_rows plane blocks values room) room (write_dc plane blocks values room)
unfolding written_dc dc_write_rows
dc_write_judged plane blocks values room =
    failing_judged (every (readable plane blocks)) 20 _ λ e.
    retired_judged plane blocks e _ λ l.
    failing_judged (eqb (length values) blocks) 21 _ λ f.
    outside_judged Dc plane values _ λ o.
    fitting_judged room (length (dc_bytes values)) (dc_bytes values) refl

-- 19, both ways

lacking_none : (codes : Table) → lacking codes [] ≡ None
unfolding lacking
lacking_none codes = refl

code_held : (codes : Table) (w k : ℕ) → place_of w codes.values ≡ Some k → lacking codes (code w ∷ []) ≡ None
unfolding lacking
code_held codes w k q = rw q

held_then : (w : ℕ) (f rest : Option ℕ) → or_else w f None ≡ None → or_else w f rest ≡ rest
held_then w None rest e = absurd (at_nothing e)
held_then w (Some k) rest e = refl

-- what is held does not matter
lacking_on : (codes : Table) (t : Token) (ts : List Token) → lacking codes (t ∷ []) ≡ None → lacking codes (t ∷ ts) ≡ lacking codes ts
unfolding lacking
lacking_on codes (raw b) ts e = refl
lacking_on codes (code w) ts e = held_then w (place_of w codes.values) (lacking codes ts) e

first_held : (w : ℕ) (f rest : Option ℕ) → or_else w f rest ≡ None → (or_else w f None ≡ None) × (rest ≡ None)
first_held w None rest e = absurd (at_nothing e)
first_held w (Some k) rest e = (refl, e)

held_apart : (codes : Table) (t : Token) (ts : List Token) → lacking codes (t ∷ ts) ≡ None → (lacking codes (t ∷ []) ≡ None) × (lacking codes ts ≡ None)
unfolding lacking
held_apart codes (raw b) ts e = (refl, e)
held_apart codes (code w) ts e = first_held w (place_of w codes.values) (lacking codes ts) e

lacks_here : (codes : Table) (v : ℕ) (later : List Token) → place_of v codes.values ≡ None → lacking codes (code v ∷ later) ≡ Some v
unfolding lacking
lacks_here codes v later n = rw n

lacking_behind : (codes : Table) (earlier : List Token) (v : ℕ) (later : List Token) → lacking codes earlier ≡ None → place_of v codes.values ≡ None → lacking codes (earlier ++ (code v ∷ later)) ≡ Some v
lacking_behind codes [] v later h n = lacks_here codes v later n
lacking_behind codes (t ∷ earlier) v later h n =
    let k = held_apart codes t earlier h in
    lacking_on codes t (earlier ++ (code v ∷ later)) k.0 ∙ lacking_behind codes earlier v later k.1 n

more_lacking : (codes : Table) (t : Token) {ts : List Token} {v : ℕ} → lacking codes (t ∷ []) ≡ None → FirstLacking codes ts v → FirstLacking codes (t ∷ ts) v
more_lacking codes t e h = record {
  earlier = t ∷ h.earlier;
  later = h.later;
  written = ap (λ (l : List Token). t ∷ l) h.written;
  lacks = h.lacks;
  held = lacking_on codes t h.earlier e ∙ h.held;
}

lacked_here : (codes : Table) (w v : ℕ) (ts : List Token) (f : Option ℕ) → place_of w codes.values ≡ f → (lacking codes ts ≡ Some v → FirstLacking codes ts v) → or_else w f (lacking codes ts) ≡ Some v → FirstLacking codes (code w ∷ ts) v
lacked_here codes w v ts None q later h =
    let same : w ≡ v = at_one h in
    record { earlier = []; later = ts; written = ap (λ (u : ℕ). code u ∷ ts) same; lacks = rw (← same) q; held = lacking_none codes }
lacked_here codes w v ts (Some k) q later h = more_lacking codes (code w) (code_held codes w k q) (later h)

lacked : (codes : Table) (ts : List Token) (v : ℕ) → lacking codes ts ≡ Some v → FirstLacking codes ts v
unfolding lacking
lacked codes [] v e = absurd (at_nothing (sym e))
lacked codes (raw b ∷ ts) v e = more_lacking codes (raw b) refl (lacked codes ts v e)
lacked codes (code w ∷ ts) v e = lacked_here codes w v ts (place_of w codes.values) refl (lacked codes ts v) e

lacking_first : (codes : Table) (ts : List Token) (v : ℕ) → FirstLacking codes ts v → lacking codes ts ≡ Some v
lacking_first codes ts v h = rw h.written (lacking_behind codes h.earlier v h.later h.held h.lacks)

pub ac_write_judged : (plane blocks : ℕ) (codes : Table) (values : List ℤ) (room : ℕ) → Judged (ac_write_rows plane blocks codes values room) room (write_ac plane blocks codes values room)
unfolding written_ac ac_write_rows
ac_write_judged plane blocks codes values room =
    failing_judged (every (readable plane blocks)) 20 _ λ e.
    retired_judged plane blocks e _ λ l.
    failing_judged (eqb (length values) (63 * blocks)) 21 _ λ f.
    failing_judged (good_table codes) 10 _ λ t.
    outside_judged Ac plane values _ λ o.
    unless_judged (FirstLacking codes (tokens blocks values)) 19 (lacking codes (tokens blocks values)) _ (lacked codes (tokens blocks values)) (lacking_first codes (tokens blocks values)) λ m.
    fitting_judged room (length (ac_bytes blocks codes values)) (ac_bytes blocks codes values) refl

-- ---- the transform and the merge

pub transform_judged : (refinement blocks : ℕ) (values : List ℤ) (quantisers : List ℕ) (room : ℕ) → Judged (transform_rows refinement blocks values quantisers room) room (inverse_transform refinement blocks values quantisers room)
unfolding inverse_transform transform_rows
transform_judged refinement blocks values quantisers room =
    failing_judged (every (leb refinement 4 ∷ leb blocks 1024 ∷ [])) 20 _ λ e.
    failing_judged (every (eqb (length values) (blocks * 64) ∷ eqb (length quantisers) 64 ∷ [])) 21 _ λ f.
    quantisers_judged quantisers _ λ q.
    outside_judged Whole refinement values _ λ o.
    fitting_judged room (blocks * 64) (picture refinement blocks values quantisers) (picture_length refinement blocks values quantisers)

pub preview_judged : (left : ℕ) (quantisers : List ℕ) (room : ℕ) → Judged (preview_rows left quantisers room) room (preview_owes left quantisers room)
unfolding preview_owes preview_rows
preview_judged left quantisers room =
    failing_judged (leb left 4) 20 _ λ e.
    failing_judged (eqb (length quantisers) 64) 21 _ λ f.
    quantisers_judged quantisers _ λ q.
    fitting_judged room 64 (owed_block left quantisers) (block_long left quantisers)

-- the merge behind its settings: 21, 11, 9
module _ (s : Setting) (pixels : ℕ) (base residual : List ℤ) (table : List ℕ) (room : ℕ) where
  abbrev lent_rows : Rows
  lent_rows =
      row 21 (failing (lengths_right s pixels base residual table)) then row 11 (First (length table) (entry_right (top s.rb) table)) then row 9 (needed (samples s pixels) room)

  abbrev pub lent_merge : Verdict ℕ
  lent_merge =
      need (lengths_right s pixels base residual table) 21 0
      (unless 11 (first_fail (length table) (entry_right (top s.rb) table)) (fitting room (merging.merged_picture s pixels base residual table)))

  lent_judged : Judged lent_rows room lent_merge
  lent_judged =
      failing_judged (lengths_right s pixels base residual table) 21 _ λ h.
      unless_judged (First (length table) (entry_right (top s.rb) table)) 11 (first_fail (length table) (entry_right (top s.rb) table)) _
      (first_index (length table) (entry_right (top s.rb) table)) (index_first (length table) (entry_right (top s.rb) table)) λ o.
      fitting_judged room (samples s pixels) (merging.merged_picture s pixels base residual table) (picture_long s pixels base residual table)

  pub lent_merge_lem : in_ranges s pixels ≡ true → plain s ≡ true → srgb_allowed s ≡ true → merge s pixels base residual table room ≡ lent_merge
  unfolding merge merge_tests
  lent_merge_lem a b c = rw (a, b, c)

  pub merge_judged : Judged (merge_rows s pixels base residual table room) room (merge s pixels base residual table room)
  unfolding merge merge_tests merge_rows
  merge_judged = failing_judged (in_ranges s pixels) 20 _ λ e. failing_judged (plain s) 20 _ λ f. failing_judged (srgb_allowed s) 20 _ λ g. lent_judged

  -- the call for C and Rust tests the same, and the matrix's length behind the settings
  module _ (named : Bool) (matrix : List ℤ) where
    abbrev pub measured : Bool
    measured = eqb (length matrix) (matrix_count s.matrix)

    pub call_is : merge_call named s pixels base residual table matrix room ≡ need named 20 0 (need (in_ranges s pixels) 20 0 (need (plain s) 20 0 (need (srgb_allowed s) 20 0 (need measured 21 0 lent_merge))))
    unfolding merge_call setting_number every merge merge_tests
    call_is = go named (in_ranges s pixels) (plain s) (srgb_allowed s) measured
      where
        go : (a b c d e : Bool) → need (eqb (cond (every (a ∷ b ∷ c ∷ d ∷ [])) (cond e 0 21) 20) 0) (cond (every (a ∷ b ∷ c ∷ d ∷ [])) (cond e 0 21) 20) 0 (need b 20 0 (need c 20 0 (need d 20 0 lent_merge)))
            ≡ need a 20 0 (need b 20 0 (need c 20 0 (need d 20 0 (need e 21 0 lent_merge))))
        go false b c d e = refl
        go true false c d e = refl
        go true true false d e = refl
        go true true true false e = refl
        go true true true true false = refl
        go true true true true true = refl

    pub call_judged : Judged (merge_call_rows named s pixels base residual table matrix room) room (merge_call named s pixels base residual table matrix room)
    unfolding merge_call_rows
    call_judged =
        rw call_is
        (failing_judged named 20 _ λ a. failing_judged (in_ranges s pixels) 20 _ λ e. failing_judged (plain s) 20 _ λ f. failing_judged (srgb_allowed s) 20 _ λ g.
        failing_judged measured 21 _ λ m. lent_judged)

-- ---- no row has the number 0

row_zero : (number : ℕ) (means : ℕ → Type 0) → 0 < number → NoZero (row number means)
row_zero number means l = record { never = λ p q h. let e = h.0 in omega arith }

infixr 5 ◌and◌
◌and◌ : {first later : Rows} → NoZero first → NoZero later → NoZero (first then later)
◌and◌ f g = record { never = λ p q. ⊎_elim (f.never p q) (λ h. g.never p q h.1) }

rows_zero : (numbers : List ℕ) (means : Rows) → (T (stands 0 numbers) → ⊥) → NoZero (rows numbers means)
rows_zero numbers means n = record { never = λ p q h. n h.0 }

pub box_zero : (file : List ℕ) (kind instance room : ℕ) → NoZero (box_rows file kind instance room)
unfolding box_rows packet_rows
box_zero file kind instance room =
    row_zero 1 _ (omega arith) and rows_zero (2 ∷ 3 ∷ []) _ (λ h. h) and row_zero 4 _ (omega arith) and row_zero 5 _ (omega arith) and row_zero 6 _ (omega arith) and row_zero 7 _ (omega arith)
    and row_zero 8 _ (omega arith) and row_zero 9 _ (omega arith)

pub dc_read_zero : (plane blocks : ℕ) (values : List ℤ) (bytes : List ℕ) (room : ℕ) → NoZero (dc_read_rows plane blocks values bytes room)
unfolding dc_read_rows
dc_read_zero plane blocks values bytes room =
    row_zero 20 _ (omega arith) and row_zero 21 _ (omega arith) and row_zero 11 _ (omega arith) and row_zero 9 _ (omega arith) and rows_zero (12 ∷ 13 ∷ []) _ (λ h. h) and row_zero 18 _ (omega arith)

pub ac_read_zero : (plane blocks : ℕ) (codes : Table) (values : List ℤ) (bytes : List ℕ) (room : ℕ) → NoZero (ac_read_rows plane blocks codes values bytes room)
unfolding ac_read_rows
ac_read_zero plane blocks codes values bytes room =
    row_zero 20 _ (omega arith) and row_zero 21 _ (omega arith) and row_zero 10 _ (omega arith) and row_zero 11 _ (omega arith) and row_zero 9 _ (omega arith) and rows_zero (12 ∷ 13 ∷ 14 ∷ 15 ∷ 16 ∷ 17 ∷ []) _ (λ h. h)
    and row_zero 18 _ (omega arith)

pub list_zero : (file : List ℕ) (room : ℕ) → NoZero (list_rows file room)
unfolding list_rows
list_zero file room = row_zero 9 _ (omega arith)

pub dc_write_zero : (plane blocks : ℕ) (values : List ℤ) (room : ℕ) → NoZero (dc_write_rows plane blocks values room)
unfolding dc_write_rows
dc_write_zero plane blocks values room = row_zero 20 _ (omega arith) and row_zero 28 _ (omega arith) and row_zero 21 _ (omega arith) and row_zero 11 _ (omega arith) and row_zero 9 _ (omega arith)

pub ac_write_zero : (plane blocks : ℕ) (codes : Table) (values : List ℤ) (room : ℕ) → NoZero (ac_write_rows plane blocks codes values room)
unfolding ac_write_rows
ac_write_zero plane blocks codes values room =
    row_zero 20 _ (omega arith) and row_zero 28 _ (omega arith) and row_zero 21 _ (omega arith) and row_zero 10 _ (omega arith) and row_zero 11 _ (omega arith) and row_zero 19 _ (omega arith) and row_zero 9 _ (omega arith)

pub transform_zero : (refinement blocks : ℕ) (values : List ℤ) (quantisers : List ℕ) (room : ℕ) → NoZero (transform_rows refinement blocks values quantisers room)
unfolding transform_rows
transform_zero refinement blocks values quantisers room =
    row_zero 20 _ (omega arith) and row_zero 21 _ (omega arith) and row_zero 22 _ (omega arith) and row_zero 11 _ (omega arith) and row_zero 9 _ (omega arith)

pub preview_zero : (left : ℕ) (quantisers : List ℕ) (room : ℕ) → NoZero (preview_rows left quantisers room)
unfolding preview_rows
preview_zero left quantisers room = row_zero 20 _ (omega arith) and row_zero 21 _ (omega arith) and row_zero 22 _ (omega arith) and row_zero 9 _ (omega arith)

pub merge_zero : (s : Setting) (pixels : ℕ) (base residual : List ℤ) (table : List ℕ) (room : ℕ) → NoZero (merge_rows s pixels base residual table room)
unfolding merge_rows
merge_zero s pixels base residual table room =
    row_zero 20 _ (omega arith) and row_zero 20 _ (omega arith) and row_zero 20 _ (omega arith) and row_zero 21 _ (omega arith) and row_zero 11 _ (omega arith) and row_zero 9 _ (omega arith)

pub call_zero : (named : Bool) (s : Setting) (pixels : ℕ) (base residual : List ℤ) (table : List ℕ) (matrix : List ℤ) (room : ℕ) → NoZero (merge_call_rows named s pixels base residual table matrix room)
unfolding merge_call_rows
call_zero named s pixels base residual table matrix room =
    row_zero 20 _ (omega arith) and row_zero 20 _ (omega arith) and row_zero 20 _ (omega arith) and row_zero 20 _ (omega arith) and row_zero 21 _ (omega arith) and row_zero 21 _ (omega arith)
    and row_zero 11 _ (omega arith) and row_zero 9 _ (omega arith)

pub demand_one : DemandOne
demand_one = record {
  boxes = λ file kind instance before. answered 0 (box_zero file kind instance (length before)) before _ (box_judged file kind instance (length before));
  listings = λ file before. answered 0 (list_zero file (length before)) before _ (list_judged file (length before));
  dc_read = λ plane blocks values bytes before. answered (pos 0) (dc_read_zero plane blocks values bytes (length before)) before _ (dc_read_judged plane blocks values bytes (length before));
  ac_read = λ plane blocks codes values bytes before. answered (pos 0) (ac_read_zero plane blocks codes values bytes (length before)) before _ (ac_read_judged plane blocks codes values bytes (length before));
  dc_write = λ plane blocks values before. answered 0 (dc_write_zero plane blocks values (length before)) before _ (dc_write_judged plane blocks values (length before));
  ac_write = λ plane blocks codes values before. answered 0 (ac_write_zero plane blocks codes values (length before)) before _ (ac_write_judged plane blocks codes values (length before));
  transforms = λ refinement blocks values quantisers before. answered (pos 0) (transform_zero refinement blocks values quantisers (length before)) before _ (transform_judged refinement blocks values quantisers (length before));
  previews = λ left quantisers before. answered 0 (preview_zero left quantisers (length before)) before _ (preview_judged left quantisers (length before));
  merges = λ s pixels base residual table before. answered 0 (merge_zero s pixels base residual table (length before)) before _ (merge_judged s pixels base residual table (length before));
  merge_calls = λ named s pixels base residual table matrix before.
      answered 0 (call_zero named s pixels base residual table matrix (length before)) before _ (call_judged s pixels base residual table (length before) named matrix);
}
