-- Demand 2 holds. Assumes nothing.
use mathlib.Core.Path.{◌≡◌, refl, sym, ap, subst, ◌∙◌}
use mathlib.Core.Bool.{Bool, true}
use mathlib.Core.List.{List, [], ◌∷◌}
use Rattle.std.specs.Prelude.{None}
use Prim.Native.Nat.{ℕ, ◌-◌, ◌*◌, ◌≤◌}
use native.Mathlib.Omega.{arith}
use borrow.Author.Tests.{eqb-true, eq-eqb, leb-true, le-leb}
use lib.Dec.{leb, eqb}
use lib.IntN.{ℤ, pos}
use lib.ListN.{length}
use Rattle.box_rules.specs.Text.{listing, list_packets}
use Rattle.laws.specs.Index.{every}
use Rattle.laws.specs.First.{first_fail}
use Rattle.answers.specs.Verdict.{Verdict, given, refused, fitting, Meets}
use Rattle.answers.specs.declared.Refusal.{Refusal}
use Rattle.answers.specs.declared.Answer.{Answer}
use Rattle.answers.proofs.Given.{refused_given, need_given, unless_given}
use Rattle.levels.specs.Level.{first_outside}
use Rattle.levels.specs.declared.Part.TheVariants.{Dc, Ac, Whole}
use Rattle.bit_rules.specs.Source.{Source, start, only_padding}
use Rattle.bit_rules.specs.Table.{Table, good_table}
use Rattle.plane_rules.specs.Plane.{readable, our_writer, writable, Plane, read, refusing, closed}
use Rattle.plane_rules.specs.Dc.{dc_blocks, read_dc, dc_bytes, written_dc, write_dc}
use Rattle.plane_rules.specs.AcRead.{cut, ac_blocks, read_ac}
use Rattle.plane_rules.specs.AcWrite.{tokens, lacking, ac_bytes, written_ac, write_ac}
use Rattle.box_laws.proofs.Order.{handed_given, given_handed}
use Rattle.transform_rules.specs.Picture as blockwise
use Rattle.transform_rules.specs.Call.{first_bad_quantiser, inverse_transform}
use Rattle.merge_rules.specs.Near.{top}
use Rattle.merge_rules.specs.declared.Setting.{Setting}
use Rattle.merge_rules.specs.Settings.{in_ranges, plain, srgb_allowed, lengths_right, entry_right}
use Rattle.merge_rules.specs.Picture.{merged_picture, merge, merge_tests}
use Rattle.merge_rules.specs.Call.{matrix_count, merge_call}
use Rattle.preview_rules.specs.Owed.{owed_block}
use Rattle.preview_rules.specs.Call.{preview_owes}
use Rattle.demands.specs.One.{Rows}
use Rattle.demands.specs.Two.{Exactly, Listed, DcRefined, AcRefined, still_written, DcCoded, AcCoded, Sampled, Owing, Merged, MergeCalled, DemandTwo}
use Rattle.demands.proofs.Rows.{Keeps, refuses, Judged, NoZero}
use Rattle.demands.proofs.Walked.{box_judged}
use Rattle.demands.proofs.One.{list_judged, list_zero, dc_read_judged, ac_read_judged, dc_write_judged, ac_write_judged, transform_judged, preview_judged, merge_judged, call_judged, call_is, lent_merge, lent_merge_lem, call_zero, box_zero, dc_read_zero, ac_read_zero, dc_write_zero, ac_write_zero, transform_zero, preview_zero, merge_zero}
use Rattle.demands.proofs.Handing.{handed}

-- ---- from a verdict to what was written

by_row : {A : Type 0} {table : Rows} {room : ℕ} (r : Refusal) → Keeps {A = A} table room (refused r) → table r.number r.place r.second
by_row r (refuses t) = t

module _ {A : Type 0} (zero : A) {Right : List A → Type 0} {table : Rows} (none : NoZero table) (before : List A) where
  exactly : (v : Verdict A) → Judged table (length before) v → ((ys : List A) → v ≡ given ys → Right ys) → ((ys : List A) → Right ys → v ≡ given ys)
      → (after : List A) (answer : Answer) → Meets zero v before after answer → Exactly Right after answer
  exactly (given ys) j f g after answer m =
      let w = handed ys m in
      record {
        sound = λ e. subst Right (sym w.1) (f ys refl);
        complete = λ zs r. (w.0, w.1 ∙ same zs (g zs r));
      }
    where
      same : (zs : List A) → given ys ≡ given zs → ys ≡ zs
      same zs e = cc
  exactly (refused r) j f g after answer m =
      record {
        sound = λ e. absurd (none.never r.place r.second (subst (λ (n : ℕ). table n r.place r.second) (sym (ap (λ (a : Answer). a.number) m.answered) ∙ e) (by_row r j.kept)));
        complete = λ zs q. absurd (refused_given (g zs q));
      }

-- ---- values that fit

module _ {A : Type 0} (room : ℕ) (xs ys : List A) where
  fitted : fitting room xs ≡ given ys → (ys ≡ xs) × (length ys ≤ room)
  fitted e =
      let h = need_given (leb (length xs) room) 9 (length xs) (given xs) ys e in
      let q : given xs ≡ given ys = h.1 in
      let same : xs ≡ ys = cc in
      (sym same, subst (λ (l : List A). length l ≤ room) same (leb-true (length xs) room h.0))

  fits_given : ys ≡ xs → length ys ≤ room → fitting room xs ≡ given ys
  fits_given e h = rw (← e, le-leb (length ys) room h)

-- ---- a plane that was closed

record ClosedOn (p : Plane) (ys : List ℤ) : Type 0 where
  left : Source
  refined : p ≡ read ys left
  padded : only_padding left ≡ true

closed_given : (p : Plane) (ys : List ℤ) → closed p ≡ given ys → ClosedOn p ys
unfolding closed
closed_given (refusing r) ys e = absurd (refused_given e)
closed_given (read values s) ys e =
    let h = need_given (only_padding s) 18 s.seen (given values) ys e in
    let q : given values ≡ given ys = h.1 in
    let same : values ≡ ys = cc in
    record { left = s; refined = ap (λ (l : List ℤ). read l s) same; padded = h.0 }

given_closed : (p : Plane) (ys : List ℤ) (s : Source) → p ≡ read ys s → only_padding s ≡ true → closed p ≡ given ys
unfolding closed
given_closed p ys s e h = rw (e, h)

-- ---- reading planes

module _ (plane blocks : ℕ) (values : List ℤ) (bytes : List ℕ) (room : ℕ) where
  pub dc_refined : (ys : List ℤ) → read_dc plane blocks values bytes room ≡ given ys → DcRefined plane blocks values bytes room ys
  unfolding read_dc
  dc_refined ys e =
      let a = need_given (every (readable plane blocks)) 20 0 _ ys e in
      let b = need_given (eqb (length values) blocks) 21 0 _ ys a.1 in
      let c = unless_given 11 (first_outside Dc (plane - 1) values) _ ys b.1 in
      let d = need_given (leb blocks room) 9 blocks _ ys c.1 in
      let h = closed_given (dc_blocks 0 values (start bytes)) ys d.1 in
      record { counts = a.0; long = eqb-true (length values) blocks b.0; ranged = c.0; fits = leb-true blocks room d.0; left = h.left; refined = h.refined; padded = h.padded }

  dc_given : (ys : List ℤ) → DcRefined plane blocks values bytes room ys → read_dc plane blocks values bytes room ≡ given ys
  unfolding read_dc
  dc_given ys h =
      rw (h.counts, eq-eqb (length values) blocks h.long, h.ranged, le-leb blocks room h.fits)
      (given_closed (dc_blocks 0 values (start bytes)) ys h.left h.refined h.padded)

  module _ (codes : Table) where
    ac_refined : (ys : List ℤ) → read_ac plane blocks codes values bytes room ≡ given ys → AcRefined plane blocks codes values bytes room ys
    unfolding read_ac
    ac_refined ys e =
        let a = need_given (every (readable plane blocks)) 20 0 _ ys e in
        let b = need_given (eqb (length values) (63 * blocks)) 21 0 _ ys a.1 in
        let t = need_given (good_table codes) 10 0 _ ys b.1 in
        let c = unless_given 11 (first_outside Ac (plane - 1) values) _ ys t.1 in
        let d = need_given (leb (63 * blocks) room) 9 (63 * blocks) _ ys c.1 in
        let h = closed_given (ac_blocks codes 0 None (cut blocks values) (start bytes)) ys d.1 in
        record { counts = a.0; long = eqb-true (length values) (63 * blocks) b.0; good = t.0; ranged = c.0; fits = leb-true (63 * blocks) room d.0; left = h.left; refined = h.refined; padded = h.padded }

    ac_given : (ys : List ℤ) → AcRefined plane blocks codes values bytes room ys → read_ac plane blocks codes values bytes room ≡ given ys
    unfolding read_ac
    ac_given ys h =
        rw (h.counts, eq-eqb (length values) (63 * blocks) h.long, h.good, h.ranged, le-leb (63 * blocks) room h.fits)
        (given_closed (ac_blocks codes 0 None (cut blocks values) (start bytes)) ys h.left h.refined h.padded)

-- ---- writing planes

-- the test behind 28 and the levels that are still written are the same
level_told : (plane : ℕ) → writable our_writer plane ≡ true → still_written plane
level_told plane e = let l : plane ≤ 3 = leb-true plane 3 e in omega arith

level_tested : (plane : ℕ) → still_written plane → writable our_writer plane ≡ true
level_tested plane l = le-leb plane 3 (omega (arith, l))

module _ (plane blocks : ℕ) (values : List ℤ) (room : ℕ) where
  dc_coded : (ys : List ℕ) → write_dc plane blocks values room ≡ given ys → DcCoded plane blocks values room ys
  unfolding written_dc
  dc_coded ys e =
      let a = need_given (every (readable plane blocks)) 20 0 _ ys e in
      let l = need_given (writable our_writer plane) 28 0 _ ys a.1 in
      let b = need_given (eqb (length values) blocks) 21 0 _ ys l.1 in
      let c = unless_given 11 (first_outside Dc plane values) _ ys b.1 in
      let h = fitted room (dc_bytes values) ys c.1 in
      record { counts = a.0; level = level_told plane l.0; long = eqb-true (length values) blocks b.0; ranged = c.0; bytes = h.0; fits = h.1 }

  coded_dc : (ys : List ℕ) → DcCoded plane blocks values room ys → write_dc plane blocks values room ≡ given ys
  unfolding written_dc
  coded_dc ys h = rw (h.counts, level_tested plane h.level, eq-eqb (length values) blocks h.long, h.ranged) (fits_given room (dc_bytes values) ys h.bytes h.fits)

  module _ (codes : Table) where
    ac_coded : (ys : List ℕ) → write_ac plane blocks codes values room ≡ given ys → AcCoded plane blocks codes values room ys
    unfolding written_ac
    ac_coded ys e =
        let a = need_given (every (readable plane blocks)) 20 0 _ ys e in
        let l = need_given (writable our_writer plane) 28 0 _ ys a.1 in
        let b = need_given (eqb (length values) (63 * blocks)) 21 0 _ ys l.1 in
        let t = need_given (good_table codes) 10 0 _ ys b.1 in
        let c = unless_given 11 (first_outside Ac plane values) _ ys t.1 in
        let d = unless_given 19 (lacking codes (tokens blocks values)) _ ys c.1 in
        let h = fitted room (ac_bytes blocks codes values) ys d.1 in
        record { counts = a.0; level = level_told plane l.0; long = eqb-true (length values) (63 * blocks) b.0; good = t.0; ranged = c.0; held = d.0; bytes = h.0; fits = h.1 }

    coded_ac : (ys : List ℕ) → AcCoded plane blocks codes values room ys → write_ac plane blocks codes values room ≡ given ys
    unfolding written_ac
    coded_ac ys h =
        rw (h.counts, level_tested plane h.level, eq-eqb (length values) (63 * blocks) h.long, h.good, h.ranged, h.held) (fits_given room (ac_bytes blocks codes values) ys h.bytes h.fits)

-- ---- samples and merged results

module _ (refinement blocks : ℕ) (values : List ℤ) (quantisers : List ℕ) (room : ℕ) where
  pub sampled : (ys : List ℤ) → inverse_transform refinement blocks values quantisers room ≡ given ys → Sampled refinement blocks values quantisers room ys
  unfolding inverse_transform
  sampled ys e =
      let a = need_given (every (leb refinement 4 ∷ leb blocks 1024 ∷ [])) 20 0 _ ys e in
      let b = need_given (every (eqb (length values) (blocks * 64) ∷ eqb (length quantisers) 64 ∷ [])) 21 0 _ ys a.1 in
      let q = unless_given 22 (first_bad_quantiser quantisers) _ ys b.1 in
      let c = unless_given 11 (first_outside Whole refinement values) _ ys q.1 in
      let h = fitted room (blockwise.picture refinement blocks values quantisers) ys c.1 in
      record { counts = a.0; lengths = b.0; quantised = q.0; ranged = c.0; samples = h.0; fits = h.1 }

  sampled_given : (ys : List ℤ) → Sampled refinement blocks values quantisers room ys → inverse_transform refinement blocks values quantisers room ≡ given ys
  unfolding inverse_transform
  sampled_given ys h =
      rw (h.counts, h.lengths, h.quantised, h.ranged) (fits_given room (blockwise.picture refinement blocks values quantisers) ys h.samples h.fits)

module _ (left : ℕ) (quantisers : List ℕ) (room : ℕ) where
  owing : (ys : List ℕ) → preview_owes left quantisers room ≡ given ys → Owing left quantisers room ys
  unfolding preview_owes
  owing ys e =
      let a = need_given (leb left 4) 20 0 _ ys e in
      let b = need_given (eqb (length quantisers) 64) 21 0 _ ys a.1 in
      let q = unless_given 22 (first_bad_quantiser quantisers) _ ys b.1 in
      let h = fitted room (owed_block left quantisers) ys q.1 in
      record { counts = a.0; long = eqb-true (length quantisers) 64 b.0; quantised = q.0; numbers = h.0; fits = h.1 }

  owing_given : (ys : List ℕ) → Owing left quantisers room ys → preview_owes left quantisers room ≡ given ys
  unfolding preview_owes
  owing_given ys h =
      rw (h.counts, eq-eqb (length quantisers) 64 h.long, h.quantised) (fits_given room (owed_block left quantisers) ys h.numbers h.fits)

module _ (s : Setting) (pixels : ℕ) (base residual : List ℤ) (table : List ℕ) (room : ℕ) where
  merged : (ys : List ℕ) → merge s pixels base residual table room ≡ given ys → Merged s pixels base residual table room ys
  unfolding merge merge_tests
  merged ys e =
      let a = need_given (in_ranges s pixels) 20 0 _ ys e in
      let b = need_given (plain s) 20 0 _ ys a.1 in
      let c = need_given (srgb_allowed s) 20 0 _ ys b.1 in
      let d = need_given (lengths_right s pixels base residual table) 21 0 _ ys c.1 in
      let q = unless_given 11 (first_fail (length table) (entry_right (top s.rb) table)) _ ys d.1 in
      let h = fitted room (merged_picture s pixels base residual table) ys q.1 in
      record { ranges = a.0; one = b.0; srgb = c.0; lengths = d.0; entries = q.0; results = h.0; fits = h.1 }

  merged_given : (ys : List ℕ) → Merged s pixels base residual table room ys → merge s pixels base residual table room ≡ given ys
  unfolding merge merge_tests
  merged_given ys h =
      rw (h.ranges, h.one, h.srgb, h.lengths, h.entries) (fits_given room (merged_picture s pixels base residual table) ys h.results h.fits)

module _ (named : Bool) (s : Setting) (pixels : ℕ) (base residual : List ℤ) (table : List ℕ) (matrix : List ℤ) (room : ℕ) where
  called : (ys : List ℕ) → merge_call named s pixels base residual table matrix room ≡ given ys → MergeCalled named s pixels base residual table matrix room ys
  called ys e =
      let w = sym (call_is s pixels base residual table room named matrix) ∙ e in
      let n = need_given named 20 0 _ ys w in
      let a = need_given (in_ranges s pixels) 20 0 _ ys n.1 in
      let b = need_given (plain s) 20 0 _ ys a.1 in
      let c = need_given (srgb_allowed s) 20 0 _ ys b.1 in
      let m = need_given (eqb (length matrix) (matrix_count s.matrix)) 21 0 _ ys c.1 in
      record { known = n.0; weights = eqb-true (length matrix) (matrix_count s.matrix) m.0; merged = merged s pixels base residual table room ys (behind ys a.0 b.0 c.0 m.1) }
    where
      behind : (ys : List ℕ) → in_ranges s pixels ≡ true → plain s ≡ true → srgb_allowed s ≡ true → lent_merge s pixels base residual table room ≡ given ys → merge s pixels base residual table room ≡ given ys
      behind ys a b c e = lent_merge_lem s pixels base residual table room a b c ∙ e

  called_given : (ys : List ℕ) → MergeCalled named s pixels base residual table matrix room ys → merge_call named s pixels base residual table matrix room ≡ given ys
  called_given ys h =
      let m = h.merged in
      let e : lent_merge s pixels base residual table room ≡ given ys = sym (lent_merge_lem s pixels base residual table room m.ranges m.one m.srgb) ∙ merged_given s pixels base residual table room ys m in
      call_is s pixels base residual table room named matrix ∙ rw (h.known, m.ranges, m.one, m.srgb, eq-eqb (length matrix) (matrix_count s.matrix) h.weights) e

module _ (file : List ℕ) (room : ℕ) where
  listed_text : (ys : List ℕ) → list_packets file room ≡ given ys → Listed file room ys
  unfolding list_packets
  listed_text ys e = let h = fitted room (listing file) ys e in record { text = h.0; fits = h.1 }

  text_listed : (ys : List ℕ) → Listed file room ys → list_packets file room ≡ given ys
  unfolding list_packets
  text_listed ys h = fits_given room (listing file) ys h.text h.fits

pub demand_two : DemandTwo
demand_two = record {
  boxes = λ file kind instance before.
      exactly 0 (box_zero file kind instance (length before)) before _ (box_judged file kind instance (length before)) (given_handed file kind instance (length before)) (handed_given file kind instance (length before));
  listings = λ file before.
      exactly 0 (list_zero file (length before)) before _ (list_judged file (length before)) (listed_text file (length before)) (text_listed file (length before));
  dc_read = λ plane blocks values bytes before.
      exactly (pos 0) (dc_read_zero plane blocks values bytes (length before)) before _ (dc_read_judged plane blocks values bytes (length before)) (dc_refined plane blocks values bytes (length before)) (dc_given plane blocks values bytes (length before));
  ac_read = λ plane blocks codes values bytes before.
      exactly (pos 0) (ac_read_zero plane blocks codes values bytes (length before)) before _ (ac_read_judged plane blocks codes values bytes (length before)) (ac_refined plane blocks values bytes (length before) codes) (ac_given plane blocks values bytes (length before) codes);
  dc_write = λ plane blocks values before.
      exactly 0 (dc_write_zero plane blocks values (length before)) before _ (dc_write_judged plane blocks values (length before)) (dc_coded plane blocks values (length before)) (coded_dc plane blocks values (length before));
  ac_write = λ plane blocks codes values before.
      exactly 0 (ac_write_zero plane blocks codes values (length before)) before _ (ac_write_judged plane blocks codes values (length before)) (ac_coded plane blocks values (length before) codes) (coded_ac plane blocks values (length before) codes);
  transforms = λ refinement blocks values quantisers before.
      exactly (pos 0) (transform_zero refinement blocks values quantisers (length before)) before _ (transform_judged refinement blocks values quantisers (length before)) (sampled refinement blocks values quantisers (length before)) (sampled_given refinement blocks values quantisers (length before));
  previews = λ left quantisers before.
      exactly 0 (preview_zero left quantisers (length before)) before _ (preview_judged left quantisers (length before)) (owing left quantisers (length before)) (owing_given left quantisers (length before));
  merges = λ s pixels base residual table before.
      exactly 0 (merge_zero s pixels base residual table (length before)) before _ (merge_judged s pixels base residual table (length before)) (merged s pixels base residual table (length before)) (merged_given s pixels base residual table (length before));
  merge_calls = λ named s pixels base residual table matrix before.
      exactly 0 (call_zero named s pixels base residual table matrix (length before)) before _ (call_judged s pixels base residual table (length before) named matrix) (called named s pixels base residual table matrix (length before)) (called_given named s pixels base residual table matrix (length before));
}
