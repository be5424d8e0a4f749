-- The whiteboard's readings marked P hold, by computation. Assumes nothing.
use mathlib.Core.Path.{refl}
use Rattle.laws.specs.Index.{sum_to, tab, join_to, every}
use Rattle.laws.specs.First.{first_fail, or_here}
use Rattle.levels.specs.Level.{in_level, is_dc, inside, first_outside}
use Rattle.bit_rules.specs.Digits.{digits}
use Rattle.bit_rules.specs.Source.{opened, after_ff, next_byte, take_from, take_bit, only_padding}
use Rattle.bit_rules.specs.Table.{code_count, kraft, holds, distinct, good_table}
use Rattle.bit_rules.specs.Read.{code_from, take_code}
use Rattle.plane_rules.specs.Plane.{onto, closed}
use Rattle.plane_rules.specs.Dc.{new_dc, dc_blocks, read_dc}
use Rattle.bit_rules.specs.Number.{take_number}
use Rattle.plane_rules.specs.AcRead.{end_run, meaning, task_at, position, block_end, ac_block, cut, ac_blocks, read_ac}
use Rattle.box_rules.specs.Walk.{be16, be32, head_at, ones, barred, tagged, packet_at, whole_at, sized_at, marked_at, step_at, steps_in, steps_from, begins, walk, ending}
use Rattle.box_rules.specs.Packets.{packets_in, packets, is_mine, mine}
use Rattle.box_rules.specs.Numbers.{numbers, count, least, first_twice, missing_from, first_missing}
use Rattle.box_rules.specs.Box as boxes
use Rattle.box_rules.specs.Box.{alike, agree, contents, numbered, joined_from, assembled, assemble, box_bytes}
use Rattle.transform_rules.specs.Cosines.{nine_cosines, half_turn, full_turn, kernel}
use Rattle.transform_rules.specs.Samples.{product, row_sum, double_sum, rounded, sample, block_samples}
use Rattle.transform_rules.specs.Zigzag.{first_row, last_row, places_before, zigzag, zigzag_at}
use Rattle.transform_rules.specs.Picture as blocks
use Rattle.transform_rules.specs.Picture.{dequantised, centre}
use Rattle.transform_rules.specs.Call.{is_quantiser, first_bad_quantiser, inverse_transform}
use Rattle.merge_rules.specs.Near.{nearest, clip, row}
use Rattle.merge_rules.specs.Curves.{straight, curved, entries}
use Rattle.merge_rules.specs.Pixels.{each, both, component}
use Rattle.merge_rules.specs.Steps.{tinted, tints, transform, recolour, first_centre, step_one, step_two, matrixed, step_three, scaled, step_four, added, alone, with_residual, step_five, basis, merged}
use Rattle.merge_rules.specs.Settings.{in_ranges, plain, srgb_allowed, residual_count, lengths_right}
use Rattle.merge_rules.specs.Picture.{pixel_at, merged_at, planes, merged_picture, merge, merge_tests}
use Rattle.demands.specs.Cases.{result_of, WhiteboardHolds}

pub whiteboard_holds : WhiteboardHolds
unfolding result_of sum_to tab join_to every first_fail or_here in_level is_dc inside first_outside digits opened after_ff next_byte take_from take_bit only_padding
    code_count kraft holds distinct good_table code_from take_code onto closed new_dc dc_blocks read_dc
    take_number end_run meaning task_at position block_end ac_block cut ac_blocks read_ac
    be16 be32 head_at ones barred tagged packet_at whole_at sized_at marked_at step_at steps_in steps_from begins walk ending packets_in packets is_mine mine
    numbers count least first_twice missing_from first_missing alike agree contents boxes.total numbered joined_from boxes.joined assembled assemble box_bytes
    nine_cosines half_turn full_turn kernel product row_sum double_sum rounded sample block_samples first_row last_row places_before zigzag zigzag_at
    blocks.times_quantiser dequantised centre blocks.picture is_quantiser first_bad_quantiser inverse_transform
    nearest clip row straight curved entries each both component tinted tints transform recolour first_centre step_one step_two matrixed step_three scaled
    step_four added alone with_residual step_five basis merged in_ranges plain srgb_allowed residual_count lengths_right pixel_at merged_at planes merged_picture merge merge_tests
whiteboard_holds = refl
