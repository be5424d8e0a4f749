-- What each call promises to C is what the call of reader_c that it stands for promises: a weaker clause of an export does not give it. Assumes nothing.
use contract.Lifetimes.{Lfts}
use borrow.Fn.World.{ArgsD, ResD}
use borrow.Fn.Kinds.{ended_of}
use denote.Triple.Clauses.{AtExit}
use Rattle.reader_c.proofs.xt_box_bytes.Reads as box-reads
use Rattle.reader_c_c.specs.contracts.xt_box_bytes as box-call
use Rattle.reader_c_c.proofs.xt_box_bytes.Kinds as box-kinds
use Rattle.reader_c_c.proofs.xt_box_bytes.Reads as box-exported
use Rattle.reader_c.proofs.xt_list_packets.Reads as list-reads
use Rattle.reader_c_c.specs.contracts.xt_list_packets as list-call
use Rattle.reader_c_c.proofs.xt_list_packets.Kinds as list-kinds
use Rattle.reader_c_c.proofs.xt_list_packets.Reads as list-exported
use Rattle.reader_c.proofs.xt_read_dc_plane.Reads as readdc-reads
use Rattle.reader_c_c.specs.contracts.xt_read_dc_plane as readdc-call
use Rattle.reader_c_c.proofs.xt_read_dc_plane.Kinds as readdc-kinds
use Rattle.reader_c_c.proofs.xt_read_dc_plane.Reads as readdc-exported
use Rattle.reader_c.proofs.xt_write_dc_plane.Reads as writedc-reads
use Rattle.reader_c_c.specs.contracts.xt_write_dc_plane as writedc-call
use Rattle.reader_c_c.proofs.xt_write_dc_plane.Kinds as writedc-kinds
use Rattle.reader_c_c.proofs.xt_write_dc_plane.Reads as writedc-exported
use Rattle.reader_c.proofs.xt_inverse_transform.Reads as transform-reads
use Rattle.reader_c_c.specs.contracts.xt_inverse_transform as transform-call
use Rattle.reader_c_c.proofs.xt_inverse_transform.Kinds as transform-kinds
use Rattle.reader_c_c.proofs.xt_inverse_transform.Reads as transform-exported
use Rattle.reader_c.proofs.xt_preview_owes.Reads as preview-reads
use Rattle.reader_c_c.specs.contracts.xt_preview_owes as preview-call
use Rattle.reader_c_c.proofs.xt_preview_owes.Kinds as preview-kinds
use Rattle.reader_c_c.proofs.xt_preview_owes.Reads as preview-exported
use Rattle.reader_c.proofs.xt_read_ac_plane.Reads as readac-reads
use Rattle.reader_c_c.specs.contracts.xt_read_ac_plane as readac-call
use Rattle.reader_c_c.proofs.xt_read_ac_plane.Kinds as readac-kinds
use Rattle.reader_c_c.proofs.xt_read_ac_plane.Reads as readac-exported
use Rattle.reader_c.proofs.xt_write_ac_plane.Reads as writeac-reads
use Rattle.reader_c_c.specs.contracts.xt_write_ac_plane as writeac-call
use Rattle.reader_c_c.proofs.xt_write_ac_plane.Kinds as writeac-kinds
use Rattle.reader_c_c.proofs.xt_write_ac_plane.Reads as writeac-exported
use Rattle.reader_c.proofs.xt_merge.Reads as merge-reads
use Rattle.reader_c_c.specs.contracts.xt_merge as merge-call
use Rattle.reader_c_c.proofs.xt_merge.Kinds as merge-kinds
use Rattle.reader_c_c.proofs.xt_merge.Reads as merge-exported

pub box_bytes_same : (κs : Lfts 4) (a : ArgsD box-call.signature κs) (r : ResD box-call.signature κs) (s : AtExit (ended_of 4 box-kinds.ps box-kinds.r) κs) → box-exported.Learnt κs a r s → box-reads.Learnt κs a r s
box_bytes_same κs a r s promise = promise

pub list_packets_same : (κs : Lfts 4) (a : ArgsD list-call.signature κs) (r : ResD list-call.signature κs) (s : AtExit (ended_of 4 list-kinds.ps list-kinds.r) κs) → list-exported.Learnt κs a r s → list-reads.Learnt κs a r s
list_packets_same κs a r s promise = promise

pub read_dc_plane_same : (κs : Lfts 5) (a : ArgsD readdc-call.signature κs) (r : ResD readdc-call.signature κs) (s : AtExit (ended_of 5 readdc-kinds.ps readdc-kinds.r) κs) → readdc-exported.Learnt κs a r s → readdc-reads.Learnt κs a r s
read_dc_plane_same κs a r s promise = promise

pub write_dc_plane_same : (κs : Lfts 4) (a : ArgsD writedc-call.signature κs) (r : ResD writedc-call.signature κs) (s : AtExit (ended_of 4 writedc-kinds.ps writedc-kinds.r) κs) → writedc-exported.Learnt κs a r s → writedc-reads.Learnt κs a r s
write_dc_plane_same κs a r s promise = promise

pub inverse_transform_same : (κs : Lfts 5) (a : ArgsD transform-call.signature κs) (r : ResD transform-call.signature κs) (s : AtExit (ended_of 5 transform-kinds.ps transform-kinds.r) κs) → transform-exported.Learnt κs a r s → transform-reads.Learnt κs a r s
inverse_transform_same κs a r s promise = promise

pub preview_owes_same : (κs : Lfts 4) (a : ArgsD preview-call.signature κs) (r : ResD preview-call.signature κs) (s : AtExit (ended_of 4 preview-kinds.ps preview-kinds.r) κs) → preview-exported.Learnt κs a r s → preview-reads.Learnt κs a r s
preview_owes_same κs a r s promise = promise

pub read_ac_plane_same : (κs : Lfts 7) (a : ArgsD readac-call.signature κs) (r : ResD readac-call.signature κs) (s : AtExit (ended_of 7 readac-kinds.ps readac-kinds.r) κs) → readac-exported.Learnt κs a r s → readac-reads.Learnt κs a r s
read_ac_plane_same κs a r s promise = promise

pub write_ac_plane_same : (κs : Lfts 6) (a : ArgsD writeac-call.signature κs) (r : ResD writeac-call.signature κs) (s : AtExit (ended_of 6 writeac-kinds.ps writeac-kinds.r) κs) → writeac-exported.Learnt κs a r s → writeac-reads.Learnt κs a r s
write_ac_plane_same κs a r s promise = promise

pub merge_same : (κs : Lfts 7) (a : ArgsD merge-call.signature κs) (r : ResD merge-call.signature κs) (s : AtExit (ended_of 7 merge-kinds.ps merge-kinds.r) κs) → merge-exported.Learnt κs a r s → merge-reads.Learnt κs a r s
merge_same κs a r s promise = promise
