-- A box says the same in either form. Assumes nothing.
use mathlib.Core.Path.{sym, ◌∙◌}
use mathlib.Core.List.{List}
use Prim.Native.Nat.{ℕ}
use Rattle.box_rules.specs.Packets.{mine}
use Rattle.box_rules.specs.Layout.{laid_out, packets_of}
use Rattle.box_rules.proofs.Lengthened.{told}
use Rattle.box_laws.proofs.Reordering.{same_verdict}
use Rattle.box_laws.proofs.Forms.{assemble_longer}
use Rattle.box_laws.proofs.Written.{laid_out_lem}
use Rattle.demands.specs.Forms.{EitherForm}
use Rattle.demands.proofs.Practice.{by_verdict}

-- ---- the law

pub either_form : EitherForm
either_form kind instance parts parts' fill fill' behind behind' s h =
    let file : List ℕ = laid_out parts fill behind in
    let file' : List ℕ = laid_out parts' fill' behind' in
    let w = told kind instance s h in
    let a = laid_out_lem parts fill behind s in
    let b = laid_out_lem parts' fill' behind' w.sound in
    by_verdict kind instance file file' λ room.
    same_verdict file file' kind instance room (a.1 ∙ sym b.1)
    (rw (a.0, b.0, w.long) (sym (assemble_longer room (mine kind instance (packets_of parts)) w.short)))
