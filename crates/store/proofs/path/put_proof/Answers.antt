-- `store::path::put_proof` meets its contract: header, entries and stop side by side are the proof.
-- Assumes nothing.
use native.Mathlib.Omega.{arith}
use mathlib.Core.Path.{◌≡◌, sym, ap, ◌∙◌}
use lib.ListN.{length}
use Rattle.octets.specs.Runs.{patch}
use Rattle.labels.specs.declared.Side.{Side}
use Rattle.labels.specs.CodeSides.{no_side}
use Rattle.proofbytes.specs.Writing.{header_bytes}
use Rattle.proofbytes.proofs.WriteLaws.{length-header}
use Rattle.std.proofs.lemmas.List.{get_or_default}
use Rattle.store.proofs.SlotLaws.{slots-sized}
use Rattle.store.proofs.TurnLaws.{shown_sized}
use Rattle.store.proofs.ProofLaws.{entries-count, proof_is, three}
use borrow.Author.Rules.{rules}
use Rattle.store.proofs.path.put_proof.Goals as goal

pub put_entries-requires : goal.put_entries-requires
put_entries-requires c =
    let e = rw c.count.ensures at c.columns-s.ensures in
    let l : length c.put_header.new.buffer ≡ length c.args.buffer.now = search rules in (
      c.requires.0,
      omega (arith, l, c.requires.3),
      rw e (entries-count c.args.image.bytes.now c.args.image.good c.args.p c.requires.0 ∙ sym c.requires.1),
      rw e (slots-sized _),
      omega arith,
      (λ j q u v. absurd (omega (arith, q))),
    )

pub put_stop-requires : goal.put_stop-requires
put_stop-requires c =
    let size : length c.columns-s.result ≡ 16 = search rules in
    let l : length c.put_header.new.buffer ≡ length c.args.buffer.now = search rules in
    let l2 : length c.put_entries.new.buffer ≡ length c.put_header.new.buffer = search rules in (
      omega (arith, l, l2, c.requires.3),
      ap length c.tag.ensures
          ∙ shown_sized c.args.image.bytes.now c.args.p (omega
          (arith, c.args.image.room, c.requires.0)),
      ap (λ (x : Side). length x.label) (get_or_default c.columns-s.result 0 _ no_side (omega (arith, size)))
          ∙ rw c.columns-s.ensures (slots-sized _ 0),
    )

pub returns : goal.returns
returns c =
    let e = rw c.count.ensures at c.columns-s.ensures in
    three c.args.buffer.now (header_bytes c.args.k) _ _ c.put_header.new.buffer c.put_entries.new.buffer
    c.put_stop.new.buffer c.args.at c.args.k (length-header c.args.k)
    (rw e at c.put_entries.ensures.1) c.requires.3
    c.put_header.ensures (rw e at c.put_entries.ensures.0) c.put_stop.ensures
    ∙ ap (patch c.args.buffer.now c.args.at)
    (proof_is c.args.image.bytes.now c.args.image.good c.args.p c.requires.0 c.args.k c.own.result
    c.tag.result
    c.columns-s.result _ c.requires.1 (c.own.ensures c.args.image.bytes.now) c.tag.ensures e)
