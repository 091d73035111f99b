-- `jointstore::path::put_rest` meets its contract: what is not shared is the path from the anchor on.
-- Assumes nothing.
use native.Mathlib.Omega.{arith}
use mathlib.Core.Path.{◌≡◌, sym, ap, ◌∙◌}
use Rattle.octets.specs.Runs.{patch}
use Rattle.store.specs.Answers.{entries_at}
use Rattle.store.proofs.ProofLaws.{counted}
use Rattle.jointstore.proofs.SharingLaws.{shared_few}
use Rattle.jointstore.proofs.PieceLaws.{length-rest}
use Rattle.jointstore.proofs.PartLaws.{later_cut}
use Rattle.jointstore.proofs.path.put_rest.Goals as goal

pub overflow_sub-k : goal.overflow_sub-k
overflow_sub-k c =
    let o = c.args.image.good in
    let b = c.args.image.bytes.now in
    let ek : c.entries.result ≡ entries_at b c.args.q =
    c.entries.ensures.0 ∙ sym (counted b o c.args.q c.requires.1) in
    omega (arith, ek, c.requires.2, shared_few b c.args.p c.args.q)

pub put_part-requires : goal.put_part-requires
put_part-requires c =
    let o = c.args.image.good in
    let b = c.args.image.bytes.now in
    let ek : c.entries.result ≡ entries_at b c.args.q =
    c.entries.ensures.0 ∙ sym (counted b o c.args.q c.requires.1) in
    let cut = later_cut b o c.args.p c.args.q c.between-level.result c.anchor-a.result c.reach-e.result
    c.args.c c.requires.0 c.requires.1 c.between-level.ensures c.anchor-a.ensures c.reach-e.ensures c.requires.2 in (
      cut.before,
      cut.after,
      cut.in_row,
      cut.anchors,
      omega (arith, ek, cut.count),
      omega (
        arith,
        ek,
        c.requires.3,
        length-rest b o c.args.q c.requires.1 c.args.c,
      ),
    )

pub returns : goal.returns
returns c =
    let o = c.args.image.good in
    let b = c.args.image.bytes.now in
    let ek : c.entries.result ≡ entries_at b c.args.q =
    c.entries.ensures.0 ∙ sym (counted b o c.args.q c.requires.1) in
    let cut = later_cut b o c.args.p c.args.q c.between-level.result c.anchor-a.result c.reach-e.result
    c.args.c c.requires.0 c.requires.1 c.between-level.ensures c.anchor-a.ensures c.reach-e.ensures c.requires.2 in (
      c.put_part.ensures.0 ∙ ap (patch c.args.buffer.now c.args.at) cut.bytes,
      omega (
        arith,
        ek,
        c.put_part.ensures.1,
        length-rest b o c.args.q c.requires.1 c.args.c,
      ),
    )
