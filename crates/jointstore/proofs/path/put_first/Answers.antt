-- `jointstore::path::put_first` meets its contract: the first proof is the whole path.
-- Assumes nothing.
use native.Mathlib.Omega.{arith}
use mathlib.Core.Path.{◌≡◌, sym, ap, ◌∙◌}
use Rattle.octets.specs.Runs.{patch}
use Rattle.store.specs.Answers.{entries_at}
use Rattle.store.proofs.ProofLaws.{counted}
use Rattle.jointstore.proofs.PieceLaws.{length-rest}
use Rattle.jointstore.proofs.PartLaws.{first_cut}
use Rattle.jointstore.proofs.path.put_first.Goals as goal

pub put_part-requires : goal.put_part-requires
put_part-requires c =
    let o = c.args.image.good in
    let b = c.args.image.bytes.now in
    let ek : c.entries-k.result ≡ entries_at b c.args.p =
    c.entries-k.ensures.0 ∙ sym (counted b o c.args.p c.requires.0) in
    let cut = first_cut b o c.args.p c.requires.0 in
    rw c.count.ensures (
      omega arith,
      c.requires.0,
      omega arith,
      cut.anchors,
      omega (arith, ek, cut.count),
      omega (
        arith,
        ek,
        c.requires.1,
        length-rest b o c.args.p c.requires.0 0,
      ),
    )

pub returns : goal.returns
returns c =
    let o = c.args.image.good in
    let b = c.args.image.bytes.now in
    let ek : c.entries-k.result ≡ entries_at b c.args.p =
    c.entries-k.ensures.0 ∙ sym (counted b o c.args.p c.requires.0) in (
      (rw c.count.ensures at c.put_part.ensures.0)
          ∙ ap (patch c.args.buffer.now c.args.at)
          (first_cut b o c.args.p c.requires.0).bytes,
      omega (
        arith,
        ek,
        c.put_part.ensures.1,
        length-rest b o c.args.p c.requires.0 0,
      ),
    )
