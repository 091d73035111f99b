-- `sha256::end_blocks` makes the end of the padded message: a copy and two stores into zeros, which stay 128 bytes.
-- Assumes nothing.
use Rattle.std.proofs.Common.{◌≡◌, length, sym, ap, ◌∙◌, arith, length-set}
use Rattle.octets.proofs.NumberLaws.{length-be}
use Rattle.octets.proofs.PatchLaws.{length-patch}
use Rattle.octets.specs.Numbers.{be}
use Rattle.sha256.proofs.Endings.{rest-length, copied_length, ending_made}
use Rattle.sha256.proofs.end_blocks.Goals as goal

pub copy-requires : goal.copy-requires
copy-requires c =
    let n : length c.args.t.now ≡ 128 = ap length c.requires.0 in
    omega (arith, rest-length c.args.m.now)

pub bounds-t-rest : goal.bounds-t-rest
bounds-t-rest c =
    omega (arith, copied_length c.args.m.now c.args.t.now _ c.requires.0 c.copy.ensures)

pub put_number-requires : goal.put_number-requires
put_number-requires c =
    let n = copied_length c.args.m.now c.args.t.now _ c.requires.0 c.copy.ensures in
    simp length-set (omega (arith, c.block_count-end.ensures))

pub shape_of-t : goal.shape_of-t
shape_of-t c =
    let n = copied_length c.args.m.now c.args.t.now _ c.requires.0 c.copy.ensures in
    ap length c.put_number.ensures
    ∙ length-patch _ (be 4 _) _
    (simp (length-set, length-be) (omega (arith, c.block_count-end.ensures)))
    ∙ simp length-set n ∙ sym (ap length c.requires.0)

pub returns : goal.returns
returns c =
    ending_made c.args.before c.args.m.now c.args.t.now c.copy.new.d c.put_number.new.d
    c.block_count-end.result c.requires.0 c.requires.1 c.requires.2 c.block_count-end.ensures c.copy.ensures
    c.put_number.ensures
