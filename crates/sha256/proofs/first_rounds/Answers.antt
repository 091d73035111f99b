-- `sha256::first_rounds` is rounds 0 to 15.
-- Assumes nothing.
use Rattle.std.proofs.Common.{refl, arith}
use Rattle.sha256.specs.Hash.{rounds}
use Rattle.sha256.proofs.Rounds.{round_more}
use Rattle.sha256.proofs.first_rounds.Goals as goal

pub returns : goal.returns
unfolding rounds
returns c =
    let w = c.args.w in
    let v = c.args.s in
    let e0 = round_more w v _ _ 0 _ (c.constant.ensures (omega arith)) c.one_round-s.ensures refl in
    let e1 = round_more w v _ _ 1 _ (c.constant-2.ensures (omega arith)) c.one_round-s-2.ensures e0 in
    let e2 = round_more w v _ _ 2 _ (c.constant-3.ensures (omega arith)) c.one_round-s-3.ensures e1 in
    let e3 = round_more w v _ _ 3 _ (c.constant-4.ensures (omega arith)) c.one_round-s-4.ensures e2 in
    let e4 = round_more w v _ _ 4 _ (c.constant-5.ensures (omega arith)) c.one_round-s-5.ensures e3 in
    let e5 = round_more w v _ _ 5 _ (c.constant-6.ensures (omega arith)) c.one_round-s-6.ensures e4 in
    let e6 = round_more w v _ _ 6 _ (c.constant-7.ensures (omega arith)) c.one_round-s-7.ensures e5 in
    let e7 = round_more w v _ _ 7 _ (c.constant-8.ensures (omega arith)) c.one_round-s-8.ensures e6 in
    let e8 = round_more w v _ _ 8 _ (c.constant-9.ensures (omega arith)) c.one_round-s-9.ensures e7 in
    let e9 = round_more w v _ _ 9 _ (c.constant-10.ensures (omega arith)) c.one_round-s-10.ensures e8 in
    let e10 = round_more w v _ _ 10 _ (c.constant-11.ensures (omega arith)) c.one_round-s-11.ensures e9 in
    let e11 = round_more w v _ _ 11 _ (c.constant-12.ensures (omega arith)) c.one_round-s-12.ensures e10 in
    let e12 = round_more w v _ _ 12 _ (c.constant-13.ensures (omega arith)) c.one_round-s-13.ensures e11 in
    let e13 = round_more w v _ _ 13 _ (c.constant-14.ensures (omega arith)) c.one_round-s-14.ensures e12 in
    let e14 = round_more w v _ _ 14 _ (c.constant-15.ensures (omega arith)) c.one_round-s-15.ensures e13 in
    round_more w v _ _ 15 _ (c.constant-16.ensures (omega arith)) c.one_round.ensures e14
