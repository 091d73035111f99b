-- `sha256::sixteen_rounds` is rounds t to t + 15.
-- Assumes nothing.
use Rattle.std.proofs.Common.{sym, refl, add-zero, arith}
use Rattle.sha256.proofs.Windows.{onward}
use Rattle.sha256.proofs.sixteen_rounds.Goals as goal

pub returns : goal.returns
returns c b v e =
    let t = c.args.t in
    let g = c.requires.0 in
    let h = c.requires.1 in
    let e1 = onward g h 0 (omega arith) (sym (add-zero t)) c.step-x.ensures c.constant.ensures e in
    let e2 = onward g h 1 (omega arith) refl c.step-x-2.ensures c.constant-2.ensures e1 in
    let e3 = onward g h 2 (omega arith) refl c.step-x-3.ensures c.constant-3.ensures e2 in
    let e4 = onward g h 3 (omega arith) refl c.step-x-4.ensures c.constant-4.ensures e3 in
    let e5 = onward g h 4 (omega arith) refl c.step-x-5.ensures c.constant-5.ensures e4 in
    let e6 = onward g h 5 (omega arith) refl c.step-x-6.ensures c.constant-6.ensures e5 in
    let e7 = onward g h 6 (omega arith) refl c.step-x-7.ensures c.constant-7.ensures e6 in
    let e8 = onward g h 7 (omega arith) refl c.step-x-8.ensures c.constant-8.ensures e7 in
    let e9 = onward g h 8 (omega arith) refl c.step-x-9.ensures c.constant-9.ensures e8 in
    let e10 = onward g h 9 (omega arith) refl c.step-x-10.ensures c.constant-10.ensures e9 in
    let e11 = onward g h 10 (omega arith) refl c.step-x-11.ensures c.constant-11.ensures e10 in
    let e12 = onward g h 11 (omega arith) refl c.step-x-12.ensures c.constant-12.ensures e11 in
    let e13 = onward g h 12 (omega arith) refl c.step-x-13.ensures c.constant-13.ensures e12 in
    let e14 = onward g h 13 (omega arith) refl c.step-x-14.ensures c.constant-14.ensures e13 in
    let e15 = onward g h 14 (omega arith) refl c.step-x-15.ensures c.constant-15.ensures e14 in
    onward g h 15 (omega arith) refl c.step.ensures c.constant-16.ensures e15
