-- `sha256::tables::constant` reads the list of the definition.
-- Assumes nothing.
-- the last arm
use Rattle.std.proofs.Common.{arith}
use Rattle.sha256.specs.Constants.{constants}
use Rattle.sha256.proofs.Picks.{past, picked}
use Rattle.sha256.proofs.tables.constant.Goals as goal

pub returns-in-0 : goal.returns-in-0
unfolding constants
returns-in-0 c h = picked 0 _ c.in-0.is

pub returns-in-1 : goal.returns-in-1
unfolding constants
returns-in-1 c h = picked 1 _ c.in-1.is

pub returns-in-2 : goal.returns-in-2
unfolding constants
returns-in-2 c h = picked 2 _ c.in-2.is

pub returns-in-3 : goal.returns-in-3
unfolding constants
returns-in-3 c h = picked 3 _ c.in-3.is

pub returns-in-4 : goal.returns-in-4
unfolding constants
returns-in-4 c h = picked 4 _ c.in-4.is

pub returns-in-5 : goal.returns-in-5
unfolding constants
returns-in-5 c h = picked 5 _ c.in-5.is

pub returns-in-6 : goal.returns-in-6
unfolding constants
returns-in-6 c h = picked 6 _ c.in-6.is

pub returns-in-7 : goal.returns-in-7
unfolding constants
returns-in-7 c h = picked 7 _ c.in-7.is

pub returns-in-8 : goal.returns-in-8
unfolding constants
returns-in-8 c h = picked 8 _ c.in-8.is

pub returns-in-9 : goal.returns-in-9
unfolding constants
returns-in-9 c h = picked 9 _ c.in-9.is

pub returns-in-10 : goal.returns-in-10
unfolding constants
returns-in-10 c h = picked 10 _ c.in-10.is

pub returns-in-11 : goal.returns-in-11
unfolding constants
returns-in-11 c h = picked 11 _ c.in-11.is

pub returns-in-12 : goal.returns-in-12
unfolding constants
returns-in-12 c h = picked 12 _ c.in-12.is

pub returns-in-13 : goal.returns-in-13
unfolding constants
returns-in-13 c h = picked 13 _ c.in-13.is

pub returns-in-14 : goal.returns-in-14
unfolding constants
returns-in-14 c h = picked 14 _ c.in-14.is

pub returns-in-15 : goal.returns-in-15
unfolding constants
returns-in-15 c h = picked 15 _ c.in-15.is

pub returns-in-16 : goal.returns-in-16
unfolding constants
returns-in-16 c h = picked 16 _ c.in-16.is

pub returns-in-17 : goal.returns-in-17
unfolding constants
returns-in-17 c h = picked 17 _ c.in-17.is

pub returns-in-18 : goal.returns-in-18
unfolding constants
returns-in-18 c h = picked 18 _ c.in-18.is

pub returns-in-19 : goal.returns-in-19
unfolding constants
returns-in-19 c h = picked 19 _ c.in-19.is

pub returns-in-20 : goal.returns-in-20
unfolding constants
returns-in-20 c h = picked 20 _ c.in-20.is

pub returns-in-21 : goal.returns-in-21
unfolding constants
returns-in-21 c h = picked 21 _ c.in-21.is

pub returns-in-22 : goal.returns-in-22
unfolding constants
returns-in-22 c h = picked 22 _ c.in-22.is

pub returns-in-23 : goal.returns-in-23
unfolding constants
returns-in-23 c h = picked 23 _ c.in-23.is

pub returns-in-24 : goal.returns-in-24
unfolding constants
returns-in-24 c h = picked 24 _ c.in-24.is

pub returns-in-25 : goal.returns-in-25
unfolding constants
returns-in-25 c h = picked 25 _ c.in-25.is

pub returns-in-26 : goal.returns-in-26
unfolding constants
returns-in-26 c h = picked 26 _ c.in-26.is

pub returns-in-27 : goal.returns-in-27
unfolding constants
returns-in-27 c h = picked 27 _ c.in-27.is

pub returns-in-28 : goal.returns-in-28
unfolding constants
returns-in-28 c h = picked 28 _ c.in-28.is

pub returns-in-29 : goal.returns-in-29
unfolding constants
returns-in-29 c h = picked 29 _ c.in-29.is

pub returns-in-30 : goal.returns-in-30
unfolding constants
returns-in-30 c h = picked 30 _ c.in-30.is

pub returns-in-31 : goal.returns-in-31
unfolding constants
returns-in-31 c h = picked 31 _ c.in-31.is

pub returns-in-32 : goal.returns-in-32
unfolding constants
returns-in-32 c h = picked 32 _ c.in-32.is

pub returns-in-33 : goal.returns-in-33
unfolding constants
returns-in-33 c h = picked 33 _ c.in-33.is

pub returns-in-34 : goal.returns-in-34
unfolding constants
returns-in-34 c h = picked 34 _ c.in-34.is

pub returns-in-35 : goal.returns-in-35
unfolding constants
returns-in-35 c h = picked 35 _ c.in-35.is

pub returns-in-36 : goal.returns-in-36
unfolding constants
returns-in-36 c h = picked 36 _ c.in-36.is

pub returns-in-37 : goal.returns-in-37
unfolding constants
returns-in-37 c h = picked 37 _ c.in-37.is

pub returns-in-38 : goal.returns-in-38
unfolding constants
returns-in-38 c h = picked 38 _ c.in-38.is

pub returns-in-39 : goal.returns-in-39
unfolding constants
returns-in-39 c h = picked 39 _ c.in-39.is

pub returns-in-40 : goal.returns-in-40
unfolding constants
returns-in-40 c h = picked 40 _ c.in-40.is

pub returns-in-41 : goal.returns-in-41
unfolding constants
returns-in-41 c h = picked 41 _ c.in-41.is

pub returns-in-42 : goal.returns-in-42
unfolding constants
returns-in-42 c h = picked 42 _ c.in-42.is

pub returns-in-43 : goal.returns-in-43
unfolding constants
returns-in-43 c h = picked 43 _ c.in-43.is

pub returns-in-44 : goal.returns-in-44
unfolding constants
returns-in-44 c h = picked 44 _ c.in-44.is

pub returns-in-45 : goal.returns-in-45
unfolding constants
returns-in-45 c h = picked 45 _ c.in-45.is

pub returns-in-46 : goal.returns-in-46
unfolding constants
returns-in-46 c h = picked 46 _ c.in-46.is

pub returns-in-47 : goal.returns-in-47
unfolding constants
returns-in-47 c h = picked 47 _ c.in-47.is

pub returns-in-48 : goal.returns-in-48
unfolding constants
returns-in-48 c h = picked 48 _ c.in-48.is

pub returns-in-49 : goal.returns-in-49
unfolding constants
returns-in-49 c h = picked 49 _ c.in-49.is

pub returns-in-50 : goal.returns-in-50
unfolding constants
returns-in-50 c h = picked 50 _ c.in-50.is

pub returns-in-51 : goal.returns-in-51
unfolding constants
returns-in-51 c h = picked 51 _ c.in-51.is

pub returns-in-52 : goal.returns-in-52
unfolding constants
returns-in-52 c h = picked 52 _ c.in-52.is

pub returns-in-53 : goal.returns-in-53
unfolding constants
returns-in-53 c h = picked 53 _ c.in-53.is

pub returns-in-54 : goal.returns-in-54
unfolding constants
returns-in-54 c h = picked 54 _ c.in-54.is

pub returns-in-55 : goal.returns-in-55
unfolding constants
returns-in-55 c h = picked 55 _ c.in-55.is

pub returns-in-56 : goal.returns-in-56
unfolding constants
returns-in-56 c h = picked 56 _ c.in-56.is

pub returns-in-57 : goal.returns-in-57
unfolding constants
returns-in-57 c h = picked 57 _ c.in-57.is

pub returns-in-58 : goal.returns-in-58
unfolding constants
returns-in-58 c h = picked 58 _ c.in-58.is

pub returns-in-59 : goal.returns-in-59
unfolding constants
returns-in-59 c h = picked 59 _ c.in-59.is

pub returns-in-60 : goal.returns-in-60
unfolding constants
returns-in-60 c h = picked 60 _ c.in-60.is

pub returns-in-61 : goal.returns-in-61
unfolding constants
returns-in-61 c h = picked 61 _ c.in-61.is

pub returns-in-62 : goal.returns-in-62
unfolding constants
returns-in-62 c h = picked 62 _ c.in-62.is

pub returns-in_default : goal.returns-in_default
unfolding constants
returns-in_default c h =
    let l = past 63 c.args.t c.in_default.in_default-own.rest in
    picked 63 c.args.t (omega (arith, l, h))
