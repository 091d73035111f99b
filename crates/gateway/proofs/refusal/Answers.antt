-- A finding with the proof that it speaks of.
-- Assumes nothing.
use Rattle.gateway.proofs.refusal.Goals as goal

pub returns-in-Misread : goal.returns-in-Misread
returns-in-Misread c = rw c.in-Misread.is

pub returns-in-Misplaced : goal.returns-in-Misplaced
returns-in-Misplaced c = rw c.in-Misplaced.is

pub returns-in-Mislabelled : goal.returns-in-Mislabelled
returns-in-Mislabelled c = rw c.in-Mislabelled.is
