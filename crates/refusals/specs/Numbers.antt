-- Each refusal's number in document 01's table "What comes back when it will not", from 13 on in document 02's asks, and the proof that
-- it speaks of: "7, 8 and 9 also say which proof, first or second"; of a joint proof "with its place".
-- Assumes nothing.
use Rattle.refusals.specs.Order.{Verdict}
use Rattle.std.specs.Prelude.{ℕ, List, Ok, Err, codes}
use Rattle.refusals.specs.declared.Which.{Which}
use Rattle.refusals.specs.declared.Which.TheVariants.{First, Second, Place}
use Rattle.refusals.specs.declared.Refusal.{Refusal}
use Rattle.refusals.specs.declared.Refusal.TheVariants.{BadImage, BadPosition, BadHeight, Full, NoRoom, TooDeep}
use Rattle.refusals.specs.declared.Refusal.TheVariants.{BadProof, WrongPosition, WrongLabel, NotNeighbours}
use Rattle.refusals.specs.declared.Refusal.TheVariants.{LongMessage, BadMetadata, BadSet, Repeated, OutOfTime}
use Rattle.refusals.specs.declared.Refusal.TheVariants.{WrongBlock}

abbrev pub number_of : Refusal → ℕ
number_of BadImage = 1
number_of BadPosition = 2
number_of BadHeight = 3
number_of Full = 4
number_of NoRoom = 5
number_of TooDeep = 6
number_of (BadProof w) = 7
number_of (WrongPosition w) = 8
number_of (WrongLabel w) = 9
number_of NotNeighbours = 10
number_of LongMessage = 11
number_of BadMetadata = 12
number_of BadSet = 13
number_of Repeated = 14
number_of OutOfTime = 15
number_of WrongBlock = 16

-- its name there, as text
abbrev pub name_of : Refusal → List ℕ
name_of BadImage = codes "BAD IMAGE"
name_of BadPosition = codes "BAD POSITION"
name_of BadHeight = codes "BAD HEIGHT"
name_of Full = codes "FULL"
name_of NoRoom = codes "NO ROOM"
name_of TooDeep = codes "TOO DEEP"
name_of (BadProof w) = codes "BAD PROOF"
name_of (WrongPosition w) = codes "WRONG POSITION"
name_of (WrongLabel w) = codes "WRONG LABEL"
name_of NotNeighbours = codes "NOT NEIGHBOURS"
name_of LongMessage = codes "LONG MESSAGE"
name_of BadMetadata = codes "BAD METADATA"
name_of BadSet = codes "BAD SET"
name_of Repeated = codes "REPEATED"
name_of OutOfTime = codes "OUT OF TIME"
name_of WrongBlock = codes "WRONG BLOCK"

-- nothing refused is 0
abbrev pub verdict_number : Verdict → ℕ
verdict_number (Ok tt) = 0
verdict_number (Err r) = number_of r

abbrev pub proof_number : Which → ℕ
proof_number First = 1
proof_number Second = 2
proof_number (Place n) = n

-- the proof that a refusal speaks of, 0 for none
abbrev pub proof_of : Refusal → ℕ
proof_of BadImage = 0
proof_of BadPosition = 0
proof_of BadHeight = 0
proof_of Full = 0
proof_of NoRoom = 0
proof_of TooDeep = 0
proof_of (BadProof w) = proof_number w
proof_of (WrongPosition w) = proof_number w
proof_of (WrongLabel w) = proof_number w
proof_of NotNeighbours = 0
proof_of LongMessage = 0
proof_of BadMetadata = 0
proof_of BadSet = 0
proof_of Repeated = 0
proof_of OutOfTime = 0
proof_of WrongBlock = 0
