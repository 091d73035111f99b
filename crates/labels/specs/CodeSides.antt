-- Sides as the code has them, beside trees and the model's rank and label: a third kind of sides. Ranks are kept modulo 2 ^ 64, which
-- changes no rank within the limits (CodeLaws: code_side), so that no loop has to carry a bound.
-- Assumes nothing.
use Rattle.std.specs.Prelude.{ℕ, ◌+◌, ◌%◌, ◌^◌, Bool, true, false, cond, List}
use Rattle.sha256.specs.Hash.{sha256}
use Rattle.skiplist.specs.Row.{Item}
use Rattle.skiplist.specs.Sides.{Sides}
use Rattle.skiplist.specs.Label as label
use Rattle.skiplist.specs.Label.{nothing, label_of}
use Rattle.skiplist.specs.Blocks.{zeros}
use Rattle.labels.specs.declared.Side.{Side}

-- the message that stands for 32 bytes, or for nothing
abbrev pub message_of : Bool → List ℕ → List ℕ
message_of none bytes = cond none nothing bytes

abbrev pub message : Side → List ℕ
message s = message_of s.empty s.label

-- the model's rank and label
abbrev pub to_side : Side → label.Side
to_side s = record { rank = s.rank; label = message s }

-- a rank in 64 bits
abbrev pub word : ℕ → ℕ
word n = n % 2 ^ 64

unfoldable pub no_side : Side
no_side = record { rank = 0; label = zeros; empty = true }

unfoldable pub leaf_of : Item → Side → Side
leaf_of c r =
    record { rank = word (c.own + r.rank); label = label_of sha256 0 (word (c.own + r.rank)) c.third (message r); empty = false }

unfoldable pub node_of : ℕ → Side → Side → Side
node_of l a b =
    record { rank = word (a.rank + b.rank); label = label_of sha256 l (word (a.rank + b.rank)) (message a) (message b); empty = false }

abbrev pub coded : Sides Side
coded = record { none = no_side; leaf = leaf_of; node = node_of; weight = λ s. s.rank }

-- tells the empty side from the others
abbrev pub vacant : Side → Bool
vacant s = s.empty
