-- The single exception: "two different messages with equal digest, one hashed by the gateway in checking what it was
-- sent" (among M), "the other in labelling the archive before the edit" (among N).
-- Assumes nothing.
use Rattle.std.specs.Prelude.{ℕ, ◌≡◌, ◌≢◌}
use mathlib.Core.List.{List, Memᴰ}

pub record Clash (H : List ℕ → List ℕ) (M N : List (List ℕ)) : Type 0 where
  pub sent : List ℕ
  pub kept : List ℕ
  pub sent_in : Memᴰ sent M
  pub kept_in : Memᴰ kept N
  pub differ : sent ≢ kept
  pub same : H sent ≡ H kept
