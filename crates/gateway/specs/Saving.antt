-- "Metadata is count and root label. Saved: version, length 36 in two bytes, count in four, label: 39 bytes, answered
-- by value and read only from exactly 39 bytes. Saving a count over 4,096 is refused with 12 and 39 zero bytes."
-- Assumes nothing.
use Rattle.std.specs.Prelude.{ℕ, ◌≡◌, Bool, not, ◌&&◌, List, [], ◌∷◌, ◌++◌, eqb, leb, ltb, length, replicate}
use Rattle.octets.specs.Numbers.{be, number_at}
use Rattle.octets.specs.Runs.{part}
use Rattle.refusals.specs.declared.Refusal.TheVariants.{BadMetadata}
use Rattle.refusals.specs.Order.{Rule, ◌when◌, verdict_of, settled}
use Rattle.skiplist.specs.Limits.{most_blocks, digest_bytes}
use Rattle.commands.specs.declared.Metadata.{Metadata}
use Rattle.commands.specs.Meaning.{no_metadata}
use Rattle.gateway.specs.declared.saved.Saved.{Saved}
use Rattle.gateway.specs.declared.saved.Loaded.{Loaded}

abbrev pub saved_version : ℕ
saved_version = 1

-- the length of the rest, and of the whole
abbrev pub saved_rest : ℕ
saved_rest = 36

abbrev pub saved_size : ℕ
saved_size = 39

-- where the length, the count and the label stand
abbrev pub rest_place : ℕ
rest_place = 1

abbrev pub count_place : ℕ
count_place = 3

abbrev pub label_place : ℕ
label_place = 7

unfoldable pub saved_bytes : Metadata → List ℕ
saved_bytes m = be 1 saved_version ++ (be 2 saved_rest ++ (be 4 m.count ++ m.label))

-- "count over 4,096"
abbrev pub save_rules : Metadata → List Rule
save_rules m = (BadMetadata when ltb most_blocks m.count) ∷ []

unfoldable pub save_of : Metadata → Saved
save_of m = record {
  verdict = verdict_of (save_rules m);
  bytes = settled (verdict_of (save_rules m)) (saved_bytes m) (replicate saved_size 0);
}

-- "saved bytes not of the stated form", or a count over 4,096 in them
unfoldable pub as_stated : List ℕ → Bool
as_stated s =
    eqb (length s) saved_size
    && (eqb (number_at 1 s 0) saved_version && (eqb (number_at 2 s rest_place) saved_rest
    && leb (number_at 4 s count_place) most_blocks))

abbrev pub load_rules : List ℕ → List Rule
load_rules s = (BadMetadata when not (as_stated s)) ∷ []

unfoldable pub load_of : List ℕ → Loaded
load_of s = record {
  verdict = verdict_of (load_rules s);
  metadata = settled (verdict_of (load_rules s)) (record {
    count = number_at 4 s count_place;
    label = part s label_place digest_bytes;
  }) no_metadata;
}

-- THE PLEDGES
pub record Saves (m : Metadata) (r : Saved) : Type 0 where
  pub verdict : r.verdict ≡ (save_of m).verdict
  pub bytes : r.bytes ≡ (save_of m).bytes

pub record Loads (s : List ℕ) (r : Loaded) : Type 0 where
  pub verdict : r.verdict ≡ (load_of s).verdict
  pub metadata : r.metadata ≡ (load_of s).metadata
