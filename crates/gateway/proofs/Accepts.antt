-- What passes over bytes passes in the model, and the other way round: the link between the gateway's tests and the
-- model's premises.
-- Assumes nothing.
use Prim.Native.Nat.{ℕ}
use mathlib.Core.Path.{◌≡◌}
use mathlib.Core.Bool.{true}
use mathlib.Core.List.{List}
use lib.Dec.{eqb}
use borrow.Author.Tests.{eqb-true, eq-eqb}
use Rattle.octets.proofs.RunLaws.{same-true, same_refl}
use Rattle.sha256.specs.Hash.{sha256}
use Rattle.skiplist.specs.Recompute.{proved_position, proved_rank}
use Rattle.skiplist.specs.Find.{own_at}
use Rattle.skiplist.specs.Check.{Accepted}
use Rattle.skiplist.specs.Limits.{most_height}
use Rattle.skiplist.specs.Blocks.{Sent}
use Rattle.skiplist.proofs.Cases.{both}
use Rattle.commands.specs.declared.Metadata.{Metadata}
use Rattle.commands.specs.Meaning.{held_side}
use Rattle.proofbytes.specs.Reading.{place_of}
use Rattle.proofbytes.specs.Form.{well_formed}
use Rattle.proofbytes.proofs.WrittenBack.{formed_writable, writable_formed}
use Rattle.std.specs.Prelude.{Ok}
use Rattle.gateway.specs.Checking.{𝓢, proves, ranked, rooted}
use Rattle.gateway.specs.Working.{finding_of}
use Rattle.gateway.proofs.Screens.{Found}

-- ONE PROOF
module _ (s : List ℕ) (p : ℕ) (m : Metadata) where
  pub found-accepted : Found s p m → Accepted sha256 Sent most_height p (held_side m) (place_of s)
  unfolding proves ranked rooted
  found-accepted f =
      let b = both (eqb (proved_position 𝓢 (place_of s)) p) (eqb (place_of s).item.own (own_at p)) f.proved in
      record {
        form = writable_formed (place_of s) (formed_writable s f.formed);
        proves = (eqb-true _ _ b.0, eqb-true _ _ b.1);
        count = eqb-true _ _ f.counted;
        root = same-true _ _ f.labelled;
      }

  pub accepted-fine : well_formed s ≡ true → Accepted sha256 Sent most_height p (held_side m) (place_of s)
      → finding_of s p m ≡ Ok tt
  unfolding finding_of proves ranked rooted
  accepted-fine w a = rw (
    w,
    eq-eqb (proved_position 𝓢 (place_of s)) p a.proves.0,
    eq-eqb (place_of s).item.own (own_at p) a.proves.1,
    eq-eqb (proved_rank 𝓢 (place_of s)) m.count a.count,
    a.root,
    same_refl m.label,
  )
