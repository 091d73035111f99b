-- Ask 3: the joint proof's own theorems, and the store's and the gateway's, one after the other.
-- Assumes nothing.
use Rattle.std.specs.Prelude.{Ok}
use Prim.Native.Nat.{ℕ}
use native.Mathlib.Omega.{arith}
use mathlib.Core.Path.{◌≡◌, refl, ap, ◌∙◌}
use mathlib.Core.List.{List, ◌++◌}
use lib.ListN.{length}
use Rattle.octets.specs.Runs.{patch}
use Rattle.octets.proofs.PartLaws.{part-patch}
use Rattle.skiplist.specs.Blocks.{Block}
use Rattle.commands.specs.Meaning.{held_side}
use Rattle.archive.specs.Form.{image_of}
use Rattle.store.specs.declared.Checked.{Checked}
use Rattle.store.specs.Answers.{check_of}
use Rattle.jointbytes.specs.Paths.{joint_for}
use Rattle.jointbytes.proofs.Respelled.{respelled}
use Rattle.jointbytes.proofs.Rejoined.{rejoined}
use Rattle.jointstore.specs.Answers as jointstore
use Rattle.jointstore.proofs.Theorems as store
use Rattle.jointgateway.specs.Joint.{proof_at, no_tags, joint_of}
use Rattle.jointgateway.specs.Demand.{tags_at}
use Rattle.jointgateway.proofs.JointDemands.{accepted_exactly}
use Rattle.jointgateway.proofs.JointHonest.{respells, joint_honest}
use Rattle.demands.specs.ThirdDemand.{held}
use Rattle.demands.specs.MorningCheck.{Asked, sent, Answered, MorningCheck}
use Rattle.demands.proofs.SecondDemand.{check_answers}

entries-zero : (b ps : List ℕ) (room at : ℕ) → (jointstore.joint_of b ps room at).entries ≡ 0
unfolding jointstore.joint_of
entries-zero b ps room at = refl

answers : (bs : List Block) (spare ps lent : List ℕ) (at : ℕ) → Asked bs ps lent at → Answered bs spare ps lent at
answers bs spare ps lent at k = record {
  answer = λ i. record { verdict = a.0 i; length = a.1 i; entries = zero_entries i };
  buffer = a.2;
  joint = joint;
  spelled = λ i l. ap (λ s. proof_at s i) joint ∙ respells ps bs k.limits k.inside k.short i l;
  accepted = ap (joint_of (check_of b).metadata ps) joint
      ∙ joint_honest (check_of b).metadata ps bs k.limits k.set k.inside k.short
      (ap (λ (x : Checked). held_side x.metadata) checked)
      ∙ ap (λ (x : Checked). record { verdict = Ok tt; number = length ps; tags = patch no_tags 0 (tags_at ps bs); metadata = x.metadata })
      checked;
}
  where
    b : List ℕ
    b = image_of bs ++ spare

    checked : check_of b ≡ record { verdict = Ok tt; metadata = held bs }
    checked = check_answers bs k.limits spare

    zero_entries : (jointstore.joint_of b ps (length lent) at).entries ≡ 0
    zero_entries = entries-zero b ps (length lent) at

    a : ((jointstore.joint_of b ps (length lent) at).verdict ≡ Ok tt)
        × ((jointstore.joint_of b ps (length lent) at).length ≡ length (joint_for ps bs))
        × (jointstore.buffer_after b ps lent at ≡ patch lent at (joint_for ps bs))
    a = store.prove_row bs k.limits spare ps lent at (jointstore.joint_of b ps (length lent) at)
        (jointstore.buffer_after b ps lent at) k.set k.inside k.short k.fits
        (record { verdict = refl; bytes = refl; entries = zero_entries; buffer = refl })

    joint : sent bs spare ps lent at ≡ joint_for ps bs
    joint = rw (a.1, a.2) (part-patch lent (joint_for ps bs) at (length (joint_for ps bs)) (omega (arith, k.fits)) refl)

pub morning_check : MorningCheck
morning_check = record { exactly = accepted_exactly; spelled = respelled; joined = rejoined; answered = answers }
