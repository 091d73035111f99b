-- What the calls below answer, as C gets it: part for part.
-- Assumes nothing.
use Rattle.sha256.specs.declared.Digested.{Digested}
use Rattle.labels.specs.declared.Tagged.{Tagged}
use Rattle.labels.specs.declared.Matched.{Matched}
use Rattle.store.specs.declared.Checked.{Checked}
use Rattle.gateway.specs.declared.saved.Loaded.{Loaded}
use Rattle.store.specs.declared.Proved.{Proved}
use Rattle.store.specs.declared.Applied.{Applied}
use Rattle.shapes.specs.declared.Shaped.{Shaped}
use Rattle.gateway.specs.declared.saved.Saved.{Saved}
use Rattle.gateway.specs.declared.Answer.{Answer}
use Rattle.jointgateway.specs.declared.Answer.{Answer as JointAnswer}
use Rattle.quaythistle.specs.declared.QtAnswer.{QtAnswer}
use Rattle.quaythistle.specs.declared.QtCounted.{QtCounted}
use Rattle.quaythistle.specs.declared.QtDigested.{QtDigested}
use Rattle.quaythistle.specs.declared.QtJointAnswer.{QtJointAnswer}
use Rattle.quaythistle.specs.declared.QtMatched.{QtMatched}
use Rattle.quaythistle.specs.declared.QtMetadataAnswer.{QtMetadataAnswer}
use Rattle.quaythistle.specs.declared.QtProved.{QtProved}
use Rattle.quaythistle.specs.declared.QtSaved.{QtSaved}
use Rattle.quaythistle.specs.Plain.{plain_verdict, plain_digest, shown_metadata}

abbrev pub shown_digested : Digested → QtDigested
shown_digested d = record { verdict = plain_verdict d.verdict; digest = plain_digest d.bytes }

abbrev pub shown_tagged : Tagged → QtDigested
shown_tagged t = record { verdict = plain_verdict t.verdict; digest = plain_digest t.tag }

abbrev pub shown_matched : Matched → QtMatched
shown_matched m = record { verdict = plain_verdict m.verdict; yes = m.yes }

abbrev pub shown_checked : Checked → QtMetadataAnswer
shown_checked c = record { verdict = plain_verdict c.verdict; metadata = shown_metadata c.metadata }

abbrev pub shown_loaded : Loaded → QtMetadataAnswer
shown_loaded l = record { verdict = plain_verdict l.verdict; metadata = shown_metadata l.metadata }

abbrev pub shown_proved : Proved → QtProved
shown_proved p = record { verdict = plain_verdict p.verdict; length = p.length; entries = p.entries }

abbrev pub shown_applied : Applied → QtCounted
shown_applied a = record { verdict = plain_verdict a.verdict; count = a.count }

abbrev pub shown_shaped : Shaped → QtCounted
shown_shaped s = record { verdict = plain_verdict s.verdict; count = s.blocks }

abbrev pub shown_saved : Saved → QtSaved
shown_saved s = record { verdict = plain_verdict s.verdict; bytes = s.bytes }

abbrev pub shown_answered : Answer → QtAnswer
shown_answered a = record { verdict = plain_verdict a.verdict; tag = plain_digest a.tag; metadata = shown_metadata a.metadata }

abbrev pub shown_answered_jointly : JointAnswer → QtJointAnswer
shown_answered_jointly a = record { verdict = plain_verdict a.verdict; number = a.number; tags = a.tags; metadata = shown_metadata a.metadata }
