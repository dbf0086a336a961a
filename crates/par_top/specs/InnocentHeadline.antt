-- Nobody innocent is named in evidence.
use Rattle.std.specs.Prelude.{◌≡◌, ◌<◌, ℕ, Bool, false, List, ◌++◌, Option}
use Rattle.std.specs.Io.KnownBytes.{Appends}
use Rattle.par_io.specs.Reading.{ReadWhole}
use Rattle.txn_types.specs.declared.message.Node.TheVariants.{Peer}
use Rattle.node_defs.specs.World.{is_faulty, peers_of}
use Rattle.evidence_laws.specs.Innocent.{AreNoneInnocent}
use Rattle.input_doc.specs.Inputs.{Input}
use Rattle.input_doc.specs.Means.{Means}
use Rattle.command_text.specs.Commands.{IsWorldText}
use Rattle.command_text.specs.Evident.{HasEvidenceLines}
use Rattle.command_text.specs.Traced.{IsTraceText}
use Rattle.par_top.specs.Headline.{document_limit}

-- the source was read to its end, what it had means an input, and what was written is the text of its world, after it the evidence of the log of each peer that isn't faulty, and after that what is traced. No mark of that evidence names a node that the document doesn't name faulty
pub record IsInnocentHeadline (workers : ℕ) (traced : Bool) (rest_old rest_new written_old written_new : Option (List ℕ)) : Type 0 where
  pub bytes : List ℕ
  pub input : Input
  pub text : List ℕ
  pub evidence : List ℕ
  pub trace : List ℕ
  pub read : ReadWhole rest_old rest_new document_limit bytes
  pub means : Means bytes input
  pub written : Appends written_old written_new (text ++ evidence ++ trace)
  pub world : IsWorldText input text
  pub seen : HasEvidenceLines input evidence
  pub bursts : IsTraceText traced workers input trace
  pub innocent : (p : ℕ) → p < peers_of seen.setting → is_faulty seen.setting (Peer p) ≡ false → AreNoneInnocent seen.setting (seen.lines_are.orderers p) (seen.lines_are.agents p)
