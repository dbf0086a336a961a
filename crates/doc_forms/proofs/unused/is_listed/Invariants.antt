-- What each turn of the loops of `is_listed` keeps.
use Rattle.std.proofs.Common.{◌≡◌, drop}
use Rattle.doc_forms.specs.Forms.{is_listed}
use Rattle.doc_forms.proofs.Lists.{texts}
use Rattle.doc_forms.proofs.unused.is_listed.Given as goal

abbrev pub invariant-loop-other : goal.invariant-loop-other
invariant-loop-other l = is_listed (texts (drop l.other-index l.keys)) l.key ≡ is_listed (texts l.keys) l.key
