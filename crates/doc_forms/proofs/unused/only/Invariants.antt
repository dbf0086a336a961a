-- What each turn of the loops of `only` keeps.
use Rattle.std.proofs.Common.{◌≡◌, map}
use Rattle.serde_json.specs.View.{members_view}
use Rattle.doc_forms.specs.Forms.{only}
use Rattle.doc_forms.proofs.unused.only.Given as goal

-- the members that are left are as good as all
abbrev pub invariant-loop-key : goal.invariant-loop-key
invariant-loop-key l = only (map (λ k. k.now) l.keys) (members_view l.key-iterator) ≡ only (map (λ k. k.now) l.keys) (members_view l.members.entries)
