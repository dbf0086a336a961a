-- What the check of `only` leaves to show.
use Rattle.std.proofs.Common.{◌∙◌, sym, ap, rules}
use Rattle.doc_forms.specs.Forms.{is_listed}
use Rattle.doc_forms.proofs.Lists.{texts}
use Rattle.std.specs.Map.Iter.{deref_pair}
use Rattle.std.proofs.lemmas.Map.Iter.{rest_more, rest_all}
use Rattle.doc_forms.proofs.Others.{only_stops, only_goes_on, only_ended}
use Rattle.doc_forms.proofs.unused.only.Goals as goal

pub returns-then-not-is_listed : goal.returns-then-not-is_listed
returns-then-not-is_listed c =
    let more = rest_more deref_pair c.loop-key.key-iterator c.next.new.self c.next.result (c.in-Some.key, c.in-Some.field-0-1) c.in-Some.is c.next.ensures.steps in
    let other = sym (ap (is_listed (texts c.args.keys.now)) c.as_str.ensures.value) ∙ sym c.is_listed.ensures ∙ c.if-not-is_listed.true in
    rw (only_stops (texts c.args.keys.now) c.loop-key.key-iterator c.next.new.self (deref_pair (c.in-Some.key, c.in-Some.field-0-1)) _ more other c.loop-key.invariant) (search rules)

pub loop-key-preserved : goal.loop-key-preserved
loop-key-preserved c =
    let more = rest_more deref_pair c.loop-key.key-iterator c.next.new.self c.next.result (c.in-Some.key, c.in-Some.field-0-1) c.in-Some.is c.next.ensures.steps in
    only_goes_on (texts c.args.keys.now) c.loop-key.key-iterator c.next.new.self (deref_pair (c.in-Some.key, c.in-Some.field-0-1)) _ more (sym (ap (is_listed (texts c.args.keys.now)) c.as_str.ensures.value) ∙ sym c.is_listed.ensures ∙ c.if-not-is_listed.false) c.loop-key.invariant

pub returns : goal.returns
returns c = only_ended (texts c.args.keys.now) c.loop-key.key-iterator _ (rest_all deref_pair c.loop-key.key-iterator c.next.new.self c.next.result c.in-None.is c.next.ensures.steps) c.loop-key.invariant
