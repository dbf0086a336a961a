-- What the check of `merge` leaves to show.
use Rattle.std.proofs.Common.{◌≡◌, ◌<◌, List, Option, None, length, get_or, ◌∙◌, ap, arith}
use Rattle.std.proofs.lemmas.List.{get_or_default}
use Rattle.txn_types.specs.declared.txn.Outcome.{Outcome}
use Rattle.peer_parts.proofs.LearnLemmas.{merged_none, merged_more, merged_all}
use Rattle.peer_parts.proofs.runs.merge.Goals as goal

pub loop-t-init : goal.loop-t-init
loop-t-init c = merged_none c.args.known.now c.args.ran.now

pub loop-t-preserved : goal.loop-t-preserved
loop-t-preserved c =
    let xs = c.loop-t.known in
    let t = c.loop-t.t in
    let ran = c.args.ran.now in
    let l : t < length ran = omega (arith, c.len-t-end.ensures) in
    let lx : t < length xs = omega (arith, l, c.loop-t.invariant.long, c.requires.long) in
    let y = c.copy_of-found.result in
    let found : y ≡ get_or ran t None = c.copy_of-found.ensures ∙ (c.index-as_slice-t.is ∙ (ap (λ (ys : List (Option Outcome)). get_or ys t c.index-as_slice-t.result) c.as_slice.ensures ∙ get_or_default ran t c.index-as_slice-t.result None l)) in
    merged_more c.args.known.now ran xs c.learn.new.known t y lx found c.learn.ensures c.loop-t.invariant

pub returns-clause-merged : goal.returns-clause-merged
returns-clause-merged c = merged_all c.args.known.now c.args.ran.now c.loop-t.known c.loop-t.t c.loop-t.invariant (omega (arith, c.len-t-end.ensures)) c.requires.long
