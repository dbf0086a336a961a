-- What the check of `Peer::new` leaves to show.
use Rattle.std.specs.Prelude.{◌≡◌, ◌≤◌, ℕ, List, [], length, None, refl}
use Rattle.std.proofs.Common.{sym, ◌∙◌, ap, subst, arith}
use Rattle.txn_core.specs.declared.table.Table.{Table}
use Rattle.txn_core.specs.MeantTable.{table_of}
use Rattle.txn_core.specs.States.{state_of}
use Rattle.node_defs.specs.Rules.{Rules}
use Rattle.node_defs.specs.Programs.{rules_of}
use Rattle.node_defs.specs.World.{count_from}
use Rattle.vote_book.specs.Puts as casts
use Rattle.hash_ledger.specs.declared.entry.Entry.{Entry}
use Rattle.peer_parts.specs.declared.force.Seats.{Seats}
use Rattle.peer_turns.specs.Relation.{StandsFor}
use Rattle.peer_core.proofs.Starting.{started}
use Rattle.peer_core.proofs.peer.Peer.new.Goals as goal

pub returns-clause-stands : goal.returns-clause-stands
returns-clause-stands c =
    let t : Table = c.args.table.now in
    let me : ℕ = c.args.me in
    let i = c.in_ok-inbox.inbox in
    let b = c.in_ok-book.book in
    let st = c.in_ok-state.state in
    let lawful = c.requires.lawful.orderers in
    let rules : Rules = rules_of (table_of t) (state_of st) in
    let few : length t.orderers ≤ 16 = lawful.1 in
    let same : length c.as_slice.result.now ≡ length t.orderers = ap length c.as_slice.ensures in
    let inbox_stands = c.in_ok-inbox.ensures.stands rules (omega (arith, few, same)) refl refl in
    let base = started t me i b st c.requires.me inbox_stands (subst (λ (vs : List ℕ). casts.BookStandsFor b vs []) (c.all_peers-voters.ensures ∙ ap (count_from 0) (ap length c.as_slice-2.ensures)) c.in_ok-book.ensures) in
    let forced = subst (λ (f : List Seats). StandsFor (record { table = t; me = me; inbox = i; book = b; ledger = []; state = st; force = f; work = None; halted = None }) (state_of st) []) (sym c.in_ok-force.ensures) base in
    let led = subst (λ (l : List Entry). StandsFor (record { table = t; me = me; inbox = i; book = b; ledger = l; state = st; force = c.in_ok-force.force; work = None; halted = None }) (state_of st) []) (sym c.new-4.ensures) forced in
    subst (λ (g : List ℕ). StandsFor (record { table = t; me = me; inbox = i; book = b; ledger = c.new-4.result; state = st; force = c.in_ok-force.force; work = None; halted = None }) (state_of g) []) c.in_ok-state.ensures led
