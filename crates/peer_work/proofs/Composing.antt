-- The calls on the block in work, put together.
use Rattle.std.specs.Prelude.{ℕ, ◌≡◌, ◌<◌, ◌≤◌, List, [], ◌∷◌, length, get_or, slice_get, option_and_then, Option, Some, None, true, zero, suc, refl}
use Rattle.std.specs.List.{All}
use Rattle.std.proofs.Common.{sym, ◌∙◌, ap, subst, arith, ⊎_elim}
use Rattle.std.proofs.lemmas.Bool.{cases_lt}
use Rattle.std.proofs.lemmas.Option.{none-some, slice_get_past}
use Rattle.std.proofs.lemmas.List.Elements.{All-get_or}
use Rattle.txn_types.specs.declared.txn.Outcome.{Outcome}
use Rattle.txn_types.specs.declared.txn.Txn.{Txn}
use Rattle.txn_types.specs.declared.block.Block.{Block}
use Rattle.txn_types.specs.declared.block.Config.{Config}
use Rattle.txn_types.specs.declared.message.Commit.{Commit}
use Rattle.oxii_defs.specs.State.{State, contains}
use Rattle.oxii_defs.specs.Table.{Table, App}
use Rattle.oxii_defs.specs.Lawful.{IsLawfulTxn, IsLawfulBody, IsLawfulBlock}
use Rattle.known_defs.specs.Known.{txn_at, no_txn}
use Rattle.node_defs.specs.Rules.{Rules, in_force_behind}
use Rattle.node_defs.specs.Programs.{rules_of}
use Rattle.board_defs.specs.Closure.{Plan}
use Rattle.node_laws.proofs.LawfulBlockLemmas.{block_txns}
use Rattle.vote_book.specs.Ballots.{KeptVotes}
use Rattle.vote_book.specs.Puts.{Cast, BookStandsFor, cast_on}
use Rattle.peer_laws.specs.Turns.{found_upto, votes_found, VotesPut, Cut}
use Rattle.peer_parts.specs.Found.{found_by, IsSound}
use Rattle.peer_parts.specs.Voting.{own_upto}
use Rattle.peer_parts.specs.Owning.{IsOwn}
use Rattle.peer_parts.specs.Judging.{AppsFit, AreAgreedBy}
use Rattle.peer_parts.proofs.Bridges.{found_same}
use Rattle.peer_parts.proofs.VotingLemmas.{votes_put}
use Rattle.peer_work.specs.declared.opened.Opened.{Opened}
use Rattle.peer_work.specs.Openings.{IsFound, IsFoundAs, WorkDone}

app_in : (table : Table) (t : Txn) → IsLawfulTxn table t → t.app < length table.apps
app_in table t lawful = ⊎_elim (λ l. l) (λ past. absurd (none-some lawful.op (sym (ap (option_and_then (λ (a : App). slice_get a.ops t.op)) (slice_get_past table.apps t.app past)) ∙ lawful.named))) (cases_lt t.app (length table.apps))

-- the applications of a lawful block exist
pub apps_fit : (table : Table) (b : Block) (apps : ℕ) → IsLawfulBlock table b → apps ≡ length table.apps → AppsFit b.txns apps
apps_fit table b apps h e t l = subst (λ n. (txn_at b.txns t).app < n) (sym e) (app_in table (txn_at b.txns t) (All-get_or (IsLawfulTxn table) b.txns t no_txn l (block_txns table b h)))

-- the clauses of agreed_of and settle give what is found
pub finds : (table : Table) (genesis : State) (behind : List Block) (me n : ℕ) (voters : List ℕ) (puts : List Cast) (plan : Plan) (old : Opened) (known agreed : List (Option Outcome))
    → let r = in_force_behind (rules_of table genesis) behind in
    plan.table ≡ table → plan.txns ≡ old.block.txns → plan.own ≡ old.own → IsOwn r me old.block.txns old.own → AreAgreedBy r n old.block.txns voters puts agreed
    → IsFound r me n voters puts plan.base old
    → (IsSound plan agreed old.known → known ≡ found_by plan agreed (length old.block.txns))
    → IsFoundAs r me n voters puts plan.base old known
finds table genesis behind me n voters puts plan old known agreed same txns owns own ag isf settle = settle sound ∙ here
  where
    r : Rules
    r = in_force_behind (rules_of table genesis) behind

    V : ℕ → Option Outcome
    V = votes_found r old.block n (λ k u. cast_on voters k u puts)

    all : (k : ℕ) → k ≤ length plan.txns → found_by plan agreed k ≡ found_upto r me plan.txns plan.base V k
    all k l = found_same table genesis behind me plan agreed V same (subst (λ ts. IsOwn r me ts plan.own) (sym txns) (subst (IsOwn r me old.block.txns) (sym owns) own)) (λ t lt. ag t (subst (λ (ts : List Txn). t < length ts) txns lt)) k l

    here : found_by plan agreed (length old.block.txns) ≡ found_upto r me old.block.txns plan.base V (length old.block.txns)
    here = subst (λ ts. found_by plan agreed (length old.block.txns) ≡ found_upto r me ts plan.base V (length old.block.txns)) txns (all (length old.block.txns) (omega (arith, ap (λ (ts : List Txn). length ts) txns)))

    sound : IsSound plan agreed old.known
    sound = λ t o k. ap (λ i. get_or (found_by plan agreed i) t None) (ap (λ (ts : List Txn). length ts) txns) ∙ (ap (λ (xs : List (Option Outcome)). get_or xs t None) here ∙ isf t o k)

-- with those of vote and hold, what is done
pub works : (r : Rules) (me n : ℕ) (voters : List ℕ) (puts : List Cast) (base : State) (old new : Opened) (book : KeptVotes) (sent0 sent2 : List Commit) (agreed2 : List (Option Outcome))
    → length old.own ≡ length old.block.txns → contains voters me ≡ true → IsOwn r me old.block.txns old.own
    → IsFoundAs r me n voters puts base old new.known
    → BookStandsFor book voters (own_upto me n old.own old.known new.known (length old.own) puts)
    → Cut r me n old.block old.known new.known old.held.votes new.held.votes sent0 sent2
    → ((puts2 : List Cast) → BookStandsFor book voters puts2 → AreAgreedBy r n old.block.txns voters puts2 agreed2)
    → WorkDone r me n voters puts base old new book sent0 sent2 agreed2
works r me n voters puts base old new book sent0 sent2 agreed2 long h own found stands cut again = record {
  more = own_upto me n old.own old.known new.known (length old.own) puts;
  stands = stands;
  known = found;
  votes = subst (λ k. VotesPut r me old.block n old.known new.known (λ i u. cast_on voters i u puts) (λ i u. cast_on voters i u (own_upto me n old.own old.known new.known k puts))) (sym long)
      (votes_put r voters me n old.block old.own old.known new.known puts h own);
  cut = cut;
  agreed_are = again (own_upto me n old.own old.known new.known (length old.own) puts) stands;
}
