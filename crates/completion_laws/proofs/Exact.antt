-- How exact the premises are: where nobody is faulty they hold, and where faulty nodes are silent the staff is needed.
use Rattle.txn_types.specs.declared.event.Event.TheVariants as event
use Rattle.std.specs.Prelude.{ℕ, ◌==◌, cond, ◌<◌, ◌≤◌, ◌≡◌, Bool, true, false, ◌&&◌, not, List, [], ◌∷◌, ◌++◌, map, length, filter, count_by, get_or, Option, Some, None, is_some, refl, suc, zero}
use Rattle.std.specs.List.{All, AllByRecursion, list_all}
use Rattle.std.proofs.Common.{sym, ◌∙◌, ap, subst, arith}
use Rattle.std.proofs.lemmas.Bool.{and_from, false≢true}
use Rattle.std.proofs.lemmas.Option.{none-some}
use Rattle.std.proofs.lemmas.List.Elements.{recursion_from_All}
use Rattle.std.proofs.lemmas.List.Sums.{length-filter}
use Rattle.txn_types.specs.declared.block.Block.{Block}
use Rattle.txn_types.specs.declared.block.Body.{Body}
use Rattle.txn_types.specs.declared.event.Event.{Event}
use Rattle.txn_types.specs.declared.message.Node.{Node}
use Rattle.txn_types.specs.declared.message.Node.TheVariants.{Orderer, Peer}
use Rattle.txn_types.specs.declared.stream.Item.{Item}
use Rattle.txn_types.specs.declared.txn.Outcome.{Outcome}
use Rattle.txn_types.specs.declared.txn.Txn.{Txn}
use Rattle.oxii_defs.specs.Chain.{chain as agreed_chain, no_hash}
use Rattle.oxii_defs.specs.Lawful.{IsLawfulBody, IsLawfulTable}
use Rattle.oxii_defs.specs.Lines.{Entry}
use Rattle.oxii_defs.specs.State.{State, contains}
use Rattle.oxii_defs.specs.Table.{Table}
use Rattle.known_defs.specs.Known.{no_txn, txn_at}
use Rattle.node_defs.specs.Accepted.{accepted, accepted_after, tip}
use Rattle.node_defs.specs.Blocks.{block_at}
use Rattle.node_defs.specs.Ledger.{completed, is_agreed, ledger}
use Rattle.node_defs.specs.Log.{Letter, Log}
use Rattle.node_defs.specs.Position.{Work, agreed, standings}
use Rattle.node_defs.specs.Programs.{setting_of}
use Rattle.node_defs.specs.Rules.{Rules, agents_behind, in_force, tau_behind}
use Rattle.node_defs.specs.Serial.{IsNumbered, serial_ledger}
use Rattle.node_defs.specs.Tame.{IsTame, rules_at}
use Rattle.node_defs.specs.World.{IsWorld, Setting, World, count_from, is_faulty, log_of, orderers_of, peers_of, said_by, start}
use Rattle.node_defs.proofs.CountingLemmas.{count_by-cons}
use Rattle.node_laws.proofs.Agree.{Sound, accepted_right, ledger_right}
use Rattle.node_laws.proofs.AgreeSent.{all_at, hears_all}
use Rattle.node_laws.proofs.AgreeWorld.{numbered_from, premises, world_sound}
use Rattle.node_laws.proofs.Few.{IsTameAll, few_all, same_blocks}
use Rattle.completion_laws.specs.Needed.{IsSilent, NobodyFaulty, SilentCompletion, StaffIsNeeded}
use Rattle.completion_laws.specs.Staffed.{IsWellStaffed, honest_agents, is_honest_agent}
use Rattle.completion_laws.proofs.Delivered.{all_of_has}
use Rattle.completion_laws.proofs.Enough.{has_filter}
use Rattle.completion_laws.proofs.Fitted.{lawful_chain}
use Rattle.completion_laws.proofs.InForce.{at_txn, few_below, rising_distinct}
use Rattle.completion_laws.proofs.Law.{completes_with}
use Rattle.node_laws.proofs.Letters.{AllLetters, IsSaidBy, MaySay, SendsOnly, start_is, world_keeps}
use Rattle.completion_laws.proofs.Needs.{IsHonestLog, agreed_there, full_below, quorum_needed, votes_needed, was_agreed}
use Rattle.completion_laws.proofs.Orders.{any_default}
use Rattle.completion_laws.proofs.Sending.{work_behind}
use Rattle.completion_laws.proofs.Staffing.{has_from, has_member}

-- NOBODY IS FAULTY

count_none : {A : Type 0} (xs : List A) → count_by (λ (x : A). false) xs ≡ 0
count_none [] = refl
count_none (x ∷ xs) = count_none xs

count_all : {A : Type 0} (xs : List A) → count_by (λ (x : A). true) xs ≡ length xs
count_all [] = refl
count_all {A} (x ∷ xs) = omega (arith, count_all xs, count_by-cons (λ (y : A). true) x xs)

length_from : (i n : ℕ) → length (count_from i n) ≡ n
length_from i zero = refl
length_from i (suc n) = ap suc (length_from (suc i) n)

pub nobody_faulty : NobodyFaulty
nobody_faulty table genesis items bodies lawful fine =
    let s = setting_of table genesis items bodies [] in
    let chain = agreed_chain table bodies in
    let blocks = lawful_chain table 1 no_hash bodies (recursion_from_All (λ (b : Body). IsLawfulBody table b.txns b.config) bodies fine) in
    let at = at_txn table genesis lawful chain blocks in
    let tame : IsTame s = record {
      orderers = omega (arith, count_none (count_from 0 (orderers_of s)), lawful.quorum.0);
      agents = λ m j t d k.
          let a = at m t j k in
          let e : txn_at (block_at chain m).txns t ≡ get_or (block_at chain m).txns t d = any_default (block_at chain m).txns t no_txn d k in
          subst (λ (x : Txn). count_by (λ (p : ℕ). is_faulty s (Peer p)) ((rules_at s m).agents x.app) < (rules_at s m).tau x.app) e (omega (arith, count_none ((rules_at s m).agents (txn_at (block_at chain m).txns t).app), a.votes.0));
    } in
    let staffed : IsWellStaffed s = record {
      orderers = omega (arith, count_all (count_from 0 (orderers_of s)), length_from 0 (orderers_of s), lawful.quorum.1);
      agents = λ m j t d k.
          let a = at m t j k in
          let T = txn_at (block_at chain m).txns t in
          let e : T ≡ get_or (block_at chain m).txns t d = any_default (block_at chain m).txns t no_txn d k in
          let few = few_below (is_honest_agent s m T.app) ((rules_at s m).agents T.app) (peers_of s) (rising_distinct ((rules_at s m).agents T.app) a.rising) (recursion_from_All (λ p. p < peers_of s) ((rules_at s m).agents T.app) a.peers) (λ p i. i) in
          subst (λ (x : Txn). (rules_at s m).tau x.app ≤ honest_agents s m x.app) e (omega (arith, few, a.votes.1));
    } in
    (tame, staffed)

-- FAULTY NODES ARE SILENT

-- nobody says what it likes
none : Node → Bool
none x = false

silent_said : (es : List Event) → AllByRecursion IsSilent es → AllByRecursion (IsSaidBy none) es
silent_said [] a = tt
silent_said (event.Deliver m p ∷ es) a = (tt, silent_said es a.1)
silent_said (event.All ∷ es) a = (tt, silent_said es a.1)
silent_said (event.SayBlock from number prev items preds ∷ es) a = absurd a.0
silent_said (event.SayCommit from commit ∷ es) a = absurd a.0

silent_may : (P : Letter → Type 0) (es : List Event) → AllByRecursion IsSilent es → AllByRecursion (MaySay P) es
silent_may P [] a = tt
silent_may P (event.Deliver m p ∷ es) a = (tt, silent_may P es a.1)
silent_may P (event.All ∷ es) a = (tt, silent_may P es a.1)
silent_may P (event.SayBlock from number prev items preds ∷ es) a = absurd a.0
silent_may P (event.SayCommit from commit ∷ es) a = absurd a.0

-- so each message is of a node that isn't faulty
honest_world : (s : Setting) (es : List Event) (w : World) → AllByRecursion IsSilent es → IsWorld s es w → AllLetters (λ (e : Letter). is_faulty s e.from ≡ false) w
honest_world s es w silent led =
    let P : Letter → Type 0 = λ e. is_faulty s e.from ≡ false in
    let sends : SendsOnly s P = λ p L h a. all_of_has (λ c. P (said_by p c)) _ (λ c i. h) in
    world_keeps s P sends es (start s) w (silent_may P es silent) led (start_is s P (λ b o k e. e))

accepted_is : (rules : Rules) (chain : List Block) (m : ℕ) → IsTameAll rules chain none → IsNumbered chain → (d : List Entry) (L : Log) → Sound rules chain none L → (b : Block) → accepted_after rules m d L ≡ Some b → b ≡ block_at chain m
accepted_is rules chain m tame numbered d L s b h = one (length d == m) h
  where
    one : (c : Bool) → cond c (accepted rules (suc m) (tip rules d) L) None ≡ Some b → b ≡ block_at chain m
    one false k = absurd (none-some b k)
    one true k = (accepted_right (in_force rules (serial_ledger rules chain m)) chain none m (tame m).orderers numbered (tip rules d) L s b k).1

-- none of none is few
tame_none : (table : Table) (genesis : State) (items : List Item) (bodies : List Body) (faulty : List Node) → let s = setting_of table genesis items bodies faulty in IsLawfulTable table → All (λ body. IsLawfulBody table body.txns body.config) bodies → IsTameAll s.rules s.chain none
unfolding none
tame_none table genesis items bodies faulty lawful fine =
    let s = setting_of table genesis items bodies faulty in
    let chain = agreed_chain table bodies in
    let blocks = lawful_chain table 1 no_hash bodies (recursion_from_All (λ (b : Body). IsLawfulBody table b.txns b.config) bodies fine) in
    let at = at_txn table genesis lawful chain blocks in
    few_all s none (omega (arith, count_none (count_from 0 (orderers_of s)), lawful.quorum.0))
    (λ m j t d k.
    let a = at m t j k in
    let e : txn_at (block_at chain m).txns t ≡ get_or (block_at chain m).txns t d = any_default (block_at chain m).txns t no_txn d k in
    subst (λ (x : Txn). count_by (λ (q : ℕ). false) ((rules_at s m).agents x.app) < (rules_at s m).tau x.app) e (omega (arith, count_none ((rules_at s m).agents (txn_at (block_at chain m).txns t).app), a.votes.0)))

pub staff_is_needed : StaffIsNeeded
unfolding none
staff_is_needed table genesis items bodies faulty events w p lawful fine all_silent led few good some count =
    let s = setting_of table genesis items bodies faulty in
    let chain = agreed_chain table bodies in
    let silent = recursion_from_All IsSilent events all_silent in
    let blocks = lawful_chain table 1 no_hash bodies (recursion_from_All (λ (b : Body). IsLawfulBody table b.txns b.config) bodies fine) in
    let tame = tame_none table genesis items bodies faulty lawful fine in
    let h = premises table genesis items bodies faulty none tame in
    let sound = world_sound s none h events w (silent_said events silent) led in
    let L = log_of w p in
    let good_log = all_at (Sound s.rules chain none) w.logs p [] tt sound.logs in
    let honest_log : IsHonestLog (is_faulty s) L = all_at (IsHonestLog (is_faulty s)) w.logs p [] tt (honest_world s events w silent led).logs in
    let hears = hears_all s.rules h.local chain none tame h.numbered p L good_log in
    let total : length (ledger s.rules p L) ≡ length chain = ap length (sym (ap (ledger s.rules p) hears)) ∙ count in
    let full : (m : ℕ) → m ≤ length chain → length (completed s.rules p m L) ≡ m = λ m k. full_below s.rules p L (length L) (length chain) (omega (arith, total)) m k in
    let serial : (m : ℕ) → m ≤ length chain → completed s.rules p m L ≡ serial_ledger s.rules chain m = λ m k. (ledger_right s.rules h.local chain none tame h.numbered p m L good_log).0 ∙ ap (serial_ledger s.rules chain) (full m k) in
    let first = was_agreed s.rules p 0 L (full 0 (omega arith)) (full 1 (omega (arith, some))) in
    let orderers : List ℕ = filter (λ o. not (is_faulty s (Orderer o))) (count_from 0 (orderers_of s)) in
    record {
      orderers = omega (
        arith,
        length-filter (λ o. not (is_faulty s (Orderer o))) (count_from 0 (orderers_of s)),
        quorum_needed s.rules (is_faulty s) 1 no_hash L first.0 orderers honest_log first.1
            (λ o i. has_member orderers o (has_filter (λ q. not (is_faulty s (Orderer q))) (count_from 0 (orderers_of s)) o (has_from 0 (orderers_of s) o o (omega arith) i.0) (ap not i.1))),
      );
      agents = λ m j t d k. agents_at table genesis items bodies faulty p L few good honest_log m j (full m (omega (arith, j))) (full (suc m) (omega (arith, j))) (serial m (omega (arith, j))) good_log tame t d k;
    }
  where
    agents_at : (table : Table) (genesis : State) (items : List Item) (bodies : List Body) (faulty : List Node) (p : ℕ) (L : Log) →
        let s = setting_of table genesis items bodies faulty in
        p < peers_of s → is_faulty s (Peer p) ≡ false → IsHonestLog (is_faulty s) L → (m : ℕ) → m < length s.chain → length (completed s.rules p m L) ≡ m → length (completed s.rules p (suc m) L) ≡ suc m →
        completed s.rules p m L ≡ serial_ledger s.rules s.chain m → Sound s.rules s.chain none L → IsTameAll s.rules s.chain none →
        (t : ℕ) (d : Txn) → t < length (block_at s.chain m).txns → (rules_at s m).tau (get_or (block_at s.chain m).txns t d).app ≤ honest_agents s m (get_or (block_at s.chain m).txns t d).app
    agents_at table genesis items bodies faulty p L few good honest_log m j now next serial sound tame t d k =
        let s = setting_of table genesis items bodies faulty in
        let chain = agreed_chain table bodies in
        let b = block_at chain m in
        let T = txn_at b.txns t in
        let was = was_agreed s.rules p m L now next in
        let same : was.0 ≡ b = accepted_is s.rules chain m tame (λ i q. numbered_from table bodies 1 no_hash i q ∙ omega arith) (completed s.rules p m L) L sound was.0 was.1 in
        let P : Block → List Entry → Type 0 = λ c ds. list_all is_agreed (standings (in_force s.rules ds) (work_behind s.rules p m ds c) (length c.txns) L) ≡ true in
        let all : P b (serial_ledger s.rules chain m) = subst (λ c. P c (serial_ledger s.rules chain m)) same (subst (λ ds. P was.0 ds) serial was.2) in
        let r = in_force s.rules (serial_ledger s.rules chain m) in
        let w = work_behind s.rules p m (serial_ledger s.rules chain m) b in
        let Q : List Block → Type 0 = λ bs. tau_behind s.rules bs T.app ≤ count_by (λ q. not (is_faulty s (Peer q)) && contains (agents_behind s.rules bs T.app) q) (count_from 0 (peers_of s)) in
        let here : Q (map (λ (e : Entry). e.block) (serial_ledger s.rules chain m)) = voted s r w t L few good honest_log (agreed r w t (standings r w t) L) refl (agreed_there r w L (length b.txns) t k all) in
        let e : T ≡ get_or b.txns t d = any_default b.txns t no_txn d k in
        subst (λ (x : Txn). (rules_at s m).tau x.app ≤ honest_agents s m x.app) e (subst Q (same_blocks s.rules chain m) here)
      where
        voted : (s : Setting) (r : Rules) (w : Work) (t : ℕ) (L : Log) → w.me < length r.table.peers → is_faulty s (Peer w.me) ≡ false → IsHonestLog (is_faulty s) L → (o : Option Outcome) → agreed r w t (standings r w t) L ≡ o → is_some (agreed r w t (standings r w t) L) ≡ true →
            r.tau (txn_at w.txns t).app ≤ count_by (λ q. not (is_faulty s (Peer q)) && contains (r.agents (txn_at w.txns t).app) q) (count_from 0 (length r.table.peers))
        voted s r w t L few good honest None e i = absurd (false≢true (sym (ap is_some e) ∙ i))
        voted s r w t L few good honest (Some o) e i =
            let app = (txn_at w.txns t).app in
            let f : ℕ → Bool = λ q. not (is_faulty s (Peer q)) && contains (r.agents app) q in
            let nodes = filter f (count_from 0 (length r.table.peers)) in
            omega (
              arith,
              length-filter f (count_from 0 (length r.table.peers)),
              votes_needed r (is_faulty s) w t (standings r w t) L o nodes (few, good) honest e
                  (λ q h a. has_member nodes q (has_filter f (count_from 0 (length r.table.peers)) q (has_from 0 (length r.table.peers) q q (omega arith) h.0) (and_from (not (is_faulty s (Peer q))) (contains (r.agents app) q) (ap not h.1) a))),
            )

pub silent_completion : SilentCompletion
unfolding none
silent_completion table genesis items bodies faulty before after w p lawful state fine all_silent led few good some =
    let s = setting_of table genesis items bodies faulty in
    let es = before ++ event.All ∷ after in
    let tame = tame_none table genesis items bodies faulty lawful fine in
    let said = silent_said es (recursion_from_All IsSilent es all_silent) in (
      staff_is_needed table genesis items bodies faulty es w p lawful fine all_silent led few good some,
      λ staffed. (completes_with table genesis items bodies faulty before after w p none (λ x f. refl) tame said lawful state fine staffed led few good).count,
    )
