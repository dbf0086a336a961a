-- The law of completion, from what `all` leaves.
use Rattle.std.specs.Prelude.{ℕ, ◌<◌, ◌≤◌, ◌≡◌, ◌||◌, Bool, true, false, cond, List, [], ◌∷◌, ◌++◌, length, get_or, Option, Some, None, refl, suc, zero}
use Rattle.txn_types.specs.declared.message.Node.{Node}
use Rattle.txn_types.specs.declared.stream.Item.{Item}
use Rattle.completion_laws.specs.Staffed.{IsWellStaffed}
use Rattle.std.specs.List.{All, AllByRecursion}
use Rattle.std.proofs.Common.{sym, ◌∙◌, ap, subst, arith, inl, inr, append_assoc}
use Rattle.std.proofs.lemmas.Bool.{or_from, true≢false}
use Rattle.std.proofs.lemmas.List.{length-append}
use Rattle.std.proofs.lemmas.List.Elements.{recursion_from_All}
use Rattle.std.proofs.lemmas.Option.{none-some, same_Some}
use Rattle.txn_types.specs.declared.block.Block.{Block}
use Rattle.txn_types.specs.declared.block.Body.{Body}
use Rattle.txn_types.specs.declared.event.Event.{Event}
use Rattle.txn_types.specs.declared.event.Event.TheVariants as event
use Rattle.txn_types.specs.declared.message.Node.TheVariants.{Orderer, Peer}
use Rattle.oxii_defs.specs.BlockBytes.{block_hash}
use Rattle.oxii_defs.specs.Chain.{chain as agreed_chain, chain_from, no_hash}
use Rattle.oxii_defs.specs.Lawful.{IsLawfulBody, IsLawfulTable}
use Rattle.oxii_defs.specs.State.{IsState, State}
use Rattle.oxii_defs.specs.Table.{Table}
use Rattle.node_defs.specs.Accepted.{tip}
use Rattle.node_defs.specs.Blocks.{block_at}
use Rattle.node_defs.specs.Ledger.{heard, ledger}
use Rattle.node_defs.specs.LawfulEvents.{IsSaidByFaulty}
use Rattle.node_defs.specs.Log.{Letter, Log}
use Rattle.node_defs.specs.Programs.{rules_of, setting_of}
use Rattle.node_defs.specs.Serial.{serial_ledger}
use Rattle.node_defs.specs.World.{IsWorld, LeadTo, Setting, World, all_from, count_from, delivered, first_pool, given_all, given_each, given_to, happens, idled, is_faulty, log_of, message_at, newblock_of, newblocks_of, orderers_of, peers_of, start}
use Rattle.node_laws.specs.Growth.{Grew}
use Rattle.node_laws.proofs.Agree.{Sound, ledger_right, length_serial_ledger}
use Rattle.node_laws.proofs.AgreeSent.{all_at, hears_all}
use Rattle.node_laws.proofs.AgreeWorld.{premises, world_sound}
use Rattle.node_laws.proofs.Letters.{IsSaidBy, IsSoundWorld, MaySay, Premises, happens_keeps, may_say, said_by_the_faulty, sends_sound, start_sound}
use Rattle.node_laws.specs.Agreement.{IsSound}
use Rattle.completion_laws.proofs.Running.{IsAmong}
use Rattle.completion_laws.specs.CalmLaws.{CalmCompletion}
use Rattle.completion_laws.specs.Calm.{has_said, is_said_by}
use Rattle.node_defs.specs.Same.{same_node}
use Rattle.node_defs.proofs.SameLemmas.{same_node_decides}
use Rattle.node_laws.specs.Fed.{Has}
use Rattle.node_laws.proofs.Same.{or_true}
use Rattle.node_laws.proofs.Few.{IsTameAll, few_all, tame_all}
use Rattle.node_laws.proofs.GrowthLaw.{stays}
use Rattle.completion_laws.specs.Completion.{Completion, DeliveredCompletion, HasAll}
use Rattle.completion_laws.proofs.Completing.{IsStaffed, IsThere, completes}
use Rattle.completion_laws.proofs.Delivered.{IsAll, IsPooled, all_given, at_set, contains_has, happens_pooled, has_contains, has_left, has_right, led_pooled, start_pooled}
use Rattle.completion_laws.proofs.Fitted.{all_fit, lawful_chain}
use Rattle.completion_laws.proofs.Staffing.{has_agents, has_from, has_orderers}

-- LOGS GROW

grew_longer : {A : Type 0} (xs ys : List A) → Grew xs ys → length xs ≤ length ys
grew_longer xs ys g = omega (arith, ap length g.is, length-append g.new xs)

abbrev LogsGrew : World → World → Type 0
LogsGrew w u = (q : ℕ) → Grew (log_of w q) (log_of u q)

grew_itself : (w : World) → LogsGrew w w
grew_itself w q = record { new = []; is = refl }

grew_on : (w v u : World) → LogsGrew w v → LogsGrew v u → LogsGrew w u
grew_on w v u a b q = record { new = (b q).new ++ (a q).new; is = (b q).is ∙ (ap (λ (xs : Log). (b q).new ++ xs) (a q).is ∙ sym (append_assoc (b q).new (a q).new (log_of w q))) }

given_grew : (s : Setting) (w : World) (p : ℕ) (x : Letter) → LogsGrew w (given_to s w p x)
given_grew s w p x q = at_set (λ j L. Grew (get_or w.logs j []) L) w.logs p (x ∷ get_or w.logs p []) (λ j. record { new = []; is = refl }) (record { new = x ∷ []; is = refl }) q

each_grew : (s : Setting) (x : Letter) (ps : List ℕ) (w : World) → LogsGrew w (given_each s x ps w)
each_grew s x [] w = grew_itself w
each_grew s x (p ∷ ps) w = one (is_faulty s (Peer p)) (λ v. each_grew s x ps v)
  where
    one : (b : Bool) → ((v : World) → LogsGrew v (given_each s x ps v)) → LogsGrew w (given_each s x ps (cond b w (given_to s w p x)))
    one true more = more w
    one false more = grew_on w (given_to s w p x) (given_each s x ps (given_to s w p x)) (given_grew s w p x) (more (given_to s w p x))

all_grew : (s : Setting) (turns m : ℕ) (w u : World) → all_from s turns m w ≡ Some u → LogsGrew w u
all_grew s zero m w u e = go (message_at w m) e
  where
    go : (o : Option Letter) → elim o [ None ↦ Some w | Some x ↦ None ] ≡ Some u → LogsGrew w u
    go None h = subst (LogsGrew w) (same_Some w u h) (grew_itself w)
    go (Some x) h = absurd (none-some u h)
all_grew s (suc turns) m w u e = go (message_at w m) e (λ v h. all_grew s turns (suc m) v u h)
  where
    go : (o : Option Letter) → elim o [ None ↦ Some w | Some x ↦ all_from s turns (suc m) (given_all s x w) ] ≡ Some u → ((v : World) → all_from s turns (suc m) v ≡ Some u → LogsGrew v u) → LogsGrew w u
    go None h more = subst (LogsGrew w) (same_Some w u h) (grew_itself w)
    go (Some x) h more = grew_on w (given_all s x w) u (each_grew s x (count_from 0 (peers_of s)) w) (more (given_all s x w) h)

happens_grew : (s : Setting) (turns : ℕ) (w u : World) (e : Event) → happens s turns w e ≡ Some u → LogsGrew w u
happens_grew s turns w u event.All q = all_grew s turns 1 w u q
happens_grew s turns w u (event.SayBlock from number prev items preds) q = subst (LogsGrew w) (same_Some _ u q) (λ j. record { new = []; is = refl })
happens_grew s turns w u (event.SayCommit from commit) q = subst (LogsGrew w) (same_Some _ u q) (λ j. record { new = []; is = refl })
happens_grew s turns w u (event.Deliver m p) q = subst (LogsGrew w) (same_Some _ u q) (one (message_at w m))
  where
    one : (o : Option Letter) → LogsGrew w (delivered s w p o)
    one None = λ j. record { new = []; is = refl }
    one (Some x) = elim (is_faulty s (Peer p)) as (λ b. LogsGrew w (cond b (idled w) (given_to s w p x))) [ true ↦ (λ j. record { new = []; is = refl }) | false ↦ given_grew s w p x ]

led_grew : (s : Setting) (es : List Event) (w u : World) → LeadTo s w es u → LogsGrew w u
led_grew s [] w u e = subst (LogsGrew w) (sym e) (grew_itself w)
led_grew s (x ∷ es) w u (v, h, r) = grew_on w v u (happens_grew s h.0 w v x h.1) (led_grew s es v u r)

-- THE WORLD BEHIND THE `all`

-- a world in which all was given, sound, and no more than what came later
record IsMidway (s : Setting) (liar : Node → Bool) (w u : World) : Type 0 where
  mid : World
  all : IsAll s mid
  sound : IsSoundWorld s liar mid
  grew : LogsGrew mid u

midway : (s : Setting) (liar : Node → Bool) → Premises s liar → (es after : List Event) (w u : World) → AllByRecursion (MaySay (IsSound s.rules s.chain liar)) (es ++ event.All ∷ after) → LeadTo s w (es ++ event.All ∷ after) u → IsPooled s w → IsSoundWorld s liar w → IsMidway s liar w u
midway s liar h [] after w u f (v, e, r) a ok = record {
  mid = v;
  all = all_given s e.0 0 w v e.1 a (record { front = []; rest = w.pool; pool = refl; count = refl; given = tt });
  sound = happens_keeps s (IsSound s.rules s.chain liar) (sends_sound s liar h) e.0 w v event.All f.0 e.1 ok;
  grew = led_grew s after v u r;
}
midway s liar h (x ∷ es) after w u f (v, e, r) a ok =
    let m = midway s liar h es after v u f.1 r (happens_pooled s e.0 w v x e.1 a) (happens_keeps s (IsSound s.rules s.chain liar) (sends_sound s liar h) e.0 w v x f.0 e.1 ok) in
    record { mid = m.mid; all = m.all; sound = m.sound; grew = m.grew }

-- THE START

newblocks_have : (s : Setting) (b : Block) (os : List ℕ) (o : ℕ) → Has o os → is_faulty s (Orderer o) ≡ false → Has (newblock_of s b o) (newblocks_of s b os)
newblocks_have s b [] o h f = absurd h
newblocks_have s b (x ∷ os) o (inl e) f = one (is_faulty s (Orderer x)) (ap (λ j. is_faulty s (Orderer j)) (sym e) ∙ f)
  where
    one : (c : Bool) → c ≡ false → Has (newblock_of s b o) (cond c (newblocks_of s b os) (newblock_of s b x ∷ newblocks_of s b os))
    one true q = absurd (true≢false q)
    one false q = inl (ap (newblock_of s b) e)
newblocks_have s b (x ∷ os) o (inr e) f = one (is_faulty s (Orderer x)) (newblocks_have s b os o e f)
  where
    one : (c : Bool) → Has (newblock_of s b o) (newblocks_of s b os) → Has (newblock_of s b o) (cond c (newblocks_of s b os) (newblock_of s b x ∷ newblocks_of s b os))
    one true q = q
    one false q = inr q

pool_has : (s : Setting) (bs : List Block) (m : ℕ) → m < length bs → (o : ℕ) → o < orderers_of s → is_faulty s (Orderer o) ≡ false → Has (newblock_of s (block_at bs m) o) (first_pool s bs)
pool_has s [] m j o k f = absurd (omega arith)
pool_has s (b ∷ bs) zero j o k f = has_left (newblocks_of s b (count_from 0 (orderers_of s))) (first_pool s bs) (newblock_of s b o) (newblocks_have s b (count_from 0 (orderers_of s)) o (has_from 0 (orderers_of s) o o (omega arith) k) f)
pool_has s (b ∷ bs) (suc m) j o k f = has_right (newblocks_of s b (count_from 0 (orderers_of s))) (first_pool s bs) (newblock_of s (block_at bs m) o) (pool_has s bs m (omega arith) o k f)

-- THE CHAIN

first_prev : (table : Table) (n : ℕ) (prev : List ℕ) (bodies : List Body) → 0 < length (chain_from table n prev bodies) → (block_at (chain_from table n prev bodies) 0).prev ≡ prev
first_prev table n prev [] h = absurd (omega arith)
first_prev table n prev (b ∷ bodies) h = refl

next_prev : (table : Table) (n : ℕ) (prev : List ℕ) (bodies : List Body) (m : ℕ) → suc m < length (chain_from table n prev bodies) → (block_at (chain_from table n prev bodies) (suc m)).prev ≡ block_hash table (block_at (chain_from table n prev bodies) m)
next_prev table n prev [] m h = absurd (omega arith)
next_prev table n prev (b ∷ bodies) zero h = first_prev table (suc n) (block_hash table (record { number = n; prev = prev; txns = b.txns; config = b.config })) bodies (omega arith)
next_prev table n prev (b ∷ bodies) (suc m) h = next_prev table (suc n) (block_hash table (record { number = n; prev = prev; txns = b.txns; config = b.config })) bodies m (omega arith)

linked : (table : Table) (genesis : State) (bodies : List Body) (m : ℕ) → m < length (agreed_chain table bodies) → (block_at (agreed_chain table bodies) m).prev ≡ tip (rules_of table genesis) (serial_ledger (rules_of table genesis) (agreed_chain table bodies) m)
linked table genesis bodies zero h = first_prev table 1 no_hash bodies h
linked table genesis bodies (suc m) h = next_prev table 1 no_hash bodies m h

-- THE LAW

-- a world in which nothing is under way has the whole ledger
whole_there : (table : Table) (genesis : State) (items : List Item) (bodies : List Body) (faulty : List Node) (w : World) (p : ℕ) (liar : Node → Bool) →
    let s = setting_of table genesis items bodies faulty in
    IsAmong (is_faulty s) liar → IsTameAll s.rules s.chain liar → IsAll s w → IsSoundWorld s liar w →
    IsLawfulTable table → IsState genesis → All (λ body. IsLawfulBody table body.txns body.config) bodies →
    IsWellStaffed s → p < peers_of s → is_faulty s (Peer p) ≡ false → ledger s.rules p (log_of w p) ≡ serial_ledger s.rules s.chain (length s.chain)
whole_there table genesis items bodies faulty w p liar among tame all sound lawful state fine staffed few good =
    let s = setting_of table genesis items bodies faulty in
    let chain = agreed_chain table bodies in
    let h = premises table genesis items bodies faulty liar tame in
    let blocks = lawful_chain table 1 no_hash bodies (recursion_from_All (λ (b : Body). IsLawfulBody table b.txns b.config) bodies fine) in
    let staff : IsStaffed s.rules chain (is_faulty s) = record {
      linked = linked table genesis bodies;
      orderers = has_orderers s staffed;
      agents = λ k t i j. has_agents s staffed k t i j;
      fits = λ k t i j. all_fit table lawful genesis state chain blocks k t i j;
    } in
    let there : IsThere s.rules chain liar (is_faulty s) w.pool (log_of w) = record {
      sound = λ q g. all_at (Sound s.rules chain liar) w.logs q [] tt sound.logs;
      given = λ q g x i. all.given x i q g.0 g.1;
      sent = λ q g. all.pooled.sent q;
      said = λ k i o j f. all.pooled.first (newblock_of s (block_at chain k) o) (pool_has s chain k i o j f);
    } in
    completes s.rules h.local chain liar (is_faulty s) among h.tame h.numbered staff w.pool (log_of w) there p (few, good)

-- with few of these nodes that may say what they like, all of them faulty
pub completes_with : (table : Table) (genesis : State) (items : List Item) (bodies : List Body) (faulty : List Node) (before after : List Event) (w : World) (p : ℕ) (liar : Node → Bool) →
    let s = setting_of table genesis items bodies faulty in
    IsAmong (is_faulty s) liar → IsTameAll s.rules s.chain liar → AllByRecursion (IsSaidBy liar) (before ++ event.All ∷ after) →
    IsLawfulTable table → IsState genesis → All (λ body. IsLawfulBody table body.txns body.config) bodies →
    IsWellStaffed s → IsWorld s (before ++ event.All ∷ after) w → p < peers_of s → is_faulty s (Peer p) ≡ false → HasAll s w p
completes_with table genesis items bodies faulty before after w p liar among tame said lawful state fine staffed world few good =
    let s = setting_of table genesis items bodies faulty in
    let chain = agreed_chain table bodies in
    let h = premises table genesis items bodies faulty liar tame in
    let may = may_say s liar (before ++ event.All ∷ after) said in
    let m = midway s liar h before after (start s) w may world (start_pooled s) (start_sound s liar) in
    let full = whole_there table genesis items bodies faulty m.mid p liar among tame m.all m.sound lawful state fine staffed few good in
    let last = world_sound s liar h (before ++ event.All ∷ after) w said world in
    let good_log = all_at (Sound s.rules chain liar) w.logs p [] tt last.logs in
    let L = log_of w p in
    let now = ledger_right s.rules h.local chain liar h.tame h.numbered p (length L) L good_log in
    let all_heard = hears_all s.rules h.local chain liar h.tame h.numbered p L good_log in
    let grown = (stays s.rules h.local p (log_of m.mid p) (m.grew p).new).completed in
    let more = grew_longer (ledger s.rules p (log_of m.mid p)) (ledger s.rules p ((m.grew p).new ++ log_of m.mid p)) grown in
    let same : ledger s.rules p L ≡ ledger s.rules p ((m.grew p).new ++ log_of m.mid p) = ap (ledger s.rules p) (m.grew p).is in
    let hear : ledger s.rules p (heard s.rules p L) ≡ ledger s.rules p L = ap (ledger s.rules p) all_heard in
    let count : length (ledger s.rules p L) ≡ length chain = omega (arith, more, ap length same, ap length full, length_serial_ledger s.rules chain (length chain), now.1) in
    record {
      count = ap length hear ∙ count;
      blocks = hear ∙ (now.0 ∙ ap (serial_ledger s.rules chain) count);
    }

-- any events that leave nothing under way
pub delivered_completion : DeliveredCompletion
delivered_completion table genesis items bodies faulty events w p lawful state fine tame staffed said world all few good =
    let s = setting_of table genesis items bodies faulty in
    let chain = agreed_chain table bodies in
    let liar = is_faulty s in
    let h = premises table genesis items bodies faulty liar (tame_all s tame) in
    let sound = world_sound s liar h events w (said_by_the_faulty s events (recursion_from_All (IsSaidByFaulty s) events said)) world in
    let is_all : IsAll s w = record { pooled = led_pooled s events (start s) w world (start_pooled s); given = λ x i q l f. contains_has (log_of w q) x (all x (has_contains w.pool x i) q l f) } in
    let full = whole_there table genesis items bodies faulty w p liar (λ x f. f) h.tame is_all sound lawful state fine staffed few good in
    let hear : ledger s.rules p (heard s.rules p (log_of w p)) ≡ ledger s.rules p (log_of w p) = ap (ledger s.rules p) (hears_all s.rules h.local chain liar h.tame h.numbered p (log_of w p) (all_at (Sound s.rules chain liar) w.logs p [] tt sound.logs)) in
    record { count = ap length (hear ∙ full) ∙ length_serial_ledger s.rules chain (length chain); blocks = hear ∙ full }

-- the faulty nodes are few
pub completion : Completion
completion table genesis items bodies faulty before after w p lawful state fine tame staffed said world few good =
    let s = setting_of table genesis items bodies faulty in
    completes_with table genesis items bodies faulty before after w p (is_faulty s) (λ x f. f) (tame_all s tame) (said_by_the_faulty s (before ++ event.All ∷ after) (recursion_from_All (IsSaidByFaulty s) (before ++ event.All ∷ after) said)) lawful state fine staffed world few good

-- THOSE THAT SAID SOMETHING

-- they are faulty
pub said_among : (s : Setting) (es : List Event) → AllByRecursion (IsSaidByFaulty s) es → IsAmong (is_faulty s) (has_said es)
said_among s [] a x f = refl
said_among s (e ∷ es) a x f = or_from (is_said_by x e) (has_said es x) (one e a.0) (said_among s es a.1 x f)
  where
    other : (y : Node) → is_faulty s y ≡ true → same_node x y ≡ false
    other y g = not_same (same_node x y) refl
      where
        not_same : (b : Bool) → same_node x y ≡ b → same_node x y ≡ false
        not_same false q = q
        not_same true q = absurd (true≢false (sym g ∙ (ap (is_faulty s) (sym ((same_node_decides x y).0 q)) ∙ f)))

    one : (d : Event) → IsSaidByFaulty s d → is_said_by x d ≡ false
    one (event.SayBlock from number prev items preds) g = other from g
    one (event.SayCommit from commit) g = other from g
    one (event.Deliver m q) g = refl
    one event.All g = refl

-- whoever says something has said it
pub said_all : (all es : List Event) → ((x : Node) → has_said es x ≡ true → has_said all x ≡ true) → AllByRecursion (IsSaidBy (has_said all)) es
said_all all [] h = tt
said_all all (e ∷ es) h = (one e (λ x q. h x (ap (λ b. b || has_said es x) q)), said_all all es (λ x q. h x (ap (λ b. is_said_by x e || b) q ∙ or_true (is_said_by x e))))
  where
    one : (d : Event) → ((x : Node) → is_said_by x d ≡ true → has_said all x ≡ true) → IsSaidBy (has_said all) d
    one (event.SayBlock from number prev items preds) k = k from ((same_node_decides from from).1 refl)
    one (event.SayCommit from commit) k = k from ((same_node_decides from from).1 refl)
    one (event.Deliver m q) k = tt
    one event.All k = tt

-- those that say something are few
pub calm_completion : CalmCompletion
calm_completion table genesis items bodies faulty before after w p lawful state fine calm staffed said world few good =
    let s = setting_of table genesis items bodies faulty in
    let es = before ++ event.All ∷ after in
    completes_with table genesis items bodies faulty before after w p (has_said es) (said_among s es (recursion_from_All (IsSaidByFaulty s) es said)) (few_all s (has_said es) calm.orderers calm.agents) (said_all es es (λ x q. q)) lawful state fine staffed world few good
