-- What holds of each message of a world, whatever the events.
use Rattle.txn_types.specs.declared.event.Event.TheVariants as event
use Rattle.std.specs.Prelude.{ℕ, ◌<◌, ◌≡◌, Bool, true, false, cond, List, [], ◌∷◌, length, map, get_or, set, slice_get, Option, Some, None, suc, zero, refl}
use Rattle.std.specs.List.{AllByRecursion}
use Rattle.std.proofs.Common.{sym, ◌∙◌, subst, arith, replicate}
use Rattle.std.proofs.lemmas.Bool.{true≢false}
use Rattle.std.proofs.lemmas.Option.{none-some, same_Some}
use Rattle.node_defs.specs.Log.{Letter, Log}
use Rattle.node_defs.specs.Rules.{IsLocal}
use Rattle.node_defs.specs.Sent.{sent}
use Rattle.node_defs.specs.Serial.{IsNumbered}
use Rattle.node_defs.specs.Blocks.{block_at}
use Rattle.node_defs.specs.LawfulEvents.{IsSaidByFaulty}
use Rattle.node_defs.specs.World.{LeadTo, Setting, World, all_from, count_from, delivered, first_pool, given_to, given_all, given_each, happens, idled, is_faulty, message_at, newblock_of, newblocks_of, orderers_of, peers_of, said_by, says, start}
use Rattle.node_laws.proofs.AgreeSent.{IsRightCommit, all_append, all_at, all_map, all_more, sent_right}
use Rattle.node_laws.proofs.Few.{IsTameAll}
use Rattle.node_laws.specs.Agreement.{IsSound}
use Rattle.txn_types.specs.declared.block.Block.{Block}
use Rattle.txn_types.specs.declared.event.Event.{Event}
use Rattle.txn_types.specs.declared.message.Message.{Message}
use Rattle.txn_types.specs.declared.message.Node.{Node}
use Rattle.txn_types.specs.declared.message.Node.TheVariants.{Orderer, Peer}

-- LISTS

pub all_set : {A : Type 0} (P : A → Type 0) (xs : List A) (i : ℕ) (x : A) → AllByRecursion P xs → P x → AllByRecursion P (set xs i x)
all_set P [] zero x a h = a
all_set P [] (suc i) x a h = a
all_set P (y ∷ ys) zero x a h = (h, a.1)
all_set P (y ∷ ys) (suc i) x a h = (a.0, all_set P ys i x a.1 h)

pub all_get : {A : Type 0} (P : A → Type 0) (xs : List A) (i : ℕ) (x : A) → slice_get xs i ≡ Some x → AllByRecursion P xs → P x
all_get P [] i x e a = absurd (none-some x e)
all_get P (y ∷ ys) zero x e a = subst P (same_Some y x e) a.0
all_get P (y ∷ ys) (suc i) x e a = all_get P ys i x e a.1

pub all_replicate : {A : Type 0} (P : A → Type 0) (n : ℕ) (x : A) → P x → AllByRecursion P (replicate n x)
all_replicate P zero x h = tt
all_replicate P (suc n) x h = (h, all_replicate P n x h)

-- WORLDS

-- P holds of each message of the pool and of each log
pub record AllLetters (P : Letter → Type 0) (w : World) : Type 0 where
  pub pool : AllByRecursion P w.pool
  pub logs : AllByRecursion (AllByRecursion P) w.logs

-- where the event says something, P holds of it, whatever it is
abbrev pub MaySay : (Letter → Type 0) → Event → Type 0
MaySay P (event.SayBlock from number prev items preds) = (m : Message) → P (record { from = from; message = m })
MaySay P (event.SayCommit from commit) = (m : Message) → P (record { from = from; message = m })
MaySay P _ = Unit {0}

-- a peer that isn't faulty sends what P holds of, where it does of its log
abbrev pub SendsOnly : Setting → (Letter → Type 0) → Type 0
SendsOnly s P = (p : ℕ) (L : Log) → is_faulty s (Peer p) ≡ false → AllByRecursion P L → AllByRecursion (λ c. P (said_by p c)) (sent s.rules p L)

module _ (s : Setting) (P : Letter → Type 0) (sends : SendsOnly s P) where
  given_keeps : (w : World) (p : ℕ) (x : Letter) → is_faulty s (Peer p) ≡ false → P x → AllLetters P w → AllLetters P (given_to s w p x)
  given_keeps w p x honest good a =
      let L = x ∷ get_or w.logs p [] in
      let log : AllByRecursion P L = (good, all_at (AllByRecursion P) w.logs p [] tt a.logs) in
      record { pool = all_append P w.pool (map (said_by p) (sent s.rules p L)) a.pool (all_map P (said_by p) (sent s.rules p L) (sends p L honest log)); logs = all_set (AllByRecursion P) w.logs p L a.logs log }

  each_keeps : (x : Letter) → P x → (ps : List ℕ) (w : World) → AllLetters P w → AllLetters P (given_each s x ps w)
  each_keeps x good [] w a = a
  each_keeps x good (p ∷ ps) w a = each_keeps x good ps _ (one (is_faulty s (Peer p)) refl)
    where
      one : (b : Bool) → is_faulty s (Peer p) ≡ b → AllLetters P (cond b w (given_to s w p x))
      one true e = a
      one false e = given_keeps w p x e good a

  at_keeps : (w : World) (m : ℕ) (x : Letter) → message_at w m ≡ Some x → AllLetters P w → P x
  at_keeps w zero x e a = absurd (none-some x e)
  at_keeps w (suc m) x e a = all_get P w.pool m x e a.pool

  all_keeps : (turns m : ℕ) (w u : World) → all_from s turns m w ≡ Some u → AllLetters P w → AllLetters P u
  all_keeps zero m w u e a = go (message_at w m) e
    where
      go : (o : Option Letter) → elim o [ None ↦ Some w | Some x ↦ None ] ≡ Some u → AllLetters P u
      go None k = subst (AllLetters P) (same_Some w u k) a
      go (Some x) k = absurd (none-some u k)
  all_keeps (suc turns) m w u e a = go (message_at w m) refl e (λ v k. all_keeps turns (suc m) v u k)
    where
      go : (o : Option Letter) → message_at w m ≡ o → elim o [ None ↦ Some w | Some x ↦ all_from s turns (suc m) (given_all s x w) ] ≡ Some u → ((v : World) → all_from s turns (suc m) v ≡ Some u → AllLetters P v → AllLetters P u) → AllLetters P u
      go None q k r = subst (AllLetters P) (same_Some w u k) a
      go (Some x) q k r = r (given_all s x w) k (each_keeps x (at_keeps w m x q a) (count_from 0 (peers_of s)) w a)

  says_keeps : (w : World) (from : Node) (m : Message) → P (record { from = from; message = m }) → AllLetters P w → AllLetters P (says w from m)
  says_keeps w from m good a = record { pool = all_append P w.pool (record { from = from; message = m } ∷ []) a.pool (good, tt); logs = a.logs }

  pub happens_keeps : (turns : ℕ) (w u : World) (e : Event) → MaySay P e → happens s turns w e ≡ Some u → AllLetters P w → AllLetters P u
  happens_keeps turns w u event.All f q a = all_keeps turns 1 w u q a
  happens_keeps turns w u (event.SayBlock from number prev items preds) f q a = subst (AllLetters P) (same_Some _ u q) (says_keeps w from _ (f _) a)
  happens_keeps turns w u (event.SayCommit from commit) f q a = subst (AllLetters P) (same_Some _ u q) (says_keeps w from _ (f _) a)
  happens_keeps turns w u (event.Deliver m p) f q a = subst (AllLetters P) (same_Some _ u q) (one (message_at w m) refl)
    where
      two : (x : Letter) → P x → (b : Bool) → is_faulty s (Peer p) ≡ b → AllLetters P (cond b (idled w) (given_to s w p x))
      two x good true e = record { pool = a.pool; logs = a.logs }
      two x good false e = given_keeps w p x e good a

      one : (o : Option Letter) → message_at w m ≡ o → AllLetters P (delivered s w p o)
      one None k = record { pool = a.pool; logs = a.logs }
      one (Some x) k = two x (at_keeps w m x k a) (is_faulty s (Peer p)) refl

  pub world_keeps : (es : List Event) (w u : World) → AllByRecursion (MaySay P) es → LeadTo s w es u → AllLetters P w → AllLetters P u
  world_keeps [] w u f q a = subst (AllLetters P) (sym q) a
  world_keeps (e ∷ es) w u f q a = world_keeps es q.0 u f.1 q.2 (happens_keeps q.1.0 w q.0 e f.0 q.1.1 a)

-- THE START

-- it is a block of this chain
abbrev pub IsOf : List Block → Block → Type 0
IsOf chain b = (m : ℕ) × (m < length chain) × (b ≡ block_at chain m)

pub all_of : (bs : List Block) → AllByRecursion (IsOf bs) bs
all_of [] = tt
all_of (b ∷ bs) = ((0, omega arith, refl), all_more (IsOf bs) (IsOf (b ∷ bs)) (λ c k. (suc k.0, omega (arith, k.1), k.2)) bs (all_of bs))

newblocks_are : (s : Setting) (P : Letter → Type 0) (b : Block) → ((o : ℕ) → is_faulty s (Orderer o) ≡ false → P (newblock_of s b o)) → (os : List ℕ) → AllByRecursion P (newblocks_of s b os)
newblocks_are s P b h [] = tt
newblocks_are s P b h (o ∷ os) = one (is_faulty s (Orderer o)) refl (newblocks_are s P b h os)
  where
    one : (c : Bool) → is_faulty s (Orderer o) ≡ c → AllByRecursion P (newblocks_of s b os) → AllByRecursion P (cond c (newblocks_of s b os) (newblock_of s b o ∷ newblocks_of s b os))
    one true e more = more
    one false e more = (h o e, more)

pool_is : (s : Setting) (P : Letter → Type 0) (chain : List Block) → ((b : Block) (o : ℕ) → IsOf chain b → is_faulty s (Orderer o) ≡ false → P (newblock_of s b o)) → (bs : List Block) → AllByRecursion (IsOf chain) bs → AllByRecursion P (first_pool s bs)
pool_is s P chain h [] a = tt
pool_is s P chain h (b ∷ bs) a = all_append P (newblocks_of s b (count_from 0 (orderers_of s))) (first_pool s bs) (newblocks_are s P b (λ o e. h b o a.0 e) (count_from 0 (orderers_of s))) (pool_is s P chain h bs a.1)

pub start_is : (s : Setting) (P : Letter → Type 0) → ((b : Block) (o : ℕ) → IsOf s.chain b → is_faulty s (Orderer o) ≡ false → P (newblock_of s b o)) → AllLetters P (start s)
start_is s P h = record { pool = pool_is s P s.chain h s.chain (all_of s.chain); logs = all_replicate (AllByRecursion P) (peers_of s) [] tt }

-- SOUND WORLDS

-- what is said is of one of these nodes
abbrev pub IsSaidBy : (Node → Bool) → Event → Type 0
IsSaidBy liar (event.SayBlock from number prev items preds) = liar from ≡ true
IsSaidBy liar (event.SayCommit from commit) = liar from ≡ true
IsSaidBy liar _ = Unit {0}

-- faulty nodes alone say what they like
pub said_by_the_faulty : (s : Setting) (es : List Event) → AllByRecursion (IsSaidByFaulty s) es → AllByRecursion (IsSaidBy (is_faulty s)) es
said_by_the_faulty s [] a = tt
said_by_the_faulty s (e ∷ es) a = (one e a.0, said_by_the_faulty s es a.1)
  where
    one : (d : Event) → IsSaidByFaulty s d → IsSaidBy (is_faulty s) d
    one (event.SayBlock from number prev items preds) f = f
    one (event.SayCommit from commit) f = f
    one (event.Deliver m p) f = tt
    one event.All f = tt

-- what holds throughout: the rules are local, these nodes are few, and the chain is numbered
pub record Premises (s : Setting) (liar : Node → Bool) : Type 0 where
  pub local : IsLocal s.rules
  pub tame : IsTameAll s.rules s.chain liar
  pub numbered : IsNumbered s.chain

-- each message is right, unless it is of one of these nodes
abbrev pub IsSoundWorld : Setting → (Node → Bool) → World → Type 0
IsSoundWorld s liar w = AllLetters (IsSound s.rules s.chain liar) w

pub sends_sound : (s : Setting) (liar : Node → Bool) → Premises s liar → SendsOnly s (IsSound s.rules s.chain liar)
sends_sound s liar h p L honest a = all_more (IsRightCommit s.rules s.chain) (λ c. IsSound s.rules s.chain liar (said_by p c)) (λ c b _. b) (sent s.rules p L) (sent_right s.rules h.local s.chain liar h.tame h.numbered p L a)

pub may_say : (s : Setting) (liar : Node → Bool) (es : List Event) → AllByRecursion (IsSaidBy liar) es → AllByRecursion (MaySay (IsSound s.rules s.chain liar)) es
may_say s liar [] a = tt
may_say s liar (e ∷ es) a = (one e a.0, may_say s liar es a.1)
  where
    one : (d : Event) → IsSaidBy liar d → MaySay (IsSound s.rules s.chain liar) d
    one (event.SayBlock from number prev items preds) f = λ m g. absurd (true≢false (sym f ∙ g))
    one (event.SayCommit from commit) f = λ m g. absurd (true≢false (sym f ∙ g))
    one (event.Deliver m p) f = tt
    one event.All f = tt

pub start_sound : (s : Setting) (liar : Node → Bool) → IsSoundWorld s liar (start s)
start_sound s liar = start_is s (IsSound s.rules s.chain liar) (λ b o k e f. k)
