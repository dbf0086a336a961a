-- A message to one peer.
use Rattle.std.specs.Prelude.{ℕ, zero, suc, ◌+◌, ◌≡◌, ◌<◌, true, false, cond, List, [], ◌∷◌, ◌++◌, map, length, get_or, set, Option, Some, None, is_some, slice_get, refl}
use Rattle.std.proofs.Common.{sym, ◌∙◌, ap, subst, arith, ◌⊎◌, inl, inr}
use Rattle.std.proofs.lemmas.Bool.{true≢false, false≢true}
use Rattle.std.proofs.lemmas.Option.{slice_get-get_or, slice_get_past}
use Rattle.txn_types.specs.declared.message.Commit.{Commit}
use Rattle.txn_types.specs.declared.message.Node.TheVariants.{Peer}
use Rattle.txn_types.specs.declared.event.Event.TheVariants as event
use Rattle.oxii_defs.specs.State.{State}
use Rattle.txn_core.specs.declared.table.Table.{Table}
use Rattle.node_defs.specs.Log.{Letter}
use Rattle.node_defs.specs.World.{World, Setting, delivered, given_to, idled, is_faulty, log_of, message_at, said_by}
use Rattle.peer_turns.specs.declared.listing.BlockSpans.{BlockSpans}
use Rattle.peer_turns.specs.Peers.{KeptPeer}
use Rattle.world_laws.specs.declared.burst.Burst.{Burst}
use Rattle.world_laws.specs.Deliveries.{AddsBursts, burst_at, delivery_of, delivery_to}
use Rattle.world_laws.specs.Shown.{Gave, IsPeerFor, IsShown, Moves}
use Rattle.world_laws.proofs.Bursting.{adds_none}
use Rattle.world_laws.proofs.Giving.{one_burst, one_given, slot_is}

idle_shown : (table : Table) (pool : List Letter) (idle : ℕ) (peers : List (Option KeptPeer)) (genesis : State) (s : Setting) (w : World) →
    IsShown table pool idle peers genesis s w → IsShown table pool (idle + 1) peers genesis s (idled w)
idle_shown table pool idle peers genesis s w h = record { rules_are = h.rules_are; pool_is = h.pool_is; idle_is = ap (λ n. n + 1) h.idle_is; count = h.count; logs = h.logs; each = h.each }

no_message : (pool : List Letter) (w : World) (msg : ℕ) → pool ≡ w.pool → (msg ≡ 0) ⊎ (length pool < msg) → message_at w msg ≡ None
no_message pool w zero e a = refl
no_message pool w (suc m) e (inl a) = absurd (omega (arith, a))
no_message pool w (suc m) e (inr a) = slice_get_past w.pool m (omega (arith, a, ap length e))

-- there is no such message
pub moves_past : (table : Table) (workers : ℕ) (pool : List Letter) (peers : List (Option KeptPeer)) (bursts : List Burst) (msg to : ℕ) → (msg ≡ 0) ⊎ (length pool < msg) → Moves table workers (event.Deliver msg to) true pool peers bursts pool peers bursts
moves_past table workers pool peers bursts msg to a = λ idle genesis s w h.
    let none = no_message pool w msg h.pool_is a in (
      0,
      idled w,
      ap (λ o. Some (delivered s w to o)) none,
      idle_shown table pool idle peers genesis s w h,
      subst (λ ds. AddsBursts s workers ds bursts bursts) (sym (ap (λ o. delivery_to s w to o) none)) (adds_none s workers bursts),
    )

-- the peer is faulty
pub moves_faulty : (table : Table) (workers : ℕ) (pool : List Letter) (peers : List (Option KeptPeer)) (bursts : List Burst) (msg to : ℕ) → to < length table.peers → get_or peers to None ≡ None → Moves table workers (event.Deliver msg to) true pool peers bursts pool peers bursts
moves_faulty table workers pool peers bursts msg to l e = λ idle genesis s w h.
    let faulty : is_faulty s (Peer to) ≡ true = subst (λ o. IsPeerFor table genesis s to (log_of w to) o) e (h.each to l) in (
      0,
      idled w,
      ap Some (idly s w faulty (message_at w msg)),
      idle_shown table pool idle peers genesis s w h,
      subst (λ ds. AddsBursts s workers ds bursts bursts) (sym (nothing s w faulty (message_at w msg))) (adds_none s workers bursts),
    )
  where
    idly : (s : Setting) (w : World) → is_faulty s (Peer to) ≡ true → (o : Option Letter) → delivered s w to o ≡ idled w
    idly s w f None = refl
    idly s w f (Some x) = ap (λ b. cond b (idled w) (given_to s w to x)) f

    nothing : (s : Setting) (w : World) → is_faulty s (Peer to) ≡ true → (o : Option Letter) → delivery_to s w to o ≡ []
    nothing s w f None = refl
    nothing s w f (Some x) = ap (λ b. cond b [] (delivery_of w to x ∷ [])) f

-- the peer takes it
pub moves_given : (table : Table) (workers : ℕ) (pool : List Letter) (peers : List (Option KeptPeer)) (bursts : List Burst) (msg m to : ℕ) (x : Letter) (slot : Option KeptPeer) (commits : List Commit) (spans : List BlockSpans) →
    suc m ≡ msg → m < length pool → to < length table.peers → x ≡ get_or pool m x → is_some (get_or peers to None) ≡ true → Gave workers x (get_or peers to None) slot commits spans →
    Moves table workers (event.Deliver msg to) false pool peers bursts (pool ++ map (said_by to) commits) (set peers to slot) (bursts ++ map (burst_at to) spans)
moves_given table workers pool peers bursts msg m to x slot commits spans n k l e some g = λ idle genesis s w h.
    let got : message_at w (suc m) ≡ Some x = sym (ap (λ xs. slice_get xs m) h.pool_is) ∙ (slice_get-get_or pool m x k ∙ ap (λ (z : Letter). Some z) (sym e)) in
    let there : message_at w msg ≡ Some x = ap (λ i. message_at w i) (sym n) ∙ got in
    let works = working genesis s w (get_or peers to None) some (h.each to l) in
    let same : delivered s w to (message_at w msg) ≡ given_to s w to x = ap (λ o. delivered s w to o) there ∙ ap (λ b. cond b (idled w) (given_to s w to x)) works in (
      0,
      given_to s w to x,
      ap Some same,
      subst (λ u. IsShown table (pool ++ map (said_by to) commits) idle (set peers to slot) genesis s u) (ap (λ b. cond b w (given_to s w to x)) works)
          (one_given table workers pool idle peers genesis s w x to slot commits spans l g h),
      subst (λ ds. AddsBursts s workers ds bursts (bursts ++ map (burst_at to) spans)) (sym (ap (λ o. delivery_to s w to o) there))
          (one_burst table workers pool idle peers genesis s w x to slot commits spans bursts l g h),
    )
  where
    working : (genesis : State) (s : Setting) (w : World) (o : Option KeptPeer) → is_some o ≡ true → IsPeerFor table genesis s to (log_of w to) o → is_faulty s (Peer to) ≡ false
    working genesis s w None b f = absurd (false≢true b)
    working genesis s w (Some p) b f = f.working

pub slot_none : (peers : List (Option KeptPeer)) (i : ℕ) (d : Option KeptPeer) → i < length peers → is_some (get_or peers i d) ≡ false → get_or peers i None ≡ None
slot_none peers i d l some = sym (slot_is peers i d l) ∙ one (get_or peers i d) some
  where
    one : (o : Option KeptPeer) → is_some o ≡ false → o ≡ None
    one None f = refl
    one (Some p) f = absurd (true≢false f)
