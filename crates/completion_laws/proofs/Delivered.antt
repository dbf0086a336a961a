-- What `all` leaves: each message of the pool is in the log of each peer that isn't faulty, and the pool has all that peers sent.
use Rattle.std.specs.Prelude.{Contains, ℕ, ◌+◌, ◌<◌, ◌≤◌, ◌≡◌, Bool, true, false, cond, List, [], ◌∷◌, ◌++◌, map, length, get_or, set, replicate, Option, Some, None, zero, suc, refl, slice_get, ◌⊎◌}
use Rattle.std.specs.List.{AllByRecursion}
use Rattle.std.proofs.Common.{sym, ◌∙◌, ap, arith, subst, inl, inr, append_assoc, append-nil}
use Rattle.std.proofs.lemmas.Bool.{true≢false, cases_lt}
use Rattle.std.proofs.lemmas.Option.{none-some, same_Some}
use Rattle.std.proofs.lemmas.List.{length-set, length_push}
use Rattle.txn_types.specs.declared.event.Event.{Event}
use Rattle.txn_types.specs.declared.event.Event.TheVariants as event
use Rattle.txn_types.specs.declared.message.Node.TheVariants.{Peer}
use Rattle.node_defs.specs.Log.{Letter, Log}
use Rattle.node_defs.specs.Rules.{Rules}
use Rattle.node_defs.specs.Sent.{sent}
use Rattle.node_defs.specs.World.{LeadTo, Setting, World, all_from, count_from, delivered, first_pool, given_to, given_all, given_each, happens, idled, is_faulty, log_of, message_at, peers_of, said_by, start}
use Rattle.node_laws.specs.Fed.{Has}
use Rattle.node_laws.proofs.Ends.{length_logs}
use Rattle.node_laws.proofs.AgreeSent.{all_more, all_append}

-- LISTS

pub has_left : {A : Type 0} (xs ys : List A) (x : A) → Has x xs → Has x (xs ++ ys)
has_left [] ys x h = absurd h
has_left (y ∷ xs) ys x (inl e) = inl e
has_left (y ∷ xs) ys x (inr h) = inr (has_left xs ys x h)

pub has_right : {A : Type 0} (xs ys : List A) (x : A) → Has x ys → Has x (xs ++ ys)
has_right [] ys x h = h
has_right (y ∷ xs) ys x h = inr (has_right xs ys x h)

pub has_map : {A B : Type 0} (f : A → B) (xs : List A) (x : A) → Has x xs → Has (f x) (map f xs)
has_map f [] x h = absurd h
has_map f (y ∷ xs) x (inl e) = inl (ap f e)
has_map f (y ∷ xs) x (inr h) = inr (has_map f xs x h)

pub all_of_has : {A : Type 0} (P : A → Type 0) (xs : List A) → ((x : A) → Has x xs → P x) → AllByRecursion P xs
all_of_has P [] h = tt
all_of_has P (x ∷ xs) h = (h x (inl refl), all_of_has P xs (λ y i. h y (inr i)))

pub has_of_all : {A : Type 0} (P : A → Type 0) (xs : List A) → AllByRecursion P xs → (x : A) → Has x xs → P x
has_of_all P [] a x h = absurd h
has_of_all P (y ∷ xs) a x (inl e) = subst P (sym e) a.0
has_of_all P (y ∷ xs) a x (inr h) = has_of_all P xs a.1 x h

-- what holds of each list of lists, still does where one of them is replaced by a good one
pub at_set : (P : ℕ → Log → Type 0) (logs : List Log) (p : ℕ) (L : Log) → ((q : ℕ) → P q (get_or logs q [])) → P p L → (q : ℕ) → P q (get_or (set logs p L) q [])
at_set P [] zero L h k q = h q
at_set P [] (suc p) L h k q = h q
at_set P (M ∷ logs) zero L h k zero = k
at_set P (M ∷ logs) zero L h k (suc q) = h (suc q)
at_set P (M ∷ logs) (suc p) L h k zero = h zero
at_set P (M ∷ logs) (suc p) L h k (suc q) = at_set (λ j. P (suc j)) logs p L (λ j. h (suc j)) k q

here_set : (logs : List Log) (p : ℕ) (L : Log) → p < length logs → get_or (set logs p L) p [] ≡ L
here_set [] p L h = absurd (omega arith)
here_set (M ∷ logs) zero L h = refl
here_set (M ∷ logs) (suc p) L h = here_set logs p L (omega arith)

-- WHAT PEERS SENT

-- what this peer sent with each entry of its log is in the pool
abbrev pub AllSent : Rules → ℕ → List Letter → Log → Type 0
AllSent rules p pool [] = Unit {0}
AllSent rules p pool (e ∷ L) = AllByRecursion (λ c. Has (said_by p c) pool) (sent rules p (e ∷ L)) × AllSent rules p pool L

sent_more : (rules : Rules) (p : ℕ) (pool more : List Letter) (L : Log) → AllSent rules p pool L → AllSent rules p (pool ++ more) L
sent_more rules p pool more [] a = tt
sent_more rules p pool more (e ∷ L) a = (all_more (λ c. Has (said_by p c) pool) (λ c. Has (said_by p c) (pool ++ more)) (λ c h. has_left pool more (said_by p c) h) (sent rules p (e ∷ L)) a.0, sent_more rules p pool more L a.1)

-- each peer's commits and the messages of the start are in the pool, and there is a log for each peer
pub record IsPooled (s : Setting) (w : World) : Type 0 where
  pub sent : (p : ℕ) → AllSent s.rules p w.pool (log_of w p)
  pub first : (x : Letter) → Has x (first_pool s s.chain) → Has x w.pool
  pub count : length w.logs ≡ peers_of s

-- one world came from the other by deliveries and messages: the pool and the logs grew
pub record IsLater (w u : World) : Type 0 where
  pub more : List Letter
  pub pool : u.pool ≡ w.pool ++ more
  pub logs : (q : ℕ) (y : Letter) → Has y (log_of w q) → Has y (log_of u q)

later_itself : (w : World) → IsLater w w
later_itself w = record { more = []; pool = sym (append-nil w.pool); logs = λ q y h. h }

later_on : (w v u : World) → IsLater w v → IsLater v u → IsLater w u
later_on w v u a b = record {
  more = a.more ++ b.more;
  pool = b.pool ∙ (ap (λ (xs : List Letter). xs ++ b.more) a.pool ∙ append_assoc w.pool a.more b.more);
  logs = λ q y h. b.logs q y (a.logs q y h);
}

given_later : (s : Setting) (w : World) (p : ℕ) (x : Letter) → IsLater w (given_to s w p x)
given_later s w p x = record {
  more = map (said_by p) (sent s.rules p (x ∷ get_or w.logs p []));
  pool = refl;
  logs = λ q y h. at_set (λ j L. Has y (get_or w.logs j []) → Has y L) w.logs p (x ∷ get_or w.logs p []) (λ j i. i) (λ i. inr i) q h;
}

given_pooled : (s : Setting) (w : World) (p : ℕ) (x : Letter) → IsPooled s w → IsPooled s (given_to s w p x)
given_pooled s w p x a =
    let L = x ∷ get_or w.logs p [] in
    let more = map (said_by p) (sent s.rules p L) in
    record {
      sent = at_set (λ q K. AllSent s.rules q (w.pool ++ more) K) w.logs p L (λ q. sent_more s.rules q w.pool more (get_or w.logs q []) (a.sent q))
          (all_of_has (λ c. Has (said_by p c) (w.pool ++ more)) (sent s.rules p L) (λ c h. has_right w.pool more (said_by p c) (has_map (said_by p) (sent s.rules p L) c h)), sent_more s.rules p w.pool more (get_or w.logs p []) (a.sent p));
      first = λ y h. has_left w.pool more y (a.first y h);
      count = length-set w.logs p L ∙ a.count;
    }

-- ONE MESSAGE TO ALL

-- the message is in the log of each peer of the table that isn't faulty
abbrev pub IsGiven : Setting → World → Letter → Type 0
IsGiven s w x = (p : ℕ) → p < peers_of s → is_faulty s (Peer p) ≡ false → Has x (log_of w p)

given_still : (s : Setting) (w u : World) (x : Letter) → IsLater w u → IsGiven s w x → IsGiven s u x
given_still s w u x l g p k f = l.logs p x (g p k f)

-- both at once, along the peers from i on
pub record IsAfter (s : Setting) (w u : World) : Type 0 where
  pub later : IsLater w u
  pub pooled : IsPooled s u

each_after : (s : Setting) (x : Letter) (ps : List ℕ) (w : World) → IsPooled s w → IsAfter s w (given_each s x ps w)
each_after s x [] w a = record { later = later_itself w; pooled = a }
each_after s x (p ∷ ps) w a = one (is_faulty s (Peer p)) (λ v b. each_after s x ps v b)
  where
    one : (b : Bool) → ((v : World) → IsPooled s v → IsAfter s v (given_each s x ps v)) → IsAfter s w (given_each s x ps (cond b w (given_to s w p x)))
    one true more = more w a
    one false more =
        let r = more (given_to s w p x) (given_pooled s w p x a) in
        record { later = later_on w (given_to s w p x) (given_each s x ps (given_to s w p x)) (given_later s w p x) r.later; pooled = r.pooled }

each_given : (s : Setting) (x : Letter) (i n : ℕ) (w : World) → IsPooled s w → (p : ℕ) → (i ≡ p) ⊎ (i < p) → p < i + n → p < peers_of s → is_faulty s (Peer p) ≡ false → Has x (log_of (given_each s x (count_from i n) w) p)
each_given s x i zero w a p (inl e) l k f = absurd (omega (arith, e, l))
each_given s x i zero w a p (inr e) l k f = absurd (omega (arith, e, l))
each_given s x i (suc n) w a p (inl e) l k f = one (is_faulty s (Peer i)) refl
  where
    one : (b : Bool) → is_faulty s (Peer i) ≡ b → Has x (log_of (given_each s x (count_from (suc i) n) (cond b w (given_to s w i x))) p)
    one true h = absurd (true≢false (sym h ∙ (ap (λ j. is_faulty s (Peer j)) e ∙ f)))
    one false h =
        let r = each_after s x (count_from (suc i) n) (given_to s w i x) (given_pooled s w i x a) in
        let here : Has x (log_of (given_to s w i x) i) = subst (Has x) (sym (here_set w.logs i (x ∷ get_or w.logs i []) (omega (arith, a.count, e, k)))) (inl refl) in
        r.later.logs p x (subst (λ j. Has x (log_of (given_to s w i x) j)) e here)
each_given s x i (suc n) w a p (inr e) l k f = one (is_faulty s (Peer i)) (λ v b. each_given s x (suc i) n v b p (next e) (omega (arith, l)) k f)
  where
    next : i < p → (suc i ≡ p) ⊎ (suc i < p)
    next h = two (cases_lt (suc i) p)
      where
        two : (suc i < p) ⊎ (p ≤ suc i) → (suc i ≡ p) ⊎ (suc i < p)
        two (inl z) = inr z
        two (inr z) = inl (omega (arith, z, h))

    one : (b : Bool) → ((v : World) → IsPooled s v → Has x (log_of (given_each s x (count_from (suc i) n) v) p)) → Has x (log_of (given_each s x (count_from (suc i) n) (cond b w (given_to s w i x))) p)
    one true more = more w a
    one false more = more (given_to s w i x) (given_pooled s w i x a)

-- THE EVENT

-- the pool is a front that each peer has, and a rest
pub record AreGiven (s : Setting) (k : ℕ) (w : World) : Type 0 where
  pub front : List Letter
  pub rest : List Letter
  pub pool : w.pool ≡ front ++ rest
  pub count : length front ≡ k
  pub given : AllByRecursion (IsGiven s w) front

at_front : (front rest : List Letter) (x : Letter) → slice_get (front ++ rest) (length front) ≡ Some x → (more : List Letter) × (rest ≡ x ∷ more)
at_front [] [] x e = absurd (none-some x e)
at_front [] (y ∷ rest) x e = (rest, ap (λ z. z ∷ rest) (same_Some y x e))
at_front (y ∷ front) rest x e = at_front front rest x e

at_end : (front rest : List Letter) → slice_get (front ++ rest) (length front) ≡ None → rest ≡ []
at_end [] [] e = refl
at_end [] (y ∷ rest) e = absurd (none-some y (sym e))
at_end (y ∷ front) rest e = at_end front rest e

-- what a world has in which all was given
pub record IsAll (s : Setting) (w : World) : Type 0 where
  pub pooled : IsPooled s w
  pub given : (x : Letter) → Has x w.pool → IsGiven s w x

ends : (s : Setting) (k : ℕ) (w : World) → IsPooled s w → AreGiven s k w → message_at w (suc k) ≡ None → IsAll s w
ends s k w a g e =
    let none : g.rest ≡ [] = at_end g.front g.rest (ap (λ n. slice_get (g.front ++ g.rest) n) g.count ∙ (ap (λ (xs : List Letter). slice_get xs k) (sym g.pool) ∙ e)) in
    let whole : w.pool ≡ g.front = g.pool ∙ (ap (λ (xs : List Letter). g.front ++ xs) none ∙ append-nil g.front) in
    record { pooled = a; given = λ x h. has_of_all (IsGiven s w) g.front g.given x (subst (Has x) whole h) }

goes_on : (s : Setting) (k : ℕ) (w : World) (x : Letter) → IsPooled s w → AreGiven s k w → message_at w (suc k) ≡ Some x → AreGiven s (suc k) (given_all s x w)
goes_on s k w x a g e =
    let u = given_all s x w in
    let r = each_after s x (count_from 0 (peers_of s)) w a in
    let next = at_front g.front g.rest x (ap (λ n. slice_get (g.front ++ g.rest) n) g.count ∙ (ap (λ (xs : List Letter). slice_get xs k) (sym g.pool) ∙ e)) in
    let old : AllByRecursion (IsGiven s u) g.front = all_more (IsGiven s w) (IsGiven s u) (λ y h. given_still s w u y r.later h) g.front g.given in
    let new : IsGiven s u x = λ p l f. each_given s x 0 (peers_of s) w a p (from_zero p) (omega (arith, l)) l f in
    record {
      front = g.front ++ x ∷ [];
      rest = next.0 ++ r.later.more;
      pool = r.later.pool ∙ (ap (λ (xs : List Letter). xs ++ r.later.more) (g.pool ∙ ap (λ (xs : List Letter). g.front ++ xs) next.1) ∙ shifted g.front next.0 r.later.more);
      count = length_push g.front x ∙ omega (arith, g.count);
      given = all_append (IsGiven s u) g.front (x ∷ []) old (new, tt);
    }
  where
    from_zero : (p : ℕ) → (0 ≡ p) ⊎ (0 < p)
    from_zero zero = inl refl
    from_zero (suc p) = inr (omega arith)

    shifted : (front rest more : List Letter) → (front ++ x ∷ rest) ++ more ≡ (front ++ x ∷ []) ++ (rest ++ more)
    shifted [] rest more = refl
    shifted (y ∷ front) rest more = ap (λ (xs : List Letter). y ∷ xs) (shifted front rest more)

pub all_given : (s : Setting) (turns k : ℕ) (w u : World) → all_from s turns (suc k) w ≡ Some u → IsPooled s w → AreGiven s k w → IsAll s u
all_given s zero k w u e a g = go (message_at w (suc k)) refl e
  where
    go : (o : Option Letter) → message_at w (suc k) ≡ o → elim o [ None ↦ Some w | Some x ↦ None ] ≡ Some u → IsAll s u
    go None q h = subst (IsAll s) (same_Some w u h) (ends s k w a g q)
    go (Some x) q h = absurd (none-some u h)
all_given s (suc turns) k w u e a g = go (message_at w (suc k)) refl e (λ x h b c. all_given s turns (suc k) (given_all s x w) u h b c)
  where
    go : (o : Option Letter) → message_at w (suc k) ≡ o → elim o [ None ↦ Some w | Some x ↦ all_from s turns (suc (suc k)) (given_all s x w) ] ≡ Some u →
        ((x : Letter) → all_from s turns (suc (suc k)) (given_all s x w) ≡ Some u → IsPooled s (given_all s x w) → AreGiven s (suc k) (given_all s x w) → IsAll s u) → IsAll s u
    go None q h more = subst (IsAll s) (same_Some w u h) (ends s k w a g q)
    go (Some x) q h more = more x h (each_after s x (count_from 0 (peers_of s)) w a).pooled (goes_on s k w x a g q)

-- EVENTS

says_pooled : (s : Setting) (w : World) (x : Letter) → IsPooled s w → IsPooled s (record { pool = w.pool ++ x ∷ []; idle = w.idle; logs = w.logs })
says_pooled s w x a = record { sent = λ p. sent_more s.rules p w.pool (x ∷ []) (log_of w p) (a.sent p); first = λ y h. has_left w.pool (x ∷ []) y (a.first y h); count = a.count }

all_pooled : (s : Setting) (turns m : ℕ) (w u : World) → all_from s turns m w ≡ Some u → IsPooled s w → IsPooled s u
all_pooled s zero m w u e a = go (message_at w m) e
  where
    go : (o : Option Letter) → elim o [ None ↦ Some w | Some x ↦ None ] ≡ Some u → IsPooled s u
    go None h = subst (IsPooled s) (same_Some w u h) a
    go (Some x) h = absurd (none-some u h)
all_pooled s (suc turns) m w u e a = go (message_at w m) e (λ v h b. all_pooled s turns (suc m) v u h b)
  where
    go : (o : Option Letter) → elim o [ None ↦ Some w | Some x ↦ all_from s turns (suc m) (given_all s x w) ] ≡ Some u → ((v : World) → all_from s turns (suc m) v ≡ Some u → IsPooled s v → IsPooled s u) → IsPooled s u
    go None h more = subst (IsPooled s) (same_Some w u h) a
    go (Some x) h more = more (given_all s x w) h (each_after s x (count_from 0 (peers_of s)) w a).pooled

pub happens_pooled : (s : Setting) (turns : ℕ) (w u : World) (e : Event) → happens s turns w e ≡ Some u → IsPooled s w → IsPooled s u
happens_pooled s turns w u event.All q a = all_pooled s turns 1 w u q a
happens_pooled s turns w u (event.SayBlock from number prev items preds) q a = subst (IsPooled s) (same_Some _ u q) (says_pooled s w _ a)
happens_pooled s turns w u (event.SayCommit from commit) q a = subst (IsPooled s) (same_Some _ u q) (says_pooled s w _ a)
happens_pooled s turns w u (event.Deliver m p) q a = subst (IsPooled s) (same_Some _ u q) (one (message_at w m))
  where
    one : (o : Option Letter) → IsPooled s (delivered s w p o)
    one None = record { sent = a.sent; first = a.first; count = a.count }
    one (Some x) = elim (is_faulty s (Peer p)) as (λ b. IsPooled s (cond b (idled w) (given_to s w p x))) [ true ↦ record { sent = a.sent; first = a.first; count = a.count } | false ↦ given_pooled s w p x a ]

pub start_pooled : (s : Setting) → IsPooled s (start s)
start_pooled s = record { sent = λ p. empty (peers_of s) p p; first = λ x h. h; count = length_logs (peers_of s) }
  where
    empty : (n p q : ℕ) → AllSent s.rules q (first_pool s s.chain) (get_or (replicate n []) p [])
    empty zero p q = tt
    empty (suc n) zero q = tt
    empty (suc n) (suc p) q = empty n p q

-- the pool has all that peers sent, after any events
pub led_pooled : (s : Setting) (es : List Event) (w u : World) → LeadTo s w es u → IsPooled s w → IsPooled s u
led_pooled s [] w u e a = subst (IsPooled s) (sym e) a
led_pooled s (x ∷ es) w u (v, h, r) a = led_pooled s es v u r (happens_pooled s h.0 w v x h.1 a)

-- ELEMENTS

pub contains_has : {A : Type 0} (xs : List A) (x : A) → Contains xs x → Has x xs
contains_has {A} xs x (k, l, e) = go xs k l e
  where
    go : (ys : List A) (k : ℕ) → k < length ys → get_or ys k x ≡ x → Has x ys
    go [] k l e = absurd (omega (arith, l))
    go (y ∷ ys) zero l e = inl (sym e)
    go (y ∷ ys) (suc k) l e = inr (go ys k (omega (arith, l)) e)

pub has_contains : {A : Type 0} (xs : List A) (x : A) → Has x xs → Contains xs x
has_contains [] x h = absurd h
has_contains (y ∷ ys) x (inl e) = (0, omega arith, sym e)
has_contains (y ∷ ys) x (inr h) = let c = has_contains ys x h in (suc c.0, omega (arith, c.1), c.2)
