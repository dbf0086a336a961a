-- There is at most one world of a list of events.
use Rattle.std.specs.Prelude.{ℕ, ◌+◌, ◌≡◌, List, [], ◌∷◌, ◌++◌, Option, Some, None, zero, suc, refl}
use Rattle.std.proofs.Common.{sym, ◌∙◌, ap, subst, arith}
use Rattle.std.proofs.lemmas.Option.{none-some, same_Some}
use Rattle.txn_types.specs.declared.event.Event.TheVariants as event
use Rattle.node_defs.specs.Log.{Letter}
use Rattle.node_defs.specs.World.{Happens, LeadTo, Setting, World, all_from, given_all, message_at}
use Rattle.txn_types.specs.declared.event.Event.{Event}

-- one more event at the end
pub leads_more : (s : Setting) (es : List Event) (e : Event) (w v u : World) → LeadTo s w es v → Happens s v e u → LeadTo s w (es ++ e ∷ []) u
leads_more s [] e w v u r h = (u, subst (λ x. Happens s x e u) r h, refl)
leads_more s (a ∷ es) e w v u r h = (r.0, r.1, leads_more s es e r.0 v u r.2 h)

one_more : (s : Setting) (turns m : ℕ) (w u : World) → all_from s turns m w ≡ Some u → all_from s (suc turns) m w ≡ Some u
one_more s zero m w u h = go (message_at w m) refl h
  where
    go : (o : Option Letter) → message_at w m ≡ o → elim o [ None ↦ Some w | Some x ↦ None ] ≡ Some u → all_from s 1 m w ≡ Some u
    go None e k = rw (e, all_from) k
    go (Some x) e k = absurd (none-some u k)
one_more s (suc turns) m w u h = go (message_at w m) refl h (λ x. one_more s turns (suc m) (given_all s x w) u)
  where
    go : (o : Option Letter) → message_at w m ≡ o → elim o [ None ↦ Some w | Some x ↦ all_from s turns (suc m) (given_all s x w) ] ≡ Some u → ((x : Letter) → all_from s turns (suc m) (given_all s x w) ≡ Some u → all_from s (suc turns) (suc m) (given_all s x w) ≡ Some u) → all_from s (suc (suc turns)) m w ≡ Some u
    go None e k r = rw (e, all_from) k
    go (Some x) e k r = rw (e, all_from) (r x k)

more_turns : (s : Setting) (turns more m : ℕ) (w u : World) → all_from s turns m w ≡ Some u → all_from s (more + turns) m w ≡ Some u
more_turns s turns zero m w u h = let e : turns ≡ 0 + turns = omega arith in subst (λ k. all_from s k m w ≡ Some u) e h
more_turns s turns (suc more) m w u h = let e : suc (more + turns) ≡ suc more + turns = omega arith in subst (λ k. all_from s k m w ≡ Some u) e (one_more s (more + turns) m w u (more_turns s turns more m w u h))

one_next : (s : Setting) (w u v : World) (e : Event) → Happens s w e u → Happens s w e v → u ≡ v
one_next s w u v (event.Deliver m p) a b = same_Some u v (sym a.1 ∙ b.1)
one_next s w u v (event.SayBlock from number prev items preds) a b = same_Some u v (sym a.1 ∙ b.1)
one_next s w u v (event.SayCommit from commit) a b = same_Some u v (sym a.1 ∙ b.1)
one_next s w u v event.All a b =
    let e : a.0 + b.0 ≡ b.0 + a.0 = omega arith in
    same_Some u v (sym (more_turns s a.0 b.0 1 w u a.1) ∙ (ap (λ k. all_from s k 1 w) (sym e) ∙ more_turns s b.0 a.0 1 w v b.1))

pub same_world : (s : Setting) (es : List Event) (w u v : World) → LeadTo s w es u → LeadTo s w es v → u ≡ v
same_world s [] w u v a b = a ∙ sym b
same_world s (e ∷ es) w u v a b = same_world s es b.0 u v (subst (λ x. LeadTo s x es u) (one_next s w a.0 b.0 e a.1 b.1) a.2) b.2
