-- The bursts of deliveries, one behind another.
use Rattle.std.specs.Prelude.{ℕ, ◌≡◌, ◌≤◌, List, [], ◌∷◌, ◌++◌, map, refl}
use Rattle.std.proofs.Common.{sym, ◌∙◌, ap, subst, arith}
use Rattle.std.proofs.lemmas.List.{append-nil, append_assoc}
use Rattle.txn_types.specs.declared.txn.Kind.{Kind}
use Rattle.node_defs.specs.Rules.{Rules}
use Rattle.node_defs.specs.World.{Setting}
use Rattle.peer_laws.specs.Runs.{BlockRuns, runs}
use Rattle.peer_turns.specs.declared.listing.BlockSpans.{BlockSpans}
use Rattle.peer_turns.specs.Traces.{AreTraced}
use Rattle.world_laws.specs.declared.burst.Burst.{Burst}
use Rattle.world_laws.specs.Deliveries.{AddsBursts, AreBursts, AreBurstsOf, Delivery, PeerRuns, burst_at, runs_at, runs_with}

runs_append : (rules : Rules) (xs ys : List Delivery) → runs_with rules (xs ++ ys) ≡ runs_with rules xs ++ runs_with rules ys
runs_append rules [] ys = refl
runs_append rules (d ∷ xs) ys =
    ap (λ rs. runs_at d.peer (runs rules d.peer d.log) ++ rs) (runs_append rules xs ys)
    ∙ sym (append_assoc (runs_at d.peer (runs rules d.peer d.log)) (runs_with rules xs) (runs_with rules ys))

bursts_append : (kind : Kind) (workers : ℕ) (xs ys : List PeerRuns) (mine more : List Burst) → AreBurstsOf kind workers xs mine → AreBurstsOf kind workers ys more → AreBurstsOf kind workers (xs ++ ys) (mine ++ more)
bursts_append kind workers [] ys [] more a b = b
bursts_append kind workers (x ∷ xs) ys (y ∷ mine) more a b = (a.0, bursts_append kind workers xs ys mine more a.1 b)
bursts_append kind workers [] ys (y ∷ mine) more a b = absurd a
bursts_append kind workers (x ∷ xs) ys [] more a b = absurd a

-- what one peer ran, at its number
pub traced_at : (kind : Kind) (workers p : ℕ) (ran : List BlockRuns) (spans : List BlockSpans) → AreTraced kind workers ran spans → AreBurstsOf kind workers (runs_at p ran) (map (burst_at p) spans)
traced_at kind workers p [] [] a = tt
traced_at kind workers p (r ∷ ran) (b ∷ spans) a = (record { peer_is = refl; trace = a.0 }, traced_at kind workers p ran spans a.1)
traced_at kind workers p [] (b ∷ spans) a = absurd a
traced_at kind workers p (r ∷ ran) [] a = absurd a

pub adds_none : (s : Setting) (workers : ℕ) (bursts : List Burst) → AddsBursts s workers [] bursts bursts
adds_none s workers bursts = ([], sym (append-nil bursts), tt)

pub adds_more : (s : Setting) (workers : ℕ) (xs ys : List Delivery) (one two three : List Burst) → AddsBursts s workers xs one two → AddsBursts s workers ys two three → AddsBursts s workers (xs ++ ys) one three
adds_more s workers xs ys one two three a b = (
  a.0 ++ b.0,
  b.1 ∙ (ap (λ bs. bs ++ b.0) a.1 ∙ append_assoc one a.0 b.0),
  subst (λ rs. AreBurstsOf s.rules.table.kind workers rs (a.0 ++ b.0)) (sym (runs_append s.rules xs ys))
      (bursts_append s.rules.table.kind workers (runs_with s.rules xs) (runs_with s.rules ys) a.0 b.0 a.2 b.2),
)

-- behind those of earlier deliveries
pub bursts_more : (s : Setting) (workers : ℕ) (xs ys : List Delivery) (old new : List Burst) → AreBursts s workers xs old → AddsBursts s workers ys old new → AreBursts s workers (xs ++ ys) new
bursts_more s workers xs ys old new a b =
    subst (λ bs. AreBursts s workers (xs ++ ys) bs) (sym b.1)
    (subst (λ rs. AreBurstsOf s.rules.table.kind workers rs (old ++ b.0)) (sym (runs_append s.rules xs ys))
    (bursts_append s.rules.table.kind workers (runs_with s.rules xs) (runs_with s.rules ys) old b.0 a b.2))

-- MORE WORKERS

more_workers_of : (kind : Kind) (workers n : ℕ) → workers ≤ n → (ran : List PeerRuns) (bursts : List Burst) → AreBurstsOf kind workers ran bursts → AreBurstsOf kind n ran bursts
more_workers_of kind workers n l [] [] a = tt
more_workers_of kind workers n l (r ∷ ran) (b ∷ bursts) a =
    let t = a.0.trace.trace in (
      record {
        peer_is = a.0.peer_is;
        trace = record {
          n_is = a.0.trace.n_is;
          trace = record {
            rising = t.rising;
            one_each = t.one_each;
            each_stamp = t.each_stamp;
            forward = t.forward;
            behind = t.behind;
            by_workers = λ i x at. omega (arith, l, t.by_workers i x at);
          };
        };
      },
      more_workers_of kind workers n l ran bursts a.1,
    )
more_workers_of kind workers n l [] (b ∷ bursts) a = absurd a
more_workers_of kind workers n l (r ∷ ran) [] a = absurd a

pub more_workers : (s : Setting) (workers n : ℕ) → workers ≤ n → (deliveries : List Delivery) (old new : List Burst) → AddsBursts s workers deliveries old new → AddsBursts s n deliveries old new
more_workers s workers n l deliveries old new a = (a.0, a.1, more_workers_of s.rules.table.kind workers n l (runs_with s.rules deliveries) a.0 a.2)
