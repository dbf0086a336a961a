-- What the check of `Touches::word` leaves to show.
use Rattle.std.proofs.Common.{◌≡◌, true, ℕ, List, subst}
use Rattle.txn_types.specs.declared.txn.Kind.{Kind}
use Rattle.oxii_defs.specs.Dependency.{depends}
use Rattle.txn_core.specs.Touching.{Unites}
use Rattle.txn_core.proofs.TouchLemmas.{full_marked, united}
use Rattle.txn_core.proofs.touches.Touches.word.Goals as goal

pub returns-in-Full : goal.returns-in-Full
returns-in-Full c = λ p earlier at entered depend.
    let later = c.args.later.now in
    let Read : List ℕ → Type 0 = λ records. Unites c.args.self.now.readers.words records c.args.word c.union.result in
    let Wrote : List ℕ → Type 0 = λ records. Unites c.args.self.now.writers.words records c.args.word c.union-in-Full.result in
    let Rewrote : List ℕ → Type 0 = λ records. Unites c.args.self.now.writers.words records c.args.word c.union-in-Full-2.result in
    let Depend : Kind → Type 0 = λ kind. depends kind earlier later ≡ true in
    full_marked c.args.self.now.readers.words c.args.self.now.writers.words p c.args.word c.union.result c.union-in-Full.result c.union-in-Full-2.result earlier later at entered
    (subst Read c.as_slice.ensures.items c.union.ensures)
    (subst Wrote c.as_slice-in-Full.ensures.items c.union-in-Full.ensures)
    (subst Rewrote c.as_slice-in-Full-2.ensures.items c.union-in-Full-2.ensures)
    (subst Depend c.in-Full.is depend)

pub returns-in-Raw : goal.returns-in-Raw
returns-in-Raw c = λ p earlier at entered depend.
    let later = c.args.later.now in
    let Wrote : List ℕ → Type 0 = λ records. Unites c.args.self.now.writers.words records c.args.word c.union-in-Raw.result in
    let Depend : Kind → Type 0 = λ kind. depends kind earlier later ≡ true in
    united c.args.self.now.writers.words earlier.writes later.reads p c.args.word c.union-in-Raw.result at entered.writes
    (subst Wrote c.as_slice-in-Raw.ensures.items c.union-in-Raw.ensures) (subst Depend c.in-Raw.is depend)
