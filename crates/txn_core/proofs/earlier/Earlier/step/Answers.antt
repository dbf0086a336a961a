-- What the check of `Earlier::step` leaves to show.
use Rattle.std.proofs.Common.{◌<◌, length, ap, subst, arith}
use Rattle.txn_core.specs.Touching.{Part, IsEntered}
use Rattle.txn_types.specs.declared.txn.Txn.{Txn}
use Rattle.txn_core.proofs.TouchLemmas.{entered_more}
use Rattle.txn_core.proofs.earlier.Earlier.step.Goals as goal

pub invariant_of-self : goal.invariant_of-self
invariant_of-self c =
    let e = c.self.inside in
    let within : e.count < length e.txns.now = omega (arith, c.requires, ap (λ (p : Part). length p.txns) c.self.view_is, ap (λ (p : Part). p.count) c.self.view_is) in
    let IsIn : Txn → Type 0 = IsEntered c.enter.new.self.readers.words c.enter.new.self.writers.words e.count in (
      c.self.invariant.0,
      omega (arith, within),
      entered_more e.touches.readers.words e.touches.writers.words c.enter.new.self.readers.words c.enter.new.self.writers.words e.count e.txns.now c.index-txns-self.result within
          c.enter.ensures.readers c.enter.ensures.writers (subst IsIn c.index-txns-self.is c.enter.ensures.entered) c.self.invariant.2,
    )
