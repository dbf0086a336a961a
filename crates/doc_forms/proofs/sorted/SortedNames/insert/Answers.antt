-- What the check of `SortedNames::insert` leaves to show.
use Rattle.std.proofs.Common.{arith, subst, sym}
use Rattle.doc_forms.specs.Sorted.{IsGap}
use Rattle.doc_forms.proofs.Search.{sorted_after}
use Rattle.doc_forms.proofs.sorted.SortedNames.insert.Goals as goal

pub insert-requires : goal.insert-requires
insert-requires c = let gap = subst (λ names. IsGap names c.args.name c.args.i) (sym c.self.view_is) c.requires in omega (arith, gap.in_range)

pub invariant_of-self : goal.invariant_of-self
invariant_of-self c = sorted_after c.insert.result _ _ c.args.name c.args.i c.self.invariant (subst (λ names. IsGap names c.args.name c.args.i) (sym c.self.view_is) c.requires) c.insert.ensures.ok c.insert.ensures.err
