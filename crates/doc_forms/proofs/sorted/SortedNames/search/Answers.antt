-- What the check of `SortedNames::search` leaves to show.
use Rattle.std.proofs.Common.{rules}
use Rattle.std.proofs.lemmas.Fn.{always_returns_same}
use Rattle.doc_forms.specs.Sorted.{order}
use Rattle.doc_forms.proofs.Search.{search_ends}
use Rattle.doc_forms.proofs.sorted.SortedNames.search.Goals as goal

pub returns : goal.returns
returns c =
    let facts = c.binary_search_by.ensures in
    let by_order = facts.position (λ n. order n c.args.text.now) (always_returns_same _ _ _ (λ a r g called. search rules)) in
    rw (← c.self.view_is, ← c.as_slice.ensures) (search_ends _ c.args.text.now (rw c.as_slice.ensures c.self.invariant) _ facts.bound by_order)
