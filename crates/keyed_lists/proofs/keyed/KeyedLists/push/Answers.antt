-- What the check of `KeyedLists::push` leaves to show.
use Rattle.std.proofs.Common.{◌∷◌, [], ◌++◌, ◌∙◌, sym, ap, subst, is_some}
use Rattle.std.specs.BTreeMap.{get}
use Rattle.std.specs.Map.{set_value}
use Rattle.std.specs.Ordering.{eq_by_cmp}
use Rattle.std.proofs.lemmas.Map.Steps.{set_value_same}
use Rattle.std.proofs.lemmas.Result.{err_from_is_err_and}
use Rattle.keyed_lists.specs.Keyed.{IsPushed}
use Rattle.keyed_lists.proofs.KeyedLemmas.{pushed_there, pushed_first}
use Rattle.keyed_lists.proofs.keyed.KeyedLists.push.Goals as goal

pub returns-in_err-push-clause-err : goal.returns-in_err-push-clause-err
returns-in_err-push-clause-err g c =
    let p = err_from_is_err_and c.from_residual.result c.from_residual.ensures.1 in
    let test = eq_by_cmp g.K.Ord.cmp c.args.key in
    let old = c.self.inside.lists.entries in
    rw p.1 ((c.get_mut.follows.holds c.push.new.self).0 ∙ (ap (set_value test old) c.in_err-push.ensures.err ∙ (set_value_same test old c.in-Some.list.now (sym c.in-Some.ensures.value) ∙ c.self.view_is)))

pub returns-in-Some-clause-ok : goal.returns-in-Some-clause-ok
returns-in-Some-clause-ok g c =
    let cmp = g.K.Ord.cmp in
    let new = c.get_mut.follows.lender c.push.new.self in
    let found = sym c.in-Some.ensures.value in
    let writes = c.get_mut.follows.holds c.push.new.self in
    subst (λ old. IsPushed cmp old c.args.key c.args.item new.entries) c.self.view_is
    (pushed_there cmp c.self.inside.lists.entries new.entries c.args.key c.in-Some.list.now c.push.new.self c.args.item found c.in_ok-push.ensures.ok writes.0 (writes.3 (ap is_some found)).0)

pub returns-clause-ok : goal.returns-clause-ok
returns-clause-ok g c =
    let cmp = g.K.Ord.cmp in
    let key = c.args.key in
    let old = c.get_mut.follows.lender-at-none in
    let new = c.insert.new.self in
    let same = c.get_mut.follows.holds-at-none in
    let absent = ap (λ m. get cmp m key) same ∙ sym c.in_default.ensures.value in
    let one = c.in_ok-push-2.ensures.ok ∙ ap (λ xs. xs ++ c.args.item ∷ []) c.new-list.ensures in
    let put = c.in_ok-insert.ensures in
    subst (λ lists. IsPushed cmp lists key c.args.item new.entries) (ap (λ m. m.entries) same ∙ c.self.view_is)
    (pushed_first cmp old.entries new.entries key c.push-2.new.self c.args.item absent one put.entries put.updates.0)
