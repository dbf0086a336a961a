-- Where the words keep versions, these are as promised.
use Rattle.std.proofs.Common.{◌+◌, inl, inr, ⊎_elim, length, ap, ◌∙◌, arith}
use Rattle.std.specs.Prelude.{is_some, nat_lt}
use Rattle.std.proofs.lemmas.Bool.{and_from, lt-ltb}
use Rattle.board_defs.specs.Closure.{known_at}
use Rattle.board_core.proofs.CellSteps.{finished_word, waited_finished}
use Rattle.board_work.specs.declared.layout.Layout.TheVariants.{Versions}
use Rattle.board_work.specs.Scripts.{writes_at, word_of, script_of}
use Rattle.script_laws.specs.Laws.{VersionsAreKept}
use Rattle.script_laws.proofs.Sound.{known_is, writer_comes}

pub versions_kept : VersionsAreKept
versions_kept plan s lawful h = let p = script_of Versions plan in record {
  outcome = λ t own. h.cells.published_as_meant t 0 own (omega arith);
  version = λ t j own l. ⊎_elim (λ z. inl z.1) (λ z. inr z.1) (h.cells.published_as_meant t (j + 1) own (omega arith));
  finished = λ t k done l. finished_word p s t k h done l;
  taken_alone = λ i v e t pos. let a = h.each i v e in let b = a.cells.published_is_begun t pos in let c = a.stamps.begun_is_taken t in omega arith;
  known = λ t j some l. h.fixed t (j + 1) (and_from (is_some (known_at plan t)) _ some (and_from (nat_lt 0 (j + 1)) (nat_lt (j + 1) (1 + length (writes_at plan t))) (lt-ltb 0 (j + 1) (omega arith)) (lt-ltb (j + 1) (1 + length (writes_at plan t)) (omega arith))))
      ∙ ap (λ o. word_of o (j + 1)) (known_is plan lawful t some);
  earlier_done = λ x t r taken l writes reads. ⊎_elim (λ known. inl known) (λ edge. inr (waited_finished p s x t h taken edge)) (writer_comes plan lawful x t r (h.counters.ready_has_no_need t (omega arith)).0 l writes reads);
}
