-- What the check of `find` leaves to show.
use Rattle.std.proofs.Common.{◌≡◌, ◌∙◌, false, sym, inl, inr, map, string_bytes}
use Rattle.std.specs.List.{list_any}
use Rattle.std.specs.declared.alloc.Global.{Global}
use Rattle.clap.proofs.WalkLemmas.{list_any-map}
use Rattle.clap.specs.Words.{kind_of}
use Rattle.par_words.specs.OptionUses.{is_stray}
use Rattle.par_words.proofs.FoundValues.{faulty, refused_so}
use Rattle.par_words.proofs.options.find.Goals as goal

pub returns-then-has_stray : goal.returns-then-has_stray
returns-then-has_stray c =
    inl (sym (list_any-map is_stray string_bytes c.args.words.now) ∙ (sym c.has_stray.ensures ∙ c.if-has_stray.true))

pub returns-in-Ok : goal.returns-in-Ok
returns-in-Ok c = record {
  plain = sym (list_any-map is_stray string_bytes c.args.words.now) ∙ (sym c.has_stray.ensures ∙ c.if-has_stray.false);
  no_fault = c.in-Ok.ensures.kinds c.requires.free;
  rows = (c.in-Ok.ensures.matches c.requires.simple).0;
}

pub returns-in-Err : goal.returns-in-Err
returns-in-Err c =
    let plain : list_any is_stray (map (string_bytes {Z = Global}) c.args.words.now) ≡ false =
    sym (list_any-map is_stray string_bytes c.args.words.now) ∙ (sym c.has_stray.ensures ∙ c.if-has_stray.false) in
    refused_so _ _ _ _ c.refused.ensures
    (λ other. inr (plain, faulty (kind_of c.in-Err.error) _ (c.in-Err.ensures.kinds c.requires.free) (λ e. other (c.kind.ensures ∙ e))))
