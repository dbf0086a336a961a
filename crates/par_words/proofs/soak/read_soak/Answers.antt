-- What the check of `read_soak` leaves to show.
use Rattle.std.proofs.Common.{◌≡◌, None, map, string_bytes, rules}
use Rattle.std.specs.declared.alloc.Global.{Global}
use Rattle.clap.specs.Words.{found_of}
use Rattle.par_words.specs.OptionUses.{uses_in}
use Rattle.par_words.specs.CommandOptions.{soak_options, IsSoakOf}
use Rattle.par_words.proofs.SoakWords.{soak_not_read, no_seed, no_txns, no_workers, one_soak}
use Rattle.par_words.proofs.soak.read_soak.Goals as goal

pub returns-in_default : goal.returns-in_default
returns-in_default c =
    let none : uses_in soak_options (map (string_bytes {Z = Global}) c.args.words.now) ≡ None = search rules in
    soak_not_read _ none

pub returns-in_default-seed_of : goal.returns-in_default-seed_of
returns-in_default-seed_of c =
    let found : IsSoakOf (found_of c.in-Some.matches) (map (string_bytes {Z = Global}) c.args.words.now) = search rules in
    no_seed _ _ _ found c.get_str.ensures c.in_default-seed_of.ensures

pub returns-in_default-txns_of : goal.returns-in_default-txns_of
returns-in_default-txns_of c =
    let found : IsSoakOf (found_of c.in-Some.matches) (map (string_bytes {Z = Global}) c.args.words.now) = search rules in
    no_txns _ _ _ found c.get_str-2.ensures c.in_default-txns_of.ensures

pub returns-in_default-workers_of : goal.returns-in_default-workers_of
returns-in_default-workers_of c =
    let found : IsSoakOf (found_of c.in-Some.matches) (map (string_bytes {Z = Global}) c.args.words.now) = search rules in
    no_workers _ _ _ found c.get_str-3.ensures c.in_default-workers_of.ensures

pub returns : goal.returns
returns c =
    let found : IsSoakOf (found_of c.in-Some.matches) (map (string_bytes {Z = Global}) c.args.words.now) = search rules in
    one_soak _ _ _ _ _ _ _ _ found c.get_str.ensures c.in-Some-seed_of.ensures c.get_str-2.ensures c.in-Some-txns_of.ensures c.get_str-3.ensures c.in-Some-workers_of.ensures
