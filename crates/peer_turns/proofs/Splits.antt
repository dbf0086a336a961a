-- A halt of a lawful block is lawful.
use Rattle.std.specs.Prelude.{ℕ, suc, ◌≡◌, Bool, true, false, cond, List, [], ◌∷◌, length, Option, Some, None, IfSome}
use Rattle.std.specs.List.{All, AllByRecursion}
use Rattle.std.specs.Option.{option_map, option_or, unwrap_or}
use Rattle.std.proofs.Common.{refl, sym, ◌∙◌, ap, subst, arith}
use Rattle.std.proofs.lemmas.Option.{none-some}
use Rattle.std.proofs.lemmas.List.Elements.{All-tail}
use Rattle.txn_types.specs.Fitting.{Fits}
use Rattle.txn_types.specs.declared.block.Config.{Config}
use Rattle.txn_types.specs.declared.message.Split.{Split}
use Rattle.txn_types.specs.declared.txn.Outcome.{Outcome}
use Rattle.txn_types.specs.declared.txn.Outcome.TheVariants.{Commit, Abort}
use Rattle.txn_types.specs.declared.txn.Txn.{Txn}
use Rattle.oxii_defs.specs.Table.{Table}
use Rattle.oxii_defs.specs.Lawful.{IsLawfulTxn, IsRecord, IsLawfulBody}
use Rattle.known_defs.specs.Known.{no_txn}
use Rattle.txn_core.proofs.StateLemmas.{fit_length}
use Rattle.node_defs.specs.Ledger.{Halt, differs, first_halt, halt_at}
use Rattle.node_laws.proofs.LawfulBlockLemmas.{body_txns}
use Rattle.hash_ledger.specs.Halts.{IsLawfulSplit, IsWhole, halt_of}
use Rattle.steal_pool.specs.Fitting.{AllFitAt}
use Rattle.peer_parts.specs.Judging.{stand, stand_all}

-- records of the table, and both outcomes are theirs
record IsLawfulHalt (table : Table) (h : Halt) : Type 0 where
  pub records : AllByRecursion (IsRecord table) h.writes
  pub ran : IsWhole (length h.writes) h.ran
  pub voted : IsWhole (length h.writes) h.voted

-- what fits has an entry for each record
whole : (t : Txn) (o : Outcome) → Fits t o → IsWhole (length t.writes) o
whole t (Commit entries) h = fit_length t.writes entries h
whole t (Abort r) h = tt

-- the halt of a position that ran and is agreed otherwise
one_halt : (table : Table) (n t : ℕ) (txn : Txn) (own : Bool) (k a : Option Outcome) (h : Halt) → IsLawfulTxn table txn → ((o : Outcome) → k ≡ Some o → Fits txn o) → ((o : Outcome) → a ≡ Some o → Fits txn o) → halt_at n t txn (stand own k a) ≡ Some h → IsLawfulHalt table h
one_halt table n t txn false k a h lawful known agreed e = absurd (none-some h e)
one_halt table n t txn true None a h lawful known agreed e = absurd (none-some h e)
one_halt table n t txn true (Some x) None h lawful known agreed e = absurd (none-some h e)
one_halt table n t txn true (Some x) (Some y) h lawful known agreed e = one (differs (stand true (Some x) (Some y))) e
  where
    one : (b : Bool) → cond b (Some (record { n = n; t = t; writes = txn.writes; ran = x; voted = y })) None ≡ Some h → IsLawfulHalt table h
    one false f = absurd (none-some h f)
    one true f = subst (IsLawfulHalt table) (ap (λ (o : Option Halt). unwrap_or o h) f) (record { records = lawful.writes; ran = whole txn x (known x refl); voted = whole txn y (agreed y refl) })

-- that of the lowest such position
lowest_halt : (table : Table) (n t : ℕ) (txns : List Txn) (own : List Bool) (known agreed : List (Option Outcome)) (h : Halt) → All (IsLawfulTxn table) txns → AllFitAt txns known → AllFitAt txns agreed → first_halt n t txns (stand_all own known agreed) ≡ Some h → IsLawfulHalt table h
lowest_halt table n t [] own known agreed h lawful fits agree e = absurd (none-some h e)
lowest_halt table n t (x ∷ txns) [] known agreed h lawful fits agree e = absurd (none-some h e)
lowest_halt table n t (x ∷ txns) (b ∷ own) [] agreed h lawful fits agree e = absurd (none-some h e)
lowest_halt table n t (x ∷ txns) (b ∷ own) (k ∷ known) [] h lawful fits agree e = absurd (none-some h e)
lowest_halt table n t (x ∷ txns) (b ∷ own) (k ∷ known) (a ∷ agreed) h lawful fits agree e =
    one (halt_at n t x (stand b k a)) refl e (λ f. lowest_halt table n (suc t) txns own known agreed h (All-tail (IsLawfulTxn table) x txns lawful) (λ u o s. fits (suc u) o s) (λ u o s. agree (suc u) o s) f)
  where
    one : (o : Option Halt) → halt_at n t x (stand b k a) ≡ o → option_or o (first_halt n (suc t) txns (stand_all own known agreed)) ≡ Some h → (first_halt n (suc t) txns (stand_all own known agreed) ≡ Some h → IsLawfulHalt table h) → IsLawfulHalt table h
    one None i f more = more f
    one (Some g) i f more = one_halt table n t x b k a h (lawful 0 no_txn (omega arith)) (λ o s. fits 0 o s) (λ o s. agree 0 o s) (i ∙ f)

pub split_lawful : (table : Table) (n : ℕ) (txns : List Txn) (config : Option Config) (own : List Bool) (known agreed : List (Option Outcome)) (split : Option Split) → IsLawfulBody table txns config → AllFitAt txns known → AllFitAt txns agreed
    → option_map halt_of split ≡ first_halt n 0 txns (stand_all own known agreed) → IfSome split (IsLawfulSplit table)
split_lawful table n txns config own known agreed None lawful fits agree e = tt
split_lawful table n txns config own known agreed (Some s) lawful fits agree e =
    let h = lowest_halt table n 0 txns own known agreed (halt_of s) (body_txns table txns config lawful) fits agree (sym e) in
    record { records = h.records; ran = h.ran; voted = h.voted }
