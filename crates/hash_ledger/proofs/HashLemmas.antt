-- The tip of a ledger whose entries have the hashes of their blocks.
use Rattle.std.specs.Prelude.{ℕ, ◌≡◌, List, [], ◌∷◌, ◌++◌, refl}
use Rattle.std.proofs.Common.{sym, ◌∙◌, ap}
use Rattle.std.proofs.lemmas.List.{append-nil, append_assoc, reverse-append}
use Rattle.std.proofs.lemmas.List.Elements.{All-head, All-tail}
use Rattle.oxii_defs.specs.State.{State}
use Rattle.oxii_defs.specs.Table.{Table}
use Rattle.oxii_defs.specs.BlockBytes.{block_hash}
use Rattle.oxii_defs.specs.Chain.{no_hash}
use Rattle.oxii_defs.specs.Lines as lines
use Rattle.node_defs.specs.Accepted.{tip}
use Rattle.node_defs.specs.Programs.{rules_of}
use Rattle.hash_ledger.specs.declared.entry.Entry.{Entry}
use Rattle.hash_ledger.specs.Ledgers.{AreHashed, tip_behind, tip_of, entry_of, entries_of, completed_of}

abbrev HasItsHash : Table → Entry → Type 0
HasItsHash table e = e.hash ≡ block_hash table e.block

-- the tip behind entries that follow these blocks, the latest of which has this hash
tip_from : (table : Table) (genesis : State) (prev : List ℕ) (before : List lines.Entry) (entries : List Entry) → prev ≡ tip (rules_of table genesis) before → AreHashed table entries → tip_behind prev entries ≡ tip (rules_of table genesis) (completed_of entries ++ before)
tip_from table genesis prev before [] same hashed = same
tip_from table genesis prev before (e ∷ rest) same hashed =
    tip_from table genesis e.hash (entry_of e ∷ before) rest (All-head (HasItsHash table) e rest hashed) (All-tail (HasItsHash table) e rest hashed)
    ∙ ap (tip (rules_of table genesis)) (sym (ap (λ (xs : List lines.Entry). xs ++ before) (reverse-append (entry_of e ∷ []) (entries_of rest)) ∙ append_assoc (completed_of rest) (entry_of e ∷ []) before))

pub tip_hashed : (table : Table) (genesis : State) (entries : List Entry) → AreHashed table entries → tip_of entries ≡ tip (rules_of table genesis) (completed_of entries)
tip_hashed table genesis entries hashed = tip_from table genesis no_hash [] entries refl hashed ∙ ap (tip (rules_of table genesis)) (append-nil (completed_of entries))
