-- What a ledger is, and what it stands for.
use Rattle.std.specs.Prelude.{◌≡◌, ℕ, suc, List, [], ◌∷◌, map, reverse}
use Rattle.std.specs.List.{All}
use Rattle.txn_types.specs.Fitting.{Fits}
use Rattle.txn_types.specs.declared.txn.Txn.{Txn}
use Rattle.txn_types.specs.declared.txn.Outcome.{Outcome}
use Rattle.oxii_defs.specs.Table.{Table}
use Rattle.oxii_defs.specs.BlockBytes.{block_hash}
use Rattle.oxii_defs.specs.Chain.{no_hash}
use Rattle.oxii_defs.specs.Lawful.{IsLawfulBlock}
use Rattle.oxii_defs.specs.Lines as lines
use Rattle.hash_ledger.specs.declared.entry.Entry.{Entry}

-- entries numbered from n on, each with the hash of the one before as its previous hash, and the first with this one
abbrev pub AreLinked : ℕ → List ℕ → List Entry → Type 0
AreLinked n prev [] = Unit {0}
AreLinked n prev (e ∷ rest) = (e.block.number ≡ n) × (e.block.prev ≡ prev) × AreLinked (suc n) e.hash rest

-- the hash of the last entry, where entries follow one with this hash
abbrev pub tip_behind : List ℕ → List Entry → List ℕ
tip_behind prev [] = prev
tip_behind prev (e ∷ rest) = tip_behind e.hash rest

-- the hash of the last entry, or that which is before block 1
abbrev pub tip_of : List Entry → List ℕ
tip_of entries = tip_behind no_hash entries

-- each entry's hash is that of its block's bytes, by the names of this table
abbrev pub AreHashed : Table → List Entry → Type 0
AreHashed table entries = All (λ e. e.hash ≡ block_hash table e.block) entries

-- one outcome for each transaction, that fits it
abbrev pub AllFit : List Txn → List Outcome → Type 0
AllFit [] [] = Unit {0}
AllFit (t ∷ txns) (o ∷ outcomes) = Fits t o × AllFit txns outcomes
AllFit _ _ = ⊥

-- a block of the table, with one outcome for each transaction, that fits it
abbrev pub IsLawfulEntry : Table → Entry → Type 0
IsLawfulEntry table e = IsLawfulBlock table e.block × AllFit e.block.txns e.outcomes

-- an entry without its hash
abbrev pub entry_of : Entry → lines.Entry
entry_of e = record { block = e.block; outcomes = e.outcomes }

abbrev pub entries_of : List Entry → List lines.Entry
entries_of entries = map entry_of entries

-- the completed blocks that a ledger stands for, the latest first
abbrev pub completed_of : List Entry → List lines.Entry
completed_of entries = reverse (entries_of entries)
