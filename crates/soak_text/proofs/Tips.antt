-- The hash of the last block of a ledger.
use Rattle.std.proofs.Common.{◌≡◌, ◌<◌, ℕ, zero, suc, ◌+◌, List, [], ◌∷◌, ◌++◌, length, map, Some, slice_get, sym, ap, subst, ◌∙◌, arith, append_assoc, append-nil}
use Rattle.std.specs.List.{All}
use Rattle.std.proofs.lemmas.List.{reverse-append}
use Rattle.std.proofs.lemmas.List.Elements.{All-head, All-tail}
use Rattle.txn_types.specs.declared.block.Block.{Block}
use Rattle.oxii_defs.specs.State.{State}
use Rattle.oxii_defs.specs.Table.{Table}
use Rattle.oxii_defs.specs.BlockBytes.{block_hash}
use Rattle.oxii_defs.specs.Lawful.{IsLawfulBlock}
use Rattle.oxii_defs.specs.Lines as lines
use Rattle.node_defs.specs.Accepted.{tip}
use Rattle.node_defs.specs.Programs.{rules_of}
use Rattle.hash_ledger.specs.declared.entry.Entry.{Entry}
use Rattle.hash_ledger.specs.Ledgers.{completed_of, entry_of, entries_of, IsLawfulEntry}

same_block : (b c : Block) → Some b ≡ Some c → b ≡ c
same_block b c h = cc

-- behind entries that stand before it
tip_behind : (table : Table) (genesis : State) (before : List lines.Entry) (es : List Entry) (n : ℕ) (b : Block) → suc n ≡ length es → slice_get (map (λ e. e.block) es) n ≡ Some b →
    block_hash table b ≡ tip (rules_of table genesis) (completed_of es ++ before)
tip_behind table genesis before [] n b last is = absurd (omega arith)
tip_behind table genesis before (e ∷ []) zero b last is = ap (block_hash table) (sym (same_block e.block b is))
tip_behind table genesis before (e ∷ []) (suc n) b last is = absurd (omega arith)
tip_behind table genesis before (e ∷ f ∷ rest) zero b last is = absurd (omega arith)
tip_behind table genesis before (e ∷ f ∷ rest) (suc n) b last is =
    tip_behind table genesis (entry_of e ∷ before) (f ∷ rest) n b (omega arith) is
    ∙ ap (tip (rules_of table genesis)) (sym (ap (λ (xs : List lines.Entry). xs ++ before) (reverse-append (entry_of e ∷ []) (entries_of (f ∷ rest))) ∙ append_assoc (completed_of (f ∷ rest)) (entry_of e ∷ []) before))

pub tip_is : (table : Table) (genesis : State) (es : List Entry) (n : ℕ) (b : Block) → n + 1 ≡ length es → slice_get (map (λ e. e.block) es) n ≡ Some b →
    block_hash table b ≡ tip (rules_of table genesis) (completed_of es)
tip_is table genesis es n b last is = tip_behind table genesis [] es n b (omega arith) is ∙ ap (tip (rules_of table genesis)) (append-nil (completed_of es))

-- a block of lawful entries is lawful
pub block_lawful : (table : Table) (es : List Entry) (n : ℕ) (b : Block) → n < length es → slice_get (map (λ e. e.block) es) n ≡ Some b → All (IsLawfulEntry table) es → IsLawfulBlock table b
block_lawful table [] n b lt is all = absurd (omega arith)
block_lawful table (e ∷ es) zero b lt is all = subst (IsLawfulBlock table) (same_block e.block b is) (All-head (IsLawfulEntry table) e es all).0
block_lawful table (e ∷ es) (suc n) b lt is all = block_lawful table es n b (omega arith) is (All-tail (IsLawfulEntry table) e es all)
