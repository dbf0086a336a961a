-- Lists of admitted transactions, as one grows and is closed.
use Rattle.std.proofs.Common.{◌≡◌, ℕ, ◌+◌, ◌<◌, ◌≤◌, Bool, false, List, [], ◌∷◌, ◌++◌, length, Option, Some, None, refl, sym, ap, ◌∙◌, arith}
use Rattle.std.specs.List.{All, AllByRecursion, flat_map}
use Rattle.std.proofs.lemmas.List.{append-nil, length-append}
use Rattle.std.proofs.lemmas.List.Concat.{flat_map-append}
use Rattle.std.proofs.lemmas.List.Elements.{All-nil, All-cons}
use Rattle.txn_types.specs.declared.txn.Txn.{Txn}
use Rattle.txn_types.specs.declared.block.Body.{Body}
use Rattle.txn_types.specs.declared.block.Config.{Config}
use Rattle.txn_types.specs.declared.stream.CutLimits.{CutLimits}
use Rattle.txn_types.specs.declared.stream.Piece.{Piece}
use Rattle.txn_types.specs.declared.stream.Piece.TheVariants as piece
use Rattle.oxii_defs.specs.Table.{Table}
use Rattle.oxii_defs.specs.Lawful.{IsLawfulTxn, IsLawfulBody}
use Rattle.oxii_defs.specs.BlockBytes.{txn_bytes}
use Rattle.node_defs.specs.Cutting.{AdmittedItem, txns_in, txns_in_piece, bytes_in, config_in, carried_body, IsCall, IsAlone, HasNoMark, IsPart, last_marked}
use Rattle.block_cutter.specs.Standing.{block_of, IsOpen}

pub all_push : {X : Type 0} (P : X → Type 0) (xs : List X) (x : X) → AllByRecursion P xs → P x → AllByRecursion P (xs ++ x ∷ [])
all_push P [] x all p = (p, tt)
all_push P (y ∷ ys) x all p = (all.0, all_push P ys x all.1 p)

pub last_push : (xs : List AdmittedItem) (x : AdmittedItem) → last_marked (xs ++ x ∷ []) ≡ x.marked
last_push [] x = refl
last_push (y ∷ []) x = refl
last_push (y ∷ z ∷ rest) x = last_push (z ∷ rest) x

pub unmarked_push : (xs : List AdmittedItem) (x : AdmittedItem) → (0 < length xs → last_marked xs ≡ false) → HasNoMark xs → HasNoMark (xs ++ x ∷ [])
unmarked_push [] x e m = tt
unmarked_push (y ∷ []) x e m = (e (omega arith), tt)
unmarked_push (y ∷ z ∷ rest) x e m = (m.0, unmarked_push (z ∷ rest) x (λ h. e (omega arith)) m.1)

-- a transaction that is admitted
abbrev pub call : Txn → Bool → AdmittedItem
call t m = record { piece = piece.Call t; marked = m }

pub txns_push : (xs : List AdmittedItem) (t : Txn) (m : Bool) → txns_in (xs ++ call t m ∷ []) ≡ txns_in xs ++ t ∷ []
txns_push xs t m = flat_map-append (λ (x : AdmittedItem). txns_in_piece x.piece) xs (call t m ∷ [])

pub bytes_push : (table : Table) (xs : List AdmittedItem) (t : Txn) (m : Bool) → bytes_in table (xs ++ call t m ∷ []) ≡ bytes_in table xs + length (txn_bytes table t)
bytes_push table xs t m =
    let a : bytes_in table (xs ++ call t m ∷ []) ≡ length (flat_map (txn_bytes table) (txns_in xs ++ t ∷ [])) = ap (λ (ts : List Txn). length (flat_map (txn_bytes table) ts)) (txns_push xs t m) in
    let b = ap length (flat_map-append (txn_bytes table) (txns_in xs) (t ∷ [])) in
    let c = length-append (flat_map (txn_bytes table) (txns_in xs)) (txn_bytes table t ++ []) in
    let d = ap length (append-nil (txn_bytes table t)) in
    omega (arith, a, b, c, d)

one_txn : (x : AdmittedItem) → IsCall x → length (txns_in_piece x.piece) ≡ 1
one_txn x (t, e) = ap (λ (p : Piece). length (txns_in_piece p)) e

pub count : (xs : List AdmittedItem) → AllByRecursion IsCall xs → length (txns_in xs) ≡ length xs
count [] calls = refl
count (x ∷ xs) calls = omega (arith, length-append (txns_in_piece x.piece) (txns_in xs), one_txn x calls.0, count xs calls.1)

no_config : (xs : List AdmittedItem) → AllByRecursion IsCall xs → config_in xs ≡ None
no_config [] calls = refl
no_config (x ∷ xs) calls = ap (λ (p : Piece). elim p as (λ q. Option Config) [ piece.Call t ↦ None | piece.Config c ↦ Some c ]) calls.0.1

alone : (xs : List AdmittedItem) → AllByRecursion IsCall xs → IsAlone xs
alone [] calls = tt
alone (x ∷ []) calls = tt
alone (x ∷ y ∷ rest) calls = calls

-- an open block that has transactions is a part of a cutting
pub open_part : (table : Table) (limits : CutLimits) (txns : List Txn) (bytes : ℕ) (current : List AdmittedItem) → IsOpen table limits txns bytes current → 0 < length current → IsPart table limits current
open_part table limits txns bytes current open_block filled = record {
  filled = filled;
  alone = alone current open_block.calls;
  few = omega (arith, open_block.few, count current open_block.calls);
  small = omega (arith, open_block.small, open_block.counted);
  unmarked = open_block.unmarked;
}

block_filled : (txns : List Txn) → 0 < length txns → block_of txns ≡ record { txns = txns; config = None } ∷ []
block_filled [] filled = absurd (omega arith)
block_filled (t ∷ rest) filled = refl

-- its block
pub open_block : (table : Table) (limits : CutLimits) (txns : List Txn) (bytes : ℕ) (current : List AdmittedItem) → IsOpen table limits txns bytes current → 0 < length current → block_of txns ≡ carried_body current ∷ []
open_block table limits txns bytes current o filled =
    let n = count current o.calls in
    ap block_of o.carried ∙ block_filled (txns_in current) (omega (arith, n, filled))
    ∙ ap (λ (c : Option Config). record { txns = txns_in current; config = c } ∷ []) (sym (no_config current o.calls))

-- it is lawful, where it has no more than 256 transactions
pub block_lawful : (table : Table) (txns : List Txn) → All (IsLawfulTxn table) txns → length txns ≤ 256 → All (λ b. IsLawfulBody table b.txns b.config) (block_of txns)
block_lawful table [] lawful few = All-nil _
block_lawful table (t ∷ rest) lawful few =
    let P : Body → Type 0 = λ b. IsLawfulBody table b.txns b.config in
    All-cons P (record { txns = t ∷ rest; config = None }) [] ((omega arith, few), lawful) (All-nil P)
