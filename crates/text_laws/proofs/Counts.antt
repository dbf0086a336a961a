-- What the agreed blocks carry, list by list.
use Rattle.std.specs.Prelude.{ℕ, ◌+◌, ◌≡◌, ◌≤◌, suc, Bool, cond, List, [], ◌∷◌, length, map, Option, Some, None, is_some}
use Rattle.std.specs.List.{count_by, flat_map, sum_by}
use Rattle.std.proofs.Common.{refl, sym, ap, ◌∙◌, arith}
use Rattle.std.proofs.lemmas.List.Sums.{sum_by-append, sum_by-cons}
use Rattle.std.proofs.lemmas.List.Concat.{length-flat_map}
use Rattle.txn_types.specs.declared.block.Block.{Block}
use Rattle.txn_types.specs.declared.block.Body.{Body}
use Rattle.txn_types.specs.declared.stream.Item.{Item}
use Rattle.txn_types.specs.declared.stream.Piece.{Piece}
use Rattle.txn_types.specs.declared.stream.Piece.TheVariants as piece
use Rattle.oxii_defs.specs.Table.{Table}
use Rattle.oxii_defs.specs.BlockBytes.{block_hash}
use Rattle.oxii_defs.specs.Chain.{chain_from, no_hash}
use Rattle.node_defs.specs.Admission.{piece_of, pieces_of}
use Rattle.node_defs.specs.Cutting.{AdmittedItem, admitted, admitted_with, carried_body, config_in, mark_comes, txns_in_piece}
use Rattle.node_defs.specs.Sayings.{config_of_piece, txns_of_piece}
use Rattle.text_laws.specs.AgreedCounts.{AgreedBlocksCarryTheStream}

abbrev one_if : Bool → ℕ
one_if b = cond b 1 0

-- TRANSACTIONS

-- of an admitted item, of a list, of a body and of a block
abbrev carried : AdmittedItem → ℕ
carried x = length (txns_in_piece x.piece)

in_lists : (lists : List (List AdmittedItem)) → sum_by (λ (b : Body). length b.txns) (map carried_body lists) ≡ sum_by carried (flat_map (λ list. list) lists)
in_lists [] = refl
in_lists (list ∷ rest) =
    sum_by-cons (λ (b : Body). length b.txns) (carried_body list) (map carried_body rest)
    ∙ ap (λ n. n + sum_by (λ (b : Body). length b.txns) (map carried_body rest)) (length-flat_map (λ (x : AdmittedItem). txns_in_piece x.piece) list)
    ∙ ap (λ n. sum_by carried list + n) (in_lists rest)
    ∙ sym (sum_by-append carried list (flat_map (λ l. l) rest))

in_stream : (table : Table) (items : List Item) → sum_by carried (admitted table items) ≡ sum_by (λ p. length (txns_of_piece p)) (pieces_of table items)
in_stream table [] = refl
in_stream table (x ∷ rest) = one (piece_of table x) (in_stream table rest) ∙ sym (sum_by-cons (λ p. length (txns_of_piece p)) (piece_of table x) (pieces_of table rest))
  where
    one : (p : Option Piece) → sum_by carried (admitted table rest) ≡ sum_by (λ q. length (txns_of_piece q)) (pieces_of table rest) →
        sum_by carried (admitted_with p (mark_comes table rest) (admitted table rest)) ≡ length (txns_of_piece p) + sum_by (λ q. length (txns_of_piece q)) (pieces_of table rest)
    one None h = omega (arith, h)
    one (Some (piece.Call t)) h = sum_by-cons carried (record { piece = piece.Call t; marked = mark_comes table rest }) (admitted table rest) ∙ omega (arith, h)
    one (Some (piece.Config c)) h = sum_by-cons carried (record { piece = piece.Config c; marked = mark_comes table rest }) (admitted table rest) ∙ omega (arith, h)

in_blocks : (table : Table) (n : ℕ) (prev : List ℕ) (bodies : List Body) → sum_by (λ (b : Block). length b.txns) (chain_from table n prev bodies) ≡ sum_by (λ (b : Body). length b.txns) bodies
in_blocks table n prev [] = refl
in_blocks table n prev (body ∷ rest) =
    let block : Block = record { number = n; prev = prev; txns = body.txns; config = body.config } in
    sum_by-cons (λ (b : Block). length b.txns) block (chain_from table (suc n) (block_hash table block) rest)
    ∙ ap (λ k. length body.txns + k) (in_blocks table (suc n) (block_hash table block) rest)
    ∙ sym (sum_by-cons (λ (b : Body). length b.txns) body rest)

-- CONFIGURATIONS

abbrev config_at : AdmittedItem → ℕ
config_at x = one_if (is_some (config_of_piece (Some x.piece)))

first_one : (list : List AdmittedItem) → one_if (is_some (config_in list)) ≤ sum_by config_at list
first_one [] = omega arith
first_one (x ∷ rest) = one x.piece refl
  where
    one : (p : Piece) → x.piece ≡ p → one_if (is_some (elim x.piece [ piece.Call t ↦ None | piece.Config c ↦ Some c ])) ≤ sum_by config_at (x ∷ rest)
    one (piece.Call t) e =
        let none : one_if (is_some (elim x.piece [ piece.Call u ↦ None | piece.Config c ↦ Some c ])) ≡ 0 = ap (λ q. one_if (is_some (elim q [ piece.Call u ↦ None | piece.Config c ↦ Some c ]))) e in
        omega (arith, none)
    one (piece.Config c) e =
        let some : one_if (is_some (elim x.piece [ piece.Call u ↦ None | piece.Config d ↦ Some d ])) ≡ 1 = ap (λ q. one_if (is_some (elim q [ piece.Call u ↦ None | piece.Config d ↦ Some d ]))) e in
        let here : config_at x ≡ 1 = ap (λ q. one_if (is_some (config_of_piece (Some q)))) e in
        omega (arith, some, here, sum_by-cons config_at x rest)

few_in_lists : (lists : List (List AdmittedItem)) → count_by (λ (b : Body). is_some b.config) (map carried_body lists) ≤ sum_by config_at (flat_map (λ list. list) lists)
few_in_lists [] = omega arith
few_in_lists (list ∷ rest) =
    omega (arith, sum_by-cons (λ (b : Body). one_if (is_some b.config)) (carried_body list) (map carried_body rest), first_one list, few_in_lists rest, sum_by-append config_at list (flat_map (λ l. l) rest))

few_in_stream : (table : Table) (items : List Item) → sum_by config_at (admitted table items) ≡ count_by (λ p. is_some (config_of_piece p)) (pieces_of table items)
few_in_stream table [] = refl
few_in_stream table (x ∷ rest) = one (piece_of table x) (few_in_stream table rest) ∙ sym (sum_by-cons (λ p. one_if (is_some (config_of_piece p))) (piece_of table x) (pieces_of table rest))
  where
    one : (p : Option Piece) → sum_by config_at (admitted table rest) ≡ count_by (λ q. is_some (config_of_piece q)) (pieces_of table rest) →
        sum_by config_at (admitted_with p (mark_comes table rest) (admitted table rest)) ≡ one_if (is_some (config_of_piece p)) + count_by (λ q. is_some (config_of_piece q)) (pieces_of table rest)
    one None h = omega (arith, h)
    one (Some (piece.Call t)) h = sum_by-cons config_at (record { piece = piece.Call t; marked = mark_comes table rest }) (admitted table rest) ∙ omega (arith, h)
    one (Some (piece.Config c)) h = sum_by-cons config_at (record { piece = piece.Config c; marked = mark_comes table rest }) (admitted table rest) ∙ omega (arith, h)

few_in_blocks : (table : Table) (n : ℕ) (prev : List ℕ) (bodies : List Body) → count_by (λ (b : Block). is_some b.config) (chain_from table n prev bodies) ≡ count_by (λ (b : Body). is_some b.config) bodies
few_in_blocks table n prev [] = refl
few_in_blocks table n prev (body ∷ rest) =
    let block : Block = record { number = n; prev = prev; txns = body.txns; config = body.config } in
    sum_by-cons (λ (b : Block). one_if (is_some b.config)) block (chain_from table (suc n) (block_hash table block) rest)
    ∙ ap (λ k. one_if (is_some body.config) + k) (few_in_blocks table (suc n) (block_hash table block) rest)
    ∙ sym (sum_by-cons (λ (b : Body). one_if (is_some b.config)) body rest)

-- BOTH

pub carry_the_stream : AgreedBlocksCarryTheStream
carry_the_stream table limits items bodies (lists, cutting, are) = (
  in_blocks table 1 no_hash bodies ∙ ap (sum_by (λ (b : Body). length b.txns)) are ∙ in_lists lists ∙ ap (sum_by carried) cutting.whole ∙ in_stream table items,
  omega (arith, few_in_blocks table 1 no_hash bodies, ap (count_by (λ (b : Body). is_some b.config)) are, few_in_lists lists, ap (sum_by config_at) cutting.whole, few_in_stream table items),
)
