-- What a node says with items, as the definitions have it.
use Rattle.std.specs.Prelude.{ℕ, zero, suc, ◌≡◌, ◌≤◌, List, [], ◌∷◌, map, length, get_or, slice_get, unwrap_or, Option, Some, None, refl}
use Rattle.std.specs.Option.{option_or}
use Rattle.std.proofs.Common.{sym, ◌∙◌, ap, subst, arith}
use Rattle.std.proofs.lemmas.List.{length-append}
use Rattle.txn_types.specs.declared.block.Block.{Block}
use Rattle.txn_types.specs.declared.stream.Piece.{Piece}
use Rattle.txn_types.specs.declared.stream.Piece.TheVariants as piece
use Rattle.txn_types.specs.declared.message.Commit.{Commit}
use Rattle.txn_types.specs.declared.message.Node.{Node}
use Rattle.txn_types.specs.declared.message.Message.{Message}
use Rattle.txn_types.specs.declared.message.Message.TheVariants as message
use Rattle.txn_types.specs.declared.event.Event.TheVariants as event
use Rattle.oxii_defs.specs.Chain.{no_hash}
use Rattle.oxii_defs.specs.State.{State}
use Rattle.oxii_defs.specs.Lawful.{IsLawfulBody}
use Rattle.oxii_defs.specs.Table as meant
use Rattle.oxii_defs.specs.BlockBytes.{block_hash}
use Rattle.txn_core.specs.declared.table.Table.{Table}
use Rattle.txn_core.specs.MeantTable.{table_of}
use Rattle.node_defs.specs.LawfulItems.{AreLawfulPieces}
use Rattle.node_defs.specs.Rules.{Rules}
use Rattle.node_defs.specs.Programs.{rules_of}
use Rattle.node_defs.specs.World.{Setting, says}
use Rattle.node_defs.specs.Sayings.{config_named, said_block, said_newblock, txns_named, txns_of_piece}
use Rattle.node_defs.specs.LawfulEvents.{AreNamed}
use Rattle.node_defs.proofs.NamedItems.{named_items_are_lawful}
use Rattle.world_laws.specs.Worlds.{CanTake, Follows, IsSettingOf, KeptWorld, setting_with, with_said}
use Rattle.world_laws.proofs.Moving.{follows_said}

-- THE SAME MESSAGE

said_same : (k : KeptWorld) (genesis : State) (s : Setting) (number : ℕ) (prev : Option (List ℕ)) (items : List ℕ) (preds : Option (List (List ℕ))) → IsSettingOf k genesis s →
    said_newblock k.table.kind (said_block k.hashes k.pieces number prev items) preds ≡ said_newblock s.rules.table.kind (said_block (map s.rules.hash s.chain) s.pieces number prev items) preds
said_same k genesis s number prev items preds v =
    let hash_is : block_hash (table_of k.table) ≡ s.rules.hash = sym (ap (λ (r : Rules). r.hash) v.rules_are) in
    ap (λ kind. said_newblock kind (said_block k.hashes k.pieces number prev items) preds) (sym (ap (λ (r : Rules). r.table.kind) v.rules_are))
    ∙ (ap (λ hs. said_newblock s.rules.table.kind (said_block hs k.pieces number prev items) preds) (v.hashes_are ∙ ap (λ (h : Block → List ℕ). map h s.chain) hash_is)
    ∙ ap (λ ps. said_newblock s.rules.table.kind (said_block (map s.rules.hash s.chain) ps number prev items) preds) (sym v.pieces_are))

pub follows_block : (k : KeptWorld) (workers : ℕ) (from : Node) (number : ℕ) (prev : Option (List ℕ)) (items : List ℕ) (preds : Option (List (List ℕ))) (m : Message) (n : ℕ) →
    m ≡ said_newblock k.table.kind (said_block k.hashes k.pieces number prev items) preds → length items ≡ n →
    Follows workers k (event.SayBlock from number prev items preds ∷ []) (with_said k from m n)
follows_block k workers from number prev items preds m n e c = follows_said k workers (event.SayBlock from number prev items preds) from m n refl c
    (λ genesis s before v w. sym (ap (λ x. Some (says w from x)) (e ∙ said_same k genesis s number prev items preds v.setting)))
    (λ s w. refl)

pub follows_commit : (k : KeptWorld) (workers : ℕ) (from : Node) (c : Commit) → Follows workers k (event.SayCommit from c ∷ []) (with_said k from (message.Commit c) 0)
follows_commit k workers from c = follows_said k workers (event.SayCommit from c) from (message.Commit c) 0 refl refl (λ genesis s before v w. refl) (λ s w. refl)

-- WHAT ITEMS CARRY

no_more : (p : Option Piece) → length (txns_of_piece p) ≤ 1
no_more None = omega arith
no_more (Some (piece.Call t)) = omega arith
no_more (Some (piece.Config c)) = omega arith

pub few_named : (pieces : List (Option Piece)) (items : List ℕ) → length (txns_named pieces items) ≤ length items
few_named pieces [] = omega arith
few_named pieces (i ∷ rest) =
    omega (arith, no_more (get_or pieces i None), few_named pieces rest, length-append (txns_of_piece (get_or pieces i None)) (txns_named pieces rest))

-- what a false block that can be said carries
pub said_body_lawful : (k : KeptWorld) (genesis : State) (from : Node) (number : ℕ) (prev : Option (List ℕ)) (items : List ℕ) (preds : Option (List (List ℕ))) → AreLawfulPieces (table_of k.table) k.pieces →
    CanTake k (event.SayBlock from number prev items preds ∷ []) → IsLawfulBody (table_of k.table) (txns_named k.pieces items) (config_named k.pieces items)
said_body_lawful k genesis from number prev items preds a c =
    named_items_are_lawful (table_of k.table) (setting_with (table_of k.table) genesis [] k.pieces k.faulty) items a (c.each genesis 0 (event.SayBlock from number prev items preds) (omega arith)).named
