-- What stands for a number has its block among the kept ones, and what has a block is found.
use Rattle.std.specs.Prelude.{ℕ, ◌==◌, ◌≡◌, Bool, true, false, cond, List, [], ◌∷◌, map, Contains, Option, Some, None, IfSome, option_copied, refl}
use Rattle.std.specs.List.{All, find}
use Rattle.std.proofs.Common.{Bor, ap, arith, subst, sym, ◌∙◌}
use Rattle.std.proofs.lemmas.List.{get_or-map, length-map}
use Rattle.std.proofs.lemmas.List.Elements.{All-head, All-tail}
use Rattle.keyed_lists.specs.Keyed.{items_of}
use Rattle.keyed_lists.proofs.Among.{items_have}
use Rattle.txn_types.specs.declared.block.Block.{Block}
use Rattle.txn_types.specs.declared.txn.Kind.{Kind}
use Rattle.node_defs.specs.Same.{same_block}
use Rattle.node_defs.proofs.SameLemmas.{same_block_decides}
use Rattle.newblock_quorum.specs.declared.entry.Received.{Received}
use Rattle.newblock_quorum.specs.Entries.{HasGraph, IsKeptFor, blocks_of, received_for}

among : (received : List Received) (e : Received) → Contains received e → Contains (map (λ e. e.block) received) e.block
among received e h = (h.0, omega (arith, h.1, length-map received (λ (x : Received). x.block)), get_or-map (λ (x : Received). x.block) received h.0 e e.block h.1 ∙ ap (λ (x : Received). x.block) h.2)

pub block_held : (n : ℕ) (entries : List (ℕ × List Received)) (received : List Received) (e : Received) → received ≡ received_for n entries → Contains received e → Contains (blocks_of entries) e.block
block_held n entries received e same h = among (items_of entries) e (items_have (λ k. n == k) entries e (subst (λ es. Contains es e) same h))

-- what is found has the block, and what holds of all
found : (P : Received → Type 0) (block : Block) (received : List Received) → All P received → IfSome (find (λ e. same_block e.block block) received) (λ e. (e.block ≡ block) × P e)
found P block [] all = tt
found P block (e ∷ rest) all = one (same_block e.block block) refl (found P block rest (All-tail P e rest all))
  where
    one : (b : Bool) → same_block e.block block ≡ b → IfSome (find (λ e. same_block e.block block) rest) (λ e. (e.block ≡ block) × P e) → IfSome (cond b (Some e) (find (λ e. same_block e.block block) rest)) (λ e. (e.block ≡ block) × P e)
    one true is more = ((same_block_decides e.block block).0 is, All-head P e rest all)
    one false is more = more

pub is_held : {n : ℕ} (kind : Kind) (block : Block) (received : List Received) (result : Option (Bor Received)) → option_copied result ≡ find (λ e. same_block e.block block) received → All (IsKeptFor kind n) received → IfSome result (λ e. (e.now.block ≡ block) × HasGraph kind e.now)
is_held kind block received None is all = tt
is_held {n} kind block received (Some e) is all =
    let h = subst (λ (o : Option Received). IfSome o (λ x. (x.block ≡ block) × IsKeptFor kind n x)) (sym is) (found (IsKeptFor kind n) block received all) in
    (h.0, h.1.graph)
