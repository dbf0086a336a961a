-- What the check of `BlockCutter::push` leaves to show.
use Rattle.std.proofs.Common.{◌≡◌, ◌+◌, List, [], ◌∷◌, ◌++◌, arith, ap, ◌∙◌}
use Rattle.txn_types.specs.declared.txn.Txn.{Txn}
use Rattle.txn_core.specs.MeantTable.{table_of}
use Rattle.block_cutter.specs.Standing.{block_of}
use Rattle.block_cutter.specs.declared.blocks.BlockCutter.{BlockCutter}
use Rattle.block_cutter.proofs.StandLemmas.{pushed, pushed_over, moved}
use Rattle.block_cutter.proofs.blocks.BlockCutter.push.Goals as goal
use Rattle.block_cutter.proofs.blocks.BlockCutter.push.Goals.{then-together-limits+in_ok-close, else-together-limits}

pub returns-clause-stands : goal.returns-clause-stands
returns-clause-stands c =
    let T = table_of c.args.table.now in
    let L = c.args.limits.now in
    let range = c.requires.limits in
    let old = c.args.self.now in
    let now = c.if-together-limits.self in
    let t = c.args.txn.now in
    let n = c.bytes_len-bytes.result in
    let size = c.bytes_len-bytes.ensures.length in
    let copied : c.copy.result ≡ t = c.copy.ensures in
    let put : c.push.new.self.txns ≡ now.current.txns ++ c.copy.result ∷ [] = c.in_ok-push.ensures.txns in
    let bytes : c.push.new.self.bytes ≡ now.current.bytes + n = c.in_ok-push.ensures.bytes in
    elim c.if-together-limits.branch [
      | then-together-limits+in_ok-close w ↦ λ all marked left s.
          let same = w.self-is in
          let bodies : now.bodies ≡ old.bodies ++ block_of old.current.txns = ap (λ (x : BlockCutter). x.bodies) same ∙ w.in_ok-close.ensures.bodies in
          let empty : now.current.txns ≡ [] = ap (λ (x : BlockCutter). x.current.txns) same ∙ w.in_ok-close.ensures.txns in
          let none : now.current.bytes ≡ 0 = ap (λ (x : BlockCutter). x.current.bytes) same ∙ w.in_ok-close.ensures.bytes in
          moved T L range all left marked (old.bodies ++ block_of old.current.txns) now.bodies (t ∷ []) c.push.new.self.txns n c.push.new.self.bytes
          bodies (put ∙ ap (λ (ts : List Txn). ts ++ c.copy.result ∷ []) empty ∙ ap (λ (x : Txn). x ∷ []) copied) (omega (arith, bytes, none))
          (pushed_over T L range all left t marked old.bodies old.current.txns old.current.bytes n s c.requires.txn size
          (omega (arith, c.bytes_len-bytes.ensures.short, range.bytes_from)) w.if-together-limits.true)
      | else-together-limits w ↦ λ all marked left s.
          let same = w.self-is in
          let bodies : now.bodies ≡ old.bodies = ap (λ (x : BlockCutter). x.bodies) same in
          let txns : now.current.txns ≡ old.current.txns = ap (λ (x : BlockCutter). x.current.txns) same in
          let before : now.current.bytes ≡ old.current.bytes = ap (λ (x : BlockCutter). x.current.bytes) same in
          moved T L range all left marked old.bodies now.bodies (old.current.txns ++ t ∷ []) c.push.new.self.txns (old.current.bytes + n) c.push.new.self.bytes
          bodies (put ∙ ap (λ (ts : List Txn). ts ++ c.copy.result ∷ []) txns ∙ ap (λ (x : Txn). old.current.txns ++ x ∷ []) copied) (omega (arith, bytes, before))
          (pushed T L range all left t marked old.bodies old.current.txns old.current.bytes n s c.requires.txn size c.requires.room w.if-together-limits.false)
    ]
