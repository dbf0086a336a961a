-- A stream, one payment after another.
use Rattle.std.proofs.Common.{◌≡◌, ℕ, suc, List, [], ◌∷◌, ◌++◌, sym, ap, ◌∙◌, append_assoc}
use Rattle.txn_types.specs.declared.stream.Item.{Item}
use Rattle.txn_types.specs.declared.stream.Item.TheVariants as item
use Rattle.txn_types.specs.declared.stream.Request.{Request}
use Rattle.soak_input.specs.Generator.{drawn_behind, next_draw, stream_behind}

-- one more payment is there, and the others are to come
pub stream_more : (x y n more : ℕ) (items new : List Item) (request : Request) →
    n ≡ suc more → request ≡ drawn_behind x → y ≡ next_draw (next_draw (next_draw (next_draw x))) → new ≡ items ++ item.Ask request ∷ [] →
    items ++ stream_behind x n ≡ new ++ stream_behind y more
stream_more x y n more items new request one drawn next put =
    let z = next_draw (next_draw (next_draw (next_draw x))) in
    ap (λ k. items ++ stream_behind x k) one
    ∙ sym (append_assoc items (item.Ask (drawn_behind x) ∷ []) (stream_behind z more))
    ∙ ap (λ q. (items ++ item.Ask q ∷ []) ++ stream_behind z more) (sym drawn)
    ∙ ap (λ (l : List Item). l ++ stream_behind z more) (sym put)
    ∙ ap (λ d. new ++ stream_behind d more) (sym next)
