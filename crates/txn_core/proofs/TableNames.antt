-- What a table numbers, and what that stands for.
use Rattle.std.proofs.Common.{◌≡◌, ℕ, ◌<◌, List, [], map, length, get_or, sym, ap, ◌∙◌}
use Rattle.std.proofs.lemmas.List.{get_or-map, length-map}
use Rattle.oxii_defs.specs.Syntax as meant
use Rattle.txn_core.specs.declared.table.App.{App}
use Rattle.txn_core.specs.declared.syntax.Op.{Op}
use Rattle.txn_core.specs.Meant.{op_of}
use Rattle.txn_core.specs.MeantTable.{app_of}

-- a part of what a list stands for, at a place
pub part_at : {X Y Z : Type 0} (g : X → Y) (f : Y → Z) (xs : List X) (i : ℕ) (d : X) (e : Z) → i < length xs → f (g (get_or xs i d)) ≡ get_or (map f (map g xs)) i e
part_at g f xs i d e lt = sym (get_or-map f (map g xs) i (g d) e (rw (length-map xs g) lt) ∙ ap f (get_or-map g xs i d (g d) lt))

-- what stands at a place of a list that is equal to another
at_same : {X : Type 0} (xs ys : List X) (i : ℕ) (r : X) → xs ≡ ys → r ≡ get_or xs i r → r ≡ get_or ys i r
at_same xs ys i r same is = is ∙ ap (λ (zs : List _). get_or zs i r) same

pub app_name_at : (xs apps : List App) (i : ℕ) (r : App) → xs ≡ apps → r ≡ get_or xs i r → i < length apps → r.name ≡ get_or (map (λ a. a.name) (map app_of apps)) i []
app_name_at xs apps i r same is lt = ap (λ (a : App). a.name) (at_same xs apps i r same is) ∙ part_at app_of (λ a. a.name) apps i r [] lt

pub app_ops_at : (xs apps : List App) (i : ℕ) (r : App) → xs ≡ apps → r ≡ get_or xs i r → i < length apps → map op_of r.ops ≡ get_or (map (λ a. a.ops) (map app_of apps)) i []
app_ops_at xs apps i r same is lt = ap (λ (a : App). map op_of a.ops) (at_same xs apps i r same is) ∙ part_at app_of (λ a. a.ops) apps i r [] lt

pub op_name_at : (xs ops : List Op) (meant_ops : List meant.Op) (i : ℕ) (d : Op) → xs ≡ ops → map op_of ops ≡ meant_ops → i < length ops → (get_or xs i d).name ≡ get_or (map (λ o. o.name) meant_ops) i []
op_name_at xs ops meant_ops i d same meaning lt = ap (λ (zs : List Op). (get_or zs i d).name) same ∙ rw (← meaning) (part_at op_of (λ o. o.name) ops i d [] lt)

pub op_count : (ops : List Op) (meant_ops : List meant.Op) → map op_of ops ≡ meant_ops → length ops ≡ length meant_ops
op_count ops meant_ops meaning = rw (← meaning) (sym (length-map ops op_of))
