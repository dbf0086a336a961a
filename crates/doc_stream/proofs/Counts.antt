-- Items put with their counts stay within the limits exactly where the list does.
use Rattle.std.proofs.Common.{◌≡◌, ℕ, ◌+◌, ◌<◌, ◌≤◌, ◌++◌, List, [], ◌∷◌, refl, sym, ap, ◌∙◌, append_assoc, append-nil, cond, arith}
use Rattle.std.proofs.lemmas.List.Sums.{sum_by-cons}
use Rattle.std.specs.List.{count_by}
use Rattle.txn_types.specs.declared.block.Config.{Config}
use Rattle.txn_types.specs.declared.stream.Request.{Request}
use Rattle.txn_types.specs.declared.stream.Item.{Item}
use Rattle.txn_types.specs.declared.stream.Item.TheVariants as item
use Rattle.doc_forms.proofs.EachMeant.{put_all, AllFresh}
use Rattle.doc_stream.specs.declared.reading.Made.{Made}
use Rattle.doc_stream.specs.Stream.{no_items_yet, add_mark}
use Rattle.doc_stream.specs.StreamMeaning.{is_request, is_config}

-- an item, put behind those before it, and counted
abbrev pub put : Made → Item → Made
put made (item.Ask r) = record { items = made.items ++ item.Ask r ∷ []; requests = made.requests + 1; configs = made.configs }
put made item.Mark = add_mark made
put made (item.Config c) = record { items = made.items ++ item.Config c ∷ []; requests = made.requests; configs = made.configs + 1 }

-- there may be one more such item
abbrev pub IsBelow : Made → Item → Type 0
IsBelow made (item.Ask r) = made.requests < 4096
IsBelow made item.Mark = Unit {0}
IsBelow made (item.Config c) = made.configs < 256

put_one : (made : Made) (x : Item) → (put made x).items ≡ made.items ++ x ∷ []
put_one made (item.Ask r) = refl
put_one made item.Mark = refl
put_one made (item.Config c) = refl

items_put : (made : Made) (xs : List Item) → (put_all put made xs).items ≡ made.items ++ xs
items_put made [] = sym (append-nil made.items)
items_put made (x ∷ xs) = items_put (put made x) xs ∙ ap (λ (w : List Item). w ++ xs) (put_one made x) ∙ append_assoc made.items (x ∷ []) xs

-- the items that were put are all that is there
pub items_are : (xs : List Item) → (put_all put no_items_yet xs).items ≡ xs
items_are xs = items_put no_items_yet xs

ask_counts : (r : Request) (xs : List Item) → count_by is_request (item.Ask r ∷ xs) ≡ 1 + count_by is_request xs
ask_counts r xs = sum_by-cons (λ x. cond (is_request x) 1 0) (item.Ask r) xs

config_counts : (c : Config) (xs : List Item) → count_by is_config (item.Config c ∷ xs) ≡ 1 + count_by is_config xs
config_counts c xs = sum_by-cons (λ x. cond (is_config x) 1 0) (item.Config c) xs

requests_within : (made : Made) (xs : List Item) → AllFresh put IsBelow made xs → made.requests ≤ 4096 → made.requests + count_by is_request xs ≤ 4096
requests_within made [] fresh h = omega (arith, h)
requests_within made (item.Ask r ∷ xs) fresh h = let rest = requests_within (put made (item.Ask r)) xs fresh.1 (omega (arith, fresh.0)) in omega (arith, rest, ask_counts r xs)
requests_within made (item.Mark ∷ xs) fresh h = requests_within (put made item.Mark) xs fresh.1 h
requests_within made (item.Config c ∷ xs) fresh h = requests_within (put made (item.Config c)) xs fresh.1 h

configs_within : (made : Made) (xs : List Item) → AllFresh put IsBelow made xs → made.configs ≤ 256 → made.configs + count_by is_config xs ≤ 256
configs_within made [] fresh h = omega (arith, h)
configs_within made (item.Ask r ∷ xs) fresh h = configs_within (put made (item.Ask r)) xs fresh.1 h
configs_within made (item.Mark ∷ xs) fresh h = configs_within (put made item.Mark) xs fresh.1 h
configs_within made (item.Config c ∷ xs) fresh h = let rest = configs_within (put made (item.Config c)) xs fresh.1 (omega (arith, fresh.0)) in omega (arith, rest, config_counts c xs)

all_below : (made : Made) (xs : List Item) → made.requests + count_by is_request xs ≤ 4096 → made.configs + count_by is_config xs ≤ 256 → AllFresh put IsBelow made xs
all_below made [] r c = tt
all_below made (item.Ask q ∷ xs) r c = (omega (arith, r, ask_counts q xs), all_below (put made (item.Ask q)) xs (omega (arith, r, ask_counts q xs)) c)
all_below made (item.Mark ∷ xs) r c = (tt, all_below (put made item.Mark) xs r c)
all_below made (item.Config q ∷ xs) r c = (omega (arith, c, config_counts q xs), all_below (put made (item.Config q)) xs r (omega (arith, c, config_counts q xs)))

from_zero : (n k : ℕ) → 0 + n ≤ k → n ≤ k
from_zero n k h = omega (arith, h)

to_zero : (n k : ℕ) → n ≤ k → 0 + n ≤ k
to_zero n k h = omega (arith, h)

pub requests_few : (xs : List Item) → AllFresh put IsBelow no_items_yet xs → count_by is_request xs ≤ 4096
requests_few xs fresh = from_zero (count_by is_request xs) 4096 (requests_within no_items_yet xs fresh (omega arith))

pub configs_few : (xs : List Item) → AllFresh put IsBelow no_items_yet xs → count_by is_config xs ≤ 256
configs_few xs fresh = from_zero (count_by is_config xs) 256 (configs_within no_items_yet xs fresh (omega arith))

pub few_below : (xs : List Item) → count_by is_request xs ≤ 4096 → count_by is_config xs ≤ 256 → AllFresh put IsBelow no_items_yet xs
few_below xs r c = all_below no_items_yet xs (to_zero (count_by is_request xs) 4096 r) (to_zero (count_by is_config xs) 256 c)
