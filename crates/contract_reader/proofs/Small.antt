-- The counts stay small while no token passes a limit.
use Rattle.std.proofs.Common.{◌≡◌, ℕ, ◌+◌, ◌*◌, ◌≤◌, Bool, true, false, ◌||◌, List, [], ◌∷◌, refl, arith}
use Rattle.std.proofs.lemmas.Bool.{ltb-false}
use Rattle.txn_types.specs.Values.{max_turns}
use Rattle.contract_grammar.specs.declared.token.Mark.TheVariants.{WordOp, WordLet, WordRepeat, OpenBlock, CloseBlock, Comma}
use Rattle.contract_grammar.specs.declared.token.Token.{Token}
use Rattle.contract_grammar.specs.declared.token.Token.TheVariants.{Number, Open, Close, Fixed}
use Rattle.contract_grammar.specs.declared.token.Placed.{Placed}
use Rattle.contract_grammar.specs.Limits.{Previous, plain, repeat_word, count, let_word, comma, Scope, Tally, ops_after, commas_after, parentheses_after, previous_after, factor, product_in, locals_in, with_local, without_first, scopes_after, tallied, no_tally, is_bad_count, passes}
use Rattle.contract_reader.specs.Counted.{AreSmallScopes, AreSmall}

ops_small : (c n : ℕ) (t : Token) → c ≤ n → ops_after c t ≤ n + 1
ops_small c n (Fixed WordOp) h = omega arith
ops_small c n _ h = omega arith

commas_small : (c n : ℕ) (t : Token) → c ≤ n → commas_after c t ≤ n + 1
commas_small c n (Fixed WordOp) h = omega arith
commas_small c n (Fixed Comma) h = omega arith
commas_small c n _ h = omega arith

parentheses_small : (c n : ℕ) (t : Token) → c ≤ n → parentheses_after c t ≤ n + 1
parentheses_small c n Open h = omega arith
parentheses_small c n Close h = omega arith
parentheses_small c n _ h = omega arith

scopes_more : (scopes : List Scope) (n : ℕ) → AreSmallScopes scopes n → AreSmallScopes scopes (n + 1)
scopes_more [] n h = tt
scopes_more (s ∷ scopes) n h = (h.0, omega arith, scopes_more scopes n h.2)

locals_small : (scopes : List Scope) (n : ℕ) → AreSmallScopes scopes n → locals_in scopes ≤ n
locals_small [] n h = omega arith
locals_small (s ∷ scopes) n h = h.1

product_small : (scopes : List Scope) (n : ℕ) → AreSmallScopes scopes n → product_in scopes ≤ max_turns
product_small [] n h = omega arith
product_small (s ∷ scopes) n h = h.0

local_small : (scopes : List Scope) (n : ℕ) → AreSmallScopes scopes n → AreSmallScopes (with_local scopes) (n + 1)
local_small [] n h = tt
local_small (s ∷ scopes) n h = (h.0, omega arith, scopes_more scopes n h.2)

first_small : (scopes : List Scope) (n : ℕ) → AreSmallScopes scopes n → AreSmallScopes (without_first scopes) (n + 1)
first_small [] n h = tt
first_small (s ∷ scopes) n h = scopes_more scopes n h.2

scopes_small : (b : Previous) (scopes : List Scope) (n : ℕ) (t : Token) → factor b * product_in scopes ≤ max_turns → AreSmallScopes scopes n → AreSmallScopes (scopes_after b scopes t) (n + 1)
scopes_small b scopes n (Fixed OpenBlock) le h = (le, (let small = locals_small scopes n h in omega arith), scopes_more scopes n h)
scopes_small b scopes n (Fixed CloseBlock) le h = first_small scopes n h
scopes_small b scopes n (Fixed WordLet) le h = local_small scopes n h
scopes_small b scopes n _ le h = scopes_more scopes n h

one_times : (scopes : List Scope) (n : ℕ) → AreSmallScopes scopes n → 1 * product_in scopes ≤ max_turns
one_times scopes n h = let small = product_small scopes n h in omega arith

last_of_three : (a b c : Bool) → (a || (b || c)) ≡ false → c ≡ false
last_of_three false false c h = h
last_of_three false true c h = cc
last_of_three true b c h = cc

-- where the next block's count is not bad, its product is small
product_after : (b : Previous) (scopes after : List Scope) (n : ℕ) (t : Token) → is_bad_count b scopes t ≡ false → after ≡ scopes_after b scopes t → AreSmallScopes after n → factor (previous_after b t) * product_in after ≤ max_turns
product_after repeat_word scopes after n (Number m) good is h = rw is (ltb-false max_turns (m * product_in scopes) (last_of_three _ _ _ good))
product_after b scopes after n (Fixed WordRepeat) good is h = one_times after n h
product_after b scopes after n (Fixed WordLet) good is h = one_times after n h
product_after b scopes after n (Fixed Comma) good is h = one_times after n h
product_after plain scopes after n t good is h = one_times after n h
product_after (count m) scopes after n t good is h = one_times after n h
product_after let_word scopes after n t good is h = one_times after n h
product_after comma scopes after n t good is h = one_times after n h
product_after repeat_word scopes after n t good is h = one_times after n h

third : (a b c d : Bool) → (a || (b || (c || d))) ≡ false → c ≡ false
third false false false d h = refl
third false false true d h = cc
third false true c d h = cc
third true b c d h = cc

count_is_good : (c : Tally) (k : Placed) → passes c k ≡ false → is_bad_count c.previous c.scopes k.token ≡ false
unfolding passes
count_is_good c k h = third _ _ _ _ h

pub small_more : (c : Tally) (k : Placed) (n : ℕ) → AreSmall c n → passes c k ≡ false → AreSmall (tallied c k) (n + 1)
unfolding tallied
small_more c k n h good =
    let scopes = scopes_small c.previous c.scopes n k.token h.product h.scopes in
    record {
      ops = ops_small c.ops n k.token h.ops;
      commas = commas_small c.commas n k.token h.commas;
      parentheses = parentheses_small c.parentheses n k.token h.parentheses;
      scopes = scopes;
      product = product_after c.previous c.scopes (scopes_after c.previous c.scopes k.token) (n + 1) k.token (count_is_good c k good) refl scopes;
    }

pub none_small : AreSmall no_tally 0
none_small = record { ops = omega arith; commas = omega arith; parentheses = omega arith; scopes = tt; product = omega arith }

pub locals_of_small : (c : Tally) (n : ℕ) → AreSmall c n → locals_in c.scopes ≤ n
locals_of_small c n h = locals_small c.scopes n h.scopes
