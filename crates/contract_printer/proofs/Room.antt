-- A printed operation takes at most 4,096 bytes where the operation that was read did.
use Rattle.std.proofs.Common.{◌≡◌, ℕ, ◌+◌, ◌≤◌, ◌&&◌, Bool, true, false, nat_lt, List, [], ◌∷◌, ◌++◌, length, refl, sym, ap, subst, ◌∙◌, append_assoc, arith}
use Rattle.std.proofs.lemmas.Bool.Decides.{nat_tests}
use Rattle.contract_grammar.specs.declared.token.Mark.TheVariants.{WordOp, OpenBlock, CloseBlock}
use Rattle.contract_grammar.specs.declared.token.Token.{Token}
use Rattle.contract_grammar.specs.declared.token.Token.TheVariants.{Named, Open, Close, Fixed}
use Rattle.contract_grammar.specs.declared.token.Placed.{Placed}
use Rattle.contract_grammar.specs.Tree.{Statements, Op}
use Rattle.contract_grammar.specs.Grammar.{tok, fixed, SpellsBlock, block, without, with, SpellsOp, of_op, SpellsOps, no_ops, more_ops}
use Rattle.contract_grammar.specs.Limits.{Tally, ops_after, begun_after, is_far}
use Rattle.contract_printer.specs.Canonical.{is_word, token_text}
use Rattle.contract_printer.specs.Printed.{braced, printed_all, printed_params, printed_op, printed_ops}
use Rattle.contract_printer.proofs.Between.{toks, toks-append, one, between, last_word}
use Rattle.contract_printer.proofs.ShortestOps.{op_shorter}
use Rattle.contract_printer.proofs.Relexed.{spread}
use Rattle.contract_printer.proofs.Calm.{stepped, walked, Calm, calm_parts, base}
use Rattle.contract_printer.proofs.CalmOps.{op_calm, ops_calm}
use Rattle.contract_printer.proofs.Spans.{Spaced, spaced_end, spaced_parts, Near, near_parts}

-- ---- the operation that was read

-- `op`, further tokens, and `}`
record IsOp (ts : List Placed) : Type 0 where
  first : Placed
  middle : List Placed
  last : Placed
  is : ts ≡ first ∷ (middle ++ last ∷ [])
  op : first.token ≡ Fixed WordOp
  brace : last.token ≡ Fixed CloseBlock

record IsBlock (ts : List Placed) : Type 0 where
  front : List Placed
  last : Placed
  is : ts ≡ front ++ last ∷ []
  brace : last.token ≡ Fixed CloseBlock

is_block : {ts : List Placed} {b : Statements} → SpellsBlock ts b → IsBlock ts
is_block (block {w = w} {xs = xs} z r) = record { front = fixed w OpenBlock ∷ xs; last = fixed z CloseBlock; is = refl; brace = refl }

is_op : {ts : List Placed} {o : Op} → SpellsOp ts o → IsOp ts
is_op (of_op {bs = bs} (without {w = w} {v = v} {u = u} {z = z} {x = x} {long = long}) q) =
    let b = is_block q in
    record { first = fixed w WordOp; middle = tok v (Named x long) ∷ tok u Open ∷ tok z Close ∷ b.front; last = b.last; is = ap (λ ts. fixed w WordOp ∷ tok v (Named x long) ∷ tok u Open ∷ tok z Close ∷ ts) b.is; op = refl; brace = b.brace }
is_op (of_op {bs = bs} (with {w = w} {v = v} {u = u} {x = x} {long = long} {xs = xs} z r) q) =
    let b = is_block q in
    record {
      first = fixed w WordOp;
      middle = tok v (Named x long) ∷ tok u Open ∷ ((xs ++ tok z Close ∷ []) ++ b.front);
      last = b.last;
      is = ap (λ ts. fixed w WordOp ∷ tok v (Named x long) ∷ tok u Open ∷ ((xs ++ tok z Close ∷ []) ++ ts)) b.is ∙ ap (λ ts. fixed w WordOp ∷ tok v (Named x long) ∷ tok u Open ∷ ts) (sym (append_assoc (xs ++ tok z Close ∷ []) b.front (b.last ∷ [])));
      op = refl;
      brace = b.brace;
    }

ops_more : (t : Token) (n : ℕ) → n ≤ ops_after n t
ops_more (Fixed WordOp) n = omega arith
ops_more _ n = omega arith

ops_grow : (c : Tally) (ts : List Token) → c.ops ≤ (walked c ts).ops
ops_grow c [] = omega arith
ops_grow c (t ∷ ts) = omega (arith, ops_more t c.ops, ops_grow (stepped c t) ts)

same_begun : (t : Token) (b s n : ℕ) → ops_after n t ≤ n → begun_after b s t ≡ b
same_begun (Fixed WordOp) b s n le = absurd (omega (arith, le))
same_begun _ b s n le = refl

-- with no further `op` the last token is measured from the same byte
last_near : (ks : List Placed) (z : Placed) (b : ℕ) (c : Tally) → (walked c (toks (ks ++ z ∷ []))).ops ≤ c.ops → Near b (ks ++ z ∷ []) → is_far b z ≡ false
last_near [] z b c le h = h.0
last_near (k ∷ ks) z b c le h =
    let grown = ops_grow (stepped c k.token) (toks (ks ++ z ∷ [])) in
    let more = ops_more k.token c.ops in
    let same = same_begun k.token b k.span.start c.ops (omega (arith, grown, le)) in
    last_near ks z b (stepped c k.token) (omega (arith, le, more)) (subst (λ a. Near a (ks ++ z ∷ [])) same h.1)

near_end : (b : ℕ) (z : Placed) → z.token ≡ Fixed CloseBlock → is_far b z ≡ false → z.span.end ≤ b + 4096
near_end b z is h = small (b + 4096) z.span.end (ap (λ t. nat_lt (begun_after b z.span.start t + 4096) z.span.end) (sym is) ∙ h)
  where
    small : (m n : ℕ) → nat_lt m n ≡ false → n ≤ m
    small m n h = grind (arith, nat_tests)

-- a printed operation is short, and ends with no word
pub record IsShort (o : Op) : Type 0 where
  pub room : between false (printed_op o) false ≤ 4096
  pub ends : last_word false (printed_op o) ≡ false

abbrev pub AllShort : List Op → Type 0
AllShort [] = Unit {0}
AllShort (o ∷ os) = IsShort o × AllShort os

all_one : (os : List Op) (o : Op) → AllShort os → IsShort o → AllShort (os ++ o ∷ [])
all_one [] o h k = (k, tt)
all_one (p ∷ os) o h k = (h.0, all_one os o h.1 k)

op_room : (ts : List Placed) (at : ℕ) (w : Bool) (b : ℕ) (c : Tally) → IsOp ts → (walked c (toks ts)).ops ≡ c.ops + 1 → Spaced at w ts → Near b ts → between false (toks ts) false ≤ 4096
op_room ts at w b c s grown spaced near =
    let all = s.first ∷ (s.middle ++ s.last ∷ []) in
    let spaced' : Spaced at w all = subst (λ l. Spaced at w l) s.is spaced in
    let near' : Near b all = subst (λ l. Near b l) s.is near in
    let grown' : (walked c (toks all)).ops ≡ c.ops + 1 = subst (λ l. (walked c (toks l)).ops ≡ c.ops + 1) s.is grown in
    let begun : begun_after b s.first.span.start s.first.token ≡ s.first.span.start = ap (λ t. begun_after b s.first.span.start t) s.op in
    let counted : ops_after c.ops s.first.token ≡ c.ops + 1 = ap (λ t. ops_after c.ops t) s.op in
    let far = last_near s.middle s.last s.first.span.start (stepped c s.first.token) (omega (arith, grown', counted)) (subst (λ a. Near a (s.middle ++ s.last ∷ [])) begun near'.1) in
    let end = near_end s.first.span.start s.last s.brace far in
    let here = spaced_end (s.first ∷ s.middle) s.last s.first.span.start false (omega arith, spaced'.1, spaced'.2) in
    rw s.is (omega (arith, here, end))

op_short : {ts : List Placed} {o : Op} → SpellsOp ts o → (at : ℕ) (w : Bool) (b n m : ℕ) → Spaced at w ts → Near b ts → Calm (base n m 0 []) (toks ts) → IsShort o
op_short {ts} r at w b n m spaced near calm =
    let less = op_shorter r in
    let grown = op_grown r n m calm in
    record { room = omega (arith, less.le, op_room ts at w b (base n m 0 []) (is_op r) grown spaced near); ends = less.also }
  where
    op_grown : {ts : List Placed} {o : Op} → SpellsOp ts o → (n m : ℕ) → Calm (base n m 0 []) (toks ts) → (walked (base n m 0 []) (toks ts)).ops ≡ n + 1
    op_grown r n m calm = ap (λ (c : Tally). c.ops) (op_calm r n m calm).text

pub ops_short : {ts : List Placed} {os : List Op} → SpellsOps ts os → (at : ℕ) (w : Bool) (b : ℕ) → Spaced at w ts → Near b ts → Calm (base 0 0 0 []) (toks ts) → AllShort os
ops_short no_ops at w b spaced near calm = tt
ops_short (more_ops {xs = xs} {ys = ys} {os = os} {o = o} r q) at w b spaced near calm =
    let apart = spaced_parts xs ys at w spaced in
    let close = near_parts xs ys b near in
    let parts = calm_parts (base 0 0 0 []) (toks xs) (toks ys) (subst (λ us. Calm (base 0 0 0 []) us) (toks-append xs ys) calm) in
    let one = ops_calm r parts.0 in
    let last = op_short q apart.1.at apart.1.word close.1.begun one.ops one.commas apart.1.spaced close.1.near (subst (λ c. Calm c (toks ys)) one.text parts.1) in
    all_one os o (ops_short r at w b apart.0 close.0 parts.0) last

-- ---- the printed operations

begun_more : (t : Token) (b0 b s : ℕ) → b0 ≤ b → b0 ≤ s → b0 ≤ begun_after b s t
begun_more (Fixed WordOp) b0 b s le here = here
begun_more _ b0 b s le here = le

not_far : (b e : ℕ) → e ≤ b + 4096 → nat_lt (b + 4096) e ≡ false
not_far b e le = grind (arith, nat_tests)

-- the rest of an operation that began at a byte, and what follows
rest_near : (us rest : List Token) (b0 b at : ℕ) (w : Bool) → b0 ≤ b → b0 ≤ at → at + between w us false ≤ b0 + 4096 → last_word w us ≡ false → ((b at : ℕ) → Near b (spread at false rest)) → Near b (spread at w (us ++ rest))
rest_near [] rest b0 b at w le here room ends f = subst (λ v. Near b (spread at v rest)) (sym ends) (f b at)
rest_near (t ∷ us) rest b0 b at w le here room ends f =
    let s = at + one (w && is_word t) in
    let e = s + length (token_text t) in
    let more = begun_more t b0 b s le (omega (arith, here)) in
    (not_far (begun_after b s t) e (omega (arith, more, room)), rest_near us rest b0 (begun_after b s t) e (is_word t) more (omega (arith, here)) (omega (arith, room)) ends f)

-- the tokens of an operation behind its first one
abbrev behind_op : Op → List Token
behind_op o = Named o.head.name false ∷ Open ∷ ((printed_params o.head.params ++ Close ∷ []) ++ braced (printed_all o.body))

pub ops_near : (os : List Op) → AllShort os → (b at : ℕ) → Near b (spread at false (printed_ops os))
ops_near [] h b at = tt
ops_near (o ∷ os) h b at =
    let start = at + 0 in
    (not_far start (start + 2) (omega arith), rest_near (behind_op o) (printed_ops os) start start (start + 2) true (omega arith) (omega arith) (omega (arith, h.0.room)) h.0.ends (ops_near os h.1))
