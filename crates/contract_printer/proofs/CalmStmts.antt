-- Where the tokens of statements pass no limit, the printed ones pass none.
use Rattle.std.proofs.Common.{◌≡◌, ℕ, ◌+◌, ◌*◌, List, [], ◌∷◌, ◌++◌, refl, ap, ◌∙◌, subst, sym}
use Rattle.std.proofs.lemmas.List.{append-nil}
use Rattle.contract_grammar.specs.declared.token.Mark.TheVariants.{WordElse, WordRepeat, OpenBlock, CloseBlock, Semicolon}
use Rattle.contract_grammar.specs.declared.token.Token.{Token}
use Rattle.contract_grammar.specs.declared.token.Token.TheVariants.{Number, Fixed}
use Rattle.contract_grammar.specs.declared.token.Placed.{Placed}
use Rattle.contract_grammar.specs.Tree.{Tree, Statement, Statements, nil, then_one}
use Rattle.contract_grammar.specs.Grammar.{fixed, Spells, SpellsStatements, nothing, more, SpellsStatement, of_let, of_assign, of_require, of_if, of_else, of_repeat, SpellsBlock, block}
use Rattle.contract_grammar.specs.Limits.{Scope, Tally}
use Rattle.contract_printer.specs.Printed.{printed, ended, braced, printed_stmt, printed_all, printed_else}
use Rattle.contract_printer.proofs.Between.{toks, toks-append}
use Rattle.contract_printer.proofs.Calm.{stepped, walked, Calm, walked_both, calm_parts, calm_both, base, text_even, printed_even, expr_calm}

abbrev scope : ℕ → ℕ → Scope
scope product locals = record { product = product; locals = locals }

module _ (o m p : ℕ) where
  -- what goes through statements of a block, and through the printed ones
  record Goes (sc : Scope) (rest : List Scope) (ts us : List Token) : Type 0 where
    next : Scope
    text : walked (base o m p (sc ∷ rest)) ts ≡ base o m p (next ∷ rest)
    calm : Calm (base o m p (sc ∷ rest)) us
    own : walked (base o m p (sc ∷ rest)) us ≡ base o m p (next ∷ rest)

  both_go : (sc : Scope) (rest : List Scope) (ts us vs ws : List Token) (g : Goes sc rest ts us) → Goes g.next rest vs ws → Goes sc rest (ts ++ vs) (us ++ ws)
  both_go sc rest ts us vs ws g k = record {
    next = k.next;
    text = walked_both (base o m p (sc ∷ rest)) ts vs ∙ ap (λ c. walked c vs) g.text ∙ k.text;
    calm = calm_both (base o m p (sc ∷ rest)) us ws g.calm (subst (λ c. Calm c ws) (sym g.own) k.calm);
    own = walked_both (base o m p (sc ∷ rest)) us ws ∙ ap (λ c. walked c ws) g.own ∙ k.own;
  }

  -- what leads from a tally to these blocks, read and printed
  pub record Comes (c : Tally) (s : List Scope) (ts us : List Token) : Type 0 where
    pub text : walked c ts ≡ base o m p s
    pub calm : Calm c us
    pub own : walked c us ≡ base o m p s

  -- tokens through which nothing changes
  abbrev Even : List Scope → List Token → List Token → Type 0
  Even s ts us = Comes (base o m p s) s ts us

  both_even : (s : List Scope) (ts us vs ws : List Token) → Even s ts us → Even s vs ws → Even s (ts ++ vs) (us ++ ws)
  both_even s ts us vs ws g k = record {
    text = walked_both (base o m p s) ts vs ∙ ap (λ c. walked c vs) g.text ∙ k.text;
    calm = calm_both (base o m p s) us ws g.calm (subst (λ c. Calm c ws) (sym g.own) k.calm);
    own = walked_both (base o m p s) us ws ∙ ap (λ c. walked c ws) g.own ∙ k.own;
  }

  after_text : (s : List Scope) (ts vs : List Token) → walked (base o m p s) ts ≡ base o m p s → Calm (base o m p s) (ts ++ vs) → Calm (base o m p s) vs
  after_text s ts vs even h = subst (λ c. Calm c vs) even (calm_parts (base o m p s) ts vs h).1

  expr_even : {ts : List Placed} {e : Tree} → Spells 0 ts e → (s : List Scope) → Calm (base o m p s) (toks ts) → Even s (toks ts) (printed 0 e)
  expr_even {e = e} r s h = record { text = text_even o m s r p; calm = expr_calm o m s r p h; own = printed_even o m s 0 e p }

  ended_even : {ts : List Placed} {e : Tree} (z : Placed) → z.token ≡ Fixed Semicolon → Spells 0 ts e → (s : List Scope) → Calm (base o m p s) (toks (ts ++ z ∷ [])) → Even s (toks (ts ++ z ∷ [])) (ended e)
  ended_even {ts} {e} z is r s h =
      let whole : toks (ts ++ z ∷ []) ≡ toks ts ++ Fixed Semicolon ∷ [] = toks-append ts (z ∷ []) ∙ ap (λ t. toks ts ++ t ∷ []) is in
      let h' = subst (λ us. Calm (base o m p s) us) whole h in
      let one = expr_even r s (calm_parts (base o m p s) (toks ts) (Fixed Semicolon ∷ []) h').0 in
      let last = after_text s (toks ts) (Fixed Semicolon ∷ []) one.text h' in
      rw whole (both_even s (toks ts) (printed 0 e) (Fixed Semicolon ∷ []) (Fixed Semicolon ∷ []) one (record { text = refl; calm = last; own = refl }))

  else_even : (s : List Scope) (b : Statements) → Even s (Fixed WordElse ∷ braced (printed_all b)) (Fixed WordElse ∷ braced (printed_all b)) → Calm (base o m p s) (printed_else b) × (walked (base o m p s) (printed_else b) ≡ base o m p s)
  else_even s nil h = (tt, refl)
  else_even s (then_one ss t) h = (h.calm, h.own)

  mutual
    stmts_calm : {ts : List Placed} {ss : Statements} → SpellsStatements ts ss → (sc : Scope) (rest : List Scope) → Calm (base o m p (sc ∷ rest)) (toks ts) → Goes sc rest (toks ts) (printed_all ss)
    stmts_calm nothing sc rest h = record { next = sc; text = refl; calm = tt; own = refl }
    stmts_calm (more {xs = xs} {ys = ys} {ss = ss} {s = s} r q) sc rest h =
        let parts = calm_parts (base o m p (sc ∷ rest)) (toks xs) (toks ys) (subst (λ us. Calm (base o m p (sc ∷ rest)) us) (toks-append xs ys) h) in
        let one = stmts_calm r sc rest parts.0 in
        let two = stmt_calm q one.next rest (subst (λ c. Calm c (toks ys)) one.text parts.1) in
        rw (toks-append xs ys) (both_go sc rest (toks xs) (printed_all ss) (toks ys) (printed_stmt s) one two)

    stmt_calm : {ts : List Placed} {s : Statement} → SpellsStatement ts s → (sc : Scope) (rest : List Scope) → Calm (base o m p (sc ∷ rest)) (toks ts) → Goes sc rest (toks ts) (printed_stmt s)
    stmt_calm (of_let z r) sc rest h =
        let next = scope sc.product (sc.locals + 1) in
        let value = ended_even (fixed z Semicolon) refl r (next ∷ rest) h.1.1.1 in
        let a = h.1.0 in
        record { next = next; text = value.text; calm = (h.0, (record { large = refl; long = refl; count = refl; deep = refl; further = a.further; op = refl }, (h.1.1.0, value.calm))); own = value.own }
    stmt_calm (of_assign z r) sc rest h =
        let value = ended_even (fixed z Semicolon) refl r (sc ∷ rest) h.1.1 in
        record { next = sc; text = value.text; calm = (record { large = refl; long = refl; count = refl; deep = refl; further = refl; op = refl }, (h.1.0, value.calm)); own = value.own }
    stmt_calm (of_require z r) sc rest h =
        let value = ended_even (fixed z Semicolon) refl r (sc ∷ rest) h.1 in
        record { next = sc; text = value.text; calm = (h.0, value.calm); own = value.own }
    stmt_calm (of_if {ts = ts} {bs = bs} {e = e} {b = b} r q) sc rest h =
        let s = sc ∷ rest in
        let h' = subst (λ us. Calm (base o m p s) us) (toks-append ts bs) h.1 in
        let one = expr_even r s (calm_parts (base o m p s) (toks ts) (toks bs) h').0 in
        let two = block_calm q (base o m p s) (scope (1 * sc.product) sc.locals) s refl (after_text s (toks ts) (toks bs) one.text h') in
        let all = both_even s (toks ts) (printed 0 e) (toks bs) (braced (printed_all b)) one two in
        rw (toks-append ts bs, append-nil (braced (printed_all b))) (record { next = sc; text = all.text; calm = (h.0, all.calm); own = all.own })
    stmt_calm (of_else {ts = ts} {bs = bs} {cs = cs} {e = e} {b = b} {c = c} v r q k) sc rest h =
        let s = sc ∷ rest in
        let tail : toks (bs ++ fixed v WordElse ∷ cs) ≡ toks bs ++ Fixed WordElse ∷ toks cs = toks-append bs (fixed v WordElse ∷ cs) in
        let whole : toks (ts ++ (bs ++ fixed v WordElse ∷ cs)) ≡ toks ts ++ (toks bs ++ Fixed WordElse ∷ toks cs) = toks-append ts (bs ++ fixed v WordElse ∷ cs) ∙ ap (λ us. toks ts ++ us) tail in
        let h' = subst (λ us. Calm (base o m p s) us) whole h.1 in
        let one = expr_even r s (calm_parts (base o m p s) (toks ts) (toks bs ++ Fixed WordElse ∷ toks cs) h').0 in
        let behind = after_text s (toks ts) (toks bs ++ Fixed WordElse ∷ toks cs) one.text h' in
        let two = block_calm q (base o m p s) (scope (1 * sc.product) sc.locals) s refl (calm_parts (base o m p s) (toks bs) (Fixed WordElse ∷ toks cs) behind).0 in
        let last = after_text s (toks bs) (Fixed WordElse ∷ toks cs) two.text behind in
        let three = block_calm k (base o m p s) (scope (1 * sc.product) sc.locals) s refl last.1 in
        let own = else_even s c (record { text = three.own; calm = (last.0, three.calm); own = three.own }) in
        let end : Even s (Fixed WordElse ∷ toks cs) (printed_else c) = record { text = three.text; calm = own.0; own = own.1 } in
        let all = both_even s (toks ts) (printed 0 e) (toks bs ++ Fixed WordElse ∷ toks cs) (braced (printed_all b) ++ printed_else c) one (both_even s (toks bs) (braced (printed_all b)) (Fixed WordElse ∷ toks cs) (printed_else c) two end) in
        rw whole (record { next = sc; text = all.text; calm = (h.0, all.calm); own = all.own })
    stmt_calm (of_repeat {n = n} {b = b} q) sc rest h =
        let k = block_calm q (stepped (stepped (base o m p (sc ∷ rest)) (Fixed WordRepeat)) (Number n)) (scope (n * sc.product) sc.locals) (sc ∷ rest) refl h.1.1 in
        record { next = sc; text = k.text; calm = (h.0, (h.1.0, k.calm)); own = k.own }

    block_calm : {bs : List Placed} {b : Statements} → SpellsBlock bs b → (c : Tally) (sc : Scope) (s : List Scope) → stepped c (Fixed OpenBlock) ≡ base o m p (sc ∷ s) → Calm c (toks bs) → Comes c s (toks bs) (braced (printed_all b))
    block_calm (block {xs = xs} {ss = ss} z r) c sc s opens h =
        let close = Fixed CloseBlock ∷ [] in
        let whole : toks (xs ++ fixed z CloseBlock ∷ []) ≡ toks xs ++ close = toks-append xs (fixed z CloseBlock ∷ []) in
        let h' = subst (λ us. Calm (base o m p (sc ∷ s)) us) whole (subst (λ d. Calm d (toks (xs ++ fixed z CloseBlock ∷ []))) opens h.1) in
        let inside = stmts_calm r sc s (calm_parts (base o m p (sc ∷ s)) (toks xs) close h').0 in
        let allowed : Calm (base o m p (inside.next ∷ s)) (Fixed CloseBlock ∷ []) = (record { large = refl; long = refl; count = refl; deep = refl; further = refl; op = refl }, tt) in
        let own = calm_both (base o m p (sc ∷ s)) (printed_all ss) close inside.calm (subst (λ d. Calm d (Fixed CloseBlock ∷ [])) (sym inside.own) allowed) in
        rw whole (record {
          text = ap (λ d. walked d (toks xs ++ Fixed CloseBlock ∷ [])) opens ∙ walked_both (base o m p (sc ∷ s)) (toks xs) close ∙ ap (λ d. stepped d (Fixed CloseBlock)) inside.text;
          calm = (h.0, subst (λ d. Calm d (printed_all ss ++ Fixed CloseBlock ∷ [])) (sym opens) own);
          own = ap (λ d. walked d (printed_all ss ++ Fixed CloseBlock ∷ [])) opens ∙ walked_both (base o m p (sc ∷ s)) (printed_all ss) close ∙ ap (λ d. stepped d (Fixed CloseBlock)) inside.own;
        })

  -- the block of an operation
  pub body_calm : {bs : List Placed} {b : Statements} → SpellsBlock bs b → Calm (base o m p []) (toks bs) → Comes (base o m p []) [] (toks bs) (braced (printed_all b))
  body_calm q h = block_calm q (base o m p []) (scope 1 0) [] refl h
