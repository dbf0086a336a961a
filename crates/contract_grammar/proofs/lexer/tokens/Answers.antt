-- What the check of `tokens` leaves to show.
use Rattle.std.proofs.Common.{◌≡◌, sym, ◌∙◌, arith, drop, take, length, ◌-◌, ◌≤◌}
use Rattle.std.proofs.Math.ListN.{drop_of_length-le}
use Rattle.std.proofs.lemmas.List.{append-nil, take_all, length-drop}
use Rattle.contract_grammar.specs.Lexer.{lexed}
use Rattle.contract_grammar.proofs.Lexing.{turn_skips, turn_spaces, turn_takes}
use Rattle.contract_grammar.proofs.lexer.tokens.Goals as goal
use Rattle.contract_grammar.proofs.lexer.tokens.Goals.{then-skip-gt0, else-skip-gt0+then-not-is_space+in_ok-push, else-skip-gt0+else-not-is_space}

pub loop-i-preserved : goal.loop-i-preserved
loop-i-preserved c =
    let ts = c.args.text.now in
    let i = c.loop-i.i in
    let lt = c.loop-i-test.true in
    let so_far = c.loop-i.invariant.so_far in
    elim c.if-skip-gt0.branch [
      | then-skip-gt0 w ↦ record { room = omega arith; so_far = rw (w.all-is, w.skip-is) (turn_skips ts i lt c.loop-i.all _ c.loop-i.skip w.if-skip-gt0.true so_far) }
      | else-skip-gt0+then-not-is_space+in_ok-push w ↦
          let all : take (length ts - i) (drop i ts) ≡ drop i ts = take_all (length ts - i) (drop i ts) (omega (arith, length-drop i ts)) in
          let some = w.token_at-token.ensures.some in
          let bound = w.token_at-token.ensures.bound in
          record {
            room = omega (arith, w.skip-is, rw (all, length-drop i ts) at bound);
            so_far = rw (w.all-is, w.in_ok-push.ensures.ok, w.skip-is)
                (turn_takes ts i lt c.loop-i.all _ c.loop-i.skip w.token_at-token.result w.if-skip-gt0.false (sym w.is_space.ensures ∙ w.if-not-is_space.true) (rw all at w.token_at-token.ensures.value) so_far);
          }
      | else-skip-gt0+else-not-is_space w ↦ record {
        room = omega arith;
        so_far = rw (w.all-is, w.skip-is) (turn_spaces ts i lt c.loop-i.all _ c.loop-i.skip w.if-skip-gt0.false (sym w.is_space.ensures ∙ w.if-not-is_space.false) so_far);
      }
    ]

pub returns : goal.returns
unfolding lexed
returns c = sym (append-nil c.loop-i.all) ∙ (let le : length c.args.text.now ≤ c.loop-i.i = omega arith in rw (drop_of_length-le c.args.text.now le) at c.loop-i.invariant.so_far)
