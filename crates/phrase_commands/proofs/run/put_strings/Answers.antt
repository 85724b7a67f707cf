use Rattle.std.proofs.Common.{◌≡◌, ◌++◌, ◌∷◌, [], refl, sym, ap, subst, ◌∙◌, arith, append_assoc}
use Rattle.std.proofs.Common.{append-nil, Err, ◌⊎◌}
use Rattle.uecp_text.specs.Input.{lines_of}
use Rattle.uecp_text.proofs.Public.{adds_then, empty_is}
use Rattle.phrase_tokens.specs.View.{token_of}
use Rattle.phrase_scripts.specs.Lines.{IsUnsaid}
use Rattle.uecp_text.specs.declared.text_fault.TextFault.TheVariants.{OutOfMemory}
use Rattle.phrase_commands.specs.Quoting.{HasNoString, IsString, QuotesInto, string_line}
use Rattle.phrase_commands.proofs.Alone.{quoted_more, longer}
use Rattle.phrase_commands.proofs.Ends.{quoted_all, refused}
use Rattle.phrase_commands.proofs.run.put_strings.Goals as goal

pub loop-rest-init : goal.loop-rest-init
loop-rest-init c = record {
  count = omega arith;
  so_far = ([], [], refl, refl, (λ whole. (whole, sym (append-nil c.args.output.now.bytes))), refl);
}

pub loop-rest-preserved : goal.loop-rest-preserved
loop-rest-preserved c =
    let now = c.loop-rest in
    let far = now.invariant.so_far in
    let line = c.first_input_line.result.0.now in
    let more = c.first_input_line.result.1.now in
    let string = token_of c.in-Ok.string in
    record {
      count = let shorter = c.first_input_line.ensures.shorter in let count = now.invariant.count in
          omega (arith, shorter, count);
      so_far = (
        far.0 ++ line ∷ [],
        far.1 ++ string_line string,
        far.2 ∙ ap (λ l. far.0 ++ l) c.first_input_line.ensures.lines
            ∙ sym (append_assoc far.0 (line ∷ []) (lines_of more)),
        quoted_more far.0 line far.1 string far.3
            (subst (λ text. IsString text string) c.without_end.ensures c.in-Ok.ensures.ok),
        adds_then _ _ _ far.1 (string_line string) far.4 c.put_string.ensures,
        longer far.0 line now.number far.5,
      );
    }

pub returns-in-Err : goal.returns-in-Err
returns-in-Err c =
    let now = c.loop-rest in
    let far = now.invariant.so_far in
    subst (λ fault. QuotesInto c.args.lines.now c.args.output.now now.output (Err fault)) (sym c.at.ensures)
    (refused c.args.lines.now c.args.output.now now.output now.number c.in-Err.fault far.0
    (lines_of c.first_input_line.result.1.now) far.1 c.first_input_line.result.0.now
    (far.2 ∙ ap (λ l. far.0 ++ l) c.first_input_line.ensures.lines) far.3 far.4 far.5
    (subst (λ text. (c.in-Err.fault ≡ OutOfMemory) ⊎ (IsUnsaid c.in-Err.fault × HasNoString text)) c.without_end.ensures
    c.in-Err.ensures.err))

pub returns : goal.returns
returns c =
    let now = c.loop-rest in
    let far = now.invariant.so_far in
    quoted_all c.args.lines.now now.rest.now c.args.output.now now.output far.0 far.1 far.2
    (empty_is now.rest.now c.loop-rest-test.ensures) far.3 far.4
