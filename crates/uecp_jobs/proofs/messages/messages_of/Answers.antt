use Rattle.std.proofs.Common.{rules, arith, ◌≡◌, ◌+◌, ◌++◌, ◌∷◌, [], None, Some, Ok, Err, refl, ap, sym, ◌∙◌}
use Rattle.std.proofs.Common.{append_assoc, append-nil, inl, inr}
use Rattle.uecp_text.specs.Input.{numbered, lines_of, said}
use Rattle.uecp_text.proofs.Public.{empty_is}
use Rattle.uecp_jobs.specs.Messages.{spelled, messages_first, refusal_in}
use Rattle.uecp_jobs.proofs.MessageTexts.{no_texts_left, no_text, one_message, none_refused_yet, no_message}
use Rattle.uecp_jobs.proofs.MessageTexts.{refused_here}
use Rattle.uecp_jobs.proofs.messages.messages_of.Goals.{in-Some+in-Ok+in_ok-push-in-Ok, in_default}
use Rattle.uecp_jobs.proofs.messages.messages_of.Goals as goal

pub loop-rest-init : goal.loop-rest-init
loop-rest-init c = record { count = omega arith; messages = search rules; refusal = refl }

pub returns-in_default-fault : goal.returns-in_default-fault
returns-in_default-fault c =
    let now = c.loop-rest in
    let line = c.first_input_line.result.0.now in
    let more = c.first_input_line.result.1.now in
    let text = c.in-Some.text.now in
    let fault = c.in-Err.fault in
    let says : Some text ≡ said line = c.in-Some.ensures in
    let is : spelled text ≡ Err fault =
    elim c.in-Err.ensures.refused [
      | inl wanting ↦ absurd (c.in_default-fault.not-OutOfMemory wanting)
      | inr refused ↦ refused
    ] in
    record {
      messages = sym (now.invariant.messages ∙ ap (λ l. now.list.items ++ l)
          (no_message now.number now.rest.now line more c.first_input_line.ensures.lines text says fault is)
          ∙ append-nil now.list.items);
      refused_line = sym (now.invariant.refusal ∙ refused_here now.number now.rest.now line more
          c.first_input_line.ensures.lines text says fault is);
      refused = tt;
    }

pub loop-rest-preserved : goal.loop-rest-preserved
loop-rest-preserved c =
    let now = c.loop-rest in
    let line = c.first_input_line.result.0.now in
    let more = c.first_input_line.result.1.now in
    let shorter = c.first_input_line.ensures.shorter in
    let so_far = now.invariant.count in
    elim c.match-text_of.branch [
      | in-Some+in-Ok+in_ok-push-in-Ok w ↦
          let says : Some w.in-Some.text.now ≡ said line = w.in-Some.ensures in
          let message = w.in-Ok.message in
          let is : spelled w.in-Some.text.now ≡ Ok message = w.in-Ok.ensures.message in
          let list_is : c.match-text_of.list.items ≡ now.list.items ++ message ∷ [] = search rules in
          let later = messages_first (numbered (now.number + 1) (lines_of more)) in
          record {
            count = omega (arith, shorter, so_far);
            messages =
                now.invariant.messages ∙ ap (λ l. now.list.items ++ l)
                (one_message now.number now.rest.now line more c.first_input_line.ensures.lines w.in-Some.text.now
                says message is)
                ∙ sym (append_assoc now.list.items (message ∷ []) later) ∙ ap (λ l. l ++ later) (sym list_is);
            refusal = now.invariant.refusal ∙ none_refused_yet now.number now.rest.now line more
                c.first_input_line.ensures.lines w.in-Some.text.now says message is;
          }
      | in_default w ↦
          let says : None ≡ said line = search rules in
          let list_is : c.match-text_of.list.items ≡ now.list.items = search rules in
          let same = no_text now.number now.rest.now line more c.first_input_line.ensures.lines says in
          record {
            count = omega (arith, shorter, so_far);
            messages = now.invariant.messages ∙ ap (λ l. now.list.items ++ messages_first l) same
                ∙ ap (λ l. l ++ messages_first (numbered (now.number + 1) (lines_of more))) (sym list_is);
            refusal = now.invariant.refusal ∙ ap refusal_in same;
          }
    ]

pub returns-clause-messages : goal.returns-clause-messages
returns-clause-messages c =
    let now = c.loop-rest in
    let none = no_texts_left now.number now.rest.now (empty_is now.rest.now c.loop-rest-test.ensures) in
    sym (now.invariant.messages ∙ ap (λ l. now.list.items ++ messages_first l) none ∙ append-nil now.list.items)

pub returns-clause-refused_line : goal.returns-clause-refused_line
returns-clause-refused_line c =
    let now = c.loop-rest in
    let none = no_texts_left now.number now.rest.now (empty_is now.rest.now c.loop-rest-test.ensures) in
    sym (now.invariant.refusal ∙ ap refusal_in none)
