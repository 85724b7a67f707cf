use Rattle.std.proofs.Common.{rules, ◌≡◌, Ok, Err, Some, None, sym, ap, ◌∙◌, inl, inr}
use Rattle.uecp_text.specs.Input.{texts_of}
use Rattle.uecp_jobs.specs.Messages.{messages_first, refusal_in}
use Rattle.uecp_jobs.proofs.ServerRun.{sends_by, sent_to, ok_map, err_map}
use Rattle.uecp_jobs.proofs.server_run.send_input.Goals as goal

pub returns-in_err-send_messages-clause-some : goal.returns-in_err-send_messages-clause-some
returns-in_err-send_messages-clause-some g c =
    let left = g.R.Read.remaining in
    let held = g.W.Write.contents in
    let input = c.in_ok-input in
    let fault = c.in_err-send_messages.field-0.0 in
    let now = c.send_messages.new in
    let same : c.from_residual-in_err-send_messages.result ≡ Err fault = search rules in
    let messages_are = c.as_slice-list.ensures.value ∙ c.in_ok-messages.ensures.messages
    ∙ ap (λ bytes. messages_first (texts_of bytes)) c.as_slice.ensures.value in
    let sends = sends_by g.C.Connections.opens g.C.Connections.closes g.C.Input.Read.remaining g.C.Output.Write.contents
    c.in-Some.address c.batch_size.result c.args.setup c.as_slice-list.result.now input.input.items c.args.connect.now
    now.connect (held c.args.writer.now) (held now.writer) (Err fault)
    c.in-Some.ensures.value c.batch_size.ensures messages_are c.in_err-send_messages.ensures in
    sent_to (◌≡◌ {A = g.row.R.Denot} c.read_all.new.reader c.args.reader.now)
    (◌≡◌ {A = g.row.W.Denot} now.writer c.args.writer.now) g.C.Connections.opens g.C.Connections.closes
    g.C.Input.Read.remaining g.C.Output.Write.contents c.args.setup c.args.connect.now now.connect
    (left c.args.reader.now) (left c.read_all.new.reader) (held c.args.writer.now) (held now.writer)
    c.from_residual-in_err-send_messages.result fault same
    (input.input.items, inr (c.in-Some.ensures.some, input.ensures.input, sends))

pub returns-clause-all : goal.returns-clause-all
returns-clause-all g c =
    let held = g.W.Write.contents in
    let input = c.in_ok-input in
    let now = c.send_messages.new in
    let messages_are = c.as_slice-list.ensures.value ∙ c.in_ok-messages.ensures.messages
    ∙ ap (λ bytes. messages_first (texts_of bytes)) c.as_slice.ensures.value in
    let refused_is = c.in_ok-messages.ensures.refused_line
    ∙ ap (λ bytes. refusal_in (texts_of bytes)) c.as_slice.ensures.value in
    let sends = sends_by g.C.Connections.opens g.C.Connections.closes g.C.Input.Read.remaining g.C.Output.Write.contents
    c.in-Some.address c.batch_size.result c.args.setup c.as_slice-list.result.now input.input.items c.args.connect.now
    now.connect (held c.args.writer.now) (held now.writer) (Ok tt)
    c.in-Some.ensures.value c.batch_size.ensures messages_are c.in_ok-send_messages.ensures in
    ok_map c.refusal.result (λ _. c.in_ok-messages.messages.refused ≡ None) _
    (λ _ none.
    (input.input.items, (c.in-Some.ensures.some, input.ensures.input, sends), sym refused_is ∙ none))
    c.refusal.ensures.none

pub returns-clause-some : goal.returns-clause-some
returns-clause-some g c =
    let held = g.W.Write.contents in
    let input = c.in_ok-input in
    let now = c.send_messages.new in
    let messages_are = c.as_slice-list.ensures.value ∙ c.in_ok-messages.ensures.messages
    ∙ ap (λ bytes. messages_first (texts_of bytes)) c.as_slice.ensures.value in
    let refused_is = c.in_ok-messages.ensures.refused_line
    ∙ ap (λ bytes. refusal_in (texts_of bytes)) c.as_slice.ensures.value in
    let sends = sends_by g.C.Connections.opens g.C.Connections.closes g.C.Input.Read.remaining g.C.Output.Write.contents
    c.in-Some.address c.batch_size.result c.args.setup c.as_slice-list.result.now input.input.items c.args.connect.now
    now.connect (held c.args.writer.now) (held now.writer) (Ok tt)
    c.in-Some.ensures.value c.batch_size.ensures messages_are c.in_ok-send_messages.ensures in
    err_map c.refusal.result (λ fault. c.in_ok-messages.messages.refused ≡ Some fault) _
    (λ fault some. inr (inr
    (input.input.items, inl ((c.in-Some.ensures.some, input.ensures.input, sends), sym refused_is ∙ some))))
    c.refusal.ensures.some
