use Rattle.std.proofs.Common.{[], refl, sym, ap, inl, inr, arith, append-nil}
use Rattle.uecp_text.specs.Faults.{status_of}
use Rattle.uecp_jobs.specs.EncoderRun.{connection_lines}
use Rattle.uecp_jobs.proofs.Public.{not_failed}
use Rattle.uecp_cli.proofs.program.run_asked.Goals as goal

pub returns-in-Encoder-clause-failed : goal.returns-in-Encoder-clause-failed
returns-in-Encoder-clause-failed g c = λ three.
    let is = c.in-Encoder.is in
    let ended = rw is at (c.run_encoder_over.ensures.failed three) in
    elim ended.serves [
      | inl (listening, (is_setup, (outcomes, e', last, fewer, sessions, none, appends))) ↦
          inr (rw is (
            (
              ended.fault,
              ap status_of listening,
              (
                outcomes,
                omega (arith, fewer),
                (connection_lines 1 outcomes, [], sym (append-nil (connection_lines 1 outcomes)), appends),
              ),
              ended.said,
            ),
            refl,
          ))
      | inr (fails, (outcomes, e', few, sessions, begun)) ↦
          inr (rw is ((ended.fault, not_failed ended.fault _ fails refl, (outcomes, few, begun), ended.said), refl))
    ]

pub returns-in-Encoder-clause-comes : goal.returns-in-Encoder-clause-comes
returns-in-Encoder-clause-comes g c =
    let is = c.in-Encoder.is in
    rw is (
      c.local_of-local.result,
      c.run_encoder_over.new.connect,
      rw is at c.local_of-local.ensures,
      (λ zero. rw is at ((c.run_encoder_over.ensures.done zero).0)),
      (λ three. rw is at (c.run_encoder_over.ensures.failed three)),
    )

pub returns-in-EncoderWith-clause-comes : goal.returns-in-EncoderWith-clause-comes
returns-in-EncoderWith-clause-comes g c = rw c.in-EncoderWith.is (c.serve.ensures.comes, c.serve.ensures.plain)

pub returns-in-Server-clause-sends : goal.returns-in-Server-clause-sends
returns-in-Server-clause-sends g c =
    let is = c.in-Server.is in
    let run = c.run_server_over.ensures in
    rw is (
      c.dialing_of-dialing.result,
      c.run_server_over.new.connect,
      rw is at c.dialing_of-dialing.ensures,
      (
        (λ zero. rw is at ((run.sent zero).0)),
        (λ one. rw is at (run.sent_before one)),
        (λ three. rw is at (run.not_sent three)),
      ),
    )

pub returns-in-ServerWith-clause-sends : goal.returns-in-ServerWith-clause-sends
returns-in-ServerWith-clause-sends g c = rw c.in-ServerWith.is c.send_input.ensures.dialled

pub returns-in-Page-clause-comes : goal.returns-in-Page-clause-comes
returns-in-Page-clause-comes g c = rw c.in-Page.is c.run_page_over_tcp.ensures.ended

pub returns-in-Send-clause-sends : goal.returns-in-Send-clause-sends
returns-in-Send-clause-sends g c = rw c.in-Send.is c.send.ensures

pub returns-in-Conformance-clause-comes : goal.returns-in-Conformance-clause-comes
returns-in-Conformance-clause-comes g c =
    let run = c.run_conformance_over_tcp in
    rw c.in-Conformance.is (run.ensures.done, λ two. ap g.W.Write.contents (run.ensures.unknown two))

pub returns-in-MakeFitted-clause-comes : goal.returns-in-MakeFitted-clause-comes
returns-in-MakeFitted-clause-comes g c = rw c.in-MakeFitted.is c.run_make_fitted.ensures

pub returns-in-Quote-clause-comes : goal.returns-in-Quote-clause-comes
returns-in-Quote-clause-comes g c = rw c.in-Quote.is c.run_quote.ensures

pub returns-in-Phrases-clause-comes : goal.returns-in-Phrases-clause-comes
returns-in-Phrases-clause-comes g c = rw c.in-Phrases.is (c.tell_phrases.ensures, refl)
