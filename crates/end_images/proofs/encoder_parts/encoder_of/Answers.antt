use Rattle.std.proofs.Common.{◌≡◌, Some, [], ap, sym, ◌∙◌}
use Rattle.uecp_frame.specs.Findings.{Closed}
use Rattle.uecp_encoder.specs.State.{no_counts, restarted}
use Rattle.end_images.specs.Parsing.{pairs_kept, EncoderSays}
use Rattle.end_images.proofs.Apart.{some_same, exact_is}
use Rattle.end_images.proofs.Pairs.{pairs_back, ring_err}
use Rattle.end_images.proofs.encoder_parts.encoder_of.Goals as goal

pub returns-in-Err-clause-complete : goal.returns-in-Err-clause-complete
returns-in-Err-clause-complete c = λ e is says.
    let pairs = c.args.parts.now.pairs.now in
    let back : pairs_kept [] pairs ≡ Some e.ring =
    ap (λ (s : EncoderSays). pairs_kept [] s.pairs) says
    ∙ pairs_back c.codes_and_bytes.ensures.read_back e.ring is.ring in
    ring_err c.in-Err.fault pairs e.ring (restarted e) back c.in-Err.ensures

pub returns-in-Ok-store_of-clause-complete : goal.returns-in-Ok-store_of-clause-complete
returns-in-Ok-store_of-clause-complete c = λ e is says.
    let back : pairs_kept [] c.args.parts.now.pairs.now ≡ Some e.ring =
    ap (λ (s : EncoderSays). pairs_kept [] s.pairs) says
    ∙ pairs_back c.codes_and_bytes.ensures.read_back e.ring is.ring in
    let address : c.in-Some.address ≡ e.address =
    exact_is c.args.parts.now.address c.in-Some.address (sym c.in-Some.is ∙ c.exact_of.ensures)
    ∙ ap (λ (s : EncoderSays). s.address) says in
    let ring : c.in-Ok.ring ≡ e.ring = some_same c.in-Ok.ring e.ring (sym c.in-Ok.ensures.0 ∙ back) in
    let value : c.in-Ok-store_of.store ≡ e.value =
    c.in-Ok-store_of.ensures.complete e.value is.store (record {
      sets_are = ap (λ (s : EncoderSays). s.sets) says;
      services_are = ap (λ (s : EncoderSays). s.services) says;
      messages_are = ap (λ (s : EncoderSays). s.messages) says;
    }) in
    c.resumed.ensures
    ∙ (λ i. record { address = address i; value = value i; ring = ring i; counts = no_counts; part = Closed })
