use Rattle.state_files.proofs.encoder_opening.open_encoder.Goals as goal

pub returns-in-Ok-put-clause-given : goal.returns-in-Ok-put-clause-given
returns-in-Ok-put-clause-given g c =
    let given = c.in-Ok.ensures.given in
    let put = c.in-Ok-put.ensures in
    record {
      found = λ was is held clean. given.found was is held (put.clean clean);
      new = λ held clean. given.new held (put.clean clean);
      kept = put.saved;
    }

pub returns-in-Ok-put-clause-settled : goal.returns-in-Ok-put-clause-settled
returns-in-Ok-put-clause-settled g c clean = c.settled.ensures (c.in-Ok-put.ensures.saved clean)
