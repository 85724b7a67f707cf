use Rattle.std.proofs.Common.{◌≡◌, ◌-◌, ◌∙◌, true, false, refl, sym, ap, subst}
use Rattle.std.specs.Prelude.{Some, Ok}
use Rattle.device_serving.specs.AirLines.{is_over}
use Rattle.device_serving.specs.AirRun.{GoesOnOrEnds, ReadsOpen}
use Rattle.device_serving.proofs.air.run.read_open.Goals as goal

pub returns-then-is_over : goal.returns-then-is_over
returns-then-is_over g c =
    let k = g.K.Keep in
    let m = g.K.BatchLimits in
    let t = c.read_once-turn in
    let line = t.result.line in
    let ended = t.result.ended in
    let over : is_over line.left ended ≡ true = sym c.is_over.ensures ∙ c.if-is_over.true in
    record {
      reads = λ carousel. subst (λ l. ReadsOpen m.TOGETHER_MAX m.READ_MAX k.leaves k.is_clean k.saves k.fails
          g.M.Moments.closes g.M.Input.Read.remaining g.M.Output.Write.contents l (record {
            encoder = c.args.encoder.now;
            keeper = c.args.keeper.now;
            log = c.args.log.now;
            moments = c.args.moments.now;
            carousel = carousel;
            line = c.args.line.now;
            left = c.args.left.now;
          }) (record {
            encoder = t.new.encoder;
            keeper = t.new.keeper;
            log = c.end_line.new.log;
            moments = c.end_line.new.moments;
            carousel = carousel;
            line = c.take.new.self;
            left = c.args.left.now - 1;
          }) c.end_line.result) c.in-Some.ensures.value (record {
            ended = ended;
            line' = line;
            told = t.new.listener;
            reads = t.ensures.reads;
            keeps = record { settled = t.ensures.settled; clean = t.ensures.clean };
            goes = subst (λ over. GoesOnOrEnds g.M.Moments.closes over c.in-Some.open.sent line ended t.new.listener
                (record {
                  encoder = c.args.encoder.now;
                  keeper = c.args.keeper.now;
                  log = c.args.log.now;
                  moments = c.args.moments.now;
                  carousel = carousel;
                  line = c.args.line.now;
                  left = c.args.left.now;
                }) (record {
                  encoder = t.new.encoder;
                  keeper = t.new.keeper;
                  log = c.end_line.new.log;
                  moments = c.end_line.new.moments;
                  carousel = carousel;
                  line = c.take.new.self;
                  left = c.args.left.now - 1;
                }) c.end_line.result) (sym over) (
                  c.end_line.ensures.closes,
                  c.end_line.ensures.tells,
                  ap (λ l. record {
                    encoder = t.new.encoder;
                    keeper = t.new.keeper;
                    log = c.end_line.new.log;
                    moments = c.end_line.new.moments;
                    carousel = carousel;
                    line = l;
                    left = c.args.left.now - 1;
                  }) c.in-Some.ensures.after,
                  c.end_line.ensures.goes,
                );
          });
    }

pub returns-else-is_over : goal.returns-else-is_over
returns-else-is_over g c =
    let k = g.K.Keep in
    let m = g.K.BatchLimits in
    let t = c.read_once-turn in
    let line = t.result.line in
    let ended = t.result.ended in
    let over : is_over line.left ended ≡ false = sym c.is_over.ensures ∙ c.if-is_over.false in
    record {
      reads = λ carousel. subst (λ l. ReadsOpen m.TOGETHER_MAX m.READ_MAX k.leaves k.is_clean k.saves k.fails
          g.M.Moments.closes g.M.Input.Read.remaining g.M.Output.Write.contents l (record {
            encoder = c.args.encoder.now;
            keeper = c.args.keeper.now;
            log = c.args.log.now;
            moments = c.args.moments.now;
            carousel = carousel;
            line = c.args.line.now;
            left = c.args.left.now;
          }) (record {
            encoder = t.new.encoder;
            keeper = t.new.keeper;
            log = t.new.listener;
            moments = c.args.moments.now;
            carousel = carousel;
            line = Some line;
            left = c.args.left.now;
          }) (Ok tt)) c.in-Some.ensures.value (record {
            ended = ended;
            line' = line;
            told = t.new.listener;
            reads = t.ensures.reads;
            keeps = record { settled = t.ensures.settled; clean = t.ensures.clean };
            goes = subst (λ over. GoesOnOrEnds g.M.Moments.closes over c.in-Some.open.sent line ended t.new.listener
                (record {
                  encoder = c.args.encoder.now;
                  keeper = c.args.keeper.now;
                  log = c.args.log.now;
                  moments = c.args.moments.now;
                  carousel = carousel;
                  line = c.args.line.now;
                  left = c.args.left.now;
                }) (record {
                  encoder = t.new.encoder;
                  keeper = t.new.keeper;
                  log = t.new.listener;
                  moments = c.args.moments.now;
                  carousel = carousel;
                  line = Some line;
                  left = c.args.left.now;
                }) (Ok tt)) (sym over) (refl, refl);
          });
    }
