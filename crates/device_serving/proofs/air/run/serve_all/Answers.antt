use Rattle.std.proofs.Common.{refl, sym, subst}
use Rattle.std.specs.Prelude.{None}
use Rattle.device_serving.specs.AirRun.{HangsUp}
use Rattle.device_serving.proofs.air.run.serve_all.Goals as goal

pub returns-in-Some : goal.returns-in-Some
returns-in-Some g c =
    let d = c.do_all-ended.new in
    record {
      serves = (
        d.left,
        (
          record {
            encoder = d.encoder;
            keeper = d.keeper;
            log = d.log;
            moments = d.moments;
            carousel = d.carousel;
            line = d.line;
            left = d.left;
          },
          c.do_all-ended.ensures.all,
          subst (λ line. HangsUp g.M.Moments.closes line (record {
            encoder = d.encoder;
            keeper = d.keeper;
            log = d.log;
            moments = d.moments;
            carousel = d.carousel;
            line = d.line;
            left = d.left;
          }) (record {
            encoder = d.encoder;
            keeper = d.keeper;
            log = d.log;
            moments = c.close.new.self;
            carousel = d.carousel;
            line = None;
            left = d.left;
          })) (sym c.in-Some.is) (c.close.ensures, refl),
        ),
      );
    }

pub returns-in-None : goal.returns-in-None
returns-in-None g c =
    let d = c.do_all-ended.new in
    record {
      serves = (
        d.left,
        (
          record {
            encoder = d.encoder;
            keeper = d.keeper;
            log = d.log;
            moments = d.moments;
            carousel = d.carousel;
            line = d.line;
            left = d.left;
          },
          c.do_all-ended.ensures.all,
          subst (λ line. HangsUp g.M.Moments.closes line (record {
            encoder = d.encoder;
            keeper = d.keeper;
            log = d.log;
            moments = d.moments;
            carousel = d.carousel;
            line = line;
            left = d.left;
          }) (record {
            encoder = d.encoder;
            keeper = d.keeper;
            log = d.log;
            moments = d.moments;
            carousel = d.carousel;
            line = None;
            left = d.left;
          })) (sym c.in-None.is) refl,
        ),
      );
    }
