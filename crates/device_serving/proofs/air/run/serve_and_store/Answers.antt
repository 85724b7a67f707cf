use Rattle.std.proofs.Common.{rules, ◌≡◌, Bool, Ok, Err, refl, subst, inl, inr}
use Rattle.std.specs.Prelude.{None}
use Rattle.device_serving.specs.DeviceRun.{TellsStore}
use Rattle.device_serving.proofs.air.run.serve_and_store.Goals as goal

pub returns-in_err-tell_store : goal.returns-in_err-tell_store
returns-in_err-tell_store g c =
    let stop = c.in_err-tell_store.field-0.0 in
    let log = c.args.log.now in
    let same : c.from_residual.result ≡ Err stop = search rules in
    let tells = subst (λ (b : Bool). TellsStore b c.args.encoder.now.value log c.tell_store.new.log (Err stop))
    c.tells_first.ensures c.in_err-tell_store.ensures.tells in
    record { runs = (c.args.limits.connections, inr (stop, (tells, refl), same)) }

pub returns-in_err-serve_all : goal.returns-in_err-serve_all
returns-in_err-serve_all g c =
    let stop = c.in_err-serve_all.field-0.0 in
    let log = c.args.log.now in
    let same : c.from_residual-in_err-serve_all.result ≡ Err stop = search rules in
    let served = c.in_err-serve_all.ensures.serves in
    let tells = subst (λ (b : Bool). TellsStore b c.args.encoder.now.value log c.tell_store.new.log (Ok tt))
    c.tells_first.ensures c.in_ok-tell_store.ensures.tells in
    record {
      runs = (
        served.0,
        inl (
          record {
            encoder = c.args.encoder.now;
            keeper = c.args.keeper.now;
            log = c.tell_store.new.log;
            moments = c.args.moments.now;
            carousel = c.args.carousel.now;
            line = None;
            left = c.args.limits.connections;
          },
          (tells, refl),
          inr (stop, served.1, same),
        ),
      );
    }

pub returns : goal.returns
returns g c =
    let s = c.serve_all.new in
    let log = c.args.log.now in
    let served = c.in_ok-serve_all.ensures.serves in
    let tells = subst (λ (b : Bool). TellsStore b c.args.encoder.now.value log c.tell_store.new.log (Ok tt))
    c.tells_first.ensures c.in_ok-tell_store.ensures.tells in
    record {
      runs = (
        served.0,
        inl (
          record {
            encoder = c.args.encoder.now;
            keeper = c.args.keeper.now;
            log = c.tell_store.new.log;
            moments = c.args.moments.now;
            carousel = c.args.carousel.now;
            line = None;
            left = c.args.limits.connections;
          },
          (tells, refl),
          inl (
            record {
              encoder = s.encoder;
              keeper = s.keeper;
              log = s.log;
              moments = s.moments;
              carousel = s.carousel;
              line = None;
              left = served.0;
            },
            served.1,
            (c.tell_store-2.ensures.tells, refl),
          ),
        ),
      );
    }
