use Rattle.std.proofs.Common.{rules, ◌≡◌, Bool, Ok, Err, refl, subst, inl, inr}
use Rattle.device_serving.specs.DeviceRun.{TellsStore}
use Rattle.device_serving.proofs.run.serve_and_store.Goals as goal

pub returns-in_err-serve_connections : goal.returns-in_err-serve_connections
returns-in_err-serve_connections g c =
    let stop = c.in_err-serve_connections.field-0.0 in
    let log = c.args.log.now in
    let same : c.from_residual-in_err-serve_connections.result ≡ Err stop = search rules in
    let tells = subst (λ (b : Bool). TellsStore b c.args.encoder.now.value log c.tell_store.new.log (Ok tt))
    c.tells_first.ensures c.in_ok-tell_store.ensures.tells in
    record {
      runs = inl (
        record {
          encoder = c.args.encoder.now;
          keeper = c.args.keeper.now;
          connect = c.args.connect.now;
          log = c.tell_store.new.log;
        },
        record { encoder = refl; keeper = refl; connect = refl; tells = tells },
        inr (stop, c.in_err-serve_connections.ensures.serves, same),
      );
    }

pub returns : goal.returns
returns g c =
    let s = c.serve_connections.new in
    let log = c.args.log.now in
    let tells = subst (λ (b : Bool). TellsStore b c.args.encoder.now.value log c.tell_store.new.log (Ok tt))
    c.tells_first.ensures c.in_ok-tell_store.ensures.tells in
    record {
      runs = inl (
        record {
          encoder = c.args.encoder.now;
          keeper = c.args.keeper.now;
          connect = c.args.connect.now;
          log = c.tell_store.new.log;
        },
        record { encoder = refl; keeper = refl; connect = refl; tells = tells },
        inl (
          record { encoder = s.encoder; keeper = s.keeper; connect = s.connect; log = s.log },
          c.in_ok-serve_connections.ensures.serves,
          record { encoder = refl; keeper = refl; connect = refl; tells = c.tell_store-2.ensures.tells },
        ),
      );
    }
