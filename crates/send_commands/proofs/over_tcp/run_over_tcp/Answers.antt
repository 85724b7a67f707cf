use Rattle.std.proofs.Common.{ℕ, List, inl, sym, subst, ◌∙◌}
use Rattle.send_commands.specs.StationFile.{IsStationOf}
use Rattle.send_commands.proofs.over_tcp.run_over_tcp.Goals as goal

pub returns-in-Ok-ledger_of-clause-sent : goal.returns-in-Ok-ledger_of-clause-sent
returns-in-Ok-ledger_of-clause-sent g c =
    inl (
      c.as_slice-station.result.now,
      c.patient_of-patient.result,
      c.run_send-status.new.connect,
      _,
      c.run_send-status.new.feed,
      c.station_of.new.errors,
      c.run_send-status.new.errors,
      c.patient_of-patient.ensures,
      record {
        none = λ none. let begun = c.in-Ok.ensures.none none in
            (c.as_slice-station.ensures.value ∙ begun.0, begun.2);
        all = λ some. let (file, is) = c.in-Ok.ensures.all some in (
          g.N.File.Read.remaining file,
          subst (λ (ms : List (List ℕ)). IsStationOf c.args.job.now.region (g.N.File.Read.remaining file) ms)
              (sym c.as_slice-station.ensures.value) is,
        );
      },
      c.in-Ok-ledger_of.ensures.there,
      rw (c.new-feed.ensures, c.in-Ok-new.ensures.begun) at c.run_send-status.ensures.sent,
      rw c.fault.ensures at c.say_fault.ensures,
    )
