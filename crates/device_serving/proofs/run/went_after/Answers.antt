use Rattle.std.proofs.Common.{rules, ◌≡◌, ◌∙◌}
use Rattle.device_serving.specs.DeviceRun.{went}
use Rattle.kept_jobs.proofs.Public.{goes, stopped}
use Rattle.device_serving.proofs.Serving.{stops_after, goes_after}
use Rattle.device_serving.proofs.run.went_after.Goals as goal

pub returns-in_err-went : goal.returns-in_err-went
returns-in_err-went g c =
    let stop = c.in_err-went.field-0.0 in
    let fault = c.args.log.now.fault in
    let is : c.from_residual.result ≡ stopped stop = search rules in
    let was : stopped stop ≡ went fault = search rules in
    is ∙ stops_after fault c.args.ended stop was

pub returns : goal.returns
returns g c =
    let fault = c.args.log.now.fault in
    let was : goes ≡ went fault = search rules in
    c.ended_so.ensures ∙ goes_after fault c.args.ended was
