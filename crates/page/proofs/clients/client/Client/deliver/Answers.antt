-- Each turn writes a beginning of what waits, and puts events behind that.
use Rattle.std.proofs.Common.{◌∙◌, rules, arith, ◌≤◌, ◌+◌}
use Rattle.std.proofs.lemmas.Result.{err_from_is_err_and}
use Rattle.page.specs.ClientView.{standing_of}
use Rattle.page.specs.Delivering.{IsServed}
use Rattle.page.proofs.Delivered.{since_begun, since_caught, since_written, since_fewer}
use Rattle.page.proofs.Delivered.{told_so_far, on_err}
use Rattle.page.proofs.clients.client.Client.deliver.Goals as goal

pub returns-in_err-catch_up-clause-sends : goal.returns-in_err-catch_up-clause-sends
returns-in_err-catch_up-clause-sends g c =
    let past = c.args.history.now in
    let said = g.C.Connection.talk c.args.connection.now in
    let x = standing_of c.args.self.now in
    let y = standing_of c.catch_up.new.self in
    let h = since_caught past said said x x y 0 (since_begun past said x) c.in_err-catch_up.ensures.sends
    c.in_err-catch_up.ensures.phase c.in_err-catch_up.ensures.idle in
    let p = err_from_is_err_and c.from_residual.result c.from_residual.ensures.1 in
    on_err c.from_residual.result p.0 past said said x y (λ written. IsServed past written said y) p.1
    (told_so_far past said said x y 0 h)

pub loop-write-init : goal.loop-write-init
loop-write-init g c =
    let past = c.args.history.now in
    let said = g.C.Connection.talk c.args.connection.now in
    let x = standing_of c.args.self.now in
    record {
      since = since_caught past said said x x (standing_of c.catch_up.new.self) 0 (since_begun past said x)
          c.in_ok-catch_up.ensures.sends c.in_ok-catch_up.ensures.phase c.in_ok-catch_up.ensures.idle;
      caught_up = c.in_ok-catch_up.ensures.all;
      came = c.in_ok-catch_up.ensures.came;
    }

pub returns-in_err-catch_up-2-clause-sends : goal.returns-in_err-catch_up-2-clause-sends
returns-in_err-catch_up-2-clause-sends g c =
    let past = c.args.history.now in
    let said = g.C.Connection.talk c.args.connection.now in
    let said' = g.C.Connection.talk c.write_to.new.connection in
    let x = standing_of c.args.self.now in
    let z = standing_of c.write_to.new.self in
    let y = standing_of c.catch_up-in-loop-write.new.self in
    let count = c.loop-write._write + c.in-Bytes.count in
    let k = since_written past said _ said' x (standing_of c.loop-write.self) z c.loop-write._write c.in-Bytes.count
    c.loop-write.invariant.since c.in-Bytes.ensures.writes in
    let h = since_caught past said said' x z y count k c.in_err-catch_up-2.ensures.sends
    c.in_err-catch_up-2.ensures.phase c.in_err-catch_up-2.ensures.idle in
    let p = err_from_is_err_and c.from_residual-in_err-catch_up-2.result c.from_residual-in_err-catch_up-2.ensures.1 in
    on_err c.from_residual-in_err-catch_up-2.result p.0 past said said' x y (λ written. IsServed past written said' y)
    p.1 (told_so_far past said said' x y count h)

pub loop-write-preserved : goal.loop-write-preserved
loop-write-preserved g c =
    let past = c.args.history.now in
    let said = g.C.Connection.talk c.args.connection.now in
    let said' = g.C.Connection.talk c.write_to.new.connection in
    let x = standing_of c.args.self.now in
    let z = standing_of c.write_to.new.self in
    let y = standing_of c.catch_up-in-loop-write.new.self in
    let count = c.loop-write._write + c.in-Bytes.count in
    let k = since_written past said _ said' x (standing_of c.loop-write.self) z c.loop-write._write c.in-Bytes.count
    c.loop-write.invariant.since c.in-Bytes.ensures.writes in
    let h = since_caught past said said' x z y count k c.in_ok-catch_up-2.ensures.sends
    c.in_ok-catch_up-2.ensures.phase c.in_ok-catch_up-2.ensures.idle in
    let more : c.loop-write._write + 1 ≤ count = search (rules, arith) in
    record {
      since = since_fewer past said said' x y count (c.loop-write._write + 1) h more;
      caught_up = c.in_ok-catch_up-2.ensures.all;
      came = c.in_ok-catch_up-2.ensures.came ∙ c.write_to.ensures.came ∙ c.loop-write.invariant.came;
    }
