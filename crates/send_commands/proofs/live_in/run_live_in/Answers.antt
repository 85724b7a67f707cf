use Rattle.std.proofs.Common.{rules, refl, inr}
use Rattle.state_files.specs.declared.fault.StateFault.TheVariants as state
use Rattle.send_commands.proofs.live_in.run_live_in.Goals as goal

pub returns-then-progress-ge-TAKEN_MAX-clause-lives : goal.returns-then-progress-ge-TAKEN_MAX-clause-lives
returns-then-progress-ge-TAKEN_MAX-clause-lives g c =
    let said = c.fail_file-then-progress-ge-TAKEN_MAX in
    inr (
      (
        state.Damaged,
        inr (c.in-Ok.server, c.in-Ok.progress, c.in-Ok.keeper, c.in-Ok.ensures.given, search rules, refl),
        said.ensures.status,
        said.ensures.said,
      ),
      refl,
      refl,
      refl,
    )
