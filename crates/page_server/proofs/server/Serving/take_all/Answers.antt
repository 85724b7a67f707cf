use Rattle.std.proofs.Common.{refl, ◌∙◌, subst}
use Rattle.page_server.specs.Serving.{Moves}
use Rattle.page_server.proofs.Reading.{nothing_read, reads_then, reads_all_then, moves_on, moves_from, reads_to}
use Rattle.page_server.proofs.server.Serving.take_all.Goals as goal

pub loop-turn-init : goal.loop-turn-init
loop-turn-init g c = record {
  reads = nothing_read (g.R.Read.remaining c.args.reader.now) c.args.self.now.intake;
  limit = refl;
  serving = c.requires.serving;
  caught_up = c.requires.caught_up;
}

pub returns-in-Ended-clause-reads : goal.returns-in-Ended-clause-reads
returns-in-Ended-clause-reads g c =
    let between = g.R.Read.remaining c.loop-turn.reader in
    let new = g.R.Read.remaining c.take_lines.new.reader in
    let i = c.loop-turn.self.intake in
    let k = c.take_lines.new.self.intake in
    reads_all_then (g.R.Read.remaining c.args.reader.now) between new c.args.self.now.intake i k
    c.loop-turn.invariant.reads
    (subst (Moves between new i k) c.in-Ended.is
    (moves_from between new c.turn.new.self.intake i k c.in_ok-progress.progress c.in_ok-turn.ensures.same
    c.in_ok-progress.ensures.moves))

pub loop-turn-preserved : goal.loop-turn-preserved
loop-turn-preserved g c =
    let old = g.R.Read.remaining c.args.reader.now in
    let between = g.R.Read.remaining c.loop-turn.reader in
    let new = g.R.Read.remaining c.take_lines.new.reader in
    let i = c.loop-turn.self.intake in
    let k = c.take_lines.new.self.intake in
    record {
      reads = reads_to old new c.args.self.now.intake k c.settle.new.self.intake c.settle.ensures.same
          (reads_then old between new c.args.self.now.intake i k c.loop-turn.invariant.reads
          (moves_on between new i k c.in_ok-progress.progress c.in_default.not-Ended
          (moves_from between new c.turn.new.self.intake i k c.in_ok-progress.progress c.in_ok-turn.ensures.same
          c.in_ok-progress.ensures.moves)));
      limit = c.settle.ensures.limit ∙ c.in_ok-progress.ensures.limit ∙ c.in_ok-turn.ensures.limit
          ∙ c.loop-turn.invariant.limit;
      serving = c.settle.ensures.serving;
      caught_up = c.settle.ensures.caught_up;
    }
