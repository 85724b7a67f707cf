use Rattle.std.proofs.Common.{rules, ◌≡◌, ◌+◌, ◌≤◌, false, true, length, take}
use Rattle.conformance_command.proofs.Heard.{failed_more, ended_more, brought_more}
use Rattle.conformance_command.proofs.reply_stream.hear.Goals as goal
use Rattle.conformance_command.proofs.reply_stream.hear.Goals.{in-Err+else-failed-patience+else-not-is_missing}
use Rattle.conformance_command.proofs.reply_stream.hear.Goals.{in-Ok+else-is_err}

pub returns-then-failed-patience : goal.returns-then-failed-patience
returns-then-failed-patience g c =
    let more = failed_more g.R.Read.remaining _ _ _ _ _ c.loop-turn.invariant.reads _ c.in-Err.ensures.bytes
    c.read.ensures.calls c.in-Err.ensures.failures c.in-Err.ensures.empty in (
      c.loop-turn._turn + 1,
      c.loop-turn.failed + 1,
      false,
      more,
      search rules,
      search rules,
      search rules,
      search rules,
    )

pub returns-in-Ok-eq0 : goal.returns-in-Ok-eq0
returns-in-Ok-eq0 g c =
    let more = ended_more g.R.Read.remaining _ _ _ _ _ c.loop-turn.invariant.reads _ c.read.new.buffer _
    c.in-Ok-eq0.field-0-test c.in-Ok-eq0.ensures.bytes.0 c.read.ensures.calls c.in-Ok-eq0.ensures.failures
    (search rules) in (
      c.loop-turn._turn + 1,
      c.loop-turn.failed + 0,
      true,
      more,
      search rules,
      search rules,
      search rules,
      search rules,
    )

pub returns-then-is_err : goal.returns-then-is_err
returns-then-is_err g c =
    let piece = take c.in-Ok.count c.read.new.buffer in
    let room : length piece ≤ 64 = search rules in
    let stays : c.read.new.self.empty ≡ c.loop-turn.input.empty = search rules in
    let more = brought_more g.R.Read.remaining _ _ _ _ _ c.loop-turn.invariant.reads _ piece c.in-Ok.ensures.bytes.0
    room c.read.ensures.calls c.in-Ok.ensures.failures stays in
    (_, c.loop-turn._turn + 1, c.loop-turn.failed + 0, more, search rules, search rules)

pub loop-turn-preserved : goal.loop-turn-preserved
loop-turn-preserved g c = elim c.match-read.branch [
  | in-Err+else-failed-patience+else-not-is_missing w ↦
      let more = failed_more g.R.Read.remaining _ _ _ _ _ c.loop-turn.invariant.reads _ w.in-Err.ensures.bytes
      c.read.ensures.calls w.in-Err.ensures.failures w.in-Err.ensures.empty in
      record { reads = search rules; waits = search rules }
  | in-Ok+else-is_err w ↦
      let piece = take w.in-Ok.count c.read.new.buffer in
      let room : length piece ≤ 64 = search rules in
      let stays : c.read.new.self.empty ≡ c.loop-turn.input.empty = search rules in
      let more = brought_more g.R.Read.remaining _ _ _ _ _ c.loop-turn.invariant.reads _ piece
      w.in-Ok.ensures.bytes.0 room c.read.ensures.calls w.in-Ok.ensures.failures stays in
      record { reads = search rules; waits = search rules }
]
