use Rattle.std.proofs.Common.{rules, arith, ◌≡◌, ◌≢◌, ◌≤◌, [], refl, length, take}
use Rattle.uecp_link.proofs.Reading.{no_read, one_read, failed_read, last_read}
use Rattle.uecp_link.proofs.Windowing.{gathered_none, gathered_on, gathers_more, gathers_quiet}
use Rattle.uecp_link.proofs.window.gather.Goals as goal

pub loop-turn-init : goal.loop-turn-init
loop-turn-init g c = gathered_none g.R.Read.remaining c.args.server.now c.args.reader.now c.args.marks.now.items
    c.requires.busy

pub returns-clause-gathers : goal.returns-clause-gathers
returns-clause-gathers g c =
    let all : c.loop-turn._turn ≡ c.args.turns = omega arith in
    gathers_quiet g.R.Read.remaining _ _ _ _ _ _ c.loop-turn._turn c.loop-turn.invariant _ _ _ c.args.turns 0 0 _
    (no_read g.R.Read.remaining _) (search rules) (search rules) (omega arith) (search rules)

pub returns-in-Err-clause-gathers : goal.returns-in-Err-clause-gathers
returns-in-Err-clause-gathers g c =
    let failed = failed_read g.R.Read.remaining c.loop-turn.reader _ c.in-Err.ensures.bytes c.read.ensures.calls
    c.in-Err.ensures.failures c.in-Err.ensures.empty in
    gathers_quiet g.R.Read.remaining _ _ _ _ _ _ c.loop-turn._turn c.loop-turn.invariant _ _ _ c.args.turns 1 1 _
    failed (search rules) (search rules) (omega arith) (search rules)

pub returns-in-Ok-eq0-clause-gathers : goal.returns-in-Ok-eq0-clause-gathers
returns-in-Ok-eq0-clause-gathers g c =
    let last = last_read g.R.Read.remaining c.loop-turn.reader c.read.new.self c.read.new.buffer _
    c.in-Ok-eq0.field-0-test c.in-Ok-eq0.ensures.bytes.0 c.read.ensures.calls c.in-Ok-eq0.ensures.failures
    (search rules) in
    gathers_quiet g.R.Read.remaining _ _ _ _ _ _ c.loop-turn._turn c.loop-turn.invariant _ _ _ c.args.turns 1 0 _
    last (search rules) (search rules) (omega arith) (search rules)

pub returns-then-is_idle-clause-gathers : goal.returns-then-is_idle-clause-gathers
returns-then-is_idle-clause-gathers g c =
    let piece = take c.in-Ok.count c.read.new.buffer in
    let room : length piece ≤ 64 = search rules in
    let stays : c.read.new.self.empty ≡ c.loop-turn.reader.empty = search rules in
    let brought = one_read g.R.Read.remaining c.loop-turn.reader _ piece c.in-Ok.ensures.bytes.0 room
    c.read.ensures.calls c.in-Ok.ensures.failures stays in
    gathers_more g.R.Read.remaining _ _ _ c.loop-turn.reader _ _ c.loop-turn._turn c.loop-turn.invariant _ _ _ piece
    c.args.turns _
    brought (search rules) (search rules) refl (omega arith) (λ late. search rules)

pub loop-turn-preserved : goal.loop-turn-preserved
loop-turn-preserved g c =
    let piece = take c.in-Ok.count c.read.new.buffer in
    let room : length piece ≤ 64 = search rules in
    let stays : c.read.new.self.empty ≡ c.loop-turn.reader.empty = search rules in
    let brought = one_read g.R.Read.remaining c.loop-turn.reader _ piece c.in-Ok.ensures.bytes.0 room
    c.read.ensures.calls c.in-Ok.ensures.failures stays in
    let busy : c.hear_marks.new.server.held ≢ [] = search rules in
    gathered_on g.R.Read.remaining _ _ _ c.loop-turn.reader _ _ c.loop-turn._turn c.loop-turn.invariant _ _ _ piece
    brought (search rules) (search rules) busy (search rules)
