use Rattle.std.proofs.Common.{rules, arith, ◌≤◌, ◌≡◌, ◌∙◌, length, take, sym}
use Rattle.uecp_link.proofs.Answered.{acknowledged_as, few_wait}
use Rattle.uecp_link.proofs.Reading.{one_read, failed_read, last_read}
use Rattle.uecp_link.proofs.Tries.{waits_none, waits_on, nothing_came, read_failed, input_ended, reply_came}
use Rattle.uecp_link.proofs.driving.listen.Goals as goal

pub loop-turn-init : goal.loop-turn-init
loop-turn-init g c = waits_none g.R.Read.remaining c.args.server.now c.args.reader.now

pub returns : goal.returns
returns g c = nothing_came g.R.Read.remaining _ _ _ _ c.loop-turn._turn c.loop-turn.invariant c.args.turns (omega arith)

pub returns-in-Err : goal.returns-in-Err
returns-in-Err g c =
    let failed = failed_read g.R.Read.remaining c.loop-turn.reader _ c.in-Err.ensures.bytes c.read.ensures.calls
    c.in-Err.ensures.failures c.in-Err.ensures.empty in
    read_failed g.R.Read.remaining _ _ _ c.loop-turn.reader c.loop-turn._turn c.loop-turn.invariant _ c.args.turns
    failed (omega arith)

pub returns-in-Ok-eq0 : goal.returns-in-Ok-eq0
returns-in-Ok-eq0 g c =
    let last = last_read g.R.Read.remaining c.loop-turn.reader c.read.new.self c.read.new.buffer _
    c.in-Ok-eq0.field-0-test c.in-Ok-eq0.ensures.bytes.0 c.read.ensures.calls c.in-Ok-eq0.ensures.failures
    (search rules) in
    input_ended g.R.Read.remaining _ _ _ c.loop-turn.reader c.loop-turn._turn c.loop-turn.invariant _ c.args.turns last
    (search rules) (omega arith)

pub returns-in-Some : goal.returns-in-Some
returns-in-Some g c =
    let piece = take c.in-Ok.count c.read.new.buffer in
    let room : length piece ≤ 64 = search rules in
    let stays : c.read.new.self.empty ≡ c.loop-turn.reader.empty = search rules in
    let brought = one_read g.R.Read.remaining c.loop-turn.reader _ piece c.in-Ok.ensures.bytes.0 room
    c.read.ensures.calls c.in-Ok.ensures.failures stays in
    let few = few_wait c.args.server.now c.loop-turn.server c.loop-turn.invariant.read c.requires
    c.loop-turn.invariant.state c.loop-turn.invariant.silent in
    reply_came g.R.Read.remaining _ c.loop-turn.server _ c.loop-turn.reader c.loop-turn._turn c.loop-turn.invariant _ _
    c.args.turns piece c.in-Some.code brought
    c.give_piece.ensures.state (sym (c.in-Some.ensures.said ∙ acknowledged_as c.loop-turn.server piece few))
    (omega arith)

pub loop-turn-preserved : goal.loop-turn-preserved
loop-turn-preserved g c =
    let piece = take c.in-Ok.count c.read.new.buffer in
    let room : length piece ≤ 64 = search rules in
    let stays : c.read.new.self.empty ≡ c.loop-turn.reader.empty = search rules in
    let brought = one_read g.R.Read.remaining c.loop-turn.reader _ piece c.in-Ok.ensures.bytes.0 room
    c.read.ensures.calls c.in-Ok.ensures.failures stays in
    let few = few_wait c.args.server.now c.loop-turn.server c.loop-turn.invariant.read c.requires
    c.loop-turn.invariant.state c.loop-turn.invariant.silent in
    waits_on g.R.Read.remaining _ c.loop-turn.server _ c.loop-turn.reader c.loop-turn._turn c.loop-turn.invariant _ _
    piece brought
    c.give_piece.ensures.state (sym (c.in_default.ensures.said ∙ acknowledged_as c.loop-turn.server piece few))
