use Rattle.std.proofs.Common.{rules, arith, ◌≡◌, ◌≢◌, ◌≤◌, refl, length, take, inl, inr}
use Rattle.uecp_link.specs.declared.joining.Seen.TheVariants.{Both}
use Rattle.uecp_link.proofs.Reading.{no_read, one_read, failed_read, last_read}
use Rattle.uecp_link.proofs.Passing.{read_none, read_on, not_brought, replies_both, replies_quiet}
use Rattle.uecp_link.proofs.joining.read_replies.Goals as goal

pub loop-turn-init : goal.loop-turn-init
loop-turn-init g c = read_none g.R.Read.remaining c.args.server.now c.args.reader.now c.requires.idle
    c.args.replies.now c.requires.none

pub returns : goal.returns
returns g c =
    let all : c.loop-turn._turn ≡ c.args.turns = omega arith in
    replies_quiet g.R.Read.remaining _ _ _ _ _ c.loop-turn._turn c.loop-turn.invariant _ _ c.args.turns 0 0 _
    (no_read g.R.Read.remaining _) refl (omega arith)
    (not_brought g.R.Read.remaining _ _ _ _ _ _ c.loop-turn.invariant c.requires.closed, inr (refl, omega arith))

pub returns-in-Err : goal.returns-in-Err
returns-in-Err g c =
    let failed = failed_read g.R.Read.remaining c.loop-turn.reader _ c.in-Err.ensures.bytes c.read.ensures.calls
    c.in-Err.ensures.failures c.in-Err.ensures.empty in
    replies_quiet g.R.Read.remaining _ _ _ _ _ c.loop-turn._turn c.loop-turn.invariant _ _ c.args.turns 1 1 _ failed
    refl (omega arith)
    (not_brought g.R.Read.remaining _ _ _ _ _ _ c.loop-turn.invariant c.requires.closed, inl (refl, omega arith))

pub returns-in-Ok-eq0 : goal.returns-in-Ok-eq0
returns-in-Ok-eq0 g c =
    let last = last_read g.R.Read.remaining c.loop-turn.reader c.read.new.self c.read.new.buffer _
    c.in-Ok-eq0.field-0-test c.in-Ok-eq0.ensures.bytes.0 c.read.ensures.calls c.in-Ok-eq0.ensures.failures
    (search rules) in
    replies_quiet g.R.Read.remaining _ _ _ _ _ c.loop-turn._turn c.loop-turn.invariant _ _ c.args.turns 1 0 _ last refl
    (omega arith) (
      not_brought g.R.Read.remaining _ _ _ _ _ _ c.loop-turn.invariant c.requires.closed,
      refl,
      omega arith,
      search rules,
    )

pub returns-then-eq : goal.returns-then-eq
returns-then-eq g c =
    let piece = take c.in-Ok.count c.read.new.buffer in
    let room : length piece ≤ 64 = search rules in
    let stays : c.read.new.self.empty ≡ c.loop-turn.reader.empty = search rules in
    let brought = one_read g.R.Read.remaining c.loop-turn.reader _ piece c.in-Ok.ensures.bytes.0 room
    c.read.ensures.calls c.in-Ok.ensures.failures stays in
    let both : c.hear_replies.result.seen ≡ Both = search rules in
    replies_both g.R.Read.remaining _ _ _ c.loop-turn.reader _ c.loop-turn._turn c.loop-turn.invariant _ _
    c.hear_replies.result piece
    c.args.turns c.requires.closed brought (search rules) (search rules) both (omega arith)

pub loop-turn-preserved : goal.loop-turn-preserved
loop-turn-preserved g c =
    let piece = take c.in-Ok.count c.read.new.buffer in
    let room : length piece ≤ 64 = search rules in
    let stays : c.read.new.self.empty ≡ c.loop-turn.reader.empty = search rules in
    let brought = one_read g.R.Read.remaining c.loop-turn.reader _ piece c.in-Ok.ensures.bytes.0 room
    c.read.ensures.calls c.in-Ok.ensures.failures stays in
    let waits : c.hear_replies.result.seen ≢ Both = search rules in
    read_on g.R.Read.remaining _ _ _ c.loop-turn.reader _ c.loop-turn._turn c.loop-turn.invariant _ _
    c.hear_replies.result piece
    brought (search rules) (search rules) waits
