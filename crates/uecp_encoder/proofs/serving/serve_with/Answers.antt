use Rattle.std.proofs.Common.{rules, arith, ◌≡◌, ◌<◌, ◌≤◌, ◌+◌, ◌*◌, ◌++◌, [], length, take, refl, sym, subst}
use Rattle.std.proofs.Common.{ap, length-append, mul-add, mul-le-mul_left, Err}
use Rattle.std.proofs.lemmas.List.{length-take}
use Rattle.std.proofs.KnownBytes.{Appends-nil, Appends-trans, Consumes-nil, Consumes-trans}
use Rattle.uecp_encoder.specs.Keeping.{Settled}
use Rattle.uecp_encoder.specs.ServingWith.{ServesKept, SavesFor, KeptReadsMade, StaysSettled}
use Rattle.uecp_encoder.specs.Telling.{HasHeard}
use Rattle.uecp_encoder.specs.Batches.{Takes}
use Rattle.uecp_encoder.proofs.Hearing.{hears_nothing, hears_on, until_on}
use Rattle.uecp_encoder.proofs.Saving.{saves_more}
use Rattle.uecp_encoder.proofs.Together.{takes_nothing, takes_on, stops_at_on}
use Rattle.uecp_encoder.proofs.Ending.{ends_whole, ends_stopped, settled_stopped, heard_stopped, reads_stopped}
use Rattle.uecp_encoder.proofs.serving.serve_with.Goals as goal

pub loop-turn-init : goal.loop-turn-init
loop-turn-init g c =
    let k = g.K.Keep in
    let m = g.K.BatchLimits in (
      [],
      [],
      Consumes-nil _,
      Appends-nil _,
      takes_nothing m.TOGETHER_MAX g.T.Target.step k.leaves k.is_clean k.saves k.fails c.args.encoder.now
          c.args.keeper.now,
      refl,
      omega arith,
      omega arith,
      omega arith,
      λ h. omega arith,
      refl,
      refl,
      refl,
      hears_nothing g.L.Listener.hears g.T.Target.step c.args.encoder.now c.args.listener.now,
    )

pub both-sent-requires-clause-bytes : goal.both-sent-requires-clause-bytes
both-sent-requires-clause-bytes g c =
    let (s, before, took, gave, taken, is, most, room, least, calls, read_failures, empty_reads, write_failures, heard)
    =
    c.loop-turn.invariant in
    let (now, appended, takes_more, heard_more) = c.in-Ok-take_piece.ensures.ok in
    let turn : c.loop-turn._turn < c.args.turns = search rules in
    let piece : length (take c.in-Ok.count c.read_front.new.buffer) ≤ 4192 =
    omega (arith, length-take c.in-Ok.count c.read_front.new.buffer, c.read_front.array_long) in
    omega (arith, taken.sends.few_bytes, takes_more.sends.few_bytes, room, piece, turn, c.ranges.turns.fits)

pub fault-requires : goal.fault-requires
fault-requires g c =
    let (s, before, took, gave, taken, is, most, room, least, calls, read_failures, empty_reads, write_failures, heard)
    =
    c.loop-turn.invariant in
    let turn : c.loop-turn._turn < c.args.turns = search rules in
    let piece : length (take c.in-Ok.count c.read_front.new.buffer) ≤ 4192 =
    omega (arith, length-take c.in-Ok.count c.read_front.new.buffer, c.read_front.array_long) in
    omega (
      arith,
      taken.sends.few_bytes,
      c.in-Err-take_piece.ensures.few_written,
      room,
      piece,
      turn,
      c.ranges.turns.fits,
    )

pub loop-turn-preserved : goal.loop-turn-preserved
loop-turn-preserved g c =
    let step = g.T.Target.step in
    let hears = g.L.Listener.hears in
    let k = g.K.Keep in
    let m = g.K.BatchLimits in
    let (s, before, took, gave, taken, is, most, room, least, calls, read_failures, empty_reads, write_failures, heard)
    =
    c.loop-turn.invariant in
    let more = take c.in-Ok.count c.read_front.new.buffer in
    let (now, appended, takes_more, heard_more) = c.in-Ok-take_piece.ensures.ok in
    let e = c.args.encoder.now in
    let e' = c.take_piece.new.encoder in
    let k0 = c.args.keeper.now in
    let k' = c.take_piece.new.keeper in
    let long = length-append s more in
    let fits : c.in-Ok.count ≤ m.READ_MAX = search rules in
    let few : m.READ_MAX ≤ 4192 = m.reads_few in
    let count : length more ≡ c.in-Ok.count = search rules in
    let some : 0 < c.in-Ok.count = search rules in (
      s ++ more,
      before ++ now,
      Consumes-trans _ _ _ _ _ took c.in-Ok.ensures.bytes.0,
      Appends-trans _ _ _ _ _ gave appended,
      subst (λ r. Takes m.TOGETHER_MAX step k.leaves k.is_clean k.saves e e' k0 k' (s ++ more) (before ++ now)
          (c.loop-turn._turn + 1) r c.both-sent.result.bytes) (sym c.both-sent.ensures.replies)
          (subst (λ b. Takes m.TOGETHER_MAX step k.leaves k.is_clean k.saves e e' k0 k' (s ++ more) (before ++ now)
          (c.loop-turn._turn + 1) (c.loop-turn.sent.replies + c.in-Ok-take_piece.more.replies) b)
          (sym c.both-sent.ensures.bytes)
          (takes_on m.TOGETHER_MAX step k.leaves k.is_clean k.saves k.fails e c.loop-turn.encoder e' k0
          c.loop-turn.keeper k' s before more now _ _ _ 1 _ _ taken takes_more)),
      omega (arith, is, long, count),
      omega (arith, most, long, count, fits, mul-add m.READ_MAX c.loop-turn._turn 1),
      omega (arith, room, long, count, fits, few),
      omega (arith, least, long, count, some),
      λ h. omega (arith, c.read_front.ensures.calls, calls (omega (arith, h)), h),
      search rules,
      search rules,
      search rules,
      hears_on hears step e c.loop-turn.encoder s more c.args.listener.now c.loop-turn.listener
          c.take_piece.new.listener taken.sends.all.state heard heard_more,
    )

-- ---- the part that stopped, after what was taken before
pub returns-in-Err-take_piece-clause-bytes : goal.returns-in-Err-take_piece-clause-bytes
returns-in-Err-take_piece-clause-bytes g c =
    let step = g.T.Target.step in
    let hears = g.L.Listener.hears in
    let k = g.K.Keep in
    let m = g.K.BatchLimits in
    let (s, before, took, gave, taken, is, most, room, least, calls, read_failures, empty_reads, write_failures, heard)
    =
    c.loop-turn.invariant in
    let more = take c.in-Ok.count c.read_front.new.buffer in
    let (now, start, place, appended, stops, until) = c.in-Err-take_piece.ensures.err in
    let bytes = c.loop-turn.sent.bytes in
    let why = c.in-Err-take_piece.stop in
    let e = c.args.encoder.now in
    let e' = c.take_piece.new.encoder in
    let k0 = c.args.keeper.now in
    let k' = c.take_piece.new.keeper in
    let unread = g.R.Read.remaining c.read_front.new.reader.device in
    let long = length-append s more in
    let fits : c.in-Ok.count ≤ m.READ_MAX = search rules in
    let few : m.READ_MAX ≤ 4192 = m.reads_few in
    let count : length more ≡ c.in-Ok.count = search rules in
    let turn : c.loop-turn._turn < c.args.turns = search rules in
    let stopped = stops_at_on m.TOGETHER_MAX step k.leaves k.is_clean k.saves k.fails e c.loop-turn.encoder e' k0
    c.loop-turn.keeper k' s before more now c.loop-turn._turn _ _ 1 start place why taken stops in (
      s ++ more,
      before ++ now,
      c.loop-turn._turn + 1,
      Consumes-trans _ _ _ _ _ took c.in-Ok.ensures.bytes.0,
      Appends-trans _ _ _ _ _ gave appended,
      subst (λ f. ServesKept m.TOGETHER_MAX m.READ_MAX step k.leaves k.is_clean k.saves k.fails e e' k0 k' (s ++ more)
          (before ++ now) unread c.args.turns (c.loop-turn._turn + 1) (Err f)) (sym c.fault.ensures)
          (ends_stopped m.TOGETHER_MAX m.READ_MAX step k.leaves k.is_clean k.saves k.fails e e' k0 k' (s ++ more)
          (before ++ now) (c.loop-turn._turn + 1) (length s + start) (length s + place) bytes why unread c.args.turns
          stopped (omega (arith, long, count, fits))),
      subst (λ f. HasHeard m.TOGETHER_MAX hears step e e' c.args.listener.now c.take_piece.new.listener (s ++ more)
          (before ++ now) (Err f)) (sym c.fault.ensures)
          (heard_stopped m.TOGETHER_MAX m.READ_MAX step k.leaves k.is_clean k.saves k.fails hears e e' k0 k'
          c.args.listener.now c.take_piece.new.listener (s ++ more) (before ++ now) (c.loop-turn._turn + 1)
          (length s + start) (length s + place) bytes why stopped
          (until_on hears step e c.loop-turn.encoder s before more start place bytes c.args.listener.now
          c.loop-turn.listener c.take_piece.new.listener why taken.sends.all taken.sends.bytes_are heard until)),
      subst (λ f. KeptReadsMade (Err f) c.args.turns (c.loop-turn._turn + 1)) (sym c.fault.ensures)
          (reads_stopped bytes why c.args.turns (c.loop-turn._turn + 1) (omega arith) (omega (arith, turn))),
      λ h. omega (arith, c.read_front.ensures.calls, calls (omega (arith, h)), h),
      omega (
        arith,
        long,
        count,
        fits,
        most,
        mul-add m.READ_MAX c.loop-turn._turn 1,
        mul-le-mul_left m.READ_MAX (let q : c.loop-turn._turn + 1 ≤ c.args.turns = omega (arith, turn) in q),
      ),
    )

pub returns-in-Err-take_piece-clause-settled : goal.returns-in-Err-take_piece-clause-settled
returns-in-Err-take_piece-clause-settled g c =
    let step = g.T.Target.step in
    let hears = g.L.Listener.hears in
    let k = g.K.Keep in
    let m = g.K.BatchLimits in
    let (s, before, took, gave, taken, is, most, room, least, calls, read_failures, empty_reads, write_failures, heard)
    =
    c.loop-turn.invariant in
    let more = take c.in-Ok.count c.read_front.new.buffer in
    let (now, start, place, appended, stops, until) = c.in-Err-take_piece.ensures.err in
    let bytes = c.loop-turn.sent.bytes in
    let why = c.in-Err-take_piece.stop in
    let e = c.args.encoder.now in
    let e' = c.take_piece.new.encoder in
    let k0 = c.args.keeper.now in
    let k' = c.take_piece.new.keeper in
    subst (λ f. Settled (k.leaves k0) e → k.is_clean k' → StaysSettled (k.leaves k') e' (Err f)) (sym c.fault.ensures)
    (settled_stopped m.TOGETHER_MAX m.READ_MAX step k.leaves k.is_clean k.saves k.fails e e' k0 k' (s ++ more)
    (before ++ now) (c.loop-turn._turn + 1) (length s + start) (length s + place) bytes why
    (stops_at_on m.TOGETHER_MAX step k.leaves k.is_clean k.saves k.fails e c.loop-turn.encoder e' k0 c.loop-turn.keeper
    k' s before more now c.loop-turn._turn _ _ 1 start place why taken stops))

-- ---- all that was read was taken
pub returns-in-Err-clause-bytes : goal.returns-in-Err-clause-bytes
returns-in-Err-clause-bytes g c =
    let step = g.T.Target.step in
    let hears = g.L.Listener.hears in
    let k = g.K.Keep in
    let m = g.K.BatchLimits in
    let (s, before, took, gave, taken, is, most, room, least, calls, read_failures, empty_reads, write_failures, heard)
    =
    c.loop-turn.invariant in
    let turn : c.loop-turn._turn < c.args.turns = search rules in (
      s,
      before,
      c.loop-turn._turn + 1,
      search rules,
      gave,
      ends_whole m.TOGETHER_MAX m.READ_MAX step k.leaves k.is_clean k.saves k.fails c.args.encoder.now
          c.loop-turn.encoder c.args.keeper.now c.loop-turn.keeper s before _ _ _ _ c.args.turns (c.loop-turn._turn + 1)
          _ taken (search rules) (saves_more m.TOGETHER_MAX k.saves step _ s _ _ _ taken.saved),
      heard,
      (omega arith, omega (arith, turn)),
      λ h. omega (arith, c.read_front.ensures.calls, calls (omega (arith, h)), h),
      omega (
        arith,
        most,
        mul-le-mul_left m.READ_MAX (let q : c.loop-turn._turn ≤ c.args.turns = omega (arith, turn) in q),
      ),
    )

pub returns-in-Ok-eq0-clause-bytes : goal.returns-in-Ok-eq0-clause-bytes
returns-in-Ok-eq0-clause-bytes g c =
    let step = g.T.Target.step in
    let hears = g.L.Listener.hears in
    let k = g.K.Keep in
    let m = g.K.BatchLimits in
    let (s, before, took, gave, taken, is, most, room, least, calls, read_failures, empty_reads, write_failures, heard)
    =
    c.loop-turn.invariant in
    let turn : c.loop-turn._turn < c.args.turns = search rules in (
      s,
      before,
      c.loop-turn._turn + 1,
      search rules,
      gave,
      ends_whole m.TOGETHER_MAX m.READ_MAX step k.leaves k.is_clean k.saves k.fails c.args.encoder.now
          c.loop-turn.encoder c.args.keeper.now c.loop-turn.keeper s before _ _ _ _ c.args.turns (c.loop-turn._turn + 1)
          _ taken (search rules) (saves_more m.TOGETHER_MAX k.saves step _ s _ _ _ taken.saved),
      heard,
      (omega arith, omega (arith, turn)),
      λ h. omega (arith, c.read_front.ensures.calls, calls (omega (arith, h)), h),
      omega (
        arith,
        most,
        mul-le-mul_left m.READ_MAX (let q : c.loop-turn._turn ≤ c.args.turns = omega (arith, turn) in q),
      ),
    )

pub returns-clause-bytes : goal.returns-clause-bytes
returns-clause-bytes g c =
    let step = g.T.Target.step in
    let hears = g.L.Listener.hears in
    let k = g.K.Keep in
    let m = g.K.BatchLimits in
    let (s, before, took, gave, taken, is, most, room, least, calls, read_failures, empty_reads, write_failures, heard)
    =
    c.loop-turn.invariant in
    let turn : c.loop-turn._turn ≡ c.args.turns = search rules in (
      s,
      before,
      c.args.turns,
      search rules,
      gave,
      ends_whole m.TOGETHER_MAX m.READ_MAX step k.leaves k.is_clean k.saves k.fails c.args.encoder.now
          c.loop-turn.encoder c.args.keeper.now c.loop-turn.keeper s before _ _ _ _ c.args.turns c.args.turns _ taken
          (search rules) (subst (λ n. SavesFor m.TOGETHER_MAX k.saves step c.args.encoder.now s n c.args.keeper.now
          c.loop-turn.keeper) turn taken.saved),
      heard,
      refl,
      λ h. omega (arith, calls (omega (arith, turn, h)), turn, h),
      omega (arith, most, ap (λ n. m.READ_MAX * n) turn),
    )
