use Rattle.std.proofs.Common.{rules, ◌∙◌, is_some, take, sym, subst, ap}
use Rattle.std.proofs.KnownBytes.{Keeps-refl}
use Rattle.std.specs.Io.KnownBytes.{Keeps}
use Rattle.receive_command.proofs.HeardBits.{HasHeard, heard_kept, heard_on, heard_off, stops_reading}
use Rattle.receive_command.proofs.bits.receive_bits.Goals as goal
use Rattle.receive_command.proofs.bits.receive_bits.Goals.{in-Ok+in-Ok-hear_bits, in-Err+then-eq}

pub returns-in-Err-hear_bits : goal.returns-in-Err-hear_bits
returns-in-Err-hear_bits g c =
    let unread = g.R.Read.remaining in
    let held = g.W.Write.contents in
    heard_off c.args.form (is_some c.args.clock) (unread c.args.reader.now) (unread c.loop-turn.reader)
    (unread c.read.new.self) (held c.args.writer.now) (held c.loop-turn.writer) c.args.errors.now
    c.loop-turn.errors c.loop-turn.hearing c.loop-turn.invariant.0 (take c.in-Ok.count c.read.new.buf)
    c.in-Ok.ensures.bytes.0 c.note_foreign.new.hearing c.note_foreign.ensures.foreign
    c.note_foreign.ensures.synchroniser c.note_foreign.ensures.receiver c.note_foreign.new.errors
    c.note_foreign.ensures.said (held c.hear_bits.new.writer) c.in-Err-hear_bits.fault c.in-Err-hear_bits.ensures.failed
    c.fail.result c.fail.new.errors c.fail.ensures.status c.fail.ensures.said

pub returns-in-Err-2 : goal.returns-in-Err-2
returns-in-Err-2 g c =
    let unread = g.R.Read.remaining in
    let held = g.W.Write.contents in
    let keeps : Keeps (unread c.loop-turn.reader) (unread c.read.new.self) = search rules in
    stops_reading c.args.form (is_some c.args.clock) (unread c.args.reader.now) (unread c.loop-turn.reader)
    (unread c.read.new.self) (held c.args.writer.now) (held c.loop-turn.writer) c.args.errors.now
    c.loop-turn.errors c.loop-turn.hearing c.loop-turn.invariant.0 keeps c.fail-in-Err-2.result
    c.fail-in-Err-2.new.errors c.fail-in-Err-2.ensures.status c.fail-in-Err-2.ensures.said

pub loop-turn-preserved : goal.loop-turn-preserved
loop-turn-preserved g c =
    let unread = g.R.Read.remaining in
    let held = g.W.Write.contents in
    let form = c.args.form in
    let timed = is_some c.args.clock in
    let first = unread c.args.reader.now in
    let between = unread c.loop-turn.reader in
    let unread' = unread c.read.new.self in
    let before = held c.loop-turn.writer in
    let spoken = c.loop-turn.errors in
    let h = c.loop-turn.hearing in
    let left = c.loop-turn.invariant.0 in
    let after = c.match-read in
    elim c.match-read.branch [
      | in-Ok+in-Ok-hear_bits w ↦
          let now = heard_on form timed first between unread' (held c.args.writer.now) before c.args.errors.now
          spoken h left (take w.in-Ok.count c.read.new.buf) w.in-Ok.ensures.bytes.0 w.note_foreign.new.hearing
          w.note_foreign.ensures.foreign w.note_foreign.ensures.synchroniser w.note_foreign.ensures.receiver
          w.note_foreign.new.errors w.note_foreign.ensures.said (held w.hear_bits.new.writer)
          w.hear_bits.new.hearing w.in-Ok-hear_bits.ensures.heard w.hear_bits.ensures.foreign in (
            subst (λ h'. HasHeard form timed first unread' (held c.args.writer.now) (held after.writer)
                c.args.errors.now after.errors h') (sym w.hearing-is)
                (subst (λ x. HasHeard form timed first unread' (held c.args.writer.now) (held x)
                c.args.errors.now after.errors w.hear_bits.new.hearing) (sym w.writer-is)
                (subst (λ x. HasHeard form timed first unread' (held c.args.writer.now) (held w.hear_bits.new.writer)
                c.args.errors.now x w.hear_bits.new.hearing) (sym w.errors-is) now)),
            ap (λ o. o.bytes) w.output-is ∙ w.in-Ok-hear_bits.ensures.empty,
            ap (λ o. o.is_whole) w.output-is ∙ w.in-Ok-hear_bits.ensures.whole,
          )
      | in-Err+then-eq w ↦
          let keeps : Keeps between unread' = search rules in
          let now = heard_kept form timed first between unread' (held c.args.writer.now) before c.args.errors.now
          spoken h left keeps in (
            subst (λ h'. HasHeard form timed first unread' (held c.args.writer.now) (held after.writer)
                c.args.errors.now after.errors h') (sym w.hearing-is)
                (subst (λ x. HasHeard form timed first unread' (held c.args.writer.now) (held x)
                c.args.errors.now after.errors h) (sym w.writer-is)
                (subst (λ x. HasHeard form timed first unread' (held c.args.writer.now) before
                c.args.errors.now x h) (sym w.errors-is) now)),
            ap (λ o. o.bytes) w.output-is ∙ c.loop-turn.invariant.1,
            ap (λ o. o.is_whole) w.output-is ∙ c.loop-turn.invariant.2,
          )
    ]

pub returns : goal.returns
returns g c =
    let unread = g.R.Read.remaining in
    let held = g.W.Write.contents in
    stops_reading c.args.form (is_some c.args.clock) (unread c.args.reader.now) (unread c.loop-turn.reader)
    (unread c.loop-turn.reader) (held c.args.writer.now) (held c.loop-turn.writer) c.args.errors.now
    c.loop-turn.errors c.loop-turn.hearing c.loop-turn.invariant.0 (Keeps-refl (unread c.loop-turn.reader))
    c.fail-2.result c.fail-2.new.errors c.fail-2.ensures.status c.fail-2.ensures.said
