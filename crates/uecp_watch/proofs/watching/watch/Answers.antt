use Rattle.std.proofs.Common.{rules, ◌≡◌, ◌∙◌, Err, is_some, take, inr, sym, subst, ap}
use Rattle.std.specs.Io.KnownBytes.{Keeps}
use Rattle.uecp_watch.specs.Watching.{IsRead, Watches}
use Rattle.uecp_watch.proofs.Watched.{HasLeft, left_at_first, left_kept, left_on, left_off}
use Rattle.uecp_watch.proofs.watching.watch.Goals as goal
use Rattle.uecp_watch.proofs.watching.watch.Goals.{in-Ok+in_ok-tell-in-Ok, in-Err+then-eq}

pub loop-turn-init : goal.loop-turn-init
loop-turn-init g c = (
  left_at_first c.args.form (is_some c.args.clock) (g.R.Read.remaining c.args.reader.now)
      (g.W.Write.contents c.args.writer.now) c.new-deframer.result c.new-deframer.ensures,
  c.new-output.ensures.empty,
  c.new-output.ensures.whole,
)

pub returns-in_err-tell-in-Ok : goal.returns-in_err-tell-in-Ok
returns-in_err-tell-in-Ok g c =
    let unread = g.R.Read.remaining c.args.reader.now in
    let between = g.R.Read.remaining c.loop-turn.reader in
    let unread' = g.R.Read.remaining c.read.new.self in
    let held = g.W.Write.contents c.args.writer.now in
    let before = g.W.Write.contents c.loop-turn.writer in
    let held' = g.W.Write.contents c.tell.new.writer in
    let timed = is_some c.args.clock in
    let bytes = take c.in-Ok.count c.read.new.buf in
    let is_read : IsRead bytes = search rules in
    let fault = c.in_err-tell-in-Ok.field-0.0 in
    let same : c.from_residual.result ≡ Err fault = search rules in
    subst (Watches c.args.form timed unread unread' held held') (sym same)
    (inr (left_off c.args.form timed unread between unread' held before c.loop-turn.deframer c.loop-turn.invariant.0
    held' bytes is_read c.in-Ok.ensures.bytes.0 fault c.in_err-tell-in-Ok.ensures.failed))

pub loop-turn-preserved : goal.loop-turn-preserved
loop-turn-preserved g c =
    let contents = g.W.Write.contents in
    let unread = g.R.Read.remaining c.args.reader.now in
    let between = g.R.Read.remaining c.loop-turn.reader in
    let unread' = g.R.Read.remaining c.read.new.self in
    let held = contents c.args.writer.now in
    let before = contents c.loop-turn.writer in
    let timed = is_some c.args.clock in
    let left = c.loop-turn.invariant.0 in
    let after = c.match-read in
    elim c.match-read.branch [
      | in-Ok+in_ok-tell-in-Ok w ↦
          let bytes = take w.in-Ok.count c.read.new.buf in
          let is_read : IsRead bytes = search rules in
          let told = w.in_ok-tell-in-Ok.ensures.told in
          let now = left_on c.args.form timed unread between unread' held before c.loop-turn.deframer left
          (contents w.tell.new.writer) bytes is_read w.in-Ok.ensures.bytes.0 told.0 w.tell.new.deframer told.1
          w.in_ok-tell-in-Ok.ensures.left told.2 in (
            subst (λ d. HasLeft c.args.form timed unread unread' held (contents after.writer) d) (sym w.deframer-is)
                (subst (λ x. HasLeft c.args.form timed unread unread' held (contents x) w.tell.new.deframer)
                (sym w.writer-is) now),
            ap (λ o. o.bytes) w.output-is ∙ w.in_ok-tell-in-Ok.ensures.empty,
            ap (λ o. o.is_whole) w.output-is ∙ w.in_ok-tell-in-Ok.ensures.whole,
          )
      | in-Err+then-eq w ↦
          let keeps : Keeps between unread' = search rules in
          let now = left_kept c.args.form timed unread between unread' held before c.loop-turn.deframer left
          keeps in (
            subst (λ d. HasLeft c.args.form timed unread unread' held (contents after.writer) d) (sym w.deframer-is)
                (subst (λ x. HasLeft c.args.form timed unread unread' held (contents x) c.loop-turn.deframer)
                (sym w.writer-is) now),
            ap (λ o. o.bytes) w.output-is ∙ c.loop-turn.invariant.1,
            ap (λ o. o.is_whole) w.output-is ∙ c.loop-turn.invariant.2,
          )
    ]
