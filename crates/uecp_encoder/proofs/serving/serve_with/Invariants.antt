use Rattle.std.proofs.Common.{◌≡◌, ℕ, ◌+◌, ◌*◌, ◌≤◌, ◌<◌, ◌^◌, List, length}
use Rattle.std.specs.Io.KnownBytes.{Appends, Consumes}
use Rattle.uecp_encoder.specs.Telling.{HearsFor}
use Rattle.uecp_encoder.specs.Batches.{Takes}
use Rattle.uecp_encoder.proofs.serving.serve_with.Given as goal

-- what was read so far, what was written for it, what was saved, and what was told
abbrev pub invariant-loop-turn : goal.invariant-loop-turn
invariant-loop-turn g l = (s : List ℕ) × (written : List ℕ)
    × Consumes (g.R.Read.remaining l.fn.reader.device) (g.R.Read.remaining l.reader.device) s
    × Appends (g.W.Write.contents l.fn.writer.device) (g.W.Write.contents l.writer.device) written
    × Takes g.K.BatchLimits.TOGETHER_MAX g.T.Target.step g.K.Keep.leaves g.K.Keep.is_clean
    g.K.Keep.saves l.fn.encoder l.encoder l.fn.keeper l.keeper s written l._turn l.sent.replies l.sent.bytes
    × (l.read ≡ length s)
    × (length s ≤ g.K.BatchLimits.READ_MAX * l._turn)
    × (length s ≤ 4192 * l._turn)
    × (l._turn ≤ length s)
    × (l.fn.reader.calls + l._turn < 2 ^ 128 → l.reader.calls ≡ l.fn.reader.calls + l._turn)
    × (l.reader.failures ≡ l.fn.reader.failures)
    × (l.reader.empty ≡ l.fn.reader.empty)
    × (l.writer.failures ≡ l.fn.writer.failures)
    × HearsFor g.L.Listener.hears g.T.Target.step l.fn.encoder s l.fn.listener l.listener
