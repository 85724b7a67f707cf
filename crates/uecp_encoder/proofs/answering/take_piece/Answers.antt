use Rattle.std.proofs.Common.{rules, arith, ◌≡◌, ℕ, ◌+◌, ◌-◌, ◌<◌, ◌≤◌, ◌++◌, ◌∙◌, Bool, false, List, [], length, take}
use Rattle.std.proofs.Common.{drop}
use Rattle.std.proofs.Common.{refl, ap, sym, subst, take-append-drop, length-drop}
use Rattle.std.proofs.Math.Seq.{take-add, take-length}
use Rattle.std.proofs.lemmas.List.{take_rest}
use Rattle.std.proofs.KnownBytes.{Appends-nil, Appends-trans}
use Rattle.uecp_frame.specs.Beyond.{found_beyond}
use Rattle.uecp_encoder.specs.Telling.{HearsFor}
use Rattle.uecp_encoder.specs.declared.listener.Event.{Event}
use Rattle.uecp_encoder.specs.Batches.{Takes, StopsAt, HearsUntil, stopped_after}
use Rattle.uecp_encoder.proofs.Hearing.{hears_nothing, hears_on, until_on, batch_heard}
use Rattle.uecp_encoder.proofs.Together.{takes_nothing, takes_on, takes_most, stops_at_on}
use Rattle.uecp_encoder.proofs.Batching.{as_one_read, batch_takes, batch_stops}
use Rattle.uecp_encoder.proofs.answering.take_piece.Goals as goal

pub loop-at-init : goal.loop-at-init
loop-at-init g c =
    let k = g.K.Keep in
    let m = g.K.BatchLimits in (
      [],
      0,
      omega arith,
      Appends-nil _,
      takes_nothing m.TOGETHER_MAX g.T.Target.step k.leaves k.is_clean k.saves k.fails c.args.encoder.now
          c.args.keeper.now,
      refl,
      hears_nothing g.L.Listener.hears g.T.Target.step c.args.encoder.now c.args.listener.now,
      omega arith,
      λ _. refl,
    )

pub returns-in-Err-clause-err : goal.returns-in-Err-clause-err
returns-in-Err-clause-err g c =
    let step = g.T.Target.step in
    let k = g.K.Keep in
    let m = g.K.BatchLimits in
    let most = m.TOGETHER_MAX in
    let hears = g.L.Listener.hears in
    let piece = c.args.piece.now in
    let at = c.loop-at.at in
    let used = c.take_batch-used.result in
    let rest : List ℕ = take (length piece - at) (drop at piece) in
    let (before, reads, within, gave, taken, failures, heard, few, none) = c.loop-at.invariant in
    let batch = c.take_batch-used.ensures in
    let listens = c.is_listening-listens.result in
    let deaf : listens ≡ false → (event : Event) (sent : Bool)
    → hears c.loop-at.listener event sent c.loop-at.listener =
    λ no event sent. g.L.Listener.deaf c.loop-at.listener event sent (sym c.is_listening-listens.ensures ∙ no) in
    let e = c.args.encoder.now in
    let e1 = c.loop-at.encoder in
    let e' = c.take_batch-used.new.encoder in
    let k0 = c.args.keeper.now in
    let k' = c.answer_batch.new.keeper in
    let l0 = c.args.listener.now in
    let l' = c.answer_batch.new.listener in
    let why = c.in-Err.stop in
    let bytes = c.loop-at.sent.bytes in
    let first : List ℕ = take at piece in
    let whole : first ++ rest ≡ piece = ap (λ l. first ++ l) (take_rest piece at) ∙ take-append-drop at piece in
    let fewer : (n : ℕ) → n < used → length (found_beyond e1.part (take n rest)) < most =
    subst (λ m. (n : ℕ) → n < used → length (found_beyond e1.part (take n rest)) < m) c.TOGETHER_MAX.ensures
    batch.fewer in
    let (now, appended, stops, until) = batch_stops most step k.leaves k.is_clean k.saves k.fails
    listens hears e1 e'
    c.loop-at.keeper k' c.loop-at.listener l' _ _ rest used c.take_batch-used.new.batch why batch.used.0 batch.used.1
    batch.state batch.batch deaf fewer c.in-Err.ensures.clean c.in-Err.ensures.err in
    let read : reads + 1 ≡ 1 = omega (arith, none c.loop-at-test.true) in
    let start = length first + 0 in
    let place = length first + (used - 1) in
    let stopped : StopsAt most step k.leaves k.is_clean k.saves k.fails e e' k0 k' piece (before ++ now) 1 start place
    (stopped_after bytes why) =
    subst (λ n. StopsAt most step k.leaves k.is_clean k.saves k.fails e e' k0 k' piece (before ++ now) n start place
    (stopped_after bytes why)) read
    (subst (λ s. StopsAt most step k.leaves k.is_clean k.saves k.fails e e' k0 k' s (before ++ now) (reads + 1) start
    place (stopped_after bytes why)) whole
    (stops_at_on most step k.leaves k.is_clean k.saves k.fails e e1 e' k0 c.loop-at.keeper k' first before rest now
    reads _ bytes 1 0 (used - 1) why taken stops)) in
    let told : HearsUntil hears step e piece start place l0 l' (stopped_after bytes why) =
    subst (λ s. HearsUntil hears step e s start place l0 l' (stopped_after bytes why)) whole
    (until_on hears step e e1 first before rest 0 (used - 1) bytes l0 c.loop-at.listener l' why taken.sends.all
    taken.sends.bytes_are heard until) in (
      before ++ now,
      start,
      place,
      Appends-trans _ _ _ _ _ gave appended,
      subst (λ it. StopsAt most step k.leaves k.is_clean k.saves k.fails e e' k0 k' piece (before ++ now) 1 start place
          it)
          (sym c.after.ensures) stopped,
      subst (λ it. HearsUntil hears step e piece start place l0 l' it) (sym c.after.ensures) told,
    )

pub loop-at-preserved : goal.loop-at-preserved
loop-at-preserved g c =
    let step = g.T.Target.step in
    let k = g.K.Keep in
    let m = g.K.BatchLimits in
    let most = m.TOGETHER_MAX in
    let hears = g.L.Listener.hears in
    let piece = c.args.piece.now in
    let at = c.loop-at.at in
    let used = c.take_batch-used.result in
    let rest : List ℕ = take (length piece - at) (drop at piece) in
    let rest_is : rest ≡ drop at piece = take_rest piece at in
    let (before, reads, within, gave, taken, failures, heard, few, none) = c.loop-at.invariant in
    let batch = c.take_batch-used.ensures in
    let listens = c.is_listening-listens.result in
    let deaf : listens ≡ false → (event : Event) (sent : Bool)
    → hears c.loop-at.listener event sent c.loop-at.listener =
    λ no event sent. g.L.Listener.deaf c.loop-at.listener event sent (sym c.is_listening-listens.ensures ∙ no) in
    let filled = c.take_batch-used.new.batch in
    let ok = c.in-Ok.ensures.ok in
    let e = c.args.encoder.now in
    let e1 = c.loop-at.encoder in
    let e' = c.take_batch-used.new.encoder in
    let k0 = c.args.keeper.now in
    let k' = c.answer_batch.new.keeper in
    let l0 = c.args.listener.now in
    let l' = c.answer_batch.new.listener in
    let first : List ℕ = take at piece in
    let now : List ℕ = filled.replies.items in
    let joined : first ++ take used rest ≡ take (at + used) piece =
    ap (λ l. first ++ take used l) rest_is ∙ sym (take-add at used piece) in
    let left : length rest ≡ length piece - at = ap length rest_is ∙ length-drop at piece in
    let full : used < length rest → most ≤ length (found_beyond e1.part (take used rest)) =
    subst (λ m. used < length rest → m ≤ length (found_beyond e1.part (take used rest))) c.TOGETHER_MAX.ensures
    batch.full in
    let (more, one, last, enough) = as_one_read most used (length rest)
    (length (found_beyond e1.part (take used rest))) full in
    let takes = takes_on most step k.leaves k.is_clean k.saves k.fails e e1 e' k0 c.loop-at.keeper k' first before
    (take used rest) now reads _ _ more filled.count (length now) taken
    (batch_takes most step k.leaves k.is_clean k.saves k.fails listens e1 e' c.loop-at.keeper k' rest used
    more filled batch.used.1 batch.state batch.batch ok.1 c.in-Ok.ensures.clean enough) in
    let bytes_is : c.both-sent.result.bytes ≡ c.loop-at.sent.bytes + length now =
    omega (arith, c.both-sent.ensures.bytes, c.len.ensures.value) in (
      before ++ now,
      reads + more,
      search rules,
      Appends-trans _ _ _ _ _ gave ok.0,
      subst (λ r. Takes most step k.leaves k.is_clean k.saves e e' k0 k' (take (at + used) piece) (before ++ now)
          (reads + more) r c.both-sent.result.bytes) (sym c.both-sent.ensures.replies)
          (subst (λ b. Takes most step k.leaves k.is_clean k.saves e e' k0 k' (take (at + used) piece) (before ++ now)
          (reads + more) (c.loop-at.sent.replies + filled.count) b) (sym bytes_is)
          (subst (λ s. Takes most step k.leaves k.is_clean k.saves e e' k0 k' s (before ++ now) (reads + more)
          (c.loop-at.sent.replies + filled.count) (c.loop-at.sent.bytes + length now)) joined takes)),
      search rules,
      subst (λ s. HearsFor hears step e s l0 l') joined
          (hears_on hears step e e1 first (take used rest) l0 c.loop-at.listener l' taken.sends.all.state heard
          (batch_heard hears step listens e1 (take used rest) filled.events.items now
          c.loop-at.listener l' deaf batch.batch.events batch.batch.silent batch.batch.replies c.in-Ok.ensures.heard)),
      omega (arith, none c.loop-at-test.true, one),
      λ behind. omega (arith, none c.loop-at-test.true, last (omega (arith, behind, left))),
    )

pub returns-clause-ok : goal.returns-clause-ok
returns-clause-ok g c =
    let step = g.T.Target.step in
    let k = g.K.Keep in
    let m = g.K.BatchLimits in
    let piece = c.args.piece.now in
    let (written, reads, within, gave, taken, failures, heard, few, none) = c.loop-at.invariant in
    let all : take c.loop-at.at piece ≡ piece =
    ap (λ n. take n piece) (let q : c.loop-at.at ≡ length piece = omega (arith, within, c.loop-at-test.false) in q)
    ∙ take-length piece in (
      written,
      gave,
      subst (λ s. Takes m.TOGETHER_MAX step k.leaves k.is_clean k.saves c.args.encoder.now c.loop-at.encoder
          c.args.keeper.now c.loop-at.keeper s written 1 c.loop-at.sent.replies c.loop-at.sent.bytes) all
          (takes_most m.TOGETHER_MAX step k.leaves k.is_clean k.saves k.fails c.args.encoder.now c.loop-at.encoder
          c.args.keeper.now c.loop-at.keeper (take c.loop-at.at piece) written reads _ _ few taken),
      subst (λ s. HearsFor g.L.Listener.hears step c.args.encoder.now s c.args.listener.now c.loop-at.listener) all
          heard,
    )
