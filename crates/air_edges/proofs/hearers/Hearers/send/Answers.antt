use Rattle.std.proofs.Common.{rules, arith, ◌<◌, ◌+◌, length, subst, sym, ℕ, List}
use Rattle.air_edges.specs.Hearers.{Hearing, GetsGroup, IsGone, IsSlow}
use Rattle.air_edges.proofs.Getting.{HasGone, one_stays, one_gone, one_slow}
use Rattle.air_edges.proofs.hearers.Hearers.send.Goals as goal
use Rattle.air_edges.proofs.hearers.Hearers.send.Goals.{in-Gone, in-Slow}

pub loop-place-preserved-in-Stays : goal.loop-place-preserved-in-Stays
loop-place-preserved-in-Stays g c =
    let takes = g.H.Hears.takes in
    let contents = g.H.Write.contents in
    let now = c.loop-place.self-inside.hearers.items in
    let i = c.loop-place.invariant in
    let more : c.loop-place.place < length now = search rules in
    record {
      gone = one_stays takes contents c.args.bytes.now c.self.inside.hearers.items now c.loop-place.place
          c.loop-place.slow c.index_mut.result.now c.send.new.self i.gone more
          (subst (λ (h : Hearing g.row.H.Denot). GetsGroup takes contents c.args.bytes.now h c.send.new.self)
          c.index_mut.ensures.value c.in-Stays.ensures);
      room = i.room;
      most = i.most;
      few = i.few;
    }

pub loop-place-preserved : goal.loop-place-preserved
loop-place-preserved g c =
    let takes = g.H.Hears.takes in
    let contents = g.H.Write.contents in
    let before = c.self.inside.hearers.items in
    let now = c.loop-place.self-inside.hearers.items in
    let place = c.loop-place.place in
    let h = c.index_mut.result.now in
    let h' = c.send.new.self in
    let i = c.loop-place.invariant in
    let more : place < length now = search rules in
    let left = sym c.remove.ensures.by_index.2 in
    let gone : HasGone takes contents c.args.bytes.now before c.remove.new.self.items place c.match-send.slow =
    elim c.match-send.branch [
      | in-Gone w ↦ subst (λ (n : ℕ). HasGone takes contents c.args.bytes.now before c.remove.new.self.items place n)
          (sym w.slow-is)
          (subst (λ (xs : List (Hearing g.row.H.Denot)). HasGone takes contents c.args.bytes.now before xs place
          c.loop-place.slow) left
          (one_gone takes contents c.args.bytes.now before now place c.loop-place.slow h h' i.gone more
          (subst (λ (one : Hearing g.row.H.Denot). IsGone takes c.args.bytes.now one) c.index_mut.ensures.value
          w.in-Gone.ensures)))
      | in-Slow w ↦ subst (λ (n : ℕ). HasGone takes contents c.args.bytes.now before c.remove.new.self.items place n)
          (sym w.slow-is)
          (subst (λ (xs : List (Hearing g.row.H.Denot)). HasGone takes contents c.args.bytes.now before xs place
          (c.loop-place.slow + 1)) left
          (one_slow takes contents c.args.bytes.now before now place c.loop-place.slow h h' i.gone more
          (subst (λ (one : Hearing g.row.H.Denot). IsSlow takes c.args.bytes.now one) c.index_mut.ensures.value
          w.in-Slow.ensures)))
    ] in
    record {
      gone = gone;
      room = omega (arith, i.room, c.remove.ensures.capacity);
      most = omega (arith, i.most, c.remove.ensures.len);
      few = i.few;
    }
