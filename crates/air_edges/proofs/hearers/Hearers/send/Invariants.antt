use Rattle.std.proofs.Common.{◌≤◌, ◌-◌}
use Rattle.std.specs.Vec.{vec_len, vec_capacity}
use Rattle.air_edges.proofs.Getting.{HasGone}
use Rattle.air_edges.proofs.hearers.Hearers.send.Given as goal

-- the bytes went out to all before the place
abbrev pub invariant-loop-place : goal.invariant-loop-place
invariant-loop-place g l = record {
  gone : HasGone g.H.Hears.takes g.H.Write.contents l.bytes l.initial.self-inside.hearers.items
      l.self-inside.hearers.items l.place l.slow;
  room : 64 ≤ vec_capacity l.self-inside.hearers;
  most : vec_len l.self-inside.hearers ≤ 64;
  few : vec_len l.initial.self-inside.hearers ≤ 64;
}

abbrev pub decreases-loop-place : goal.decreases-loop-place
decreases-loop-place g l = vec_len l.self-inside.hearers - l.place
