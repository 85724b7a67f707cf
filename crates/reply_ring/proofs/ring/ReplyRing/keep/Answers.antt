use Rattle.std.proofs.Common.{◌≡◌, ◌<◌, length, Some, None, ◌∙◌, sym, ap, rules}
use Rattle.reply_ring.specs.Ring.{kept_code, keep}
use Rattle.reply_ring.specs.Table.{pairs_of}
use Rattle.reply_ring.proofs.Keeping.{keep_leaves}
use Rattle.reply_ring.proofs.ring.ReplyRing.keep.Goals as goal
use Rattle.reply_ring.proofs.ring.ReplyRing.keep.Goals.{in-Some, in_default}

pub invariant_of-self : goal.invariant_of-self
invariant_of-self c =
    let size : length c.self.inside.codes ≡ 256 = search rules in
    let fits : c.args.counter < 256 = search rules in
    let fresh : kept_code (pairs_of c.self.inside.counters.items c.self.inside.codes) c.args.counter ≡ None =
    search rules in
    let leaves = keep_leaves c.self.inside.counters.items c.self.inside.codes size c.args.counter c.args.code fits
    c.requires.numbered fresh c.self.inside.counters.capacity c.self.invariant in
    elim c.match-push_front.branch [
      | in-Some w ↦
          let small : w.in-Some.oldest < 256 = search rules in
          rw (w.self-inside-is, c.push_front.ensures.items, w.from.ensures, c.from-2.ensures)
          (leaves (Some w.in-Some.oldest) small (sym w.in-Some.is ∙ c.push_front.ensures.value)).kept
      | in_default w ↦ rw (w.self-inside-is, c.push_front.ensures.items, c.from-2.ensures)
          (leaves None tt (sym w.in_default.is ∙ c.push_front.ensures.value)).kept
    ]

pub returns : goal.returns
returns c =
    let size : length c.self.inside.codes ≡ 256 = search rules in
    let fits : c.args.counter < 256 = search rules in
    let fresh : kept_code (pairs_of c.self.inside.counters.items c.self.inside.codes) c.args.counter ≡ None =
    search rules in
    let leaves = keep_leaves c.self.inside.counters.items c.self.inside.codes size c.args.counter c.args.code fits
    c.requires.numbered fresh c.self.inside.counters.capacity c.self.invariant in
    let kept = ap (λ ring. keep ring c.args.counter c.args.code) c.self.view_is in
    elim c.match-push_front.branch [
      | in-Some w ↦
          let small : w.in-Some.oldest < 256 = search rules in
          rw (w.self-inside-is, c.push_front.ensures.items, w.from.ensures, c.from-2.ensures)
          ((leaves (Some w.in-Some.oldest) small (sym w.in-Some.is ∙ c.push_front.ensures.value)).pairs ∙ kept)
      | in_default w ↦ rw (w.self-inside-is, c.push_front.ensures.items, c.from-2.ensures)
          ((leaves None tt (sym w.in_default.is ∙ c.push_front.ensures.value)).pairs ∙ kept)
    ]
