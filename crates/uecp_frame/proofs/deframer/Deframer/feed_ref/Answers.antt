use Rattle.std.proofs.Common.{◌≡◌, ◌∙◌, refl, ap, sym, subst, take, arith}
use Rattle.uecp_frame.specs.Beyond.{open_beyond}
use Rattle.uecp_frame.specs.Feeding.{Feeds, findings_of}
use Rattle.uecp_frame.specs.declared.fault.FrameFault.TheVariants.{Unended}
use Rattle.uecp_frame.specs.declared.fed.Found.TheVariants.{Nothing, Refused}
use Rattle.uecp_frame.specs.Lent.{found_lent}
use Rattle.uecp_frame.specs.OpenSegment.{part_of, found_ended, fed_ended}
use Rattle.uecp_frame.proofs.Taking.{feeds_after}
use Rattle.uecp_frame.proofs.deframer.Deframer.feed_ref.Goals as goal

pub returns : goal.returns
returns c =
    let advanced = c.advance-advanced in
    let piece = c.args.piece.now in
    let used = advanced.result.used in
    let new = part_of advanced.new.self in
    let plain = advanced.new.self.plain.items in
    let same = ap part_of (c.add_at_once.ensures.no c.if-add_at_once.false
    ∙ c.end_at_once.ensures.no c.if-end_at_once.false) ∙ c.self.view_is in
    let feeds = subst (λ o. Feeds o piece (fed_ended advanced.result plain) new) same advanced.ensures.feeds in
    let found : found_lent c.lent.result ≡ found_ended advanced.result.ended plain = c.lent.ensures.found in
    let lent : Feeds c.args.self.now piece (record { used = used; found = found_lent c.lent.result })
    (open_beyond c.args.self.now (take used piece)) =
    record {
      used = feeds.used;
      answer = feeds.answer ∙ ap findings_of (sym found);
      first = feeds.first;
      all = λ e. feeds.all (sym found ∙ e);
      left = refl;
    } in (
      (refl, (λ _. tt), sym feeds.left),
      record {
        fits = feeds.used;
        moves = advanced.ensures.moves;
        feeds = lent;
        after = λ s same. feeds_after s piece c.args.self.now _ _ same lent;
        lends = c.lent.ensures.lends;
        rests = tt;
      },
    )

pub returns-then-end_at_once : goal.returns-then-end_at_once
returns-then-end_at_once c =
    let piece = c.args.piece.now in
    let new = part_of c.end_at_once.new.self in
    let feeds = subst (λ o. Feeds o piece (record { used = 1; found = Refused Unended }) new) c.self.view_is
    (c.end_at_once.ensures.yes c.if-end_at_once.true) in
    let lent : Feeds c.args.self.now piece (record { used = 1; found = Refused Unended })
    (open_beyond c.args.self.now (take 1 piece)) =
    record { used = feeds.used; answer = feeds.answer; first = feeds.first; all = feeds.all; left = refl } in (
      (refl, (λ _. tt), sym feeds.left),
      record {
        fits = feeds.used;
        moves = λ _. omega arith;
        feeds = lent;
        after = λ s same. feeds_after s piece c.args.self.now _ _ same lent;
        lends = λ f is. absurd (cc);
        rests = tt;
      },
    )

pub returns-then-add_at_once : goal.returns-then-add_at_once
returns-then-add_at_once c =
    let piece = c.args.piece.now in
    let new = part_of c.add_at_once.new.self in
    let same = ap part_of (c.end_at_once.ensures.no c.if-end_at_once.false) ∙ c.self.view_is in
    let feeds = subst (λ o. Feeds o piece (record { used = 1; found = Nothing }) new) same
    (c.add_at_once.ensures.yes c.if-add_at_once.true) in
    let lent : Feeds c.args.self.now piece (record { used = 1; found = Nothing })
    (open_beyond c.args.self.now (take 1 piece)) =
    record { used = feeds.used; answer = feeds.answer; first = feeds.first; all = feeds.all; left = refl } in (
      (refl, (λ _. tt), sym feeds.left),
      record {
        fits = feeds.used;
        moves = λ _. omega arith;
        feeds = lent;
        after = λ s same. feeds_after s piece c.args.self.now _ _ same lent;
        lends = λ f is. absurd (cc);
        rests = tt;
      },
    )
