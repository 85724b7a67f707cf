use Rattle.std.proofs.Common.{◌≡◌, ◌+◌, ◌-◌, ◌≤◌, take, length, subst, arith}
use Rattle.std.proofs.lemmas.List.{length-take-le}
use Rattle.uecp_frame.specs.Findings.{OpenPart, Closed}
use Rattle.uecp_frame.specs.Beyond.{open_beyond}
use Rattle.uecp_frame.specs.Feeding.{Feeds}
use Rattle.uecp_frame.specs.Lent.{fed_lent}
use Rattle.uecp_c.specs.Findings.{open_length}
use Rattle.uecp_c.proofs.Left.{left_finds}
use Rattle.uecp_c.proofs.first_finding.uecp_find.Goals as goal

pub returns : goal.returns
returns c =
    let bytes = c.args.bytes.now in
    let fed = fed_lent c.feed_ref.result in
    let s = take fed.used bytes in
    let done = c.feed_ref.result.used - c.open_length.result in
    let P : OpenPart → Type 0 = λ o. Feeds o bytes fed (open_beyond o s) in
    let feeds = subst P c.new-deframer.ensures c.feed_ref.ensures.feeds in
    let short : c.open_length.result ≤ length s = c.open_length.ensures.fits in
    let long : length s ≡ fed.used = length-take-le fed.used bytes feeds.used in
    let kept : done + open_length s ≡ fed.used = omega (arith, c.open_length.ensures.exact, short, long) in
    record {
      fed = fed;
      left = open_beyond Closed s;
      feeds = feeds;
      told = c.show.ensures;
      kept = kept;
      left_finds = left_finds bytes fed (open_beyond Closed s) done feeds kept;
    }
