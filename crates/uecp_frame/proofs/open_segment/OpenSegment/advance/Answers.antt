use Rattle.std.proofs.Common.{◌≡◌, ℕ, List, refl, ap, subst, arith}
use Rattle.std.proofs.lemmas.List.{take_rest}
use Rattle.uecp_frame.specs.declared.fed.Found.TheVariants.{Nothing}
use Rattle.uecp_frame.specs.declared.open_segment.Ended.{Ended}
use Rattle.uecp_frame.specs.declared.open_segment.Ended.TheVariants as ended
use Rattle.uecp_frame.specs.OpenSegment.{part_of, found_ended, fed_ended, Takes}
use Rattle.uecp_frame.proofs.Taking.{quiet_none, quiet_on, feeds_nothing, feeds_on}
use Rattle.uecp_frame.proofs.open_segment.OpenSegment.advance.Goals as goal

ended_some : (e : Ended) (plain : List ℕ) → (e ≡ ended.Nothing → ⊥) → found_ended e plain ≡ Nothing → ⊥
ended_some ended.Nothing plain some h = some refl
ended_some ended.Frame plain some h = absurd (cc)
ended_some (ended.Refused fault) plain some h = absurd (cc)

pub loop-used-init : goal.loop-used-init
loop-used-init c = record { quiet = quiet_none (part_of c.args.self.now) c.args.piece.now; kept = c.requires }

pub loop-used-preserved : goal.loop-used-preserved
loop-used-preserved c =
    let taken = c.take-taken in
    let plain = taken.new.self.plain.items in
    let old = part_of c.loop-used.self in
    let new = part_of taken.new.self in
    let fed = fed_ended taken.result plain in
    let takes = subst (λ r. Takes old r fed new) (take_rest c.args.piece.now c.loop-used.used) taken.ensures.takes in
    record {
      quiet = quiet_on (part_of c.args.self.now) c.args.piece.now c.loop-used.used old new fed
          c.loop-used.invariant.quiet takes (ap (λ e. found_ended e plain) c.in-Nothing.is);
      kept = taken.ensures.kept;
    }

pub returns-in_default : goal.returns-in_default
returns-in_default c =
    let taken = c.take-taken in
    let plain = taken.new.self.plain.items in
    let old = part_of c.loop-used.self in
    let new = part_of taken.new.self in
    let fed = fed_ended taken.result plain in
    let takes = subst (λ r. Takes old r fed new) (take_rest c.args.piece.now c.loop-used.used) taken.ensures.takes in
    let feeds = feeds_on (part_of c.args.self.now) c.args.piece.now c.loop-used.used old new fed
    c.loop-used.invariant.quiet takes (ended_some taken.result.ended plain c.in_default.not-Nothing) in
    record {
      fits = feeds.used;
      moves = λ h. omega (arith, takes.some);
      feeds = feeds;
      whole = taken.ensures.whole;
      kept = taken.ensures.kept;
    }

pub returns : goal.returns
returns c = record {
  fits = c.loop-used.invariant.quiet.fits;
  moves = λ h. omega arith;
  feeds = feeds_nothing (part_of c.args.self.now) c.args.piece.now c.loop-used.used (part_of c.loop-used.self)
      c.loop-used.invariant.quiet c.loop-used-test.false;
  whole = λ e. absurd (cc);
  kept = c.loop-used.invariant.kept;
}
