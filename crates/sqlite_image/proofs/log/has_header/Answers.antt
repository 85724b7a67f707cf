use Rattle.std.proofs.Common.{sym, ◌∙◌, subst, refl, arith}
use Rattle.std.proofs.lemmas.Bool.{false≢true}
use Rattle.sqlite_wal.specs.Format.{IsSigned}
use Rattle.sqlite_wal.proofs.FormatLemmas.{part_front}
use Rattle.sqlite_image.proofs.log.has_header.Goals as goal

pub returns-then-not-is_signed : goal.returns-then-not-is_signed
returns-then-not-is_signed c = (
  λ no'. absurd (false≢true no'),
  λ h. absurd (false≢true (sym c.if-not-is_signed.true
      ∙ c.is_signed.ensures.1 (subst IsSigned (part_front c.args.log.now 32) h.signed))),
)

pub returns : goal.returns
returns c = (
  λ _. record {
    long = omega (arith, c.if-log-lt-HEADER.false);
    signed = subst IsSigned (sym (part_front c.args.log.now 32)) (c.is_signed.ensures.0 c.if-not-is_signed.false);
    small = omega (arith, c.number_at.ensures);
  },
  λ _. refl,
)
