use Rattle.std.proofs.Common.{subst, ◌≤◌, length, sym, arith}
use Rattle.uecp_phrases.proofs.WritingNames.{name_short}
use Rattle.uecp_phrases.proofs.phrase_text.put_programme_type.Goals as goal

pub quoted-requires : goal.quoted-requires
quoted-requires c =
    subst (λ l. length l ≤ 64) (sym c.as_bytes.ensures.value)
    (name_short c.args.region c.args.raw c.in-Some.name.now (omega (arith, c.ranges.raw.fits)) c.in-Some.ensures.some)
