use Rattle.std.proofs.Common.{refl, sym, ap, ◌∙◌}
use Rattle.commands.specs.Jobs.{in_full}
use Rattle.commands.proofs.Same.{encoder_same}
use Rattle.commands.proofs.short.in_short.Goals as goal

pub returns-in-EncoderWith-clause-same : goal.returns-in-EncoderWith-clause-same
returns-in-EncoderWith-clause-same c =
    ap in_full c.short_encoder.ensures ∙ encoder_same _ _ c.in-EncoderWith.options refl refl
    ∙ sym (ap in_full c.in-EncoderWith.is)
