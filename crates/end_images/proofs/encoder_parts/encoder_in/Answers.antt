use Rattle.std.proofs.Common.{◌≡◌, Option, Some, None, ap, sym, ◌∙◌}
use Rattle.std.specs.Option.{option_map}
use Rattle.end_images.specs.Parsing.{encoder_says, encoder_parts, says_encoder, EncoderSays}
use Rattle.end_images.proofs.Apart.{parts_back, some_same}
use Rattle.end_images.proofs.encoder_parts.encoder_in.Goals as goal

pub returns-in-None-clause-complete : goal.returns-in-None-clause-complete
returns-in-None-clause-complete c = λ e is content.
    let none : ◌≡◌ {A = Option EncoderSays} None (Some (says_encoder e)) =
    sym (ap (option_map encoder_says) c.in-None.is) ∙ c.encoder_parts.ensures ∙ ap encoder_parts content
    ∙ parts_back e in
    cc

pub returns-in-Some-clause-complete : goal.returns-in-Some-clause-complete
returns-in-Some-clause-complete c = λ e is content.
    let says : Some (encoder_says c.in-Some.parts) ≡ Some (says_encoder e) =
    sym (ap (option_map encoder_says) c.in-Some.is) ∙ c.encoder_parts.ensures ∙ ap encoder_parts content
    ∙ parts_back e in
    c.encoder_of.ensures.complete e is (some_same (encoder_says c.in-Some.parts) (says_encoder e) says)
