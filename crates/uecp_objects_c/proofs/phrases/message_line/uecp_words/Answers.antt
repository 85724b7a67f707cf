use Rattle.std.proofs.Common.{◌≡◌, ◌∙◌, ap, length, inl}
use Rattle.c_values.specs.Buffers.{filled}
use Rattle.uecp_objects_c.specs.PhraseWords.{region_of, words_of}
use Rattle.uecp_objects_c.proofs.phrases.message_line.uecp_words.Goals as goal

pub returns-in-Ok : goal.returns-in-Ok
returns-in-Ok c =
    let m = c.args.message.now in
    let is : c.as_slice.result.now ≡ words_of (region_of c.args.is_north_america) m =
    c.as_slice.ensures.value ∙ c.in-Ok.ensures ∙ ap (λ r. words_of r m) c.region_of.ensures in
    inl (c.put.ensures.length ∙ ap length is, c.put.ensures.put ∙ ap (λ b. filled b c.args.out.now) is)
