use Rattle.std.proofs.Common.{map}
use Rattle.uecp_words.proofs.EventNames.{noise_named, one_word}
use Rattle.uecp_words.proofs.event_words.noise_of.Goals as goal

pub returns-in_ok-bytes_of-in-len1-clause-named : goal.returns-in_ok-bytes_of-in-len1-clause-named
returns-in_ok-bytes_of-in-len1-clause-named c =
    noise_named c.args.side (map (λ w. w.now) c.args.words.now) c.in_ok-bytes_of-in-len1.field-0.items
    (_, one_word c.args.words.now _ c.in-len1.len_at_least c.in-len1.len_below, c.in_ok-bytes_of-in-len1.ensures.bytes)
