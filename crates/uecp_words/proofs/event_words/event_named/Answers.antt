use Rattle.std.proofs.Common.{rules, ◌≡◌, codes}
use Rattle.uecp_words.proofs.event_words.event_named.Goals as goal

pub returns-then-eq-4-clause-refused : goal.returns-then-eq-4-clause-refused
returns-then-eq-4-clause-refused c =
    let same : c.args.name.now ≡ codes "noise-encoder" = search rules in
    rw same c.noise_of.ensures.refused

pub returns-then-eq-5-clause-refused : goal.returns-then-eq-5-clause-refused
returns-then-eq-5-clause-refused c =
    let same : c.args.name.now ≡ codes "noise-server" = search rules in
    rw same c.noise_of-then-eq-5.ensures.refused
