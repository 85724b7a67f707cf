use Rattle.std.proofs.Common.{List, ℕ, Bor, map, take, subst}
use Rattle.uecp_phrases.specs.Nearest.{IsFound}
use Rattle.uecp_phrases.proofs.Nearing.{one_word_more}
use Rattle.uecp_phrases.proofs.nearest.nearest_of.Goals as goal

pub loop-place-preserved : goal.loop-place-preserved
loop-place-preserved c =
    subst (λ ws. IsFound c.args.letters.now ws c.in_ok-found.found)
    (one_word_more (λ (word : Bor (List ℕ)). word.now) c.args.words.now c.loop-place.place _ c.loop-place-test.true)
    (c.in_ok-found.ensures (map (λ word. word.now) (take c.loop-place.place c.args.words.now)) c.loop-place.invariant)
