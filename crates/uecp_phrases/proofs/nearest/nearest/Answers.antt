use Rattle.std.proofs.Common.{subst, rules}
use Rattle.std.specs.Option.{option_map}
use Rattle.phrase_tokens.specs.View.{token_of}
use Rattle.uecp_phrases.specs.Nearest.{Offers}
use Rattle.uecp_phrases.proofs.Nearing.{offers_found}
use Rattle.uecp_phrases.proofs.nearest.nearest.Goals as goal

pub returns-in-Some : goal.returns-in-Some
returns-in-Some c =
    subst (λ f. Offers c.args.region c.args.what (token_of c.args.token.now) (option_map (λ near. near.word.now) f))
    c.in-Some.is
    (offers_found c.args.region c.args.what (token_of c.args.token.now) _ _ _ _ _ c.letters-letters.ensures
    c.words.ensures c.name_count.ensures (search rules) c.in_ok-of_words.ensures c.in_ok-near.ensures)

pub returns-in-None : goal.returns-in-None
returns-in-None c =
    subst (λ f. Offers c.args.region c.args.what (token_of c.args.token.now) (option_map (λ near. near.word.now) f))
    c.in-None.is
    (offers_found c.args.region c.args.what (token_of c.args.token.now) _ _ _ _ _ c.letters-letters.ensures
    c.words.ensures c.name_count.ensures (search rules) c.in_ok-of_words.ensures c.in_ok-near.ensures)
