use Rattle.std.proofs.Common.{◌≡◌, ◌∷◌, rules}
use Rattle.uecp_text.specs.Words.{texts}
use Rattle.uecp_words.proofs.ElementWords.{unknown_unnamed}
use Rattle.uecp_words.proofs.element_words.spelling_of.Goals as goal

pub returns-in_err-name_of-clause-unnamed : goal.returns-in_err-name_of-clause-unnamed
returns-in_err-name_of-clause-unnamed c =
    let first : texts c.args.words.now ≡ c.in_ok-name.name.now.now ∷ texts c.in_ok-name.rest.now = search rules in
    let none = unknown_unnamed (texts c.args.words.now) c.in_ok-name.name.now.now (texts c.in_ok-name.rest.now) first
    c.in_err-name_of.ensures.unknown in
    search rules
