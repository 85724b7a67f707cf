use Rattle.std.proofs.Common.{arith, rules}
use Rattle.std.proofs.Common.{◌≢◌, codes}
use Rattle.uecp_words.proofs.ElementWords.{row_fits}
use Rattle.uecp_words.proofs.element_words.row_in.Goals as goal

pub returns-then-length-gt-TEXT_MAX-clause-unnamed : goal.returns-then-length-gt-TEXT_MAX-clause-unnamed
returns-then-length-gt-TEXT_MAX-clause-unnamed c = λ text row fits.
    let other : c.args.word.now ≢ codes "-" = search rules in
    omega (arith, row_fits c.args.word.now text other row)
