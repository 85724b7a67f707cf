use Rattle.std.proofs.Common.{◌≡◌, Bor, List, ℕ, option_map, Some, None, Option, drop, ap, ◌∙◌, sym}
use Rattle.std.specs.Option.{MatchOption}
use Rattle.std.specs.Str.Pattern.{FindsTextPrefix, StripsPrefix}
use Rattle.option_files.specs.Words as spec
use Rattle.option_files.proofs.Fronts.{behind_front, none_behind}
use Rattle.option_files.proofs.option_words.behind.Goals as goal

stripped : (front word : List ℕ) (r : Option (Bor (List ℕ)))
    → MatchOption r (FindsTextPrefix front word None) (λ x. StripsPrefix (FindsTextPrefix front) word x.now)
    → option_map (λ rest. rest.now) r ≡ spec.behind front word
stripped front word None lacks = sym (none_behind front word lacks)
stripped front word (Some x) (n, found, rest, long) =
    ap Some rest ∙ sym (ap (spec.behind front) found.1 ∙ behind_front front (drop n word))

pub returns : goal.returns
returns c = stripped c.args.front.now c.args.word.now c.strip_prefix.result c.strip_prefix.ensures.cases
