use Rattle.std.proofs.Common.{◌≡◌, ◌++◌, codes, ◌∙◌, ap, sym, refl, inr}
use Rattle.commands.proofs.host.host_named.Goals as goal

pub returns-in-None-strip_suffix : goal.returns-in-None-strip_suffix
unfolding lib.Utf8.encode
returns-in-None-strip_suffix c =
    let (n, at, rest, long) = c.in-Some.ensures.cases in
    let text : c.args.text.now ≡ codes "[" ++ c.in-Some.inside.now =
    at.split ∙ ap (λ inside. codes "[" ++ inside) (sym rest) in
    inr (
      refl,
      λ inside brackets. c.in-None-strip_suffix.ensures.cases inside
          (let whole : codes "[" ++ c.in-Some.inside.now ≡ codes "[" ++ (inside ++ codes "]") = sym text ∙ brackets in
          let same : c.in-Some.inside.now ≡ inside ++ codes "]" = cc in
          same),
    )

pub returns-in-None : goal.returns-in-None
unfolding lib.Utf8.encode
returns-in-None c = inr (refl, λ inside brackets. c.in-None.ensures.cases (inside ++ codes "]") brackets)
