use Rattle.std.proofs.Common.{◌≡◌, ◌∷◌, ◌++◌, [], sym, ap, ◌∙◌, subst, append_assoc}
use Rattle.std.proofs.lemmas.Str.{encodes-append}
use Rattle.std.specs.Prelude.{encode_utf8_all}
use Rattle.std.specs.String.{string_bytes}
use Rattle.titles.specs.Strings.{IsShortened, ends_with_ps, string_of}
use Rattle.titles.specs.Parts.{PutsString}
use Rattle.titles.proofs.line.put_next.Goals as goal

pub returns : goal.returns
returns c =
    let outside = c.in-Some.outside.now in
    let before = c.new-bytes.result.items in
    let got : PutsString c.in-Some.body.now c.in-Some-2.behind.now before c.fit_string.new.bytes.items =
    rw c.in-Some-2.is at c.in_ok-fit_string.ensures.some in
    let (inner, is, (says, said, put)) = got in
    let all : c.fit_string.new.bytes.items ≡ says = put ∙ ap (λ k. k ++ says) c.new-bytes.ensures.items in
    let old = string_bytes c.args.fitted.now in
    let string = string_of c.as_slice.result.now in (
      outside,
      inner,
      says,
      c.shorten.new.bytes.items,
      c.in-Some.ensures.some.0 ∙ ap (λ k. outside ++ 0x22 ∷ k) is,
      c.in-Some.ensures.some.1,
      said,
      subst (λ k. IsShortened (ends_with_ps outside) k c.shorten.new.bytes.items) all c.shorten.ensures,
      c.in_ok-put_string-in-Some-2.ensures
          ∙ ap (λ k. k ++ encode_utf8_all string) c.in_ok-put_characters-in-Some-2.ensures
          ∙ append_assoc old (encode_utf8_all outside) (encode_utf8_all string)
          ∙ ap (λ k. old ++ k) (sym (encodes-append outside string))
          ∙ ap (λ k. old ++ encode_utf8_all (outside ++ string_of k)) c.as_slice.ensures.value,
    )
