use Rattle.std.proofs.Common.{◌≡◌, ◌+◌, ◌-◌, ◌++◌, ◌∷◌, [], suc, Some, length, ap, sym, ◌∙◌, arith, length-append, List}
use Rattle.std.specs.Option.{option_map}
use Rattle.uecp_link.specs.declared.kept_message.KeptMessage.{KeptMessage}
use Rattle.end_images.specs.Parsing.{kept_first, kept_first_of, kept_each}
use Rattle.end_images.proofs.Servers.{each_step}
use Rattle.end_images.proofs.server_parts.kept_few.Goals as goal

pub loop-place-preserved : goal.loop-place-preserved
loop-place-preserved c =
    let place = c.loop-place.place in
    let count = c.args.count in
    let items = c.loop-place.held.items in
    let message = c.in_ok-message.message in
    let rest = c.loop-place.rest.now in
    let more = c.in_ok-message.more.now in
    let all = kept_each count c.args.messages.now in
    let first : kept_first rest ≡ Some (message, more) =
    sym c.kept_first.ensures ∙ ap (option_map kept_first_of) c.in_ok-message.was in
    let left : count - place ≡ suc (count - (place + 1)) = omega (arith, c.loop-place-test.true) in
    let before : option_map (λ ms. items ++ ms) (kept_each (suc (count - (place + 1))) rest) ≡ all =
    ap (λ n. option_map (λ ms. items ++ ms) (kept_each n rest)) (sym left) ∙ c.loop-place.invariant.0 in (
      ap (λ (held : List KeptMessage). option_map (λ ms. held ++ ms) (kept_each (count - (place + 1)) more))
          c.push.ensures.items ∙ each_step items (count - (place + 1)) rest more message all first before,
      omega (
        arith,
        c.loop-place.invariant.1,
        ap (λ (held : List KeptMessage). length held) c.push.ensures.items,
        length-append items (message ∷ []),
      ),
    )
