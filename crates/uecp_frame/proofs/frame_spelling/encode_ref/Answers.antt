use Rattle.std.proofs.Common.{◌++◌, ◌∙◌, ℕ, List, ap, sym, rules, length, get_or, arith, [], ◌∷◌, length-append}
use Rattle.uecp_frame.specs.Stuffing.{stuffed}
use Rattle.uecp_frame.specs.Lent.{frame_lent}
use Rattle.uecp_frame.proofs.Sending.{sent_is, length-sent, header_is, check_is}
use Rattle.uecp_frame.proofs.frame_spelling.encode_ref.Goals as goal

pub push-requires : goal.push-requires
push-requires g c =
    let f = frame_lent c.args.frame.now in
    let header = header_is f c.to_be_bytes.result c.value.result c.to_be_bytes.ensures c.value.ensures (omega arith) in
    let total = length-sent f _ header in
    let empty = ap length c.clear.ensures in (search rules, omega (arith, total, empty))

pub push_stuffed-requires : goal.push_stuffed-requires
push_stuffed-requires g c =
    let f = frame_lent c.args.frame.now in
    let header = header_is f c.to_be_bytes.result c.value.result c.to_be_bytes.ensures c.value.ensures (omega arith) in
    let total = length-sent f _ header in
    let empty = ap length c.clear.ensures in (search rules, omega (arith, total, empty))

pub push_stuffed-requires-2 : goal.push_stuffed-requires-2
push_stuffed-requires-2 g c =
    let f = frame_lent c.args.frame.now in
    let header = header_is f c.to_be_bytes.result c.value.result c.to_be_bytes.ensures c.value.ensures (omega arith) in
    let total = length-sent f _ header in
    let empty = ap length c.clear.ensures in
    let first = ap length c.push_stuffed.ensures ∙ length-append c.push.new.self.items _ in
    (search rules, omega (arith, total, empty, first))

pub push_stuffed-requires-3 : goal.push_stuffed-requires-3
push_stuffed-requires-3 g c =
    let f = frame_lent c.args.frame.now in
    let header = header_is f c.to_be_bytes.result c.value.result c.to_be_bytes.ensures c.value.ensures (omega arith) in
    let total = length-sent f _ header in
    let empty = ap length c.clear.ensures in
    let first = ap length c.push_stuffed.ensures ∙ length-append c.push.new.self.items _ in
    let second = ap length c.push_stuffed-2.ensures ∙ length-append c.push_stuffed.new.bytes.items _ in
    let check = ap (λ k. length (stuffed k)) (check_is
    (get_or c.to_be_bytes.result 0 0 ∷ get_or c.to_be_bytes.result 1 0 ∷ f.counter ∷ length f.message ∷ [])
    f.message c.after_bytes.result c.after_bytes-check.result c.to_be_bytes-2.result c.after_bytes.ensures
    c.after_bytes-check.ensures c.to_be_bytes-2.ensures) in
    (search rules, omega (arith, total, empty, first, second, check))

pub push-requires-2 : goal.push-requires-2
push-requires-2 g c =
    let f = frame_lent c.args.frame.now in
    let header = header_is f c.to_be_bytes.result c.value.result c.to_be_bytes.ensures c.value.ensures (omega arith) in
    let total = length-sent f _ header in
    let empty = ap length c.clear.ensures in
    let first = ap length c.push_stuffed.ensures ∙ length-append c.push.new.self.items _ in
    let second = ap length c.push_stuffed-2.ensures ∙ length-append c.push_stuffed.new.bytes.items _ in
    let third = ap length c.push_stuffed-3.ensures ∙ length-append c.push_stuffed-2.new.bytes.items _ in
    let check = ap (λ k. length (stuffed k)) (check_is
    (get_or c.to_be_bytes.result 0 0 ∷ get_or c.to_be_bytes.result 1 0 ∷ f.counter ∷ length f.message ∷ [])
    f.message c.after_bytes.result c.after_bytes-check.result c.to_be_bytes-2.result c.after_bytes.ensures
    c.after_bytes-check.ensures c.to_be_bytes-2.ensures) in
    (search rules, omega (arith, total, empty, first, second, third, check))

pub returns : goal.returns
returns g c =
    let f = frame_lent c.args.frame.now in
    let bytes = c.to_be_bytes.result in
    let header : List ℕ = get_or bytes 0 0 ∷ get_or bytes 1 0 ∷ f.counter ∷ length f.message ∷ [] in
    let is_header = header_is f bytes c.value.result c.to_be_bytes.ensures c.value.ensures (omega arith) in
    let check = check_is header f.message c.after_bytes.result c.after_bytes-check.result c.to_be_bytes-2.result
    c.after_bytes.ensures c.after_bytes-check.ensures c.to_be_bytes-2.ensures in
    c.push-2.ensures.items
    ∙ ap (λ x. x ++ 255 ∷ []) (c.push_stuffed-3.ensures
    ∙ ap (λ x. x ++ stuffed c.to_be_bytes-2.result) (c.push_stuffed-2.ensures
    ∙ ap (λ x. x ++ stuffed f.message) (c.push_stuffed.ensures
    ∙ ap (λ x. x ++ stuffed header) (c.push.ensures.items ∙ ap (λ x. x ++ 254 ∷ []) c.clear.ensures)))
    ∙ ap (λ x. (((254 ∷ []) ++ stuffed header) ++ stuffed f.message) ++ stuffed x) check)
    ∙ sym (sent_is f header is_header)
