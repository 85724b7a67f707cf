use Rattle.std.proofs.Common.{rules, ◌≡◌, ◌++◌, ◌∙◌, ℕ, List, length, bit_xor, IfOk, ap, sym}
use Rattle.std.proofs.Common.{subst}
use Rattle.uecp_frame.specs.Check.{check}
use Rattle.uecp_frame.specs.Frame.{high_first}
use Rattle.conformance.specs.Sending.{address_to, frame_to, body_saying, enclosed, replaced, frame_sent}
use Rattle.conformance.proofs.Frames.{whole_sent, length_sent, check_sent, byte_sent}
use Rattle.conformance.proofs.case_bytes.put_frame.Goals as goal

-- a frame's plain bytes with this length and the check that is made with it
abbrev plain_saying : (address counter : ℕ) → (message : List ℕ) → (said : ℕ) → List ℕ
plain_saying address counter message said =
    let b = body_saying (frame_to address counter message) said in b ++ high_first (check b)

pub returns-in-Whole : goal.returns-in-Whole
returns-in-Whole c =
    let message = c.args.message.now in
    let counter = c.args.counter in
    let plain : c.as_slice.result.now ≡ c.plain_of-plain.result.items = search rules in
    let is : enclosed c.as_slice.result.now ≡ frame_sent c.args.own counter message c.args.edit.now =
    ap enclosed (plain ∙ c.plain_of-plain.ensures
    ∙ ap (λ a. plain_saying a counter message (length c.bytes.result.now)) c.address_of.ensures
    ∙ ap (λ m. plain_saying (address_to c.args.own c.in-Whole.to) counter message (length m)) c.bytes.ensures.value)
    ∙ sym (whole_sent c.args.own counter message c.in-Whole.to)
    ∙ ap (frame_sent c.args.own counter message) (sym c.in-Whole.is) in
    subst (λ l. IfOk c.put_enclosed.result (λ _. c.put_enclosed.new.bytes.items ≡ c.args.bytes.now.items ++ l)) is
    c.put_enclosed.ensures

pub returns-in-Length : goal.returns-in-Length
returns-in-Length c =
    let message = c.args.message.now in
    let counter = c.args.counter in
    let plain : c.as_slice-in-Length.result.now ≡ c.plain_of-plain-in-Length.result.items = search rules in
    let is : enclosed c.as_slice-in-Length.result.now ≡ frame_sent c.args.own counter message c.args.edit.now =
    ap enclosed (plain ∙ c.plain_of-plain-in-Length.ensures
    ∙ ap (λ a. plain_saying a counter message c.in-Length.said) c.value.ensures)
    ∙ sym (length_sent c.args.own counter message c.in-Length.said)
    ∙ ap (frame_sent c.args.own counter message) (sym c.in-Length.is) in
    subst (λ l. IfOk c.put_enclosed-in-Length.result (λ _. c.put_enclosed-in-Length.new.bytes.items
    ≡ c.args.bytes.now.items ++ l)) is c.put_enclosed-in-Length.ensures

pub returns-in-Check : goal.returns-in-Check
returns-in-Check c =
    let message = c.args.message.now in
    let counter = c.args.counter in
    let turned : ℕ → ℕ → List ℕ =
    λ a n. (let b = body_saying (frame_to a counter message) n in b ++ high_first (bit_xor (check b) 1)) in
    let plain : c.as_slice-in-Check.result.now ≡ c.plain_of-plain-in-Check.result.items = search rules in
    let is : enclosed c.as_slice-in-Check.result.now ≡ frame_sent c.args.own counter message c.args.edit.now =
    ap enclosed (plain ∙ c.plain_of-plain-in-Check.ensures
    ∙ ap (λ a. turned a (length c.bytes.result.now)) c.value-in-Check.ensures
    ∙ ap (λ m. turned c.args.own (length m)) c.bytes.ensures.value)
    ∙ sym (check_sent c.args.own counter message)
    ∙ ap (frame_sent c.args.own counter message) (sym c.in-Check.is) in
    subst (λ l. IfOk c.put_enclosed-in-Check.result (λ _. c.put_enclosed-in-Check.new.bytes.items
    ≡ c.args.bytes.now.items ++ l)) is c.put_enclosed-in-Check.ensures

pub returns-in-Byte : goal.returns-in-Byte
returns-in-Byte c =
    let message = c.args.message.now in
    let counter = c.args.counter in
    let place = c.in-Byte.place in
    let plain : c.as_slice-in-Byte.result.now ≡ c.plain_of-plain-in-Byte.result.items = search rules in
    let other : c.bytes-in-Byte.result.now ≡ c.in-Byte.other = search rules in
    let is : replaced place c.bytes-in-Byte.result.now c.as_slice-in-Byte.result.now
    ≡ frame_sent c.args.own counter message c.args.edit.now =
    ap (replaced place c.bytes-in-Byte.result.now) (plain ∙ c.plain_of-plain-in-Byte.ensures
    ∙ ap (λ a. plain_saying a counter message (length c.bytes.result.now)) c.value-in-Byte.ensures
    ∙ ap (λ m. plain_saying c.args.own counter message (length m)) c.bytes.ensures.value)
    ∙ ap (λ o. replaced place o (plain_saying c.args.own counter message (length message))) other
    ∙ sym (byte_sent c.args.own counter message place c.in-Byte.other)
    ∙ ap (frame_sent c.args.own counter message) (sym c.in-Byte.is) in
    subst (λ l. IfOk c.put_replaced.result (λ _. c.put_replaced.new.bytes.items ≡ c.args.bytes.now.items ++ l)) is
    c.put_replaced.ensures
