use Rattle.std.proofs.Common.{rules, ◌≤◌, ℕ}
use Rattle.std.specs.Net.Grammar.{IsNumber, IsIpText}
use Rattle.device_edges.proofs.AllowLists.{bits_refused, bits_too_many, bits_counted}
use Rattle.device_edges.proofs.allowed.some_addresses.Goals as goal

pub returns-in_err-bits : goal.returns-in_err-bits
returns-in_err-bits c =
    let none : (number : ℕ) → number ≤ 255 → ¬ (IsNumber 10 c.args.bits.now number) = search rules in
    let refused = bits_refused c.args.address.now c.args.bits.now none in
    search (rules, refused)

pub returns-then-bits-most_bits : goal.returns-then-bits-most_bits
returns-then-bits-most_bits c =
    let text : IsIpText c.args.address.now c.in_ok-address.address = search rules in
    let digits : IsNumber 10 c.args.bits.now c.in_ok-bits.bits = search rules in
    bits_too_many c.args.address.now c.args.bits.now c.in_ok-address.address c.in_ok-bits.bits text digits
    (search rules)

pub returns : goal.returns
returns c =
    let text : IsIpText c.args.address.now c.in_ok-address.address = search rules in
    let digits : IsNumber 10 c.args.bits.now c.in_ok-bits.bits = search rules in
    bits_counted c.args.address.now c.args.bits.now _ text digits (search rules)
