use Rattle.std.proofs.Common.{◌≡◌, ℕ, ◌-◌, List, length, take, drop, subst, arith}
use Rattle.std.proofs.lemmas.List.{length-drop, take_all}
use Rattle.memchr.specs.Find.{is_byte, Passes, Nowhere}
use Rattle.uecp_text.proofs.Lines.{near_more, near_found, behind_found, behind_none}
use Rattle.uecp_text.proofs.input.line_feed.Goals as goal

pub near-init : goal.near-init
near-init c = λ k low below there. omega arith

pub returns-then-input-place-eq10 : goal.returns-then-input-place-eq10
returns-then-input-place-eq10 c =
    near_found c.args.input.now c.near.place c.near.invariant (omega arith) c.if-input-place-eq10.true

pub near-preserved : goal.near-preserved
near-preserved c = near_more c.args.input.now c.near.place c.near.invariant c.if-input-place-eq10.false

-- all of what lies behind the near bytes
behind_is : (input : List ℕ) (near : ℕ) → take (length input - near) (drop near input) ≡ drop near input
behind_is input near = take_all (length input - near) (drop near input) (omega (arith, length-drop near input))

pub returns-in-Some : goal.returns-in-Some
returns-in-Some c =
    let near = c.min-near.result in
    let end : c.near.place ≡ near = omega arith in
    behind_found c.args.input.now (take (length c.args.input.now - near) (drop near c.args.input.now)) near
    c.in-Some.place (omega arith) (behind_is c.args.input.now near)
    (subst (λ n. Nowhere (Passes (is_byte 0x0A) c.args.input.now) 0 n) end c.near.invariant) c.in-Some.ensures

pub returns-in-None : goal.returns-in-None
returns-in-None c =
    let near = c.min-near.result in
    let end : c.near.place ≡ near = omega arith in
    behind_none c.args.input.now (take (length c.args.input.now - near) (drop near c.args.input.now)) near
    (omega arith) (behind_is c.args.input.now near)
    (subst (λ n. Nowhere (Passes (is_byte 0x0A) c.args.input.now) 0 n) end c.near.invariant) c.in-None.ensures
