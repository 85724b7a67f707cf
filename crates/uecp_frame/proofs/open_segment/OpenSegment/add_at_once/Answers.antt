use Rattle.std.proofs.Common.{◌≡◌, ◌∙◌, ap, sym, arith, Bool, [], ◌∷◌, get_or}
use Rattle.std.specs.Prelude.{if◌then◌else◌}
use Rattle.uecp_frame.specs.Findings.{OpenPart, Closed, Part}
use Rattle.uecp_frame.specs.Beyond.{prolonged}
use Rattle.uecp_frame.specs.OpenSegment.{inside_of, part_of}
use Rattle.uecp_frame.proofs.Future.{open_beyond-none}
use Rattle.uecp_frame.proofs.Steps.{inside_plain}
use Rattle.uecp_frame.proofs.Taking.{takes_one, feeds_step, none_in_one, none_found}
use Rattle.uecp_frame.proofs.open_segment.OpenSegment.add_at_once.Goals as goal

abbrev part_at : OpenPart → Bool → OpenPart
part_at o i = if i then o else Closed

pub returns-clause-yes : goal.returns-clause-yes
returns-clause-yes c = λ _.
    let now = c.args.self.now in
    let new = c.add_one.new.self in
    let piece = c.args.piece.now in
    let byte = get_or piece 0 0 in
    let takes = c.takes_plain.ensures.0 c.if-takes_plain.true in
    let none = none_in_one byte (omega (arith, takes.below)) in
    let part : part_of now ≡ Part (record { plain = now.plain.items; rest = [] }) =
    ap (part_at (inside_of now.fault now.plain.items now.is_escaping)) takes.opened
    ∙ inside_plain now.fault now.plain.items now.is_escaping takes.certain takes.plain in
    feeds_step (part_of now) piece _ (part_of new)
    (takes_one (part_of now) piece _ (part_of new) (omega (arith, c.in-len1.len_at_least))
    (none_found (part_of now) (byte ∷ []) none)
    (open_beyond-none (part_of now) (byte ∷ []) none ∙ ap (λ o. prolonged o (byte ∷ [])) part
    ∙ c.add_one.ensures.part ∙ sym (ap (part_at (inside_of new.fault new.plain.items new.is_escaping))
    (c.add_one.ensures.open ∙ takes.opened))))
    (λ _. omega (arith, c.in-len1.len_below))
