use Rattle.std.proofs.Common.{◌≡◌, ◌∙◌, ℕ, ap, sym, arith, refl, Bool, List, [], ◌∷◌, length, Option, Some}
use Rattle.std.proofs.Common.{None, Err}
use Rattle.std.proofs.lemmas.Bool.{eqb-false}
use Rattle.std.specs.Prelude.{if◌then◌else◌}
use Rattle.uecp_frame.specs.declared.fault.FrameFault.{FrameFault}
use Rattle.uecp_frame.specs.declared.fault.FrameFault.TheVariants.{Unended}
use Rattle.uecp_frame.specs.Findings.{OpenPart, Closed}
use Rattle.uecp_frame.specs.Beyond.{found_beyond, open_beyond, unended}
use Rattle.uecp_frame.specs.OpenSegment.{inside_of, part_of}
use Rattle.uecp_frame.proofs.Taking.{takes_one, feeds_step, start_found, start_opens}
use Rattle.uecp_frame.proofs.open_segment.OpenSegment.end_at_once.Goals as goal

abbrev part_at : OpenPart → Bool → OpenPart
part_at o i = if i then o else Closed

unended_inside : (fault : Option FrameFault) (p : List ℕ) (e : Bool) → unended (inside_of fault p e) ≡ Err Unended ∷ []
unended_inside None p e = refl
unended_inside (Some fault) p e = refl

pub returns-then-piece-clause-yes : goal.returns-then-piece-clause-yes
returns-then-piece-clause-yes c = λ _.
    let now = c.args.self.now in
    let piece = c.args.piece.now in
    let new = part_of c.open.new.self in
    let some = eqb-false (length piece) 0 (sym c.if-not-is_empty.ensures) in
    let finds : unended (part_of now) ≡ Err Unended ∷ [] =
    ap (λ i. unended (part_at (inside_of now.fault now.plain.items now.is_escaping) i)) c.if-self.true
    ∙ unended_inside now.fault now.plain.items now.is_escaping in
    feeds_step (part_of now) piece _ new
    (takes_one (part_of now) piece _ new (omega (arith, some))
    (ap (λ (n : ℕ). found_beyond (part_of now) (n ∷ [])) c.if-piece.true ∙ start_found (part_of now) ∙ finds)
    (ap (λ (n : ℕ). open_beyond (part_of now) (n ∷ [])) c.if-piece.true ∙ start_opens (part_of now)
    ∙ sym c.open.ensures.part))
    (λ none. absurd (cc))
