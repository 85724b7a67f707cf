use Rattle.std.proofs.Common.{◌≡◌, ◌≤◌, ◌∙◌, ℕ, ap, sym, subst, arith, Bool, [], ◌∷◌, take}
use Rattle.std.specs.Prelude.{if◌then◌else◌}
use Rattle.uecp_frame.specs.Findings.{OpenPart, Closed}
use Rattle.uecp_frame.specs.Beyond.{found_beyond, open_beyond, prolonged, closing}
use Rattle.uecp_frame.specs.declared.fed.Found.TheVariants.{Nothing}
use Rattle.uecp_frame.specs.OpenSegment.{inside_of, part_of, Takes}
use Rattle.uecp_frame.proofs.Delimiters.{HasNone}
use Rattle.uecp_frame.proofs.Future.{open_beyond-none}
use Rattle.uecp_frame.proofs.Taking.{takes_one, takes_run, start_found, start_opens, end_comes, end_closes, none_found}
use Rattle.uecp_frame.proofs.Taking.{none_before, skipped_found, skipped_left}
use Rattle.uecp_frame.proofs.open_segment.OpenSegment.take.Goals as goal

abbrev part_at : OpenPart → Bool → OpenPart
part_at o i = if i then o else Closed

pub returns-then-byte-clause-takes : goal.returns-then-byte-clause-takes
returns-then-byte-clause-takes c =
    let now = c.args.self.now in
    takes_one (part_of now) c.args.rest.now _ _ c.requires.some
    (ap (λ (n : ℕ). found_beyond (part_of now) (n ∷ [])) c.if-byte.true ∙ start_found (part_of now)
    ∙ sym c.open.ensures.ended)
    (ap (λ (n : ℕ). open_beyond (part_of now) (n ∷ [])) c.if-byte.true ∙ start_opens (part_of now)
    ∙ sym c.open.ensures.part)

pub returns-then-not-self-clause-takes : goal.returns-then-not-self-clause-takes
returns-then-not-self-clause-takes c =
    let now = c.args.self.now in
    let rest = c.args.rest.now in
    let n = c.first_start.result in
    let skips = c.first_start.ensures in
    let closed : part_of now ≡ Closed = ap (part_at (inside_of now.fault now.plain.items now.is_escaping))
    c.if-not-self.true in
    subst (λ o. Takes o rest (record { used = n; found = Nothing }) o) (sym closed)
    (takes_run Closed rest n Closed (skips.some c.requires.some c.if-byte.false) skips.fits
    (skipped_found rest n skips.before skips.fits) (skipped_left rest n skips.before skips.fits))

pub returns-then-byte-2-clause-takes : goal.returns-then-byte-2-clause-takes
returns-then-byte-2-clause-takes c =
    let now = c.args.self.now in
    takes_one (part_of now) c.args.rest.now _ _ c.requires.some
    (ap (λ (n : ℕ). found_beyond (part_of now) (n ∷ [])) c.if-byte-2.true ∙ end_comes (part_of now)
    ∙ ap (λ i. closing (part_at (inside_of now.fault now.plain.items now.is_escaping) i) [] 255) c.if-not-self.false
    ∙ c.judged.ensures.findings)
    (ap (λ (n : ℕ). open_beyond (part_of now) (n ∷ [])) c.if-byte-2.true ∙ end_closes (part_of now))

pub returns-clause-takes : goal.returns-clause-takes
returns-clause-takes c =
    let now = c.args.self.now in
    let new = c.keep.new.self in
    let rest = c.args.rest.now in
    let n = c.keep.result in
    let keeps = c.keep.ensures in
    let none : (m : ℕ) → m ≤ n → HasNone (take m rest) = none_before rest n keeps.inside keeps.fits in
    takes_run (part_of now) rest n (part_of new) keeps.some keeps.fits
    (λ k le. none_found (part_of now) (take k rest) (none k le))
    (open_beyond-none (part_of now) (take n rest) (none n (omega arith))
    ∙ ap (λ i. prolonged (part_at (inside_of now.fault now.plain.items now.is_escaping) i) (take n rest))
    c.if-not-self.false
    ∙ keeps.part ∙ sym (ap (part_at (inside_of new.fault new.plain.items new.is_escaping))
    (keeps.open ∙ c.if-not-self.false)))
